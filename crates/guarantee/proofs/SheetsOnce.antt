-- Bytes are read as a sheet of one kind only, by their first byte; so a guarantee speaks of the one sheet that was read and of the one answer written.
--     keys_speak      of a K sheet x and the text of r: KeysKept x r
--     inputs_speak    of an I sheet x and the text of r: InputsKept x r
--     plan_speaks     of a D sheet x: PlanKept x r, of an answer r whose text it is
use Prim.Native.Nat.{ℕ}
use mathlib.Core.Path.{◌≡◌, sym, ap, ◌∙◌, subst, subst₂}
use mathlib.Core.List.{List}
use native.Mathlib.Omega.{arith}
use lib.ListN.{get_or}
use Rattle.text.specs.Write.{line_text}
use Rattle.keys.specs.Adjust.{KeySheet, KeyAnswer}
use Rattle.keys.specs.Inputs.{JoinSheet, JoinAnswer}
use Rattle.sheet.specs.KeySheets.{Reading, sheet, read_key_sheet, read_join_sheet}
use Rattle.sheet.specs.KeyTexts.{key_sheet_text, join_sheet_text}
use Rattle.sheet.specs.KeyAnswers.{key_answer_text, join_answer_text}
use Rattle.sheet.proofs.KeyAccepted.{key_written_again, join_written_again}
use Rattle.exchange.specs.Ensure.{Answer}
use Rattle.plansheet.specs.PlanSheets.{PlanSheet, read_plan}
use Rattle.plansheet.specs.PlanTexts.{plan_text}
use Rattle.plantheorems.proofs.PlanRoundTrip.{plan_written_again}
use Rattle.plananswer.specs.PlanTexts.{plan_answer_text}
use Rattle.guarantee.specs.Guarantee.{KeysKept, InputsKept, PlanKept, NoNeeds, Guaranteed, keys, inputs, plan}
use Rattle.guarantee.proofs.AnswersOnce.{key_answer_once, join_answer_once}

-- ---- first bytes

pub key_first : (s : List ℕ) (x : KeySheet) → read_key_sheet s ≡ sheet x → get_or s 0 0 ≡ 75
unfolding key_sheet_text line_text
key_first s x e = ap (λ (t : List ℕ). get_or t 0 0) (sym (key_written_again s x e))

pub join_first : (s : List ℕ) (x : JoinSheet) → read_join_sheet s ≡ sheet x → get_or s 0 0 ≡ 73
unfolding join_sheet_text line_text
join_first s x e = ap (λ (t : List ℕ). get_or t 0 0) (sym (join_written_again s x e))

pub plan_first : (s : List ℕ) (x : PlanSheet) → read_plan s ≡ sheet x → get_or s 0 0 ≡ 68
unfolding plan_text line_text
plan_first s x e = ap (λ (t : List ℕ). get_or t 0 0) (sym (plan_written_again s x e))

-- ---- one kind

pub not_key_and_join : (s : List ℕ) (x : KeySheet) (y : JoinSheet) → read_key_sheet s ≡ sheet x → read_join_sheet s ≡ sheet y → ⊥
not_key_and_join s x y e f = omega (arith, key_first s x e, join_first s y f)

pub not_key_and_plan : (s : List ℕ) (x : KeySheet) (y : PlanSheet) → read_key_sheet s ≡ sheet x → read_plan s ≡ sheet y → ⊥
not_key_and_plan s x y e f = omega (arith, key_first s x e, plan_first s y f)

pub not_join_and_plan : (s : List ℕ) (x : JoinSheet) (y : PlanSheet) → read_join_sheet s ≡ sheet x → read_plan s ≡ sheet y → ⊥
not_join_and_plan s x y e f = omega (arith, join_first s x e, plan_first s y f)

-- ---- what a guarantee says

pub same_sheet : {A : Type 0} {o : Reading A} {x y : A} → o ≡ sheet x → o ≡ sheet y → x ≡ y
same_sheet p q = cc

pub keys_speak : (s a : List ℕ) (x : KeySheet) (r : KeyAnswer) → read_key_sheet s ≡ sheet x → a ≡ key_answer_text r → Guaranteed s a → KeysKept x r
keys_speak s a x r e t (keys y q f u k) = subst₂ KeysKept (same_sheet f e) (key_answer_once q r (sym u ∙ t)) k
keys_speak s a x r e t (inputs y q f u k) = absurd (not_key_and_join s x y e f)
keys_speak s a x r e t (plan y q f u n k) = absurd (not_key_and_plan s x y e f)

pub inputs_speak : (s a : List ℕ) (x : JoinSheet) (r : JoinAnswer) → read_join_sheet s ≡ sheet x → a ≡ join_answer_text r → Guaranteed s a → InputsKept x r
inputs_speak s a x r e t (keys y q f u k) = absurd (not_key_and_join s y x f e)
inputs_speak s a x r e t (inputs y q f u k) = subst₂ InputsKept (same_sheet f e) (join_answer_once q r (sym u ∙ t)) k
inputs_speak s a x r e t (plan y q f u n k) = absurd (not_join_and_plan s x y e f)

pub plan_speaks :
    (s a : List ℕ) (x : PlanSheet) → read_plan s ≡ sheet x → Guaranteed s a → (r : Answer) × (a ≡ plan_answer_text r) × NoNeeds r × PlanKept x r
plan_speaks s a x e (keys y q f u k) = absurd (not_key_and_plan s y x f e)
plan_speaks s a x e (inputs y q f u k) = absurd (not_join_and_plan s y x f e)
plan_speaks s a x e (plan y q f u n k) = (q, u, n, subst (λ (z : PlanSheet). PlanKept z q) (same_sheet f e) k)
