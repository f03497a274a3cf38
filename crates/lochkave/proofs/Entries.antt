-- What an entry point returns and leaves, by what was read of the sheet.
-- Assumes nothing.
use Prim.Native.Nat.{ℕ, ◌≤◌}
use mathlib.Core.Path.{◌≡◌, refl, sym, ap, subst}
use mathlib.Core.List.{List, []}
use native.Mathlib.Omega.{arith}
use lib.ListN.{length, get_or, length-take}
use lib.Seq.{get_or-take}
use Rattle.keys.specs.Adjust.{KeySheet, adjust_input_keys_ordering}
use Rattle.keys.specs.Inputs.{JoinSheet, reorder_join_keys_to_inputs}
use Rattle.keys.specs.Expressions.{same_expr}
use Rattle.sheet.specs.KeySheets.{Reading, sheet, turned, read_key_sheet, read_join_sheet}
use Rattle.sheet.specs.KeyAnswers.{Outcome, refused, wrote, join_answer_text, adjusted, adjust_decision, inputs_decision}
use Rattle.sheet.specs.Outcomes.{within, FitsIn, Writes}
use Rattle.sheet.specs.Held.{held_at, child_count, held_key_sheet, held_join_sheet, KeyHeld, JoinHeld}
use Rattle.sheet.proofs.AnswersFit.{Fits, adjust_fits, inputs_fits}
use Rattle.sheet.proofs.KeyAccepted.{key_written_again, join_written_again}
use Rattle.lochkave.specs.Entry.{key_again, join_again, lists_decision}
use Rattle.linekinds.specs.declared.lists.SheetKind.{SheetKind}
use Rattle.linekinds.specs.declared.lists.SheetKind.TheVariants.{Key, Join}
use Rattle.sheet.specs.ListFits.{sheet_by, SheetRead}
use Rattle.sheet.specs.SheetLines.{refused_on}
use Rattle.refusals.specs.declared.Refused.{Refused}
use Rattle.std.specs.Prelude.{Result, Ok, Err}

-- ---- what reading answered

module _ {A : Type 0} where
  -- the refusal that was answered, by its number and line
  pub record WasTurned (r : Reading A) (f : Refused) : Type 0 where
    pub number : ℕ
    pub line : ℕ
    pub is : r ≡ turned number line
    pub same : f ≡ refused_on number line

  pub was_turned : (r : Reading A) (q : Result (Unit {0}) Refused) (f : Refused) → q ≡ sheet_by r → q ≡ Err f → WasTurned r f
  was_turned (sheet x) q f e g = let z : ◌≡◌ {A = ℕ} 0 1 = cc in absurd (omega arith)
  was_turned (turned n l) q f e g = record { number = n; line = l; is = refl; same = cc }

  pub record Was (r : Reading A) : Type 0 where
    pub x : A
    pub is : r ≡ sheet x

  pub was_read : (r : Reading A) (q : Result (Unit {0}) Refused) (u : Unit {0}) → q ≡ sheet_by r → q ≡ Ok u → Was r
  was_read (sheet y) q u e f = record { x = y; is = refl }
  was_read (turned n l) q u e f = let z : ◌≡◌ {A = ℕ} 0 1 = cc in absurd (omega arith)

-- ---- an outcome, and what it gives

pub leaves_refused : (o : Outcome) (out : List ℕ) (n l : ℕ) (f : Refused) → o ≡ refused n l → f ≡ refused_on n l → Writes (within (length out) o) (Err f) out out
leaves_refused o out n l f e g = rw e (ap Err g, refl)

-- ---- K and I sheets

module _ (s : List ℕ) where
  pub adjust_turned : (n l : ℕ) → read_key_sheet s ≡ turned n l → adjust_decision s ≡ refused n l
  unfolding adjust_decision
  adjust_turned n l e = rw e

  pub inputs_turned : (n l : ℕ) → read_join_sheet s ≡ turned n l → inputs_decision s ≡ refused n l
  unfolding inputs_decision
  inputs_turned n l e = rw e

  pub adjust_held : (x y : KeySheet) → read_key_sheet s ≡ sheet x → y ≡ x → adjust_decision s ≡ adjusted (adjust_input_keys_ordering same_expr y)
  unfolding adjust_decision
  adjust_held x y e f = rw (e, f)

  pub inputs_held : (x y : JoinSheet) → read_join_sheet s ≡ sheet x → y ≡ x → inputs_decision s ≡ wrote (join_answer_text (reorder_join_keys_to_inputs y same_expr))
  unfolding inputs_decision
  inputs_held x y e f = rw (e, f)

  -- written again, a sheet has its own bytes
  pub key_same : (x : KeySheet) → read_key_sheet s ≡ sheet x → key_again (read_key_sheet s) ≡ wrote s
  key_same x e = rw e (ap wrote (key_written_again s x e))

  pub join_same : (x : JoinSheet) → read_join_sheet s ≡ sheet x → join_again (read_join_sheet s) ≡ wrote s
  join_same x e = rw e (ap wrote (join_written_again s x e))

-- where there is room for every answer there is for one
has_room : (o : Outcome) (room : ℕ) → Fits o → 65536 ≤ room → FitsIn room o
has_room (refused n l) room h k = tt
has_room (wrote bs) room h k = omega (arith, h)

-- a sheet of either kind that was turned back
pub lists_turned :
    (k : SheetKind) (s : List ℕ) (q : Result (Unit {0}) Refused) (lists : List (List ℕ)) (counts out : List ℕ) (f : Refused) →
    SheetRead k s q lists counts → q ≡ Err f → Writes (within (length out) (lists_decision k s)) (Err f) out out
lists_turned Key s q lists counts out f h e = let t = was_turned (read_key_sheet s) q f h.answer e in leaves_refused (adjust_decision s) out _ _ f (adjust_turned s _ _ t.is) t.same
lists_turned Join s q lists counts out f h e = let t = was_turned (read_join_sheet s) q f h.answer e in leaves_refused (inputs_decision s) out _ _ f (inputs_turned s _ _ t.is) t.same

-- what is decided on one that was read, by its lists
abbrev pub held_decision : SheetKind → List (List ℕ) → List ℕ → Outcome
held_decision Key lists counts = adjusted (adjust_input_keys_ordering same_expr (held_key_sheet lists counts))
held_decision Join lists counts = wrote (join_answer_text (reorder_join_keys_to_inputs (held_join_sheet lists counts) same_expr))

abbrev pub ListsHeld : SheetKind → List (List ℕ) → List ℕ → Type 0
ListsHeld Key lists counts = KeyHeld lists counts
ListsHeld Join lists counts = JoinHeld lists counts

pub record ListsRead (k : SheetKind) (s : List ℕ) (lists : List (List ℕ)) (counts : List ℕ) : Type 0 where
  pub held : ListsHeld k lists counts
  pub decided : lists_decision k s ≡ held_decision k lists counts
  pub fits : (room : ℕ) → 65536 ≤ room → FitsIn room (held_decision k lists counts)

pub lists_read :
    (k : SheetKind) (s : List ℕ) (q : Result (Unit {0}) Refused) (lists : List (List ℕ)) (counts : List ℕ) (u : Unit {0}) →
    SheetRead k s q lists counts → q ≡ Ok u → ListsRead k s lists counts
lists_read Key s q lists counts u h e =
    let w = was_read (read_key_sheet s) q u h.answer e in
    let p = h.held w.x w.is in
    let d = adjust_held s w.x _ w.is p.1 in
    record { held = p.0; decided = d; fits = λ room l. subst (FitsIn room) d (has_room (adjust_decision s) room (adjust_fits s) l) }
lists_read Join s q lists counts u h e =
    let w = was_read (read_join_sheet s) q u h.answer e in
    let p = h.held w.x w.is in
    let d = inputs_held s w.x _ w.is p.1 in
    record { held = p.0; decided = d; fits = λ room l. subst (FitsIn room) d (has_room (inputs_decision s) room (inputs_fits s) l) }

-- a K line's seventh number, where it stands
pub seventh : (lists : List (List ℕ)) (counts : List ℕ) → length (held_at lists counts 0) ≡ 7 → get_or (get_or lists 0 []) 6 0 ≡ child_count lists counts
unfolding held_at
seventh lists counts h = sym (get_or-take (get_or counts 0 0) (get_or lists 0 []) 6 0 (omega (arith, rw length-take at h)))
