-- The number of each line of a D sheet, by the conditions of the table.
-- Assumes nothing.
use mathlib.Core.Path.{◌≡◌, sym, ◌∙◌}
use mathlib.Core.Logic.{◌↔◌}
use Prim.Native.Nat.{ℕ, ◌<◌}
use mathlib.Core.List.{List}
use mathlib.Core.Bool.{cond}
use mathlib.Core.Option.{Option}
use lib.ListN.{length, get_or, drop}
use Rattle.text.specs.declared.field.Field.{Field}
use Rattle.text.specs.Text.{parts}
use Rattle.text.specs.Lines.{first_of}
use Rattle.linekinds.specs.Lines.{Kind, at_end}
use Rattle.sheet.specs.Refusals.{conditions, Lowest, NoCondition, place_after}
use Rattle.sheet.proofs.Lowest.{number_exactly, no_number_exactly}
use Rattle.sheet.proofs.Decided.{number_at, number_after}
use Rattle.plansheet.specs.PlanLines.{settings_line}
use Rattle.plantheorems.specs.PlanRefusals.{plan_kinds, plan_numbers}

module _ (s : List ℕ) (i : ℕ) (h : i < length (plan_kinds s)) where
  -- the kind of line i, the first being 0, and its fields
  abbrev pub kind_at : Kind
  kind_at = get_or (plan_kinds s) i settings_line

  abbrev pub fields_at : Option (List Field)
  fields_at = first_of kind_at.letter (drop i (parts 10 s))

  -- the lowest number whose condition holds of the line
  pub plan_number_exactly : (n : ℕ) → (n ≡ 0 → ⊥) → (get_or (plan_numbers s) i 0 ≡ n) ↔ Lowest 1 (conditions kind_at (place_after 0 (parts 10 s) i) fields_at) n
  unfolding plan_numbers
  plan_number_exactly n ne =
      let e = number_at (plan_kinds s) 0 (parts 10 s) i settings_line h in
      let p = number_exactly kind_at (place_after 0 (parts 10 s) i) fields_at n ne in
      (λ q. p.0 (sym e ∙ q), λ l. e ∙ p.1 l)

  -- none where no condition holds
  pub plan_no_number : (get_or (plan_numbers s) i 0 ≡ 0) ↔ NoCondition (conditions kind_at (place_after 0 (parts 10 s) i) fields_at)
  unfolding plan_numbers
  plan_no_number =
      let e = number_at (plan_kinds s) 0 (parts 10 s) i settings_line h in
      let p = no_number_exactly kind_at (place_after 0 (parts 10 s) i) fields_at in
      (λ q. p.0 (sym e ∙ q), λ c. e ∙ p.1 c)

-- after the last line an extra one is turned back by number 1
pub plan_number_after : (s : List ℕ) → get_or (plan_numbers s) (length (plan_kinds s)) 0 ≡ cond (at_end (drop (length (plan_kinds s)) (parts 10 s))) 0 1
unfolding plan_numbers
plan_number_after s = number_after (plan_kinds s) 0 (parts 10 s)
