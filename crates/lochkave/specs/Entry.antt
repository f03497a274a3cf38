-- What the entry points decide on a sheet's bytes, and with so much room for the output.
-- Renders document 01, "The Rust harness calls the decisions on byte slices", refusal 12, and demand 2,
-- "Sheets written from a read sheet have the same bytes".
use Rattle.std.specs.Prelude.{ℕ, List, cond, eqb, get_or}
use Rattle.keys.specs.Adjust.{KeySheet}
use Rattle.linekinds.specs.declared.lists.SheetKind.{SheetKind}
use Rattle.linekinds.specs.declared.lists.SheetKind.TheVariants.{Key, Join}
use Rattle.keys.specs.Inputs.{JoinSheet}
use Rattle.sheet.specs.KeySheets.{Reading, sheet, turned, read_key_sheet, read_join_sheet}
use Rattle.sheet.specs.KeyAnswers.{Outcome, refused, wrote, adjust_decision, inputs_decision}
use Rattle.plansheet.specs.PlanSheets.{PlanSheet, read_plan}
use Rattle.plansheet.specs.PlanTexts.{plan_text}
use Rattle.plananswer.specs.PlanDecision.{plan_decision}
use Rattle.lochkave.specs.Decision.{decision}
use Rattle.sheet.specs.KeyTexts.{key_sheet_text, join_sheet_text}
use Rattle.sheet.specs.Outcomes.{within}

-- a sheet that was read, written again
abbrev pub key_again : Reading KeySheet → Outcome
key_again (turned n l) = refused n l
key_again (sheet x) = wrote (key_sheet_text x)

abbrev pub join_again : Reading JoinSheet → Outcome
join_again (turned n l) = refused n l
join_again (sheet x) = wrote (join_sheet_text x)

abbrev pub plan_again : Reading PlanSheet → Outcome
plan_again (turned n l) = refused n l
plan_again (sheet x) = wrote (plan_text x)

-- by the first byte, as `decision`
unfoldable pub rewriting : List ℕ → Outcome
rewriting s =
    cond (eqb (get_or s 0 0) 75) (key_again (read_key_sheet s))
    (cond (eqb (get_or s 0 0) 73) (join_again (read_join_sheet s)) (plan_again (read_plan s)))

-- with the room of an output: `lochkave_decide`, and the functions for one kind of sheet
abbrev pub outcome : List ℕ → ℕ → Outcome
outcome s room = within room (decision s)

abbrev pub adjust_outcome : List ℕ → ℕ → Outcome
adjust_outcome s room = within room (adjust_decision s)

abbrev pub inputs_outcome : List ℕ → ℕ → Outcome
inputs_outcome s room = within room (inputs_decision s)

-- what is decided on a K or an I sheet
abbrev pub lists_decision : SheetKind → List ℕ → Outcome
lists_decision Key s = adjust_decision s
lists_decision Join s = inputs_decision s

abbrev pub distribution_outcome : List ℕ → ℕ → Outcome
distribution_outcome s room = within room (plan_decision s)

-- `lochkave_rewrite`
abbrev pub rewrite_outcome : List ℕ → ℕ → Outcome
rewrite_outcome s room = within room (rewriting s)
