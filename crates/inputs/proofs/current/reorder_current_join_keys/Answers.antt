-- `left_followed`, `right_asked` and `right_unasked` join what the two tries answer.
use Rattle.keys.proofs.InputTurns.{left_followed, right_asked, right_unasked}
use Prim.Native.Nat.{ℕ}
use mathlib.Core.List.{List}
use Rattle.keys.specs.Inputs.{JoinSheet}
use Rattle.keys.specs.InputValues.{join_sheet}
use Rattle.inputs.specs.declared.sheet.Inputs.{Inputs}
use Rattle.inputs.proofs.current.reorder_current_join_keys.Goals as goal

-- the sheet whatever the operator
abbrev sheet_with : Inputs → ℕ → ℕ → List ℕ → JoinSheet
sheet_with x op mode s = join_sheet op mode x.left.now x.right.now s x.left_input.list.now x.right_input.list.now x.left_rewriting.now x.right_rewriting.now

pub returns-in-Followed : goal.returns-in-Followed
returns-in-Followed c = let d = c.try_side-left in
    λ op mode s. let x = sheet_with c.args.sheet op mode s in left_followed x d.result (d.ensures x) c.in-Followed.field-0 c.in-Followed.field-1 c.in-Followed.is

pub returns-in-Untried : goal.returns-in-Untried
returns-in-Untried c = let d = c.try_side-left in let e = c.try_side in
    λ op mode s. let x = sheet_with c.args.sheet op mode s in right_unasked x d.result (d.ensures x) e.result (e.ensures x) c.in_default.not-Followed c.in-Untried.is

pub returns-in_default-try_side : goal.returns-in_default-try_side
returns-in_default-try_side c = let d = c.try_side-left in let e = c.try_side in
    λ op mode s. let x = sheet_with c.args.sheet op mode s in right_asked x d.result (d.ensures x) e.result (e.ensures x) c.in_default.not-Followed c.in_default-try_side.not-Untried
