-- Tree lines that were read are those of exactly one tree, whose operators are legal: at most 256, each with at most eight children.
-- Assumes nothing.
use mathlib.Core.Path.{◌≡◌, refl, sym, ap, ◌∙◌}
use Prim.Native.Nat.{ℕ, suc, ◌≤◌}
use native.Mathlib.Omega.{arith}
use mathlib.Core.List.{List, [], ◌∷◌, ◌++◌, map}
use mathlib.Core.Bool.{Bool, true, false, cond}
use mathlib.Core.Option.{Option}
use lib.ListN.{length}
use Rattle.text.specs.declared.field.Field.{Field}
use Rattle.text.specs.Text.{parts}
use Rattle.text.specs.Lines.{first_of}
use Rattle.exchange.specs.Trees.{node, none, ◌∷ᶠ◌, trees, Operator, Plan, Plans}
use Rattle.exchange.specs.Rows.{flatten}
use Rattle.exchange.specs.Sizes.{lines}
use Rattle.exchange.specs.Skeleton.{below}
use Rattle.exchange.specs.Operators.{track}
use Rattle.exchange.specs.Children.{is_removed, update_each, remove_dist_changing_operators, remove_above}
use Rattle.exchange.specs.Partitioning.{worked_of}
use Rattle.exchange.proofs.Grown.{one_tree as same-tree}
use Rattle.linekinds.specs.Lines.{read, rows_of}
use Rattle.sheet.specs.Sizes.{Each}
use Rattle.plansheet.specs.PlanLines.{tree_shape, child_rules, most_lines, plan_line}
use Rattle.plansheet.specs.PlanSheets.{operator_rows, plan_of, child_count}
use Rattle.plansheet.specs.PlanTexts.{row_fields, tree_rows}
use Rattle.plansheet.proofs.OneTree.{one_tree, few_lines}
use Rattle.plantheorems.specs.Everywhere.{Every, ids, places_from}
use Rattle.plantheorems.specs.LegalPlans.{LegalOperator}
use Rattle.plantheorems.proofs.Runs.{Legal, stop, more, run_written}
use Rattle.plantheorems.proofs.PlanKinds.{tree_plain}
use Rattle.plantheorems.proofs.TreeRows.{OfRow, every_operator, every_weaker, lines_rows, id_of, ids_rows, update_trees, every_worked_on, root_children}
use Rattle.plantheorems.proofs.TreeLines.{suits_few, line_legal, line_again}

-- ---- rows of legal lines

module _ (x : Option (List Field)) where
  pub rows_legal : (owed seen : ℕ) (rs : List (List Field)) → Legal plan_line x owed seen rs → (id : ℕ) → Each (OfRow LegalOperator) (operator_rows id rs)
  unfolding operator_rows
  rows_legal owed seen rs (stop h) id = tt
  rows_legal owed seen (fs ∷ rs) (more st fine legal) id = (line_legal seen fs fine id, rows_legal _ (suc seen) rs legal (suc id))

  -- they are written as they stood
  pub rows_again : (owed seen : ℕ) (rs : List (List Field)) → Legal plan_line x owed seen rs → (id : ℕ) → map row_fields (operator_rows id rs) ≡ rs
  unfolding operator_rows
  rows_again owed seen rs (stop h) id = refl
  rows_again owed seen (fs ∷ rs) (more st fine legal) id = λ j. line_again seen fs fine id j ∷ rows_again _ (suc seen) rs legal (suc id) j

rows_count : (id : ℕ) (rs : List (List Field)) → length (operator_rows id rs) ≡ length rs
unfolding operator_rows
rows_count id [] = refl
rows_count id (fs ∷ rs) = ap suc (rows_count (suc id) rs)

rows_ids : (id : ℕ) (rs : List (List Field)) → map id_of (operator_rows id rs) ≡ places_from id (length rs)
unfolding operator_rows places_from
rows_ids id [] = refl
rows_ids id (fs ∷ rs) = ap (λ (ns : List ℕ). id ∷ ns) (rows_ids (suc id) rs)

-- ---- the marks change no shape, so the F lines are as many as the children that the step works on

removed_at : (b : Bool) (t u v w : Plan) → trees (below t) ≡ trees (below v) → trees (below u) ≡ trees (below w) → trees (below (cond b t u)) ≡ trees (below (cond b v w))
removed_at true t u v w e f = e
removed_at false t u v w e f = f

above_same : (o p : Operator) (ts : Plans) → trees (below (remove_above (node o ts) ts)) ≡ trees (below (remove_above (node p ts) ts))
unfolding remove_dist_changing_operators
above_same o p none = refl
above_same o p (t ∷ᶠ ts) = refl

child_same : (m : ℕ) (o : Operator) (ts : Plans) → trees (below (remove_dist_changing_operators (node (track m o) ts))) ≡ trees (below (remove_dist_changing_operators (node o ts)))
unfolding remove_dist_changing_operators
child_same m o ts = removed_at (is_removed o) (remove_above (node (track m o) ts) ts) (node (track m o) ts) (remove_above (node o ts) ts) (node o ts) (above_same (track m o) o ts) refl

above_updated : (o : Operator) (ts : Plans) → trees (below (remove_above (node (track 0 o) (update_each ts)) (update_each ts))) ≡ trees (below (remove_above (node o ts) ts))
unfolding remove_dist_changing_operators update_each
above_updated o none = refl
above_updated o (node p us ∷ᶠ ts) = child_same _ p us

pub worked_same : (t : Plan) → trees (below (worked_of t)) ≡ child_count t
unfolding remove_dist_changing_operators child_count
worked_same (node o ts) =
    removed_at (is_removed o) (remove_above (node (track 0 o) (update_each ts)) (update_each ts)) (node (track 0 o) (update_each ts)) (remove_above (node o ts) ts) (node o ts)
    (above_updated o ts) (update_trees ts)

-- ---- the tree

pub record OneTree (rs : List (List Field)) : Type 0 where
  pub rows : operator_rows 1 rs ≡ flatten (plan_of rs)
  pub only : (t : Plan) → operator_rows 1 rs ≡ flatten t → t ≡ plan_of rs
  pub long : lines (plan_of rs) ≡ length rs
  pub few : length rs ≤ 256
  pub operators : Every LegalOperator (plan_of rs)
  pub numbered : ids (plan_of rs) ≡ places_from 1 (length rs)
  pub children : Every (λ o n. n ≤ 8) (plan_of rs)
  pub worked : trees (below (worked_of (plan_of rs))) ≤ 8
  pub asked : child_count (plan_of rs) ≤ 8
  pub again : tree_rows (plan_of rs) ≡ rs

pub tree_law :
    (line at : ℕ) (s : List ℕ) (rs : List (List Field)) (ms : List (List ℕ)) (l p : ℕ) →
    rows_of plan_line 1 0 line at (parts 10 s) ≡ read rs ms l p → OneTree rs
tree_law line at s rs ms l p e =
    let t : Plan = plan_of rs in
    let x : Option (List Field) = first_of 84 ms in
    let legal : Legal plan_line x 1 0 rs = (run_written plan_line tree_plain 1 0 line at s rs ms l p e).legal in
    let flat : flatten t ≡ operator_rows 1 rs = one_tree tree_shape child_rules most_lines line at (parts 10 s) rs ms l p e in
    let all : Every LegalOperator t = every_operator LegalOperator t (rw flat (rows_legal x 1 0 rs legal 1)) in
    let eight : Every (λ o n. n ≤ 8) t = every_weaker LegalOperator (λ o n. n ≤ 8) (λ o n h. suits_few o.kind n h.children) t all in
    let worked : trees (below (worked_of t)) ≤ 8 = root_children (λ n. n ≤ 8) (worked_of t) (every_worked_on (λ o n. n ≤ 8) (λ m o n h. h) t eight) in
    record {
      rows = sym flat;
      only = λ u h. same-tree u t [] [] (ap (λ (ys : List (List ℕ)). ys ++ []) (sym h ∙ sym flat));
      long = lines_rows t ∙ ap length flat ∙ rows_count 1 rs;
      few = omega (arith, few_lines tree_shape child_rules most_lines 1 0 line at (parts 10 s) rs ms l p e (omega arith));
      operators = all;
      numbered = ids_rows t ∙ ap (map id_of) flat ∙ rows_ids 1 rs;
      children = eight;
      worked = worked;
      asked = omega (arith, worked_same t);
      again = ap (map row_fields) flat ∙ rows_again x 1 0 rs legal 1;
    }
