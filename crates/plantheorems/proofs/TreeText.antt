-- The lines of a legal tree are a legal run, and the tree of these lines is the tree.
-- Assumes nothing.
use mathlib.Core.Path.{◌≡◌, refl, sym, ap, subst, ◌∙◌}
use Prim.Native.Nat.{ℕ, suc, ◌+◌, ◌-◌, ◌≤◌}
use native.Mathlib.Omega.{arith}
use mathlib.Core.List.{List, [], ◌∷◌, ◌++◌, append-nil, append_assoc, map, map-append}
use mathlib.Core.Option.{Option}
use lib.ListN.{length}
use borrow.Author.Tests.{ne_eqb, eq-eqb}
use Rattle.text.specs.declared.field.Field.{Field}
use Rattle.exchange.specs.Trees.{node, none, ◌∷ᶠ◌, trees, Operator, Plan, Plans}
use Rattle.exchange.specs.Rows.{row_of, flatten, flattens, grow}
use Rattle.exchange.specs.Sizes.{lines, liness}
use Rattle.exchange.proofs.TreeRows.{flatten_node, flattens_none, flattens_cons}
use Rattle.exchange.proofs.Grown.{grow_flatten}
use Rattle.sheet.specs.Sizes.{Each}
use Rattle.sheet.proofs.Entries.{each_append}
use Rattle.plansheet.specs.PlanLines.{most_lines, plan_line}
use Rattle.plansheet.specs.PlanSheets.{operator_row, operator_rows, first_plan, plan_of}
use Rattle.plansheet.specs.PlanTexts.{row_fields, tree_rows}
use Rattle.plantheorems.specs.Everywhere.{Every, Everys, ids, places_from}
use Rattle.plantheorems.specs.LegalPlans.{LegalOperator}
use Rattle.plantheorems.proofs.Runs.{Legal, stop, more}
use Rattle.plantheorems.proofs.TreeRows.{lines_rows, id_of, id_row, ids_rows}
use Rattle.plantheorems.proofs.TreeLines.{operator_fine, row_back}

-- ---- each row by its operator

module _ (P : Operator → ℕ → Type 0) (Q : List ℕ → Type 0) (f : (o : Operator) (n : ℕ) → P o n → Q (row_of o n)) where
  mutual
    pub each_row : (t : Plan) → Every P t → Each Q (flatten t)
    each_row (node o ts) h = subst (Each Q) (sym (flatten_node o ts)) (f o (trees ts) h.0, each_rows ts h.1)

    each_rows : (ts : Plans) → Everys P ts → Each Q (flattens ts)
    each_rows none h = subst (Each Q) (sym flattens_none) tt
    each_rows (t ∷ᶠ ts) h = subst (Each Q) (sym (flattens_cons t ts)) (each_append Q (flatten t) (flattens ts) (each_row t h.0) (each_rows ts h.1))

-- ---- the tree of a tree's lines

-- a row is that of its own line, where it stands at its own place
abbrev Own : List ℕ → Type 0
Own r = operator_row (id_of r) (row_fields r) ≡ r

own_row : (o : Operator) (n : ℕ) → LegalOperator o n → Own (row_of o n)
own_row o n l = ap (λ (i : ℕ). operator_row i (row_fields (row_of o n))) (id_row o n) ∙ row_back o n l.mask

rows_back : (n : ℕ) (rs : List (List ℕ)) → Each Own rs → map id_of rs ≡ places_from n (length rs) → operator_rows n (map row_fields rs) ≡ rs
unfolding operator_rows places_from
rows_back n [] h e = refl
rows_back n (r ∷ rs) h e =
    let a : id_of r ≡ n = cc in
    let b : map id_of rs ≡ places_from (suc n) (length rs) = cc in
    let c : operator_row n (row_fields r) ≡ r = ap (λ (i : ℕ). operator_row i (row_fields r)) (sym a) ∙ h.0 in
    λ j. c j ∷ rows_back (suc n) rs h.1 b j

first_grown : (t : Plan) → first_plan (grow (flatten t)) ≡ t
unfolding grow
first_grown t = ap (λ (rs : List (List ℕ)). first_plan (grow rs)) (sym (append-nil (flatten t))) ∙ ap first_plan (grow_flatten t [])

pub plan_back : (t : Plan) → Every LegalOperator t → ids t ≡ places_from 1 (lines t) → plan_of (tree_rows t) ≡ t
unfolding plan_of
plan_back t h e =
    let i : map id_of (flatten t) ≡ places_from 1 (length (flatten t)) = sym (ids_rows t) ∙ e ∙ ap (places_from 1) (lines_rows t) in
    ap (λ (rs : List (List ℕ)). first_plan (grow rs)) (rows_back 1 (flatten t) (each_row LegalOperator Own own_row t h) i) ∙ first_grown t

-- ---- a legal run

children_at_lem : (o : Operator) (n owed : ℕ) → plan_line.owes owed (row_fields (row_of o n)) ≡ owed - 1 + n
unfolding row_of
children_at_lem o n owed = refl

module _ (x : Option (List Field)) where
  mutual
    unfolding lines

    pub tree_legal :
        (t : Plan) (owed seen : ℕ) (rs : List (List Field)) → Every LegalOperator t → seen + lines t ≤ most_lines →
        Legal plan_line x owed (seen + lines t) rs → Legal plan_line x (suc owed) seen (map row_fields (flatten t) ++ rs)
    tree_legal (node o ts) owed seen rs h b l =
        let fs : List Field = row_fields (row_of o (trees ts)) in
        let n : seen + suc (liness ts) ≡ suc seen + liness ts = omega arith in
        let m : owed + trees ts ≡ plan_line.owes (suc owed) fs = omega (arith, children_at_lem o (trees ts) (suc owed)) in
        let r : Legal plan_line x (owed + trees ts) (suc seen) (map row_fields (flattens ts) ++ rs) =
        trees_legal ts owed (suc seen) rs h.1 (omega arith) (subst (λ (k : ℕ). Legal plan_line x owed k rs) n l) in
        let r₂ : Legal plan_line x (plan_line.owes (suc owed) fs) (suc seen) (map row_fields (flattens ts) ++ rs) = subst (λ (k : ℕ). Legal plan_line x k (suc seen) (map row_fields (flattens ts) ++ rs)) m r in
        subst (λ (qs : List (List ℕ)). Legal plan_line x (suc owed) seen (map row_fields qs ++ rs)) (sym (flatten_node o ts))
        (more (ne_eqb (suc owed) 0 (λ z. omega arith)) (operator_fine seen o (trees ts) h.0 (omega arith)) r₂)

    trees_legal :
        (ts : Plans) (owed seen : ℕ) (rs : List (List Field)) → Everys LegalOperator ts → seen + liness ts ≤ most_lines →
        Legal plan_line x owed (seen + liness ts) rs → Legal plan_line x (owed + trees ts) seen (map row_fields (flattens ts) ++ rs)
    trees_legal none owed seen rs h b l =
        let a : owed ≡ owed + 0 = omega arith in
        let c : seen + 0 ≡ seen = omega arith in
        subst (λ (qs : List (List ℕ)). Legal plan_line x (owed + 0) seen (map row_fields qs ++ rs)) (sym flattens_none)
        (subst (λ (k : ℕ). Legal plan_line x k seen rs) a (subst (λ (k : ℕ). Legal plan_line x owed k rs) c l))
    trees_legal (t ∷ᶠ ts) owed seen rs h b l =
        let a : suc (owed + trees ts) ≡ owed + suc (trees ts) = omega arith in
        let c : seen + (lines t + liness ts) ≡ (seen + lines t) + liness ts = omega arith in
        let e : map row_fields (flatten t) ++ (map row_fields (flattens ts) ++ rs) ≡ map row_fields (flattens (t ∷ᶠ ts)) ++ rs =
        sym (append_assoc (map row_fields (flatten t)) (map row_fields (flattens ts)) rs)
        ∙ ap (λ (qs : List (List Field)). qs ++ rs) (sym (ap (map row_fields) (flattens_cons t ts) ∙ map-append row_fields (flatten t) (flattens ts))) in
        let r : Legal plan_line x (owed + trees ts) (seen + lines t) (map row_fields (flattens ts) ++ rs) =
        trees_legal ts owed (seen + lines t) rs h.1 (omega arith) (subst (λ (k : ℕ). Legal plan_line x owed k rs) c l) in
        subst (λ (qs : List (List Field)). Legal plan_line x (owed + suc (trees ts)) seen qs) e
        (subst (λ (k : ℕ). Legal plan_line x k seen (map row_fields (flatten t) ++ (map row_fields (flattens ts) ++ rs))) a
        (tree_legal t (owed + trees ts) seen (map row_fields (flattens ts) ++ rs) h.0 (omega arith) r))

  -- the lines of one tree
  pub whole_legal : (t : Plan) → Every LegalOperator t → lines t ≤ most_lines → Legal plan_line x 1 0 (tree_rows t)
  whole_legal t h b =
      let n : 0 + lines t ≤ most_lines = omega arith in
      subst (λ (qs : List (List Field)). Legal plan_line x 1 0 qs) (append-nil (tree_rows t)) (tree_legal t 0 0 [] h n (stop (eq-eqb 0 0 refl)))
