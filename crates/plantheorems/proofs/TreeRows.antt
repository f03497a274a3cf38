-- What holds of every operator of a tree holds of each of its rows, and the other way; ids and lines by the rows; the worked node's children.
-- Assumes nothing.
use mathlib.Core.Path.{◌≡◌, refl, sym, ap, subst, ◌∙◌}
use Prim.Native.Nat.{ℕ, suc}
use native.Mathlib.Omega.{arith}
use mathlib.Core.List.{List, [], ◌∷◌, ◌++◌, map, map-append}
use mathlib.Core.Bool.{Bool, true, false, cond}
use lib.ListN.{length, get_or, length-append}
use Rattle.exchange.specs.Trees.{node, none, ◌∷ᶠ◌, trees, Operator, Plan, Plans}
use Rattle.exchange.specs.Rows.{unpacked, children_of, operator_of, row_of, flatten, flattens}
use Rattle.exchange.specs.Sizes.{lines, liness}
use Rattle.exchange.specs.Skeleton.{below}
use Rattle.exchange.specs.Operators.{track}
use Rattle.exchange.specs.Children.{is_removed, update_child, update_each, update_children, remove_dist_changing_operators, remove_above}
use Rattle.exchange.specs.Partitioning.{worked_of}
use Rattle.exchange.proofs.TreeRows.{flatten_node, flattens_none, flattens_cons, row_operator, row_children}
use Rattle.sheet.specs.Sizes.{Each}
use Rattle.plantheorems.specs.Everywhere.{Every, Everys, ids, idss}

-- ---- each of two lists

pub each_first : {A : Type 0} (P : A → Type 0) (xs ys : List A) → Each P (xs ++ ys) → Each P xs
each_first P [] ys h = tt
each_first P (x ∷ xs) ys h = (h.0, each_first P xs ys h.1)

pub each_last : {A : Type 0} (P : A → Type 0) (xs ys : List A) → Each P (xs ++ ys) → Each P ys
each_last P [] ys h = h
each_last P (x ∷ xs) ys h = each_last P xs ys h.1

-- ---- rows and operators

-- what is said of an operator and its number of children, said of its row
abbrev pub OfRow : (Operator → ℕ → Type 0) → List ℕ → Type 0
OfRow P r = P (operator_of (unpacked r)) (children_of r)

module _ (P : Operator → ℕ → Type 0) where
  of_row : (o : Operator) (n : ℕ) → OfRow P (row_of o n) → P o n
  of_row o n h = subst (P o) (row_children o n) (subst (λ (p : Operator). P p (children_of (row_of o n))) (row_operator o n) h)

  row_of_lem : (o : Operator) (n : ℕ) → P o n → OfRow P (row_of o n)
  row_of_lem o n h = subst (λ (p : Operator). P p (children_of (row_of o n))) (sym (row_operator o n)) (subst (P o) (sym (row_children o n)) h)

  mutual
    pub every_operator : (t : Plan) → Each (OfRow P) (flatten t) → Every P t
    every_operator (node o ts) h = let g : Each (OfRow P) (row_of o (trees ts) ∷ flattens ts) = subst (Each (OfRow P)) (flatten_node o ts) h in (of_row o (trees ts) g.0, every_operators ts g.1)

    every_operators : (ts : Plans) → Each (OfRow P) (flattens ts) → Everys P ts
    every_operators none h = tt
    every_operators (t ∷ᶠ ts) h =
        let g : Each (OfRow P) (flatten t ++ flattens ts) = subst (Each (OfRow P)) (flattens_cons t ts) h in
        (every_operator t (each_first (OfRow P) (flatten t) (flattens ts) g), every_operators ts (each_last (OfRow P) (flatten t) (flattens ts) g))

-- what holds of every operator, by what another holds of it
module _ (P Q : Operator → ℕ → Type 0) (f : (o : Operator) (n : ℕ) → P o n → Q o n) where
  mutual
    pub every_weaker : (t : Plan) → Every P t → Every Q t
    every_weaker (node o ts) h = (f o (trees ts) h.0, every_weakers ts h.1)

    every_weakers : (ts : Plans) → Everys P ts → Everys Q ts
    every_weakers none h = tt
    every_weakers (t ∷ᶠ ts) h = (every_weaker t h.0, every_weakers ts h.1)

-- a predicate that goes over trees and runs of trees, by what holds of every operator
module _ (P : Operator → ℕ → Type 0) (S : Plan → Type 0) (Ss : Plans → Type 0)
    (one : (o : Operator) (ts : Plans) → P o (trees ts) → Ss ts → S (node o ts)) (empty : Ss none) (more : (t : Plan) (ts : Plans) → S t → Ss ts → Ss (t ∷ᶠ ts)) where
  mutual
    pub every_gives : (t : Plan) → Every P t → S t
    every_gives (node o ts) h = one o ts h.0 (every_gives_all ts h.1)

    every_gives_all : (ts : Plans) → Everys P ts → Ss ts
    every_gives_all none h = empty
    every_gives_all (t ∷ᶠ ts) h = more t ts (every_gives t h.0) (every_gives_all ts h.1)

-- ---- lines and ids

mutual
  unfolding lines

  pub lines_rows : (t : Plan) → lines t ≡ length (flatten t)
  lines_rows (node o ts) = omega (arith, liness_rows ts, ap length (flatten_node o ts))

  pub liness_rows : (ts : Plans) → liness ts ≡ length (flattens ts)
  liness_rows none = ap length (sym flattens_none)
  liness_rows (t ∷ᶠ ts) = omega (arith, lines_rows t, liness_rows ts, ap length (flattens_cons t ts), length-append (flatten t) (flattens ts))

abbrev pub id_of : List ℕ → ℕ
id_of r = get_or r 0 0

pub id_row : (o : Operator) (n : ℕ) → id_of (row_of o n) ≡ o.id
unfolding row_of
id_row o n = refl

mutual
  unfolding ids

  pub ids_rows : (t : Plan) → ids t ≡ map id_of (flatten t)
  ids_rows (node o ts) = sym (ap (map id_of) (flatten_node o ts) ∙ (λ i. id_row o (trees ts) i ∷ sym (idss_rows ts) i))

  pub idss_rows : (ts : Plans) → idss ts ≡ map id_of (flattens ts)
  idss_rows none = sym (ap (map id_of) flattens_none)
  idss_rows (t ∷ᶠ ts) = sym (ap (map id_of) (flattens_cons t ts) ∙ map-append id_of (flatten t) (flattens ts) ∙ (λ i. sym (ids_rows t) i ++ sym (idss_rows ts) i))

-- ---- the worked node

worked_at_lem : (P : Operator → ℕ → Type 0) (b : Bool) (t u : Plan) → Every P t → Every P u → Every P (cond b u t)
worked_at_lem P true t u h k = k
worked_at_lem P false t u h k = h

module _ (P : Operator → ℕ → Type 0) where
  mutual
    unfolding remove_dist_changing_operators

    pub every_worked : (t : Plan) → Every P t → Every P (remove_dist_changing_operators t)
    every_worked (node o ts) h = worked_at_lem P (is_removed o) (node o ts) (remove_above (node o ts) ts) h (every_above (node o ts) ts h h.1)

    every_above : (t : Plan) (ts : Plans) → Every P t → Everys P ts → Every P (remove_above t ts)
    every_above t none h k = h
    every_above t (u ∷ᶠ us) h k = every_worked u k.0

-- the marks that `update_children` sets change no tree's shape
pub root_children : (P : ℕ → Type 0) (t : Plan) → Every (λ o n. P n) t → P (trees (below t))
root_children P (node o ts) h = h.0

pub update_trees : (ts : Plans) → trees (update_each ts) ≡ trees ts
unfolding update_each
update_trees none = refl
update_trees (t ∷ᶠ ts) = ap suc (update_trees ts)

module _ (P : Operator → ℕ → Type 0) (f : (m : ℕ) (o : Operator) (n : ℕ) → P o n → P (track m o) n) where
  every_update : (t : Plan) → Every P t → Every P (update_child t)
  every_update (node o ts) h = (f _ o (trees ts) h.0, h.1)

  every_updates : (ts : Plans) → Everys P ts → Everys P (update_each ts)
  unfolding update_each
  every_updates none h = tt
  every_updates (t ∷ᶠ ts) h = (every_update t h.0, every_updates ts h.1)

  pub every_updated : (t : Plan) → Every P t → Every P (update_children t)
  every_updated (node o ts) h = (subst (P (track 0 o)) (sym (update_trees ts)) (f 0 o (trees ts) h.0), every_updates ts h.1)

  -- so what holds of every operator, whatever its mark, holds of those that the step works on
  pub every_worked_on : (t : Plan) → Every P t → Every P (worked_of t)
  every_worked_on t h = every_worked P (update_children t) (every_updated t h)
