-- The worked node is found by going down while operators are taken off (`Reached`).
-- Assumes nothing.
use mathlib.Core.Path.{◌≡◌, refl, sym, ap, ◌∙◌}
use mathlib.Core.Bool.{Bool, true, false, cond, not, ◌&&◌}
use mathlib.Core.List.{List, [], ◌∷◌, ◌++◌, append_assoc}
use Prim.Native.Nat.{ℕ, suc, ◌+◌, ◌<◌}
use native.Mathlib.Nat.{add-zero}
use native.Mathlib.Omega.{arith}
use lib.Dec.{eqb}
use lib.ListN.{length, drop, get_or}
use borrow.Author.Tests.{ne_eqb}
use Rattle.exchange.specs.Trees.{node, none, ◌∷ᶠ◌, trees, Operator, Plan, Plans}
use Rattle.exchange.specs.Rows.{unpacked, children_of, operator_of, node_at, children_at, row_of, flatten, flattens}
use Rattle.exchange.specs.Children.{is_removed, remove_dist_changing_operators}
use Rattle.exchange.specs.Worked.{removed}
use Rattle.exchange.proofs.Stored.{past, first_at}
use Rattle.exchange.proofs.TreeRows.{flatten_node, flattens_cons, row_operator, row_children, tree_in, tree_long}

-- ---- clause by clause

pub removed_off : (o : Operator) (t : Plan) (ts : Plans) → is_removed o ≡ true → removed (node o (t ∷ᶠ ts)) ≡ o ∷ removed t
unfolding removed
removed_off o t ts e = rw e

pub worked_off : (o : Operator) (t : Plan) (ts : Plans) → is_removed o ≡ true → remove_dist_changing_operators (node o (t ∷ᶠ ts)) ≡ remove_dist_changing_operators t
unfolding remove_dist_changing_operators
worked_off o t ts e = rw e

same_either : {A : Type 0} (b : Bool) (x : A) → cond b x x ≡ x
same_either true x = refl
same_either false x = refl

-- an operator that stays, or has no child
removed_stays : (o : Operator) (ts : Plans) → (not (eqb (trees ts) 0) && is_removed o) ≡ false → removed (node o ts) ≡ []
unfolding removed
removed_stays o none e = same_either (is_removed o) []
removed_stays o (t ∷ᶠ ts) e =
    let f : is_removed o ≡ false = rw (ne_eqb (suc (trees ts)) 0 (λ z. omega arith)) at e in
    rw f

-- ---- where the worked node stands

pub record WorkedAt (src : List (List ℕ)) (at : ℕ) (t : Plan) : Type 0 where
  pub rest : List (List ℕ)
  pub stands : drop (at + length (removed t)) src ≡ flatten (remove_dist_changing_operators t) ++ rest

-- an operator that stays is the worked node
stays_at : (src : List (List ℕ)) (at : ℕ) (t : Plan) (rest : List (List ℕ)) → removed t ≡ [] → remove_dist_changing_operators t ≡ t → drop at src ≡ flatten t ++ rest → WorkedAt src at t
stays_at src at t rest r w h = record { rest = rest; stands = rw (r, w, add-zero) h }

under_at : (src : List (List ℕ)) (at : ℕ) (o : Operator) (t : Plan) (ts : Plans) → is_removed o ≡ true → WorkedAt src (at + 1) t → WorkedAt src at (node o (t ∷ᶠ ts))
under_at src at o t ts e w =
    let place : at + suc (length (removed t)) ≡ at + 1 + length (removed t) = omega arith in
    record { rest = w.rest; stands = rw (removed_off o t ts e, worked_off o t ts e, place) w.stands }

-- the rows of a first child, past the operator's
child_at : (src : List (List ℕ)) (at : ℕ) (o : Operator) (t : Plan) (ts : Plans) (rest : List (List ℕ)) → drop at src ≡ flatten (node o (t ∷ᶠ ts)) ++ rest
    → drop (at + 1) src ≡ flatten t ++ (flattens ts ++ rest)
child_at src at o t ts rest h =
    let r : List ℕ = row_of o (suc (trees ts)) in
    let k : drop at src ≡ r ∷ (flatten t ++ (flattens ts ++ rest)) =
    h ∙ ap (λ (l : List (List ℕ)). l ++ rest) (flatten_node o (t ∷ᶠ ts) ∙ ap (λ (l : List (List ℕ)). r ∷ l) (flattens_cons t ts))
    ∙ ap (λ (l : List (List ℕ)). r ∷ l) (append_assoc (flatten t) (flattens ts) rest) in
    past src (r ∷ []) _ at k

worked_stays : (o : Operator) (ts : Plans) → is_removed o ≡ false → remove_dist_changing_operators (node o ts) ≡ node o ts
unfolding remove_dist_changing_operators
worked_stays o ts e = rw e

removed_stays_all : (o : Operator) (ts : Plans) → is_removed o ≡ false → removed (node o ts) ≡ []
unfolding removed
removed_stays_all o ts e = rw e

worked_alone : (o : Operator) → remove_dist_changing_operators (node o none) ≡ node o none
unfolding remove_dist_changing_operators
worked_alone o = same_either (is_removed o) (node o none)

worked_by : (b : Bool) (src : List (List ℕ)) (at : ℕ) (o : Operator) (ts : Plans) (rest : List (List ℕ)) → drop at src ≡ flatten (node o ts) ++ rest
    → is_removed o ≡ b → (b ≡ true → WorkedAt src at (node o ts)) → WorkedAt src at (node o ts)
worked_by true src at o ts rest h e w = w refl
worked_by false src at o ts rest h e w = stays_at src at (node o ts) rest (removed_stays_all o ts e) (worked_stays o ts e) h

mutual
  pub worked_at : (src : List (List ℕ)) (at : ℕ) (rest : List (List ℕ)) (t : Plan) → drop at src ≡ flatten t ++ rest → WorkedAt src at t
  worked_at src at rest (node o ts) h = worked_by (is_removed o) src at o ts rest h refl (λ e. worked_under src at rest o e ts h)

  worked_under : (src : List (List ℕ)) (at : ℕ) (rest : List (List ℕ)) (o : Operator) → is_removed o ≡ true → (ts : Plans) → drop at src ≡ flatten (node o ts) ++ rest → WorkedAt src at (node o ts)
  worked_under src at rest o e none h = stays_at src at (node o none) rest (removed_stays o none refl) (worked_alone o) h
  worked_under src at rest o e (t ∷ᶠ ts) h = under_at src at o t ts e (worked_at src (at + 1) (flattens ts ++ rest) t (child_at src at o t ts rest h))

-- ---- going down

pub record Reached (src : List (List ℕ)) (at a : ℕ) (t : Plan) : Type 0 where
  pub tree : Plan
  pub rest : List (List ℕ)
  pub stands : drop a src ≡ flatten tree ++ rest
  pub off : a + length (removed tree) ≡ at + length (removed t)

-- the row of an operator says whether it is taken off
goes_read : (src : List (List ℕ)) (a : ℕ) (o : Operator) (ts : Plans) (rest : List (List ℕ)) → drop a src ≡ flatten (node o ts) ++ rest
    → (not (eqb (children_at src a) 0) && is_removed (operator_of (node_at src a))) ≡ (not (eqb (trees ts) 0) && is_removed o)
goes_read src a o ts rest h =
    let r : get_or src a [] ≡ row_of o (trees ts) = first_at src _ a [] (h ∙ ap (λ (l : List (List ℕ)). l ++ rest) (flatten_node o ts)) in
    ap (λ (x : List ℕ). not (eqb (children_of x) 0) && is_removed (operator_of (unpacked x))) r
    ∙ ap (λ (k : ℕ). not (eqb k 0) && is_removed (operator_of (unpacked (row_of o (trees ts))))) (row_children o (trees ts))
    ∙ ap (λ (p : Operator). not (eqb (trees ts) 0) && is_removed p) (row_operator o (trees ts))

module _ (src : List (List ℕ)) (at a : ℕ) (t : Plan) where
  pub reached_in : Reached src at a t → a < length src
  reached_in m = omega (arith, tree_in src a m.tree m.rest m.stands, tree_long m.tree)

  pub reached_more : (not (eqb (children_at src a) 0) && is_removed (operator_of (node_at src a))) ≡ true → Reached src at a t → Reached src at (a + 1) t
  reached_more e m = go m.tree m.stands m.off
    where
      go : (u : Plan) → drop a src ≡ flatten u ++ m.rest → a + length (removed u) ≡ at + length (removed t) → Reached src at (a + 1) t
      go (node o none) h f = absurd (let z : ◌≡◌ {A = Bool} false true = sym (goes_read src a o none m.rest h) ∙ e in cc)
      go (node o (v ∷ᶠ vs)) h f =
          let g : (not (eqb (suc (trees vs)) 0) && is_removed o) ≡ true = sym (goes_read src a o (v ∷ᶠ vs) m.rest h) ∙ e in
          let g' : is_removed o ≡ true = rw (ne_eqb (suc (trees vs)) 0 (λ z. omega arith)) at g in
          record {
            tree = v;
            rest = flattens vs ++ m.rest;
            stands = child_at src a o v vs m.rest h;
            off = omega (arith, ap length (removed_off o v vs g'));
          }

  pub reached_end : (not (eqb (children_at src a) 0) && is_removed (operator_of (node_at src a))) ≡ false → Reached src at a t → a ≡ at + length (removed t)
  reached_end e m = go m.tree m.stands m.off
    where
      go : (u : Plan) → drop a src ≡ flatten u ++ m.rest → a + length (removed u) ≡ at + length (removed t) → a ≡ at + length (removed t)
      go (node o ts) h f = omega (arith, ap length (removed_stays o ts (sym (goes_read src a o ts m.rest h) ∙ e)))
