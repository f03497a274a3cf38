-- Passing a tree row by row: the rows still to come end where the tree does (`Past`), at every turn.
-- Assumes nothing.
use mathlib.Core.Path.{◌≡◌, refl, sym, ap, ◌∙◌}
use mathlib.Core.List.{List, ◌++◌}
use Prim.Native.Nat.{ℕ, ◌+◌, ◌-◌, ◌≤◌}
use native.Mathlib.Omega.{arith}
use lib.ListN.{length, drop}
use Rattle.exchange.specs.Trees.{none, ◌∷ᶠ◌, trees, Plan, Plans}
use Rattle.exchange.specs.Rows.{flatten, flattens, children_at}
use Rattle.exchange.proofs.Stored.{within}
use Rattle.exchange.proofs.TreeRows.{flattens_one, flattens_none, next, trees_long}

-- the trees `below` are still to come
pub record Past (src : List (List ℕ)) (at : ℕ) (t : Plan) (rest : List (List ℕ)) (a left : ℕ) : Type 0 where
  pub below : Plans
  pub counted : trees below ≡ left
  pub ends : a + length (flattens below) ≡ at + length (flatten t)
  pub stands : drop a src ≡ flattens below ++ rest

-- what a turn asks of the numbers
pub record PastRoom (src : List (List ℕ)) (a left : ℕ) : Type 0 where
  pub reads : a + 1 ≤ length src
  pub grows : left - 1 + children_at src a ≤ length src

module _ (src : List (List ℕ)) (at : ℕ) (t : Plan) (rest : List (List ℕ)) where
  pub past_start : drop at src ≡ flatten t ++ rest → Past src at t rest at 1
  past_start h = record { below = t ∷ᶠ none; counted = refl; ends = rw flattens_one refl; stands = rw flattens_one h }

  module _ (a left : ℕ) where
    pub past_step : (left ≡ 0 → ⊥) → Past src at t rest a left → Past src at t rest (a + 1) (left - 1 + children_at src a)
    past_step more m =
        let w = next src a m.below rest (λ z. more (sym m.counted ∙ z)) m.stands in
        record {
          below = w.below';
          counted = w.counted ∙ ap (λ (k : ℕ). k - 1 + children_at src a) m.counted;
          ends = omega (arith, m.ends, ap length w.row);
          stands = w.stands;
        }

    pub past_end : left ≡ 0 → Past src at t rest a left → a ≡ at + length (flatten t)
    past_end z m = go m.below m.counted m.ends
      where
        go : (ts : Plans) → trees ts ≡ left → a + length (flattens ts) ≡ at + length (flatten t) → a ≡ at + length (flatten t)
        go none e f = omega (arith, f, ap length flattens_none)
        go (u ∷ᶠ us) e f = absurd (omega arith)

    pub past_room : (left ≡ 0 → ⊥) → Past src at t rest a left → PastRoom src a left
    past_room more m =
        let w = next src a m.below rest (λ z. more (sym m.counted ∙ z)) m.stands in
        let long : length (flattens m.below) ≡ length (flattens w.below') + 1 = ap length w.row ∙ omega arith in
        let in_src : a + length (flattens m.below) ≤ length src = within src (flattens m.below) rest a m.stands (omega arith) in
        record { reads = omega arith; grows = omega (arith, trees_long w.below', w.counted) }
