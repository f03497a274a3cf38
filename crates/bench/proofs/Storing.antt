-- Storing a list from a place on, turn by turn; and the benchmark's answers by the tests that its code makes.
-- Assumes nothing.
use Prim.Native.Nat.{ℕ, ◌+◌, ◌≤◌, ◌<◌}
use mathlib.Core.Path.{◌≡◌, refl, sym, ap, ◌∙◌}
use mathlib.Core.List.{List}
use native.Mathlib.Numerals.{add-one}
use native.Mathlib.Omega.{arith}
use lib.ListN.{length, get_or, drop, set}
use lib.Seq.{sets, drop-cons}
use mathlib.Core.Bool.{true}
use Rattle.std.specs.Prelude.{eqb}
use borrow.Author.Tests.{le-leb, eq-eqb, ne_eqb}
use Rattle.keys.specs.Lists.{permute}
use Rattle.keys.specs.Expressions.{gone_number}
use Rattle.keys.specs.Reorder.{Tried, try_reorder}
use Rattle.keys.specs.Values.{numbers, number_rules, report_of, resulting, tried_of}
use Rattle.keys.specs.declared.reorder.Reordered.{Reordered}
use Rattle.keys.specs.declared.reorder.Reordered.TheVariants.{Met, Moved, Impossible}
use Rattle.keys.specs.declared.list.NumberList.{NumberList}
use Rattle.bench.specs.Orders.{taken, tried, report_for, left_for, right_for}

module _ (out xs : List ℕ) (i : ℕ) where
  pub stored_turn : i < length xs → sets out i (drop i xs) ≡ sets (set out i (get_or xs i 0)) (i + 1) (drop (i + 1) xs)
  stored_turn h = rw (add-one, drop-cons xs i 0 h)

-- which lists are taken
module _ (r l g : List ℕ) where
  module _ (h : length r ≤ 32) (k : length l ≤ 32) where
    pub even : length g ≡ length l → taken r l g ≡ true
    even e = rw (le-leb (length r) 32 h, le-leb (length l) 32 k, eq-eqb (length g) (length l) e)

-- what `try_reorder` promises is what the benchmark's answers go by
pub was_tried :
    (w : List (List ℕ)) (r l g : List ℕ) (t : Reordered) →
    tried_of l g t ≡ try_reorder eqb gone_number (number_rules w) r l g → tried_of l g t ≡ tried w r l g
unfolding tried
was_tried w r l g t p = p

module _ (w : List (List ℕ)) (r l g left right : List ℕ) where
  module _ (e : taken r l g ≡ true) (t : Reordered) (so : tried_of l g t ≡ tried w r l g) where
    reported : report_of t ≡ (tried w r l g).report
    reported = ap (λ (x : Tried ℕ). x.report) so

    pub stood :
        (report_of t ≡ 2 → ⊥) →
        (report_of t ≡ report_for w r l g) × ((left ≡ left_for w r l g left) × (right ≡ right_for w r l g right))
    stood h =
        let n : (tried w r l g).report ≡ 2 → ⊥ = λ z. h (reported ∙ z) in
        (rw e reported, (rw (e, ne_eqb (tried w r l g).report 2 n), rw (e, ne_eqb (tried w r l g).report 2 n)))

    pub moved :
        (at : NumberList) → t ≡ Moved at → (left' right' : List ℕ) → left' ≡ sets left 0 (permute gone_number l (numbers at)) → right' ≡ sets right 0 (permute gone_number g (numbers at)) →
        (report_of t ≡ report_for w r l g) × ((left' ≡ left_for w r l g left) × (right' ≡ right_for w r l g right))
    moved at z left' right' p q =
        let n : (tried w r l g).report ≡ 2 = sym reported ∙ ap report_of z in
        let a : (tried w r l g).left ≡ permute gone_number l (numbers at) = ap (λ (x : Tried ℕ). x.left) (sym so) ∙ (λ i. resulting gone_number (z i) l) in
        let b : (tried w r l g).right ≡ permute gone_number g (numbers at) = ap (λ (x : Tried ℕ). x.right) (sym so) ∙ (λ i. resulting gone_number (z i) g) in
        (rw e reported, (rw (e, n, a) p, rw (e, n, b) q))

pub unmoved : (t : Reordered) → ((at : NumberList) → t ≡ Moved at → ⊥) → report_of t ≡ 2 → ⊥
unmoved Met h e = absurd (omega arith)
unmoved (Moved at) h e = h at refl
unmoved Impossible h e = absurd (omega arith)
