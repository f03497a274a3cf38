-- The order handling of a child, by its marks; and how large a mask of kept entries is.
-- Assumes nothing.
use Prim.Native.Nat.{ℕ, zero, suc, ◌+◌, ◌-◌, ◌*◌, ◌/◌, ◌%◌, ◌^◌, ◌≤◌, ◌<◌}
use mathlib.Core.Path.{◌≡◌, refl, ap, ◌∙◌}
use mathlib.Core.Bool.{Bool, true, false, cond, not, ◌&&◌}
use mathlib.Core.Option.{Option}
use native.Mathlib.Omega.{arith}
use lib.Dec.{eqb}
use mir.Val.{bool_byte}
use Rattle.exchange.specs.Trees.{root, Operator, Plan}
use Rattle.std.proofs.lemmas.Nat.{shr-shr}
use Rattle.std.proofs.Math.Nat.{div-one}
use Rattle.exchange.specs.declared.settings.Settings.{Settings}
use Rattle.exchange.specs.declared.order.Handling.{Handling}
use Rattle.exchange.specs.Settings.{is_set}
use Rattle.exchange.specs.Facts.{NodeFacts}
use Rattle.exchange.specs.Operators.{track_root}
use Rattle.exchange.specs.States.{ChildState}
use Rattle.exchange.specs.Replace.{replace_order_preserving_variants}
use Rattle.exchange.specs.Order.{kept_entries, add_sort_above, output_fetch, handle_order}
use Rattle.exchange.specs.LastForm.{known_by}
use Rattle.exchange.specs.Handling.{required_handling, free_handling, handling_of, given_up, sorted_by, handled_by}

-- ---- kept entries

abbrev twice : ℕ → ℕ
twice zero = 1
twice (suc n) = 2 * twice n

bit_small : (t : Bool) → cond t 0 1 ≤ 1
bit_small true = omega arith
bit_small false = omega arith

kept_below : (n constants : ℕ) → kept_entries n constants < twice n
unfolding kept_entries
kept_below zero constants = omega arith
kept_below (suc n) constants = omega (arith, kept_below n (constants / 2), bit_small (eqb (constants % 2) 1))

twice_grows : (k n : ℕ) → n ≤ k → twice n ≤ twice k
twice_grows zero zero h = omega arith
twice_grows zero (suc n) h = absurd (omega arith)
twice_grows (suc k) zero h = omega (arith, twice_grows k zero (omega arith))
twice_grows (suc k) (suc n) h = omega (arith, twice_grows k n (omega arith))

pub kept_small : (n constants : ℕ) → n ≤ 8 → kept_entries n constants ≤ 255
kept_small n constants h = omega (arith, kept_below n constants, twice_grows 8 n h)

-- one entry more
pub kept_none : (n constants : ℕ) → n ≡ 0 → 0 ≡ kept_entries n constants
unfolding kept_entries
kept_none n constants e = rw e

module _ (n constants above : ℕ) (some : n ≡ 0 → ⊥) (e : above ≡ kept_entries (n - 1) (constants / 2)) where
  more : kept_entries n constants ≡ cond (eqb (constants % 2) 1) 0 1 + 2 * above
  unfolding kept_entries
  more = let z : n ≡ suc (n - 1) = omega arith in rw (z, ← e)

  one_more : (bit : ℕ) → bit ≡ bool_byte (not (eqb (constants % 2) 1)) → 2 * above + bit ≡ kept_entries n constants
  one_more bit b = go (eqb (constants % 2) 1) refl
    where
      go : (t : Bool) → eqb (constants % 2) 1 ≡ t → 2 * above + bit ≡ kept_entries n constants
      go true h = let z : bit ≡ 0 = rw h at b in rw (more, h) (omega arith)
      go false h = let z : bit ≡ 1 = rw h at b in rw (more, h) (omega arith)

pub kept_all : (n i constants : ℕ) → i ≡ 0 → {above : ℕ} → above ≡ kept_entries (n - i) (constants / 2 ^ i) → above ≡ kept_entries n constants
kept_all n i constants z e =
    let none : n - i ≡ n = omega arith in
    let whole : constants / 2 ^ i ≡ constants = rw z (div-one constants) in
    e ∙ rw (none, whole) refl

-- the entry at i is read after those from i on
pub kept_turn : (n i constants above bit : ℕ) → 0 < i → i ≤ n → above ≡ kept_entries (n - i) (constants / 2 ^ i) → bit ≡ bool_byte (not (eqb (constants / 2 ^ (i - 1) % 2) 1))
    → 2 * above + bit ≡ kept_entries (n - (i - 1)) (constants / 2 ^ (i - 1))
kept_turn n i constants above bit some most e b =
    let back : n - (i - 1) - 1 ≡ n - i = omega arith in
    let on : i - 1 + 1 ≡ i = omega arith in
    let halved : constants / 2 ^ (i - 1) / 2 ≡ constants / 2 ^ i = shr-shr constants (i - 1) 1 ∙ ap (λ (k : ℕ). constants / 2 ^ k) on in
    one_more (n - (i - 1)) (constants / 2 ^ (i - 1)) above (omega (arith, some, most)) (rw (back, halved) e) bit b

-- ---- the handling of a child is what the definition makes of its tree

required_at :
    (replaced met aftermet : Bool) (e : ℕ) (limit : Option ℕ) (kept gone : Plan) →
    cond replaced (cond met (cond aftermet gone (add_sort_above e limit gone)) gone) kept ≡ add_sort_above (cond (replaced && (met && not aftermet)) e 0) limit (cond replaced gone kept)
required_at true true true e limit kept gone = refl
required_at true true false e limit kept gone = refl
required_at true false aftermet e limit kept gone = refl
required_at false met aftermet e limit kept gone = refl

entries_at : (t : Bool) (free : Handling) (required : Handling) (limit : Option ℕ) (p a b : Plan) → a ≡ handled_by free limit p → b ≡ handled_by required limit p → cond t a b ≡ handled_by (cond t free required) limit p
entries_at true free required limit p a b e f = e
entries_at false free required limit p a b e f = f

module _ (s : Settings) (b : NodeFacts) (worked : Operator) (children : ℕ) (c : ChildState) where
  pub order_handled : handle_order s b worked children c ≡ handled_by (handling_of (known_by s b worked.kind children c.need (root c.plan).tracked c.facts c.row)) (output_fetch worked) c.plan
  unfolding handle_order handling_of handled_by sorted_by given_up
  order_handled =
      let k = known_by s b worked.kind children c.need (root c.plan).tracked c.facts c.row in
      entries_at (eqb c.facts.entries 0) (free_handling k) (required_handling k) (output_fetch worked) c.plan _ _ refl
      (ap (track_root 0) (required_at (required_handling k).replaced (is_set c.row.met) (is_set c.row.aftermet) (kept_entries c.facts.entries c.row.const)
      (output_fetch worked) c.plan (replace_order_preserving_variants c.plan)))
