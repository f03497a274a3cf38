-- A turn of writing names with their places, two numbers to a name.
-- Assumes nothing.
use Prim.Native.Nat.{ℕ, suc, ◌+◌, ◌*◌, ◌≤◌, ◌<◌}
use mathlib.Core.Path.{◌≡◌, refl, ap}
use mathlib.Core.List.{List, [], ◌∷◌, ◌++◌, append_assoc, append-nil}
use native.Mathlib.Numerals.{add-one}
use native.Mathlib.Omega.{arith}
use lib.ListN.{length, get_or, take, drop, set, length-set, drop_of_length-le}
use lib.Seq.{drop-cons}
use Rattle.keys.specs.Adjust.{Projected, placed_names, names_from}
use Rattle.keys.proofs.Lists.{first_pushed}
use Rattle.sheet.specs.KeyAnswers.{projected_numbers}

-- an array that is filled two numbers at a time
pair_turn :
    (out : List ℕ) (n : ℕ) (x y : ℕ) (rest all : List ℕ) → take n out ++ (x ∷ y ∷ rest) ≡ all → n + 1 < length out →
    take (n + 1 + 1) (set (set out n x) (n + 1) y) ++ rest ≡ all
pair_turn out n x y rest all so k =
    rw (first_pushed (set out n x) (n + 1) y (rw (length-set out n x) k), first_pushed out n x (omega arith)) (simp append_assoc so)

no_places : (ns : List ℕ) → placed_names ns [] ≡ []
no_places [] = refl
no_places (n ∷ ns) = refl

-- names and their places, each in a list of its own: what is left of either
module _ (out all : List ℕ) (i : ℕ) where
  pub placed_turn :
      (x p : ℕ) (xs ps : List ℕ) → take (2 * i) out ++ projected_numbers (placed_names (x ∷ xs) (p ∷ ps)) ≡ all → 2 * i + 1 < length out →
      take (2 * (i + 1)) (set (set out (2 * i) x) (2 * i + 1) p) ++ projected_numbers (placed_names xs ps) ≡ all
  placed_turn x p xs ps so r = let e : 2 * (i + 1) ≡ 2 * i + 1 + 1 = omega arith in rw e (pair_turn out (2 * i) x p _ all so r)

  pub names_over : (ns ps : List ℕ) → length ns ≡ 0 → take (2 * i) out ++ projected_numbers (placed_names ns ps) ≡ all → take (2 * i) out ≡ all
  names_over [] ps h so = rw append-nil at so
  names_over (n ∷ ns) ps h so = absurd (omega arith)

  pub places_over : (ns ps : List ℕ) → length ps ≡ 0 → take (2 * i) out ++ projected_numbers (placed_names ns ps) ≡ all → take (2 * i) out ≡ all
  places_over ns [] h so = rw (no_places ns, append-nil) at so
  places_over ns (p ∷ ps) h so = absurd (omega arith)

-- names at the places from the first on
module _ (first : ℕ) (a out all : List ℕ) (n i : ℕ) (so : take n out ++ projected_numbers (names_from (first + i) (drop i a)) ≡ all) where
  pub names_turn :
      (x : ℕ) → x ≡ first + i → i < length a → n + 1 < length out →
      take (n + 2) (set (set out n (get_or a i 0)) (n + 1) x) ++ projected_numbers (names_from (first + (i + 1)) (drop (i + 1) a)) ≡ all
  names_turn x z h k =
      let e : n + 2 ≡ n + 1 + 1 = omega arith in
      let f : first + (i + 1) ≡ suc (first + i) = omega arith in
      rw (e, z, f, add-one i) (pair_turn out n (get_or a i 0) (first + i) _ all (rw (drop-cons a i 0 h) at so) k)

  pub names_end : length a ≤ i → take n out ≡ all
  names_end h = rw (drop_of_length-le a h, append-nil) at so

pub numbers_append : (ps qs : List Projected) → projected_numbers (ps ++ qs) ≡ projected_numbers ps ++ projected_numbers qs
numbers_append [] qs = refl
numbers_append (p ∷ ps) qs = ap (λ (r : List ℕ). p.name ∷ p.place ∷ r) (numbers_append ps qs)
