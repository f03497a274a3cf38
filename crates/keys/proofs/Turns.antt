-- What one turn of a loop does, over plain lists.
-- Assumes nothing.
use Prim.Native.Nat.{ℕ, ◌+◌, ◌≤◌, ◌<◌}
use mathlib.Core.Path.{◌≡◌}
use mathlib.Core.List.{List, ◌++◌, map, append_assoc, append-nil}
use native.Mathlib.Numerals.{add-one}
use lib.ListN.{length, get_or, drop, take, set, drop_of_length-le, length-map}
use lib.Seq.{drop-cons, take-set-lt, map-set}
use Rattle.keys.specs.Values.{number_of}
use Rattle.keys.specs.declared.expr.Expr.{Expr}
use Rattle.keys.proofs.Lists.{first_pushed}

-- an array ys that is filled with xs: what is filled, with what is left, is all
module _ {A : Type 0} (xs ys : List A) (i : ℕ) (so : take i ys ++ drop i xs ≡ xs) where
  pub fill_turn : (x d : A) → i < length xs → i < length ys → x ≡ get_or xs i d → take (i + 1) (set ys i x) ++ drop (i + 1) xs ≡ xs
  fill_turn x d h k e = rw (first_pushed ys i x k, e, append_assoc, add-one, ← drop-cons xs i d h) so

  pub fill_end : length xs ≤ i → take i ys ≡ xs
  fill_end h = rw (drop_of_length-le xs h, append-nil) at so

-- the same for the array of a key list
module _ (xs : List ℕ) (items : List Expr) (i : ℕ) (so : take i (map number_of items) ++ drop i xs ≡ xs) where
  pub key_turn : (x d : ℕ) → i < length xs → i < length items → x ≡ get_or xs i d → take (i + 1) (map number_of (set items i (record { number = x }))) ++ drop (i + 1) xs ≡ xs
  key_turn x d h k e = rw (map-set number_of items i (record { number = x })) (fill_turn xs (map number_of items) i so x d h (rw (length-map items number_of) k) e)

-- an entry among the first n of a key list's array: read, and changed
module _ (items : List Expr) (n p : ℕ) (h : p < n) where
  pub key_changed : (e : Expr) → take n (map number_of (set items p e)) ≡ set (take n (map number_of items)) p (number_of e)
  key_changed e = rw (map-set number_of items p e) (take-set-lt n (map number_of items) p (number_of e) h)
