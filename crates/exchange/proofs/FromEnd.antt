-- A list that is taken from its end: what is left of it and what was taken are the whole.
-- Assumes nothing.
use Prim.Native.Nat.{suc}
use mathlib.Core.Path.{◌≡◌, sym, ap, ◌∙◌}
use mathlib.Core.List.{List, [], ◌∷◌, ◌++◌, append_assoc, append-nil}
use native.Mathlib.Omega.{arith}
use lib.ListN.{length, drop, drop_of_length-le, length-append}
use Rattle.std.specs.List.{push}
use Rattle.std.proofs.Math.Seq.{drop-append_seam}

module _ {A : Type 0} where
  -- nothing is taken yet
  pub none_taken : (left xs : List A) → left ≡ xs → (drop (length left) xs ≡ []) × (left ++ drop (length left) xs ≡ xs)
  none_taken left xs e =
      let rest : drop (length left) xs ≡ [] = drop_of_length-le xs {i = length left} (omega (arith, ap length e)) in
      (rest, rw rest (append-nil left ∙ e))

  -- the last of those that are left is taken
  module _ (xs left later : List A) (x : A) (whole : left ++ drop (length left) xs ≡ xs) (taken : left ≡ push later x) where
    before : xs ≡ later ++ (x ∷ drop (length left) xs)
    before = sym whole ∙ ap (λ (l : List A). l ++ drop (length left) xs) taken ∙ append_assoc later (x ∷ []) (drop (length left) xs)

    pub one_taken : drop (length later) xs ≡ x ∷ drop (length left) xs
    one_taken = ap (drop (length later)) before ∙ drop-append_seam later (x ∷ drop (length left) xs)

    pub one_less : length left ≡ suc (length later)
    one_less = omega (arith, ap length taken, length-append later (x ∷ []))

    pub whole_again : later ++ drop (length later) xs ≡ xs
    whole_again = ap (λ (l : List A). later ++ l) one_taken ∙ sym before
