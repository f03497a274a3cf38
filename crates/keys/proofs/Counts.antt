-- How many entries of a list equal x: an arrangement keeps that number, and so does an equal list.
use Prim.Native.Nat.{ℕ, zero, suc, ◌+◌, ◌<◌}
use mathlib.Core.Path.{◌≡◌, refl, ap, sym, ◌∙◌}
use mathlib.Core.Bool.{Bool, true, false, cond}
use mathlib.Core.Option.{Option, none, some}
use mathlib.Core.List.{List, [], ◌∷◌, ◌++◌}
use native.Mathlib.Omega.{arith}
use lib.ListN.{length, get_or, set}
use Rattle.keys.specs.Lists.{next, same_list, place_of, permute}
use Rattle.keys.specs.Arrange.{Arrangement, Equivalence}
use Rattle.keys.proofs.Truths.{true_false, both_ways, and_first, and_second, none_some}
use Rattle.keys.proofs.Sums.{one, sum, weigh, arranged}

module _ {A : Type 0} (same : A → A → Bool) where
  abbrev pub occ : A → List A → ℕ
  occ x [] = 0
  occ x (c ∷ cs) = one (same c x) + occ x cs

  pub occ_none : (x : A) (xs : List A) → place_of same x xs ≡ none → occ x xs ≡ 0
  occ_none x [] e = refl
  occ_none x (c ∷ cs) e = go (same c x) (place_of same x cs) (occ_none x cs) e
    where
      go : (b : Bool) (o : Option ℕ) → (o ≡ none → occ x cs ≡ 0) → cond b (some zero) (next o) ≡ none → one b + occ x cs ≡ 0
      go true o h q = none_some q refl
      go false none h q = let z : occ x cs ≡ 0 = h refl in omega arith
      go false (some r) h q = none_some q refl

  pub occ_set :
      (y : A) (xs : List A) (p : ℕ) (a d : A) → p < length xs →
      occ y (set xs p a) + one (same (get_or xs p d) y) ≡ occ y xs + one (same a y)
  occ_set y [] p a d h = absurd (omega arith)
  occ_set y (x ∷ xs) zero a d h = omega arith
  occ_set y (x ∷ xs) (suc p) a d h =
      let i : occ y (set xs p a) + one (same (get_or xs p d) y) ≡ occ y xs + one (same a y) = occ_set y xs p a d (omega arith) in
      omega arith

  pub occ_append : (x : A) (xs ys : List A) → occ x (xs ++ ys) ≡ occ x xs + occ x ys
  occ_append x [] ys = omega arith
  occ_append x (c ∷ cs) ys = let i : occ x (cs ++ ys) ≡ occ x cs + occ x ys = occ_append x cs ys in omega arith

  -- counting by places
  occ_sum : (x : A) (xs : List A) (d : A) → occ x xs ≡ sum (length xs) (λ k. one (same (get_or xs k d) x))
  occ_sum x [] d = refl
  occ_sum x (c ∷ cs) d = ap (λ (n : ℕ). one (same c x) + n) (occ_sum x cs d)

  occ_weigh : (x : A) (xs : List A) (d : A) (ps : List ℕ) → occ x (permute d xs ps) ≡ weigh (λ k. one (same (get_or xs k d) x)) ps
  occ_weigh x xs d [] = refl
  occ_weigh x xs d (p ∷ ps) = ap (λ (n : ℕ). one (same (get_or xs p d) x) + n) (occ_weigh x xs d ps)

  pub occ_arranged : (x : A) (xs : List A) (d : A) (ps : List ℕ) → Arrangement (length xs) ps → occ x (permute d xs ps) ≡ occ x xs
  occ_arranged x xs d ps a = occ_weigh x xs d ps ∙ arranged (length xs) _ ps a ∙ sym (occ_sum x xs d)

  module _ (eq : Equivalence same) where
    -- equal entries are equal to the same entries
    pub alike : (a b y : A) → same a b ≡ true → same a y ≡ same b y
    alike a b y e =
        both_ways (same a y) (same b y)
        (λ h. eq.transitive b a y (eq.symmetric a b e) h)
        (λ h. eq.transitive a b y e h)

    pub occ_same : (y : A) (xs ys : List A) → same_list same xs ys ≡ true → occ y xs ≡ occ y ys
    occ_same y [] [] e = refl
    occ_same y [] (b ∷ bs) e = absurd (true_false e refl)
    occ_same y (a ∷ us) [] e = absurd (true_false e refl)
    occ_same y (a ∷ us) (b ∷ bs) e =
        let i : occ y us ≡ occ y bs = occ_same y us bs (and_second (same a b) (same_list same us bs) e) in
        let h : one (same a y) ≡ one (same b y) = ap one (alike a b y (and_first (same a b) (same_list same us bs) e)) in
        omega arith
