-- Lists under an equality `same`: equal lists, and the places that expected entries take in a current list.
-- Renders `expected_expr_positions` of 000; document 01, "Key sheet", "Positions".
use Rattle.std.specs.Prelude.{ℕ, zero, suc, Bool, true, false, cond, ◌&&◌, List, [], ◌∷◌, map, get_or, set}
use Rattle.std.proofs.Math.Option.{Option, none, some}

-- a place, counted from one entry further left
abbrev pub next : Option ℕ → Option ℕ
next none = none
next (some p) = some (suc p)

-- a place before others, where those are found
abbrev pub also : ℕ → Option (List ℕ) → Option (List ℕ)
also p none = none
also p (some ps) = some (p ∷ ps)

-- a place, where it is found, and those found once it is taken
abbrev pub and_then : Option ℕ → (ℕ → Option (List ℕ)) → Option (List ℕ)
and_then none rest = none
and_then (some p) rest = also p (rest p)

-- the first of two that is found
abbrev pub or_else : Option (List ℕ) → Option (List ℕ) → Option (List ℕ)
or_else none b = b
or_else (some ps) b = some ps

module _ {A : Type 0} (same : A → A → Bool) where
  -- equally long, and equal entry by entry
  abbrev pub same_list : List A → List A → Bool
  same_list [] [] = true
  same_list [] (y ∷ ys) = false
  same_list (x ∷ xs) [] = false
  same_list (x ∷ xs) (y ∷ ys) = same x y && same_list xs ys

  -- the leftmost place whose entry equals x
  abbrev pub place_of : A → List A → Option ℕ
  place_of x [] = none
  place_of x (c ∷ cs) = cond (same c x) (some zero) (next (place_of x cs))

module _ {A : Type 0} (same : A → A → Bool) (gone : A) where
  -- each expected entry takes its leftmost place, where the placeholder `gone` then stands
  abbrev pub take_places : List A → List A → Option (List ℕ)
  take_places current [] = some []
  take_places current (x ∷ xs) = and_then (place_of same x current) (λ p. take_places (set current p gone) xs)

  -- the same, and none where either list is empty
  abbrev pub expected_expr_positions : List A → List A → Option (List ℕ)
  expected_expr_positions [] expected = none
  expected_expr_positions (c ∷ cs) [] = none
  expected_expr_positions (c ∷ cs) (x ∷ xs) = take_places (c ∷ cs) (x ∷ xs)

-- the entries of a list at the given places
abbrev pub permute : {A : Type 0} → A → List A → List ℕ → List A
permute gone current ps = map (λ p. get_or current p gone) ps
