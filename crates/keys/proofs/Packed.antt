-- Keys of one type that stand for keys of another, with the same equality: what is decided about the ones is decided about the others.
-- So packed numbers, compared as numbers, are as good as the expressions that they pack.
-- Assumes nothing.
use Prim.Native.Nat.{ℕ, ◌+◌, ◌*◌, ◌/◌, ◌%◌, ◌<◌}
use mathlib.Core.Path.{◌≡◌, refl, ap, sym, ◌∙◌}
use mathlib.Core.Bool.{Bool, true, false, cond, ◌&&◌, ◌||◌}
use mathlib.Core.Option.{Option, none, some}
use mathlib.Core.List.{List, [], ◌∷◌, map}
use native.Mathlib.Omega.{arith}
use borrow.Author.Tests.{eq-eqb, eqb-true, eqb-false}
use lib.Dec.{eqb}
use lib.ListN.{length, set, length-map, get_or-map}
use lib.Seq.{map-set}
use Rattle.keys.specs.Lists.{also, and_then, or_else, same_list, place_of, take_places, expected_expr_positions, permute}
use Rattle.keys.specs.Reorder.{Rule, Tried, met, moved_by, rewrite_one, rewrite, meets, either_side, try_reorder}
use Rattle.keys.specs.Expressions.{Expression, same_expr, placeholder, gone_number, expression, expressions, packed, rule, rules}
use Rattle.keys.specs.Values.{number_rules}

-- what is tried of the ones, as what is tried of the others
abbrev pub map_tried : {A B : Type 0} → (A → B) → Tried A → Tried B
map_tried f t = record { report = t.report; positions = t.positions; left = map f t.left; right = map f t.right }

module _ {A B : Type 0} (f : A → B) (same : A → A → Bool) (same' : B → B → Bool) (agree : (x y : A) → same' (f x) (f y) ≡ same x y) where
  abbrev pub map_rule : Rule A → Rule B
  map_rule r = record { from = f r.from; to = f r.to }

  pub same_list_map : (xs ys : List A) → same_list same' (map f xs) (map f ys) ≡ same_list same xs ys
  same_list_map [] [] = refl
  same_list_map [] (y ∷ ys) = refl
  same_list_map (x ∷ xs) [] = refl
  same_list_map (x ∷ xs) (y ∷ ys) = rw (agree x y, same_list_map xs ys)

  place_of_map : (x : A) (cs : List A) → place_of same' (f x) (map f cs) ≡ place_of same x cs
  place_of_map x [] = refl
  place_of_map x (c ∷ cs) = rw (agree c x, place_of_map x cs)

  rewrite_one_map : (w : List (Rule A)) (e : A) → rewrite_one same' (map map_rule w) (f e) ≡ f (rewrite_one same w e)
  rewrite_one_map [] e = refl
  rewrite_one_map (r ∷ rs) e = rw (agree r.from e, rewrite_one_map rs e) (go (same r.from e))
    where
      go : (b : Bool) → cond b (f r.to) (f (rewrite_one same rs e)) ≡ f (cond b r.to (rewrite_one same rs e))
      go true = refl
      go false = refl

  rewrite_map : (w : List (Rule A)) (es : List A) → rewrite same' (map map_rule w) (map f es) ≡ map f (rewrite same w es)
  rewrite_map w [] = refl
  rewrite_map w (e ∷ es) = rw (rewrite_one_map w e, rewrite_map w es)

  meets_map : (r l g : List A) → meets same' (map f r) (map f l) (map f g) ≡ meets same r l g
  meets_map r l g = rw (same_list_map r l, same_list_map r g)

  module _ (gone : A) where
    take_places_map : (xs cur : List A) → take_places same' (f gone) (map f cur) (map f xs) ≡ take_places same gone cur xs
    take_places_map [] cur = refl
    take_places_map (x ∷ xs) cur =
        rw (place_of_map x cur) (go (place_of same x cur) (λ p. rw (map-set f cur p gone) at (take_places_map xs (set cur p gone))))
      where
        go :
            (o : Option ℕ) → ((p : ℕ) → take_places same' (f gone) (set (map f cur) p (f gone)) (map f xs) ≡ take_places same gone (set cur p gone) xs) →
            and_then o (λ p. take_places same' (f gone) (set (map f cur) p (f gone)) (map f xs)) ≡ and_then o (λ p. take_places same gone (set cur p gone) xs)
        go none h = refl
        go (some p) h = ap (also p) (h p)

    pub positions_map : (cur xs : List A) → expected_expr_positions same' (f gone) (map f cur) (map f xs) ≡ expected_expr_positions same gone cur xs
    positions_map [] xs = refl
    positions_map (c ∷ cs) [] = refl
    positions_map (c ∷ cs) (x ∷ xs) = take_places_map (x ∷ xs) (c ∷ cs)

    either_side_map : (r l g : List A) → either_side same' (f gone) (map f r) (map f l) (map f g) ≡ either_side same gone r l g
    either_side_map r l g = rw (positions_map l r, positions_map g r)

    pub permute_map : (xs : List A) (ps : List ℕ) → permute (f gone) (map f xs) ps ≡ map f (permute gone xs ps)
    permute_map xs [] = refl
    permute_map xs (p ∷ ps) = rw (get_or-map f xs p gone, permute_map xs ps)

    moved_by_map : (l g : List A) (o : Option (List ℕ)) → moved_by (f gone) (map f l) (map f g) o ≡ map_tried f (moved_by gone l g o)
    moved_by_map l g none = refl
    moved_by_map l g (some ps) = λ k. record { report = 2; positions = ps; left = permute_map l ps k; right = permute_map g ps k }

    pub try_reorder_map :
        (w : List (Rule A)) (r l g : List A) →
        try_reorder same' (f gone) (map map_rule w) (map f r) (map f l) (map f g) ≡ map_tried f (try_reorder same gone w r l g)
    unfolding try_reorder
    try_reorder_map w r l g =
        rw (
          length-map l f,
          length-map r f,
          meets_map r l g,
          rewrite_map w r,
          rewrite_map w l,
          rewrite_map w g,
          meets_map (rewrite same w r) (rewrite same w l) (rewrite same w g),
          either_side_map r l g,
          either_side_map (rewrite same w r) (rewrite same w l) (rewrite same w g),
        )
        (chosen (eqb (length l) (length r)) (meets same r l g || meets same (rewrite same w r) (rewrite same w l) (rewrite same w g)) l g
        (or_else (either_side same gone r l g) (either_side same gone (rewrite same w r) (rewrite same w l) (rewrite same w g))))
      where
        chosen :
            (a b : Bool) (l g : List A) (o : Option (List ℕ)) →
            cond a (cond b (met (map f l) (map f g)) (moved_by (f gone) (map f l) (map f g) o)) (moved_by (f gone) (map f l) (map f g) none)
            ≡ map_tried f (cond a (cond b (met l g) (moved_by gone l g o)) (moved_by gone l g none))
        chosen true true l g o = refl
        chosen true false l g o = moved_by_map l g o
        chosen false b l g o = refl

-- the three numbers packed in one are equal just where the one is
split : (n : ℕ) → n ≡ n / 4294967296 * 4294967296 + (n / 65536 % 65536 * 65536 + n % 65536)
split n = omega arith

pub expressions_agree : (m n : ℕ) → same_expr (expression m) (expression n) ≡ eqb m n
expressions_agree m n = go (eqb m n) refl
  where
    differ : (m ≡ n → ⊥) → (a b c : Bool) → eqb (m / 4294967296) (n / 4294967296) ≡ a → eqb (m / 65536 % 65536) (n / 65536 % 65536) ≡ b → eqb (m % 65536) (n % 65536) ≡ c → a && (b && c) ≡ false
    differ h false b c p q s = refl
    differ h true false c p q s = refl
    differ h true true false p q s = refl
    differ h true true true p q s =
        absurd (h (split m
        ∙ (λ k. eqb-true (m / 4294967296) (n / 4294967296) p k * 4294967296 + (eqb-true (m / 65536 % 65536) (n / 65536 % 65536) q k * 65536 + eqb-true (m % 65536) (n % 65536) s k))
        ∙ sym (split n)))

    go : (b : Bool) → eqb m n ≡ b → same_expr (expression m) (expression n) ≡ b
    go true e =
        let z : m ≡ n = eqb-true m n e in
        rw (z, eq-eqb (n / 4294967296) (n / 4294967296) refl, eq-eqb (n / 65536 % 65536) (n / 65536 % 65536) refl, eq-eqb (n % 65536) (n % 65536) refl)
    go false e = differ (eqb-false m n e) _ _ _ refl refl refl

-- what was packed comes out again
pub unpacked : (kind name index : ℕ) → name < 65536 → index < 65536 → expression (packed kind name index) ≡ record { kind = kind; name = name; index = index }
unpacked k n i h g =
    let e : packed k n i / 4294967296 ≡ k = omega arith in
    let f : packed k n i / 65536 % 65536 ≡ n = omega arith in
    let j : packed k n i % 65536 ≡ i = omega arith in
    λ x. record { kind = e x; name = f x; index = j x }

rules_map : (w : List (List ℕ)) → map (map_rule expression eqb same_expr expressions_agree) (number_rules w) ≡ rules w
rules_map [] = refl
rules_map (r ∷ rs) = ap (λ (x : List (Rule Expression)). rule r ∷ x) (rules_map rs)

pub same_expressions : (xs ys : List ℕ) → same_list same_expr (expressions xs) (expressions ys) ≡ same_list eqb xs ys
same_expressions xs ys = same_list_map expression eqb same_expr expressions_agree xs ys

pub positions_expressions : (cur xs : List ℕ) → expected_expr_positions same_expr placeholder (expressions cur) (expressions xs) ≡ expected_expr_positions eqb gone_number cur xs
positions_expressions cur xs = positions_map expression eqb same_expr expressions_agree gone_number cur xs

pub permute_expressions : (xs ps : List ℕ) → permute placeholder (expressions xs) ps ≡ expressions (permute gone_number xs ps)
permute_expressions xs ps = permute_map expression eqb same_expr expressions_agree gone_number xs ps

pub try_expressions :
    (w : List (List ℕ)) (r l g : List ℕ) →
    try_reorder same_expr placeholder (rules w) (expressions r) (expressions l) (expressions g)
    ≡ map_tried expression (try_reorder eqb gone_number (number_rules w) r l g)
try_expressions w r l g = rw (← rules_map w) (try_reorder_map expression eqb same_expr expressions_agree gone_number (number_rules w) r l g)
