-- The order that a requirement asks of the pairs of a join, over any type of keys with an equality `same` and a placeholder `gone`.
-- Renders `try_reorder` of 000; document 01, "Key sheet", the point on ops 0 and 2.
use Rattle.std.specs.Prelude.{ℕ, Bool, cond, ◌||◌, List, [], ◌∷◌, map, eqb, length}
use Rattle.std.proofs.Math.Option.{Option, none, some}
use Rattle.keys.specs.Lists.{same_list, or_else, expected_expr_positions, permute}

-- an entry of a rewriting list
pub record Rule (A : Type 0) : Type 0 where
  pub from : A
  pub to : A

-- the report (1 met, 2 moved, 3 impossible), the positions (none but where moved), and the keys that result
pub record Tried (A : Type 0) : Type 0 where
  pub report : ℕ
  pub positions : List ℕ
  pub left : List A
  pub right : List A

abbrev pub met : {A : Type 0} → List A → List A → Tried A
met l g = record { report = 1; positions = []; left = l; right = g }

-- the pairs at the positions found, or as they stood
abbrev pub moved_by : {A : Type 0} → A → List A → List A → Option (List ℕ) → Tried A
moved_by gone l g none = record { report = 3; positions = []; left = l; right = g }
moved_by gone l g (some ps) = record { report = 2; positions = ps; left = permute gone l ps; right = permute gone g ps }

module _ {A : Type 0} (same : A → A → Bool) where
  -- the first rule whose `from` equals the key, or the key itself
  abbrev pub rewrite_one : List (Rule A) → A → A
  rewrite_one [] e = e
  rewrite_one (r ∷ rs) e = cond (same r.from e) r.to (rewrite_one rs e)

  abbrev pub rewrite : List (Rule A) → List A → List A
  rewrite rs es = map (rewrite_one rs) es

  -- the requirement is one of the two sides
  abbrev pub meets : List A → List A → List A → Bool
  meets r l g = same_list same r l || same_list same r g

module _ {A : Type 0} (same : A → A → Bool) (gone : A) where
  -- the positions of the requirement in the left side, or else in the right
  abbrev pub either_side : List A → List A → List A → Option (List ℕ)
  either_side r l g = or_else (expected_expr_positions same gone l r) (expected_expr_positions same gone g r)

  -- Required b,a of the pairs (a,x), (b,y): moved, positions 1,0, left b,a, right y,x.
  unfoldable pub try_reorder : List (Rule A) → List A → List A → List A → Tried A
  try_reorder w r l g =
      let r' = rewrite same w r in
      let l' = rewrite same w l in
      let g' = rewrite same w g in
      cond (eqb (length l) (length r))
      (cond (meets same r l g || meets same r' l' g')
      (met l g)
      (moved_by gone l g (or_else (either_side r l g) (either_side r' l' g'))))
      (moved_by gone l g none)
