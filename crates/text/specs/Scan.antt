-- Cited only by the contracts of private functions: a field as a single pass over the bytes sees it.
-- That it is the field of `Text` is proved in proofs/Fields.antt. Document 01, "A sheet is ASCII lines ended by LF".
use Rattle.std.specs.Prelude.{◌≡◌, ℕ, suc, ◌+◌, ◌-◌, ◌*◌, ◌≤◌, ◌<◌, length, get_or, List, [], ◌∷◌, Bool, true, cond, leb, eqb}
use Rattle.text.specs.declared.field.Field.{Field}
use Rattle.text.specs.declared.field.Field.TheVariants.{Number as number, Empty as empty, Malformed as malformed}
use Rattle.text.specs.Text.{most}

-- how many bytes stand before the first comma or LF
unfoldable pub span : List ℕ → ℕ
span [] = 0
span (x ∷ xs) = cond (eqb x 44) 0 (cond (eqb x 10) 0 (suc (span xs)))

-- the field that goes on after digits that gave n
unfoldable pub more_digits : ℕ → List ℕ → Field
more_digits n [] = number n
more_digits n (b ∷ bs) =
    let v : ℕ = n * 10 + (b - 48) in
    cond (eqb b 44) (number n)
    (cond (eqb b 10) (number n)
    (cond (leb 48 b) (cond (leb b 57) (cond (eqb n 0) malformed (cond (leb v most) (more_digits v bs) malformed)) malformed) malformed))

-- the field that begins here
unfoldable pub first : List ℕ → Field
first [] = empty
first (b ∷ bs) =
    cond (eqb b 44) empty
    (cond (eqb b 10) empty
    (cond (leb 48 b) (cond (leb b 57) (more_digits (b - 48) bs) malformed) malformed))

-- an LF, or nothing more
unfoldable pub ends_line : List ℕ → Bool
ends_line [] = true
ends_line (x ∷ xs) = eqb x 10

pub record DigitAndComma (s : List ℕ) (i : ℕ) : Type 0 where
  pub room : i + 1 < length s
  pub low : 48 ≤ get_or s i 0
  pub high : get_or s i 0 ≤ 57
  pub comma : get_or s (i + 1) 0 ≡ 44
