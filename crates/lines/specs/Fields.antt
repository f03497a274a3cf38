-- Fields as text, each with its comma: a number's, and the three of a packed expression.
-- Renders document 01, "An expression is kind,name,index".
use Rattle.std.specs.Prelude.{ℕ, List, ◌∷◌, ◌++◌}
use Rattle.text.specs.Write.{decimal}
use Rattle.keys.specs.Expressions.{expression}

-- a number's field, with its comma
unfoldable pub number_field : ℕ → List ℕ
number_field n = 44 ∷ decimal n

-- the three fields of a packed expression
unfoldable pub expr_fields : ℕ → List ℕ
expr_fields e = number_field (expression e).kind ++ (number_field (expression e).name ++ number_field (expression e).index)
