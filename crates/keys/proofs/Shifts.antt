-- What the loop of `shift_right_required` keeps.
-- Assumes nothing.
use mathlib.Core.Option.{Option, none, some}
use mathlib.Core.List.{List, ◌++◌}
use Rattle.keys.specs.Expressions.{Expression}

-- entries before others, where those are there
abbrev pub prefixed : List Expression → Option (List Expression) → Option (List Expression)
prefixed xs none = none
prefixed xs (some ys) = some (xs ++ ys)
