-- The answer on a join whose order is tried, from what `try_reorder` answers.
-- Assumes nothing.
use Prim.Native.Nat.{ℕ}
use mathlib.Core.Path.{◌≡◌, refl, ap, sym, ◌∙◌}
use mathlib.Core.Bool.{false}
use mathlib.Core.List.{List, []}
use lib.Dec.{eqb}
use Rattle.std.specs.Prelude.{Some}
use Rattle.keys.specs.Reorder.{Tried, try_reorder}
use Rattle.keys.specs.Expressions.{Expression, same_expr, gone_number, expression, expressions}
use Rattle.keys.specs.Adjust.{KeySheet, Adjustment, answered, hand_over, given, moved_directions, reorder_partitioned_join_keys, joined_by}
use Rattle.keys.specs.Values.{numbers, number_rules, tried_of}
use Rattle.keys.specs.Answers.{key_sheet, adjusted_of}
use Rattle.keys.specs.declared.reorder.Reordered.{Reordered}
use Rattle.keys.specs.declared.reorder.Reordered.TheVariants.{Met, Moved, Impossible}
use Rattle.keys.specs.declared.answer.Operator.{Operator}
use Rattle.keys.specs.declared.answer.Outcome.TheVariants as O
use Rattle.keys.specs.declared.answer.Handed.TheVariants.{Keys}
use Rattle.keys.specs.declared.answer.Adjusted.{Adjusted}
use Rattle.keys.proofs.Packed.{map_tried, try_expressions, permute_expressions}

-- what is answered of a join by what was tried
abbrev by_tried : KeySheet → Tried Expression → Adjustment
by_tried s t = answered (joined_by s t)

-- its pairs tried, and the children handed the keys
abbrev pub joined : Reordered → Adjusted
joined t = record { outcome = O.Tried t; cleared = false; first = Keys; others = Keys }

module _ (k : Operator) (r l g s : List ℕ) (w : List (List ℕ)) (o a m : List ℕ) (cs : List (List Expression)) where
  abbrev S : KeySheet
  S = key_sheet k r l g s w o a m cs

  joined_is : (t : Reordered) → adjusted_of S (Some (joined t)) ≡ by_tried S (map_tried expression (tried_of l g t))
  joined_is Met = refl
  joined_is (Moved at) = λ j. answered (record {
    changed = 1;
    report = 2;
    positions = numbers at;
    required = expressions r;
    left = permute_expressions l (numbers at) j;
    right = permute_expressions g (numbers at) j;
    directions = moved_directions s (numbers at);
    projection = [];
    children = hand_over (given (permute_expressions l (numbers at) j)) (given (permute_expressions g (numbers at) j)) cs;
  })
  joined_is Impossible = refl

  pub join_tried : (t : Reordered) → tried_of l g t ≡ try_reorder eqb gone_number (number_rules w) r l g → adjusted_of S (Some (joined t)) ≡ reorder_partitioned_join_keys same_expr S
  join_tried t so = joined_is t ∙ sym (ap (by_tried S) (try_expressions w r l g ∙ ap (map_tried expression) (sym so)))
