-- The lists of an I sheet's answer, by what was decided.
-- Assumes nothing.
use Prim.Native.Nat.{ℕ}
use mathlib.Core.Path.{refl}
use mathlib.Core.List.{List}
use Rattle.keys.specs.Lists.{permute}
use Rattle.keys.specs.Expressions.{gone_number}
use Rattle.keys.specs.Adjust.{moved_directions}
use Rattle.keys.specs.Values.{numbers}
use Rattle.keys.specs.InputValues.{side_number, attempt_of, report_by, side_by, positions_by}
use Rattle.keys.specs.declared.reorder.Reordered.TheVariants.{Met, Moved, Impossible}
use Rattle.keys.specs.declared.inputs.Attempt.{Attempt}
use Rattle.keys.specs.declared.inputs.Attempt.TheVariants.{Untried, Followed, Failed}
use Rattle.keys.proofs.Packed.{permute_expressions}
use Rattle.sheet.specs.Held.{held_at, held_join_sheet}
use Rattle.moves.specs.Chosen.{followed_or}
use Rattle.lines.proofs.AnswerParts.{JoinLists}

module _ (lists : List (List ℕ)) (counts : List ℕ) where
  abbrev At : ℕ → List ℕ
  At i = held_at lists counts i

  pub join_lists :
      (o : Attempt) →
      JoinLists (attempt_of (held_join_sheet lists counts) o) (report_by o) (side_number (side_by o)) (positions_by o)
      (followed_or o (permute gone_number (At 1) (positions_by o)) (At 1)) (followed_or o (permute gone_number (At 2) (positions_by o)) (At 2))
      (followed_or o (moved_directions (At 3) (positions_by o)) (At 3))
  unfolding held_join_sheet
  join_lists Untried = record { report = refl; followed = refl; positions = refl; left = refl; right = refl; directions = refl }
  join_lists (Followed side Met) = record { report = refl; followed = refl; positions = refl; left = refl; right = refl; directions = refl }
  join_lists (Followed side (Moved at)) = record {
    report = refl;
    followed = refl;
    positions = refl;
    left = permute_expressions (At 1) (numbers at);
    right = permute_expressions (At 2) (numbers at);
    directions = refl;
  }
  join_lists (Followed side Impossible) = record { report = refl; followed = refl; positions = refl; left = refl; right = refl; directions = refl }
  join_lists Failed = record { report = refl; followed = refl; positions = refl; left = refl; right = refl; directions = refl }
