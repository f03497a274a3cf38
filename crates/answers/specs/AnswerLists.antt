-- The text of an answer's lists, and how long they are.
-- Renders document 01, "Answer: `k,changed,report` .., then P positions, R, L, G, S, J, C".
use Rattle.std.specs.Prelude.{ℕ, ◌≤◌, ◌≡◌, List, ◌++◌, length, IfSome, option_copied}
use Rattle.sheet.specs.Held.{held_at, child_count}
use Rattle.sheet.specs.declared.held.Lists.{Lists}
use Rattle.lines.specs.Texts.{key_text_of}
use Rattle.lines.specs.Children.{children_text}
use Rattle.lines.specs.declared.key_text.KeyLists.{KeyLists}
use Rattle.lines.specs.declared.join_text.JoinLists.{JoinLists}
use Rattle.lines.specs.declared.children.Children.{Children}
use Rattle.moves.specs.Moved.{MovedBy}
use Rattle.moves.specs.declared.moved.MovedPairs.{MovedPairs}
use Rattle.keys.specs.Adjust.{placed_names, names_from}
use Rattle.keys.specs.Answers.{projected_by, positions_by, places_by}
use Rattle.keys.specs.InputValues as inputs
use Rattle.keys.specs.declared.answer.Outcome.{Outcome}
use Rattle.keys.specs.declared.inputs.Attempt.{Attempt}
use Rattle.sheet.specs.KeyAnswers.{projected_numbers}

-- the lists of a K answer, and its children's
abbrev pub whole_text : KeyLists → Children → Lists → List ℕ
whole_text x c h =
    key_text_of x ++ children_text (option_copied c.first) (option_copied c.others) h.lists.now h.counts.now (child_count h.lists.now h.counts.now)

-- no list is longer than 32, and J than 128
pub record KeyFew (x : KeyLists) (c : Children) : Type 0 where
  pub positions : length x.positions.now ≤ 32
  pub required : length x.required.now ≤ 32
  pub left : length x.left.now ≤ 32
  pub right : length x.right.now ≤ 32
  pub directions : length x.directions.now ≤ 32
  pub projection : length x.projection.now ≤ 128
  pub first : IfSome (option_copied c.first) (λ l. length l ≤ 32)
  pub others : IfSome (option_copied c.others) (λ l. length l ≤ 32)

pub record JoinFew (x : JoinLists) : Type 0 where
  pub positions : length x.positions.now ≤ 32
  pub left : length x.left.now ≤ 32
  pub right : length x.right.now ≤ 32
  pub directions : length x.directions.now ≤ 32

-- what stands at the positions ps, at most 32, of three of the sheet's lines
pub record PairsAt (l g s ps : List ℕ) (m : MovedPairs) : Type 0 where
  pub few : length ps ≤ 32
  pub moved : MovedBy l g s ps m

-- at the positions of a K answer
abbrev pub KeyPairs : Lists → Outcome → MovedPairs → Type 0
KeyPairs h o = PairsAt (held_at h.lists.now h.counts.now 2) (held_at h.lists.now h.counts.now 3) (held_at h.lists.now h.counts.now 4) (positions_by o)

-- at those of an I answer
abbrev pub JoinPairs : Lists → Attempt → MovedPairs → Type 0
JoinPairs h o = PairsAt (held_at h.lists.now h.counts.now 1) (held_at h.lists.now h.counts.now 2) (held_at h.lists.now h.counts.now 3) (inputs.positions_by o)

-- the numbers of J, where each group name has a place
abbrev pub held_projection : List (List ℕ) → List ℕ → Outcome → List ℕ → List ℕ
held_projection lists counts o places =
    projected_numbers (projected_by o (placed_names (held_at lists counts 6) places ++ names_from (length (held_at lists counts 6)) (held_at lists counts 7)))

-- those of a K answer, at most 128
pub record KeyNames (h : Lists) (o : Outcome) (ns : List ℕ) : Type 0 where
  pub few : length ns ≤ 128
  pub names : ns ≡ held_projection h.lists.now h.counts.now o (places_by o)
