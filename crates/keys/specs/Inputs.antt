-- An input sheet and its answer on plain lists, the equality of expressions a parameter.
-- Renders `reorder_join_keys_to_inputs` and `reorder_current_join_keys` of 000; document 01, "`I,op,mode` then L, G, S, H, N, W, V".
use Rattle.std.specs.Prelude.{ℕ, Bool, cond, List, [], eqb}
use Rattle.std.proofs.Math.Option.{Option, none, some}
use Rattle.keys.specs.Reorder.{Rule, Tried, try_reorder}
use Rattle.keys.specs.Expressions.{Expression, placeholder}
use Rattle.keys.specs.Codes.{order_tried}
use Rattle.keys.specs.Adjust.{directions_of}

-- `left_input` is H and `right_input` N: none where the mark for hash partitioning is 0
pub record JoinSheet : Type 0 where
  pub op : ℕ
  pub mode : ℕ
  pub left : List Expression
  pub right : List Expression
  pub directions : List ℕ
  pub left_input : Option (List Expression)
  pub right_input : Option (List Expression)
  pub left_rewriting : List (Rule Expression)
  pub right_rewriting : List (Rule Expression)

-- followed: 0 none, 1 left, 2 right
pub record JoinAnswer : Type 0 where
  pub report : ℕ
  pub followed : ℕ
  pub positions : List ℕ
  pub left : List Expression
  pub right : List Expression
  pub directions : List ℕ

module _ (s : JoinSheet) where
  -- keys and directions as they stood
  abbrev pub as_stood : ℕ → JoinAnswer
  as_stood report = record { report = report; followed = 0; positions = []; left = s.left; right = s.right; directions = s.directions }

  -- the order that followed one side
  abbrev pub following : ℕ → Tried Expression → JoinAnswer
  following side t = record {
    report = t.report;
    followed = side;
    positions = t.positions;
    left = t.left;
    right = t.right;
    directions = directions_of s.directions t;
  }

  module _ (same : Expression → Expression → Bool) where
    -- one side under its own rewriting; what else is answered where it is impossible, or not hash partitioned
    abbrev pub try_side : ℕ → List (Rule Expression) → JoinAnswer → JoinAnswer → Option (List Expression) → JoinAnswer
    try_side side w impossible unhashed none = unhashed
    try_side side w impossible unhashed (some keys) =
        let t = try_reorder same placeholder w keys s.left s.right in
        cond (eqb t.report 3) impossible (following side t)

    -- the right side, where the left was impossible or not hash partitioned
    abbrev pub try_right : ℕ → JoinAnswer
    try_right report = try_side 2 s.right_rewriting (as_stood 3) (as_stood report) s.right_input

    -- left first, right if left is impossible
    abbrev pub reorder_current_join_keys : JoinAnswer
    reorder_current_join_keys = try_side 1 s.left_rewriting (try_right 3) (try_right 0) s.left_input

    -- a sort-merge join, or a Partitioned hash join, is tried
    unfoldable pub reorder_join_keys_to_inputs : JoinAnswer
    reorder_join_keys_to_inputs = cond (order_tried s.op s.mode) reorder_current_join_keys (as_stood 0)

-- the keys that were followed
abbrev pub input_keys : Option (List Expression) → List Expression
input_keys none = []
input_keys (some keys) = keys

abbrev pub followed_keys : JoinSheet → ℕ → List Expression
followed_keys s side = cond (eqb side 1) (input_keys s.left_input) (cond (eqb side 2) (input_keys s.right_input) [])
