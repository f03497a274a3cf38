-- What the answers of `adjust_input_keys_ordering` and `reorder_join_keys_to_inputs` stand for: document 01's numbers and lists for each case.
-- Renders document 01, "Answer: `k,changed,report`".
use Rattle.std.specs.Prelude.{ℕ, Bool, cond, List, [], ◌++◌, length, Option, Some, None}
use Rattle.keys.specs.Lists.{permute}
use Rattle.keys.specs.Expressions.{Expression, placeholder, expressions, rules}
use Rattle.keys.specs.Adjust.{KeySheet, KeyAnswer, Projected, Adjustment, answered, name_not_found, hand_over, moved_directions, shift_right_required, placed_names, names_from}
use Rattle.keys.specs.Values.{numbers, report_of, positions_in, tried_or}
use Rattle.keys.specs.declared.answer.Operator.{Operator}
use Rattle.keys.specs.declared.answer.Handed.{Handed}
use Rattle.keys.specs.declared.answer.Handed.TheVariants.{Kept, Cleared, Required, Keys, Shifted, Mapped}
use Rattle.keys.specs.declared.answer.Outcome.{Outcome}
use Rattle.keys.specs.declared.answer.Outcome.TheVariants.{Unchanged, Passed, Tried, Regrouped}
use Rattle.keys.specs.declared.answer.Adjusted.{Adjusted}

-- the sheet that lent lists and the K line's numbers make, with the children's lists
abbrev pub key_sheet :
    Operator → List ℕ → List ℕ → List ℕ → List ℕ → List (List ℕ) → List ℕ → List ℕ → List ℕ → List (List Expression) → KeySheet
key_sheet k r l g s w o a m cs = record {
  op = k.op;
  mode = k.mode;
  join = k.join;
  columns = k.columns;
  plain = k.plain;
  partial = k.partial;
  required = expressions r;
  left = expressions l;
  right = expressions g;
  directions = s;
  rewriting = rules w;
  groups = o;
  aggregates = a;
  mapped = expressions m;
  children = cs;
}

-- a child's list c becomes: c, nothing, R, its own side's keys as they come out, R shifted, M
abbrev pub handed : KeySheet → List Expression → Handed → List Expression → List Expression
handed s side Kept c = c
handed s side Cleared c = []
handed s side Required c = s.required
handed s side Keys c = side
handed s side Shifted c = shift_right_required s.columns s.required
handed s side Mapped c = s.mapped

abbrev pub changed_by : Outcome → ℕ
changed_by Unchanged = 0
changed_by Passed = 1
changed_by (Tried o) = 1
changed_by (Regrouped at places) = 1

abbrev pub report_by : Outcome → ℕ
report_by Unchanged = 0
report_by Passed = 0
report_by (Tried o) = report_of o
report_by (Regrouped at places) = 2

-- there are positions only where pairs or groups moved, and places only where groups did
abbrev pub positions_by : Outcome → List ℕ
positions_by Unchanged = []
positions_by Passed = []
positions_by (Tried o) = positions_in o
positions_by (Regrouped at places) = numbers at

abbrev pub places_by : Outcome → List ℕ
places_by Unchanged = []
places_by Passed = []
places_by (Tried o) = []
places_by (Regrouped at places) = numbers places

-- what the pairs' move leaves, or what stood
abbrev pub moved_or : {A : Type 0} → Outcome → A → A → A
moved_or Unchanged moved stood = stood
moved_or Passed moved stood = stood
moved_or (Tried o) moved stood = tried_or o moved stood
moved_or (Regrouped at places) moved stood = stood

abbrev pub projected_by : Outcome → List Projected → List Projected
projected_by Unchanged ps = []
projected_by Passed ps = []
projected_by (Tried o) ps = []
projected_by (Regrouped at places) ps = ps

-- the answer of an outcome with its marks, positions and places
module _ (s : KeySheet) (o : Outcome) (cleared : Bool) (first others : Handed) (ps places : List ℕ) where
  -- a side's keys as they come out
  abbrev pub side_by : List Expression → List Expression
  side_by ks = moved_or o (permute placeholder ks ps) ks

  abbrev pub answer_by : KeyAnswer
  answer_by = record {
    changed = changed_by o;
    report = report_by o;
    positions = ps;
    required = cond cleared [] s.required;
    left = side_by s.left;
    right = side_by s.right;
    directions = moved_or o (moved_directions s.directions ps) s.directions;
    projection = projected_by o (placed_names s.groups places ++ names_from (length s.groups) s.aggregates);
    children = hand_over (handed s (side_by s.left) first) (handed s (side_by s.right) others) s.children;
  }

abbrev pub answer_of : KeySheet → Adjusted → KeyAnswer
answer_of s a = answer_by s a.outcome a.cleared a.first a.others (positions_by a.outcome) (places_by a.outcome)

-- refusal 10, or the answer
abbrev pub adjusted_of : KeySheet → Option Adjusted → Adjustment
adjusted_of s None = name_not_found
adjusted_of s (Some a) = answered (answer_of s a)
