-- Bad planners, each an `Outcome` of any sheet's bytes.
-- Document 01, "Tries bad planners: pairs in sheet order always (demand 3's "exactly" stops it); "impossible" before searching (3);
-- keys ordered, trees copied (2, and 3 by partitioning); one stock decision (2); every sheet turned back (2 and the table)".
use Rattle.std.specs.Prelude.{ℕ, cond, ◌&&◌, ◌||◌, List, [], eqb, length, get_or}
use Rattle.keys.specs.Reorder.{Tried, met, rewrite, meets}
use Rattle.keys.specs.Expressions.{Expression, same_expr}
use Rattle.keys.specs.Adjust.{KeySheet, KeyAnswer, Adjustment, answered, hand_over, given, joined_by, adjust_input_keys_ordering}
use Rattle.keys.specs.Codes.{order_tried}
use Rattle.sheet.specs.KeySheets.{Reading, sheet, turned, read_key_sheet}
use Rattle.sheet.specs.KeyAnswers.{Outcome, refused, wrote, adjusted}
use Rattle.exchange.specs.Trees.{Plan}
use Rattle.exchange.specs.Ensure.{Answer}
use Rattle.plansheet.specs.PlanSheets.{PlanSheet, read_plan}
use Rattle.plananswer.specs.PlanTexts.{plan_answer_text}
use Rattle.lochkave.specs.Decision.{decision}
use Rattle.guarantee.specs.Operators.{worked}

-- K sheets by f, every other sheet as `decision` has it
abbrev pub keys_by : (KeySheet → Adjustment) → Reading KeySheet → Outcome
keys_by f (turned n l) = refused n l
keys_by f (sheet x) = adjusted (f x)

abbrev pub planner_by : (KeySheet → Adjustment) → List ℕ → Outcome
planner_by f s = cond (eqb (get_or s 0 0) 75) (keys_by f (read_key_sheet s)) (decision s)

-- a planner of joins by f, every other K sheet as `decision` has it
abbrev pub joins_by : (KeySheet → KeyAnswer) → KeySheet → Adjustment
joins_by f x = cond (order_tried x.op x.mode) (answered (f x)) (adjust_input_keys_ordering same_expr x)

-- ---- "pairs in sheet order always"

-- L, G and S as they stood, with any report and any positions
module _ (report : KeySheet → ℕ) (positions : KeySheet → List ℕ) where
  abbrev pub as_it_stood : KeySheet → KeyAnswer
  as_it_stood x = record {
    changed = 1;
    report = report x;
    positions = positions x;
    required = x.required;
    left = x.left;
    right = x.right;
    directions = x.directions;
    projection = [];
    children = hand_over (given x.left) (given x.right) x.children;
  }

  unfoldable pub sheet_order_always : List ℕ → Outcome
  sheet_order_always = planner_by (joins_by as_it_stood)

-- ---- "impossible" before searching

-- what isn't met as it stands, raw or rewritten, is called impossible
abbrev pub unsearched : KeySheet → Tried Expression
unsearched x =
    let w = x.rewriting in
    let r = x.required in
    cond (eqb (length x.left) (length r)
    && (meets same_expr r x.left x.right || meets same_expr (rewrite same_expr w r) (rewrite same_expr w x.left) (rewrite same_expr w x.right)))
    (met x.left x.right)
    (record { report = 3; positions = []; left = x.left; right = x.right })

unfoldable pub impossible_unsearched : List ℕ → Outcome
impossible_unsearched = planner_by (joins_by (λ x. joined_by x (unsearched x)))

-- ---- "keys ordered, trees copied"

-- an answer that says no more than its tree
abbrev pub answer_with : Plan → Answer
answer_with t = record { changed = 1; window = 0; interleave = 0; tracked = 0; plan = t }

-- the tree of a D sheet as it stands, from its worked node on
abbrev pub copied : PlanSheet → Answer
copied x = answer_with (worked x)

abbrev pub copying : Reading PlanSheet → Outcome
copying (turned n l) = refused n l
copying (sheet x) = wrote (plan_answer_text (copied x))

unfoldable pub trees_copied : List ℕ → Outcome
trees_copied s = cond (eqb (get_or s 0 0) 68) (copying (read_plan s)) (decision s)

-- ---- "one stock decision"

abbrev pub stock : List ℕ → List ℕ → Outcome
stock answer s = wrote answer

-- ---- "every sheet turned back"

-- with any number and any line
abbrev pub turned_back : (List ℕ → ℕ) → (List ℕ → ℕ) → List ℕ → Outcome
turned_back number line s = refused (number s) (line s)
