-- What the lent lists and the answers of `inputs` stand for: document 01's numbers and lists for each case.
-- Renders document 01, "`I,op,mode` then L, G, S, H, N, W, V", and "Answer `i,report,followed`".
use Rattle.std.specs.Prelude.{ℕ, ◌≤◌, ◌+◌, ◌*◌, ◌-◌, ◌≡◌, cond, List, [], ◌∷◌, eqb, length, take, drop, Option, Some, None}
use Rattle.std.proofs.Math.Option as maybe
use Rattle.std.proofs.Math.Option.{none, some}
use Rattle.std.specs.Borrow.{Bor}
use Rattle.keys.specs.Reorder.{Tried}
use Rattle.keys.specs.Expressions.{Expression, placeholder, expressions, rules}
use Rattle.keys.specs.Inputs.{JoinSheet, JoinAnswer, as_stood, following}
use Rattle.keys.specs.Values.{report_of, positions_in, resulting}
use Rattle.keys.specs.declared.reorder.Reordered.{Reordered}
use Rattle.keys.specs.declared.inputs.Side.{Side}
use Rattle.keys.specs.declared.inputs.Side.TheVariants.{Left, Right}
use Rattle.keys.specs.declared.inputs.Attempt.{Attempt}
use Rattle.keys.specs.declared.inputs.Attempt.TheVariants.{Untried, Followed, Failed}

-- a side's list: the mark for hash partitioning, then the keys
abbrev pub input_of : List ℕ → maybe.Option (List Expression)
input_of [] = none
input_of (mark ∷ ks) = cond (eqb mark 1) (some (expressions ks)) none

-- the sheet that the lent lists make
abbrev pub join_sheet : ℕ → ℕ → List ℕ → List ℕ → List ℕ → List ℕ → List ℕ → List (List ℕ) → List (List ℕ) → JoinSheet
join_sheet op mode l g s h n w v = record {
  op = op;
  mode = mode;
  left = expressions l;
  right = expressions g;
  directions = s;
  left_input = input_of h;
  right_input = input_of n;
  left_rewriting = rules w;
  right_rewriting = rules v;
}

-- a sheet with these pairs on it
abbrev pub with_pairs : List ℕ → List ℕ → JoinSheet → JoinSheet
with_pairs l g s = record {
  op = s.op;
  mode = s.mode;
  left = expressions l;
  right = expressions g;
  directions = s.directions;
  left_input = s.left_input;
  right_input = s.right_input;
  left_rewriting = s.left_rewriting;
  right_rewriting = s.right_rewriting;
}

-- 0 none, 1 left, 2 right
abbrev pub side_number : Option Side → ℕ
side_number None = 0
side_number (Some Left) = 1
side_number (Some Right) = 2

-- r is the part of the lent list s from a place to another: it lies there, and holds what stands there
pub record PartOf (s : Bor (List ℕ)) (start end : ℕ) (r : Bor (List ℕ)) : Type 0 where
  pub within : (start ≤ end) × (end ≤ length s.now)
  pub place : r.ref_ptr ≡ (s.ref_ptr.0, start * 8 + s.ref_ptr.1)
  pub contents : r.now ≡ take (end - start) (drop start s.now)

-- how many entries the mark takes
abbrev pub mark_length : List ℕ → ℕ
mark_length [] = 0
mark_length (mark ∷ ks) = 1

-- the part of the list that was followed: all after its mark, or nothing of the first
pub record HandedBack (followed : ℕ) (h n r : Bor (List ℕ)) : Type 0 where
  pub neither : followed ≡ 0 → PartOf h 0 0 r
  pub left : followed ≡ 1 → PartOf h (mark_length h.now) (length h.now) r
  pub right : followed ≡ 2 → PartOf n (mark_length n.now) (length n.now) r

module _ (s : JoinSheet) where
  -- the try that an outcome stands for
  abbrev pub current_try : Reordered → Tried Expression
  current_try o = record {
    report = report_of o;
    positions = positions_in o;
    left = resulting placeholder o s.left;
    right = resulting placeholder o s.right;
  }

  -- the answer where a side was followed, or what else is answered
  abbrev pub answer_by : JoinAnswer → JoinAnswer → Attempt → JoinAnswer
  answer_by impossible untried Untried = untried
  answer_by impossible untried (Followed side o) = following s (side_number (Some side)) (current_try o)
  answer_by impossible untried Failed = impossible

  abbrev pub attempt_of : Attempt → JoinAnswer
  attempt_of o = answer_by (as_stood s 3) (as_stood s 0) o

-- document 01's numbers
abbrev pub report_by : Attempt → ℕ
report_by Untried = 0
report_by (Followed side o) = report_of o
report_by Failed = 3

abbrev pub side_by : Attempt → Option Side
side_by Untried = None
side_by (Followed side o) = Some side
side_by Failed = None

-- there are positions only where a side was followed
abbrev pub positions_by : Attempt → List ℕ
positions_by Untried = []
positions_by (Followed side o) = positions_in o
positions_by Failed = []
