-- What demand 3 says of the pairs of a join, on K and I sheets: they come out each exactly once, directions with them, and are
-- called impossible exactly when no arrangement fits. Renders document 01, "In demand 3 an arrangement names every place ..".
use Rattle.std.specs.Prelude.{ℕ, zero, suc, ◌≡◌, Bool, true, false, cond, ◌&&◌, ◌||◌, List, [], ◌∷◌, ◌⊎◌, ◌↔◌, eqb, length}
use Rattle.std.proofs.Math.Option.{Option, none, some}
use Rattle.keys.specs.Lists.{permute}
use Rattle.keys.specs.Reorder.{Rule, rewrite}
use Rattle.keys.specs.Expressions.{Expression, placeholder}
use Rattle.keys.specs.Arrange.{Arrangement, Lacks, FitsSide}
use Rattle.keys.specs.Codes.{order_tried}
use Rattle.keys.specs.Adjust.{KeySheet, KeyAnswer}
use Rattle.keys.specs.Inputs.{JoinSheet, JoinAnswer, followed_keys}

-- n places from i on, in their own order
abbrev pub up_from : ℕ → ℕ → List ℕ
up_from i zero = []
up_from i (suc n) = i ∷ up_from (suc i) n

-- no rule brings a placeholder in
abbrev pub LacksRules : {A : Type 0} → (A → A → Bool) → A → List (Rule A) → Type 0
LacksRules same gone [] = Unit {0}
LacksRules same gone (r ∷ rs) = (same gone r.to ≡ false) × LacksRules same gone rs

-- the pairs of a join; as many directions, or none
pub record Pairs : Type 0 where
  pub left : List Expression
  pub right : List Expression
  pub directions : List ℕ

-- the pairs at the places ps, which name each of them once, and their directions
pub record PairsMoved (before after : Pairs) (ps : List ℕ) : Type 0 where
  pub arrangement : Arrangement (length before.left) ps
  pub left : after.left ≡ permute placeholder before.left ps
  pub right : after.right ≡ permute placeholder before.right ps
  pub directed : length before.directions ≡ length before.left → after.directions ≡ permute 0 before.directions ps
  pub undirected : before.directions ≡ [] → after.directions ≡ []

-- "each exactly once, directions with them: in the order of the reported positions if moved, else as they stood"
pub record PairsKept (before after : Pairs) (report : ℕ) (positions : List ℕ) : Type 0 where
  pub moved : report ≡ 2 → PairsMoved before after positions
  pub stood : (report ≡ 2 → ⊥) → (after ≡ before) × (positions ≡ [])

module _ (same : Expression → Expression → Bool) (w : List (Rule Expression)) (r : List Expression) where
  -- the required list holds no placeholder, raw or rewritten
  pub record LacksPlaceholder : Type 0 where
    pub raw : Lacks same placeholder r
    pub rewritten : Lacks same placeholder (rewrite same w r)

  -- the places ps make a side the required list
  abbrev pub FitsPairs : Pairs → List ℕ → Type 0
  FitsPairs p ps = FitsSide same placeholder w r p.left p.right ps

  abbrev pub NothingFits : Pairs → Type 0
  NothingFits p = (ps : List ℕ) → FitsPairs p ps → ⊥

  -- "one side fits as it comes out"
  pub record ComesOutFitting (before after : Pairs) (report : ℕ) (positions : List ℕ) : Type 0 where
    pub either : (report ≡ 1) ⊎ (report ≡ 2)
    pub met : report ≡ 1 → FitsPairs before (up_from 0 (length before.left))
    pub moved : report ≡ 2 → FitsPairs before positions
    pub out : FitsPairs after (up_from 0 (length after.left))

abbrev pub sheet_pairs : KeySheet → Pairs
sheet_pairs s = record { left = s.left; right = s.right; directions = s.directions }

abbrev pub answer_pairs : KeyAnswer → Pairs
answer_pairs a = record { left = a.left; right = a.right; directions = a.directions }

-- a K sheet whose order is tried
pub record KeyOrderKept (same : Expression → Expression → Bool) (s : KeySheet) (a : KeyAnswer) : Type 0 where
  pub pairs : PairsKept (sheet_pairs s) (answer_pairs a) a.report a.positions
  pub impossible : (a.report ≡ 3) ↔ NothingFits same s.rewriting s.required (sheet_pairs s)
  pub fits :
      (a.report ≡ 3 → ⊥) →
      ComesOutFitting same s.rewriting s.required (sheet_pairs s) (answer_pairs a) a.report a.positions

-- any other K sheet: only an aggregate moves, and no pairs
pub record PairsStand (s : KeySheet) (a : KeyAnswer) : Type 0 where
  pub pairs : answer_pairs a ≡ sheet_pairs s
  pub report : (a.report ≡ 0) ⊎ ((a.report ≡ 2) × (s.op ≡ 3))

-- any K sheet that is answered
pub record KeyPairsKept (same : Expression → Expression → Bool) (s : KeySheet) (a : KeyAnswer) : Type 0 where
  pub tried : order_tried s.op s.mode ≡ true → KeyOrderKept same s a
  pub untried : order_tried s.op s.mode ≡ false → PairsStand s a

-- the sheet with an answer's keys and directions on it
abbrev pub replanned : KeySheet → KeyAnswer → KeySheet
replanned s a = record {
  op = s.op;
  mode = s.mode;
  join = s.join;
  columns = s.columns;
  plain = s.plain;
  partial = s.partial;
  required = s.required;
  left = a.left;
  right = a.right;
  directions = a.directions;
  rewriting = s.rewriting;
  groups = s.groups;
  aggregates = s.aggregates;
  mapped = s.mapped;
  children = s.children;
}

-- an answer planned again: impossible or met, and else the same
abbrev pub confirmed : KeyAnswer → KeyAnswer
confirmed a = record {
  changed = a.changed;
  report = cond (eqb a.report 3) 3 1;
  positions = [];
  required = a.required;
  left = a.left;
  right = a.right;
  directions = a.directions;
  projection = a.projection;
  children = a.children;
}

abbrev pub join_pairs : JoinSheet → Pairs
join_pairs s = record { left = s.left; right = s.right; directions = s.directions }

abbrev pub ordered_pairs : JoinAnswer → Pairs
ordered_pairs a = record { left = a.left; right = a.right; directions = a.directions }

-- the list with mark 1 of side 1, left, or 2, right; and the rewriting that it is tried under
module _ (s : JoinSheet) (side : ℕ) where
  abbrev pub asked : Option (List Expression)
  asked = cond (eqb side 1) s.left_input (cond (eqb side 2) s.right_input none)

  abbrev pub asked_under : List (Rule Expression)
  asked_under = cond (eqb side 1) s.left_rewriting s.right_rewriting

abbrev pub hashed : Option (List Expression) → Bool
hashed none = false
hashed (some keys) = true

abbrev pub input_tried : JoinSheet → Bool
input_tried s = order_tried s.op s.mode && (hashed s.left_input || hashed s.right_input)

module _ (same : Expression → Expression → Bool) (s : JoinSheet) where
  abbrev pub InputsLackPlaceholder : Type 0
  InputsLackPlaceholder = (side : ℕ) (r : List Expression) → asked s side ≡ some r → LacksPlaceholder same (asked_under s side) r

  abbrev pub NothingFitsInputs : Type 0
  NothingFitsInputs = (side : ℕ) (r : List Expression) → asked s side ≡ some r → NothingFits same (asked_under s side) r (join_pairs s)

  -- one side fits the list that was followed, as it comes out
  pub record FollowedFits (a : JoinAnswer) : Type 0 where
    pub followed : asked s a.followed ≡ some (followed_keys s a.followed)
    pub fits :
        ComesOutFitting same (asked_under s a.followed) (followed_keys s a.followed) (join_pairs s) (ordered_pairs a) a.report a.positions

  pub record InputOrderKept (a : JoinAnswer) : Type 0 where
    pub pairs : PairsKept (join_pairs s) (ordered_pairs a) a.report a.positions
    pub untried : input_tried s ≡ false → a.report ≡ 0
    pub impossible : input_tried s ≡ true → (a.report ≡ 3) ↔ NothingFitsInputs
    pub fits : input_tried s ≡ true → (a.report ≡ 3 → ⊥) → FollowedFits a
