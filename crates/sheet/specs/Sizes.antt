-- How large sheets and answers can be: by the largest number m, the entries e of a list, the children c, and the bytes w of a number with its comma.
-- Renders document 01, "At most 65,536 bytes, 32 entries a list but Y and J, 8 children a node", and "An output of 65,536 bytes always suffices".
use Rattle.std.specs.Prelude.{ℕ, ◌+◌, ◌*◌, ◌≤◌, List, [], ◌∷◌, length}
use Rattle.std.proofs.Math.Option.{Option, none, some}
use Rattle.keys.specs.Expressions.{Expression}
use Rattle.keys.specs.Adjust.{KeySheet, KeyAnswer, Projected}
use Rattle.keys.specs.Inputs.{JoinSheet, JoinAnswer}

-- what holds of every entry
abbrev pub Each : {A : Type 0} → (A → Type 0) → List A → Type 0
Each P [] = Unit {0}
Each P (x ∷ xs) = P x × Each P xs

-- at most n entries, and what holds of each
pub record Few {A : Type 0} (n : ℕ) (P : A → Type 0) (xs : List A) : Type 0 where
  pub few : length xs ≤ n
  pub each : Each P xs

pub record Within (m : ℕ) (e : Expression) : Type 0 where
  pub kind : e.kind ≤ m
  pub name : e.name ≤ m
  pub index : e.index ≤ m

pub record PlacedWithin (m : ℕ) (p : Projected) : Type 0 where
  pub name : p.name ≤ m
  pub place : p.place ≤ m

module _ (m e : ℕ) where
  abbrev pub NumberList : List ℕ → Type 0
  NumberList ns = Few e (λ n. n ≤ m) ns

  abbrev pub ExprList : List Expression → Type 0
  ExprList es = Few e (Within m) es

  pub record SizedKeySheet (c : ℕ) (x : KeySheet) : Type 0 where
    pub required : ExprList x.required
    pub left : ExprList x.left
    pub right : ExprList x.right
    pub directions : NumberList x.directions
    pub groups : NumberList x.groups
    pub aggregates : NumberList x.aggregates
    pub mapped : ExprList x.mapped
    pub children : Few c ExprList x.children

  pub record SizedKeyAnswer (c : ℕ) (a : KeyAnswer) : Type 0 where
    pub changed : a.changed ≤ m
    pub report : a.report ≤ m
    pub positions : NumberList a.positions
    pub required : ExprList a.required
    pub left : ExprList a.left
    pub right : ExprList a.right
    pub directions : NumberList a.directions
    pub projection : Few (e + e) (PlacedWithin m) a.projection
    pub children : Few c ExprList a.children

  abbrev pub InputList : Option (List Expression) → Type 0
  InputList none = Unit {0}
  InputList (some es) = ExprList es

  pub record SizedJoinSheet (x : JoinSheet) : Type 0 where
    pub left : ExprList x.left
    pub right : ExprList x.right
    pub directions : NumberList x.directions
    pub left_input : InputList x.left_input
    pub right_input : InputList x.right_input

  pub record SizedJoinAnswer (a : JoinAnswer) : Type 0 where
    pub report : a.report ≤ m
    pub followed : a.followed ≤ m
    pub positions : NumberList a.positions
    pub left : ExprList a.left
    pub right : ExprList a.right
    pub directions : NumberList a.directions

-- a line of n numbers
abbrev pub line_most : ℕ → ℕ → ℕ
line_most w n = 2 + n * w

-- k, P, R, L, G, S, J, C
abbrev pub key_answer_most : ℕ → ℕ → ℕ → ℕ
key_answer_most w e c =
    line_most w 2 + (line_most w e + (line_most w (e * 3) + (line_most w (e * 3) + (line_most w (e * 3) + (line_most w e + (line_most w ((e + e) * 2) + c * line_most w (e * 3)))))))

-- i, P, L, G, S
abbrev pub join_answer_most : ℕ → ℕ → ℕ
join_answer_most w e = line_most w 2 + (line_most w e + (line_most w (e * 3) + (line_most w (e * 3) + line_most w e)))
