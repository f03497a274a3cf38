-- Operators as trees: a label above a run of trees.
-- Renders document 01, "T lines in preorder" and "then `t,id,kind,count,keeps,limit,order,mask,tracked,children`".
use Rattle.std.specs.Prelude.{ℕ, suc}
use Rattle.std.proofs.Math.Option.{Option}

infixr 30 ◌∷ᶠ◌ ◌++ᶠ◌
mutual
  pub data Tree (A : Type 0) : Type 0 where
    node : A → Forest A → Tree A

  pub data Forest (A : Type 0) : Type 0 where
    none : Forest A
    ◌∷ᶠ◌ : Tree A → Forest A → Forest A

abbrev pub root : {A : Type 0} → Tree A → A
root (node a ts) = a

-- how many trees
abbrev pub trees : {A : Type 0} → Forest A → ℕ
trees none = 0
trees (t ∷ᶠ ts) = suc (trees ts)

abbrev pub ◌++ᶠ◌ : {A : Type 0} → Forest A → Forest A → Forest A
none ++ᶠ us = us
(t ∷ᶠ ts) ++ᶠ us = t ∷ᶠ (ts ++ᶠ us)

-- every field of a T or t line but the children's count, which comes in where a tree is written as lines; marks are 0 or 1
pub record Operator : Type 0 where
  pub id : ℕ
  pub kind : ℕ
  pub count : ℕ
  pub keeps : ℕ
  pub limit : Option ℕ
  pub order : ℕ
  pub mask : ℕ
  pub tracked : ℕ
  pub need : ℕ

abbrev pub Plan : Type 0
Plan = Tree Operator

abbrev pub Plans : Type 0
Plans = Forest Operator
