-- The tree of a child in a form, by the rows of the forms that it passed: what the steps of `Step` and `Relationships` leave of it.
-- Renders document 01, "Form is split + 2×top + 8×relationship", and "new merges and exchanges repeat the X row".
use Rattle.std.specs.Prelude.{ℕ, ◌+◌, ◌≡◌, cond, List, [], ◌∷◌, ◌++◌, eqb, length, replicate}
use Rattle.std.proofs.Math.Option.{Option, some, none as nothing}
use Rattle.std.proofs.lemmas.List.Edits.{sets}
use Rattle.exchange.specs.Trees.{node, root, Operator, Plan}
use Rattle.exchange.specs.Settings.{is_set}
use Rattle.exchange.specs.Forms.{Form, split_form}
use Rattle.exchange.specs.Facts.{Row, row_of as fact_of}
use Rattle.exchange.specs.FactRows.{fact_row}
use Rattle.exchange.specs.Operators.{above, new_merge, new_exchange}
use Rattle.exchange.specs.Step.{split_operator}
use Rattle.exchange.specs.Rows.{row_of}

-- a row that is there, or one of zeros
abbrev pub or_blank : Option Row → Row
or_blank nothing = fact_row (replicate 13 0)
or_blank (some x) = x

-- the form before its relationship exchange
abbrev pub before_relationship : Form → Form
before_relationship f = record { split = f.split; top = f.top; relationship = 0 }

-- a merge (1), a keyed exchange (2) or a round robin (3)
abbrev pub top_operator : ℕ → Row → Operator → Operator
top_operator top x under = cond (eqb top 1) (new_merge x under) (new_exchange (cond (eqb top 2) 12 13) x under)

-- the row of a child in a form, or one of zeros
unfoldable pub row_in : List Row → ℕ → Form → Row
row_in rows child f = or_blank (fact_of rows child f)

module _ (rows : List Row) (child : ℕ) (f : Form) where
  -- its root, split at the source or not
  unfoldable pub built_root : Operator → Operator
  built_root o = cond (is_set f.split) (split_operator (row_in rows child split_form) o) o

  unfoldable pub built_top : Operator → Operator
  built_top o = top_operator f.top (row_in rows child (before_relationship f)) o

  -- what stands topmost before a relationship exchange
  unfoldable pub under_relationship : Operator → Operator
  under_relationship o = cond (eqb f.top 0) o (built_top o)

  unfoldable pub built_relationship : Operator → Operator
  built_relationship o = new_exchange 12 (row_in rows child f) (under_relationship o)

  -- the new operators above a tree with that root
  abbrev pub topped : Plan → Plan
  topped t = cond (eqb f.top 0) t (above (built_top (root t)) t)

  abbrev pub related : Plan → Plan
  related t = cond (is_set f.relationship) (above (built_relationship (root t)) (topped t)) (topped t)

  -- the child's tree in the form, here split, with a keyed exchange on top and one of a relationship
  --   leaf       to      keyed exchange
  --                        keyed exchange
  --                          leaf, split
  unfoldable pub built : Plan → Plan
  built (node o ts) = related (node (built_root o) ts)

  -- ---- the same as rows: those above a root

  unfoldable pub top_rows : Operator → List (List ℕ)
  top_rows o = cond (eqb f.top 0) [] (row_of (built_top o) 1 ∷ [])

  unfoldable pub new_rows : Operator → List (List ℕ)
  new_rows o = cond (is_set f.relationship) (row_of (built_relationship o) 1 ∷ top_rows o) (top_rows o)

  -- with the root's own, of so many children
  unfoldable pub built_rows : Operator → ℕ → List (List ℕ)
  built_rows o k = new_rows (built_root o) ++ row_of (built_root o) k ∷ []

-- the rows `out` were stored at `to`, and r is past them
abbrev pub Put : ℕ → List (List ℕ) → List (List ℕ) → List (List ℕ) → ℕ → Type 0
Put to out before after r = (r ≡ to + length out) × (after ≡ sets before to out)
