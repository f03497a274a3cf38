-- The whole decision on a tree and its facts.
-- Renders `ensure_distribution` of 000; document 01, "Steps as in 000", the answer's paragraph, and refusals 9 and 11.
use Rattle.std.specs.Prelude.{ℕ, Bool, true, false, cond, not, ◌&&◌, List, [], ◌∷◌, eqb, length}
use Rattle.std.proofs.Math.Option.{Option, some, none as nothing}
use Rattle.exchange.specs.Trees.{node, none, ◌∷ᶠ◌, Operator, Plan, Plans}
use Rattle.exchange.specs.declared.settings.Settings.{Settings}
use Rattle.exchange.specs.Settings.{is_set}
use Rattle.exchange.specs.Facts.{Facts}
use Rattle.exchange.specs.Operators.{is_window, is_union, mark}
use Rattle.exchange.specs.Children.{is_leaf, update_children, remove_dist_changing_operators}
use Rattle.exchange.specs.States.{ChildState, children_from}
use Rattle.exchange.specs.Status.{get_repartition_requirement_status}
use Rattle.exchange.specs.Step.{ensure_children}
use Rattle.exchange.specs.Relationships.{Enforced, row_missing, stuck, enforced, enforce_distribution_relationships}
use Rattle.exchange.specs.Order.{handle_order}

-- the d line, and the tree of the t lines
pub record Answer : Type 0 where
  pub changed : ℕ
  pub window : ℕ
  pub interleave : ℕ
  pub tracked : ℕ
  pub plan : Plan

-- refusal 9 (a row is needed and missing), refusal 11 (relationships can't be enforced), or the answer
pub data Ensured : Type 0 where
  missing_row : Ensured
  unenforceable : Ensured
  answered : Answer → Ensured

-- ---- union to interleave

-- every child is hashed as that layout says
unfoldable pub all_layouts : ℕ → List ChildState → Bool
all_layouts layout [] = true
all_layouts layout (c ∷ cs) = eqb c.row.layout layout && all_layouts layout cs

-- there are children, hashed alike
abbrev pub can_interleave : List ChildState → Bool
can_interleave [] = false
can_interleave (c ∷ cs) = not (eqb c.row.layout 0) && all_layouts c.row.layout cs

-- a union, where no preference for unions is set
abbrev pub becomes_interleave : Settings → Operator → List ChildState → Bool
becomes_interleave s worked cs = is_union worked && (eqb s.union 0 && can_interleave cs)

-- a union dealt in turn: its order is lost
--   union, order 5       to      interleave
abbrev pub interleaved : Operator → Operator
interleaved o = record {
  id = o.id;
  kind = 14;
  count = o.count;
  keeps = o.keeps;
  limit = o.limit;
  order = 0;
  mask = o.mask;
  tracked = o.tracked;
  need = o.need;
}

-- ---- the whole

module _ (s : Settings) (f : Facts) where
  -- go on to the relationship rounds where no row is missing
  abbrev pub relate : Option (List ChildState) → Enforced
  relate nothing = row_missing
  relate (some cs) = enforce_distribution_relationships f.rows f.masks cs

  -- what the children of a worked node come to, each by its step and by the rounds
  unfoldable pub child_states : Plan → Enforced
  child_states (node worked ts) =
      relate (ensure_children s worked f.node f.rows (get_repartition_requirement_status s (children_from 1 ts f.children)))

  -- the children's trees after order handling, of a worked node with so many children
  unfoldable pub handled : Operator → ℕ → List ChildState → Plans
  handled worked n [] = none
  handled worked n (c ∷ cs) = handle_order s f.node worked n c ∷ᶠ handled worked n cs

  -- the answer, once every child has what it needs
  unfoldable pub finished : Operator → List ChildState → Answer
  finished worked cs =
      let interleaves = becomes_interleave s worked cs in
      record {
        changed = 1;
        window = mark (is_window worked && is_set f.node.window);
        interleave = mark interleaves;
        tracked = worked.tracked;
        plan = node (cond interleaves (interleaved worked) worked) (handled worked (length cs) cs);
      }

  -- the outcome by what the children came to
  abbrev pub ensured_by : Operator → Enforced → Ensured
  ensured_by worked row_missing = missing_row
  ensured_by worked stuck = unenforceable
  ensured_by worked (enforced cs) = answered (finished worked cs)

  -- from the worked node on
  abbrev pub ensure_worked : Plan → Ensured
  ensure_worked (node worked ts) = ensured_by worked (child_states (node worked ts))

  -- a leaf returns unchanged, its mark cleared
  abbrev pub unchanged : Plan → Ensured
  unchanged t = answered (record { changed = 0; window = 0; interleave = 0; tracked = 0; plan = t })

  -- the root is no leaf
  abbrev pub has_children : Plan → Bool
  has_children (node o ts) = not (is_leaf ts)

  -- `ensure_distribution`: marks, the leaf, the worked node, and all that is decided there
  unfoldable pub ensured : Plan → Ensured
  ensured t = let u = update_children t in cond (has_children u) (ensure_worked (remove_dist_changing_operators u)) (unchanged u)
