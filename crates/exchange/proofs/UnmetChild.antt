-- Without demand 3's condition the guarantee is false: a keyed child of one partition that does not gain is split at its source into four,
-- hashing was not necessary before the split, and its need is met by nothing. The sheet is `finding-keyed-child-unmet` of the folder examples.
use mathlib.Core.Path.{◌≡◌, refl}
use mathlib.Core.Bool.{true, false}
use mathlib.Core.Option.{none as nothing}
use mathlib.Core.List.{List, [], ◌∷◌}
use lib.ListN.{length}
use Rattle.keys.proofs.Truths.{true_false}
use Rattle.exchange.specs.Trees.{root, Plan}
use Rattle.exchange.specs.declared.settings.Settings.{Settings}
use Rattle.exchange.specs.Forms.{split_form}
use Rattle.exchange.specs.Facts.{Facts, row_of}
use Rattle.exchange.specs.Operators.{above}
use Rattle.exchange.specs.Children.{any_unspecified, update_each, remove_dist_changing_operators}
use Rattle.exchange.specs.States.{ChildState, children_from, each_of}
use Rattle.exchange.specs.Status.{needs_alignment}
use Rattle.exchange.specs.Step.{ensure_child}
use Rattle.exchange.specs.Relationships.{enforced, given_set, rounds}
use Rattle.exchange.specs.Replace.{replace_order_preserving_variants}
use Rattle.exchange.specs.Order.{handle_order}
use Rattle.exchange.specs.Ensure.{Answer, answered, child_states, handled, finished, ensured}
use Rattle.exchange.specs.Fit.{within_bits, all_within_bits, is_repeated, none_repeated, child_numbered, rows_fit, facts_fit}
use Rattle.exchange.specs.Partitioning.{beneath_sorts, splits_gain, none_added, worked_of, children_of, EachHas, Partitioned}
use Rattle.exchange.proofs.Cases.{settings, child, row, facts, line, told, leaf}

abbrev pub s : Settings
s = settings 4 0 1 8192 0 9 0 0 0

abbrev pub f : Facts
f = facts 0 0 0 0 (child 0 1 2 0 0 1 0 ∷ []) (row 1 0 1 0 0 1 1 0 0 0 0 0 0 ∷ row 1 1 4 0 0 0 0 0 0 0 0 0 0 ∷ []) (0 ∷ 0 ∷ [])

abbrev pub t : Plan
t = above (line 1 0 1 0 nothing 0 0 0) (leaf (line 2 0 1 0 nothing 0 0 2))

abbrev pub a : Answer
a = record {
  changed = 1;
  window = 0;
  interleave = 0;
  tracked = 0;
  plan = above (told 1 0 1 0 nothing 0 0 0 0) (leaf (told 2 0 4 0 nothing 0 0 1 2));
}

-- the sheet is decided, its facts fit, and only the condition on splits fails
pub decided : ensured s f t ≡ answered a
unfolding row_of any_unspecified update_each remove_dist_changing_operators children_from each_of needs_alignment ensure_child given_set rounds replace_order_preserving_variants handle_order child_states handled finished ensured
decided = refl

pub fits : facts_fit s f t ≡ true
unfolding remove_dist_changing_operators children_from within_bits all_within_bits is_repeated none_repeated child_numbered rows_fit facts_fit
fits = refl

pub fresh : none_added (children_of f t) ≡ true
unfolding none_added remove_dist_changing_operators update_each children_from
fresh = refl

pub splits_without_gain : splits_gain s (children_of f t) ≡ false
unfolding splits_gain remove_dist_changing_operators update_each children_from
splits_without_gain = refl

-- the child's state: split, four partitions
abbrev split : ChildState
split = record {
  number = 1;
  facts = child 0 1 2 0 0 1 0;
  need = 2;
  form = split_form;
  row = row 1 1 4 0 0 0 0 0 0 0 0 0 0;
  plan = leaf (told 2 0 4 0 nothing 0 0 1 2);
}

state : child_states s f (worked_of t) ≡ enforced (split ∷ [])
unfolding row_of any_unspecified update_each remove_dist_changing_operators children_from each_of needs_alignment ensure_child given_set rounds child_states
state = refl

has_not : EachHas s f (root (worked_of t)) 1 (children_of f t) (split ∷ []) → ⊥
unfolding update_each remove_dist_changing_operators children_from handle_order beneath_sorts
has_not h = true_false h.0.had refl

pub unmet : Partitioned s f t a → ⊥
unmet p = go p.states p.reached p.each
  where
    go : (ds : List ChildState) → child_states s f (worked_of t) ≡ enforced ds → EachHas s f (root (worked_of t)) (length ds) (children_of f t) ds → ⊥
    go ds e h = let same : ds ≡ split ∷ [] = cc state in has_not (rw same at h)
