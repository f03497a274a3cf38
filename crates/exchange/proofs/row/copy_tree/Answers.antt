-- `exchange::row::copy_tree` meets its contract: one tree is a run of one.
use mathlib.Core.Path.{refl}
use Rattle.exchange.specs.Trees.{none, ◌∷ᶠ◌}
use Rattle.exchange.proofs.TreeRows.{flattens_one}
use Rattle.exchange.proofs.row.copy_tree.Goals as goal

pub copy_trees-requires : goal.copy_trees-requires
copy_trees-requires c = let p = c.requires in record {
  below = p.tree ∷ᶠ none;
  rest = p.rest;
  counted = refl;
  stands = rw flattens_one p.stands;
  fits = rw flattens_one p.fits;
}

pub returns : goal.returns
returns c = λ t rest h. rw flattens_one at (c.copy_trees.ensures (t ∷ᶠ none) rest refl (rw flattens_one h))
