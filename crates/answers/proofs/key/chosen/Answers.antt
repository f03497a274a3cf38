-- The lists that were chosen are short, and make the answer's text (`KeyChosen`).
use mathlib.Core.Path.{refl, ap, ◌∙◌}
use mathlib.Core.Bool.{cond}
use mathlib.Core.List.{[]}
use native.Mathlib.Omega.{arith}
use lib.ListN.{take, get_or, length-take}
use Rattle.keys.specs.Expressions.{expressions}
use Rattle.keys.specs.Answers.{moved_or, positions_by, places_by}
use Rattle.lines.specs.declared.key_text.KeyLists.{KeyLists}
use Rattle.lines.specs.declared.children.Children.{Children}
use Rattle.moves.specs.Chosen.{handed_list, shifted_for}
use Rattle.moves.proofs.HeldKeys.{key_lines}
use Rattle.answers.proofs.KeyChosen.{KeyChosen, ReadyKey, key_few, chosen_text}
use Rattle.answers.proofs.key.chosen.Goals as goal
use Rattle.answers.proofs.key.chosen.Goals.{After-handed_list-2}

pub shifted_keys-n-requires : goal.shifted_keys-n-requires
shifted_keys-n-requires c = let x = c.args.sheet in rw c.list-required.ensures.line (key_lines x.held.lists.now x.held.counts.now x.bounds).0

unfoldable the_lists : After-handed_list-2 → KeyLists
the_lists c = record {
  changed = c.changed.result;
  report = c.report.result;
  positions = c.args.moved.positions;
  required = c.cleared_or.result;
  left = c.moved_or.result;
  right = c.moved_or-2.result;
  directions = c.moved_or-3.result;
  projection = c.args.projection;
}

unfoldable the_children : After-handed_list-2 → Children
the_children c = record { first = c.handed_list.result; others = c.handed_list-2.result }

ready :
    (c : After-handed_list-2) → let h = c.args.sheet.held in let x = c.args.x.now in
    ReadyKey h.lists.now h.counts.now x.outcome x.cleared x.first x.others (positions_by x.outcome) c.args.moved (take c.shifted_keys-n.result c.shifted_keys-n.new.out)
ready c = let x = c.args.x.now in let k = c.shifted_keys-n.ensures in record {
  few = c.requires.pairs.few;
  moved = c.requires.pairs.moved;
  shifts = k.shifted ∙ (λ i. shifted_for x.first x.others (get_or (c.list.ensures.line i) 3 0) (expressions (c.list-required.ensures.line i)));
  short = rw length-take (omega (arith, k.few));
}

chosen :
    (c : After-handed_list-2) → let h = c.args.sheet.held in let x = c.args.x.now in
    KeyChosen h.lists.now h.counts.now x.outcome x.cleared x.first x.others (positions_by x.outcome) c.args.moved (take c.shifted_keys-n.result c.shifted_keys-n.new.out) (the_lists c) (the_children c)
unfolding the_lists the_children
chosen c = let x = c.args.x.now in let m = c.args.moved in let r = c.list-required.ensures.line in let p = c.list-mapped.ensures.line in record {
  changes = c.changed.ensures;
  reports = c.report.ensures;
  positions = refl;
  required = c.cleared_or.ensures ∙ ap (cond x.cleared []) r;
  left_is = c.moved_or.ensures ∙ ap (moved_or x.outcome m.left.now) c.list-2.ensures.line;
  right_is = c.moved_or-2.ensures ∙ ap (moved_or x.outcome m.right.now) c.list-3.ensures.line;
  directions = c.moved_or-3.ensures ∙ ap (moved_or x.outcome m.directions.now) c.list-4.ensures.line;
  first_is = c.handed_list.ensures ∙ (λ i. handed_list x.first (r i) c.moved_or.result.now (take c.shifted_keys-n.result c.shifted_keys-n.new.out) (p i));
  others_are = c.handed_list-2.ensures ∙ (λ i. handed_list x.others (r i) c.moved_or-2.result.now (take c.shifted_keys-n.result c.shifted_keys-n.new.out) (p i));
}

pub invariant_of-result : goal.invariant_of-result
unfolding the_lists the_children
invariant_of-result c = let h = c.args.sheet.held in let x = c.args.x.now in let d = (goal.at.invariant_of-result c).After-handed_list-2 in
    record { few = key_few h.lists.now h.counts.now x.outcome x.cleared x.first x.others (positions_by x.outcome) _ (take c.shifted_keys-n.result c.shifted_keys-n.new.out) (chosen d) (ready d) c.requires.names.few c.args.sheet.bounds }

pub returns : goal.returns
unfolding the_lists the_children
returns c = let h = c.args.sheet.held in let x = c.args.x.now in let d = (goal.at.returns c).After-handed_list-2 in
    chosen_text h.lists.now h.counts.now x.outcome x.cleared x.first x.others (positions_by x.outcome) _ (take c.shifted_keys-n.result c.shifted_keys-n.new.out) (chosen d) (ready d) (places_by x.outcome)
    c.requires.names.names
