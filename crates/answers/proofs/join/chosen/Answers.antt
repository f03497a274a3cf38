-- The lists that were chosen are short, and make the answer's text (`JoinChosen`).
use mathlib.Core.Path.{refl, ap, ◌∙◌}
use Rattle.lines.specs.declared.join_text.JoinLists.{JoinLists}
use Rattle.moves.specs.Chosen.{followed_or}
use Rattle.answers.proofs.JoinChosen.{JoinChosen, join_short_lists, chosen_join_text}
use Rattle.answers.proofs.join.chosen.Goals as goal
use Rattle.answers.proofs.join.chosen.Goals.{After-followed_or-3}

unfoldable the_lists : After-followed_or-3 → JoinLists
the_lists c = record {
  report = c.report.result;
  followed = c.followed.result;
  positions = c.args.moved.positions;
  left = c.followed_or.result;
  right = c.followed_or-2.result;
  directions = c.followed_or-3.result;
}

chosen : (c : After-followed_or-3) → JoinChosen c.args.sheet.held.lists.now c.args.sheet.held.counts.now c.args.o.now c.args.moved (the_lists c)
unfolding the_lists
chosen c = let o = c.args.o.now in let m = c.args.moved in record {
  reports = c.report.ensures;
  follows = c.followed.ensures;
  positions = refl;
  left_is = c.followed_or.ensures ∙ ap (followed_or o m.left.now) c.list.ensures.line;
  right_is = c.followed_or-2.ensures ∙ ap (followed_or o m.right.now) c.list-2.ensures.line;
  directions = c.followed_or-3.ensures ∙ ap (followed_or o m.directions.now) c.list-3.ensures.line;
}

pub returns-clause-few : goal.returns-clause-few
unfolding the_lists
returns-clause-few c = let x = c.args.sheet in let d = (goal.at.returns-clause-few c).After-followed_or-3 in
    join_short_lists x.held.lists.now x.held.counts.now c.args.o.now _ (chosen d) c.requires.few c.requires.moved x.bounds

pub returns-clause-text : goal.returns-clause-text
unfolding the_lists
returns-clause-text c = let x = c.args.sheet in let d = (goal.at.returns-clause-text c).After-followed_or-3 in
    chosen_join_text x.held.lists.now x.held.counts.now c.args.o.now _ (chosen d) c.requires.few c.requires.moved
