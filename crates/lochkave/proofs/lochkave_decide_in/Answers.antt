-- `lochkave_decide_in` meets its contract: by the first byte in rooms that suffice, else in its own.
use mathlib.Core.Path.{sym, ap}
use mathlib.Core.Logic.{inl}
use native.Mathlib.Omega.{arith}
use lib.Seq.{length-take-le}
use Rattle.std.proofs.Common.{◌≡◌, ◌∙◌, rules, length}
use Rattle.sheet.specs.Outcomes.{within, written_by}
use Rattle.sheet.specs.KeyAnswers.{Outcome}
use Rattle.lochkave.specs.Decision.{decision}
use Rattle.lochkave.specs.Entry.{outcome}
use Rattle.lochkave.proofs.Worded.{worded, lined, within_worded, decision_worded, decision_other}
use Rattle.lochkave.proofs.lochkave_decide_in.Goals as goal
use Rattle.lochkave.proofs.lochkave_decide_in.Goals.{in-75, in-73, in_default, Joined-first_byte}

pub slice_bounds-lent-end-in_default : goal.slice_bounds-lent-end-in_default
slice_bounds-lent-end-in_default c = let t = c.trees_fit.ensures.0 c.if-not-trees_fit.false in
    sym (length-take-le 256 c.args.rows.now t.treed)

pub slice_bounds-lent-end-in_default-3 : goal.slice_bounds-lent-end-in_default-3
slice_bounds-lent-end-in_default-3 c = let t = c.trees_fit.ensures.0 c.if-not-trees_fit.false in
    sym (length-take-le 536 c.args.dst.now t.answered)

pub slice_bounds-lent-end-in_default-5 : goal.slice_bounds-lent-end-in_default-5
slice_bounds-lent-end-in_default-5 c = let t = c.trees_fit.ensures.0 c.if-not-trees_fit.false in
    sym (length-take-le 129 c.args.index.now t.indexed)

pub distribute_in-requires : goal.distribute_in-requires
distribute_in-requires c = let k = c.keys_fit.ensures.0 c.if-not-keys_fit.false in
    let t = c.trees_fit.ensures.0 c.if-not-trees_fit.false in
    let a = c.args in let tree = length-take-le 256 a.rows.now t.treed in
    let answer = length-take-le 536 a.dst.now t.answered in
    record {
      wide = k.wide;
      treed = inl (omega (arith, tree));
      rowed = inl t.rowed;
      between = omega (arith, tree, t.between);
      answered = omega (arith, tree, answer);
      bounded = omega (arith, answer);
      masked = t.masked;
      indexed = length-take-le 129 a.index.now t.indexed;
    }

written : (c : Joined-first_byte) → c.match-first_byte.word ≡ written_by (outcome c.args.sheet.now (length c.args.out.now))
unfolding decision
written c = elim c.match-first_byte.branch [ in-75 w ↦ search rules | in-73 w ↦ search rules | in_default w ↦ w.word-is ∙ w.distribute_in.ensures.0 ∙ ap (λ (o : Outcome). written_by (within (length c.args.out.now) o)) (sym (decision_other c.args.sheet.now c.first_byte.result c.first_byte.ensures (search rules) (search rules))) ]

pub word-requires : goal.word-requires
word-requires c = lined _ _ (within_worded _ _ (decision_worded c.args.sheet.now)) (written c)

pub returns-clause-result : goal.returns-clause-result
returns-clause-result c = c.word.ensures ∙ worded _ _ (within_worded _ _ (decision_worded c.args.sheet.now)) (written (goal.at.returns-clause-result c).Joined-first_byte)
