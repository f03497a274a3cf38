-- The length so far, with that of the lines from child `i` on, is that of all.
use Prim.Native.Nat.{◌+◌}
use native.Mathlib.Omega.{arith}
use mathlib.Core.Path.{ap, ◌∙◌}
use mathlib.Core.List.{List}
use Prim.Native.Nat.{ℕ}
use lib.ListN.{length}
use Rattle.std.specs.Prelude.{option_copied}
use Rattle.keys.specs.Expressions.{expressions}
use Rattle.sheet.specs.KeyAnswers.{exprs_line}
use Rattle.lines.specs.Children.{child_list}
use Rattle.lines.proofs.Pieces.{adding_more, adding_done}
use Rattle.lines.proofs.ChildPieces.{held_few, child_few, children_pieces}
use Rattle.lines.proofs.children.children_length.Goals as goal

pub exprs_length-length-requires : goal.exprs_length-length-requires
exprs_length-length-requires c = let h = c.args.held in
    rw (c.child_list.ensures, c.list.ensures) (child_few _ _ _ c.loop-i.i 64 c.requires.3 c.requires.4 (held_few h.lists.now h.counts.now _ 64 (c.requires.5 (9 + c.loop-i.i) (omega (arith, c.loop-i-test.true)))))

pub loop-i-preserved : goal.loop-i-preserved
loop-i-preserved c = let x = c.args.children in
    adding_more _ _ 0 4096 _ _ c.loop-i.invariant c.loop-i-test.true _
    (c.exprs_length-length.ensures.exact 67 ∙ ap (λ (ks : List ℕ). length (exprs_line 67 (expressions ks))) (c.child_list.ensures ∙ ap (child_list c.loop-i.i (option_copied x.first) (option_copied x.others)) c.list.ensures))
    c.exprs_length-length.ensures.few

pub returns-clause-exact : goal.returns-clause-exact
returns-clause-exact c = let x = c.args.children in let h = c.args.held in
    omega (arith, adding_done _ _ 0 4096 _ _ c.loop-i.invariant c.loop-i-test.false, ap length (children_pieces (option_copied x.first) (option_copied x.others) h.lists.now h.counts.now c.args.n))
