-- By the room for the text (`Room`).
use Prim.Native.Nat.{◌≤◌}
use mathlib.Core.Path.{sym, ◌∙◌}
use borrow.Author.Tests.{leb-true}
use lib.ListN.{length}
use Rattle.lines.specs.Texts.{join_text_of}
use Rattle.lines.proofs.Room.{room_written}
use Rattle.answers.proofs.join.write_join.Goals as goal

pub returns : goal.returns
returns c = let fits : length (join_text_of c.args.x.now) ≤ length c.args.out.now = leb-true _ _ (sym c.text_fits.ensures ∙ c.if-not-text_fits.false) in
    room_written c.args.out.now (join_text_of c.args.x.now) fits _ _ c.put_join_lists.ensures
