-- By the room for both texts, the lists' and the children's (`Room`).
use Prim.Native.Nat.{ℕ, ◌≤◌}
use mathlib.Core.Path.{◌≡◌, sym, ap, subst, ◌∙◌}
use mathlib.Core.List.{List}
use native.Mathlib.Omega.{arith}
use borrow.Author.Tests.{leb-true}
use lib.ListN.{length, get_or, length-append}
use Rattle.std.specs.Prelude.{option_copied}
use Rattle.text.specs.Write.{Wrote}
use Rattle.text.proofs.Stores.{wrote_then, wrote_length}
use Rattle.sheet.specs.Held.{child_count}
use Rattle.lines.specs.Texts.{key_text_of}
use Rattle.lines.specs.Children.{children_text}
use Rattle.lines.proofs.Room.{room_written}
use Rattle.answers.specs.AnswerLists.{whole_text}
use Rattle.answers.proofs.KeyLists.{key_children}
use Rattle.answers.proofs.key.write_key.Goals as goal
use Rattle.answers.proofs.key.write_key.Goals.{After-child_count-n}

counted : (c : After-child_count-n) → let x = c.args.a.now.sheet.held in c.child_count-n.result ≡ child_count x.lists.now x.counts.now
counted c = c.child_count-n.ensures ∙ ap (λ (h : List ℕ). get_or h 6 0) c.list.ensures.line

fits : (c : After-child_count-n) → let a = c.args.a.now in length (whole_text a.lists a.children a.sheet.held) ≤ length c.args.out.now
fits c = leb-true _ _ (sym c.text_fits.ensures ∙ c.if-not-text_fits.false)

pub put_children-requires : goal.put_children-requires
put_children-requires c =
    let a = c.args.a.now in let x = a.sheet.held in let h = a.sheet.bounds in let w = c.put_key_lists-at.ensures in
    let d = (goal.at.put_children-requires c).After-child_count-n in let n = counted d in
    let handed : ℕ → List ℕ = children_text (option_copied a.children.first) (option_copied a.children.others) x.lists.now x.counts.now in (
      omega (arith, n, key_children x.lists.now x.counts.now h),
      h.lines.0,
      h.lines.1,
      λ i e. h.room i (omega (arith, n)),
      omega (arith, w.place, wrote_length w, ap (λ (m : ℕ). length (handed m)) n, fits d, length-append (key_text_of a.lists) (handed (child_count x.lists.now x.counts.now))),
    )

pub returns : goal.returns
returns c =
    let a = c.args.a.now in let x = a.sheet.held in let w = c.put_key_lists-at.ensures in let d = (goal.at.returns c).After-child_count-n in
    let v = subst (λ (n : ℕ). Wrote c.put_key_lists-at.new.out c.put_key_lists-at.result (children_text (option_copied a.children.first) (option_copied a.children.others) x.lists.now x.counts.now n) c.put_children.new.out c.put_children.result)
    (counted d) c.put_children.ensures in
    room_written c.args.out.now (whole_text a.lists a.children x) (fits d) _ _ (wrote_then w v)
