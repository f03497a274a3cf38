-- The exact length of both texts, or the room that is known to do.
use Prim.Native.Nat.{ℕ, ◌≤◌}
use mathlib.Core.Path.{◌≡◌, ap, ◌∙◌}
use mathlib.Core.List.{List}
use native.Mathlib.Omega.{arith}
use lib.ListN.{length, get_or}
use Rattle.std.specs.Prelude.{Option, Some, None, IfSome}
use Rattle.sheet.specs.Held.{child_count}
use Rattle.answers.proofs.KeyLists.{key_children}
use Rattle.answers.proofs.key.text_fits.Goals as goal

wider : (o : Option (List ℕ)) → IfSome o (λ l. length l ≤ 32) → IfSome o (λ l. length l ≤ 64)
wider None h = tt
wider (Some l) h = omega arith

pub children_length-requires : goal.children_length-requires
children_length-requires c =
    let x = c.args.a.now.sheet in let h = x.bounds in let f = c.args.a.now.few in
    let counted : c.child_count-n.result ≡ child_count x.held.lists.now x.held.counts.now = c.child_count-n.ensures ∙ ap (λ (h : List ℕ). get_or h 6 0) c.list.ensures.line in
    (omega (arith, counted, key_children x.held.lists.now x.held.counts.now h), h.lines.0, h.lines.1, wider _ f.first, wider _ f.others, λ i e. h.room i (omega (arith, counted)))
