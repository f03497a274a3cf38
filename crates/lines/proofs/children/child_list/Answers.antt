-- The list that is handed, by which child it is.
use mathlib.Core.Path.{◌≡◌, refl, ap, ◌∙◌}
use borrow.Author.Tests.{eq-eqb, ne_eqb}
use denote.Ref.{Bor}
use mathlib.Core.List.{List}
use Prim.Native.Nat.{ℕ}
use Rattle.std.specs.Prelude.{Option, Some, None, unwrap_or, option_copied}
use Rattle.lines.specs.Children.{child_list}
use Rattle.lines.proofs.children.child_list.Goals as goal
use Rattle.lines.proofs.children.child_list.Goals.{then-i-eq0, else-i-eq0}

copied : (o : Option (Bor (List ℕ))) (r : Bor (List ℕ)) → (unwrap_or o r).now ≡ unwrap_or (option_copied o) r.now
copied None r = refl
copied (Some x) r = refl

pub returns : goal.returns
unfolding child_list
returns c =
    let own = c.args.own in
    ap (λ (r : Bor (List ℕ)). r.now) c.unwrap_or.ensures ∙ copied c.if-i-eq0.handed own
    ∙ elim c.if-i-eq0.branch [
      | then-i-eq0 w ↦ rw (w.handed-is, eq-eqb _ _ w.if-i-eq0.true)
      | else-i-eq0 w ↦ rw (w.handed-is, ne_eqb _ _ w.if-i-eq0.false)
    ]
