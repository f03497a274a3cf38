-- `exchange::fact::index_rows` meets its contract: at each turn the index is that of the rows that were taken from the end.
use mathlib.Core.Path.{◌≡◌, ap, ◌∙◌}
use mathlib.Core.List.{List}
use Prim.Native.Nat.{ℕ}
use native.Mathlib.Omega.{arith}
use lib.ListN.{length, drop, replicate}
use Rattle.std.proofs.Common.{Iter}
use Rattle.std.specs.declared.iter.Enumerate.{Enumerate}
use Rattle.std.specs.declared.iter.Rev.{Rev}
use Rattle.exchange.proofs.FromEnd.{none_taken, whole_again}
use Rattle.exchange.proofs.Indexed.{index_again, index_begins, slot_below, index_long}
use Rattle.exchange.proofs.fact.index_rows.Goals as goal

pub loop-i-init : goal.loop-i-init
loop-i-init c =
    let same : c.into_iter-i-iterator.result.iter ≡ c.enumerate.result = ap (λ (i : Rev (Enumerate (Iter (List ℕ)))). i.iter) c.into_iter-i-iterator.ensures.into_iter_gives ∙ c.rev-i-items.ensures.source in
    let left : c.into_iter-i-iterator.result.iter.iter.rest.now ≡ c.args.rows.now =
    ap (λ (i : Enumerate (Iter (List ℕ))). i.iter.rest.now) same ∙ ap (λ (i : Iter (List ℕ)). i.rest.now) c.enumerate.ensures.source ∙ c.iter.ensures.rest in (
      ap (λ (i : Enumerate (Iter (List ℕ))). i.count) same ∙ c.enumerate.ensures.count,
      (none_taken _ _ left).1,
      c.fill.ensures.after (λ y h. h) ∙ ap (λ n. replicate n 0) c.requires ∙ index_begins _ _ left,
    )

pub offset_bounds-index-at : goal.offset_bounds-index-at
offset_bounds-index-at c = omega (arith, slot_below _ _ _ c.slot-at.ensures)

pub bounds-index-at : goal.bounds-index-at
bounds-index-at c = let left = c.loop-i.i-iterator.iter.iter.rest.now in
    omega (arith, slot_below _ _ _ c.slot-at.ensures, ap length c.loop-i.invariant.2, index_long (length left) (drop (length left) c.args.rows.now))

pub loop-i-preserved : goal.loop-i-preserved
loop-i-preserved c = let v = c.loop-i.invariant in let e = c.in-Some.ensures.steps in (
  e.0 ∙ v.0,
  whole_again c.args.rows.now _ _ _ v.1 e.1.0,
  index_again c.args.rows.now _ _ _ _ _ _ v.1 e.1.0 (omega (arith, e.1.1, e.0, v.0)) v.2 c.slot-at.ensures,
)
