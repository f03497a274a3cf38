-- `linekinds::pack::pack_exprs` meets its contract. The array filled so far, with what is left, is its front and the entries packed.
use Rattle.std.proofs.Common.{arith, length-take, length-drop}
use Prim.Native.Nat.{ℕ, ◌+◌, ◌-◌, ◌/◌, ◌≤◌}
use mathlib.Core.Path.{◌≡◌, refl, sym, ap, subst, ◌∙◌}
use mathlib.Core.List.{List, [], ◌++◌, map}
use lib.ListN.{length, get_or, take, drop, length-set}
use Rattle.keys.proofs.Turns.{fill_turn, fill_end}
use Rattle.linekinds.proofs.Packing.{pack_three, threes_packed, SmallThree, threes_small, packed_behind, behind_long, behind_first, behind_at, small_from, packs_from}
use Rattle.linekinds.proofs.pack.pack_exprs.Goals as goal

pub loop-i-init : goal.loop-i-init
loop-i-init c =
    let z : c.args.from + 0 ≡ c.args.from = omega arith in
    (c.told-out, rw z (behind_first c.args.from c.args.out.now _ (omega (arith, c.requires.2, c.told-out))))

pub pack-requires : goal.pack-requires
pack-requires c =
    let rs = c.args.rows.now in let i = c.args.from in let rest = take (length rs - i) (drop i rs) in
    subst SmallThree (ap (λ xs. get_or xs c.loop-i.i []) (sym c.as_chunks.ensures.front))
    (threes_small (length rest / 3) c.loop-i.i rest refl (omega (arith, c.loop-i-test.true, c.as_chunks.ensures.front_len)) (small_from rs i c.requires.3))

pub loop-i-preserved : goal.loop-i-preserved
loop-i-preserved c =
    let v = c.loop-i.invariant in let xs = c.as_chunks.result.0.now in let i = c.args.from in let out = c.args.out.now in
    let h : i ≤ length out = omega (arith, c.requires.2, c.told-out) in
    let long = behind_long i out xs h in
    let few = simp (length-take, length-drop) at c.as_chunks.ensures.front_len in
    let at : c.pack.result.number ≡ get_or (packed_behind i out xs) (i + c.loop-i.i) 0 = c.pack.ensures ∙ sym (behind_at i out xs h c.loop-i.i) in
    let next : i + (c.loop-i.i + 1) ≡ i + c.loop-i.i + 1 = omega arith in (
      simp length-set v.0,
      rw next
          (fill_turn (packed_behind i out xs) c.loop-i.out (i + c.loop-i.i) v.1 c.pack.result.number 0 (omega (arith, long, c.loop-i-test.true)) (omega (arith, v.0, few, c.loop-i-test.true, c.requires)) at),
    )

pub returns : goal.returns
returns c =
    let v = c.loop-i.invariant in let xs = c.as_chunks.result.0.now in let i = c.args.from in let out = c.args.out.now in let rs = c.args.rows.now in
    let rest = take (length rs - i) (drop i rs) in
    let long = behind_long i out xs (omega (arith, c.requires.2, c.told-out)) in
    let few = simp (length-take, length-drop) at c.as_chunks.ensures.front_len in
    let whole : length xs ≡ c.loop-i.i = omega (arith, c.loop-i.auto.i-end, c.loop-i-test.false) in (
      omega (arith, few, c.requires),
      ap (λ (n : ℕ). take (i + n) c.loop-i.out) whole ∙ fill_end (packed_behind i out xs) c.loop-i.out (i + c.loop-i.i) v.1 (omega (arith, long, c.loop-i-test.false))
          ∙ ap (λ (ns : List ℕ). take i out ++ ns) (ap (map pack_three) c.as_chunks.ensures.front ∙ threes_packed (length rest / 3) rest refl ∙ packs_from rs i),
    )
