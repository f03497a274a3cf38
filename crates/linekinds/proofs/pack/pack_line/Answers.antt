-- The mark of an input line, and what packing the rest gives behind it; other numbers as they stand (`copied_front`).
use mathlib.Core.Path.{◌≡◌, sym, ap, ◌∙◌}
use mathlib.Core.Logic.{◌⊎◌, inl, inr}
use mathlib.Core.List.{List, [], ◌++◌}
use Prim.Native.Nat.{ℕ, ◌≤◌}
use native.Mathlib.Omega.{arith}
use lib.ListN.{length, get_or, take, drop, length-map}
use lib.Seq.{length-sets}
use Rattle.linekinds.specs.Reading.{row_value, row_values, packs, packed_by, Fits}
use Rattle.linekinds.specs.declared.kind.Codes.{Codes}
use Rattle.linekinds.specs.declared.kind.Codes.TheVariants.{Key, Join, Directions, Names}
use Rattle.linekinds.proofs.Defined.{row_value_lem}
use Rattle.linekinds.proofs.Packing.{first_put, copied_front}
use Rattle.linekinds.proofs.pack.pack_line.Goals as goal

pub returns-in-Input : goal.returns-in-Input
returns-in-Input c =
    let rs = c.args.rows.now in let e = c.pack_exprs-in-Input.ensures in
    let fits = rw c.in-Input.is at c.requires.0 in (
      omega (arith, c.pack_exprs-in-Input.array_long),
      e.0,
      rw c.in-Input.is (
          e.1 ∙ ap (λ (xs : List ℕ). xs ++ packs (drop 1 (row_values rs)))
          (first_put c.args.out.now (row_values rs) (get_or (get_or rs 0 []) 1 0) (omega (arith, c.told-out)) (rw (length-map rs row_value) fits.0) (sym (row_value_lem rs 0)))
          ),
    )

-- a line whose list is its numbers as they stand
plain_list :
    (c : Codes) → (c ≡ Key) ⊎ (c ≡ Join) ⊎ (c ≡ Directions) ⊎ (c ≡ Names) → (n : ℕ) (ns : List ℕ) → Fits c n → (n ≤ 64) × (ns ≡ packed_by c ns)
plain_list c (inl e) n ns f = let g : n ≡ 7 = rw e at f in (omega (arith, g), rw e)
plain_list c (inr (inl e)) n ns f = let g : n ≡ 2 = rw e at f in (omega (arith, g), rw e)
plain_list c (inr (inr (inl e))) n ns f = let g : n ≤ 32 = rw e at f in (omega (arith, g), rw e)
plain_list c (inr (inr (inr e))) n ns f = let g : n ≤ 32 = rw e at f in (omega (arith, g), rw e)

pub returns-in-Key : goal.returns-in-Key
returns-in-Key c =
    let rs = c.args.rows.now in let p = plain_list c.args.c c.in-Key.is (length rs) (row_values rs) c.requires.0 in let e = c.copy_numbers.ensures in
    (ap length e ∙ simp length-sets c.told-out, p.0, ap (take (length rs)) e ∙ copied_front rs c.args.out.now (omega (arith, p.0, c.told-out)) ∙ p.1)
