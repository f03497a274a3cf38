-- `linekinds::lists::read_list` meets its contract: what `list_at` found (`list_read`), or else what `judged_list` answers.
use Prim.Native.Nat.{ℕ, ◌+◌}
use mathlib.Core.Path.{◌≡◌, subst}
use mathlib.Core.List.{List}
use native.Mathlib.Omega.{arith}
use Rattle.std.specs.Prelude.{Option, Some}
use Rattle.linekinds.specs.ListLines.{line_letter, line_codes}
use Rattle.linekinds.specs.PlainText.{ListAt, ListFound}
use Rattle.linekinds.specs.declared.kind.Codes.{Codes}
use Rattle.linekinds.specs.declared.plain.Entries.{Entries}
use Rattle.linekinds.proofs.PlainLines.{list_read}
use Rattle.linekinds.proofs.lists.read_list.Goals as goal

-- what `list_at` found, of the codes and the letter that line i has
quick : (s : List ℕ) (at : ℕ) (k : Codes) (letter : ℕ) (c : Codes) (l : ℕ) → c ≡ k → l ≡ letter → (r : Option Entries) (list : List ℕ) → ListFound c l s at r list → (e : Entries) → r ≡ Some e → ListAt k letter s at e.count (e.end + 1) list
quick s at k letter c l p q r list f e is =
    subst (λ (x : Option Entries). ListFound k letter s at x list) is
    (subst (λ (x : Codes). ListFound x letter s at r list) p (subst (λ (y : ℕ). ListFound c y s at r list) q f))

pub overflow_add-result : goal.overflow_add-result
overflow_add-result c = let a = c.args in let f = quick a.s.now a.at (line_codes a.k a.i) (line_letter a.k a.i) _ _ c.codes.ensures c.letter.ensures _ _ c.list_at.ensures.1 c.in-Some.entries c.in-Some.is in omega (arith, f.early)

pub returns : goal.returns
returns c =
    let a = c.args in
    list_read a.s.now a.at a.k a.i _ _ c.list_at.new.list c.list_at.ensures.0 (quick a.s.now a.at (line_codes a.k a.i) (line_letter a.k a.i) _ _ c.codes.ensures c.letter.ensures _ _ c.list_at.ensures.1 c.in-Some.entries c.in-Some.is)
