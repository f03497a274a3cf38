-- What a line of judged fields answers, by the tests that its reader makes.
-- Assumes nothing.
use mathlib.Core.Path.{◌≡◌, refl, sym, subst}
use mathlib.Core.List.{List, map}
use mathlib.Core.Option.{Option, none, some}
use mathlib.Core.Bool.{Bool, true, false, cond}
use Prim.Native.Nat.{ℕ, ◌≤◌}
use native.Mathlib.Omega.{arith}
use lib.ListN.{length, take, drop, length-map}
use Rattle.text.specs.declared.field.Field.{Field}
use Rattle.text.specs.Text.{row, line, line_fields, line_at, after}
use Rattle.text.specs.Read.{line_read, stored_in}
use Rattle.text.specs.Bounds.{fits_rows, judged}
use Rattle.text.specs.declared.line.Fields.{Fields}
use Rattle.text.specs.declared.bounds.Judged.{Judged}
use Rattle.text.specs.declared.bounds.Misfit.TheVariants.{Unfit, Wrong}
use Rattle.std.specs.Prelude.{None, Some}
use Rattle.std.specs.Prelude.{Ok, Err}
use Rattle.text.proofs.Answers.{Opened, opened, rows_held}
use Rattle.text.proofs.Limits.{uneven}

pub wrong : (bs : List (List ℕ)) (next : ℕ) (x : Option (List Field)) → None ≡ line_read next x → Err Wrong ≡ judged bs next x
wrong bs next none e = refl
wrong bs next (some fs) e = absurd (cc)

-- what is answered of a line within its bounds
abbrev line_of : Fields → Judged
line_of f = record { count = f.count; next = f.next }

judged_is : (bs : List (List ℕ)) (next : ℕ) (x : Option (List Field)) (f : Fields) (o : Opened next x f) → judged bs next x ≡ cond (fits_rows bs (map row o.fs)) (Ok (line_of f)) (Err Unfit)
judged_is bs next x f o = rw (o.counts, o.goes, o.is)

module _ (bs : List (List ℕ)) (letter : ℕ) (s : List ℕ) (at : ℕ) (f : Fields) (e : Some f ≡ line_read (after s at) (line_at letter s at)) where
  o : Opened (after s at) (line_at letter s at) f
  o = opened (after s at) (line_at letter s at) f e

  answer : judged bs (after s at) (line_at letter s at) ≡ cond (fits_rows bs (map row o.fs)) (Ok (line_of f)) (Err Unfit)
  answer = judged_is bs _ _ f o

  pub other_count : (f.count ≡ length bs → ⊥) → Err Unfit ≡ judged bs (after s at) (line_at letter s at)
  other_count ne = rw (answer, uneven bs (map row o.fs) (λ q. ne (omega (arith, length-map o.fs row, o.counts))))

  module _ (out out' : List (List ℕ)) (stored : out' ≡ stored_in out (line_fields letter (line (drop at s)))) (room : f.count ≤ length out) where
    held : take f.count out' ≡ map row o.fs
    held = subst (λ (n : ℕ). take n out' ≡ map row o.fs) (sym o.counts) (rows_held letter s at o.fs o.is out out' stored (omega (arith, o.counts)))

    pub fit : (r : Bool) → r ≡ fits_rows bs (take f.count out') → r ≡ true → Ok (line_of f) ≡ judged bs (after s at) (line_at letter s at)
    fit r is t = rw (answer, ← held, ← is, t)

    pub unfit : (r : Bool) → r ≡ fits_rows bs (take f.count out') → r ≡ false → Err Unfit ≡ judged bs (after s at) (line_at letter s at)
    unfit r is t = rw (answer, ← held, ← is, t)
