-- A result whose refusal was mapped (`map_err`): what it was before.
use mathlib.Core.Path.{◌≡◌, refl}
use Rattle.std.specs.Prelude.{Result, Ok, Err, MatchResult}
use Rattle.std.specs.Result.{IsErrAnd}

module _ {T E D : Type 0} (F : E → D → Type 0) where
  pub mapped_ok : (r : Result T E) (m : Result T D) → MatchResult r (λ x. m ≡ Ok x) (λ e. IsErrAnd m (F e)) → (x : T) → m ≡ Ok x → r ≡ Ok x
  mapped_ok (Ok y) m h x e = cc
  mapped_ok (Err y) m h x e = absurd (rw e at h)

  pub mapped_err : (r : Result T E) (m : Result T D) → MatchResult r (λ x. m ≡ Ok x) (λ e. IsErrAnd m (F e)) → (d : D) → m ≡ Err d → (e : E) × (r ≡ Err e) × F e d
  mapped_err (Ok y) m h d e = absurd cc
  mapped_err (Err y) m h d e = (y, refl, (rw e at h))
