-- What a judge's answer says of the number that it found, and the other way round.
use Rattle.std.specs.Prelude.{◌≡◌, ◌≤◌, ℕ, zero, suc, Bool, true, false, cond, eqb, Result, Ok, Err}
use mathlib.Core.Path.{refl}
use native.Mathlib.Omega.{arith}
use borrow.Author.Tests.{ne_eqb, eqb-true, eqb-false}
use Rattle.refusals.specs.declared.Refusal.{Refusal}
use Rattle.refusals.specs.Refusals.{refusal_number, refusal_of, judged_by}

abbrev judged_at : Bool → ℕ → Result (Unit {0}) Refusal
judged_at t n = cond t (Ok tt) (Err (refusal_of n))

ok_at : (t : Bool) (n : ℕ) (u : Unit {0}) → eqb n 0 ≡ t → Ok u ≡ judged_at t n → n ≡ 0
ok_at true n u e q = eqb-true n 0 e
ok_at false n u e q = absurd (cc)

-- nothing was turned back
pub judged_ok : (n : ℕ) (u : Unit {0}) → Ok u ≡ judged_by n → n ≡ 0
judged_ok n u q = ok_at (eqb n 0) n u refl q

err_at : (t : Bool) (n : ℕ) (r : Refusal) → eqb n 0 ≡ t → Err r ≡ judged_at t n → (n ≡ 0 → ⊥) × (r ≡ refusal_of n)
err_at true n r e q = absurd (cc)
err_at false n r e q = (eqb-false n 0 e, cc)

-- it was turned back, for the refusal of the number
pub judged_err : (n : ℕ) (r : Refusal) → Err r ≡ judged_by n → (n ≡ 0 → ⊥) × (r ≡ refusal_of n)
judged_err n r q = err_at (eqb n 0) n r refl q

pub judged_some : (n : ℕ) → (n ≡ 0 → ⊥) → Err (refusal_of n) ≡ judged_by n
judged_some n h = rw (ne_eqb n 0 h)

-- a number from 1 to 12 is that of its refusal
pub number_again : (n : ℕ) → (n ≡ 0 → ⊥) → n ≤ 12 → refusal_number (refusal_of n) ≡ n
number_again zero h k = absurd (h refl)
number_again (suc zero) h k = refl
number_again (suc (suc zero)) h k = refl
number_again (suc (suc (suc zero))) h k = refl
number_again (suc (suc (suc (suc zero)))) h k = refl
number_again (suc (suc (suc (suc (suc zero))))) h k = refl
number_again (suc (suc (suc (suc (suc (suc zero)))))) h k = refl
number_again (suc (suc (suc (suc (suc (suc (suc zero))))))) h k = refl
number_again (suc (suc (suc (suc (suc (suc (suc (suc zero)))))))) h k = refl
number_again (suc (suc (suc (suc (suc (suc (suc (suc (suc zero))))))))) h k = refl
number_again (suc (suc (suc (suc (suc (suc (suc (suc (suc (suc zero)))))))))) h k = refl
number_again (suc (suc (suc (suc (suc (suc (suc (suc (suc (suc (suc zero))))))))))) h k = refl
number_again (suc (suc (suc (suc (suc (suc (suc (suc (suc (suc (suc (suc zero)))))))))))) h k = refl
number_again (suc (suc (suc (suc (suc (suc (suc (suc (suc (suc (suc (suc (suc n))))))))))))) h k = absurd (omega arith)
