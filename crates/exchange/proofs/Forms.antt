-- A form put together and taken apart again is the same, and so the other way for the sixteen forms: quotients and remainders by 2, 4 and 8.
-- Assumes nothing.
use Prim.Native.Nat.{ℕ, ◌+◌, ◌*◌, ◌≤◌, ◌<◌, ◌/◌, ◌%◌}
use mathlib.Core.Path.{◌≡◌}
use native.Mathlib.Omega.{arith}
use Rattle.exchange.specs.Forms.{Form, form_number, form_of}

module _ (f : Form) (s : f.split ≤ 1) (t : f.top ≤ 3) (r : f.relationship ≤ 1) where
  pub form_small : form_number f < 16
  form_small = omega arith

  pub form_apart : form_of (form_number f) ≡ f
  form_apart =
      let a : form_number f % 2 ≡ f.split = omega arith in
      let h : form_number f / 2 ≡ 4 * f.relationship + f.top = omega arith in
      let b : form_number f / 2 % 4 ≡ f.top = rw h (omega arith) in
      let c : form_number f / 8 ≡ f.relationship = omega arith in
      λ j. record { split = a j; top = b j; relationship = c j }

pub form_whole : (n : ℕ) → n < 16 → form_number (form_of n) ≡ n
form_whole n h =
    let halves : n / 2 ≡ 4 * (n / 8) + n / 2 % 4 = omega arith in
    omega arith
