-- Fronts of lists.
-- Assumes nothing.
use Prim.Native.Nat.{ℕ}
use mathlib.Core.Path.{◌≡◌}
use mathlib.Core.List.{List}
use lib.ListN.{take}

-- a part from 0 on that is as long as what is known of the front
pub front_is : {A : Type 0} (m n : ℕ) (xs ys : List A) → take m xs ≡ ys → m ≡ n → take n xs ≡ ys
front_is m n xs ys e z = rw (← z) e
