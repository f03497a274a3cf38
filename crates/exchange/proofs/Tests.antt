-- Tests in a row, each with the answer that it gives or with what comes after it.
-- Assumes nothing.
use mathlib.Core.Path.{◌≡◌, sym, ◌∙◌}
use mathlib.Core.Bool.{Bool, true, false, cond, not, ◌&&◌, ◌||◌}
use borrow.Author.Tests.{not-true, not-false}

pub stop : (a b : Bool) → a ≡ false → false ≡ a && b
stop a b e = rw e

pub past : (a b r : Bool) → a ≡ true → r ≡ b → r ≡ a && b
past a b r e f = rw e f

pub enough : (a b : Bool) → a ≡ true → true ≡ a || b
enough a b e = rw e

pub besides : (a b r : Bool) → a ≡ false → r ≡ b → r ≡ a || b
besides a b r e f = rw e f

pub chosen : {A : Type 0} (a : Bool) (x y r : A) → a ≡ true → r ≡ x → r ≡ cond a x y
chosen a x y r e f = rw e f

-- what a call answered, and `!` before it
pub refused : (r a : Bool) → r ≡ a → not r ≡ true → a ≡ false
refused r a e h = sym e ∙ not-true r h

pub held : (r a : Bool) → r ≡ a → not r ≡ false → a ≡ true
held r a e h = sym e ∙ not-false r h
