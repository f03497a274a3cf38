-- Small laws of truth values and of searches that may find nothing.
use Prim.Native.Nat.{ℕ}
use mathlib.Core.Path.{◌≡◌, refl, sym}
use mathlib.Core.Bool.{Bool, true, false, cond, ◌&&◌, ◌||◌}
use mathlib.Core.Option.{Option, none, some}
use mathlib.Core.List.{List}
use Rattle.keys.specs.Lists.{also, or_else}

pub true_false : {b : Bool} → b ≡ true → b ≡ false → ⊥
true_false p q = cc

-- two tests of which each holds where the other does
pub both_ways : (a b : Bool) → (a ≡ true → b ≡ true) → (b ≡ true → a ≡ true) → a ≡ b
both_ways true b f g = sym (f refl)
both_ways false true f g = g refl
both_ways false false f g = refl

pub and_first : (a b : Bool) → a && b ≡ true → a ≡ true
and_first true b e = refl
and_first false b e = e

pub and_second : (a b : Bool) → a && b ≡ true → b ≡ true
and_second true b e = e
and_second false b e = absurd (true_false e refl)

pub neither_first : (a b : Bool) → a || b ≡ false → a ≡ false
neither_first true b e = e
neither_first false b e = refl

pub none_some : {A X : Type 0} {x : A} {o : Option A} → o ≡ none → o ≡ some x → X
none_some p q = absurd (cc)

pub also_none : (p : ℕ) (o : Option (List ℕ)) → also p o ≡ none → o ≡ none
also_none p none e = refl
also_none p (some ps) e = none_some e refl

pub or_none_first : (a b : Option (List ℕ)) → or_else a b ≡ none → a ≡ none
or_none_first none b e = refl
or_none_first (some ps) b e = e

pub or_none_second : (a b : Option (List ℕ)) → or_else a b ≡ none → b ≡ none
or_none_second none b e = e
or_none_second (some ps) b e = none_some e refl

-- what holds of both answers of a test
pub by_test : {X : Type 0} (P : X → Type 0) (b : Bool) {x y : X} → (b ≡ true → P x) → (b ≡ false → P y) → P (cond b x y)
by_test P true f g = f refl
by_test P false f g = g refl
