-- That a sheet is held in its bounds has one proof at most: asked where `HeldKey` and `HeldJoin` declare their ghost fields, so it stands here.
use Rattle.std.specs.Prelude.{ℕ, List, [], ◌∷◌}
use Rattle.std.proofs.Math.Option.{Option, none, some}
use Rattle.std.specs.Coded.{×_prop, Unit-prop}
use denote.Struct.Props.{props}
use Rattle.keys.specs.Expressions.{Expression}
use Rattle.sheet.specs.Sizes.{Each}
use Rattle.sheet.specs.LegalSheets.{LegalInput}
use Rattle.sheet.specs.Held.{KeyHeld, JoinHeld}

each_prop : {A : Type 0} {P : A → Type 0} → ((x : A) → IsProp (P x)) → (xs : List A) → IsProp (Each P xs)
each_prop p [] = Unit-prop
each_prop p (x ∷ xs) = ×_prop (p x) (each_prop p xs)

legal_input_prop : (o : Option (List Expression)) → IsProp (LegalInput o)
legal_input_prop none = Unit-prop
legal_input_prop (some es) = Prim.hlevel (each_prop, props)

pub key_held_prop : (lists : List (List ℕ)) (counts : List ℕ) → IsProp (KeyHeld lists counts)
key_held_prop lists counts = Prim.hlevel (each_prop, props)

pub join_held_prop : (lists : List (List ℕ)) (counts : List ℕ) → IsProp (JoinHeld lists counts)
join_held_prop lists counts = Prim.hlevel (each_prop, legal_input_prop, props)
