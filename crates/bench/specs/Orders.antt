-- What the benchmark's `try_reorder` answers: the report, and the moved keys in the room lent; it renders nothing of document 01.
use Rattle.std.specs.Prelude.{ℕ, Bool, cond, ◌&&◌, List, eqb, leb, length}
use Rattle.std.proofs.lemmas.List.Edits.{sets}
use Rattle.keys.specs.Reorder.{Tried, try_reorder}
use Rattle.keys.specs.Expressions.{gone_number}
use Rattle.keys.specs.Values.{number_rules}

-- at most 32 keys to a list, and as many right keys as left ones
abbrev pub taken : List ℕ → List ℕ → List ℕ → Bool
taken r l g = leb (length r) 32 && (leb (length l) 32 && eqb (length g) (length l))

unfoldable pub tried : List (List ℕ) → List ℕ → List ℕ → List ℕ → Tried ℕ
tried w r l g = try_reorder eqb gone_number (number_rules w) r l g

-- the moved keys, from the start of the room on, as far as it goes
abbrev pub stored_if : Bool → ℕ → List ℕ → List ℕ → List ℕ
stored_if t report out ks = cond t (cond (eqb report 2) (sets out 0 ks) out) out

abbrev pub report_for : List (List ℕ) → List ℕ → List ℕ → List ℕ → ℕ
report_for w r l g = cond (taken r l g) (tried w r l g).report 0

abbrev pub left_for : List (List ℕ) → List ℕ → List ℕ → List ℕ → List ℕ → List ℕ
left_for w r l g out = stored_if (taken r l g) (tried w r l g).report out (tried w r l g).left

abbrev pub right_for : List (List ℕ) → List ℕ → List ℕ → List ℕ → List ℕ → List ℕ
right_for w r l g out = stored_if (taken r l g) (tried w r l g).report out (tried w r l g).right
