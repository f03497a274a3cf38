-- `forms::relationship::given_set` meets its contract: the set of the forms that were taken from the end; with at most eight forms it stays small (`set_small`).
use mathlib.Core.Path.{◌≡◌}
use mathlib.Core.List.{◌++◌}
use lib.ListN.{length, drop}
use Rattle.exchange.specs.Turns.{set_of}
use Rattle.forms.proofs.relationship.given_set.Given as goal

abbrev pub invariant-loop-form : goal.invariant-loop-form
invariant-loop-form l =
    let left = l.form-iterator.iter.rest.now in
    (left ++ drop (length left) l.forms.list.now ≡ l.forms.list.now) × (l.set ≡ set_of (drop (length left) l.forms.list.now))
