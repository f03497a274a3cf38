-- `fit::facts_fit` meets its contract: what is tested at the children's places is `worked_fits` of the tree there (`FitTrees`).
use mathlib.Core.Path.{◌≡◌, sym, ap, ◌∙◌}
use mathlib.Core.List.{List, ◌∷◌, [], ◌++◌}
use mathlib.Core.Bool.{Bool, ◌&&◌}
use Prim.Native.Nat.{ℕ, ◌+◌, ◌≤◌}
use native.Mathlib.Omega.{arith}
use lib.ListN.{length, take, drop}
use lib.Seq.{length-take-le}
use Rattle.exchange.specs.Trees.{trees, Plans}
use Rattle.exchange.specs.Rows.{flattens}
use Rattle.exchange.specs.Places.{places_of}
use Rattle.exchange.specs.Fit.{all_within_bits}
use Rattle.plansheet.proofs.FitTrees.{tests_say, placed, places_many}
use Rattle.plansheet.proofs.fit.facts_fit.Goals as goal
use Rattle.plansheet.proofs.fit.facts_fit.Goals.{After-child_places}

abbrev eight : List ℕ
eight = 0 ∷ 0 ∷ 0 ∷ 0 ∷ 0 ∷ 0 ∷ 0 ∷ 0 ∷ []

room_for : (n : ℕ) → n ≤ 8 → length (take n eight) ≡ n
room_for n h = length-take-le n eight h

-- the places of the children
places_are :
    (c : After-child_places) (ts : Plans) (rest : List (List ℕ)) → trees ts ≡ length c.args.facts.now → drop (c.args.worked + 1) c.args.rows.now ≡ flattens ts ++ rest →
    c.child_places.new.places ≡ places_of (c.args.worked + 1) ts
places_are c ts rest m h = c.child_places.ensures ts rest (m ∙ sym (room_for (length c.args.facts.now) c.requires.stands.1)) h

pub rows_fit-requires : goal.rows_fit-requires
rows_fit-requires c =
    let t = c.requires.stand_all in
    let e = places_are (goal.at.rows_fit-requires c).After-child_places t.below t.rest t.counted t.stands in
    let n = places_many (c.args.worked + 1) t.below (length c.args.facts.now) t.counted in
    (rw e (sym n), rw e (omega (arith, n, c.requires.stands.1)), rw e (placed t.below c.args.rows.now (c.args.worked + 1) t.rest t.stands))

pub returns-then-rows_fit : goal.returns-then-rows_fit
returns-then-rows_fit c = λ s o b ts rest e m h.
    let a = c.args in let p = places_are (goal.at.returns-then-rows_fit c).After-child_places ts rest m h in
    c.masks_fit.ensures ∙ ap (λ (t : Bool). t && all_within_bits (length a.facts.now) a.masks.now) (sym c.if-rows_fit.true)
    ∙ tests_say s o b ts a.rows.now a.facts.now (a.worked + 1) rest a.xs.rows.now a.masks.now a.target c.child_places.new.places c.rows_fit.result e m h p c.rows_fit.ensures

pub returns-else-rows_fit : goal.returns-else-rows_fit
returns-else-rows_fit c = λ s o b ts rest e m h.
    let a = c.args in let p = places_are (goal.at.returns-else-rows_fit c).After-child_places ts rest m h in
    c.if-rows_fit.false ∙ ap (λ (t : Bool). t && all_within_bits (length a.facts.now) a.masks.now) (sym c.if-rows_fit.false)
    ∙ tests_say s o b ts a.rows.now a.facts.now (a.worked + 1) rest a.xs.rows.now a.masks.now a.target c.child_places.new.places c.rows_fit.result e m h p c.rows_fit.ensures
