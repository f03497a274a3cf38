-- The children's trees of an answer are those that the forms of the finished states make of them.
-- Assumes nothing.
use Prim.Native.Nat.{ℕ, ◌+◌, ◌-◌, ◌≤◌}
use mathlib.Core.Path.{◌≡◌, refl, sym, ap, ap₂, ◌∙◌}
use mathlib.Core.List.{List, [], ◌∷◌, map}
use native.Mathlib.Numerals.{add-one}
use native.Mathlib.Omega.{arith}
use lib.ListN.{length, drop, get_or}
use Rattle.exchange.specs.Trees.{none, ◌∷ᶠ◌, trees, root, Operator, Plans}
use Rattle.exchange.specs.declared.settings.Settings.{Settings}
use Rattle.exchange.specs.Forms.{Form, form_number, form_of}
use Rattle.exchange.specs.Facts.{ChildFacts, Row, Facts}
use Rattle.exchange.specs.FactRows.{child_facts}
use Rattle.exchange.specs.States.{Child, ChildState, children_from}
use Rattle.exchange.specs.Standings.{form_numbers}
use Rattle.exchange.specs.Built.{or_blank, row_in}
use Rattle.exchange.specs.Order.{handle_order}
use Rattle.exchange.specs.Ensure.{handled}
use Rattle.exchange.proofs.FinishedStates.{End, Finished, over, beside}
use Rattle.exchange.specs.LastForm.{in_form, finished_child, finished_each}
use Rattle.exchange.proofs.Stored.{past, first_at}

-- a state at its end is the child in its form
end_form : (rows : List Row) (k : Child) (c : ChildState) → End rows k c → c ≡ in_form rows k.number c.form (root k.plan).need k.facts k.plan
unfolding row_in
end_form rows k c e =
    let n = e.number in
    let f = e.facts in
    let d = e.need in
    let r : c.row ≡ row_in rows k.number c.form = sym (ap or_blank e.row) in
    let p = e.plan in
    λ j. record { number = n j; facts = f j; need = d j; form = c.form; row = r j; plan = p j }

module _ (s : Settings) (f : Facts) (worked : Operator) (n : ℕ) (forms : List ℕ) (facts : List (List ℕ)) where
  end_handled : (k : Child) (c : ChildState) (g : Form) (h : ChildFacts) → End f.rows k c → c.form ≡ g → k.facts ≡ h
      → handle_order s f.node worked n c ≡ finished_child f.rows k.number g (root k.plan).need h s f.node worked n k.plan
  unfolding finished_child
  end_handled k c g h e i j =
      ap (handle_order s f.node worked n) (end_form f.rows k c e ∙ ap₂ (λ (x : Form) (y : ChildFacts). in_form f.rows k.number x (root k.plan).need y k.plan) i j)

  pub handled_finished : (ts : Plans) (xs : List (List ℕ)) (child : ℕ) (cs : List ChildState) → 1 ≤ child → length xs ≡ trees ts
      → Finished f.rows (children_from child ts (map child_facts xs)) cs → drop (child - 1) forms ≡ form_numbers cs → drop (child - 1) facts ≡ xs
      → handled s f worked n cs ≡ finished_each f.rows forms facts s f.node worked n child ts
  unfolding handled finished_each children_from
  handled_finished none xs child [] l z over a b = refl
  handled_finished (t ∷ᶠ ts) [] child cs l z w a b = absurd (omega arith)
  handled_finished (t ∷ᶠ ts) (x ∷ xs) child (c ∷ cs) l z (beside e w) a b =
      let form : get_or forms (child - 1) 0 ≡ form_number c.form = first_at forms _ (child - 1) 0 a in
      let fact : get_or facts (child - 1) [] ≡ x = first_at facts _ (child - 1) [] b in
      let next : child - 1 + 1 ≡ child + 1 - 1 = omega arith in
      let a' : drop (child + 1 - 1) forms ≡ form_numbers cs = ap (λ (i : ℕ). drop i forms) (sym next) ∙ past forms (form_number c.form ∷ []) (form_numbers cs) (child - 1) a in
      let b' : drop (child + 1 - 1) facts ≡ xs = ap (λ (i : ℕ). drop i facts) (sym next) ∙ past facts (x ∷ []) xs (child - 1) b in
      let w' : Finished f.rows (children_from (child + 1) ts (map child_facts xs)) cs = rw add-one w in
      ap₂ ◌∷ᶠ◌ (end_handled _ c (form_of (get_or forms (child - 1) 0)) (child_facts (get_or facts (child - 1) [])) e (sym e.whole ∙ ap form_of (sym form)) (ap child_facts (sym fact)))
      (handled_finished ts xs (child + 1) cs (omega arith) (omega arith) w' a' b')
  handled_finished none xs child (c ∷ cs) l z w a b = elim w [ ]
  handled_finished (t ∷ᶠ ts) (x ∷ xs) child [] l z w a b = elim w [ ]
