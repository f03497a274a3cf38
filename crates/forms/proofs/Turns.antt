-- The turns of a round from place i on begin with that of the child at i (`turns_turn`), and the row of a form's number is the row of the form (`turn_row`).
-- Assumes nothing.
use mathlib.Core.Path.{◌≡◌, refl, sym, ap, ◌∙◌}
use mathlib.Core.Option.{Option, none, some}
use mathlib.Core.List.{List, [], ◌∷◌, ◌++◌, map}
use Prim.Native.Nat.{ℕ, zero, suc, ◌+◌, ◌*◌, ◌/◌, ◌%◌, ◌≤◌, ◌<◌}
use mathlib.Core.Bool.{Bool, true, false, cond}
use lib.Dec.{eqb}
use borrow.Author.Tests.{eqb-true, eqb-false}
use native.Mathlib.Numerals.{add-one}
use native.Mathlib.Omega.{arith}
use lib.ListN.{length, drop, get_or, set, length-drop, length-set, drop_of_length-le}
use lib.Seq.{drop-cons, get_or-drop, get_or-set_same, get_or-set_other}
use Rattle.exchange.specs.declared.relationship.Turn.{Turn}
use Rattle.exchange.specs.Trees.{node, none as no_plans}
use Rattle.exchange.specs.Forms.{Form, form_number, form_of, plain_form, with_relationship}
use Rattle.exchange.specs.Facts.{Row, row_of}
use Rattle.exchange.specs.Found.{row_for}
use Rattle.std.specs.Prelude.{Option as Answer, Some}
use Rattle.std.specs.List.{push}
use Rattle.exchange.proofs.FromEnd.{none_taken, one_taken}
use Rattle.exchange.specs.States.{ChildState}
use Rattle.exchange.specs.Step.{keyed_on}
use Rattle.exchange.specs.declared.status.Asked.{Asked}
use Rattle.exchange.specs.Standings.{form_by, Passed, no_child, asked_needs}
use Rattle.exchange.specs.FactRows.{child_facts, fact_row, operator_by}
use Rattle.exchange.specs.Turns.{turn_givable, turn_form, turns_by, set_of}
use Rattle.exchange.proofs.Forms.{form_whole}
use Rattle.forms.proofs.Formed.{formed_with}
use Rattle.exchange.proofs.FactRows.{row_none, row_placed, row_some}

module _ (asks : List Asked) (forms : List ℕ) (same : length forms ≡ length asks) (i m : ℕ) where
  pub turns_turn : i < length asks → turns_by (i + 1) m (asked_needs (drop i asks)) (drop i forms)
      ≡ record { number = i + 1; need = (get_or asks i no_child).need; form = get_or forms i 0; bit = m % 2 } ∷ turns_by (i + 1 + 1) (m / 2) (asked_needs (drop (i + 1) asks)) (drop (i + 1) forms)
  unfolding turns_by
  turns_turn h =
      let b : i < length forms = omega arith in
      rw (drop-cons asks i no_child h, drop-cons forms i 0 b, add-one (i + 1), add-one i)

  pub turns_end : length asks ≤ i → turns_by (i + 1) m (asked_needs (drop i asks)) (drop i forms) ≡ []
  unfolding turns_by
  turns_end h = rw (drop_of_length-le asks {i = i} h)

-- the row that a form's number finds
module _ (rows : List (List ℕ)) (child f : ℕ) (small : f ≤ 15) where
  again : row_for rows child f ≡ row_for rows child (form_number (form_of f))
  again = ap (row_for rows child) (sym (form_whole f (omega arith)))

  pub turn_none : none ≡ row_for rows child f → row_of (map fact_row rows) child (form_of f) ≡ none
  turn_none e = row_none rows child (form_of f) (e ∙ again)

  pub turn_placed : (p : ℕ) → some p ≡ row_for rows child f → p < length rows
  turn_placed p e = row_placed rows child (form_of f) p (e ∙ again)

  pub turn_row : (p : ℕ) → some p ≡ row_for rows child f → row_of (map fact_row rows) child (form_of f) ≡ some (fact_row (get_or rows p []))
  turn_row p e = row_some rows child (form_of f) p (e ∙ again)

-- the form that a passed child has
pub give_passed : (rows : List Row) (child : ℕ) (f : Form) (d k : ℕ) (r : Answer ℕ) → Passed d k rows r → child ≡ d → form_number f ≡ k → r ≡ form_by (form_number f) (row_of rows child f)
give_passed rows child f d k r e i h =
    let c : ChildState = record { number = child; facts = child_facts []; need = 0; form = plain_form; row = fact_row []; plan = node (operator_by 0 0 0) no_plans } in
    e c f keyed_on i h ∙ formed_with c f keyed_on (row_of rows child f)

-- a turn's form is one of the sixteen
pub turn_small : (rows : List Row) (x : Turn) (f : ℕ) → x.form ≤ 15 → turn_form rows x ≡ Some f → f ≤ 15
turn_small rows x f h e = go (turn_givable rows x) (row_of rows x.number (with_relationship (form_of x.form))) e
  where
    go : (t : Bool) (o : Option Row) → cond t (form_by (form_number (with_relationship (form_of x.form))) o) (Some x.form) ≡ Some f → f ≤ 15
    go true none e = absurd (cc)
    go true (some y) e = let z : form_number (with_relationship (form_of x.form)) ≡ f = cc in omega arith
    go false o e = let z : x.form ≡ f = cc in omega arith

-- small numbers stay so when one is stored
pub small_set : (l : List ℕ) (i v : ℕ) → v ≤ 15 → i < length l → ((k : ℕ) → k < length l → get_or l k 0 ≤ 15) → (k : ℕ) → k < length (set l i v) → get_or (set l i v) k 0 ≤ 15
small_set l i v h at small k b = go (eqb k i) (eqb-true k i) (eqb-false k i)
  where
    go : (t : Bool) → (t ≡ true → k ≡ i) → (t ≡ false → k ≡ i → ⊥) → get_or (set l i v) k 0 ≤ 15
    go true p q = rw (p refl) (rw (get_or-set_same l i v 0 at) h)
    go false p q = rw (get_or-set_other l i k v 0 (q refl)) (small k (simp length-set at b))

-- ---- the set

abbrev power : ℕ → ℕ
power zero = 1
power (suc k) = 2 * power k

set_below : (fs : List ℕ) (k : ℕ) → length fs ≤ k → ((j : ℕ) → j < length fs → get_or fs j 0 ≤ 15) → set_of fs < power k
unfolding set_of
set_below [] zero h s = omega arith
set_below [] (suc k) h s = let r : 0 < power k = set_below [] k (omega arith) (λ j b. absurd (omega arith)) in omega arith
set_below (f ∷ fs) zero h s = absurd (omega arith)
set_below (f ∷ fs) (suc k) h s =
    let r : set_of fs < power k = set_below fs k (omega arith) (λ j b. s (suc j) (omega arith)) in
    let b : f ≤ 15 = s 0 (omega arith) in
    omega arith

-- none is taken yet
pub set_begins : (left fs : List ℕ) → left ≡ fs → 0 ≡ set_of (drop (length left) fs)
unfolding set_of
set_begins left fs e = rw ((none_taken left fs e).0) refl

-- the last of those that are left is taken
module _ (fs left later : List ℕ) (f : ℕ) (whole : left ++ drop (length left) fs ≡ fs) (taken : left ≡ push later f) where
  pub set_turn : set_of (drop (length later) fs) ≡ f / 8 + 2 * set_of (drop (length left) fs)
  unfolding set_of
  set_turn = ap set_of (one_taken fs left later f whole taken)

  pub set_small : length fs ≤ 8 → ((j : ℕ) → j < length fs → get_or fs j 0 ≤ 15) → f / 8 + 2 * set_of (drop (length left) fs) < 256
  set_small few small =
      rw (sym set_turn)
      (set_below (drop (length later) fs) 8 (simp length-drop (omega arith)) (λ j b. rw get_or-drop (small (length later + j) (omega (arith, simp length-drop at b)))))
