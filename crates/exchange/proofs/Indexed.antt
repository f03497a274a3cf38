-- The index at a child's and form's place has the first row of that child and form (`index_row`), since no other pair has that place.
-- Assumes nothing.
use mathlib.Core.Path.{◌≡◌, refl, sym, ap, ◌∙◌}
use mathlib.Core.Bool.{Bool, true, false, cond, ◌&&◌}
use mathlib.Core.Option.{Option, none, some}
use mathlib.Core.List.{List, [], ◌∷◌, ◌++◌}
use Prim.Native.Nat.{ℕ, suc, ◌+◌, ◌*◌, ◌-◌, ◌≤◌, ◌<◌}
use native.Mathlib.Nat.{add-zero}
use native.Mathlib.Numerals.{add-one}
use native.Mathlib.Omega.{arith}
use lib.Dec.{eqb, leb}
use borrow.Author.Tests.{le-leb, leb-true, eqb-true, eqb-false}
use lib.ListN.{length, drop, get_or, set, replicate, length-set, length-replicate, get_or-replicate}
use lib.Seq.{get_or-set_same, get_or-set_other}
use Rattle.std.specs.List.{push}
use Rattle.exchange.proofs.FromEnd.{none_taken, one_taken, one_less}
use Rattle.exchange.specs.Found.{child_of, form_number, later, row_for, slot, index_from}

-- ---- places

pub slot_known : (child form : ℕ) → 1 ≤ child → child ≤ 8 → form ≤ 15 → slot child form ≡ (child - 1) * 16 + form
unfolding slot
slot_known child form a b c = rw (le-leb _ _ a, le-leb _ _ b, le-leb _ _ c)

pub slot_small : (child form : ℕ) → slot child form < 129
unfolding slot
slot_small child form = go (leb 1 child) (leb child 8) (leb form 15) (leb-true 1 child) (leb-true child 8) (leb-true form 15)
  where
    go : (a b c : Bool) → (a ≡ true → 1 ≤ child) → (b ≡ true → child ≤ 8) → (c ≡ true → form ≤ 15) → cond (a && (b && c)) ((child - 1) * 16 + form) 128 < 129
    go true true true p q r = omega (arith, p refl, q refl, r refl)
    go true true false p q r = omega arith
    go true false c p q r = omega arith
    go false b c p q r = omega arith

pub slot_below : (s child form : ℕ) → s ≡ slot child form → s < 129
slot_below s child form e = omega (arith, slot_small child form)

-- no other pair has the place of a child and form
slot_other : (c f child form : ℕ) → 1 ≤ child → child ≤ 8 → form ≤ 15 → (c ≡ child → f ≡ form → ⊥) → slot c f ≡ slot child form → ⊥
unfolding slot
slot_other c f child form p q r apart e =
    go (leb 1 c) (leb c 8) (leb f 15) (leb-true 1 c) (leb-true c 8) (leb-true f 15) (e ∙ slot_known child form p q r)
  where
    go : (x y z : Bool) → (x ≡ true → 1 ≤ c) → (y ≡ true → c ≤ 8) → (z ≡ true → f ≤ 15) → cond (x && (y && z)) ((c - 1) * 16 + f) 128 ≡ (child - 1) * 16 + form → ⊥
    go true true true u v w h = apart (omega (arith, u refl, v refl, w refl)) (omega (arith, u refl, v refl, w refl))
    go true true false u v w h = omega arith
    go true false z u v w h = omega arith
    go false y z u v w h = omega arith

-- ---- the index

pub index_long : (i : ℕ) (xs : List (List ℕ)) → length (index_from i xs) ≡ 129
unfolding index_from
index_long i [] = length-replicate {A = ℕ} 129 0
index_long i (x ∷ xs) = length-set (index_from (suc i) xs) _ _ ∙ index_long (suc i) xs

pub index_none : (i : ℕ) → index_from i [] ≡ replicate 129 0
unfolding index_from
index_none i = refl

-- one row further to the front
pub index_again : (rows left later : List (List ℕ)) (x : List ℕ) (i : ℕ) (k : List ℕ) (s : ℕ) → left ++ drop (length left) rows ≡ rows → left ≡ push later x → i ≡ length later
    → k ≡ index_from (length left) (drop (length left) rows) → s ≡ slot (child_of x) (form_number x) → set k s (i + 1) ≡ index_from (length later) (drop (length later) rows)
unfolding index_from
index_again rows left later x i k s whole taken is e at =
    rw (one_taken rows left later x whole taken, e ∙ ap (λ (n : ℕ). index_from n (drop (length left) rows)) (one_less rows left later x whole taken), at, is, add-one (length later))

-- of no rows
pub index_begins : (rows left : List (List ℕ)) → left ≡ rows → replicate 129 0 ≡ index_from (length left) (drop (length left) rows)
index_begins rows left e = rw ((none_taken left rows e).0) (sym (index_none (length left)))

-- the place of a row and one more, and 0 of none
abbrev pub marked : ℕ → Option ℕ → ℕ
marked i none = 0
marked i (some p) = suc (i + p)

marked_later : (i : ℕ) (p : Option ℕ) → marked (suc i) p ≡ marked i (later p)
marked_later i none = refl
marked_later i (some p) = omega arith

module _ (child form : ℕ) (p : 1 ≤ child) (q : child ≤ 8) (r : form ≤ 15) where
  index_same : (i : ℕ) (x : List ℕ) (xs : List (List ℕ)) → child_of x ≡ child → form_number x ≡ form
      → get_or (set (index_from (suc i) xs) (slot (child_of x) (form_number x)) (suc i)) (slot child form) 0 ≡ suc i
  index_same i x xs a b =
      let small : slot child form < length (index_from (suc i) xs) = omega (arith, index_long (suc i) xs, slot_small child form) in
      rw (a, b) (get_or-set_same (index_from (suc i) xs) (slot child form) (suc i) 0 small)

  index_other : (i : ℕ) (x : List ℕ) (xs : List (List ℕ)) → get_or (index_from (suc i) xs) (slot child form) 0 ≡ marked (suc i) (row_for xs child form)
      → (child_of x ≡ child → form_number x ≡ form → ⊥)
      → get_or (set (index_from (suc i) xs) (slot (child_of x) (form_number x)) (suc i)) (slot child form) 0 ≡ marked i (later (row_for xs child form))
  index_other i x xs rest apart =
      get_or-set_other (index_from (suc i) xs) (slot (child_of x) (form_number x)) (slot child form) (suc i) 0 (λ z. slot_other _ _ child form p q r apart (sym z))
      ∙ rest ∙ marked_later i (row_for xs child form)

  index_step : (i : ℕ) (x : List ℕ) (xs : List (List ℕ)) → get_or (index_from (suc i) xs) (slot child form) 0 ≡ marked (suc i) (row_for xs child form)
      → get_or (set (index_from (suc i) xs) (slot (child_of x) (form_number x)) (suc i)) (slot child form) 0
      ≡ marked i (cond (eqb (child_of x) child && eqb (form_number x) form) (some 0) (later (row_for xs child form)))
  index_step i x xs rest = go (eqb (child_of x) child) (eqb (form_number x) form) (eqb-true _ _) (eqb-true _ _) (eqb-false _ _) (eqb-false _ _)
    where
      go : (a b : Bool) → (a ≡ true → child_of x ≡ child) → (b ≡ true → form_number x ≡ form) → (a ≡ false → child_of x ≡ child → ⊥) → (b ≡ false → form_number x ≡ form → ⊥)
          → get_or (set (index_from (suc i) xs) (slot (child_of x) (form_number x)) (suc i)) (slot child form) 0 ≡ marked i (cond (a && b) (some 0) (later (row_for xs child form)))
      go true true s t u v = index_same i x xs (s refl) (t refl) ∙ sym (ap suc (add-zero i))
      go true false s t u v = index_other i x xs rest (λ g h. v refl h)
      go false b s t u v = index_other i x xs rest (λ g h. u refl g)

  pub index_row : (i : ℕ) (xs : List (List ℕ)) → get_or (index_from i xs) (slot child form) 0 ≡ marked i (row_for xs child form)
  unfolding index_from row_for
  index_row i [] = get_or-replicate {A = ℕ} 129 (slot child form) 0 0 (slot_small child form)
  index_row i (x ∷ xs) = index_step i x xs (index_row (suc i) xs)

-- what a mark says
mark_none : (o : Option ℕ) → marked 0 o ≡ 0 → none ≡ o
mark_none none e = refl
mark_none (some p) e = absurd (omega arith)

mark_some : (o : Option ℕ) (m : ℕ) → marked 0 o ≡ m → (m ≡ 0 → ⊥) → some (m - 1) ≡ o
mark_some none m e more = absurd (more (sym e))
mark_some (some p) m e more = ap some (omega arith)

module _ (index : List ℕ) (xs : List (List ℕ)) (s child form : ℕ) (p : 1 ≤ child) (q : child ≤ 8) (r : form ≤ 15) (e : index ≡ index_from 0 xs) (at : s ≡ slot child form) where
  fact_mark : get_or index s 0 ≡ marked 0 (row_for xs child form)
  fact_mark = rw (e, at) (index_row child form p q r 0 xs)

  pub fact_none : get_or index s 0 ≡ 0 → none ≡ row_for xs child form
  fact_none z = mark_none (row_for xs child form) (sym fact_mark ∙ z)

  pub fact_some : (get_or index s 0 ≡ 0 → ⊥) → some (get_or index s 0 - 1) ≡ row_for xs child form
  fact_some z = mark_some (row_for xs child form) (get_or index s 0) (sym fact_mark) z

  pub fact_in : s < length index
  fact_in = omega (arith, ap length e, index_long 0 xs, slot_below s child form at)
