-- The forms of all children, from the first to the last: what is written so far stands before what is left (`each_turn`).
-- Assumes nothing.
use mathlib.Core.Path.{◌≡◌, refl, sym, ap, ◌∙◌}
use mathlib.Core.Bool.{Bool, ◌||◌}
use mathlib.Core.Option.{Option, none, some}
use mathlib.Core.List.{List, [], ◌∷◌, ◌++◌, map, append_assoc, append-nil}
use Prim.Native.Nat.{ℕ, zero, suc, ◌+◌, ◌<◌, ◌≤◌}
use native.Mathlib.Numerals.{add-one}
use native.Mathlib.Omega.{arith}
use lib.ListN.{length, take, drop, get_or, set, drop_of_length-le}
use lib.Seq.{drop-cons, take-suc-set}
use Rattle.exchange.specs.declared.settings.Settings.{Settings}
use Rattle.exchange.specs.declared.status.Asked.{Asked}
use Rattle.exchange.specs.declared.partitioning.Worked.{Worked}
use Rattle.std.specs.Prelude.{Option as Answer, Some, None}
use Rattle.exchange.specs.States.{Child, ChildState, and_then, each_of}
use Rattle.exchange.specs.Trees.{Operator}
use Rattle.exchange.specs.Facts.{NodeFacts, Row}
use Rattle.exchange.specs.Status.{asks_alignment, needs_alignment, status_of, get_repartition_requirement_status}
use Rattle.exchange.specs.Step.{ensure_child, ensure_children}
use Rattle.exchange.specs.FactRows.{child_at, child_for, children_for}
use Rattle.exchange.specs.Standings.{worked_for, node_for, formed, SameNode, SameChild, SameChildren, done, also, no_child, form_list, with_forms, each_form}
use Rattle.forms.proofs.Steps.{same_numbers}

-- ---- what was written, before what is left

abbrev pub prepend : List ℕ → Option (List ℕ) → Option (List ℕ)
prepend xs none = none
prepend xs (some ys) = some (xs ++ ys)

pub each_first : (o : Option (List ℕ)) → o ≡ prepend [] o
each_first none = refl
each_first (some ys) = refl

module _ (whole : Option (List ℕ)) where
  pub each_turn : (forms : List ℕ) (i f : ℕ) → i < length forms → (rest : Option (List ℕ)) → whole ≡ prepend (take i forms) (with_forms (Some f) rest)
      → whole ≡ prepend (take (i + 1) (set forms i f)) rest
  each_turn forms i f h none e = e
  each_turn forms i f h (some ys) e =
      let more : take (i + 1) (set forms i f) ≡ take i forms ++ (f ∷ []) = rw (add-one i) (take-suc-set forms i f h) in
      e ∙ ap some (sym (append_assoc (take i forms) (f ∷ []) ys) ∙ ap (λ (l : List ℕ). l ++ ys) (sym more))

  pub each_missing : (xs : List ℕ) (rest : Option (List ℕ)) → whole ≡ prepend xs (with_forms None rest) → none ≡ whole
  each_missing xs rest e = sym e

  pub each_end : (xs : List ℕ) → whole ≡ prepend xs (some []) → some xs ≡ whole
  each_end xs e = sym (e ∙ ap some (append-nil xs))

module _ {A : Type 0} (f : A → Answer ℕ) (xs : List A) (i : ℕ) where
  pub each_cons : (x : A) → i < length xs → each_form f (drop i xs) ≡ with_forms (f (get_or xs i x)) (each_form f (drop (i + 1) xs))
  unfolding each_form
  each_cons x h = rw (drop-cons xs i x h, add-one i)

  pub each_nil : length xs ≤ i → each_form f (drop i xs) ≡ some []
  unfolding each_form
  each_nil h = rw (drop_of_length-le xs {i = i} h)

-- ---- the forms of the states

both_forms : (o : Option ChildState) (rest : Option (List ChildState))
    → form_list (and_then o (λ y. and_then rest (λ ys. some (y ∷ ys)))) ≡ with_forms (formed o) (form_list rest)
both_forms none rest = refl
both_forms (some y) none = refl
both_forms (some y) (some ys) = refl

pub each_formed : {A : Type 0} (f : A → Option ChildState) (xs : List A) → form_list (each_of f xs) ≡ each_form (λ x. formed (f x)) xs
unfolding each_of each_form
each_formed f [] = refl
each_formed f (x ∷ xs) = both_forms (f x) (each_of f xs) ∙ ap (with_forms (formed (f x))) (each_formed f xs)

pub each_map : {A B : Type 0} (f : B → Answer ℕ) (g : A → B) (xs : List A) → each_form f (map g xs) ≡ each_form (λ x. f (g x)) xs
unfolding each_form
each_map f g [] = refl
each_map f g (x ∷ xs) = ap (with_forms (f (g x))) (each_map f g xs)

-- ---- the same numbers

pub each_same : (f g : Child → Answer ℕ) → ((n : ℕ) (a : Asked) (k : Child) → SameChild n a k → f (child_at n a) ≡ g k)
    → {n : ℕ} {asks : List Asked} {ks : List Child} → SameChildren n asks ks → each_form f (children_for n asks) ≡ each_form g ks
unfolding each_form children_for
each_same f g e done = refl
each_same f g e (also {n} {a} {asks} {k} {ks} h hs) =
    ap (λ (o : Answer ℕ). with_forms o (each_form f (children_for (suc n) asks))) (e n a k h) ∙ ap (with_forms (g k)) (each_same f g e hs)

asks_same : (s : Settings) (n : ℕ) (a : Asked) (k : Child) → SameChild n a k → asks_alignment s (child_for a) ≡ asks_alignment s k
asks_same s n a k h = rw (h.need, h.count, h.facts)

pub alignment_same : (s : Settings) {n : ℕ} {asks : List Asked} {ks : List Child} → SameChildren n asks ks → needs_alignment s (map child_for asks) ≡ needs_alignment s ks
unfolding needs_alignment
alignment_same s done = refl
alignment_same s (also {n} {a} {asks} {k} {ks} h hs) =
    ap (λ (t : Bool). t || needs_alignment s (map child_for asks)) (asks_same s n a k h) ∙ ap (λ (t : Bool). asks_alignment s k || t) (alignment_same s hs)

pub children_long : (n : ℕ) (asks : List Asked) → length (children_for n asks) ≡ length asks
unfolding children_for
children_long n [] = refl
children_long n (a ∷ asks) = ap suc (children_long (suc n) asks)

-- the child at a place has the place's number
pub at_place : (n m : ℕ) (asks : List Asked) (i : ℕ) (z : Child) → i < length asks → m ≡ i + n → get_or (children_for n asks) i z ≡ child_at m (get_or asks i no_child)
unfolding children_for
at_place n m [] i z h e = absurd (omega arith)
at_place n m (a ∷ asks) zero z h e = let same : m ≡ n = omega (arith, e) in rw same refl
at_place n m (a ∷ asks) (suc i) z h e = at_place (suc n) m asks i z (omega arith) (omega arith)

-- the forms of the children's steps, from their numbers
pub children_same : (s : Settings) (rows : List Row) (aligned : Bool) (w : Worked) (o : Operator) (b : NodeFacts) (asks : List Asked) {ks : List Child}
    → SameNode w o b → SameChildren 1 asks ks → aligned ≡ needs_alignment s (map child_for asks)
    → each_form (λ (k : Child). formed (ensure_child s (worked_for w) (node_for w) rows (status_of s aligned k))) (children_for 1 asks)
    ≡ form_list (ensure_children s o b rows (get_repartition_requirement_status s ks))
children_same s rows aligned w o b asks {ks} n h e =
    each_same _ (λ (k : Child). formed (ensure_child s o b rows (status_of s aligned k))) (λ i a k m. same_numbers s rows aligned w i a o b k n m) h
    ∙ sym (each_formed (ensure_child s o b rows) (map (status_of s aligned) ks) ∙ each_map (λ t. formed (ensure_child s o b rows t)) (status_of s aligned) ks)
    ∙ ap (λ (t : Bool). form_list (ensure_children s o b rows (map (status_of s t) ks))) (e ∙ alignment_same s h)
