-- The states after the children's steps have their forms and rows as the relationship rounds ask (`children_stand`).
-- Assumes nothing.
use mathlib.Core.Path.{◌≡◌, refl, sym, ap, subst, ◌∙◌}
use mathlib.Core.Bool.{Bool}
use mathlib.Core.Option.{Option, none, some}
use mathlib.Core.List.{List, [], ◌∷◌, map}
use Prim.Native.Nat.{ℕ, suc}
use native.Mathlib.Omega.{arith}
use Rattle.exchange.specs.declared.settings.Settings.{Settings}
use Rattle.exchange.specs.Trees.{Operator}
use Rattle.exchange.specs.Forms.{form_number, form_of}
use Rattle.exchange.specs.Facts.{NodeFacts, Row, row_of}
use Rattle.exchange.specs.States.{Child, ChildState, need_of, and_then, each_of}
use Rattle.exchange.specs.Status.{status_of}
use Rattle.exchange.specs.Step.{ensure_child, ensure_children}
use Rattle.exchange.specs.declared.status.Asked.{Asked}
use Rattle.exchange.specs.Standings.{SameChildren, done, also, asked_needs, form_numbers}
use Rattle.exchange.specs.Turns.{Stand, nobody, next}
use Rattle.exchange.proofs.Forms.{form_apart, form_small}
use Rattle.exchange.proofs.Ensured.{Fresh, ensured_after}

module _ (s : Settings) (o : Operator) (b : NodeFacts) (rows : List Row) (aligned : Bool) where
  one_stands : (k : Child) (n need : ℕ) (needs : List ℕ) (y : ChildState) (ys : List ChildState) → k.number ≡ n → need_of k ≡ need → Fresh rows k y
      → Stand rows (suc n) needs (form_numbers ys) ys → Stand rows n (need ∷ needs) (form_numbers (y ∷ ys)) (y ∷ ys)
  one_stands k n need needs y ys a d h rest =
      let r = h.reached in
      let apart : form_of (form_number y.form) ≡ y.form = form_apart y.form r.split r.top r.relationship in
      let here : row_of rows n y.form ≡ some y.row = ap (λ (m : ℕ). row_of rows m y.form) (sym (h.number ∙ a)) ∙ r.row in
      next (h.number ∙ a) (h.need ∙ d) (sym apart) (omega (arith, form_small y.form r.split r.top r.relationship)) (ap (row_of rows n) apart ∙ here) rest

  more_stand : (k : Child) (n need : ℕ) (needs : List ℕ) (cs : List ChildState) → k.number ≡ n → need_of k ≡ need
      → (x : Option ChildState) → ensure_child s o b rows (status_of s aligned k) ≡ x → (r : Option (List ChildState))
      → ((ys : List ChildState) → r ≡ some ys → Stand rows (suc n) needs (form_numbers ys) ys)
      → and_then x (λ y. and_then r (λ ys. some (y ∷ ys))) ≡ some cs → Stand rows n (need ∷ needs) (form_numbers cs) cs
  more_stand k n need needs cs a d none e r h z = absurd (cc)
  more_stand k n need needs cs a d (some y) e none h z = absurd (cc)
  more_stand k n need needs cs a d (some y) e (some ys) h z =
      let same : (y ∷ ys) ≡ cs = cc in
      subst (λ (ds : List ChildState). Stand rows n (need ∷ needs) (form_numbers ds) ds) same
      (one_stands k n need needs y ys a d (ensured_after s o b rows (status_of s aligned k) y e) (h ys refl))

  pub children_stand : (n : ℕ) (asks : List Asked) (ks : List Child) → SameChildren n asks ks → (cs : List ChildState)
      → ensure_children s o b rows (map (status_of s aligned) ks) ≡ some cs → Stand rows n (asked_needs asks) (form_numbers cs) cs
  unfolding each_of
  children_stand n [] [] done cs e =
      let same : [] ≡ cs = cc in subst (λ (ds : List ChildState). Stand rows n [] (form_numbers ds) ds) same nobody
  children_stand n (a ∷ asks) (k ∷ ks) (also h hs) cs e =
      more_stand k n a.need (asked_needs asks) cs h.number h.need (ensure_child s o b rows (status_of s aligned k)) refl (each_of (ensure_child s o b rows) (map (status_of s aligned) ks))
      (λ ys z. children_stand (suc n) asks ks hs ys z) e
  children_stand n [] (k ∷ ks) z cs e = elim z [ ]
  children_stand n (a ∷ asks) [] z cs e = elim z [ ]
