-- A child of an answer has what it needs as `guarantee` measures it: by its last form as the answer shows it, where `exchange` goes by the form that it passed.
use Prim.Native.Nat.{ℕ, ◌≤◌}
use mathlib.Core.Path.{◌≡◌, refl, sym, ap, ◌∙◌}
use mathlib.Core.Bool.{Bool, true, false, cond, ◌&&◌, ◌||◌}
use mathlib.Core.Option.{some}
use mathlib.Core.List.{[], ◌∷◌}
use native.Mathlib.Omega.{arith}
use lib.Dec.{eqb, leb}
use borrow.Author.Tests.{eqb-true, eqb-false}
use Rattle.keys.proofs.Truths.{true_false}
use Rattle.exchange.specs.Trees.{root, Operator, Plan}
use Rattle.exchange.specs.Settings.{is_set}
use Rattle.exchange.specs.Forms.{Form}
use Rattle.exchange.specs.Facts.{row_of}
use Rattle.exchange.specs.Operators.{is_single, is_keyed, mark, track}
use Rattle.exchange.specs.States.{Child, ChildState, need_of}
use Rattle.exchange.specs.Status.{rows_gain}
use Rattle.exchange.specs.Step.{allow_subset_satisfy_partitioning}
use Rattle.exchange.specs.Order.{handle_order}
use Rattle.exchange.specs.Partitioning.{is_new_keyed, beneath_sorts, is_split, HasPartitioning}
use Rattle.plansheet.specs.PlanSheets.{PlanSheet}
use Rattle.guarantee.specs.Operators.{worked}
use Rattle.guarantee.specs.Partitioning.{new_on_top, topmost, last_form, says, single_had, keyed_had, need_had}
use Rattle.guarantee.proofs.Tops.{tops_handled, keyed_topmost}
use Rattle.guarantee.proofs.ChildForms.{form_tops, Formed}
use Rattle.guarantee.proofs.SameChildren.{SameChild}

-- a single test, or a keyed one that asks the last of three only where the second fails
pick : (a k x q y z : Bool) → (q ≡ false → y ≡ z) → cond a x (cond k (x || (q || y)) true) ≡ true → cond a x (cond k (x || (q || z)) true) ≡ true
pick a k x true y z h e = e
pick a k x false y z h e = ap (λ (v : Bool). cond a x (cond k (x || v) true)) (sym (h refl)) ∙ e

top_alone : (top : ℕ) (b : Bool) → eqb top 0 ≡ b → topmost (cond b [] (top ∷ [])) ≡ top
top_alone top true e = sym (eqb-true top 0 e)
top_alone top false e = refl

-- a form whose topmost is no keyed exchange has no relationship exchange, and its top is what is topmost
pub topmost_given : (f : Form) → is_set f.relationship ≡ true → topmost (form_tops f) ≡ 2
topmost_given f e = rw e

topmost_own : (f : Form) → f.relationship ≤ 1 → (topmost (form_tops f) ≡ 2 → ⊥) → (f.relationship ≡ 0) × (topmost (form_tops f) ≡ f.top)
topmost_own f small h = go (is_set f.relationship) refl
  where
    go : (b : Bool) → is_set f.relationship ≡ b → (f.relationship ≡ 0) × (topmost (form_tops f) ≡ f.top)
    go true e = absurd (h (topmost_given f e))
    go false e = (omega (arith, small, eqb-false f.relationship 1 e), rw e (top_alone f.top (eqb f.top 0) refl))

module _ (x : PlanSheet) (w : Operator) (m n : ℕ) (marked : w ≡ track m (root (worked x))) (c k : Child) (same : SameChild c k) (d : ChildState)
    (formed : Formed x.settings w x.facts.node x.facts.rows k d) where
  -- the tree that the answer has for the child
  abbrev tree : Plan
  tree = handle_order x.settings x.facts.node w n d

  shown : new_on_top tree ≡ form_tops d.form
  shown = tops_handled x.settings x.facts.node w n d ∙ formed.tops

  same_split : is_split x.settings c ≡ is_split x.settings k
  same_split = ap (λ f. is_set x.settings.split && (rows_gain x.settings f && is_set f.splits)) (sym same.facts)

  last_form_lem : is_new_keyed (beneath_sorts tree) ≡ false → last_form x c tree ≡ d.form
  last_form_lem e =
      let own = topmost_own d.form formed.bit (λ z. true_false (keyed_topmost tree (ap topmost shown ∙ z)) e) in
      let a : mark (is_split x.settings c) ≡ d.form.split = ap mark same_split ∙ sym formed.split in
      let b : topmost (new_on_top tree) ≡ d.form.top = ap topmost shown ∙ own.1 in
      let r : 0 ≡ d.form.relationship = sym own.0 in
      λ j. record { split = a j; top = b j; relationship = r j }

  same_kind : (root (worked x)).kind ≡ w.kind
  same_kind = sym (ap (λ (o : Operator). o.kind) marked)

  same_allowed : allow_subset_satisfy_partitioning x.settings (root (worked x)) c ≡ allow_subset_satisfy_partitioning x.settings w k
  same_allowed = rw (same_kind, same.need, same.count, same.facts)

  module _ (has : HasPartitioning x.settings x.facts w n k d) where
    row_says : is_new_keyed (beneath_sorts tree) ≡ false
        → is_set (cond (allow_subset_satisfy_partitioning x.settings w k) d.row.subset d.row.exact) ≡ says x c (row_of x.facts.rows c.number (last_form x c tree))
    row_says e =
        let r : row_of x.facts.rows c.number (last_form x c tree) ≡ some d.row = rw (last_form_lem e, ← same.number) has.row in
        sym (ap (says x c) r ∙ ap (λ (v : Bool). is_set (cond v d.row.subset d.row.exact)) same_allowed)

    pub need_had_lem : need_had x c tree ≡ true
    need_had_lem =
        ap (λ (need : ℕ). cond (is_single need) (single_had x c tree) (cond (is_keyed need) (keyed_had x c tree) true)) (sym same.need)
        ∙ pick (is_single (need_of k)) (is_keyed (need_of k)) (leb (beneath_sorts tree).count 1) (is_new_keyed (beneath_sorts tree)) _ _ row_says has.had
