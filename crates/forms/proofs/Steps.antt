-- What a child's step does, case by case; that the form it leaves goes by the child's numbers alone (`same_numbers`); and what it is by the
-- rows that are found for the child (`step_none`, `step_whole`, `step_cut_none`, `step_cut`).
-- Assumes nothing.
use mathlib.Core.Path.{◌≡◌, refl, sym, ap, ◌∙◌}
use mathlib.Core.Bool.{Bool, true, false, cond, ◌&&◌}
use mathlib.Core.Option.{Option, none, some}
use mathlib.Core.List.{List, [], map}
use Prim.Native.Nat.{ℕ}
use lib.Dec.{ltb}
use lib.ListN.{get_or}
use Rattle.exchange.specs.declared.settings.Settings.{Settings}
use Rattle.exchange.specs.declared.status.Asked.{Asked}
use Rattle.exchange.specs.declared.status.RepartitionRequirementStatus.{RepartitionRequirementStatus as Told}
use Rattle.exchange.specs.declared.partitioning.Worked.{Worked}
use Rattle.exchange.specs.declared.partitioning.Standing.{Standing}
use Rattle.std.specs.Prelude.{Option as Answer, Some, None}
use Rattle.exchange.specs.Trees.{node, root, Operator, Plan}
use Rattle.exchange.specs.Settings.{is_set}
use Rattle.exchange.specs.Found.{row_for}
use Rattle.exchange.specs.Forms.{Form, form_number, form_of, plain_form, split_form, with_top}
use Rattle.exchange.specs.Facts.{NodeFacts, Row, row_of}
use Rattle.exchange.specs.Operators.{is_single, is_keyed}
use Rattle.exchange.specs.States.{Child, ChildState, need_of, count_of, with_form}
use Rattle.exchange.specs.Status.{RepartitionRequirementStatus, rows_gain, status_of}
use Rattle.exchange.specs.Step.{merge_on, keyed_on, roundrobin_on, split_plan, partitions, add_merge_on_top, add_hash_on_top, add_roundrobin_on_top, add_roundrobin, needs_hash_repartition, satisfy_distribution, ensure_child}
use Rattle.exchange.specs.Standings.{worked_for, node_for, state_for, status_by, standing_at, formed, form_by, begun, SameNode, SameChild}
use Rattle.exchange.specs.FactRows.{child_facts, fact_row, row_at, child_at}
use Rattle.exchange.proofs.FactRows.{row_found}
use Rattle.forms.proofs.Formed.{formed_both}

-- a child that was split
abbrev cut : Child → Row → ChildState
cut k y = record { number = k.number; facts = k.facts; need = need_of k; form = split_form; row = y; plan = split_plan y k.plan }

abbrev is_cut : Settings → Child → Bool
is_cut s k = is_set s.split && (rows_gain s k.facts && is_set k.facts.splits)

-- ---- the cases of a step

module _ (s : Settings) (o : Operator) (b : NodeFacts) (rows : List Row) (aligned : Bool) (k : Child) where
  ensure_none : row_of rows k.number plain_form ≡ none → None ≡ formed (ensure_child s o b rows (status_of s aligned k))
  unfolding ensure_child
  ensure_none e = rw e

  module _ (x : Row) (e : row_of rows k.number plain_form ≡ some x) where
    ensure_whole : (r : Answer ℕ) → is_cut s k ≡ false → r ≡ formed (satisfy_distribution s o b rows (status_of s aligned k) (begun k x))
        → r ≡ formed (ensure_child s o b rows (status_of s aligned k))
    unfolding ensure_child
    ensure_whole r h f = rw (e, h) f

    ensure_cut_none : is_cut s k ≡ true → row_of rows k.number split_form ≡ none → None ≡ formed (ensure_child s o b rows (status_of s aligned k))
    unfolding ensure_child
    ensure_cut_none h g = rw (e, h, g)

    ensure_cut : (r : Answer ℕ) (y : Row) → is_cut s k ≡ true → row_of rows k.number split_form ≡ some y
        → r ≡ formed (satisfy_distribution s o b rows (status_of s aligned k) (cut k y)) → r ≡ formed (ensure_child s o b rows (status_of s aligned k))
    unfolding ensure_child
    ensure_cut r y h g f = rw (e, h, g) f

-- ---- the form, without the tree

module _ (s : Settings) (o : Operator) (b : NodeFacts) (rows : List Row) (t : RepartitionRequirementStatus) (c : ChildState) where
  abbrev topped : ℕ → Answer ℕ
  topped top = form_by (form_number (with_top top c.form)) (row_of rows c.number (with_top top c.form))

  abbrev kept : Answer ℕ
  kept = Some (form_number c.form)

  abbrev satisfied : Answer ℕ
  satisfied =
      cond (is_single c.need) (cond (ltb 1 (partitions c)) (topped 1) kept)
      (cond (is_keyed c.need) (cond (t.hash_necessary && needs_hash_repartition s o t c) (topped 2) kept)
      (cond (add_roundrobin s o b t) (cond (ltb (partitions c) s.target) (topped 3) kept) kept))

  one : (q : Bool) (f : Form) (change : Row → Plan → Plan) (x : Option Row) → formed (cond q (with_form c f change x) (some c)) ≡ cond q (form_by (form_number f) x) kept
  one true f change none = refl
  one true f change (some x) = refl
  one false f change x = refl

  abbrev put : ℕ → Option Row
  put top = row_of rows c.number (with_top top c.form)

  satisfied_by : formed (satisfy_distribution s o b rows t c) ≡ satisfied
  satisfied_by =
      let hash = t.hash_necessary && needs_hash_repartition s o t c in
      let dealt = cond (add_roundrobin s o b t) (add_roundrobin_on_top rows s.target c) (some c) in
      formed_both (is_single c.need) (add_merge_on_top rows c) (cond (is_keyed c.need) (cond hash (add_hash_on_top rows c) (some c)) dealt) _ _
      (one (ltb 1 (partitions c)) (with_top 1 c.form) merge_on (put 1))
      (formed_both (is_keyed c.need) (cond hash (add_hash_on_top rows c) (some c)) dealt _ _
      (one hash (with_top 2 c.form) keyed_on (put 2))
      (formed_both (add_roundrobin s o b t) (add_roundrobin_on_top rows s.target c) (some c) _ _
      (one (ltb (partitions c) s.target) (with_top 3 c.form) roundrobin_on (put 3)) refl))

-- ---- the same numbers

-- two children on their way that differ in their trees below the count
record Alike (c d : ChildState) : Type 0 where
  pub number : c.number ≡ d.number
  pub need : c.need ≡ d.need
  pub form : c.form ≡ d.form
  pub row : c.row ≡ d.row
  pub count : partitions c ≡ partitions d

module _ (s : Settings) (o p : Operator) (b : NodeFacts) (rows : List Row) (aligned : Bool) (k l : Child)
    (kind : o.kind ≡ p.kind) (number : k.number ≡ l.number) (need : need_of k ≡ need_of l) (count : count_of k ≡ count_of l) (facts : k.facts ≡ l.facts) where
  same_satisfied : (c d : ChildState) → Alike c d
      → formed (satisfy_distribution s o b rows (status_of s aligned k) c) ≡ formed (satisfy_distribution s p b rows (status_of s aligned l) d)
  same_satisfied c d e =
      let same : satisfied s o b rows (status_of s aligned k) c ≡ satisfied s p b rows (status_of s aligned l) d =
      rw (kind, need, count, facts, e.number, e.need, e.form, e.row, e.count) in
      satisfied_by s o b rows (status_of s aligned k) c ∙ same ∙ sym (satisfied_by s p b rows (status_of s aligned l) d)

  split_count : (y : Row) (t : Plan) → (root (split_plan y t)).count ≡ y.count
  split_count y (node u ts) = refl

  abbrev mine : Answer ℕ
  mine = formed (ensure_child s o b rows (status_of s aligned k))

  abbrev other : Answer ℕ
  other = formed (ensure_child s p b rows (status_of s aligned l))

  same_cut : (x : Row) → row_of rows l.number plain_form ≡ some x → is_cut s l ≡ true → (y : Option Row) → row_of rows l.number split_form ≡ y → mine ≡ other
  same_cut x e h none g =
      sym (ensure_cut_none s o b rows aligned k x (rw number e) (rw facts h) (rw number g)) ∙ ensure_cut_none s p b rows aligned l x e h g
  same_cut x e h (some y) g =
      let like : Alike (cut k y) (cut l y) =
      record { number = number; need = need; form = refl; row = refl; count = split_count y k.plan ∙ sym (split_count y l.plan) } in
      sym (ensure_cut s o b rows aligned k x (rw number e) _ y (rw facts h) (rw number g) refl)
      ∙ same_satisfied (cut k y) (cut l y) like
      ∙ ensure_cut s p b rows aligned l x e _ y h g refl

  same_begun : (x : Row) → row_of rows l.number plain_form ≡ some x → (t : Bool) → is_cut s l ≡ t → mine ≡ other
  same_begun x e true h = same_cut x e h (row_of rows l.number split_form) refl
  same_begun x e false h =
      sym (ensure_whole s o b rows aligned k x (rw number e) _ (rw facts h) refl)
      ∙ same_satisfied (begun k x) (begun l x) (record { number = number; need = need; form = refl; row = refl; count = count })
      ∙ ensure_whole s p b rows aligned l x e _ h refl

  same_from : (x : Option Row) → row_of rows l.number plain_form ≡ x → mine ≡ other
  same_from none e = sym (ensure_none s o b rows aligned k (rw number e)) ∙ ensure_none s p b rows aligned l e
  same_from (some x) e = same_begun x e (is_cut s l) refl

  ensure_same : formed (ensure_child s o b rows (status_of s aligned k)) ≡ formed (ensure_child s p b rows (status_of s aligned l))
  ensure_same = same_from (row_of rows l.number plain_form) refl

pub same_numbers : (s : Settings) (rows : List Row) (aligned : Bool) (w : Worked) (i : ℕ) (a : Asked) (o : Operator) (b : NodeFacts) (k : Child) → SameNode w o b → SameChild i a k
    → formed (ensure_child s (worked_for w) (node_for w) rows (status_of s aligned (child_at i a))) ≡ formed (ensure_child s o b rows (status_of s aligned k))
same_numbers s rows aligned w i a o b k n c =
    rw n.facts (sym (ensure_same s o (worked_for w) (node_for w) rows aligned k (child_at i a) n.kind c.number c.need c.count c.facts))

-- ---- a child's step by the rows of its forms

-- the standing of a child in a form, where the row of that form was found
record Found (xs : List (List ℕ)) (child : ℕ) (f : Form) (x : Standing) : Type 0 where
  pub row : row_of (map fact_row xs) child f ≡ some (fact_row x.row)
  pub form : x.form ≡ form_number f
  pub count : x.count ≡ (fact_row x.row).count

module _ (xs : List (List ℕ)) (child : ℕ) (f : Form) where
  found_none : None ≡ standing_at xs (form_number f) (row_for xs child (form_number f)) → row_of (map fact_row xs) child f ≡ none
  found_none e = row_found xs child f ∙ go (row_for xs child (form_number f)) e
    where
      go : (p : Option ℕ) → None ≡ standing_at xs (form_number f) p → row_at xs p ≡ none
      go none h = refl
      go (some p) h = absurd (cc)

  found_some : (x : Standing) → Some x ≡ standing_at xs (form_number f) (row_for xs child (form_number f)) → Found xs child f x
  found_some x e = go (row_for xs child (form_number f)) refl e
    where
      go : (p : Option ℕ) → row_for xs child (form_number f) ≡ p → Some x ≡ standing_at xs (form_number f) p → Found xs child f x
      go none h g = absurd (cc)
      go (some p) h g =
          let is : x ≡ record { form = form_number f; count = get_or (get_or xs p []) 2 0; row = get_or xs p [] } = cc in
          rw is (record { row = row_found xs child f ∙ ap (row_at xs) h; form = refl; count = refl })

module _ (s : Settings) (xs : List (List ℕ)) (aligned : Bool) (w : Worked) (i : ℕ) (a : Asked) (o : Operator) (b : NodeFacts) (k : Child) (n : SameNode w o b) (m : SameChild i a k) where
  abbrev stepped : Answer ℕ
  stepped = formed (ensure_child s o b (map fact_row xs) (status_of s aligned k))

  abbrev found : ℕ → Answer Standing
  found form = standing_at xs form (row_for xs i form)

  same : formed (ensure_child s (worked_for w) (node_for w) (map fact_row xs) (status_of s aligned (child_at i a))) ≡ stepped
  same = same_numbers s (map fact_row xs) aligned w i a o b k n m

  pub step_none : None ≡ found 0 → None ≡ stepped
  step_none e = ensure_none s (worked_for w) (node_for w) (map fact_row xs) aligned (child_at i a) (found_none xs i plain_form e) ∙ same

  module _ (u : Standing) (e : Some u ≡ found 0) (t : Told) (is : status_by (child_at i a) t ≡ status_of s aligned (child_at i a)) where
    here : Found xs i plain_form u
    here = found_some xs i plain_form u e

    abbrev satisfies : Standing → Answer ℕ
    satisfies c = formed (satisfy_distribution s (worked_for w) (node_for w) (map fact_row xs) (status_by (child_at i a) t) (state_for i a c))

    told : (c : Standing) (d : ChildState) → Alike (state_for i a c) d
        → satisfies c ≡ formed (satisfy_distribution s (worked_for w) (node_for w) (map fact_row xs) (status_of s aligned (child_at i a)) d)
    told c d l =
        ap (λ (x : RepartitionRequirementStatus). formed (satisfy_distribution s (worked_for w) (node_for w) (map fact_row xs) x (state_for i a c))) is
        ∙ same_satisfied s (worked_for w) (worked_for w) (node_for w) (map fact_row xs) aligned (child_at i a) (child_at i a) refl refl refl refl refl (state_for i a c) d l

    -- whether it is split, by its status
    abbrev splits : Bool
    splits = is_set s.split && (t.roundrobin_beneficial_stats && is_set (child_facts a.facts).splits)

    splits_cut : (x : Bool) → splits ≡ x → is_cut s (child_at i a) ≡ x
    splits_cut x h = sym (ap (λ (y : RepartitionRequirementStatus). is_set s.split && (y.roundrobin_beneficial_stats && is_set (child_facts a.facts).splits)) is) ∙ h

    pub step_whole : splits ≡ false → satisfies (record { form = u.form; count = a.count; row = u.row }) ≡ stepped
    step_whole h =
        ensure_whole s (worked_for w) (node_for w) (map fact_row xs) aligned (child_at i a) (fact_row u.row) here.row _ (splits_cut false h)
        (told (record { form = u.form; count = a.count; row = u.row }) (begun (child_at i a) (fact_row u.row)) (record { number = refl; need = refl; form = ap form_of here.form; row = refl; count = refl }))
        ∙ same

    pub step_cut_none : splits ≡ true → None ≡ found 1 → None ≡ stepped
    step_cut_none h g =
        ensure_cut_none s (worked_for w) (node_for w) (map fact_row xs) aligned (child_at i a) (fact_row u.row) here.row (splits_cut true h) (found_none xs i split_form g) ∙ same

    pub step_cut : splits ≡ true → (v : Standing) → Some v ≡ found 1 → satisfies v ≡ stepped
    step_cut h v g =
        let p = found_some xs i split_form v g in
        ensure_cut s (worked_for w) (node_for w) (map fact_row xs) aligned (child_at i a) (fact_row u.row) here.row _ (fact_row v.row) (splits_cut true h) p.row
        (told v (cut (child_at i a) (fact_row v.row)) (record { number = refl; need = refl; form = ap form_of p.form; row = refl; count = p.count }))
        ∙ same
