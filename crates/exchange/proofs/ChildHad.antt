-- After its step a child has what it needs: by one partition, by a new exchange, or by its row. Hashing that is not necessary leaves one partition,
-- since no keyed child asked for it before the split, and a split child that gains would have.
use Prim.Native.Nat.{ℕ}
use mathlib.Core.Path.{◌≡◌, refl, ◌∙◌}
use mathlib.Core.Logic.{◌⊎◌, inl, inr}
use mathlib.Core.Bool.{Bool, true, false, cond, not, ◌&&◌, ◌||◌, or-true}
use mathlib.Core.Option.{Option, some, none as nothing}
use mathlib.Core.List.{List}
use lib.Dec.{eqb, leb, ltb}
use borrow.Author.Tests.{ltb-false, le-leb, eqb-true, not-false}
use Rattle.std.proofs.lemmas.Bool.{or_parts, and_cases}
use Rattle.keys.proofs.Truths.{true_false, and_first, and_second}
use Rattle.exchange.specs.Trees.{node, root, Operator, Plan}
use Rattle.exchange.specs.declared.settings.Settings.{Settings}
use Rattle.exchange.specs.Settings.{is_set}
use Rattle.exchange.specs.Forms.{Form, plain_form, split_form, with_top, with_relationship}
use Rattle.exchange.specs.Facts.{NodeFacts, Row, row_of}
use Rattle.exchange.specs.Operators.{is_single, is_keyed, has_order, new_merge, new_exchange}
use Rattle.exchange.specs.States.{Child, ChildState, need_of, count_of, pass, started_by, started}
use Rattle.exchange.specs.Status.{rows_gain, asks_alignment, status_of}
use Rattle.exchange.specs.Step.{split_plan, merge_on, keyed_on, roundrobin_on, partitions, add_merge_on_top, add_hash_on_top, add_roundrobin_on_top, add_roundrobin, allow_subset_satisfy_partitioning, split_at_source, needs_hash_repartition, satisfy_distribution, ensure_child}
use Rattle.exchange.specs.Relationships.{is_givable, is_given, already_target_hash, add_relationship_on_top}
use Rattle.exchange.specs.Fit.{rows_fit}
use Rattle.exchange.specs.Skeleton.{is_added_sort}
use Rattle.exchange.specs.Partitioning.{is_new_keyed, is_had, is_split}
use Rattle.exchange.proofs.StepWays.{holds_stepped}
use Rattle.exchange.proofs.Passing.{Holds, holds_cond, holds_pass}
use Rattle.exchange.proofs.RowsFit.{merge_one}

pick_keyed : (a k x y : Bool) → a ≡ false → k ≡ true → y ≡ true → cond a x (cond k y true) ≡ true
pick_keyed a k x y p q r = rw (p, q) r

few : (n : ℕ) → ltb 1 n ≡ false → leb n 1 ≡ true
few n e = le-leb n 1 (ltb-false 1 n e)

module _ (s : Settings) (w : Operator) (b : NodeFacts) (rows : List Row) where
  -- a child after its step, and after a relationship exchange: its own need, the row of its form, and what it needs
  pub record Has (c : Child) (d : ChildState) : Type 0 where
    pub number : d.number ≡ c.number
    pub need : d.need ≡ need_of c
    pub row : row_of rows c.number d.form ≡ some d.row
    pub fresh : is_added_sort (root d.plan) ≡ false
    pub had : is_had s w c d.row (root d.plan) ≡ true

  -- a child before: as many partitions as on the sheet, or split and gaining
  record Comes (c : Child) (d : ChildState) : Type 0 where
    number : d.number ≡ c.number
    need : d.need ≡ need_of c
    facts : d.facts ≡ c.facts
    row : row_of rows c.number d.form ≡ some d.row
    fresh : is_added_sort (root d.plan) ≡ false
    merge : (x : Row) → row_of rows d.number (with_top 1 d.form) ≡ some x → x.count ≡ 1
    counted : ((root d.plan).count ≡ count_of c) ⊎ ((is_set c.facts.gains && rows_gain s c.facts) ≡ true)

  had_single : (c : Child) (x : Row) (o : Operator) → is_single (need_of c) ≡ true → leb o.count 1 ≡ true → is_had s w c x o ≡ true
  had_single c x o n e = rw n e

  had_keyed : (c : Child) (x : Row) (o : Operator) → is_single (need_of c) ≡ false → is_keyed (need_of c) ≡ true
      → (leb o.count 1 || (is_new_keyed o || is_set (cond (allow_subset_satisfy_partitioning s w c) x.subset x.exact))) ≡ true → is_had s w c x o ≡ true
  had_keyed c x o n k e =
      pick_keyed (is_single (need_of c)) (is_keyed (need_of c)) (leb o.count 1)
      (leb o.count 1 || (is_new_keyed o || is_set (cond (allow_subset_satisfy_partitioning s w c) x.subset x.exact))) n k e

  had_other : (c : Child) (x : Row) (o : Operator) → is_single (need_of c) ≡ false → is_keyed (need_of c) ≡ false → is_had s w c x o ≡ true
  had_other c x o n k = rw (n, k)

  module _ (cs : List Child) (fit : rows_fit s cs rows ≡ true) where
    begins : (c : Child) → is_added_sort (root c.plan) ≡ false → Holds (Comes c) (started rows c)
    begins c e = go (row_of rows c.number plain_form) refl
      where
        go : (o : Option Row) → row_of rows c.number plain_form ≡ o → Holds (Comes c) (started_by c o)
        go nothing q = tt
        go (some x) q = record {
          number = refl;
          need = refl;
          facts = refl;
          row = q;
          fresh = e;
          merge = λ y p. (merge_one s cs rows fit c.number (with_top 1 plain_form) y p).0 refl;
          counted = inl refl;
        }

    fresh_split : (x : Row) (t : Plan) → is_added_sort (root (split_plan x t)) ≡ is_added_sort (root t)
    fresh_split x (node o ts) = refl

    splits : (c : Child) (aligned : Bool) → (is_split s c ≡ true → is_set c.facts.gains ≡ true) → (d : ChildState) → Comes c d
        → Holds (Comes c) (split_at_source s rows (status_of s aligned c) d)
    splits c aligned g d h =
        holds_cond (Comes c) (is_set s.split && (rows_gain s c.facts && is_set d.facts.splits)) (pass rows split_form split_plan d) (some d)
        (λ e. holds_pass (Comes c) rows d split_form split_plan (λ x q. record {
          number = h.number;
          need = h.need;
          facts = h.facts;
          row = rw h.number at q;
          fresh = fresh_split x d.plan ∙ h.fresh;
          merge = λ y p. (merge_one s cs rows fit d.number (with_top 1 split_form) y p).1 refl;
          counted = inr (gaining e);
        }))
        (λ e. h)
      where
        gaining : (is_set s.split && (rows_gain s c.facts && is_set d.facts.splits)) ≡ true → (is_set c.facts.gains && rows_gain s c.facts) ≡ true
        gaining e =
            let r : rows_gain s c.facts ≡ true = and_first _ (is_set d.facts.splits) (and_second (is_set s.split) _ e) in
            let k : is_set c.facts.gains ≡ true = g (rw h.facts at e) in
            rw (k, r)

    -- a merge, or one partition
    singles : (c : Child) (d : ChildState) → is_single d.need ≡ true → Comes c d → Holds (Has c) (add_merge_on_top rows d)
    singles c d n h =
        holds_cond (Has c) (ltb 1 (partitions d)) (pass rows (with_top 1 d.form) merge_on d) (some d)
        (λ e. holds_pass (Has c) rows d (with_top 1 d.form) merge_on (λ x q. record {
          number = h.number;
          need = h.need;
          row = rw h.number at q;
          fresh = fresh_merge x (root d.plan);
          had = had_single c x (new_merge x (root d.plan)) single (rw (h.merge x q));
        }))
        (λ e. record {
          number = h.number;
          need = h.need;
          row = h.row;
          fresh = h.fresh;
          had = had_single c d.row (root d.plan) single (few (partitions d) e);
        })
      where
        single : is_single (need_of c) ≡ true
        single = rw h.need at n

        fresh_merge : (x : Row) (u : Operator) → is_added_sort (new_merge x u) ≡ false
        fresh_merge x u = go (has_order u)
          where
            go : (b : Bool) → (eqb (cond b 1 2) 11 && eqb 0 0) ≡ false
            go true = refl
            go false = refl

    -- an exchange, whatever stands under it
    exchanged : (c : Child) (d : ChildState) (f : Form) → is_single d.need ≡ false → is_keyed d.need ≡ true
        → d.number ≡ c.number → d.need ≡ need_of c → Holds (Has c) (pass rows f keyed_on d)
    exchanged c d f n k number need =
        holds_pass (Has c) rows d f keyed_on (λ x q. record {
          number = number;
          need = need;
          row = rw number at q;
          fresh = refl;
          had = had_keyed c x (new_exchange 12 x (root d.plan)) (rw need at n) (rw need at k) (or-true (leb x.count 1));
        })

    rests : (c : Child) (d : ChildState) → is_single d.need ≡ false → is_keyed d.need ≡ false → Comes c d → Has c d
    rests c d n k h = record {
      number = h.number;
      need = h.need;
      row = h.row;
      fresh = h.fresh;
      had = had_other c d.row (root d.plan) (rw h.need at n) (rw h.need at k);
    }

    -- nothing is asked of it
    others : (c : Child) (d : ChildState) → is_single d.need ≡ false → is_keyed d.need ≡ false → Comes c d
        → Holds (Has c) (add_roundrobin_on_top rows s.target d)
    others c d n k h =
        holds_cond (Has c) (ltb (partitions d) s.target) (pass rows (with_top 3 d.form) roundrobin_on d) (some d)
        (λ e. holds_pass (Has c) rows d (with_top 3 d.form) roundrobin_on (λ x q. record {
          number = h.number;
          need = h.need;
          row = rw h.number at q;
          fresh = refl;
          had = had_other c x (new_exchange 13 x (root d.plan)) (rw h.need at n) (rw h.need at k);
        }))
        (λ e. rests c d n k h)

    -- not hashed: it has one partition, or its row satisfies the need
    stays : (c : Child) (aligned : Bool) → (asks_alignment s c ≡ true → aligned ≡ true) → (d : ChildState)
        → is_single d.need ≡ false → is_keyed d.need ≡ true → Comes c d
        → ((is_keyed (need_of c) && (ltb 1 (count_of c) || aligned)) && needs_hash_repartition s w (status_of s aligned c) d) ≡ false → Has c d
    stays c aligned asks d n k h e = record {
      number = h.number;
      need = h.need;
      row = h.row;
      fresh = h.fresh;
      had = had_keyed c d.row (root d.plan) (rw h.need at n) keyed (why (and_cases _ _ e));
    }
      where
        keyed : is_keyed (need_of c) ≡ true
        keyed = rw h.need at k

        satisfied : Bool
        satisfied = is_set (cond (allow_subset_satisfy_partitioning s w c) d.row.subset d.row.exact)

        Goal : Type 0
        Goal = (leb (root d.plan).count 1 || (is_new_keyed (root d.plan) || satisfied)) ≡ true

        by_count : leb (root d.plan).count 1 ≡ true → Goal
        by_count q = rw q

        by_row : satisfied ≡ true → Goal
        by_row q = rw (q, or-true, or-true)

        unasked : (ltb 1 (count_of c) ≡ false) → aligned ≡ false
            → ((root d.plan).count ≡ count_of c) ⊎ ((is_set c.facts.gains && rows_gain s c.facts) ≡ true) → Goal
        unasked one none (inl q) = by_count (few (root d.plan).count (rw q one))
        unasked one none (inr g) = absurd (true_false (asks (rw (keyed, g) (or-true (ltb 1 (count_of c))))) none)

        split_necessary : (is_keyed (need_of c) ≡ false) ⊎ ((ltb 1 (count_of c) || aligned) ≡ false) → Goal
        split_necessary (inl q) = absurd (true_false keyed q)
        split_necessary (inr q) = unasked (or_parts (ltb 1 (count_of c)) aligned q).0 (or_parts (ltb 1 (count_of c)) aligned q).1 h.counted

        why : ((is_keyed (need_of c) && (ltb 1 (count_of c) || aligned)) ≡ false) ⊎ (needs_hash_repartition s w (status_of s aligned c) d ≡ false) → Goal
        why (inl q) = split_necessary (and_cases (is_keyed (need_of c)) (ltb 1 (count_of c) || aligned) q)
        why (inr q) = by_row (not-false satisfied (or_parts (not satisfied) _ q).0)

    -- the need decides, as the step does
    satisfies : (c : Child) (aligned : Bool) → (asks_alignment s c ≡ true → aligned ≡ true) → (d : ChildState) → Comes c d
        → Holds (Has c) (satisfy_distribution s w b rows (status_of s aligned c) d)
    satisfies c aligned asks d h =
        holds_cond (Has c) (is_single d.need) (add_merge_on_top rows d) _ (λ n. singles c d n h)
        (λ n. holds_cond (Has c) (is_keyed d.need) _ _
        (λ k. holds_cond (Has c) ((is_keyed (need_of c) && (ltb 1 (count_of c) || aligned)) && needs_hash_repartition s w (status_of s aligned c) d)
        (add_hash_on_top rows d) (some d)
        (λ e. exchanged c d (with_top 2 d.form) n k h.number h.need)
        (λ e. stays c aligned asks d n k h e))
        (λ k. holds_cond (Has c) (add_roundrobin s w b (status_of s aligned c)) (add_roundrobin_on_top rows s.target d) (some d)
        (λ e. others c d n k h)
        (λ e. rests c d n k h)))

    -- the whole step of a child
    pub step_has : (c : Child) (aligned : Bool)
        → is_added_sort (root c.plan) ≡ false
        → (is_split s c ≡ true → is_set c.facts.gains ≡ true)
        → (asks_alignment s c ≡ true → aligned ≡ true)
        → Holds (Has c) (ensure_child s w b rows (status_of s aligned c))
    step_has c aligned fresh gains asks =
        holds_stepped s w b rows (Comes c) (Comes c) (Has c) (status_of s aligned c) (begins c fresh) (splits c aligned gains) (satisfies c aligned asks)

    -- a relationship exchange
    pub related_has : (c : Child) (d : ChildState) → is_givable d ≡ true → Has c d → Holds (Has c) (add_relationship_on_top rows d)
    related_has c d g h = exchanged c d (with_relationship d.form) (rw (eqb-true d.need 2 keyed)) keyed h.number h.need
      where
        keyed : is_keyed d.need ≡ true
        keyed = and_first (is_keyed d.need) (not (already_target_hash d)) (and_second (not (is_given d)) _ g)
