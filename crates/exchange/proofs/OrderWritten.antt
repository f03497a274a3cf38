-- A child's tree after its order handling, as rows: what is asked and given with and without a sort, and with its mark cleared.
-- Assumes nothing.
use Prim.Native.Nat.{ℕ, suc, ◌+◌, ◌≤◌, ◌<◌}
use mathlib.Core.Path.{◌≡◌, refl, sym, ap, ◌∙◌}
use mathlib.Core.Bool.{Bool, true, false}
use mathlib.Core.Option.{Option}
use mathlib.Core.List.{List, [], ◌∷◌, ◌++◌, append_assoc}
use native.Mathlib.Numerals.{add-one}
use native.Mathlib.Omega.{arith}
use lib.ListN.{length, take, drop, get_or, set}
use lib.Seq.{sets, sets-eq, drop_at, length-take-le, set-set, set_comm}
use borrow.Author.Tests.{eq-eqb, ne_eqb}
use Rattle.exchange.specs.declared.row.Node.{Node}
use Rattle.exchange.specs.declared.row.Step.{Step}
use Rattle.exchange.specs.declared.order.Handling.{Handling}
use Rattle.exchange.specs.Trees.{root, Operator, Plan}
use Rattle.exchange.specs.Operators.{track_root, above, required_sort}
use Rattle.exchange.specs.Replace.{replace_order_preserving_variants}
use Rattle.exchange.specs.Handling.{given_up, sorted_by, handled_by}
use Rattle.exchange.specs.Rows.{packed, node_at, node_of, operator_of, row_of, flatten}
use Rattle.exchange.specs.Runs.{Ready, Maps}
use Rattle.exchange.proofs.Grown.{one_tree}
use Rattle.exchange.proofs.TreeRows.{flatten_node, flattens_one, tree_long, row_packed}
use Rattle.exchange.proofs.Marking.{root_read}
use Rattle.exchange.proofs.MarkStored.{marked_one, track_root_long}

-- ---- one step for another that makes the same

module _ (f g : Plan → Plan) (same : (t : Plan) → f t ≡ g t) where
  pub ready_as : (src : List (List ℕ)) (at room to : ℕ) → Ready g src at room to → Ready f src at room to
  ready_as src at room to p = record { tree = p.tree; rest = p.rest; stands = p.stands; fits = rw (same p.tree) p.fits }

  pub maps_as : (src : List (List ℕ)) (at to : ℕ) (d d₁ : List (List ℕ)) (r : Step) → Maps f src at d to d₁ r → Maps g src at d to d₁ r
  maps_as src at to d d₁ r m t rest h = rw (same t) at (m t rest h)

module _ (replaced : Bool) where
  pub given_replaced : replaced ≡ true → (t : Plan) → replace_order_preserving_variants t ≡ given_up replaced t
  unfolding given_up
  given_replaced e t = rw e

  pub given_kept : replaced ≡ false → (t : Plan) → t ≡ given_up replaced t
  unfolding given_up
  given_kept e t = rw e

  module _ (entries : ℕ) (limit : Option ℕ) where
    pub sorted_none : entries ≡ 0 → (t : Plan) → given_up replaced t ≡ sorted_by entries limit replaced t
    unfolding sorted_by
    sorted_none e t = rw (eq-eqb _ _ e)

    module _ (some : entries ≡ 0 → ⊥) where
      sorted_some : (t : Plan) → sorted_by entries limit replaced t ≡ above (required_sort limit entries (root (given_up replaced t))) (given_up replaced t)
      unfolding sorted_by
      sorted_some t = rw (ne_eqb _ _ some)

      sorted_rows : (t : Plan) → flatten (sorted_by entries limit replaced t) ≡ row_of (required_sort limit entries (root (given_up replaced t))) 1 ∷ flatten (given_up replaced t)
      sorted_rows t = ap flatten (sorted_some t) ∙ flatten_node _ _ ∙ ap (λ (l : List (List ℕ)). row_of (required_sort limit entries (root (given_up replaced t))) 1 ∷ l) (flattens_one _)

      module _ (src : List (List ℕ)) (at room to : ℕ) (p : Ready (sorted_by entries limit replaced) src at room to) where
        pub ready_under : Ready (given_up replaced) src at room (to + 1)
        ready_under = record { tree = p.tree; rest = p.rest; stands = p.stands; fits = omega (arith, p.fits, ap length (sorted_rows p.tree)) }

        pub under_in : to + 1 < room
        under_in = omega (arith, p.fits, ap length (sorted_rows p.tree), tree_long (given_up replaced p.tree))

-- ---- rows stored

-- rows stored are there
pub stored_there : {A : Type 0} (d xs : List A) (to : ℕ) → to + length xs ≤ length d → drop to (sets d to xs) ≡ xs ++ drop (to + length xs) d
stored_there d xs to fits =
    ap (drop to) (sets-eq xs d to fits ∙ append_assoc (take to d) xs (drop (to + length xs) d)) ∙ drop_at (take to d) (xs ++ drop (to + length xs) d) to (length-take-le to d (omega arith))

-- a row stored before others
sets_before : {A : Type 0} (xs : List A) (d : List A) (i j : ℕ) (x : A) → i < j → set (sets d j xs) i x ≡ sets (set d i x) j xs
sets_before [] d i j x l = refl
sets_before (y ∷ ys) d i j x l =
    sets_before ys (set d j y) i (suc j) x (omega arith) ∙ ap (λ (k : List _). sets k (suc j) ys) (set_comm d j i y x (λ e. omega arith))

module _ (d d₁ d₂ xs : List (List ℕ)) (to : ℕ) (m : Node) (o : Operator) where
  -- rows, and then one before them
  before_them : d₁ ≡ sets d (to + 1) xs → m ≡ node_of o → d₂ ≡ set d₁ to (packed m 1) → d₂ ≡ sets d to (row_of o 1 ∷ xs)
  before_them s is p =
      p
      ∙ ap (λ (n : Node). set d₁ to (packed n 1)) is
      ∙ ap (λ (r : List ℕ). set d₁ to r) (row_packed o 1)
      ∙ ap (λ (k : List (List ℕ)). set k to (row_of o 1)) s
      ∙ sets_before xs d to (to + 1) (row_of o 1) (omega arith)
      ∙ ap (λ (j : ℕ). sets (set d to (row_of o 1)) j xs) (add-one to)

-- ---- what a sort above gives

module _ (replaced : Bool) (entries : ℕ) (limit : Option ℕ) (some : entries ≡ 0 → ⊥) (src : List (List ℕ)) (at to : ℕ) (d d₁ d₂ : List (List ℕ)) (r : Step) (under m : Node) where
  pub sorted_wrote : Ready (sorted_by entries limit replaced) src at (length d) to → Maps (given_up replaced) src at d (to + 1) d₁ r → under ≡ node_at d₁ (to + 1)
      → m ≡ node_of (required_sort limit entries (operator_of under)) → d₂ ≡ set d₁ to (packed m 1) → Maps (sorted_by entries limit replaced) src at d to d₂ r
  sorted_wrote p w u is s t rest h =
      let same : p.tree ≡ t = one_tree p.tree t p.rest rest (sym p.stands ∙ h) in
      let g : Plan = given_up replaced t in
      let q = w t rest h in
      let fits : to + 1 + length (flatten g) ≤ length d =
      omega (arith, p.fits, ap (λ (v : Plan). length (flatten (sorted_by entries limit replaced v))) same, ap length (sorted_rows replaced entries limit some t)) in
      let there : drop (to + 1) d₁ ≡ flatten g ++ drop (to + 1 + length (flatten g)) d = ap (drop (to + 1)) q.stored ∙ stored_there d (flatten g) (to + 1) fits in
      let top : operator_of under ≡ root g = ap operator_of u ∙ root_read d₁ (to + 1) g _ there in
      let is' : m ≡ node_of (required_sort limit entries (root g)) = is ∙ ap (λ (o : Operator). node_of (required_sort limit entries o)) top in
      rw (sorted_rows replaced entries limit some t) (record {
        read = q.read;
        written = omega (arith, q.written);
        stored = before_them d d₁ d₂ (flatten g) to m (required_sort limit entries (root g)) q.stored is' s;
      })

-- ---- the mark

module _ (h : Handling) (limit : Option ℕ) where
  pub cleared_not : h.cleared ≡ false → (t : Plan) → sorted_by h.entries limit h.replaced t ≡ handled_by h limit t
  unfolding handled_by
  cleared_not e t = rw e

  cleared_is : h.cleared ≡ true → (t : Plan) → handled_by h limit t ≡ track_root 0 (sorted_by h.entries limit h.replaced t)
  unfolding handled_by
  cleared_is e t = rw e

  handled_long : (t : Plan) → length (flatten (handled_by h limit t)) ≡ length (flatten (sorted_by h.entries limit h.replaced t))
  handled_long t = go h.cleared refl
    where
      go : (b : Bool) → h.cleared ≡ b → length (flatten (handled_by h limit t)) ≡ length (flatten (sorted_by h.entries limit h.replaced t))
      go true e = ap (λ (v : Plan). length (flatten v)) (cleared_is e t) ∙ track_root_long 0 (sorted_by h.entries limit h.replaced t)
      go false e = ap (λ (v : Plan). length (flatten v)) (sym (cleared_not e t))

  pub handled_ready : (src : List (List ℕ)) (at room to : ℕ) → Ready (handled_by h limit) src at room to → Ready (sorted_by h.entries limit h.replaced) src at room to
  handled_ready src at room to p = record { tree = p.tree; rest = p.rest; stands = p.stands; fits = omega (arith, p.fits, handled_long p.tree) }

  pub handled_in : (src : List (List ℕ)) (at room to : ℕ) → Ready (handled_by h limit) src at room to → to < room
  handled_in src at room to p = omega (arith, p.fits, tree_long (handled_by h limit p.tree))

-- rows stored over as many others
sets_over : {A : Type 0} (d : List A) (i : ℕ) (xs ys : List A) → length xs ≡ length ys → sets (sets d i xs) i ys ≡ sets d i ys
sets_over d i [] [] e = refl
sets_over d i [] (y ∷ ys) e = absurd (omega arith)
sets_over d i (x ∷ xs) [] e = absurd (omega arith)
sets_over d i (x ∷ xs) (y ∷ ys) e =
    ap (λ (k : List _). sets k (suc i) ys) (sets_before xs (set d i x) i (suc i) y (omega arith) ∙ ap (λ (k : List _). sets k (suc i) xs) (set-set d i x y))
    ∙ sets_over (set d i y) (suc i) xs ys (omega arith)

module _ (h : Handling) (limit : Option ℕ) (src : List (List ℕ)) (at to : ℕ) (d d₁ d₂ : List (List ℕ)) (r : Step) where
  pub cleared_wrote : h.cleared ≡ true → Ready (handled_by h limit) src at (length d) to → Maps (sorted_by h.entries limit h.replaced) src at d to d₁ r
      → d₂ ≡ set d₁ to (set (get_or d₁ to []) 8 0) → Maps (handled_by h limit) src at d to d₂ r
  cleared_wrote e p w s t rest k =
      let same : p.tree ≡ t = one_tree p.tree t p.rest rest (sym p.stands ∙ k) in
      let g : Plan = sorted_by h.entries limit h.replaced t in
      let q = w t rest k in
      let fits : to + length (flatten g) ≤ length d = omega (arith, p.fits, ap (λ (v : Plan). length (flatten (handled_by h limit v))) same, handled_long h limit t) in
      let there : drop to d₁ ≡ flatten g ++ drop (to + length (flatten g)) d = ap (drop to) q.stored ∙ stored_there d (flatten g) to fits in
      let long : length (flatten (track_root 0 g)) ≡ length (flatten g) = track_root_long 0 g in
      let over : d₂ ≡ sets d to (flatten (track_root 0 g)) =
      marked_one d₁ d₂ to 0 s g _ there ∙ ap (λ (l : List (List ℕ)). sets l to (flatten (track_root 0 g))) q.stored ∙ sets_over d to (flatten g) (flatten (track_root 0 g)) (sym long) in
      rw (cleared_is h limit e t) (record { read = q.read; written = q.written ∙ ap (λ (n : ℕ). to + n) (sym long); stored = over })
