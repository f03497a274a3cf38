-- A mark stored in a child's row, and those of the others after it: together they are the rows of the children marked (`marks_more`).
-- Assumes nothing.
use mathlib.Core.Path.{◌≡◌, refl, sym, ap, ◌∙◌}
use mathlib.Core.Bool.{Bool}
use mathlib.Core.List.{List, [], ◌∷◌, ◌++◌}
use Prim.Native.Nat.{ℕ, suc, ◌+◌, ◌-◌, ◌<◌}
use native.Mathlib.Numerals.{add-one}
use native.Mathlib.Omega.{arith}
use lib.ListN.{length, drop, get_or, set, length-append}
use lib.Seq.{sets, set-get_or, drop-set-lt}
use Rattle.exchange.specs.Trees.{node, none, ◌∷ᶠ◌, trees, Operator, Plan, Plans}
use Rattle.exchange.specs.Rows.{children_at, row_of, flatten, flattens}
use Rattle.exchange.specs.Runs.{Stands, Becomes, BecomeAll, Says, StandAll}
use Rattle.exchange.specs.Operators.{mark, track, track_root}
use Rattle.exchange.specs.Children.{update_each, update_children}
use Rattle.exchange.specs.Update.{marks_child}
use Rattle.exchange.proofs.Stored.{then, past, first_at}
use Rattle.exchange.proofs.TreeRows.{flatten_node, flattens_none, flattens_cons, tree_long}
use Rattle.exchange.proofs.Marking.{row_at, head_stands, tail_stands, below_stands, children_read, PastTree}

-- what stands there stored again
sets_same : {A : Type 0} (l : List A) (i : ℕ) (xs ys : List A) → drop i l ≡ xs ++ ys → sets l i xs ≡ l
sets_same l i [] ys h = refl
sets_same l i (x ∷ xs) ys h =
    let here : get_or l i x ≡ x = first_at l _ i x h in
    let same : set l i x ≡ l = ap (λ (y : _). set l i y) (sym here) ∙ set-get_or l i x in
    ap (λ (k : List _). sets k (suc i) xs) same ∙ sets_same l (suc i) xs ys (rw add-one at (past l (x ∷ []) (xs ++ ys) i h))

row_marked : (m : ℕ) (o : Operator) (k : ℕ) → set (row_of o k) 8 m ≡ row_of (track m o) k
unfolding row_of
row_marked m o k = refl

-- a mark set in the row of an operator
module _ (d d₁ : List (List ℕ)) (at m : ℕ) (stored : d₁ ≡ set d at (set (get_or d at []) 8 m)) where
  mark_set : (o : Operator) (ts : Plans) (rest : List (List ℕ)) → drop at d ≡ flatten (node o ts) ++ rest → d₁ ≡ set d at (row_of (track m o) (trees ts))
  mark_set o ts rest h = stored ∙ ap (λ (x : List ℕ). set d at (set x 8 m)) (row_at d at o ts rest h) ∙ ap (λ (x : List ℕ). set d at x) (row_marked m o (trees ts))

  mark_drop : (next : ℕ) → at < next → drop next d₁ ≡ drop next d
  mark_drop next l = ap (drop next) stored ∙ drop-set-lt next d at _ l

  -- the tree with that mark stands there
  pub marked_one : (t : Plan) (rest : List (List ℕ)) → drop at d ≡ flatten t ++ rest → d₁ ≡ sets d at (flatten (track_root m t))
  marked_one (node o ts) rest h =
      let s : d₁ ≡ set d at (row_of (track m o) (trees ts)) = mark_set o ts rest h in
      let after : drop (suc at) (set d at (row_of (track m o) (trees ts))) ≡ flattens ts ++ rest =
      drop-set-lt (suc at) d at _ (omega arith) ∙ ap (λ (j : ℕ). drop j d) (sym (add-one at)) ∙ below_stands d at o ts rest h in
      s ∙ sym (sets_same (set d at (row_of (track m o) (trees ts))) (suc at) (flattens ts) rest after) ∙ ap (λ (l : List (List ℕ)). sets d at l) (sym (flatten_node (track m o) ts))

pub track_root_long : (m : ℕ) (t : Plan) → length (flatten (track_root m t)) ≡ length (flatten t)
track_root_long m (node o ts) = ap length (flatten_node (track m o) ts) ∙ sym (ap length (flatten_node o ts))

-- ---- the update_each of several trees

marks_none : update_each none ≡ none
unfolding update_each
marks_none = refl

marks_cons : (t : Plan) (ts : Plans) → update_each (t ∷ᶠ ts) ≡ track_root (mark (marks_child t)) t ∷ᶠ update_each ts
unfolding update_each marks_child
marks_cons (node o us) ts = refl

pub trees_marks : (ts : Plans) → trees (update_each ts) ≡ trees ts
unfolding update_each
trees_marks none = refl
trees_marks (t ∷ᶠ ts) = ap suc (trees_marks ts)

pub marks_done : (d : List (List ℕ)) (at left : ℕ) → left ≡ 0 → BecomeAll update_each d at left d
marks_done d at left z none rest e h = rw (marks_none, flattens_none)
marks_done d at left z (t ∷ᶠ ts) rest e h = absurd (omega arith)

module _ (d d₁ : List (List ℕ)) (at left next m : ℕ) (more : left ≡ 0 → ⊥) (p : PastTree d at next) (stored : d₁ ≡ set d at (set (get_or d at []) 8 m)) where
  -- the others, once the first is marked
  others_stand : (t : Plan) (ts : Plans) (rest : List (List ℕ)) → drop at d ≡ flattens (t ∷ᶠ ts) ++ rest → drop next d₁ ≡ flattens ts ++ rest
  others_stand t ts rest h =
      let past_it : at < next = omega (arith, p t _ (head_stands d at t ts rest h), tree_long t) in
      mark_drop d d₁ at m stored next past_it ∙ tail_stands d at next t ts rest p h

  pub marks_ready : StandAll d at left → StandAll d₁ next (left - 1)
  marks_ready s = go s.below s.counted s.stands
    where
      go : (ts : Plans) → trees ts ≡ left → drop at d ≡ flattens ts ++ s.rest → StandAll d₁ next (left - 1)
      go none e h = absurd (more (sym e))
      go (t ∷ᶠ ts) e h = record { below = ts; rest = s.rest; counted = omega arith; stands = others_stand t ts s.rest h }

  pub marks_more : (b : Bool) (d₂ : List (List ℕ)) → Says marks_child d at b → m ≡ mark b → BecomeAll update_each d₁ next (left - 1) d₂ → BecomeAll update_each d at left d₂
  marks_more b d₂ says is f none rest e h = absurd (more (sym e))
  marks_more b d₂ says is f (t ∷ᶠ ts) rest e h =
      let k = head_stands d at t ts rest h in
      let marked : m ≡ mark (marks_child t) = is ∙ ap mark (says t _ k) in
      let place : next ≡ at + length (flatten (track_root m t)) = p t _ k ∙ ap (λ (n : ℕ). at + n) (sym (track_root_long m t)) in
      let whole : d₂ ≡ sets d at (flatten (track_root m t) ++ flattens (update_each ts)) =
      then d d₁ d₂ at next (flatten (track_root m t)) (flattens (update_each ts)) place (marked_one d d₁ at m stored t _ k) (f ts rest (omega arith) (others_stand t ts rest h)) in
      whole ∙ ap (λ (n : ℕ). sets d at (flatten (track_root n t) ++ flattens (update_each ts))) marked
      ∙ ap (λ (l : List (List ℕ)). sets d at l) (sym (ap flattens (marks_cons t ts) ∙ flattens_cons _ (update_each ts)))

-- ---- the root

module _ (d d₁ : List (List ℕ)) (at : ℕ) (stored : d₁ ≡ set d at (set (get_or d at []) 8 0)) where
  root_stands : (o : Operator) (ts : Plans) (rest : List (List ℕ)) → drop at d ≡ flatten (node o ts) ++ rest → drop (at + 1) d₁ ≡ flattens ts ++ rest
  root_stands o ts rest h = mark_drop d d₁ at 0 stored (at + 1) (omega arith) ∙ below_stands d at o ts rest h

  pub root_ready : Stands d at → StandAll d₁ (at + 1) (children_at d at)
  root_ready p = go p.tree p.stands
    where
      go : (t : Plan) → drop at d ≡ flatten t ++ p.rest → StandAll d₁ (at + 1) (children_at d at)
      go (node o ts) h = record { below = ts; rest = p.rest; counted = children_read d at o ts p.rest h; stands = root_stands o ts p.rest h }

  pub root_updated : (d₂ : List (List ℕ)) → BecomeAll update_each d₁ (at + 1) (children_at d at) d₂ → Becomes update_children d at d₂
  root_updated d₂ f (node o ts) rest h =
      let o' : Operator = track 0 o in
      f ts rest (children_read d at o ts rest h) (root_stands o ts rest h)
      ∙ ap (λ (j : ℕ). sets d₁ j (flattens (update_each ts))) (add-one at)
      ∙ ap (λ (k : List (List ℕ)). sets k (suc at) (flattens (update_each ts))) (mark_set d d₁ at 0 stored o ts rest h)
      ∙ ap (λ (n : ℕ). sets (set d at (row_of o' n)) (suc at) (flattens (update_each ts))) (sym (trees_marks ts))
      ∙ ap (λ (l : List (List ℕ)). sets d at l) (sym (flatten_node o' (update_each ts)))

-- ---- the tree that stands there afterwards

marks_long : (ts : Plans) → length (flattens (update_each ts)) ≡ length (flattens ts)
marks_long none = rw marks_none
marks_long (t ∷ᶠ ts) =
    let m : ℕ = mark (marks_child t) in
    ap (λ (us : Plans). length (flattens us)) (marks_cons t ts)
    ∙ omega (arith, ap length (flattens_cons (track_root m t) (update_each ts)), length-append (flatten (track_root m t)) (flattens (update_each ts)), track_root_long m t, marks_long ts, ap length (flattens_cons t ts), length-append (flatten t) (flattens ts))

pub update_long : (t : Plan) → length (flatten (update_children t)) ≡ length (flatten t)
update_long (node o ts) = omega (arith, ap length (flatten_node (track 0 o) (update_each ts)), marks_long ts, ap length (flatten_node o ts))
