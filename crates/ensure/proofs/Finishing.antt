-- The rows of an answer, by the row of the worked node and the forms of its children (`shape_of`): what `finish_worked` writes.
-- Assumes nothing.
use Prim.Native.Nat.{ℕ, suc, ◌+◌, ◌≤◌, ◌<◌}
use mathlib.Core.Path.{◌≡◌, refl, sym, ap, ap₂, subst, ◌∙◌}
use mir.Val.{bool_byte}
use mathlib.Core.Bool.{Bool, true, false, cond, ◌&&◌}
use mathlib.Core.List.{List, [], ◌∷◌, ◌++◌, map}
use native.Mathlib.Omega.{arith}
use lib.Dec.{eqb}
use lib.ListN.{length, drop, get_or, set}
use lib.Seq.{sets}
use Rattle.exchange.specs.declared.settings.Settings.{Settings}
use Rattle.exchange.specs.declared.row.Node.{Node}
use Rattle.exchange.specs.declared.row.Step.{Step}
use Rattle.exchange.specs.Trees.{node, none, ◌∷ᶠ◌, trees, root, Operator, Plan, Plans}
use Rattle.exchange.specs.Settings.{is_set}
use Rattle.exchange.specs.Facts.{ChildFacts, Facts, Row, row_of as fact_of}
use Rattle.exchange.specs.FactRows.{node_facts, child_facts, fact_row}
use Rattle.exchange.specs.States.{ChildState, need_of, children_from}
use Rattle.exchange.specs.Standings.{form_numbers}
use Rattle.exchange.specs.Relationships.{enforced}
use Rattle.exchange.specs.Operators.{mark}
use Rattle.exchange.specs.Rows.{packed, node_of, operator_of, unpacked, node_at, children_at, row_of, flatten, flattens}
use Rattle.exchange.specs.Turns.{Stand, nobody, next}
use Rattle.exchange.proofs.FinishedStates.{Finished, over, beside}
use Rattle.exchange.specs.Layouts.{layouts_by, hashed_alike}
use Rattle.exchange.specs.LastForm.{finished_each, EachFinished}
use Rattle.exchange.specs.Runs.{Readys, MapsAll}
use Rattle.exchange.specs.Skeleton.{below}
use Rattle.exchange.specs.Ensure.{can_interleave, interleaved, child_states, handled, finished, answered}
use Rattle.exchange.proofs.Headed.{readys_below}
use Rattle.exchange.proofs.TreeRows.{flatten_node, row_packed, row_node, row_operator, tree_in, tree_long}
use Rattle.exchange.proofs.Marking.{row_at, root_read, below_stands, children_read}
use Rattle.exchange.proofs.FormsSmall.{finished_small, finished_long}
use Rattle.exchange.proofs.ReachedRounds.{states_finished}
use Rattle.exchange.proofs.Interleaved.{interleave_alike}
use Rattle.exchange.proofs.FinishedHandled.{handled_finished}
use Rattle.std.specs.Prelude.{Ok}
use Rattle.ensure.specs.Outcomes.{Ensured, facts_by, outcome, Ends}
use Rattle.ensure.specs.Lent.{Came}

pub children_long : (n : ℕ) (ts : Plans) (fs : List ChildFacts) → length (children_from n ts fs) ≡ trees ts
unfolding children_from
children_long n none fs = refl
children_long n (t ∷ᶠ ts) [] = ap suc (children_long (suc n) ts [])
children_long n (t ∷ᶠ ts) (f ∷ fs) = ap suc (children_long (suc n) ts fs)

-- finished states stand by their forms
finished_stand : (rows : List Row) (n : ℕ) (ts : Plans) (fs : List ChildFacts) (cs : List ChildState) → Finished rows (children_from n ts fs) cs
    → Stand rows n (map need_of (children_from n ts fs)) (form_numbers cs) cs
unfolding children_from
finished_stand rows n none fs [] over = nobody
finished_stand rows n (t ∷ᶠ ts) [] (c ∷ cs) (beside e w) =
    next e.number e.need (sym e.whole) e.small (ap (fact_of rows n) e.whole ∙ e.row) (finished_stand rows (suc n) ts [] cs w)
finished_stand rows n (t ∷ᶠ ts) (f ∷ fs) (c ∷ cs) (beside e w) =
    next e.number e.need (sym e.whole) e.small (ap (fact_of rows n) e.whole ∙ e.row) (finished_stand rows (suc n) ts fs cs w)
finished_stand rows n none fs (c ∷ cs) z = elim z [ ]
finished_stand rows n (t ∷ᶠ ts) [] [] z = elim z [ ]
finished_stand rows n (t ∷ᶠ ts) (f ∷ fs) [] z = elim z [ ]

states_long : (rows : List Row) (n : ℕ) (ts : Plans) (fs : List ChildFacts) (cs : List ChildState) → Finished rows (children_from n ts fs) cs → length cs ≡ trees ts
unfolding children_from
states_long rows n none fs [] over = refl
states_long rows n (t ∷ᶠ ts) [] (c ∷ cs) (beside e w) = ap suc (states_long rows (suc n) ts [] cs w)
states_long rows n (t ∷ᶠ ts) (f ∷ fs) (c ∷ cs) (beside e w) = ap suc (states_long rows (suc n) ts fs cs w)
states_long rows n none fs (c ∷ cs) z = elim z [ ]
states_long rows n (t ∷ᶠ ts) [] [] z = elim z [ ]
states_long rows n (t ∷ᶠ ts) (f ∷ fs) [] z = elim z [ ]

handled_trees : (s : Settings) (f : Facts) (worked : Operator) (n : ℕ) (cs : List ChildState) → trees (handled s f worked n cs) ≡ length cs
unfolding handled
handled_trees s f worked n [] = refl
handled_trees s f worked n (c ∷ cs) = ap suc (handled_trees s f worked n cs)

-- ---- the row of the worked node

pub root_in : (src : List (List ℕ)) (at : ℕ) (t : Plan) (rest : List (List ℕ)) → drop at src ≡ flatten t ++ rest → at < length src
root_in src at t rest h = omega (arith, tree_in src at t rest h, tree_long t)

pub root_legal : (src : List (List ℕ)) (at : ℕ) (t : Plan) (rest : List (List ℕ)) → drop at src ≡ flatten t ++ rest → node_of (operator_of (node_at src at)) ≡ node_at src at
root_legal src at (node o ts) rest h =
    let r = row_at src at o ts rest h in
    ap node_of (ap (λ (x : List ℕ). operator_of (unpacked x)) r ∙ row_operator o (trees ts)) ∙ sym (ap unpacked r ∙ row_node o (trees ts))

-- a legal row is that of its operator
pub packed_row : (m : Node) (o : Operator) (k : ℕ) → node_of (operator_of m) ≡ m → operator_of m ≡ o → packed m k ≡ row_of o k
packed_row m o k legal is = ap (λ (x : Node). packed x k) (sym legal) ∙ row_packed (operator_of m) k ∙ ap (λ (x : Operator). row_of x k) is

-- a mark is the number of a test
pub mark_byte : (b : Bool) (m : ℕ) → m ≡ bool_byte b → m ≡ mark b
mark_byte true m e = e
mark_byte false m e = e

-- an answer by its numbers
abbrev pub answer_of : ℕ → ℕ → ℕ → ℕ → Ensured
answer_of window interleave tracked lines = Ok (record { changed = 1; window = window; interleave = interleave; tracked = tracked; lines = lines })

pub put_chosen : (i b : Bool) (d d₁ : List (List ℕ)) (x y : Operator) (k : ℕ) → i ≡ b → d₁ ≡ set d 0 (row_of (cond b x y) k) → d₁ ≡ set d 0 (row_of (cond i x y) k)
put_chosen i b d d₁ x y k e h = h ∙ ap (λ (j : Bool). set d 0 (row_of (cond j x y) k)) (sym e)

-- ---- the answer

module _ (s : Settings) (b : List ℕ) (facts rows : List (List ℕ)) (masks : List ℕ) (src : List (List ℕ)) (at : ℕ) (forms : List ℕ) where
  abbrev f : Facts
  f = facts_by b facts rows masks

  -- whether the worked node becomes an interleave, by its row and the forms
  abbrev pub interleaves : ℕ → Bool
  interleaves kind = eqb kind 9 && (eqb s.union 0 && hashed_alike (layouts_by (map fact_row rows) 1 forms))

  abbrev pub head_row : Operator → ℕ → List ℕ
  head_row w k = row_of (cond (interleaves w.kind) (interleaved w) w) k

  abbrev pub each_of : Operator → ℕ → Plans → Plans
  each_of w k = finished_each (map fact_row rows) forms facts s (node_facts b) w k 1

  pub record Shape (t : Plan) (rest : List (List ℕ)) (cs : List ChildState) (w : Operator) (k : ℕ) : Type 0 where
    pub below : Plans
    pub counted : trees below ≡ k
    pub stands : drop (at + 1) src ≡ flattens below ++ rest
    pub long : length forms ≡ k
    pub small : (i : ℕ) → i < length forms → get_or forms i 0 ≤ 15
    pub plan : flatten (finished s f (root t) cs).plan ≡ head_row w k ∷ flattens (each_of w k below)
    pub numbers : outcome (answered (finished s f (root t) cs))
        ≡ answer_of (mark (eqb w.kind 7 && is_set (node_facts b).window)) (mark (interleaves w.kind)) w.tracked (length (flatten (finished s f (root t) cs).plan))

  shape_node : (o : Operator) (ts : Plans) (rest : List (List ℕ)) (cs : List ChildState) → drop at src ≡ flatten (node o ts) ++ rest
      → child_states s f (node o ts) ≡ enforced cs → forms ≡ form_numbers cs → length facts ≡ trees ts → Shape (node o ts) rest cs o (trees ts)
  unfolding finished
  shape_node o ts rest cs h came forms-are counted =
      let done : Finished f.rows (children_from 1 ts f.children) cs = states_finished s f o ts cs came in
      let alike : can_interleave cs ≡ hashed_alike (layouts_by f.rows 1 forms) =
      rw forms-are (interleave_alike f.rows 1 _ (form_numbers cs) cs (finished_stand f.rows 1 ts f.children cs done)) in
      let long : length cs ≡ trees ts = states_long f.rows 1 ts f.children cs done in
      let trees_are : handled s f o (length cs) cs ≡ each_of o (trees ts) ts =
      ap (λ (n : ℕ). handled s f o n cs) long ∙ handled_finished s f o (trees ts) forms facts ts facts 1 cs (omega arith) counted done forms-are refl in
      record {
        below = ts;
        counted = refl;
        stands = below_stands src at o ts rest h;
        long = ap length forms-are ∙ finished_long f.rows done ∙ children_long 1 ts f.children;
        small = λ i l.
            subst (λ (fs : List ℕ). get_or fs i 0 ≤ 15) (sym forms-are)
            (finished_small f.rows done i (omega (arith, l, ap length forms-are, finished_long f.rows done)));
        plan =
            flatten_node _ (handled s f o (length cs) cs)
            ∙ ap₂ (λ (n : ℕ) (us : Plans). row_of (cond (eqb o.kind 9 && (eqb s.union 0 && can_interleave cs)) (interleaved o) o) n ∷ flattens us) (handled_trees s f o (length cs) cs ∙ long) trees_are
            ∙ ap (λ (x : Bool). row_of (cond (eqb o.kind 9 && (eqb s.union 0 && x)) (interleaved o) o) (trees ts) ∷ flattens (each_of o (trees ts) ts)) alike;
        numbers =
            ap (λ (x : Bool). answer_of (mark (eqb o.kind 7 && is_set (node_facts b).window)) (mark (eqb o.kind 9 && (eqb s.union 0 && x))) o.tracked (length (flatten (finished s f o cs).plan))) alike;
      }

  pub shape_of : (t : Plan) (rest : List (List ℕ)) (cs : List ChildState) → drop at src ≡ flatten t ++ rest → child_states s f t ≡ enforced cs
      → forms ≡ form_numbers cs → length facts ≡ children_at src at → Shape t rest cs (operator_of (node_at src at)) (children_at src at)
  shape_of (node o ts) rest cs h came forms-are counted =
      let w : operator_of (node_at src at) ≡ o = root_read src at (node o ts) rest h in
      let k : trees ts ≡ children_at src at = children_read src at o ts rest h in
      subst (λ (x : Operator). Shape (node o ts) rest cs x (children_at src at)) (sym w)
      (subst (λ (x : ℕ). Shape (node o ts) rest cs o x) k (shape_node o ts rest cs h came forms-are (counted ∙ sym k)))

  -- what is lent for an answer
  module _ (room : ℕ) (p : Came s f src at (length facts) forms room) where
    pub came_counted : length facts ≡ children_at src at
    came_counted = go p.tree p.stands p.counted
      where
        go : (t : Plan) → drop at src ≡ flatten t ++ p.rest → trees (below t) ≡ length facts → length facts ≡ children_at src at
        go (node o ts) h c = sym c ∙ children_read src at o ts p.rest h

    pub came_shape : Shape p.tree p.rest p.states (operator_of (node_at src at)) (children_at src at)
    came_shape = shape_of p.tree p.rest p.states p.stands p.came p.numbers came_counted

    plan_long : length (flatten (finished s f (root p.tree) p.states).plan) ≡ suc (length (flattens (each_of (operator_of (node_at src at)) (children_at src at) came_shape.below)))
    plan_long = ap length came_shape.plan

    pub came_room : 0 < room
    came_room = omega (arith, plan_long, p.fits)

    pub came_readys : Readys (each_of (operator_of (node_at src at)) (children_at src at)) src (at + 1) (children_at src at) room 1
    came_readys =
        readys_below (each_of (operator_of (node_at src at)) (children_at src at)) src (head_row (operator_of (node_at src at)) (children_at src at) ∷ []) _ p.rest
        (at + 1) (children_at src at) room 0 1 came_shape.below came_shape.counted came_shape.stands came_shape.plan (omega (arith, p.fits)) refl

    pub came_each : (mid : ℕ) → length src + 2 ≤ mid → length facts ≤ 8 → ((k : ℕ) → k < length facts → (child_facts (get_or facts k [])).entries ≤ 8)
        → EachFinished forms facts 1 (children_at src at) (length src) mid
    came_each mid roomy most few =
        record {
          first = omega arith;
          last = omega (arith, came_shape.long);
          most = omega (arith, came_shape.long, came_counted);
          small = came_shape.small;
          told = omega (arith, came_shape.long, came_counted);
          few = few;
          roomy = roomy;
        }

  -- the worked node's row, and then its children
  module _ (w : Node) (k : ℕ) (i : Bool) (is : w ≡ node_at src at) (counts : k ≡ children_at src at) (chosen : i ≡ interleaves w.kind) where
    pub answer_wrote : (t : Plan) (rest : List (List ℕ)) (cs : List ChildState) → Shape t rest cs (operator_of (node_at src at)) (children_at src at)
        → (window interleave : ℕ) (d d₁ d₂ : List (List ℕ)) (r : Step) → d₁ ≡ set d 0 (row_of (cond i (interleaved (operator_of w)) (operator_of w)) k)
        → MapsAll (each_of (operator_of w) k) src (at + 1) k d₁ 1 d₂ r
        → window ≡ mark (eqb w.kind 7 && is_set (node_facts b).window) → interleave ≡ mark i
        → Ends (answered (finished s f (root t) cs)) (answer_of window interleave w.tracked r.to) d d₂
    answer_wrote t rest cs shape window interleave d d₁ d₂ r put maps on in' =
        let sh : Shape t rest cs (operator_of w) k = rw (is, counts) shape in
        let wrote = maps sh.below rest sh.counted sh.stands in
        let long : r.to ≡ length (flatten (finished s f (root t) cs).plan) = omega (arith, wrote.written, ap length sh.plan) in
        let same : answer_of window interleave w.tracked r.to ≡ outcome (answered (finished s f (root t) cs)) =
        ap₂ (λ (x y : ℕ). answer_of x y w.tracked r.to) on (in' ∙ ap mark chosen)
        ∙ ap (λ (z : ℕ). answer_of (mark (eqb w.kind 7 && is_set (node_facts b).window)) (mark (interleaves w.kind)) w.tracked z) long
        ∙ sym sh.numbers in
        let head : d₁ ≡ set d 0 (head_row (operator_of w) k) = put ∙ ap (λ (x : Bool). set d 0 (row_of (cond x (interleaved (operator_of w)) (operator_of w)) k)) chosen in
        (same, wrote.stored ∙ ap (λ (l : List (List ℕ)). sets l 1 (flattens (each_of (operator_of w) k sh.below))) head ∙ ap (sets d 0) (sym sh.plan))
