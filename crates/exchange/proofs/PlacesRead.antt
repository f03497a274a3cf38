-- What is stored of the first child and then of the others is what the definitions list (`lists_more`), and those lists have the numbers of the children (`same_children`, `stored_children`).
-- Assumes nothing.
use mathlib.Core.Path.{◌≡◌, refl, sym, ap, ◌∙◌}
use mathlib.Core.List.{List, [], ◌∷◌, ◌++◌, map, append_assoc, append-nil}
use native.Mathlib.Nat.{add-zero}
use Prim.Native.Nat.{ℕ, suc, ◌+◌, ◌≤◌, ◌<◌}
use native.Mathlib.Numerals.{add-one}
use native.Mathlib.Omega.{arith}
use lib.ListN.{length, take, drop, get_or, set}
use lib.Seq.{take_all, drop-cons}
use Rattle.std.proofs.lemmas.List.{take_more_set}
use Rattle.exchange.specs.declared.row.Node.{Node}
use Rattle.exchange.specs.declared.status.Asked.{Asked}
use Rattle.exchange.specs.Trees.{none, ◌∷ᶠ◌, root, trees, Operator, Plan, Plans}
use Rattle.exchange.specs.Rows.{operator_of, node_at, flatten, flattens}
use Rattle.exchange.specs.States.{children_from}
use Rattle.exchange.specs.FactRows.{child_facts, asked_by}
use Rattle.exchange.specs.Standings.{SameChildren, done, also}
use Rattle.exchange.specs.Runs.{Stands}
use Rattle.exchange.specs.Places.{places_of, needs_of, counts_of}
use Rattle.exchange.proofs.Marking.{root_read, head_stands, tail_stands, PastTree}

-- ---- the places, one after the other

-- i places are stored, and the trees that are left stand at `next`
pub record Upto (src : List (List ℕ)) (at : ℕ) (ts : Plans) (rest : List (List ℕ)) (i next : ℕ) (places : List ℕ) : Type 0 where
  pub below : Plans
  pub counted : trees below + i ≡ trees ts
  pub stands : drop next src ≡ flattens below ++ rest
  pub listed : places_of at ts ≡ take i places ++ places_of next below

-- of trees that are left, the first stands where they do
left_stands : (src rest : List (List ℕ)) (n i next : ℕ) (us : Plans) → i < n → trees us + i ≡ n → drop next src ≡ flattens us ++ rest → Stands src next
left_stands src rest n i next none l c h = absurd (omega arith)
left_stands src rest n i next (t ∷ᶠ us) l c h = record { tree = t; rest = flattens us ++ rest; stands = head_stands src next t us rest h }

places_nil : (at : ℕ) → places_of at none ≡ []
unfolding places_of
places_nil at = refl

places_cons : (at : ℕ) (t : Plan) (ts : Plans) → places_of at (t ∷ᶠ ts) ≡ at ∷ places_of (at + length (flatten t)) ts
unfolding places_of
places_cons at t ts = refl

module _ (src : List (List ℕ)) (at : ℕ) (ts : Plans) (rest : List (List ℕ)) where
  pub upto_start : (places : List ℕ) → drop at src ≡ flattens ts ++ rest → Upto src at ts rest 0 at places
  upto_start places h = record { below = ts; counted = add-zero (trees ts); stands = h; listed = refl }

  pub upto_stands : (i next : ℕ) (places : List ℕ) → i < trees ts → Upto src at ts rest i next places → Stands src next
  upto_stands i next places l u = left_stands src rest (trees ts) i next u.below l u.counted u.stands

  pub upto_turn : (i next next₁ : ℕ) (places : List ℕ) → i < trees ts → i < length places → PastTree src next next₁ → Upto src at ts rest i next places
      → Upto src at ts rest (i + 1) next₁ (set places i next)
  upto_turn i next next₁ places l b p u = go u.below u.counted u.stands u.listed
    where
      go : (us : Plans) → trees us + i ≡ trees ts → drop next src ≡ flattens us ++ rest → places_of at ts ≡ take i places ++ places_of next us → Upto src at ts rest (i + 1) next₁ (set places i next)
      go none c h e = absurd (omega arith)
      go (t ∷ᶠ us) c h e =
          let more : take (i + 1) (set places i next) ≡ take i places ++ (next ∷ []) = take_more_set places i next b in
          record {
            below = us;
            counted = omega arith;
            stands = tail_stands src next next₁ t us rest p h;
            listed =
                e
                ∙ ap (λ (l : List ℕ). take i places ++ l) (places_cons next t us ∙ ap (λ (j : ℕ). next ∷ places_of j us) (sym (p t _ (head_stands src next t us rest h))))
                ∙ sym (append_assoc (take i places) (next ∷ []) (places_of next₁ us))
                ∙ ap (λ (l : List ℕ). l ++ places_of next₁ us) (sym more);
          }

  pub upto_end : (i next : ℕ) (places : List ℕ) → trees ts ≡ i → length places ≤ i → Upto src at ts rest i next places → places ≡ places_of at ts
  upto_end i next places c l u = go u.below u.counted u.listed
    where
      go : (us : Plans) → trees us + i ≡ trees ts → places_of at ts ≡ take i places ++ places_of next us → places ≡ places_of at ts
      go none d e = sym (e ∙ ap (λ (l : List ℕ). take i places ++ l) (places_nil next) ∙ append-nil (take i places) ∙ take_all i places l)
      go (t ∷ᶠ us) d e = absurd (omega arith)

-- ---- what is asked of each, one after the other

-- i children are stored, and the trees that are left stand at `next`
pub record AskedUpto (src : List (List ℕ)) (ts : Plans) (rest facts : List (List ℕ)) (i next : ℕ) (asks : List Asked) : Type 0 where
  pub below : Plans
  pub counted : trees below + i ≡ trees ts
  pub stands : drop next src ≡ flattens below ++ rest
  pub listed : asked_by (needs_of ts) (counts_of ts) facts ≡ take i asks ++ asked_by (needs_of below) (counts_of below) (drop i facts)

asked_cons : (t : Plan) (ts : Plans) (facts : List (List ℕ)) (i : ℕ) → i < length facts
    → asked_by (needs_of (t ∷ᶠ ts)) (counts_of (t ∷ᶠ ts)) (drop i facts)
    ≡ record { need = (root t).need; count = (root t).count; facts = get_or facts i [] } ∷ asked_by (needs_of ts) (counts_of ts) (drop (i + 1) facts)
unfolding needs_of counts_of asked_by
asked_cons t ts facts i h = rw (drop-cons facts i [] h, add-one i)

asked_nil : (facts : List (List ℕ)) → asked_by (needs_of none) (counts_of none) facts ≡ []
unfolding needs_of counts_of asked_by
asked_nil facts = refl

module _ (src : List (List ℕ)) (ts : Plans) (rest facts : List (List ℕ)) where
  pub asked_start : (at : ℕ) (asks : List Asked) → drop at src ≡ flattens ts ++ rest → AskedUpto src ts rest facts 0 at asks
  asked_start at asks h = record { below = ts; counted = add-zero (trees ts); stands = h; listed = refl }

  pub asked_stands : (i next : ℕ) (asks : List Asked) → i < trees ts → AskedUpto src ts rest facts i next asks → Stands src next
  asked_stands i next asks l u = left_stands src rest (trees ts) i next u.below l u.counted u.stands

  pub asked_turn : (i next next₁ : ℕ) (n : Node) (asks : List Asked) → i < trees ts → i < length asks → i < length facts → n ≡ node_at src next → PastTree src next next₁
      → AskedUpto src ts rest facts i next asks
      → AskedUpto src ts rest facts (i + 1) next₁ (set asks i (record { need = n.need; count = n.count; facts = get_or facts i [] }))
  asked_turn i next next₁ n asks l b f is p u = go u.below u.counted u.stands u.listed
    where
      a : Asked
      a = record { need = n.need; count = n.count; facts = get_or facts i [] }

      go : (us : Plans) → trees us + i ≡ trees ts → drop next src ≡ flattens us ++ rest
          → asked_by (needs_of ts) (counts_of ts) facts ≡ take i asks ++ asked_by (needs_of us) (counts_of us) (drop i facts)
          → AskedUpto src ts rest facts (i + 1) next₁ (set asks i a)
      go none c h e = absurd (omega arith)
      go (t ∷ᶠ us) c h e =
          let more : take (i + 1) (set asks i a) ≡ take i asks ++ (a ∷ []) = take_more_set asks i a b in
          let o : root t ≡ operator_of n = sym (ap operator_of is ∙ root_read src next t _ (head_stands src next t us rest h)) in
          record {
            below = us;
            counted = omega arith;
            stands = tail_stands src next next₁ t us rest p h;
            listed =
                e
                ∙ ap (λ (l : List Asked). take i asks ++ l)
                (asked_cons t us facts i f
                ∙ ap (λ (x : Operator). record { need = x.need; count = x.count; facts = get_or facts i [] } ∷ asked_by (needs_of us) (counts_of us) (drop (i + 1) facts)) o)
                ∙ sym (append_assoc (take i asks) (a ∷ []) (asked_by (needs_of us) (counts_of us) (drop (i + 1) facts)))
                ∙ ap (λ (l : List Asked). l ++ asked_by (needs_of us) (counts_of us) (drop (i + 1) facts)) (sym more);
          }

  pub asked_done : (i next : ℕ) (asks : List Asked) → trees ts ≡ i → length asks ≤ i → AskedUpto src ts rest facts i next asks → asks ≡ asked_by (needs_of ts) (counts_of ts) facts
  asked_done i next asks c l u = go u.below u.counted u.listed
    where
      go : (us : Plans) → trees us + i ≡ trees ts → asked_by (needs_of ts) (counts_of ts) facts ≡ take i asks ++ asked_by (needs_of us) (counts_of us) (drop i facts)
          → asks ≡ asked_by (needs_of ts) (counts_of ts) facts
      go none d e = sym (e ∙ ap (λ (m : List Asked). take i asks ++ m) (asked_nil (drop i facts)) ∙ append-nil (take i asks) ∙ take_all i asks l)
      go (t ∷ᶠ us) d e = absurd (omega arith)

-- ---- as many as there are trees, and each place is where its tree stands

pub places_long : (at : ℕ) (ts : Plans) → length (places_of at ts) ≡ trees ts
unfolding places_of
places_long at none = refl
places_long at (t ∷ᶠ ts) = ap suc (places_long (at + length (flatten t)) ts)

pub counts_long : (ts : Plans) → length (counts_of ts) ≡ trees ts
unfolding counts_of
counts_long none = refl
counts_long (t ∷ᶠ ts) = ap suc (counts_long ts)

-- ---- the children by those numbers

same_from : (n : ℕ) (ts : Plans) (facts : List (List ℕ)) → length facts ≡ trees ts → SameChildren n (asked_by (needs_of ts) (counts_of ts) facts) (children_from n ts (map child_facts facts))
unfolding needs_of counts_of asked_by children_from
same_from n none facts e = done
same_from n (t ∷ᶠ ts) [] e = absurd (omega arith)
same_from n (t ∷ᶠ ts) (f ∷ fs) e =
    also {a = record { need = (root t).need; count = (root t).count; facts = f }} {k = record { number = n; facts = child_facts f; plan = t }}
    (record { number = refl; need = refl; count = refl; facts = refl }) (same_from (suc n) ts fs (omega arith))

pub same_children : (ts : Plans) (facts : List (List ℕ)) → length facts ≡ trees ts → SameChildren 1 (asked_by (needs_of ts) (counts_of ts) facts) (children_from 1 ts (map child_facts facts))
same_children = same_from 1
