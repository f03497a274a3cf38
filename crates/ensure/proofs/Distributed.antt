-- The tree with its marks set anew stands where the tree stood (`updated_stands`); the whole ends as its worked node does, or unchanged.
-- Assumes nothing.
use Prim.Native.Nat.{ℕ, ◌+◌, ◌*◌, ◌≤◌}
use mathlib.Core.Path.{◌≡◌, refl, sym, ap, ◌∙◌}
use mathlib.Core.Bool.{true, false}
use mathlib.Core.List.{List, ◌++◌}
use native.Mathlib.Omega.{arith}
use lib.ListN.{length, drop}
use Rattle.exchange.specs.declared.settings.Settings.{Settings}
use Rattle.exchange.specs.Trees.{node, none, ◌∷ᶠ◌, Plan}
use Rattle.exchange.specs.Facts.{Facts}
use Rattle.exchange.specs.Rows.{children_at, flatten}
use Rattle.exchange.specs.Runs.{Stands, Ready, Becomes}
use Rattle.exchange.specs.Partitioning.{worked_of}
use Rattle.exchange.specs.Worked.{removed}
use Rattle.exchange.specs.Children.{update_children}
use Rattle.exchange.specs.Ensure.{Answer, answered, ensure_worked, unchanged, has_children, ensured}
use Rattle.exchange.proofs.TreeRows.{tree_in}
use Rattle.exchange.proofs.OrderWritten.{stored_there}
use Rattle.exchange.proofs.Marking.{children_read}
use Rattle.exchange.proofs.WorkedNode.{worked_at}
use Rattle.exchange.proofs.AnswerLines.{lines_rows, lines_updates, answer_lines}
use Rattle.ensure.specs.Outcomes.{Ensured, Ends}
use Rattle.ensure.specs.Lent.{Sheet, Worked as WorkedAt}

ensured_worked : (s : Settings) (f : Facts) (t : Plan) → has_children s f (update_children t) ≡ true → ensured s f t ≡ ensure_worked s f (worked_of t)
unfolding ensured
ensured_worked s f t e = rw e

ensured_leaf : (s : Settings) (f : Facts) (t : Plan) → has_children s f (update_children t) ≡ false → ensured s f t ≡ unchanged s f (update_children t)
unfolding ensured
ensured_leaf s f t e = rw e

-- an answer fits the room
pub sheet_fits : (s : Settings) (f : Facts) (src : List (List ℕ)) (count room : ℕ) (p : Sheet src count) → count ≤ 8 → 2 * length src + 24 ≤ room → (a : Answer)
    → ensured s f p.tree ≡ answered a → length (flatten a.plan) ≤ room
sheet_fits s f src count room p few roomy a e =
    omega (arith, answer_lines s f p.tree a e, lines_rows a.plan, lines_rows p.tree, p.counted, tree_in src 0 p.tree p.rest p.stands)

module _ (src src₁ : List (List ℕ)) (up : Becomes update_children src 0 src₁) where
  abbrev after : Plan → List (List ℕ)
  after t = drop (0 + length (flatten (update_children t))) src

  updated_long : (t : Plan) → length (flatten (update_children t)) ≡ length (flatten t)
  updated_long t = lines_rows (update_children t) ∙ lines_updates t ∙ sym (lines_rows t)

  pub updated_stands : (t : Plan) (rest : List (List ℕ)) → src ≡ flatten t ++ rest → src₁ ≡ flatten (update_children t) ++ after t
  updated_stands t rest h =
      up t rest h ∙ stored_there src (flatten (update_children t)) 0 (omega (arith, updated_long t, tree_in src 0 t rest h))

  module _ (count : ℕ) (p : Sheet src count) where
    pub sheet_stands : Stands src₁ 0
    sheet_stands = record { tree = update_children p.tree; rest = after p.tree; stands = updated_stands p.tree p.rest p.stands }

    pub sheet_ready : (room : ℕ) → 2 * length src + 24 ≤ room → Ready (λ t. t) src₁ 0 room 0
    sheet_ready room h =
        record {
          tree = update_children p.tree;
          rest = after p.tree;
          stands = updated_stands p.tree p.rest p.stands;
          fits = omega (arith, updated_long p.tree, tree_in src 0 p.tree p.rest p.stands);
        }

  -- whether the root has children, by its row
  has_children_lem : (s : Settings) (f : Facts) (u : Plan) (rest : List (List ℕ)) → src₁ ≡ flatten u ++ rest → (children_at src₁ 0 ≡ 0 → ⊥) → has_children s f u ≡ true
  has_children_lem s f (node o none) rest h n = absurd (n (sym (children_read src₁ 0 o none rest h)))
  has_children_lem s f (node o (t ∷ᶠ ts)) rest h n = refl

  is_leaf : (s : Settings) (f : Facts) (u : Plan) (rest : List (List ℕ)) → src₁ ≡ flatten u ++ rest → children_at src₁ 0 ≡ 0 → has_children s f u ≡ false
  is_leaf s f (node o none) rest h e = refl
  is_leaf s f (node o (t ∷ᶠ ts)) rest h e = absurd (omega (arith, e, children_read src₁ 0 o (t ∷ᶠ ts) rest h))

  module _ (s : Settings) (f : Facts) (r : Ensured) (d d₁ : List (List ℕ)) where
    pub ends_leaf : children_at src₁ 0 ≡ 0
        → ((u : Plan) (rest : List (List ℕ)) → src₁ ≡ flatten u ++ rest → (x : Settings) (g : Facts) → Ends (unchanged x g u) r d d₁)
        → (t : Plan) (rest : List (List ℕ)) → src ≡ flatten t ++ rest → Ends (ensured s f t) r d d₁
    ends_leaf e wrote t rest h =
        let stands = updated_stands t rest h in
        rw (ensured_leaf s f t (is_leaf s f (update_children t) (after t) stands e)) (wrote (update_children t) (after t) stands s f)

    module _ (at : ℕ) (found : (u : Plan) (rest : List (List ℕ)) → drop 0 src₁ ≡ flatten u ++ rest → at ≡ 0 + length (removed u)) where
      pub ends_worked : (children_at src₁ 0 ≡ 0 → ⊥)
          → ((u : Plan) (rest : List (List ℕ)) → drop at src₁ ≡ flatten u ++ rest → Ends (ensure_worked s f u) r d d₁)
          → (t : Plan) (rest : List (List ℕ)) → src ≡ flatten t ++ rest → Ends (ensured s f t) r d d₁
      ends_worked n wrote t rest h =
          let stands = updated_stands t rest h in
          let w = worked_at src₁ 0 (after t) (update_children t) stands in
          let there : drop at src₁ ≡ flatten (worked_of t) ++ w.rest = ap (λ (i : ℕ). drop i src₁) (found (update_children t) (after t) stands) ∙ w.stands in
          rw (ensured_worked s f t (has_children_lem s f (update_children t) (after t) stands n)) (wrote (worked_of t) w.rest there)

  module _ (s : Settings) (f : Facts) (at : ℕ) (found : (u : Plan) (rest : List (List ℕ)) → drop 0 src₁ ≡ flatten u ++ rest → at ≡ 0 + length (removed u)) where
    pub sheet_worked : (count room : ℕ) → Sheet src count → count ≤ 8 → 2 * length src + 24 ≤ room → (children_at src₁ 0 ≡ 0 → ⊥) → WorkedAt s f src₁ at count room
    sheet_worked count room p few roomy n =
        let t = p.tree in
        let stands = updated_stands t p.rest p.stands in
        let w = worked_at src₁ 0 (after t) (update_children t) stands in
        record {
          tree = worked_of t;
          rest = w.rest;
          stands = ap (λ (i : ℕ). drop i src₁) (found (update_children t) (after t) stands) ∙ w.stands;
          counted = p.counted;
          fits = λ a e. sheet_fits s f src count room p few roomy a (ensured_worked s f t (has_children_lem s f (update_children t) (after t) stands n) ∙ e);
        }
