-- Tree lines that were read are the rows of exactly one tree: the one that they grow into.
-- Assumes nothing.
use mathlib.Core.Path.{◌≡◌, refl, sym, ap, ◌∙◌}
use mathlib.Core.List.{List, [], ◌∷◌}
use Prim.Native.Nat.{ℕ, zero, suc, ◌+◌, ◌-◌, ◌≤◌}
use native.Mathlib.Omega.{arith}
use lib.ListN.{length, get_or}
use borrow.Author.Tests.{eqb-true, eqb-false}
use Rattle.text.specs.declared.field.Field.{Field}
use Rattle.text.specs.declared.field.Field.TheVariants.{Number as number, Empty as empty, Malformed as malformed}
use Rattle.exchange.specs.Trees.{none, ◌∷ᶠ◌, ◌++ᶠ◌, trees, Plans}
use Rattle.exchange.specs.Rows.{unpacked, children_of, operator_of, row_of, flatten, flattens, firsts, others, grow}
use Rattle.exchange.proofs.TreeRows.{flattens_none, flattens_one, first_row}
use Rattle.linekinds.specs.Lines.{read, rows_of}
use Rattle.plansheet.specs.Shapes.{Shape, tree_line, limit_at, children_at, most_children}
use Rattle.plansheet.specs.PlanSheets.{operator_row, operator_rows, first_plan, plan_of}
use Rattle.plansheet.proofs.RunCases.{by_lines}
use Rattle.plansheet.proofs.FineLines.{tree_small}

-- ---- a run of trees cut in two

cut : (k : ℕ) (ts : Plans) → firsts k ts ++ᶠ others k ts ≡ ts
cut zero ts = refl
cut (suc k) none = refl
cut (suc k) (t ∷ᶠ ts) = ap (λ (us : Plans). t ∷ᶠ us) (cut k ts)

count_firsts : (k : ℕ) (ts : Plans) → k ≤ trees ts → trees (firsts k ts) ≡ k
count_firsts zero ts h = refl
count_firsts (suc k) none h = absurd (omega arith)
count_firsts (suc k) (t ∷ᶠ ts) h = ap suc (count_firsts k ts (omega arith))

count_others : (k : ℕ) (ts : Plans) → trees (others k ts) ≡ trees ts - k
count_others zero ts = omega arith
count_others (suc k) none = omega arith
count_others (suc k) (t ∷ᶠ ts) = omega (arith, count_others k ts)

-- ---- a line's row says its operator

limit_at_lem : (id : ℕ) (fs : List Field) (f : Field) → limit_at fs ≡ f → row_of (operator_of (unpacked (operator_row id fs))) (children_of (operator_row id fs)) ≡ operator_row id fs
unfolding row_of
limit_at_lem id fs (number n) e = rw e
limit_at_lem id fs empty e = rw e
limit_at_lem id fs malformed e = rw e

row_again : (id : ℕ) (fs : List Field) → row_of (operator_of (unpacked (operator_row id fs))) (children_of (operator_row id fs)) ≡ operator_row id fs
row_again id fs = limit_at_lem id fs (limit_at fs) refl

-- ---- rows that were read grow into as many trees as were owed, whose rows they are

pub record Grown (owed : ℕ) (rs : List (List ℕ)) : Type 0 where
  pub counted : trees (grow rs) ≡ owed
  pub flat : flattens (grow rs) ≡ rs

grown_none : Grown 0 []
unfolding grow
grown_none = record { counted = refl; flat = flattens_none }

grown_more : (owed id : ℕ) (fs : List Field) (rs : List (List ℕ)) → (owed ≡ 0 → ⊥) → Grown (owed - 1 + children_at fs) rs → Grown owed (operator_row id fs ∷ rs)
unfolding grow
grown_more owed id fs rs ne g =
    let k : ℕ = children_at fs in
    let c = g.counted in
    record {
      counted = omega (arith, count_others k (grow rs));
      flat =
          first_row (operator_of (unpacked (operator_row id fs))) (firsts k (grow rs)) (others k (grow rs))
          ∙ (λ i. row_of (operator_of (unpacked (operator_row id fs))) (count_firsts k (grow rs) (omega arith) i) ∷ flattens (cut k (grow rs) i))
          ∙ (λ i. row_again id fs i ∷ g.flat i);
    }

module _ (h : Shape) (rules : List (List ℕ)) (most : ℕ) where
  pub tree_grows :
      (owed seen line at : ℕ) (ls : List (List ℕ)) (rs : List (List Field)) (rest : List (List ℕ)) (l p : ℕ) →
      rows_of (tree_line h rules most) owed seen line at ls ≡ read rs rest l p → (id : ℕ) → Grown owed (operator_rows id rs)
  unfolding operator_rows
  tree_grows owed seen line at ls rs rest l p e =
      by_lines (tree_line h rules most) (λ owed seen line at ls rs. (id : ℕ) → Grown owed (operator_rows id rs)) rest l p
      (λ owed seen z id. rw (eqb-true owed 0 z) grown_none)
      (λ owed seen line at l₀ ls ss fs ne x fine g id. grown_more owed id fs (operator_rows (suc id) ss) (eqb-false owed 0 ne) (g (suc id)))
      owed seen line at ls rs e

  -- no line has more than eight children
  few_at : (id i : ℕ) (fs : List Field) (rs : List (List ℕ)) → children_at fs ≤ most_children → ((j : ℕ) → children_of (get_or rs j []) ≤ most_children) → children_of (get_or (operator_row id fs ∷ rs) i []) ≤ most_children
  few_at id zero fs rs h ih = h
  few_at id (suc i) fs rs h ih = ih i

  pub few_children :
      (owed seen line at : ℕ) (ls : List (List ℕ)) (rs : List (List Field)) (rest : List (List ℕ)) (l p : ℕ) →
      rows_of (tree_line h rules most) owed seen line at ls ≡ read rs rest l p → (id i : ℕ) → children_of (get_or (operator_rows id rs) i []) ≤ most_children
  unfolding operator_rows
  few_children owed seen line at ls rs rest l p e =
      by_lines (tree_line h rules most) (λ owed seen line at ls rs. (id i : ℕ) → children_of (get_or (operator_rows id rs) i []) ≤ most_children) rest l p
      (λ owed seen z id i. omega arith)
      (λ owed seen line at l₀ ls ss fs ne x fine g id i. few_at id i fs (operator_rows (suc id) ss) (tree_small h rules most seen _ fs fine).1 (g (suc id)))
      owed seen line at ls rs e

  -- at most so many lines
  pub few_lines :
      (owed seen line at : ℕ) (ls : List (List ℕ)) (rs : List (List Field)) (rest : List (List ℕ)) (l p : ℕ) →
      rows_of (tree_line h rules most) owed seen line at ls ≡ read rs rest l p → seen ≤ most → seen + length rs ≤ most
  few_lines owed seen line at ls rs rest l p e =
      by_lines (tree_line h rules most) (λ owed seen line at ls rs. seen ≤ most → seen + length rs ≤ most) rest l p
      (λ owed seen z h. omega arith)
      (λ owed seen line at l₀ ls ss fs ne x fine g h₀. omega (arith, g (omega (arith, (tree_small h rules most seen _ fs fine).0))))
      owed seen line at ls rs e

  -- the lines of one tree
  one_at : (rs : List (List ℕ)) (ts : Plans) → trees ts ≡ 1 → flattens ts ≡ rs → flatten (first_plan ts) ≡ rs
  one_at rs none c f = absurd (omega arith)
  one_at rs (t ∷ᶠ none) c f = sym (flattens_one t) ∙ f
  one_at rs (t ∷ᶠ u ∷ᶠ ts) c f = absurd (omega arith)

  pub one_tree :
      (line at : ℕ) (ls : List (List ℕ)) (rs : List (List Field)) (rest : List (List ℕ)) (l p : ℕ) →
      rows_of (tree_line h rules most) 1 0 line at ls ≡ read rs rest l p → flatten (plan_of rs) ≡ operator_rows 1 rs
  unfolding plan_of
  one_tree line at ls rs rest l p e = let g = tree_grows 1 0 line at ls rs rest l p e 1 in one_at (operator_rows 1 rs) (grow (operator_rows 1 rs)) g.counted g.flat
