-- What is tested on rows of numbers is what `Fit` of crate `exchange` says of the tree that stands there.
-- Assumes nothing.
use mathlib.Core.Path.{◌≡◌, refl, sym, ap, ◌∙◌}
use mathlib.Core.List.{List, [], ◌∷◌, ◌++◌, map, append_assoc}
use mathlib.Core.Option.{some}
use mathlib.Core.Bool.{Bool, true, false, cond, ◌&&◌}
use Prim.Native.Nat.{ℕ, zero, suc, ◌+◌, ◌-◌, ◌≤◌, ◌<◌}
use native.Mathlib.Omega.{arith}
use lib.Dec.{eqb, leb, ltb}
use lib.ListN.{length, get_or, drop, length-drop}
use borrow.Author.Tests.{eqb-true, eqb-false, leb-true, leb-false, le-leb, lt-leb, lt-ltb, le-ltb}
use Rattle.exchange.specs.Trees.{node, none, ◌∷ᶠ◌, ◌++ᶠ◌, trees, Operator, Plans}
use Rattle.exchange.specs.declared.settings.Settings.{Settings}
use Rattle.exchange.specs.declared.row.Node.{Node}
use Rattle.exchange.specs.Facts.{NodeFacts}
use Rattle.exchange.specs.FactRows.{child_facts, fact_row}
use Rattle.exchange.specs.Rows.{node_at, node_of, row_of, unpacked, flatten, flattens}
use Rattle.exchange.specs.States.{Child, children_from}
use Rattle.exchange.specs.Places.{places_of}
use Rattle.exchange.specs.Fit.{child_numbered, row_fits_child, row_fits, rows_fit, none_repeated, all_within_bits, worked_fits, within_bits}
use Rattle.exchange.proofs.Stored.{past, first_at}
use Rattle.exchange.proofs.TreeRows.{first_row, flattens_cons, row_node}
use Rattle.plansheet.specs.FitRows.{count_fits_by, child_fits_by, row_fits_by, rows_fit_by, fact_rows_fit, Placed}

pub children_long : (m : ℕ) (ts : Plans) (facts : List (List ℕ)) → length (children_from m ts (map child_facts facts)) ≡ trees ts
unfolding children_from
children_long m none facts = refl
children_long m (t ∷ᶠ ts) [] = ap suc (children_long (suc m) ts [])
children_long m (t ∷ᶠ ts) (f ∷ facts) = ap suc (children_long (suc m) ts facts)

none_at_lem : (a : Bool) (m c : ℕ) (q : Bool) → leb m c ≡ a → false ≡ a && (ltb c (m + 0) && q)
none_at_lem true m c q e = rw (le-ltb c (m + 0) (omega (arith, leb-true m c e)))
none_at_lem false m c q e = refl

-- the tests of a number from m on, one further
step_at : (a : Bool) (m c n : ℕ) (Q : ℕ → Bool) → leb (suc m) c ≡ a → (m ≡ c → ⊥) → a && (ltb c (suc m + n) && Q (suc (c - suc m))) ≡ leb m c && (ltb c (m + suc n) && Q (c - m))
step_at true m c n Q e ne =
    let h : suc m ≤ c = leb-true (suc m) c e in
    let k : c - m ≡ suc (c - suc m) = omega arith in
    let j : suc m + n ≡ m + suc n = omega arith in
    rw (le-leb m c (omega arith), k, j)
step_at false m c n Q e ne =
    let h : c < suc m = leb-false (suc m) c e in
    rw (lt-leb m c (omega arith))

module _ (s : Settings) (rows : List (List ℕ)) (x : List ℕ) where
  abbrev c : ℕ
  c = get_or x 0 0

  -- a child at a place
  child_at : (m at : ℕ) (o : Operator) (cs : Plans) (f : List ℕ) → node_at rows at ≡ node_of o
      → row_fits_child s (fact_row x) (some (record { number = m; facts = child_facts f; plan = node o cs })) ≡ child_fits_by s.target rows x at f
  child_at m at o cs f e =
      ap (λ (n : Node). count_fits_by s.target (get_or x 1 0) (get_or x 2 0) (get_or x 12 0) n.count n.order && within_bits (child_facts f).entries (get_or x 9 0)) (sym e)

  abbrev Q : List ℕ → List (List ℕ) → ℕ → Bool
  Q places facts i = child_fits_by s.target rows x (get_or places i 0) (get_or facts i [])

  pub numbered : (ts : Plans) (facts : List (List ℕ)) (m at : ℕ) (rest : List (List ℕ)) → length facts ≡ trees ts → drop at rows ≡ flattens ts ++ rest
      → row_fits_child s (fact_row x) (child_numbered c (children_from m ts (map child_facts facts))) ≡ leb m c && (ltb c (m + trees ts) && Q (places_of at ts) facts (c - m))
  unfolding children_from child_numbered places_of
  numbered none facts m at rest l h = none_at_lem (leb m c) m c (Q [] facts (c - m)) refl
  numbered (t ∷ᶠ ts) [] m at rest l h = absurd (omega arith)
  numbered (node o cs ∷ᶠ ts) (f ∷ facts) m at rest l h =
      go (eqb m c) refl (numbered ts facts (suc m) (at + length (flatten (node o cs))) rest (omega arith) after)
    where
      whole : drop at rows ≡ flatten (node o cs) ++ (flattens ts ++ rest)
      whole = h ∙ ap (λ (l : List (List ℕ)). l ++ rest) (flattens_cons (node o cs) ts) ∙ append_assoc (flatten (node o cs)) (flattens ts) rest

      after : drop (at + length (flatten (node o cs))) rows ≡ flattens ts ++ rest
      after = past rows (flatten (node o cs)) (flattens ts ++ rest) at whole

      here : node_at rows at ≡ node_of o
      here = ap unpacked (first_at rows (row_of o (trees cs) ∷ (flattens (cs ++ᶠ ts) ++ rest)) at [] (h ∙ ap (λ (l : List (List ℕ)). l ++ rest) (first_row o cs ts))) ∙ row_node o (trees cs)

      go : (t : Bool) → eqb m c ≡ t
          → row_fits_child s (fact_row x) (child_numbered c (children_from (suc m) ts (map child_facts facts))) ≡ leb (suc m) c && (ltb c (suc m + trees ts) && Q (places_of (at + length (flatten (node o cs))) ts) facts (c - suc m))
          → row_fits_child s (fact_row x) (cond t (some (record { number = m; facts = child_facts f; plan = node o cs })) (child_numbered c (children_from (suc m) ts (map child_facts facts))))
          ≡ leb m c && (ltb c (m + suc (trees ts)) && Q (at ∷ places_of (at + length (flatten (node o cs))) ts) (f ∷ facts) (c - m))
      go true t ih =
          let e : m ≡ c = eqb-true m c t in
          let z : c - m ≡ 0 = omega arith in
          rw (le-leb m c (omega arith), lt-ltb c (m + suc (trees ts)) (omega arith), z) (child_at m at o cs f here)
      go false t ih = ih ∙ step_at (leb (suc m) c) m c (trees ts) (Q (at ∷ places_of (at + length (flatten (node o cs))) ts) (f ∷ facts)) refl (eqb-false m c t)

-- ---- all rows and masks of a worked node

places_long : (at : ℕ) (ts : Plans) → length (places_of at ts) ≡ trees ts
unfolding places_of
places_long at none = refl
places_long at (t ∷ᶠ ts) = ap suc (places_long (at + length (flatten t)) ts)

below_at_lem : (b : Bool) (c n : ℕ) → leb c n ≡ b → ltb c (1 + n) ≡ b
below_at_lem true c n e = lt-ltb c (1 + n) (omega (arith, leb-true c n e))
below_at_lem false c n e = le-ltb c (1 + n) (omega (arith, leb-false c n e))

module _ (s : Settings) (rows : List (List ℕ)) (ts : Plans) (facts : List (List ℕ)) (at : ℕ) (rest : List (List ℕ)) (l : length facts ≡ trees ts) (h : drop at rows ≡ flattens ts ++ rest) where
  abbrev K : List Child
  K = children_from 1 ts (map child_facts facts)

  row_by : (x : List ℕ) → row_fits s K (fact_row x) ≡ row_fits_by s.target rows (places_of at ts) facts x
  row_by x =
      ap (λ (b : Bool). leb (get_or x 1 0) 15 && b) (numbered s rows x ts facts 1 at rest l h)
      ∙ rw (places_long at ts, below_at_lem (leb (get_or x 0 0) (trees ts)) (get_or x 0 0) (trees ts) refl)

  rows_by_lem : (xs : List (List ℕ)) → rows_fit s K (map fact_row xs) ≡ rows_fit_by s.target rows (places_of at ts) facts xs
  unfolding rows_fit rows_fit_by
  rows_by_lem [] = refl
  rows_by_lem (x ∷ xs) = λ i. row_by x i && rows_by_lem xs i

  -- as the code has it: repeated rows, unfit rows, masks
  pub worked_fits_lem :
      (o : Operator) (b : NodeFacts) (xs : List (List ℕ)) (masks : List ℕ) →
      worked_fits s (record { node = b; children = map child_facts facts; rows = map fact_row xs; masks = masks }) (node o ts)
      ≡ none_repeated (map fact_row xs) && (rows_fit_by s.target rows (places_of at ts) facts xs && all_within_bits (trees ts) masks)
  worked_fits_lem o b xs masks = λ i. none_repeated (map fact_row xs) && (rows_by_lem xs i && all_within_bits (children_long 1 ts facts i) masks)

and_assoc : (a b d : Bool) → (a && b) && d ≡ a && (b && d)
and_assoc true b d = refl
and_assoc false b d = refl

pub fit_all : (target : ℕ) (rows : List (List ℕ)) (places : List ℕ) (facts xs : List (List ℕ)) (n : ℕ) (masks : List ℕ) →
    fact_rows_fit target rows places facts xs && all_within_bits n masks ≡ none_repeated (map fact_row xs) && (rows_fit_by target rows places facts xs && all_within_bits n masks)
fit_all target rows places facts xs n masks = and_assoc (none_repeated (map fact_row xs)) (rows_fit_by target rows places facts xs) (all_within_bits n masks)

-- ---- places

short : (rows : List (List ℕ)) (at : ℕ) (x : List ℕ) (ys : List (List ℕ)) → drop at rows ≡ x ∷ ys → at < length rows
short rows at x ys e = omega (arith, ap length e, length-drop at rows)

pub placed : (ts : Plans) (rows : List (List ℕ)) (at : ℕ) (rest : List (List ℕ)) → drop at rows ≡ flattens ts ++ rest → Placed rows (places_of at ts)
unfolding places_of
placed none rows at rest h i k = absurd (omega arith)
placed (node o cs ∷ᶠ ts) rows at rest h zero k = short rows at (row_of o (trees cs)) (flattens (cs ++ᶠ ts) ++ rest) (h ∙ ap (λ (l : List (List ℕ)). l ++ rest) (first_row o cs ts))
placed (node o cs ∷ᶠ ts) rows at rest h (suc i) k = placed ts rows (at + length (flatten (node o cs))) rest after i (omega arith)
  where
    after : drop (at + length (flatten (node o cs))) rows ≡ flattens ts ++ rest
    after =
        past rows (flatten (node o cs)) (flattens ts ++ rest) at
        (h ∙ ap (λ (l : List (List ℕ)). l ++ rest) (flattens_cons (node o cs) ts) ∙ append_assoc (flatten (node o cs)) (flattens ts) rest)

-- as many places as trees
pub places_many : (at : ℕ) (ts : Plans) (n : ℕ) → trees ts ≡ n → length (places_of at ts) ≡ n
places_many at ts n e = places_long at ts ∙ e

-- what the two tests say together
pub tests_say :
    (s : Settings) (o : Operator) (b : NodeFacts) (ts : Plans) (rows facts : List (List ℕ)) (at : ℕ) (rest xs : List (List ℕ)) (masks : List ℕ) (target : ℕ) (places : List ℕ) (q : Bool) →
    s.target ≡ target → trees ts ≡ length facts → drop at rows ≡ flattens ts ++ rest → places ≡ places_of at ts → q ≡ fact_rows_fit target rows places facts xs →
    q && all_within_bits (length facts) masks ≡ worked_fits s (record { node = b; children = map child_facts facts; rows = map fact_row xs; masks = masks }) (node o ts)
tests_say s o b ts rows facts at rest xs masks target places q e m h p r =
    ap (λ (t : Bool). t && all_within_bits (length facts) masks) (r ∙ (λ i. fact_rows_fit (sym e i) rows (p i) facts xs))
    ∙ fit_all s.target rows (places_of at ts) facts xs (length facts) masks
    ∙ ap (λ (n : ℕ). none_repeated (map fact_row xs) && (rows_fit_by s.target rows (places_of at ts) facts xs && all_within_bits n masks)) (sym m)
    ∙ sym (worked_fits_lem s rows ts facts at rest (sym m) h o b xs masks)
