-- The rooms of a sheet that was read: where its worked node stands, and what the tests on them say of the sheet.
-- Assumes nothing.
use mathlib.Core.Path.{◌≡◌, refl, sym, ap, ◌∙◌}
use mathlib.Core.List.{List, [], ◌∷◌, ◌++◌, map}
use mathlib.Core.Bool.{true, false}
use Prim.Native.Nat.{ℕ, ◌+◌, ◌≤◌, ◌<◌}
use native.Mathlib.Omega.{arith}
use lib.ListN.{length, take, drop, length-map, length-drop}
use lib.Seq.{length-take-le}
use Rattle.exchange.specs.Skeleton.{below}
use Rattle.exchange.specs.Trees.{node, trees, Operator, Plan, Plans}
use Rattle.exchange.specs.declared.settings.Settings.{Settings}
use Rattle.exchange.specs.Facts.{Facts, ChildFacts, Row}
use Rattle.exchange.specs.FactRows.{node_facts, child_facts, fact_row}
use Rattle.exchange.specs.Rows.{children_of, children_at, row_of, flatten, flattens}
use Rattle.exchange.specs.Runs.{StandAll}
use Rattle.exchange.specs.Worked.{removed}
use Rattle.exchange.specs.Children.{remove_dist_changing_operators}
use Rattle.exchange.specs.Places.{places_of}
use Rattle.exchange.specs.Fit.{worked_fits, facts_fit}
use Rattle.exchange.proofs.Stored.{past, first_at}
use Rattle.exchange.proofs.TreeRows.{flatten_node, row_children}
use Rattle.exchange.proofs.WorkedNode.{worked_at}
use Rattle.text.specs.declared.field.Field.{Field}
use Rattle.linekinds.specs.KeyLines.{values}
use Rattle.plansheet.specs.PlanLines.{two_to}
use Rattle.plansheet.specs.PlanSheets.{FactLines, children_rows, fact_rows, facts_of, child_count}
use Rattle.plansheet.specs.ReadRows.{number_rows}
use Rattle.plansheet.specs.PlanRooms.{PlanRooms}
use Rattle.plansheet.proofs.FitTrees.{worked_fits_lem, fit_all, places_many}
use Rattle.plansheet.proofs.Crowded.{crowd_unfit}

-- ---- the worked node

pub record WorkedRooms (t : Plan) (rows : List (List ℕ)) (worked : ℕ) : Type 0 where
  pub operator : Operator
  pub below : Plans
  pub is : remove_dist_changing_operators t ≡ node operator below
  pub count : child_count t ≡ trees below
  pub rest : List (List ℕ)
  pub stands : drop (worked + 1) rows ≡ flattens below ++ rest
  pub inside : worked < length rows
  pub children : children_at rows worked ≡ child_count t

worked_at_lem : (t u : Plan) (rows : List (List ℕ)) (worked : ℕ) (rest : List (List ℕ)) → remove_dist_changing_operators t ≡ u → drop worked rows ≡ flatten u ++ rest → WorkedRooms t rows worked
unfolding child_count
worked_at_lem t (node o ts) rows worked rest e h =
    let q : drop worked rows ≡ row_of o (trees ts) ∷ (flattens ts ++ rest) = h ∙ ap (λ (l : List (List ℕ)). l ++ rest) (flatten_node o ts) in
    let n : child_count t ≡ trees ts = ap (λ (u : Plan). trees (below u)) e in
    record {
      operator = o;
      below = ts;
      is = e;
      count = n;
      rest = rest;
      stands = past rows (row_of o (trees ts) ∷ []) (flattens ts ++ rest) worked q;
      inside = omega (arith, ap length q, length-drop worked rows);
      children = ap children_of (first_at rows (row_of o (trees ts) ∷ (flattens ts ++ rest)) worked [] q) ∙ row_children o (trees ts) ∙ sym n;
    }

pub worked_rooms : (t : Plan) (rows rest : List (List ℕ)) (worked : ℕ) → rows ≡ flatten t ++ rest → worked ≡ length (removed t) → WorkedRooms t rows worked
worked_rooms t rows rest worked e p =
    let w = worked_at rows 0 rest t e in
    let z : 0 + length (removed t) ≡ worked = omega arith in
    worked_at_lem t (remove_dist_changing_operators t) rows worked w.rest refl (rw z at w.stands)

-- ---- facts as rows of numbers

children_by_lem : (rs : List (List Field)) → children_rows rs ≡ map child_facts (number_rows rs)
children_by_lem [] = refl
children_by_lem (fs ∷ rs) = ap (λ (ys : List ChildFacts). child_facts (values fs) ∷ ys) (children_by_lem rs)

rows_by_lem : (rs : List (List Field)) → fact_rows rs ≡ map fact_row (number_rows rs)
rows_by_lem [] = refl
rows_by_lem (fs ∷ rs) = ap (λ (ys : List Row). fact_row (values fs) ∷ ys) (rows_by_lem rs)

abbrev pub facts_by : FactLines → List (List ℕ) → List (List ℕ) → List ℕ → Facts
facts_by g facts xs masks = record { node = node_facts (values g.node); children = map child_facts facts; rows = map fact_row xs; masks = masks }

pub facts_by_lem : (g : FactLines) → facts_of g ≡ facts_by g (number_rows g.children) (number_rows g.rows) (values g.masks)
facts_by_lem g = λ i. record { node = node_facts (values g.node); children = children_by_lem g.children i; rows = rows_by_lem g.rows i; masks = values g.masks }

module _ (t : Plan) (g : FactLines) (rows facts xs : List (List ℕ)) (masks : List ℕ) (worked children n : ℕ) (r : PlanRooms t g rows facts xs masks worked children n) where
  abbrev W : WorkedRooms t rows worked
  W = worked_rooms t rows r.rest worked r.stands r.place

  -- the sheet's facts at the worked node
  fit_worked : (s : Settings) → facts_fit s (facts_of g) t ≡ worked_fits s (facts_by g (number_rows g.children) (number_rows g.rows) (values g.masks)) (node W.operator W.below)
  unfolding facts_fit
  fit_worked s = λ i. worked_fits s (facts_by_lem g i) (W.is i)

  pub rooms_fit : n ≤ length xs → (many : ℕ) → many ≡ two_to children → (s : Settings) →
      worked_fits s (facts_by g (take children facts) (take n xs) (take many masks)) (node W.operator W.below) ≡ facts_fit s (facts_of g) t
  rooms_fit h many e s = rw (e, r.each, r.held h, r.bits) (sym (fit_worked s))

  -- more rows than there is room for
  pub rooms_crowded : 8 ≤ length facts → 128 ≤ length xs → length xs < n → (s : Settings) → facts_fit s (facts_of g) t ≡ false
  rooms_crowded a b h s =
      let fs : List (List ℕ) = number_rows g.children in
      let ys : List (List ℕ) = number_rows g.rows in
      let m : length fs ≡ children = sym (ap length r.each) ∙ length-take-le children facts (omega (arith, r.few)) in
      let k : length fs ≡ trees W.below = m ∙ r.many ∙ W.count in
      let c : length (places_of (worked + 1) W.below) ≡ children = places_many (worked + 1) W.below children (sym W.count ∙ sym r.many) in
      let l : length ys ≡ n = length-map g.rows values ∙ sym r.counted in
      fit_worked s ∙ worked_fits_lem s rows W.below fs (worked + 1) W.rest k W.stands W.operator (node_facts (values g.node)) ys (values g.masks)
      ∙ sym (fit_all s.target rows (places_of (worked + 1) W.below) fs ys (trees W.below) (values g.masks))
      ∙ rw (crowd_unfit s.target rows (places_of (worked + 1) W.below) fs ys (omega (arith, r.few)))

-- the children stand behind the worked node
pub stand_all : (t : Plan) (rows : List (List ℕ)) (worked n : ℕ) (w : WorkedRooms t rows worked) → child_count t ≡ n → StandAll rows (worked + 1) n
stand_all t rows worked n w e = record { below = w.below; rest = w.rest; counted = sym w.count ∙ e; stands = w.stands }

pub fits_room : false ≡ true → ⊥
fits_room e = let z : ◌≡◌ {A = ℕ} 0 1 = cc in omega arith
