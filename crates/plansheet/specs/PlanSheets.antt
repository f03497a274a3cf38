-- D sheets read from their bytes: the sheet, or the first refusal.
-- Renders document 01, "Exchange sheet", and refusals 1 to 4 and 6 to 8 of "Where a sheet is turned back".
use Rattle.std.specs.Prelude.{ℕ, suc, List, [], ◌∷◌, map, cond, eqb, get_or}
use Rattle.std.proofs.Math.Option.{none as nothing}
use Rattle.text.specs.declared.field.Field.{Field}
use Rattle.text.specs.Text.{parts, state_of, value_of}
use Rattle.exchange.specs.Skeleton.{below}
use Rattle.exchange.specs.Trees.{node, none, ◌∷ᶠ◌, trees, Plan, Plans}
use Rattle.exchange.specs.Rows.{grow}
use Rattle.exchange.specs.declared.settings.Settings.{Settings}
use Rattle.exchange.specs.Settings.{settings_fit}
use Rattle.exchange.specs.Facts.{ChildFacts, Row, Facts}
use Rattle.exchange.specs.FactRows.{node_facts, child_facts, fact_row}
use Rattle.exchange.specs.Children.{remove_dist_changing_operators}
use Rattle.exchange.specs.Fit.{facts_fit}
use Rattle.linekinds.specs.Lines.{Run, read, refused, rows_of, at_end}
use Rattle.linekinds.specs.KeyLines.{at, values}
use Rattle.sheet.specs.KeySheets.{Reading, sheet, turned, head_of}
use Rattle.plansheet.specs.Shapes.{limit_at}
use Rattle.plansheet.specs.PlanLines.{settings_line, plan_line, node_line, child_line, fact_line, mask_line}

-- the D line, the tree of the T lines, and the B, F, X and Y lines
pub record PlanSheet : Type 0 where
  pub settings : Settings
  pub plan : Plan
  pub facts : Facts

-- ---- lines as values

abbrev pub settings_of : List ℕ → Settings
settings_of ns = record {
  target = get_or ns 0 0;
  roundrobin = get_or ns 1 0;
  split = get_or ns 2 0;
  batch = get_or ns 3 0;
  estimates = get_or ns 4 0;
  subset = get_or ns 5 0;
  files = get_or ns 6 0;
  sort = get_or ns 7 0;
  union = get_or ns 8 0;
}

-- a T line as an operator's row: "id the T line's place from 1"; an absent limit has mark 0; no mask; the children last
abbrev pub operator_row : ℕ → List Field → List ℕ
operator_row id fs =
    id ∷ at fs 0 ∷ at fs 1 ∷ at fs 2 ∷ cond (eqb (state_of (limit_at fs)) 0) 1 0 ∷ value_of (limit_at fs)
    ∷ at fs 4 ∷ 0 ∷ at fs 5 ∷ at fs 6 ∷ at fs 7 ∷ []

-- the first of them has the place `id`
unfoldable pub operator_rows : ℕ → List (List Field) → List (List ℕ)
operator_rows id [] = []
operator_rows id (fs ∷ rs) = operator_row id fs ∷ operator_rows (suc id) rs

-- where there is no tree, a leaf of nothing
abbrev pub no_plan : Plan
no_plan = node (record { id = 0; kind = 0; count = 0; keeps = 0; limit = nothing; order = 0; mask = 0; tracked = 0; need = 0 }) none

abbrev pub first_plan : Plans → Plan
first_plan none = no_plan
first_plan (t ∷ᶠ ts) = t

-- the tree of T lines
unfoldable pub plan_of : List (List Field) → Plan
plan_of rs = first_plan (grow (operator_rows 1 rs))

-- "per child of the worked node": how many there are
unfoldable pub child_count : Plan → ℕ
child_count t = trees (below (remove_dist_changing_operators t))

abbrev pub children_rows : List (List Field) → List ChildFacts
children_rows rs = map (λ fs. child_facts (values fs)) rs

abbrev pub fact_rows : List (List Field) → List Row
fact_rows rs = map (λ fs. fact_row (values fs)) rs

-- ---- one run after the other

-- what follows a run begins where it ended, and is given its rows
abbrev pub with_rows : {A : Type 0} → Run → (List (List Field) → ℕ → ℕ → List (List ℕ) → Reading A) → Reading A
with_rows (refused n l) rest = turned n l
with_rows (read rs ls l p) rest = rest rs l p ls

-- the lines after the tree
pub record FactLines : Type 0 where
  pub node : List Field
  pub children : List (List Field)
  pub rows : List (List Field)
  pub masks : List Field

-- Y, and nothing more
unfoldable pub read_masks : List Field → List (List Field) → List (List Field) → ℕ → ℕ → ℕ → List (List ℕ) → Reading FactLines
read_masks b fs xs n line at ls =
    with_rows (rows_of (mask_line n) 1 0 line at ls) (λ ys l p ls.
    cond (at_end ls) (sheet (record { node = b; children = fs; rows = xs; masks = head_of ys })) (turned 1 l))

-- F for each of n children, X rows, and what follows
unfoldable pub read_children : List Field → ℕ → ℕ → ℕ → List (List ℕ) → Reading FactLines
read_children b n line at ls =
    with_rows (rows_of child_line n 0 line at ls) (λ fs l p ls.
    with_rows (rows_of fact_line 0 0 l p ls) (λ xs l p ls. read_masks b fs xs n l p ls))

-- B, and what follows
unfoldable pub read_facts : ℕ → ℕ → ℕ → List (List ℕ) → Reading FactLines
read_facts n line at ls = with_rows (rows_of node_line 1 0 line at ls) (λ bs l p ls. read_children (head_of bs) n l p ls)

-- ---- the sheet

abbrev pub facts_of : FactLines → Facts
facts_of g = record {
  node = node_facts (values g.node);
  children = children_rows g.children;
  rows = fact_rows g.rows;
  masks = values g.masks;
}

abbrev pub plan_sheet : Settings → Plan → FactLines → PlanSheet
plan_sheet s t g = record { settings = s; plan = t; facts = facts_of g }

-- "target or batch out of range", and then what X rows and Y masks do not fit
abbrev pub judged_plan : PlanSheet → Reading PlanSheet
judged_plan x = cond (settings_fit x.settings) (cond (facts_fit x.settings x.facts x.plan) (sheet x) (turned 8 0)) (turned 7 0)

abbrev pub with_facts : Settings → Plan → Reading FactLines → Reading PlanSheet
with_facts s t (turned n l) = turned n l
with_facts s t (sheet g) = judged_plan (plan_sheet s t g)

-- D, T lines until the tree is complete, and what follows
unfoldable pub read_plan : List ℕ → Reading PlanSheet
read_plan s =
    with_rows (rows_of settings_line 1 0 1 0 (parts 10 s)) (λ ds l p ls.
    with_rows (rows_of plan_line 1 0 l p ls) (λ ts l p ls.
    with_facts (settings_of (values (head_of ds))) (plan_of ts) (read_facts (child_count (plan_of ts)) l p ls)))
