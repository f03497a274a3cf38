-- How `ensure_distribution` ends on rows: what it answers and what stands in the output's rows.
-- Renders document 01, the answer's paragraph of the exchange sheet, and refusals 9 and 11.
use Rattle.std.specs.Prelude.{ℕ, ◌≡◌, List, map, length, Result, Ok, Err}
use Rattle.std.proofs.lemmas.List.Edits.{sets}
use Rattle.ensure.specs.declared.outcome.Answered.{Answered}
use Rattle.exchange.specs.declared.relationship.Unenforced.{Unenforced}
use Rattle.exchange.specs.declared.relationship.Unenforced.TheVariants.{Stuck, Missing}
use Rattle.exchange.specs.declared.facts.PlanFacts.{PlanFacts}
use Rattle.exchange.specs.Facts.{Facts}
use Rattle.exchange.specs.FactRows.{node_facts, child_facts, fact_row}
use Rattle.exchange.specs.Rows.{flatten}
use Rattle.exchange.specs.Ensure.{Ensured as Decided, missing_row, unenforceable, answered}

-- the facts by their rows: B, F, X and the masks
abbrev pub facts_by : List ℕ → List (List ℕ) → List (List ℕ) → List ℕ → Facts
facts_by b facts rows masks = record { node = node_facts b; children = map child_facts facts; rows = map fact_row rows; masks = masks }

abbrev pub facts_of : PlanFacts → Facts
facts_of f = facts_by f.node f.children.now f.xs.rows.now f.masks.now

-- how it ends: the d line's numbers, and how many t lines there are
abbrev pub Ensured : Type 0
Ensured = Result Answered Unenforced

abbrev pub outcome : Decided → Ensured
outcome missing_row = Err Missing
outcome unenforceable = Err Stuck
outcome (answered a) =
    Ok (record { changed = a.changed; window = a.window; interleave = a.interleave; tracked = a.tracked; lines = length (flatten a.plan) })

-- the answer's rows at the front; nothing where there is none
abbrev pub written : Decided → List (List ℕ) → List (List ℕ)
written missing_row rows = rows
written unenforceable rows = rows
written (answered a) rows = sets rows 0 (flatten a.plan)

-- document 01's number of an outcome, 0 where there is an answer
abbrev pub refusal : Ensured → ℕ
refusal (Ok a) = 0
refusal (Err Missing) = 9
refusal (Err Stuck) = 11

-- it ended so: that outcome, and those rows
abbrev pub Ends : Decided → Ensured → List (List ℕ) → List (List ℕ) → Type 0
Ends e r before after = (r ≡ outcome e) × (after ≡ written e before)
