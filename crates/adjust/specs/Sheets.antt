-- The sheet that lent lists make, and what is decided of it. Renders document 01, "Key sheet".
use Rattle.std.specs.Prelude.{ℕ, ◌≡◌, List, Option}
use Rattle.keys.specs.Expressions.{Expression}
use Rattle.keys.specs.Adjust.{KeySheet, Adjustment}
use Rattle.keys.specs.Answers.{key_sheet, adjusted_of}
use Rattle.keys.specs.declared.answer.Adjusted.{Adjusted}
use Rattle.adjust.specs.declared.sheet.Sheet.{Sheet}
use Rattle.adjust.specs.declared.sheet.AggregateSheet.{AggregateSheet}

-- with the directions s and the children's lists cs, which no decision reads
abbrev pub sheet_of : Sheet → List ℕ → List (List Expression) → KeySheet
sheet_of x s cs = key_sheet x.operator x.required.now x.left.now x.right.now s x.rewriting.now x.groups.now x.aggregates.now x.mapped.now cs

-- r stands for what f decides
abbrev pub IsDecided : Sheet → (KeySheet → Adjustment) → Option Adjusted → Type 0
IsDecided x f r = (s : List ℕ) (cs : List (List Expression)) → adjusted_of (sheet_of x s cs) r ≡ f (sheet_of x s cs)

-- an aggregate's sheet, with the lists that its decision does not read
abbrev pub aggregate_sheet : AggregateSheet → List ℕ → List ℕ → List ℕ → List (List ℕ) → List ℕ → List (List Expression) → KeySheet
aggregate_sheet x l g s w m cs = key_sheet x.operator x.required.now l g s w x.groups.now x.aggregates.now m cs

-- r stands for what f decides of an aggregate
abbrev pub IsRegrouped : AggregateSheet → (KeySheet → Adjustment) → Option Adjusted → Type 0
IsRegrouped x f r =
    (l g s : List ℕ) (w : List (List ℕ)) (m : List ℕ) (cs : List (List Expression)) →
    adjusted_of (aggregate_sheet x l g s w m cs) r ≡ f (aggregate_sheet x l g s w m cs)
