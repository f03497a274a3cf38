-- What the quick reading of an X line finds, and what an X line leaves in the room for rows.
-- Renders document 01, "Exchange sheet": `X,child,..`.
use Rattle.std.specs.Prelude.{ℕ, ◌≡◌, List, map, set, Result, Ok, Err}
use Rattle.std.proofs.Math.Option.{Option, none}
use Rattle.text.specs.declared.field.Field.{Field}
use Rattle.text.specs.declared.field.Field.TheVariants.{Number as number}
use Rattle.text.specs.Text.{line_at, after}
use Rattle.linekinds.specs.Lines.{line_number, fields_of}
use Rattle.linekinds.specs.KeyLines.{values}
use Rattle.linekinds.specs.declared.line.Read.{Read}
use Rattle.linekinds.specs.declared.line.Read.TheVariants as L
use Rattle.numberlines.specs.NumberLines.{LineOf}
use Rattle.numberlines.specs.declared.row.Unread.{Unread}
use Rattle.numberlines.specs.declared.row.Unread.TheVariants.{Unusual, Other}
use Rattle.refusals.specs.declared.Refusal.TheVariants.{WrongLine}
use Rattle.plansheet.specs.PlanLines.{fact_line}

-- an X line that nothing turns back, with the numbers of the row
pub record FactAt (s : List ℕ) (at : ℕ) (row : List ℕ) (end : ℕ) : Type 0 where
  pub zero : (seen : ℕ) → line_number fact_line seen (after s at) (line_at 88 s at) ≡ 0
  pub line : LineOf 88 s at (map number row) end

-- where something is unusual, an X line stands there all the same
abbrev pub FactFound : List ℕ → ℕ → List ℕ → Result ℕ Unread → List ℕ → Type 0
FactFound s at row (Ok end) row' = FactAt s at row' end
FactFound s at row (Err Unusual) row' = line_at 88 s at ≡ none → ⊥
FactFound s at row (Err Other) row' = row' ≡ row

-- a line's numbers are row n; where no X line stands, rows are as they were
abbrev pub FactLeft : Option (List Field) → ℕ → List (List ℕ) → Read → List (List ℕ) → Type 0
FactLeft x n rows (L.Line count next) rows' = rows' ≡ set rows n (values (fields_of x))
FactLeft x n rows (L.Refused r) rows' = r ≡ WrongLine → rows' ≡ rows
