-- D sheets as text: what is written again from a sheet that was read.
-- Renders document 01, "Exchange sheet", and demand 2, "Sheets written from a read sheet have the same bytes".
use Rattle.std.specs.Prelude.{ℕ, List, [], ◌∷◌, ◌++◌, map, cond, eqb}
use Rattle.text.specs.declared.field.Field.{Field}
use Rattle.text.specs.declared.field.Field.TheVariants.{Number as number, Empty as empty}
use Rattle.text.specs.Write.{line_text}
use Rattle.exchange.specs.declared.row.Node.{Node}
use Rattle.exchange.specs.Rows.{unpacked, children_of, flatten}
use Rattle.exchange.specs.declared.settings.Settings.{Settings}
use Rattle.exchange.specs.Trees.{Plan}
use Rattle.exchange.specs.Facts.{NodeFacts, ChildFacts, Row, Facts}
use Rattle.sheet.specs.KeyAnswers.{numbers_line}
use Rattle.plansheet.specs.PlanSheets.{PlanSheet}

-- lines of one letter
unfoldable pub lines_text : ℕ → List (List Field) → List ℕ
lines_text letter [] = []
lines_text letter (fs ∷ rs) = line_text letter fs ++ lines_text letter rs

abbrev pub number_fields : List ℕ → List Field
number_fields ns = map number ns

abbrev pub settings_numbers : Settings → List ℕ
settings_numbers s =
    s.target ∷ s.roundrobin ∷ s.split ∷ s.batch ∷ s.estimates ∷ s.subset ∷ s.files ∷ s.sort ∷ s.union ∷ []

-- "An absent limit is an empty field"
abbrev pub limit_field : ℕ → ℕ → Field
limit_field mark l = cond (eqb mark 0) empty (number l)

abbrev pub operator_fields : Node → ℕ → List Field
operator_fields n children =
    number n.kind ∷ number n.count ∷ number n.keeps ∷ limit_field n.limited n.limit
    ∷ number n.order ∷ number n.tracked ∷ number n.need ∷ number children ∷ []

-- an operator's row as a T line
abbrev pub row_fields : List ℕ → List Field
row_fields r = operator_fields (unpacked r) (children_of r)

-- T lines in preorder
abbrev pub tree_rows : Plan → List (List Field)
tree_rows t = map row_fields (flatten t)

abbrev pub node_numbers : NodeFacts → List ℕ
node_numbers b = b.friendly ∷ b.window ∷ b.aggexact ∷ b.aggsubset ∷ []

abbrev pub child_numbers : ChildFacts → List ℕ
child_numbers f = f.gains ∷ f.maintains ∷ f.rowkind ∷ f.rows ∷ f.grouping ∷ f.splits ∷ f.entries ∷ []

abbrev pub row_numbers : Row → List ℕ
row_numbers x =
    x.child ∷ x.form ∷ x.count ∷ x.layout ∷ x.athash ∷ x.exact ∷ x.subset ∷ x.met ∷ x.aftermet
    ∷ x.const ∷ x.ford ∷ x.fplain ∷ x.order ∷ []

abbrev pub child_fields : List ChildFacts → List (List Field)
child_fields fs = map (λ f. number_fields (child_numbers f)) fs

abbrev pub fact_fields : List Row → List (List Field)
fact_fields xs = map (λ x. number_fields (row_numbers x)) xs

-- B, F for each child, X rows in sheet order, Y
unfoldable pub facts_text : Facts → List ℕ
facts_text f =
    numbers_line 66 (node_numbers f.node) ++ (lines_text 70 (child_fields f.children) ++ (lines_text 88 (fact_fields f.rows) ++ numbers_line 89 f.masks))

-- D, T lines, and the facts
unfoldable pub plan_text : PlanSheet → List ℕ
plan_text x = numbers_line 68 (settings_numbers x.settings) ++ (lines_text 84 (tree_rows x.plan) ++ facts_text x.facts)
