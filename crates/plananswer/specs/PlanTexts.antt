-- D answers as text, and the outcome of a decision.
-- Renders document 01, "Answer `d,changed,window,interleave,tracked`, then `t,id,kind,count,keeps,limit,order,mask,tracked,children`",
-- "An absent limit is an empty field", "T lines in preorder", and refusals 9 and 11.
use Rattle.std.specs.Prelude.{ℕ, List, [], ◌∷◌, ◌++◌}
use Rattle.std.proofs.Math.Option.{Option, some, none as absent}
use Rattle.text.specs.declared.field.Field.{Field}
use Rattle.text.specs.declared.field.Field.TheVariants.{Number as number, Empty as empty}
use Rattle.text.specs.Write.{line_text}
use Rattle.sheet.specs.KeyAnswers.{Outcome, refused, wrote, numbers_line}
use Rattle.exchange.specs.Trees.{node, none, ◌∷ᶠ◌, trees, Operator, Plan, Plans}
use Rattle.exchange.specs.Ensure.{Answer, Ensured, missing_row, unenforceable, answered}

-- an absent limit is an empty field
abbrev pub limit_field : Option ℕ → Field
limit_field absent = empty
limit_field (some l) = number l

-- the fields of a t line: an operator's, and how many children it has
abbrev pub operator_fields : Operator → ℕ → List Field
operator_fields o children =
    number o.id
    ∷ number o.kind
    ∷ number o.count
    ∷ number o.keeps
    ∷ limit_field o.limit
    ∷ number o.order
    ∷ number o.mask
    ∷ number o.tracked
    ∷ number children
    ∷ []

-- a t line
abbrev pub operator_line : Operator → ℕ → List ℕ
operator_line o children = line_text 116 (operator_fields o children)

-- a line for each operator of a tree, in preorder: by the operator, and how many children it has
unfoldable mutual
  pub plan_lines : (Operator → ℕ → List ℕ) → Plan → List ℕ
  plan_lines line (node o ts) = line o (trees ts) ++ plans_lines line ts

  pub plans_lines : (Operator → ℕ → List ℕ) → Plans → List ℕ
  plans_lines line none = []
  plans_lines line (t ∷ᶠ ts) = plan_lines line t ++ plans_lines line ts

-- the d line, and the t lines
unfoldable pub plan_answer_text : Answer → List ℕ
plan_answer_text a = numbers_line 100 (a.changed ∷ a.window ∷ a.interleave ∷ a.tracked ∷ []) ++ plan_lines operator_line a.plan

-- refusal 9, refusal 11, or the answer's bytes
abbrev pub distributed : Ensured → Outcome
distributed missing_row = refused 9 0
distributed unenforceable = refused 11 0
distributed (answered a) = wrote (plan_answer_text a)
