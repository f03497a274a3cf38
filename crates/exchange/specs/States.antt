-- The children of the worked node: as they come, and as a step leaves them.
-- Renders `DistributionChildState` of 000, with what the sheet has in place of its plan's answers: the form, and the X row of that form.
use Rattle.std.specs.Prelude.{ℕ, suc, List, [], ◌∷◌}
use Rattle.std.proofs.Math.Option.{Option, some, none as nothing}
use Rattle.exchange.specs.Trees.{none, ◌∷ᶠ◌, root, Plan, Plans}
use Rattle.exchange.specs.Forms.{Form, plain_form}
use Rattle.exchange.specs.Facts.{ChildFacts, Row, row_of}

-- a child before its step, its number counted from 1
pub record Child : Type 0 where
  pub number : ℕ
  pub facts : ChildFacts
  pub plan : Plan

-- what the parent requires of it
abbrev pub need_of : Child → ℕ
need_of c = (root c.plan).need

-- its partitions on the sheet
abbrev pub count_of : Child → ℕ
count_of c = (root c.plan).count

-- the facts of a child whose F line is missing; a sheet that is read has one for each
abbrev pub no_facts : ChildFacts
no_facts = record { gains = 0; maintains = 0; rowkind = 0; rows = 0; grouping = 0; splits = 0; entries = 0 }

-- the children from a number on, each with its F line
unfoldable pub children_from : ℕ → Plans → List ChildFacts → List Child
children_from n none fs = []
children_from n (t ∷ᶠ ts) [] = record { number = n; facts = no_facts; plan = t } ∷ children_from (suc n) ts []
children_from n (t ∷ᶠ ts) (f ∷ fs) = record { number = n; facts = f; plan = t } ∷ children_from (suc n) ts fs

-- a child on its way: the form that it has, and the row of that form
pub record ChildState : Type 0 where
  pub number : ℕ
  pub facts : ChildFacts
  pub need : ℕ
  pub form : Form
  pub row : Row
  pub plan : Plan

-- the child with a form and that form's row, its tree by the row
abbrev pub with_form : ChildState → Form → (Row → Plan → Plan) → Option Row → Option ChildState
with_form c f change nothing = nothing
with_form c f change (some x) =
    some (record { number = c.number; facts = c.facts; need = c.need; form = f; row = x; plan = change x c.plan })

-- a child passes into a form, whose row it needs
abbrev pub pass : List Row → Form → (Row → Plan → Plan) → ChildState → Option ChildState
pass rows f change c = with_form c f change (row_of rows c.number f)

-- a child as it stands, with the row of form 0
abbrev pub started_by : Child → Option Row → Option ChildState
started_by c nothing = nothing
started_by c (some x) =
    some (record { number = c.number; facts = c.facts; need = need_of c; form = plain_form; row = x; plan = c.plan })

-- form 0 needs its row too
abbrev pub started : List Row → Child → Option ChildState
started rows c = started_by c (row_of rows c.number plain_form)

-- go on where no row is missing
abbrev pub and_then : {A B : Type 0} → Option A → (A → Option B) → Option B
and_then nothing f = nothing
and_then (some a) f = f a

-- each in turn, none where a row is missing
unfoldable pub each_of : {A B : Type 0} → (A → Option B) → List A → Option (List B)
each_of f [] = some []
each_of f (x ∷ xs) = let rest = each_of f xs in and_then (f x) (λ y. and_then rest (λ ys. some (y ∷ ys)))
