-- What the engine knows of the worked node and its children: the lines B, F, X and Y; an X row found by child and form, a mask by its set.
-- Renders document 01, "Exchange sheet", the paragraph that begins "`B,friendly,window,aggexact,aggsubset`".
use Rattle.std.specs.Prelude.{ℕ, cond, ◌&&◌, List, [], ◌∷◌, eqb, get_or}
use Rattle.std.proofs.Math.Option.{Option, none, some}
use Rattle.exchange.specs.Forms.{Form, form_number}

-- the B line: marks of the worked node
pub record NodeFacts : Type 0 where
  pub friendly : ℕ
  pub window : ℕ
  pub aggexact : ℕ
  pub aggsubset : ℕ

-- an F line, of one child of the worked node; rowkind 0 exact, 1 estimate, 2 absent
pub record ChildFacts : Type 0 where
  pub gains : ℕ
  pub maintains : ℕ
  pub rowkind : ℕ
  pub rows : ℕ
  pub grouping : ℕ
  pub splits : ℕ
  pub entries : ℕ

-- an X row: what holds of a child (from 1) once it has a form
pub record Row : Type 0 where
  pub child : ℕ
  pub form : ℕ
  pub count : ℕ
  pub layout : ℕ
  pub athash : ℕ
  pub exact : ℕ
  pub subset : ℕ
  pub met : ℕ
  pub aftermet : ℕ
  pub const : ℕ
  pub ford : ℕ
  pub fplain : ℕ
  pub order : ℕ

-- F lines in the order of the children, X rows as on the sheet, Y masks in the order of their sets
pub record Facts : Type 0 where
  pub node : NodeFacts
  pub children : List ChildFacts
  pub rows : List Row
  pub masks : List ℕ

-- the row of a child in a form; none where it is missing
unfoldable pub row_of : List Row → ℕ → Form → Option Row
row_of [] child f = none
row_of (x ∷ xs) child f =
    let found = row_of xs child f in
    cond (eqb x.child child && eqb x.form (form_number f)) (some x) found

-- the mask of unsatisfied children for a set of children that were given an exchange, the set as its own mask
abbrev pub unsatisfied_at : List ℕ → ℕ → ℕ
unsatisfied_at masks set = get_or masks set 0
