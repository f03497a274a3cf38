-- What building a child's tree asks and gives, of the row that stands there and of its children: the laws of `Headed`.
-- Assumes nothing.
use Prim.Native.Nat.{ℕ, ◌+◌, ◌≤◌, ◌<◌}
use mathlib.Core.Path.{◌≡◌}
use mathlib.Core.List.{List}
use lib.ListN.{length}
use lib.Seq.{sets}
use Rattle.exchange.specs.declared.row.Step.{Step}
use Rattle.exchange.specs.Forms.{Form}
use Rattle.exchange.specs.Facts.{Row}
use Rattle.exchange.specs.Rows.{node_of, operator_of, node_at, children_at}
use Rattle.exchange.specs.Built.{built_rows, built}
use Rattle.exchange.specs.Runs.{Ready, Readys, Maps, MapsAll}
use Rattle.exchange.proofs.Headed.{ready_row, ready_legal, ready_heads, ready_below, node_wrote}
use Rattle.exchange.proofs.BuiltRows.{built_rows_lem}

module _ (rows : List Row) (child : ℕ) (f : Form) where
  -- the rows that the row at a place becomes
  abbrev made : List (List ℕ) → ℕ → List (List ℕ)
  made src at = built_rows rows child f (operator_of (node_at src at)) (children_at src at)

  module _ (src : List (List ℕ)) (at room to : ℕ) (p : Ready (built rows child f) src at room to) where
    pub built_row : at < length src
    built_row = ready_row (built rows child f) (built_rows rows child f) (λ ts. ts) (built_rows_lem rows child f) src at room to p

    pub built_legal : node_of (operator_of (node_at src at)) ≡ node_at src at
    built_legal = ready_legal (built rows child f) (built_rows rows child f) (λ ts. ts) (built_rows_lem rows child f) src at room to p

    pub built_heads : to + length (made src at) ≤ room
    built_heads = ready_heads (built rows child f) (built_rows rows child f) (λ ts. ts) (built_rows_lem rows child f) src at room to p

    pub built_below : (next : ℕ) → next ≡ to + length (made src at) → Readys (λ ts. ts) src (at + 1) (children_at src at) room next
    built_below = ready_below (built rows child f) (built_rows rows child f) (λ ts. ts) (built_rows_lem rows child f) src at room to p

  pub built_wrote : (src : List (List ℕ)) (at to next : ℕ) (r : Step) (d d₁ d₂ : List (List ℕ)) → next ≡ to + length (made src at) → d₁ ≡ sets d to (made src at)
      → MapsAll (λ ts. ts) src (at + 1) (children_at src at) d₁ next d₂ r → Maps (built rows child f) src at d to d₂ r
  built_wrote = node_wrote (built rows child f) (built_rows rows child f) (λ ts. ts) (built_rows_lem rows child f)
