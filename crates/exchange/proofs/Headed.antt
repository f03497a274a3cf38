-- A step that writes rows in the place of an operator and then goes on with its children: what it asks of the rows, and what it gives.
-- Assumes nothing.
use mathlib.Core.Path.{◌≡◌, refl, sym, ap, ◌∙◌}
use mathlib.Core.List.{List, [], ◌∷◌, ◌++◌}
use Prim.Native.Nat.{ℕ, ◌+◌, ◌≤◌, ◌<◌}
use native.Mathlib.Omega.{arith}
use lib.ListN.{length, drop, get_or, length-append}
use lib.Seq.{sets}
use Rattle.exchange.specs.declared.row.Step.{Step}
use Rattle.exchange.specs.Trees.{node, trees, Operator, Plan, Plans}
use Rattle.exchange.specs.Rows.{unpacked, children_of, node_at, children_at, node_of, operator_of, row_of, flatten, flattens}
use Rattle.exchange.specs.Runs.{Ready, Readys, Maps, MapsAll}
use Rattle.exchange.proofs.Stored.{past, both, first_at}
use Rattle.exchange.proofs.TreeRows.{flatten_node, tree_long, row_node, row_operator, row_children, tree_in}

-- rows are written, `heads` and then those of the trees below; the latter have the room that the former leave
pub readys_below : (steps : Plans → Plans) (src heads whole rest : List (List ℕ)) (at count room to next : ℕ) (below : Plans) → trees below ≡ count
    → drop at src ≡ flattens below ++ rest → whole ≡ heads ++ flattens (steps below) → to + length whole ≤ room → next ≡ to + length heads → Readys steps src at count room next
readys_below steps src heads whole rest at count room to next below counted stands is fits e =
    record { below = below; rest = rest; counted = counted; stands = stands; fits = omega (arith, ap length is, length-append heads (flattens (steps below))) }

-- `step` writes `heads` for the operator, and `steps` for its children
module _ (step : Plan → Plan) (heads : Operator → ℕ → List (List ℕ)) (steps : Plans → Plans)
    (rows_of_lem : (o : Operator) (ts : Plans) → flatten (step (node o ts)) ≡ heads o (trees ts) ++ flattens (steps ts)) where
  pub record Here (src : List (List ℕ)) (at : ℕ) (t : Plan) (rest : List (List ℕ)) : Type 0 where
    pub below : Plans
    pub counted : trees below ≡ children_at src at
    pub legal : node_of (operator_of (node_at src at)) ≡ node_at src at
    pub inn : flatten t ≡ get_or src at [] ∷ flattens below
    pub out : flatten (step t) ≡ heads (operator_of (node_at src at)) (children_at src at) ++ flattens (steps below)
    pub stands : drop (at + 1) src ≡ flattens below ++ rest

  here : (src : List (List ℕ)) (at : ℕ) (t : Plan) (rest : List (List ℕ)) → drop at src ≡ flatten t ++ rest → Here src at t rest
  here src at (node o ts) rest h =
      let k : ℕ = trees ts in
      let e : drop at src ≡ row_of o k ∷ (flattens ts ++ rest) = h ∙ ap (λ (l : List (List ℕ)). l ++ rest) (flatten_node o ts) in
      let r : get_or src at [] ≡ row_of o k = first_at src _ at [] e in
      let is : operator_of (node_at src at) ≡ o = ap (λ (x : List ℕ). operator_of (unpacked x)) r ∙ row_operator o k in
      let kr : children_at src at ≡ k = ap children_of r ∙ row_children o k in
      record {
        below = ts;
        counted = sym kr;
        legal = ap node_of is ∙ sym (ap unpacked r ∙ row_node o k);
        inn = flatten_node o ts ∙ ap (λ (x : List ℕ). x ∷ flattens ts) (sym r);
        out = rows_of_lem o ts ∙ ap (λ (j : ℕ). heads o j ++ flattens (steps ts)) (sym kr) ∙ ap (λ (p : Operator). heads p (children_at src at) ++ flattens (steps ts)) (sym is);
        stands = past src (row_of o k ∷ []) _ at e;
      }

  module _ (src : List (List ℕ)) (at room to : ℕ) (p : Ready step src at room to) where
    pub ready_row : at < length src
    ready_row = omega (arith, tree_in src at p.tree p.rest p.stands, tree_long p.tree)

    ready_here : Here src at p.tree p.rest
    ready_here = here src at p.tree p.rest p.stands

    pub ready_legal : node_of (operator_of (node_at src at)) ≡ node_at src at
    ready_legal = ready_here.legal

    out_long : length (flatten (step p.tree)) ≡ length (heads (operator_of (node_at src at)) (children_at src at)) + length (flattens (steps ready_here.below))
    out_long = ap length ready_here.out ∙ length-append (heads (operator_of (node_at src at)) (children_at src at)) _

    pub ready_heads : to + length (heads (operator_of (node_at src at)) (children_at src at)) ≤ room
    ready_heads = omega (arith, out_long, p.fits)

    pub ready_below : (next : ℕ) → next ≡ to + length (heads (operator_of (node_at src at)) (children_at src at)) → Readys steps src (at + 1) (children_at src at) room next
    ready_below next e =
        readys_below steps src (heads (operator_of (node_at src at)) (children_at src at)) _ p.rest (at + 1) (children_at src at) room to next ready_here.below ready_here.counted
        ready_here.stands ready_here.out p.fits e

  -- the rows above, and then what the children's step gives
  pub node_wrote : (src : List (List ℕ)) (at to next : ℕ) (r : Step) (d d₁ d₂ : List (List ℕ))
      → next ≡ to + length (heads (operator_of (node_at src at)) (children_at src at)) → d₁ ≡ sets d to (heads (operator_of (node_at src at)) (children_at src at))
      → MapsAll steps src (at + 1) (children_at src at) d₁ next d₂ r
      → Maps step src at d to d₂ r
  node_wrote src at to next r d d₁ d₂ e s f t rest h =
      let w = here src at t rest h in
      let m : Step = record { at = at + 1; to = next } in
      rw (w.inn, w.out) (both at to m r (get_or src at [] ∷ []) (heads (operator_of (node_at src at)) (children_at src at)) (flattens w.below) (flattens (steps w.below)) d d₁ d₂
      (record { read = refl; written = e; stored = s }) (f w.below rest w.counted w.stands))
