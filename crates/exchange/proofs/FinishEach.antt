-- The children finished one after the other: the first by its number, form and F row, and then the others.
-- Assumes nothing.
use Prim.Native.Nat.{ℕ, ◌+◌, ◌-◌, ◌≤◌}
use mathlib.Core.Path.{◌≡◌, refl, sym, ap, ◌∙◌}
use mathlib.Core.List.{List, [], ◌++◌}
use native.Mathlib.Nat.{add-zero}
use native.Mathlib.Omega.{arith}
use lib.ListN.{length, drop, get_or, length-append}
use Rattle.exchange.specs.declared.row.Step.{Step}
use Rattle.exchange.specs.declared.settings.Settings.{Settings}
use Rattle.exchange.specs.Trees.{node, none, ◌∷ᶠ◌, trees, root, Operator, Plan, Plans}
use Rattle.exchange.specs.Forms.{Form, form_of}
use Rattle.exchange.specs.Facts.{NodeFacts, Row}
use Rattle.exchange.specs.FactRows.{child_facts}
use Rattle.exchange.specs.Built.{built_root, built_rows, built}
use Rattle.exchange.specs.LastForm.{finished_child, finished_each}
use Rattle.exchange.specs.Rows.{node_at, flatten, flattens}
use Rattle.exchange.specs.Runs.{Ready, Readys, Stands, Maps, MapsAll}
use Rattle.exchange.proofs.TreeRows.{flatten_node, flattens_none, flattens_cons, tree_in}
use Rattle.exchange.proofs.Marking.{root_read}
use Rattle.exchange.proofs.FirstAndOthers.{first_stands, first_ready, others_ready, many_wrote}
use Rattle.exchange.proofs.BuiltRows.{built_rows_lem, built_long, new_long}

module _ (rows : List Row) (forms : List ℕ) (facts : List (List ℕ)) (s : Settings) (b : NodeFacts) (worked : Operator) (children child : ℕ) where
  abbrev each : Plans → Plans
  each = finished_each rows forms facts s b worked children child

  abbrev others : Plans → Plans
  others = finished_each rows forms facts s b worked children (child + 1)

  abbrev one : ℕ → Plan → Plan
  one need = finished_child rows child (form_of (get_or forms (child - 1) 0)) need (child_facts (get_or facts (child - 1) [])) s b worked children

  each_none : each none ≡ none
  unfolding finished_each
  each_none = refl

  each_cons : (t : Plan) (ts : Plans) → each (t ∷ᶠ ts) ≡ one (root t).need t ∷ᶠ others ts
  unfolding finished_each
  each_cons t ts = refl

  pub each_done : (src : List (List ℕ)) (at left to : ℕ) (d : List (List ℕ)) → left ≡ 0 → MapsAll each src at left d to d (record { at = at; to = to })
  each_done src at left to d z none rest e h = rw (each_none, flattens_none) (record { read = sym (add-zero at); written = sym (add-zero to); stored = refl })
  each_done src at left to d z (t ∷ᶠ ts) rest e h = absurd (omega arith)

  -- the need is that of the row
  each_first : (src : List (List ℕ)) (at need : ℕ) → need ≡ (node_at src at).need → (t : Plan) (ts : Plans) (rest : List (List ℕ)) → drop at src ≡ flatten t ++ (flattens ts ++ rest)
      → flattens (each (t ∷ᶠ ts)) ≡ flatten (one need t) ++ flattens (others ts)
  each_first src at need n t ts rest h =
      let is : (root t).need ≡ need = sym (n ∙ ap (λ (o : Operator). o.need) (root_read src at t _ h)) in
      ap flattens (each_cons t ts) ∙ flattens_cons _ (others ts) ∙ ap (λ (k : ℕ). flatten (one k t) ++ flattens (others ts)) is

  -- the first of several, by the need of its row
  module _ (src : List (List ℕ)) (at left need : ℕ) (more : left ≡ 0 → ⊥) (n : need ≡ (node_at src at).need) where
    pub each_stands : (room to : ℕ) → Readys each src at left room to → Stands src at
    each_stands = first_stands (one need) each others src at left more (each_first src at need n)

    pub each_ready : (room to : ℕ) → Readys each src at left room to → Ready (one need) src at room to
    each_ready = first_ready (one need) each others src at left more (each_first src at need n)

    pub each_others : (to : ℕ) (d d₁ : List (List ℕ)) (m : Step) → Maps (one need) src at d to d₁ m → (room : ℕ) → Readys each src at left room to → Readys others src m.at (left - 1) room m.to
    each_others = others_ready (one need) each others src at left more (each_first src at need n)

    pub each_wrote : (to : ℕ) (d d₁ : List (List ℕ)) (m : Step) → Maps (one need) src at d to d₁ m → (d₂ : List (List ℕ)) (r : Step) → MapsAll others src m.at (left - 1) d₁ m.to d₂ r → MapsAll each src at left d to d₂ r
    each_wrote = many_wrote (one need) each others src at left more (each_first src at need n)

-- a child in a form has at most two rows more
built_two : (rows : List Row) (child : ℕ) (f : Form) (t : Plan) → length (flatten (built rows child f t)) ≤ length (flatten t) + 2
built_two rows child f (node o ts) =
    omega (arith, ap length (built_rows_lem rows child f o ts), length-append (built_rows rows child f o (trees ts)) (flattens ts), built_long rows child f o (trees ts), new_long rows child f (built_root rows child f o), ap length (flatten_node o ts))

pub built_room : (rows : List Row) (child : ℕ) (f : Form) (src : List (List ℕ)) (at mid : ℕ) → Stands src at → length src + 2 ≤ mid → Ready (built rows child f) src at mid 0
built_room rows child f src at mid p r =
    record { tree = p.tree; rest = p.rest; stands = p.stands; fits = omega (arith, built_two rows child f p.tree, tree_in src at p.tree p.rest p.stands) }
