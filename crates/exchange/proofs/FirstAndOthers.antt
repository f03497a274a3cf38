-- A step on several trees that is one step on the first and another on the others: what it asks of the rows, and what it gives.
-- Assumes nothing.
use Prim.Native.Nat.{ℕ, ◌+◌, ◌-◌, ◌≤◌, ◌<◌}
use mathlib.Core.Path.{◌≡◌, sym, ap}
use mathlib.Core.List.{List, ◌++◌}
use native.Mathlib.Omega.{arith}
use lib.ListN.{length, drop, length-append}
use Rattle.exchange.specs.declared.row.Step.{Step}
use Rattle.exchange.specs.Trees.{none, ◌∷ᶠ◌, trees, Plan, Plans}
use Rattle.exchange.specs.Rows.{flatten, flattens}
use Rattle.exchange.specs.Runs.{Ready, Readys, Maps, MapsAll, Stands}
use Rattle.exchange.proofs.Stored.{past, both}
use Rattle.exchange.proofs.TreeRows.{flattens_cons, tree_long, tree_in}
use Rattle.exchange.proofs.Marking.{head_stands}

-- where one of several trees is left, a row stands there
pub first_row : (many : Plans → Plans) (src : List (List ℕ)) (at left room to : ℕ) → (left ≡ 0 → ⊥) → Readys many src at left room to → at < length src
first_row many src at left room to more p = go p.below p.counted p.stands
  where
    go : (ts : Plans) → trees ts ≡ left → drop at src ≡ flattens ts ++ p.rest → at < length src
    go none e h = absurd (more (sym e))
    go (t ∷ᶠ ts) e h = omega (arith, tree_in src at _ _ (head_stands src at t ts p.rest h), tree_long t)

module _ (one : Plan → Plan) (many others : Plans → Plans) (src : List (List ℕ)) (at left : ℕ) (more : left ≡ 0 → ⊥)
    (cons : (t : Plan) (ts : Plans) (rest : List (List ℕ)) → drop at src ≡ flatten t ++ (flattens ts ++ rest) → flattens (many (t ∷ᶠ ts)) ≡ flatten (one t) ++ flattens (others ts)) where
  pub first_stands : (room to : ℕ) → Readys many src at left room to → Stands src at
  first_stands room to p = go p.below p.counted p.stands
    where
      go : (ts : Plans) → trees ts ≡ left → drop at src ≡ flattens ts ++ p.rest → Stands src at
      go none e h = absurd (more (sym e))
      go (t ∷ᶠ ts) e h = record { tree = t; rest = _; stands = head_stands src at t ts p.rest h }

  pub first_ready : (room to : ℕ) → Readys many src at left room to → Ready one src at room to
  first_ready room to p = go p.below p.counted p.stands p.fits
    where
      go : (ts : Plans) → trees ts ≡ left → drop at src ≡ flattens ts ++ p.rest → to + length (flattens (many ts)) ≤ room → Ready one src at room to
      go none e h f = absurd (more (sym e))
      go (t ∷ᶠ ts) e h f =
          let k = head_stands src at t ts p.rest h in
          record { tree = t; rest = _; stands = k; fits = omega (arith, f, ap length (cons t ts p.rest k), length-append (flatten (one t)) (flattens (others ts))) }

  module _ (to : ℕ) (d d₁ : List (List ℕ)) (m : Step) (w : Maps one src at d to d₁ m) where
    pub others_ready : (room : ℕ) → Readys many src at left room to → Readys others src m.at (left - 1) room m.to
    others_ready room p = go p.below p.counted p.stands p.fits
      where
        go : (ts : Plans) → trees ts ≡ left → drop at src ≡ flattens ts ++ p.rest → to + length (flattens (many ts)) ≤ room → Readys others src m.at (left - 1) room m.to
        go none e h f = absurd (more (sym e))
        go (t ∷ᶠ ts) e h f =
            let k = head_stands src at t ts p.rest h in
            let q = w t (flattens ts ++ p.rest) k in
            record {
              below = ts;
              rest = p.rest;
              counted = omega arith;
              stands = rw q.read (past src (flatten t) (flattens ts ++ p.rest) at k);
              fits = omega (arith, f, q.written, ap length (cons t ts p.rest k), length-append (flatten (one t)) (flattens (others ts)));
            }

    -- the place falls behind
    pub first_falls : (room : ℕ) → Readys many src at left room to → (at < m.at) × (m.at ≤ length src)
    first_falls room p =
        let s = first_stands room to p in
        omega (arith, (w s.tree s.rest s.stands).read, tree_long s.tree, tree_in src at _ _ s.stands)

    pub many_wrote : (d₂ : List (List ℕ)) (r : Step) → MapsAll others src m.at (left - 1) d₁ m.to d₂ r → MapsAll many src at left d to d₂ r
    many_wrote d₂ r v none rest e h = absurd (more (sym e))
    many_wrote d₂ r v (t ∷ᶠ ts) rest e h =
        let k = head_stands src at t ts rest h in
        let q = w t (flattens ts ++ rest) k in
        let z : drop m.at src ≡ flattens ts ++ rest = rw q.read (past src (flatten t) (flattens ts ++ rest) at k) in
        rw (flattens_cons t ts, cons t ts rest k)
        (both at to m r (flatten t) (flatten (one t)) (flattens ts) (flattens (others ts)) d d₁ d₂ q (v ts rest (omega arith) z))
