-- Rows stored one run after the other are one run (`both`), and what stands past a run is read from there (`past`).
-- Assumes nothing.
use mathlib.Core.Path.{◌≡◌, sym, ap, ◌∙◌}
use mathlib.Core.List.{List, [], ◌∷◌, ◌++◌}
use Prim.Native.Nat.{ℕ, suc, ◌+◌, ◌≤◌, ◌<◌}
use native.Mathlib.Nat.{add-zero, add-suc, suc-add}
use native.Mathlib.Omega.{arith}
use lib.ListN.{length, drop, get_or, set, length-drop, length-append}
use lib.Seq.{sets, drop-drop, drop-append_seam, get_or-drop}
use Rattle.exchange.specs.declared.row.Step.{Step}
use Rattle.exchange.specs.Runs.{Wrote}

-- ---- stores

sets_append : {A : Type 0} (l : List A) (i : ℕ) (xs ys : List A) → sets l i (xs ++ ys) ≡ sets (sets l i xs) (i + length xs) ys
sets_append l i [] ys = rw add-zero
sets_append l i (x ∷ xs) ys = sets_append (set l i x) (suc i) xs ys ∙ rw (add-suc, suc-add)

module _ {A : Type 0} (d d₁ d₂ : List A) (to next : ℕ) (a b : List A) where
  -- a run stored after another is one run
  pub then : next ≡ to + length a → d₁ ≡ sets d to a → d₂ ≡ sets d₁ next b → d₂ ≡ sets d to (a ++ b)
  then e p q = cc (sets_append d to a b)

module _ (at to : ℕ) (m r : Step) (i₁ o₁ i₂ o₂ d d₁ d₂ : List (List ℕ)) where
  pub both : Wrote at to i₁ o₁ d d₁ m → Wrote m.at m.to i₂ o₂ d₁ d₂ r → Wrote at to (i₁ ++ i₂) (o₁ ++ o₂) d d₂ r
  both p q =
      record {
        read = omega (arith, length-append i₁ i₂);
        written = omega (arith, length-append o₁ o₂);
        stored = then d d₁ d₂ to m.to o₁ o₂ p.written p.stored q.stored;
      }

-- ---- reads

module _ {A : Type 0} (src xs ys : List A) (a : ℕ) (h : drop a src ≡ xs ++ ys) where
  pub past : drop (a + length xs) src ≡ ys
  past = sym (drop-drop (length xs) a src) ∙ ap (drop (length xs)) h ∙ drop-append_seam xs ys

  pub within : 0 < length xs → a + length xs ≤ length src
  within some = omega (arith, simp (length-append, length-drop) at (ap length h))

-- the element at a place where a list begins
pub first_at : {A : Type 0} (src ys : List A) (a : ℕ) (z : A) → drop a src ≡ ys → get_or src a z ≡ get_or ys 0 z
first_at src ys a z h =
    let e : get_or (drop a src) 0 z ≡ get_or src a z = get_or-drop a src 0 z ∙ ap (λ (k : ℕ). get_or src k z) (add-zero a) in
    sym e ∙ ap (λ (l : List _). get_or l 0 z) h
