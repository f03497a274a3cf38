-- Copying trees row by row: what is copied, with the rows of the trees still to come, is the whole (`Mid`), at every turn.
-- Assumes nothing.
use mathlib.Core.Path.{◌≡◌, refl, sym, ap, ◌∙◌}
use mathlib.Core.List.{List, [], ◌∷◌, ◌++◌, append_assoc, append-nil}
use Prim.Native.Nat.{ℕ, ◌+◌, ◌-◌, ◌≤◌}
use native.Mathlib.Nat.{add-zero}
use native.Mathlib.Omega.{arith}
use lib.ListN.{length, drop, get_or, set, length-append}
use lib.Seq.{sets}
use Rattle.exchange.specs.Trees.{none, ◌∷ᶠ◌, trees, Plans}
use Rattle.exchange.specs.Rows.{flattens, children_at}
use Rattle.exchange.specs.Runs.{Readys, Wrote}
use Rattle.exchange.proofs.Stored.{then, within}
use Rattle.exchange.proofs.TreeRows.{flattens_none, next, trees_long}

-- within the copy of ts: the rows `done` are copied, and the trees `below` are still to come
pub record Mid (src : List (List ℕ)) (at to : ℕ) (dst₀ : List (List ℕ)) (ts : Plans) (rest dst : List (List ℕ)) (a b left : ℕ) : Type 0 where
  pub done : List (List ℕ)
  pub below : Plans
  pub split : flattens ts ≡ done ++ flattens below
  pub counted : trees below ≡ left
  pub read : a ≡ at + length done
  pub written : b ≡ to + length done
  pub stored : dst ≡ sets dst₀ to done
  pub stands : drop a src ≡ flattens below ++ rest

-- what a turn asks of the numbers
pub record Room (src : List (List ℕ)) (to : ℕ) (ts : Plans) (a b left : ℕ) : Type 0 where
  pub reads : a + 1 ≤ length src
  pub writes : b + 1 ≤ to + length (flattens ts)
  pub grows : left - 1 + children_at src a ≤ length src

module _ (src : List (List ℕ)) (at to : ℕ) (dst₀ : List (List ℕ)) (ts : Plans) (rest : List (List ℕ)) where
  pub start : (left : ℕ) → trees ts ≡ left → drop at src ≡ flattens ts ++ rest → Mid src at to dst₀ ts rest dst₀ at to left
  start left k h =
      record {
        done = [];
        below = ts;
        split = refl;
        counted = k;
        read = sym (add-zero _);
        written = sym (add-zero _);
        stored = refl;
        stands = h;
      }

  pub step : (dst : List (List ℕ)) (a b left : ℕ) → (left ≡ 0 → ⊥) → Mid src at to dst₀ ts rest dst a b left
      → Mid src at to dst₀ ts rest (set dst b (get_or src a [])) (a + 1) (b + 1) (left - 1 + children_at src a)
  step dst a b left more m =
      let w = next src a m.below rest (λ z. more (sym m.counted ∙ z)) m.stands in
      let l : List (List ℕ) = get_or src a [] ∷ [] in
      record {
        done = m.done ++ l;
        below = w.below';
        split = m.split ∙ ap (λ (x : List (List ℕ)). m.done ++ x) w.row ∙ sym (append_assoc m.done l (flattens w.below'));
        counted = w.counted ∙ ap (λ (k : ℕ). k - 1 + children_at src a) m.counted;
        read = omega (arith, length-append m.done l);
        written = omega (arith, length-append m.done l);
        stored = then dst₀ dst _ to b m.done l m.written m.stored refl;
        stands = w.stands;
      }

  pub finish : (dst : List (List ℕ)) (a b : ℕ) → Mid src at to dst₀ ts rest dst a b 0 → Wrote at to (flattens ts) (flattens ts) dst₀ dst (record { at = a; to = b })
  finish dst a b m = go m.below m.counted m.split
    where
      go : (us : Plans) → trees us ≡ 0 → flattens ts ≡ m.done ++ flattens us → Wrote at to (flattens ts) (flattens ts) dst₀ dst (record { at = a; to = b })
      go none e s =
          let w : flattens ts ≡ m.done = s ∙ simp (flattens_none, append-nil) in
          record { read = rw w m.read; written = rw w m.written; stored = rw w m.stored }
      go (u ∷ᶠ us) e s = absurd (omega arith)

  pub room : (dst : List (List ℕ)) (a b left : ℕ) → (left ≡ 0 → ⊥) → Mid src at to dst₀ ts rest dst a b left → Room src to ts a b left
  room dst a b left more m =
      let w = next src a m.below rest (λ z. more (sym m.counted ∙ z)) m.stands in
      let long : length (flattens m.below) ≡ length (flattens w.below') + 1 = ap length w.row ∙ omega arith in
      let in_src : a + length (flattens m.below) ≤ length src = within src (flattens m.below) rest a m.stands (omega arith) in
      let parts : length (flattens ts) ≡ length m.done + length (flattens m.below) = ap length m.split ∙ length-append m.done (flattens m.below) in
      record { reads = omega arith; writes = omega arith; grows = omega (arith, trees_long w.below', w.counted) }

-- the same of the trees that are to be copied, by what holds of any that stand there
pub room_ready : {src : List (List ℕ)} {at count size to : ℕ} (p : Readys (λ ts. ts) src at count size to) {before dst : List (List ℕ)} {a b left : ℕ} → (left ≡ 0 → ⊥)
    → ((ts : Plans) (rest : List (List ℕ)) → trees ts ≡ count → drop at src ≡ flattens ts ++ rest → Mid src at to before ts rest dst a b left)
    → Room src to p.below a b left
room_ready p more held = room _ _ _ _ _ p.rest _ _ _ _ more (held p.below p.rest p.counted p.stands)
