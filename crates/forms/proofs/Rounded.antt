-- The relationship rounds of states are those of their forms (`rounds_same`): each child's turn goes by its need, its form and the row of that form.
-- Assumes nothing.
use mathlib.Core.Path.{◌≡◌, refl, sym, ap, ◌∙◌}
use mathlib.Core.Bool.{Bool, true, false, cond, ◌&&◌, ◌||◌}
use mathlib.Core.Option.{Option, none, some}
use mathlib.Core.List.{List, ◌∷◌}
use Prim.Native.Nat.{ℕ, zero, suc, ◌+◌, ◌*◌, ◌/◌, ◌%◌, ◌≤◌}
use native.Mathlib.Omega.{arith}
use lib.Dec.{eqb}
use lib.ListN.{length}
use Rattle.std.specs.Prelude.{Some}
use Rattle.exchange.specs.Forms.{Form, form_number, form_of, with_relationship}
use Rattle.exchange.specs.Facts.{Row, row_of, unsatisfied_at}
use Rattle.exchange.specs.States.{ChildState, with_form, and_then}
use Rattle.exchange.specs.Step.{keyed_on}
use Rattle.exchange.specs.Relationships.{Enforced, stuck, enforced, given_set, is_givable, any_givable, round, next_round, rounds, enforce_distribution_relationships}
use Rattle.exchange.specs.Standings.{form_by, form_numbers, with_forms, each_form}
use Rattle.exchange.specs.Turns.{turn_givable, turn_form, any_turn, turns_by, set_of, Stand, nobody, next, Told, unable, given, told, next_told, rounds_by}
use Rattle.exchange.proofs.Forms.{form_apart, form_whole}

module _ (rows : List Row) where
  pub numbers_same : {n : ℕ} {needs fs : List ℕ} {cs : List ChildState} → Stand rows n needs fs cs → form_numbers cs ≡ fs
  numbers_same nobody = refl
  numbers_same (next {n} {need} {f} {needs} {forms} {c} {cs} a b g h r rest) =
      let same : form_number c.form ≡ f = ap form_number g ∙ form_whole f (omega arith) in
      ap (λ (k : ℕ). k ∷ form_numbers cs) same ∙ ap (λ (ks : List ℕ). f ∷ ks) (numbers_same rest)

  pub length_same : {n : ℕ} {needs fs : List ℕ} {cs : List ChildState} → Stand rows n needs fs cs → length cs ≡ length needs
  length_same nobody = refl
  length_same (next a b g h r rest) = ap suc (length_same rest)

  set_same : {n : ℕ} {needs fs : List ℕ} {cs : List ChildState} → Stand rows n needs fs cs → given_set cs ≡ set_of fs
  unfolding given_set set_of
  set_same nobody = refl
  set_same (next {n} {need} {f} {needs} {forms} {c} {cs} a b g h r rest) =
      ap (λ (x : Form). x.relationship + 2 * given_set cs) g ∙ ap (λ (k : ℕ). (form_of f).relationship + 2 * k) (set_same rest)

  givable_same : (c : ChildState) (n need f bit : ℕ) → c.need ≡ need → c.form ≡ form_of f → row_of rows n (form_of f) ≡ some c.row
      → (eqb bit 1 && is_givable c) ≡ turn_givable rows (record { number = n; need = need; form = f; bit = bit })
  givable_same c n need f bit b g r = rw (b, g, r)

  any_same : {n : ℕ} {needs fs : List ℕ} {cs : List ChildState} (mask : ℕ) → Stand rows n needs fs cs → any_givable mask cs ≡ any_turn rows (turns_by n mask needs fs)
  unfolding any_givable any_turn turns_by
  any_same mask nobody = refl
  any_same mask (next {n} {need} {f} {needs} {forms} {c} {cs} a b g h r rest) =
      ap (λ (t : Bool). t || any_givable (mask / 2) cs) (givable_same c n need f (mask % 2) b g r)
      ∙ ap (λ (t : Bool). turn_givable rows (record { number = n; need = need; form = f; bit = mask % 2 }) || t) (any_same (mask / 2) rest)

  -- ---- a round

  data Rounded (n : ℕ) (needs : List ℕ) : Option (List ChildState) → Option (List ℕ) → Type 0 where
    gone : Rounded n needs none none
    stays : {ds : List ChildState} {fs : List ℕ} → Stand rows n needs fs ds → Rounded n needs (some ds) (some fs)

  module _ (c : ChildState) (n need f : ℕ) (needs : List ℕ) (a : c.number ≡ n) (b : c.need ≡ need) (g : c.form ≡ form_of f) (h : f ≤ 15) (r : row_of rows n (form_of f) ≡ some c.row) where
    whole : form_of (form_number (with_relationship (form_of f))) ≡ with_relationship (form_of f)
    whole = form_apart (with_relationship (form_of f)) (omega arith) (omega arith) (omega arith)

    turned : (t : Bool) (o : Option Row) → row_of rows n (with_relationship (form_of f)) ≡ o → {rest : Option (List ChildState)} {each : Option (List ℕ)} → Rounded (suc n) needs rest each
        → Rounded n (need ∷ needs) (and_then (cond t (with_form c (with_relationship c.form) keyed_on o) (some c)) (λ d. and_then rest (λ ds. some (d ∷ ds))))
        (with_forms (cond t (form_by (form_number (with_relationship (form_of f))) o) (Some f)) each)
    turned true none e s = gone
    turned true (some x) e gone = gone
    turned true (some x) e (stays s) =
        stays (next a b (ap with_relationship g ∙ sym whole) (omega arith) (ap (row_of rows n) whole ∙ e) s)
    turned false o e gone = gone
    turned false o e (stays s) = stays (next a b g h r s)

  round_same : {n : ℕ} {needs fs : List ℕ} {cs : List ChildState} (mask : ℕ) → Stand rows n needs fs cs
      → Rounded n needs (round rows mask cs) (each_form (turn_form rows) (turns_by n mask needs fs))
  unfolding round each_form turns_by
  round_same mask nobody = stays nobody
  round_same mask (next {n} {need} {f} {needs} {forms} {c} {cs} a b g h r rest) =
      let o = row_of rows c.number (with_relationship c.form) in
      let same : row_of rows n (with_relationship (form_of f)) ≡ o = rw (a, g) in
      rw (← givable_same c n need f (mask % 2) b g r, same)
      (turned c n need f needs a b g h r (eqb (mask % 2) 1 && is_givable c) o same (round_same (mask / 2) rest))

  -- ---- the rounds

  told_cond : (t : Bool) (x y : Enforced) (u v : Told) → told x ≡ u → told y ≡ v → told (cond t x y) ≡ cond t u v
  told_cond true x y u v e i = e
  told_cond false x y u v e i = i

  next_same : {needs : List ℕ} {os : Option (List ChildState)} {each : Option (List ℕ)} (go : List ChildState → Enforced) (to : List ℕ → Told)
      → ((ds : List ChildState) (fs : List ℕ) → Stand rows 1 needs fs ds → told (go ds) ≡ to fs) → Rounded 1 needs os each → told (next_round os go) ≡ next_told each to
  next_same go to e gone = refl
  next_same go to e (stays {ds} {fs} s) = e ds fs s

  rounds_same : (masks : List ℕ) {needs fs : List ℕ} {cs : List ChildState} (k : ℕ) → Stand rows 1 needs fs cs → told (rounds rows masks k cs) ≡ rounds_by rows masks needs k fs
  unfolding rounds rounds_by
  rounds_same masks {needs} {fs} {cs} zero s =
      rw (set_same s) (told_cond (eqb (unsatisfied_at masks (set_of fs)) 0) (enforced cs) stuck (given fs) unable (ap given (numbers_same s)) refl)
  rounds_same masks {needs} {fs} {cs} (suc k) s =
      let m = unsatisfied_at masks (set_of fs) in
      let on = next_round (round rows m cs) (λ ds. rounds rows masks k ds) in
      rw (set_same s, ← any_same m s)
      (told_cond (eqb m 0) (enforced cs) (cond (any_givable m cs) on stuck) _ _ (ap given (numbers_same s))
      (told_cond (any_givable m cs) on stuck _ _ (next_same (λ ds. rounds rows masks k ds) (λ gs. rounds_by rows masks needs k gs) (λ ds gs t. rounds_same masks {needs = needs} {fs = gs} {cs = ds} k t) (round_same m s)) refl))

  pub enforce_same : (masks : List ℕ) {needs fs : List ℕ} {cs : List ChildState} → Stand rows 1 needs fs cs
      → rounds_by rows masks needs (length needs) fs ≡ told (enforce_distribution_relationships rows masks cs)
  enforce_same masks {needs} {fs} {cs} s = sym (ap (λ (k : ℕ). told (rounds rows masks k cs)) (length_same s) ∙ rounds_same masks (length needs) s)
