-- The search for places finds an arrangement exactly where there is one. Carried by counting: what an entry takes, another cannot.
--     places_fit     what it finds is an arrangement that fits, where no expected entry equals the placeholder: for any equality
--     places_exact   where it finds none, none fits: for every equivalence, whatever the entries
--     positions_fit, positions_exact, positions_none   the same of `expected_expr_positions`, which finds nothing in an empty list
use Prim.Native.Nat.{ℕ, zero, suc, ◌+◌, ◌≤◌, ◌<◌}
use mathlib.Core.Path.{◌≡◌, refl, ap, sym, ◌∙◌, subst}
use mathlib.Core.Bool.{Bool, true, false, cond}
use mathlib.Core.Option.{Option, none, some}
use mathlib.Core.List.{List, [], ◌∷◌}
use mathlib.Core.Logic.{◌↔◌}
use native.Mathlib.Omega.{arith}
use borrow.Author.Tests.{eqb-true, eqb-false}
use lib.Dec.{eqb}
use lib.ListN.{length, get_or, set, length-map}
use lib.Seq.{get_or-set_other}
use Rattle.keys.specs.Lists.{next, also, and_then, same_list, place_of, take_places, expected_expr_positions, permute}
use Rattle.keys.specs.Arrange.{times, Equivalence, Lacks, Fits}
use Rattle.keys.proofs.Lists.{take_below, place_below, positions_of_lem, found_below}
use Rattle.keys.proofs.Truths.{true_false, and_first, and_second, none_some, also_none}
use Rattle.keys.proofs.Sums.{one, all_places}
use Rattle.keys.proofs.Counts.{occ, occ_none, occ_set, occ_same, occ_arranged, alike}

-- what holds of each answer that is found
abbrev Holds : (List ℕ → Type 0) → Option (List ℕ) → Type 0
Holds P none = Unit {0}
Holds P (some ps) = P ps

module _ {A : Type 0} (same : A → A → Bool) where
  same_list_length : (xs ys : List A) → same_list same xs ys ≡ true → length xs ≡ length ys
  same_list_length [] [] e = refl
  same_list_length [] (y ∷ ys) e = absurd (true_false e refl)
  same_list_length (x ∷ xs) [] e = absurd (true_false e refl)
  same_list_length (x ∷ xs) (y ∷ ys) e = ap suc (same_list_length xs ys (and_second (same x y) (same_list same xs ys) e))

  -- the entry at the place that is found
  place_true : (x : A) (xs : List A) (d : A) (p : ℕ) → place_of same x xs ≡ some p → same (get_or xs p d) x ≡ true
  place_true x [] d p e = none_some refl e
  place_true x (c ∷ cs) d p e = go (same c x) refl (place_of same x cs) (place_true x cs d) p e
    where
      go :
          (b : Bool) → same c x ≡ b → (o : Option ℕ) → ((q : ℕ) → o ≡ some q → same (get_or cs q d) x ≡ true) →
          (p : ℕ) → cond b (some zero) (next o) ≡ some p → same (get_or (c ∷ cs) p d) x ≡ true
      go true s o h p q = let z : zero ≡ p = cc in subst (λ (n : ℕ). same (get_or (c ∷ cs) n d) x ≡ true) z s
      go false s none h p q = none_some refl q
      go false s (some r) h p q = let z : suc r ≡ p = cc in subst (λ (n : ℕ). same (get_or (c ∷ cs) n d) x ≡ true) z (h r refl)

  module _ (eq : Equivalence same) (gone : A) where
    -- the search fails only where some entry is expected more often than it is there
    complete : (expected current : List A) → ((y : A) → occ same y expected ≤ occ same y current) → take_places same gone current expected ≡ none → ⊥
    complete [] current h e = none_some e refl
    complete (x ∷ xs) current h e = go (place_of same x current) refl (λ p. complete xs (set current p gone)) e
      where
        fewer : (p : ℕ) → place_of same x current ≡ some p → (y : A) → occ same y xs ≤ occ same y (set current p gone)
        fewer p q y =
            let s : occ same y (set current p gone) + one (same (get_or current p gone) y) ≡ occ same y current + one (same gone y)
            = occ_set same y current p gone gone (place_below same x current p q) in
            let a : one (same (get_or current p gone) y) ≡ one (same x y)
            = ap one (alike same eq (get_or current p gone) x y (place_true x current gone p q)) in
            let i : one (same x y) + occ same y xs ≤ occ same y current = h y in
            omega arith

        go :
            (o : Option ℕ) → place_of same x current ≡ o →
            ((p : ℕ) → ((y : A) → occ same y xs ≤ occ same y (set current p gone)) → take_places same gone (set current p gone) xs ≡ none → ⊥) →
            and_then o (λ p. take_places same gone (set current p gone) xs) ≡ none → ⊥
        go none q r f =
            let a : occ same x current ≡ 0 = occ_none same x current q in
            let i : one (same x x) + occ same x xs ≤ occ same x current = h x in
            omega (arith, ap one (eq.reflexive x))
        go (some p) q r f = r p (fewer p q) (also_none p (take_places same gone (set current p gone) xs) f)

  module _ (gone : A) where
    gone_there : (xs : List A) (p : ℕ) → get_or (set xs p gone) p gone ≡ gone
    gone_there [] p = refl
    gone_there (x ∷ xs) zero = refl
    gone_there (x ∷ xs) (suc p) = gone_there xs p

    -- a place that is taken is not named again
    not_again :
        (current : List A) (p : ℕ) (ps : List ℕ) (expected : List A) → Lacks same gone expected →
        same_list same (permute gone (set current p gone) ps) expected ≡ true → times p ps ≡ 0
    not_again current p [] ys l e = refl
    not_again current p (q ∷ qs) [] l e = absurd (true_false e refl)
    not_again current p (q ∷ qs) (y ∷ ys) l e =
        go (eqb p q) refl (not_again current p qs ys l.1 (and_second (same (get_or (set current p gone) q gone) y) _ e))
      where
        go : (b : Bool) → eqb p q ≡ b → times p qs ≡ 0 → one b + times p qs ≡ 0
        go false t i = omega arith
        go true t i =
            absurd (true_false
            (rw (gone_there current p) at
            (subst (λ (k : ℕ). same (get_or (set current p gone) k gone) y ≡ true) (sym (eqb-true p q t))
            (and_first (same (get_or (set current p gone) q gone) y) (same_list same (permute gone (set current p gone) qs) ys) e)))
            l.0)

    -- the other places are as they were
    others : (current : List A) (p : ℕ) (ps : List ℕ) → times p ps ≡ 0 → permute gone (set current p gone) ps ≡ permute gone current ps
    others current p [] h = refl
    others current p (q ∷ qs) h = go (eqb p q) refl h (others current p qs)
      where
        go :
            (b : Bool) → eqb p q ≡ b → one b + times p qs ≡ 0 →
            (times p qs ≡ 0 → permute gone (set current p gone) qs ≡ permute gone current qs) →
            permute gone (set current p gone) (q ∷ qs) ≡ permute gone current (q ∷ qs)
        go true t k i = absurd (omega arith)
        go false t k i = rw (get_or-set_other current p q gone gone (λ e. eqb-false p q t (sym e)), i (omega arith))

    -- what the search finds
    record Sound (current expected : List A) (ps : List ℕ) : Type 0 where
      equal : same_list same (permute gone current ps) expected ≡ true
      distinct : (k : ℕ) → times k ps ≤ 1

    step :
        (current : List A) (x : A) (xs : List A) (p : ℕ) (ps : List ℕ) → place_of same x current ≡ some p → Lacks same gone xs →
        Sound (set current p gone) xs ps → Sound current (x ∷ xs) (p ∷ ps)
    step current x xs p ps h l s = record {
      equal =
          rw (place_true x current gone p h)
          (rw (others current p ps free) at s.equal);
      distinct = λ k. go k (eqb k p) refl;
    }
      where
        free : times p ps ≡ 0
        free = not_again current p ps xs l s.equal

        go : (k : ℕ) (b : Bool) → eqb k p ≡ b → one b + times k ps ≤ 1
        go k true t = let e : times k ps ≡ 0 = subst (λ (j : ℕ). times j ps ≡ 0) (sym (eqb-true k p t)) free in omega arith
        go k false t = let e : times k ps ≤ 1 = s.distinct k in omega arith

    sound : (expected current : List A) → Lacks same gone expected → Holds (Sound current expected) (take_places same gone current expected)
    sound [] current l = record { equal = refl; distinct = λ k. omega arith }
    sound (x ∷ xs) current l = go (place_of same x current) refl (λ p. sound xs (set current p gone) l.1)
      where
        then :
            (p : ℕ) → place_of same x current ≡ some p → (o : Option (List ℕ)) →
            Holds (Sound (set current p gone) xs) o → Holds (Sound current (x ∷ xs)) (also p o)
        then p h none s = tt
        then p h (some ps) s = step current x xs p ps h l.1 s

        go :
            (o : Option ℕ) → place_of same x current ≡ o →
            ((p : ℕ) → Holds (Sound (set current p gone) xs) (take_places same gone (set current p gone) xs)) →
            Holds (Sound current (x ∷ xs)) (and_then o (λ p. take_places same gone (set current p gone) xs))
        go none h i = tt
        go (some p) h i = then p h (take_places same gone (set current p gone) xs) (i p)

    -- THE SEARCH IS RIGHT: what it finds is an arrangement of current, and current so arranged is expected
    pub places_fit :
        (current expected : List A) (ps : List ℕ) → length current ≡ length expected → Lacks same gone expected →
        take_places same gone current expected ≡ some ps → Fits same gone current expected ps
    places_fit current expected ps n l e =
        let s : Sound current expected ps = subst (Holds (Sound current expected)) e (sound expected current l) in
        record {
          arrangement =
              all_places (length current) ps
              (sym (length-map ps (λ p. get_or current p gone)) ∙ same_list_length (permute gone current ps) expected s.equal ∙ sym n)
              (found_below (length current) _ ps (take_below same gone expected current) e)
              s.distinct;
          equal = s.equal;
        }

    -- AND EXACT: where it finds none, no arrangement fits
    pub places_exact :
        Equivalence same → (current expected : List A) → take_places same gone current expected ≡ none →
        (ps : List ℕ) → Fits same gone current expected ps → ⊥
    places_exact eq current expected e ps f =
        complete eq gone expected current
        (λ y. let a : occ same y (permute gone current ps) ≡ occ same y expected = occ_same same eq y (permute gone current ps) expected f.equal in
        let b : occ same y (permute gone current ps) ≡ occ same y current = occ_arranged same y current gone ps f.arrangement in
        omega arith)
        e

module _ {A : Type 0} (same : A → A → Bool) (gone : A) where
  pub fits_length : (current expected : List A) (ps : List ℕ) → Fits same gone current expected ps → length current ≡ length expected
  fits_length current expected ps f =
      sym f.arrangement.long ∙ sym (length-map ps (λ p. get_or current p gone)) ∙ same_list_length same (permute gone current ps) expected f.equal

  pub positions_fit :
      (current expected : List A) (ps : List ℕ) → length current ≡ length expected → Lacks same gone expected →
      expected_expr_positions same gone current expected ≡ some ps → Fits same gone current expected ps
  positions_fit [] ys ps n l e = none_some refl e
  positions_fit (x ∷ xs) [] ps n l e = none_some refl e
  positions_fit (x ∷ xs) (y ∷ ys) ps n l e = places_fit same gone (x ∷ xs) (y ∷ ys) ps n l e

  -- two empty lists fit, and there the search is not made
  pub positions_exact :
      Equivalence same → (current expected : List A) → 0 < length expected → expected_expr_positions same gone current expected ≡ none →
      (ps : List ℕ) → Fits same gone current expected ps → ⊥
  positions_exact eq current expected k e ps f =
      places_exact same gone eq current expected
      (sym (positions_of_lem same gone current expected (omega (arith, fits_length current expected ps f)) k) ∙ e) ps f

  -- NOTHING IS FOUND EXACTLY WHERE NO ARRANGEMENT FITS
  pub positions_none :
      Equivalence same → (current expected : List A) → length current ≡ length expected → 0 < length expected → Lacks same gone expected →
      (expected_expr_positions same gone current expected ≡ none) ↔ ((ps : List ℕ) → Fits same gone current expected ps → ⊥)
  positions_none eq current expected n k l = (positions_exact eq current expected k, λ h. go h (expected_expr_positions same gone current expected) refl)
    where
      go :
          ((ps : List ℕ) → Fits same gone current expected ps → ⊥) → (o : Option (List ℕ)) → expected_expr_positions same gone current expected ≡ o →
          o ≡ none
      go h none e = refl
      go h (some ps) e = absurd (h ps (positions_fit current expected ps n l e))
