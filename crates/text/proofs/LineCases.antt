-- A line at a place of a text, by the tests that its reader makes.
-- Assumes nothing.
use mathlib.Core.Path.{◌≡◌, refl, ap, ◌∙◌}
use mathlib.Core.List.{List, [], ◌∷◌, map}
use mathlib.Core.Option.{Option, none, some}
use mathlib.Core.Bool.{Bool, true, false, cond, and-false}
use Prim.Native.Nat.{ℕ, suc, ◌+◌, ◌≤◌, ◌<◌}
use native.Mathlib.Numerals.{add-one}
use native.Mathlib.Omega.{arith}
use lib.Dec.{ltb}
use lib.ListN.{length, drop, get_or, length-drop, drop_of_length-le}
use lib.Seq.{drop-cons, sets}
use borrow.Author.Tests.{eq-eqb, ne_eqb, lt-ltb, le-ltb}
use Rattle.text.specs.declared.field.Field.{Field}
use Rattle.text.specs.Text.{until, line, fields, line_fields, line_at, after, row, greatest}
use Rattle.text.specs.Read.{tallied, line_read, stored_in}
use Rattle.text.specs.declared.line.Fields.{Fields}
use Rattle.std.specs.Prelude.{None, Some}

-- the line from a place on
module _ (s : List ℕ) (i : ℕ) where
  line_end : length s ≤ i → line (drop i s) ≡ []
  unfolding line until
  line_end h = rw (drop_of_length-le s h)

  until_end : length s ≤ i → until 10 (drop i s) ≡ 0
  unfolding until
  until_end h = rw (drop_of_length-le s h)

  module _ (h : i < length s) where
    until_lf : get_or s i 0 ≡ 10 → until 10 (drop i s) ≡ 0
    unfolding until
    until_lf e = rw (drop-cons s i 0 h, eq-eqb (get_or s i 0) 10 e)

    line_lf : get_or s i 0 ≡ 10 → line (drop i s) ≡ []
    unfolding line
    line_lf e = rw (until_lf e)

    until_more : (get_or s i 0 ≡ 10 → ⊥) → until 10 (drop i s) ≡ suc (until 10 (drop (i + 1) s))
    unfolding until
    until_more n = rw (add-one, drop-cons s i 0 h, ne_eqb (get_or s i 0) 10 n)

    line_more : (get_or s i 0 ≡ 10 → ⊥) → line (drop i s) ≡ get_or s i 0 ∷ line (drop (i + 1) s)
    unfolding line
    line_more n = rw (until_more n, add-one, drop-cons s i 0 h)

neither : {A : Type 0} (t : Bool) → cond {A = Option A} t none none ≡ none
neither true = refl
neither false = refl

other_first : (letter x : ℕ) → (x ≡ letter → ⊥) → (r : List ℕ) → line_fields letter (x ∷ r) ≡ none
unfolding line_fields
other_first letter x ne [] = rw (ne_eqb x letter ne)
other_first letter x ne (c ∷ cs) = rw (ne_eqb x letter ne)

module _ (letter : ℕ) (s : List ℕ) (at : ℕ) (out : List (List ℕ)) where
  none_at : line_fields letter (line (drop at s)) ≡ none → (None ≡ line_read (after s at) (line_at letter s at)) × (out ≡ stored_in out (line_fields letter (line (drop at s))))
  unfolding line_at
  none_at e = rw e (rw (neither {A = List Field} (ltb (until 10 (drop at s)) (length (drop at s)))) refl, refl)

  open_at : length s ≤ at + until 10 (drop at s) → line_at letter s at ≡ none
  unfolding line_at
  open_at h = rw (le-ltb (until 10 (drop at s)) (length (drop at s)) (omega (arith, length-drop at s)))

  shut_at : at + until 10 (drop at s) < length s → line_at letter s at ≡ line_fields letter (line (drop at s))
  unfolding line_at
  shut_at h = rw (lt-ltb (until 10 (drop at s)) (length (drop at s)) (omega (arith, length-drop at s)))

  pub at_end_lem : length s ≤ at → (None ≡ line_read (after s at) (line_at letter s at)) × (out ≡ stored_in out (line_fields letter (line (drop at s))))
  unfolding line_fields
  at_end_lem h = none_at (ap (line_fields letter) (line_end s at h))

  module _ (h : at < length s) where
    pub empty_line : get_or s at 0 ≡ 10 → (None ≡ line_read (after s at) (line_at letter s at)) × (out ≡ stored_in out (line_fields letter (line (drop at s))))
    unfolding line_fields
    empty_line e = none_at (ap (line_fields letter) (line_lf s at h e))

    module _ (n : get_or s at 0 ≡ 10 → ⊥) where
      pub other : (get_or s at 0 ≡ letter → ⊥) → (None ≡ line_read (after s at) (line_at letter s at)) × (out ≡ stored_in out (line_fields letter (line (drop at s))))
      other ne = none_at (ap (line_fields letter) (line_more s at h n) ∙ other_first letter (get_or s at 0) ne (line (drop (at + 1) s)))

      module _ (is : get_or s at 0 ≡ letter) where
        alone : line (drop (at + 1) s) ≡ [] → line_fields letter (line (drop at s)) ≡ some []
        unfolding line_fields
        alone e = rw (line_more s at h n, e, eq-eqb (get_or s at 0) letter is)

        pub cut : length s ≤ at + 1 → (None ≡ line_read (after s at) (line_at letter s at)) × (out ≡ stored_in out (line_fields letter (line (drop at s))))
        cut l = (rw (open_at (omega (arith, until_more s at h n))), rw (alone (line_end s (at + 1) l)))

        module _ (h' : at + 1 < length s) where
          pub bare : get_or s (at + 1) 0 ≡ 10 → (Some (record { count = 0; worst = 0; largest = 0; next = at + 1 + 1 }) ≡ line_read (after s at) (line_at letter s at)) × (out ≡ stored_in out (line_fields letter (line (drop at s))))
          unfolding after greatest
          bare e =
              let u : until 10 (drop at s) ≡ 1 = omega (arith, until_more s at h n, until_lf s (at + 1) h' e) in
              let a : line_fields letter (line (drop at s)) ≡ some [] = alone (line_lf s (at + 1) h' e) in
              (rw (shut_at (omega (arith, u)), a, u), rw a)

          module _ (n' : get_or s (at + 1) 0 ≡ 10 → ⊥) where
            two : line (drop at s) ≡ get_or s at 0 ∷ get_or s (at + 1) 0 ∷ line (drop (at + 1 + 1) s)
            two = line_more s at h n ∙ ap (λ (r : List ℕ). get_or s at 0 ∷ r) (line_more s (at + 1) h' n')

            pub no_comma : (get_or s (at + 1) 0 ≡ 44 → ⊥) → (None ≡ line_read (after s at) (line_at letter s at)) × (out ≡ stored_in out (line_fields letter (line (drop at s))))
            unfolding line_fields
            no_comma ne = none_at (rw (two, ne_eqb (get_or s (at + 1) 0) 44 ne, and-false))

            module _ (c : get_or s (at + 1) 0 ≡ 44) (t : Fields) (told : t ≡ tallied (at + 1 + 1 + until 10 (drop (at + 1 + 1) s)) (fields (line (drop (at + 1 + 1) s)))) (out' : List (List ℕ)) (stored : out' ≡ sets out 0 (map row (fields (line (drop (at + 1 + 1) s))))) where
              read : line_fields letter (line (drop at s)) ≡ some (fields (line (drop (at + 1 + 1) s)))
              unfolding line_fields
              read = rw (two, eq-eqb (get_or s at 0) letter is, eq-eqb (get_or s (at + 1) 0) 44 c)

              end_is : t.next ≡ at + until 10 (drop at s)
              end_is = omega (arith, ap (λ (x : Fields). x.next) told, until_more s at h n, until_more s (at + 1) h' n')

              pub unended : length s ≤ t.next → (None ≡ line_read (after s at) (line_at letter s at)) × (out' ≡ stored_in out (line_fields letter (line (drop at s))))
              unended l = (rw (open_at (omega (arith, end_is))), rw read stored)

              pub whole : t.next < length s → (Some (record { count = t.count; worst = t.worst; largest = t.largest; next = t.next + 1 }) ≡ line_read (after s at) (line_at letter s at)) × (out' ≡ stored_in out (line_fields letter (line (drop at s))))
              unfolding after
              whole l = (rw (shut_at (omega (arith, end_is)), read) (λ k. Some (record { count = (told k).count; worst = (told k).worst; largest = (told k).largest; next = end_is k + 1 })), rw read stored)
