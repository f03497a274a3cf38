-- Text written or measured piece by piece: what is left of it, from a place on.
-- Assumes nothing.
use mathlib.Core.Path.{◌≡◌, refl, ap, subst, ◌∙◌}
use mathlib.Core.List.{List, [], ◌∷◌, ◌++◌}
use Prim.Native.Nat.{ℕ, zero, suc, ◌+◌, ◌-◌, ◌*◌, ◌≤◌, ◌<◌}
use native.Mathlib.Nat.{suc-mul}
use native.Mathlib.Numerals.{add-one}
use native.Mathlib.Omega.{arith}
use lib.ListN.{length, length-append}
use Rattle.text.specs.Write.{Wrote}
use Rattle.text.proofs.Stores.{Left, left_all, left_then, left_none, wrote_length}

-- ---- what is left to write

-- whole is to be written from at on; rest, from p on, is left of it, and there is room for it
pub record Owed (out₀ : List ℕ) (at : ℕ) (whole out : List ℕ) (p : ℕ) (rest : List ℕ) : Type 0 where
  pub room : length out ≡ length out₀
  pub enough : p + length rest ≤ length out
  pub left : Left out₀ at whole out p rest

pub owed_all : (out : List ℕ) (at : ℕ) (whole : List ℕ) → at + length whole ≤ length out → Owed out at whole out at whole
owed_all out at whole h = record { room = refl; enough = h; left = left_all out at whole }

module _ {out₀ : List ℕ} {at : ℕ} {whole out : List ℕ} {p : ℕ} where
  pub owed_room : (ys zs : List ℕ) → Owed out₀ at whole out p (ys ++ zs) → p + length ys ≤ length out
  owed_room ys zs o = omega (arith, o.enough, length-append ys zs)

  pub owed_then : {ys zs out₁ : List ℕ} {p₁ : ℕ} → Owed out₀ at whole out p (ys ++ zs) → Wrote out p ys out₁ p₁ → Owed out₀ at whole out₁ p₁ zs
  owed_then {ys} {zs} o w = record {
    room = wrote_length w ∙ o.room;
    enough = omega (arith, o.enough, length-append ys zs, w.place, wrote_length w);
    left = left_then o.left w;
  }

  pub owed_none : Owed out₀ at whole out p [] → Wrote out₀ at whole out p
  owed_none o = left_none o.left

-- ---- parts one after another

abbrev pub joined : List (List ℕ) → List ℕ
joined [] = []
joined (x ∷ xs) = x ++ joined xs

-- the parts are what is left
pub record Due (out₀ : List ℕ) (at : ℕ) (whole out : List ℕ) (p : ℕ) (parts : List (List ℕ)) : Type 0 where
  pub owed : Owed out₀ at whole out p (joined parts)

pub due_all : (out : List ℕ) (at : ℕ) {whole : List ℕ} {parts : List (List ℕ)} → whole ≡ joined parts → at + length whole ≤ length out → Due out at whole out at parts
due_all out at {whole} e h = record { owed = subst (λ (t : List ℕ). Owed out at whole out at t) e (owed_all out at whole h) }

module _ {out₀ : List ℕ} {at : ℕ} {whole out : List ℕ} {p : ℕ} where
  pub due_room : {x : List ℕ} {xs : List (List ℕ)} → Due out₀ at whole out p (x ∷ xs) → p + length x ≤ length out
  due_room {x} {xs} d = owed_room x (joined xs) d.owed

  pub due_then : {x : List ℕ} {xs : List (List ℕ)} {out₁ : List ℕ} {p₁ : ℕ} → Due out₀ at whole out p (x ∷ xs) → Wrote out p x out₁ p₁ → Due out₀ at whole out₁ p₁ xs
  due_then d w = record { owed = owed_then d.owed w }

  pub due_none : Due out₀ at whole out p [] → Wrote out₀ at whole out p
  due_none d = owed_none d.owed

-- ---- pieces in turn

-- n pieces from piece i on
unfoldable pub pieces : (ℕ → List ℕ) → ℕ → ℕ → List ℕ
pieces f i zero = []
pieces f i (suc n) = f i ++ pieces f (suc i) n

-- the pieces from i + 1 on are those of the later function from i on
pub pieces_later : (f : ℕ → List ℕ) (i n : ℕ) → pieces f (suc i) n ≡ pieces (λ k. f (suc k)) i n
unfolding pieces
pieces_later f i zero = refl
pieces_later f i (suc n) = ap (λ (t : List ℕ). f (suc i) ++ t) (pieces_later f (suc i) n)

module _ (f : ℕ → List ℕ) (n : ℕ) where
  pub pieces_turn : (i : ℕ) → i < n → pieces f i (n - i) ≡ f i ++ pieces f (i + 1) (n - (i + 1))
  unfolding pieces
  pieces_turn i h = let e : n - i ≡ suc (n - (i + 1)) = omega arith in rw (e, add-one i)

  pub pieces_end : (i : ℕ) → n ≤ i → pieces f i (n - i) ≡ []
  unfolding pieces
  pieces_end i h = let e : n - i ≡ 0 = omega arith in rw e

  -- the pieces from i on are left to write
  pub record Writing (out₀ : List ℕ) (at : ℕ) (out : List ℕ) (p i : ℕ) : Type 0 where
    pub within : i ≤ n
    pub owed : Owed out₀ at (pieces f 0 n) out p (pieces f i (n - i))

  pub writing_first : (out : List ℕ) (at : ℕ) → at + length (pieces f 0 n) ≤ length out → Writing out at out at 0
  writing_first out at h =
      let e : n - 0 ≡ n = omega arith in
      record { within = omega arith; owed = rw e (owed_all out at (pieces f 0 n) h) }

  module _ (out₀ : List ℕ) (at : ℕ) (out : List ℕ) (p i : ℕ) (w : Writing out₀ at out p i) where
    pub writing_room : i < n → p + length (f i) ≤ length out
    writing_room h = owed_room (f i) (pieces f (i + 1) (n - (i + 1))) (rw (pieces_turn i h) at w.owed)

    pub writing_more : i < n → (out₁ : List ℕ) (p₁ : ℕ) → Wrote out p (f i) out₁ p₁ → Writing out₀ at out₁ p₁ (i + 1)
    writing_more h out₁ p₁ x = record { within = omega arith; owed = owed_then (rw (pieces_turn i h) at w.owed) x }

    pub writing_done : n ≤ i → Wrote out₀ at (pieces f 0 n) out p
    writing_done h = owed_none (rw (pieces_end i h) at w.owed)

  -- m with the length of the pieces from i on is base with the length of all; each piece has at most k bytes
  pub record Adding (base k m i : ℕ) : Type 0 where
    pub within : i ≤ n
    pub near : m ≤ base + i * k
    pub rest : m + length (pieces f i (n - i)) ≡ base + length (pieces f 0 n)

  pub adding_first : (base k : ℕ) → Adding base k base 0
  adding_first base k = let e : n - 0 ≡ n = omega arith in record { within = omega arith; near = omega arith; rest = rw e }

  module _ (base k m i : ℕ) (a : Adding base k m i) where
    pub adding_more : i < n → (x : ℕ) → x ≡ length (f i) → x ≤ k → Adding base k (m + x) (i + 1)
    adding_more h x is few =
        let e : (i + 1) * k ≡ i * k + k = rw (add-one i) (suc-mul i k) in
        record {
          within = omega arith;
          near = omega (arith, a.near);
          rest = omega (arith, a.rest, ap length (pieces_turn i h), length-append (f i) (pieces f (i + 1) (n - (i + 1))));
        }

    pub adding_done : n ≤ i → m ≡ base + length (pieces f 0 n)
    adding_done h = omega (arith, a.rest, ap length (pieces_end i h))
