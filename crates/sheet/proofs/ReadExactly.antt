-- What K and I sheets share, with the head line, its stages, the sheet that rows make, its writer and its bounds as parameters:
-- a sheet is read exactly from the text of a legal one (`read_exactly`).
-- Assumes nothing.
use mathlib.Core.Path.{◌≡◌, refl, sym, ap, ◌∙◌, subst}
use mathlib.Core.Logic.{◌↔◌}
use Prim.Native.Nat.{ℕ, ◌≤◌}
use mathlib.Core.List.{List, ◌∷◌}
use mathlib.Core.Bool.{Bool, true, false, cond}
use lib.ListN.{length}
use Rattle.text.specs.declared.field.Field.{Field}
use Rattle.text.specs.Text.{parts}
use Rattle.linekinds.specs.Lines.{Kind, Stage, most_bytes, rows_of}
use Rattle.sheet.specs.KeySheets.{Reading, sheet, turned, after_head}
use Rattle.sheet.specs.Sizes.{Each}
use Rattle.sheet.proofs.InTurn.{Counted, rows_text, FineRows}
use Rattle.sheet.proofs.Accepted.{kinds, Accepted, accepted, accepts}

pub made_fits : {A : Type 0} (t : Bool) (y x : A) → cond t (sheet y) (turned 5 0) ≡ sheet x → (t ≡ true) × (y ≡ x)
made_fits true y x e = (refl, cc)
made_fits false y x e = absurd (cc)

-- rows make a sheet, which is one where its lists fit
module _ {A : Type 0} (k : Kind) (stages : List Field → List Stage) (make : List Field → List (List Field) → A) (fit : A → List (List Field) → Bool) where
  abbrev pub whole : List Field → List (List Field) → Reading A
  whole h rs = cond (fit (make h rs) rs) (sheet (make h rs)) (turned 5 0)

  abbrev pub reading : List ℕ → Reading A
  reading s = after_head stages whole (rows_of k 1 0 1 0 (parts 10 s))

  module _ (c : Counted k) (cs : (fs : List Field) → Each (λ s. Counted s.kind) (stages fs)) where
    pub accepted_exactly : (s : List ℕ) (x : A) → (reading s ≡ sheet x) ↔ Accepted k stages whole s x
    accepted_exactly s x = (accepted k stages whole c cs s x, accepts k stages whole c cs s x)

    abbrev pub FineLines : List Field → List (List Field) → Type 0
    FineLines h rs = FineRows (kinds k stages whole h) (h ∷ rs)

    module _ (text : A → List ℕ)
        (written : (h : List Field) (rs : List (List Field)) → FineLines h rs → fit (make h rs) rs ≡ true → text (make h rs) ≡ rows_text (kinds k stages whole h) (h ∷ rs)) where
      -- writing what was read gives the bytes
      pub written_again : (s : List ℕ) (x : A) → reading s ≡ sheet x → text x ≡ s
      written_again s x e =
          let a = (accepted_exactly s x).0 e in
          let m = made_fits (fit (make a.head a.rows) a.rows) (make a.head a.rows) x a.is in
          ap text (sym m.1) ∙ written a.head a.rows a.fine m.0 ∙ a.text

      module _ (Legal : A → Type 0)
          (legal : (h : List Field) (rs : List (List Field)) → FineLines h rs → fit (make h rs) rs ≡ true → length (text (make h rs)) ≤ most_bytes → Legal (make h rs)) where
        -- what was read is legal
        pub read_legal : (s : List ℕ) (x : A) → reading s ≡ sheet x → Legal x
        read_legal s x e =
            let a = (accepted_exactly s x).0 e in
            let m = made_fits (fit (make a.head a.rows) a.rows) (make a.head a.rows) x a.is in
            let t : text (make a.head a.rows) ≡ s = ap text m.1 ∙ written_again s x e in
            subst Legal m.1 (legal a.head a.rows a.fine m.0 (rw t a.short))

        pub read_exactly : ((x : A) → Legal x → reading (text x) ≡ sheet x) → (s : List ℕ) (x : A) → (reading s ≡ sheet x) ↔ (Legal x × (text x ≡ s))
        read_exactly again s x = (λ e. (read_legal s x e, written_again s x e), λ h. ap reading (sym h.1) ∙ again x h.0)
