-- The lines of K and I sheets by their number, from 0 on, and what reading them leaves.
-- Renders document 01, "Lines in order", and "`I,op,mode` then L, G, S, H, N, W, V".
use Rattle.std.specs.Prelude.{ℕ, ◌≡◌, List, cond, eqb, length, take, Result, Ok, Err}
use Rattle.std.proofs.Math.Option.{Option}
use Rattle.text.specs.declared.field.Field.{Field}
use Rattle.text.specs.Text.{line_at, after}
use Rattle.linekinds.specs.Lines.{Kind, line_number, fields_of}
use Rattle.linekinds.specs.KeyLines.{values}
use Rattle.linekinds.specs.Reading.{kind_of, packed_by}
use Rattle.linekinds.specs.declared.kind.Codes.{Codes}
use Rattle.linekinds.specs.declared.kind.Codes.TheVariants as C
use Rattle.linekinds.specs.declared.kind.Codes.TheVariants.{Exprs, Rules, Input, Directions, Names}
use Rattle.linekinds.specs.declared.lists.SheetKind.{SheetKind}
use Rattle.linekinds.specs.declared.lists.SheetKind.TheVariants.{Key, Join}
use Rattle.linekinds.specs.declared.lists.Packed.{Packed}
use Rattle.refusals.specs.declared.Refusal.{Refusal}
use Rattle.refusals.specs.Refusals.{refusal_of}

-- K, R, L, G, S, W, O, A, M, then C; I, L, G, S, H, N, W, V
abbrev pub line_letter : SheetKind → ℕ → ℕ
line_letter Key i =
    cond (eqb i 0) 75 (cond (eqb i 1) 82 (cond (eqb i 2) 76 (cond (eqb i 3) 71 (cond (eqb i 4) 83 (cond (eqb i 5) 87 (cond (eqb i 6) 79 (cond (eqb i 7) 65 (cond (eqb i 8) 77 67))))))))
line_letter Join i = cond (eqb i 0) 73 (cond (eqb i 1) 76 (cond (eqb i 2) 71 (cond (eqb i 3) 83 (cond (eqb i 4) 72 (cond (eqb i 5) 78 (cond (eqb i 6) 87 86))))))

abbrev pub line_codes : SheetKind → ℕ → Codes
line_codes Key i = cond (eqb i 0) C.Key (cond (eqb i 4) Directions (cond (eqb i 5) Rules (cond (eqb i 6) Names (cond (eqb i 7) Names Exprs))))
line_codes Join i = cond (eqb i 0) C.Join (cond (eqb i 3) Directions (cond (eqb i 4) Input (cond (eqb i 5) Input (cond (eqb i 6) Rules (cond (eqb i 7) Rules Exprs)))))

abbrev pub line_kind : SheetKind → ℕ → Kind
line_kind k i = kind_of (line_codes k i) (line_letter k i)

-- a line's list, as long as it is packed, with the place after it; or why it is turned back, by the lowest number
abbrev pub listed_by : ℕ → ℕ → Codes → Option (List Field) → Result Packed Refusal
listed_by n next c x = cond (eqb n 0) (Ok (record { count = length (packed_by c (values (fields_of x))); next = next })) (Err (refusal_of n))

abbrev pub packed_list : Codes → Option (List Field) → List ℕ
packed_list c x = packed_by c (values (fields_of x))

-- what reading line i at a place answers, and leaves in the room lent
pub record ListRead (s : List ℕ) (at : ℕ) (k : SheetKind) (i : ℕ) (r : Result Packed Refusal) (list : List ℕ) : Type 0 where
  pub answer :
      r ≡ listed_by (line_number (line_kind k i) 0 (after s at) (line_at (line_letter k i) s at)) (after s at) (line_codes k i) (line_at (line_letter k i) s at)
  pub full : length list ≡ 64
  pub held :
      line_number (line_kind k i) 0 (after s at) (line_at (line_letter k i) s at) ≡ 0 →
      take (length (packed_list (line_codes k i) (line_at (line_letter k i) s at))) list ≡ packed_list (line_codes k i) (line_at (line_letter k i) s at)
