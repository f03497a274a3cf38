-- Fields and lines, quoted, with what they are read as and written as: theorems by computation, each table one of them.
-- Assumes nothing.
use mathlib.Core.Path.{◌≡◌, refl}
use mathlib.Core.List.{List, [], ◌∷◌, map}
use mathlib.Core.Option.{Option, none, some}
use mathlib.Core.Bool.{true, false}
use Prim.Native.Nat.{ℕ}
use Prim.Native.String.{String}
use Prim.Native.Char.{code}
use Rattle.text.specs.declared.field.Field.{Field}
use Rattle.text.specs.declared.field.Field.TheVariants.{Number as number, Empty as empty, Malformed as malformed}
use Rattle.text.specs.Text.{most, until, onto, parts, run, field, fields, line, line_fields, line_at}
use Rattle.text.specs.Lines.{first_of}
use Rattle.text.specs.Bounds.{Bound, fits}
use Rattle.text.specs.Write.{digits, decimal, field_text, fields_text, line_text}

abbrev pub bytes : String → List ℕ
bytes String.[] = []
bytes (String.◌∷◌ c cs) = code c ∷ bytes cs

-- ---- a field under a largest number

record FieldRow : Type 0 where
  text : String
  largest : ℕ
  gives : Field

field_table : List FieldRow
field_table =
    record { text = "0"; largest = 65535; gives = number 0 }
    ∷ record { text = "7"; largest = 65535; gives = number 7 }
    ∷ record { text = "65535"; largest = 65535; gives = number 65535 }
    ∷ record { text = "65536"; largest = 65535; gives = malformed }
    ∷ record { text = "1"; largest = 0; gives = malformed }
    ∷ record { text = "00"; largest = 65535; gives = malformed }
    ∷ record { text = "01"; largest = 65535; gives = malformed }
    ∷ record { text = ""; largest = 65535; gives = empty }
    ∷ record { text = " 1"; largest = 65535; gives = malformed }
    ∷ record { text = "1x"; largest = 65535; gives = malformed }
    ∷ record { text = "-1"; largest = 65535; gives = malformed }
    ∷ record { text = "4294967295"; largest = 4294967295; gives = number 4294967295 }
    ∷ record { text = "4294967296"; largest = 4294967295; gives = malformed }
    ∷ record { text = "18446744073709551615"; largest = most; gives = number 18446744073709551615 }
    ∷ record { text = "18446744073709551616"; largest = most; gives = malformed }
    ∷ record { text = "184467440737095516150"; largest = most; gives = malformed }
    ∷ []

fields_read : map (λ (r : FieldRow). field r.largest (bytes r.text)) field_table ≡ map (λ (r : FieldRow). r.gives) field_table
unfolding field_table run field
fields_read = refl

-- ---- a line at the start of a text

record LineRow : Type 0 where
  text : String
  letter : ℕ
  gives : Option (List Field)

line_table : List LineRow
line_table =
    record { text = "W\n"; letter = 87; gives = some [] }
    ∷ record { text = "W,\n"; letter = 87; gives = some (empty ∷ []) }
    ∷ record { text = "W,,\n"; letter = 87; gives = some (empty ∷ empty ∷ []) }
    ∷ record { text = "K,2,0,10\n"; letter = 75; gives = some (number 2 ∷ number 0 ∷ number 10 ∷ []) }
    ∷ record { text = "T,0,4,1,,2,1\nT\n"; letter = 84; gives = some (number 0 ∷ number 4 ∷ number 1 ∷ empty ∷ number 2 ∷ number 1 ∷ []) }
    ∷ record { text = "F,01,x,18446744073709551616\n"; letter = 70; gives = some (malformed ∷ malformed ∷ malformed ∷ []) }
    ∷ record { text = "K1\n"; letter = 75; gives = none }
    ∷ record { text = "RX\n"; letter = 82; gives = none }
    ∷ record { text = "R1,2\n"; letter = 82; gives = none }
    ∷ record { text = "R,1,2\n"; letter = 75; gives = none }
    ∷ record { text = "\n"; letter = 75; gives = none }
    ∷ record { text = ""; letter = 75; gives = none }
    ∷ record { text = "R,0,2,1"; letter = 82; gives = none }
    ∷ record { text = "R"; letter = 82; gives = none }
    ∷ []

lines_read : map (λ (r : LineRow). line_at r.letter (bytes r.text) 0) line_table ≡ map (λ (r : LineRow). r.gives) line_table
unfolding line_table until onto parts run field fields line line_fields line_at
lines_read = refl

lines_first : map (λ (r : LineRow). first_of r.letter (parts 10 (bytes r.text))) line_table ≡ map (λ (r : LineRow). r.gives) line_table
unfolding line_table onto parts run field fields line_fields first_of
lines_first = refl

-- ---- fields within their bounds

limit : Bound
limit = record { optional = true; largest = 4294967295 }

name : Bound
name = record { optional = false; largest = 65535 }

within_bounds : map (fits (name ∷ limit ∷ [])) ((number 65535 ∷ empty ∷ []) ∷ (number 65535 ∷ number 4294967295 ∷ []) ∷ (number 65536 ∷ empty ∷ []) ∷ (empty ∷ empty ∷ []) ∷ (number 0 ∷ malformed ∷ []) ∷ (number 0 ∷ number 4294967296 ∷ []) ∷ (number 0 ∷ []) ∷ []) ≡ true ∷ true ∷ false ∷ false ∷ false ∷ false ∷ false ∷ []
unfolding limit name fits
within_bounds = refl

-- ---- a line as it is written

record WrittenRow : Type 0 where
  letter : ℕ
  fields : List Field
  text : String

written_table : List WrittenRow
written_table =
    record { letter = 74; fields = []; text = "J\n" }
    ∷ record { letter = 101; fields = number 12 ∷ number 0 ∷ []; text = "e,12,0\n" }
    ∷ record { letter = 116; fields = number 1 ∷ empty ∷ number 65535 ∷ empty ∷ []; text = "t,1,,65535,\n" }
    ∷ record { letter = 88; fields = number 9 ∷ number 10 ∷ number 99 ∷ number 100 ∷ number 18446744073709551615 ∷ []; text = "X,9,10,99,100,18446744073709551615\n" }
    ∷ []

lines_written : map (λ (r : WrittenRow). line_text r.letter r.fields) written_table ≡ map (λ (r : WrittenRow). bytes r.text) written_table
unfolding written_table digits decimal field_text fields_text line_text
lines_written = refl
