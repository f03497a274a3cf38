-- Lines of kinds in turn: how they are read, how they are written, and what is asked of them.
use mathlib.Core.Path.{◌≡◌}
use Prim.Native.Nat.{ℕ, ◌-◌}
use mathlib.Core.List.{List, [], ◌∷◌, ◌++◌}
use mathlib.Core.Bool.{Bool, true, false, ◌&&◌}
use mathlib.Core.Option.{Option}
use lib.Dec.{eqb, leb}
use Rattle.text.specs.declared.field.Field.{Field}
use Rattle.text.specs.Text.{most}
use Rattle.text.specs.Bounds.{Bound}
use Rattle.text.specs.Write.{line_text}
use Rattle.linekinds.specs.Lines.{Kind, fields_fit, too_many_entries}

-- bounds up to which fields are read
unfoldable pub readable : List Bound → Bool
readable [] = true
readable (b ∷ bs) = leb b.largest most && readable bs

-- a kind whose runs have a known number of lines, each read by itself
pub record Counted (k : Kind) : Type 0 where
  pub letter : k.letter ≡ 10 → ⊥
  pub heads : readable k.heads ≡ true
  pub stops : (owed : ℕ) (x : Option (List Field)) → k.stops owed x ≡ eqb owed 0
  pub owes : (owed : ℕ) (fs : List Field) → k.owes owed fs ≡ owed - 1
  pub large : (seen : ℕ) (fs : List Field) → k.large seen fs ≡ k.large 0 fs

-- rows, written, each with the letter of its kind
abbrev pub rows_text : List Kind → List (List Field) → List ℕ
rows_text [] rs = []
rows_text (k ∷ ks) [] = []
rows_text (k ∷ ks) (fs ∷ rs) = line_text k.letter fs ++ rows_text ks rs

-- nothing turns a line of these fields back, wherever it stands
pub record Fine (k : Kind) (fs : List Field) : Type 0 where
  pub fit : fields_fit k fs ≡ true
  pub formed : k.malformed fs ≡ false
  pub few : too_many_entries k fs ≡ false
  pub small : k.large 0 fs ≡ false
  pub defined : k.undefined fs ≡ false
  pub suited : k.unfit fs ≡ false

pub data FineRows : List Kind → List (List Field) → Type 0 where
  empty : FineRows [] []
  more : {k : Kind} {ks : List Kind} {fs : List Field} {rs : List (List Field)} → Fine k fs → FineRows ks rs → FineRows (k ∷ ks) (fs ∷ rs)
