-- The kind of each line of a run, as far as the lines of a text ask for.
-- Renders document 01, "T lines in preorder", "per child of the worked node `F,..`" and "rows `X,..`": where T lines, F lines and X rows end.
use Rattle.std.specs.Prelude.{ℕ, suc, List, [], ◌∷◌, cond}
use Rattle.std.proofs.Math.Option.{Option, none}
use Rattle.text.specs.declared.field.Field.{Field}
use Rattle.text.specs.Lines.{first_of}
use Rattle.linekinds.specs.Lines.{Kind, fields_of, counted, one_less}

-- a line of the kind that has `seen` others of its run before it, by itself
abbrev pub placed : Kind → ℕ → Kind
placed k seen = record {
  letter = k.letter;
  heads = k.heads;
  width = k.width;
  malformed = k.malformed;
  large = λ n fs. k.large seen fs;
  undefined = k.undefined;
  unfit = k.unfit;
  stops = counted;
  owes = one_less;
}

-- the lines of a run: as long as it goes on, and a missing one where the text ends
unfoldable pub run_kinds : Kind → ℕ → ℕ → List (List ℕ) → List Kind
run_kinds k owed seen [] = cond (k.stops owed none) [] (placed k seen ∷ [])
run_kinds k owed seen (l ∷ ls) =
    let x : Option (List Field) = first_of k.letter (l ∷ ls) in
    let rest : List Kind = run_kinds k (k.owes owed (fields_of x)) (suc seen) ls in
    cond (k.stops owed x) [] (placed k seen ∷ rest)
