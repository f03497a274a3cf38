-- The lines of K and I sheets.
-- Renders document 01, "Key sheet", and "`I,op,mode` then L, G, S, H, N, W, V".
use Rattle.std.specs.Prelude.{ℕ, List, [], ◌∷◌, map, Bool, true, false, cond, not, ◌&&◌, ◌||◌, ltb, leb, eqb, get_or, drop}
use Rattle.text.specs.declared.field.Field.{Field}
use Rattle.text.specs.declared.field.Field.TheVariants.{Number as number}
use Rattle.text.specs.Text.{value_of}
use Rattle.linekinds.specs.Lines.{Kind, Stage, plain, counted, one_less, never, never_large}

-- the number at a place of a line
abbrev pub at : List Field → ℕ → ℕ
at fs i = value_of (get_or fs i (number 0))

-- kind 0 a column; 1 another expression, index 0; 2 the placeholder, both 0
abbrev pub defined_expr : ℕ → ℕ → ℕ → Bool
defined_expr kind name index = eqb kind 0 || ((eqb kind 1 && eqb index 0) || (eqb kind 2 && (eqb name 0 && eqb index 0)))

-- every three numbers an expression
unfoldable pub undefined_exprs : List ℕ → Bool
undefined_exprs [] = false
undefined_exprs (k ∷ []) = false
undefined_exprs (k ∷ n ∷ []) = false
undefined_exprs (k ∷ n ∷ i ∷ rest) = not (defined_expr k n i) || undefined_exprs rest

abbrev pub values : List Field → List ℕ
values fs = map value_of fs

-- some number is over the largest
unfoldable pub over : ℕ → List ℕ → Bool
over m [] = false
over m (n ∷ ns) = ltb m n || over m ns

-- a line that is a list alone
abbrev pub list_line : ℕ → ℕ → (List Field → Bool) → Kind
list_line letter width undefined = record {
  letter = letter;
  heads = [];
  width = width;
  malformed = never;
  large = never_large;
  undefined = undefined;
  unfit = never;
  stops = counted;
  owes = one_less;
}

abbrev pub expr_line : ℕ → Kind
expr_line letter = list_line letter 3 (λ fs. undefined_exprs (values fs))

abbrev pub rule_line : ℕ → Kind
rule_line letter = list_line letter 6 (λ fs. undefined_exprs (values fs))

abbrev pub direction_line : ℕ → Kind
direction_line letter = list_line letter 1 (λ fs. over 3 (values fs))

abbrev pub name_line : ℕ → Kind
name_line letter = list_line letter 1 never

-- a mark, then expressions
abbrev pub input_line : ℕ → Kind
input_line letter = record {
  letter = letter;
  heads = plain ∷ [];
  width = 3;
  malformed = never;
  large = never_large;
  undefined = λ fs. ltb 1 (at fs 0) || undefined_exprs (values (drop 1 fs));
  unfit = never;
  stops = counted;
  owes = one_less;
}

-- hash join: Partitioned, CollectLeft, Auto; aggregate: FinalPartitioned, other; elsewhere 0
abbrev pub defined_mode : ℕ → ℕ → Bool
defined_mode op mode = cond (eqb op 0) (leb mode 2) (cond (eqb op 3) (leb mode 1) (eqb mode 0))

abbrev pub defined_join : ℕ → ℕ → Bool
defined_join op join = cond (eqb op 0) (leb join 9) (eqb join 0)

-- ops 0 to 2 have two children, 3 to 5 one, 6 any number
abbrev pub fit_children : ℕ → ℕ → Bool
fit_children op n = cond (leb op 2) (eqb n 2) (cond (leb op 5) (eqb n 1) true)

-- op, mode, join, left, plain, partial, children
abbrev pub key_line : Kind
key_line = record {
  letter = 75;
  heads = plain ∷ plain ∷ plain ∷ plain ∷ plain ∷ plain ∷ plain ∷ [];
  width = 0;
  malformed = never;
  large = λ seen fs. ltb 8 (at fs 6);
  undefined = λ fs.
      not (leb (at fs 0) 6 && (defined_mode (at fs 0) (at fs 1) && (defined_join (at fs 0) (at fs 2) && (leb (at fs 4) 1 && leb (at fs 5) 1))));
  unfit = λ fs. not (fit_children (at fs 0) (at fs 6));
  stops = counted;
  owes = one_less;
}

-- op, mode
abbrev pub input_head : Kind
input_head = record {
  letter = 73;
  heads = plain ∷ plain ∷ [];
  width = 0;
  malformed = never;
  large = never_large;
  undefined = λ fs. not (leb (at fs 0) 6 && defined_mode (at fs 0) (at fs 1));
  unfit = never;
  stops = counted;
  owes = one_less;
}

abbrev pub once : Kind → Stage
once k = record { kind = k; count = 1 }

-- R, L, G, S, W, O, A, M, and C for each child
abbrev pub key_stages : ℕ → List Stage
key_stages children =
    once (expr_line 82) ∷ once (expr_line 76) ∷ once (expr_line 71) ∷ once (direction_line 83) ∷ once (rule_line 87)
    ∷ once (name_line 79) ∷ once (name_line 65) ∷ once (expr_line 77) ∷ record { kind = expr_line 67; count = children } ∷ []

-- L, G, S, H, N, W, V
abbrev pub input_stages : List Stage
input_stages =
    once (expr_line 76) ∷ once (expr_line 71) ∷ once (direction_line 83) ∷ once (input_line 72) ∷ once (input_line 78)
    ∷ once (rule_line 87) ∷ once (rule_line 86) ∷ []
