-- K and I sheets read from their bytes: the sheet, or the first refusal.
-- Renders document 01, "Key sheet", and refusals 1 to 6 of "Where a sheet is turned back".
use Rattle.std.specs.Prelude.{ℕ, List, [], ◌∷◌, map, Bool, false, cond, not, ◌&&◌, ◌||◌, eqb, length, get_or, drop}
use Rattle.std.proofs.Math.Option.{Option, none, some}
use Rattle.text.specs.declared.field.Field.{Field}
use Rattle.text.specs.Text.{parts}
use Rattle.keys.specs.Reorder.{Rule}
use Rattle.keys.specs.Expressions.{Expression}
use Rattle.keys.specs.Codes.{order_tried}
use Rattle.keys.specs.Adjust.{KeySheet}
use Rattle.keys.specs.Inputs.{JoinSheet}
use Rattle.linekinds.specs.Lines.{Stage, Run, read, refused, rows_of, chain, at_end}
use Rattle.linekinds.specs.KeyLines.{at, values, key_line, input_head, key_stages, input_stages}

-- every three numbers an expression
unfoldable pub exprs : List ℕ → List Expression
exprs [] = []
exprs (k ∷ []) = []
exprs (k ∷ n ∷ []) = []
exprs (k ∷ n ∷ i ∷ rest) = record { kind = k; name = n; index = i } ∷ exprs rest

-- every two expressions a rule
unfoldable pub rules_of : List Expression → List (Rule Expression)
rules_of [] = []
rules_of (e ∷ []) = []
rules_of (e ∷ f ∷ rest) = record { from = e; to = f } ∷ rules_of rest

abbrev pub mark : ℕ → Bool
mark n = eqb n 1

-- the numbers of the i-th row
abbrev pub row : List (List Field) → ℕ → List ℕ
row rs i = values (get_or rs i [])

abbrev pub key_sheet_of : List Field → List (List Field) → KeySheet
key_sheet_of k rs = record {
  op = at k 0;
  mode = at k 1;
  join = at k 2;
  columns = at k 3;
  plain = mark (at k 4);
  partial = mark (at k 5);
  required = exprs (row rs 0);
  left = exprs (row rs 1);
  right = exprs (row rs 2);
  directions = row rs 3;
  rewriting = rules_of (exprs (row rs 4));
  groups = row rs 5;
  aggregates = row rs 6;
  mapped = exprs (row rs 7);
  children = map (λ fs. exprs (values fs)) (drop 8 rs);
}

-- a side's list: its mark, and the keys
abbrev pub input_of : List ℕ → Option (List Expression)
input_of [] = none
input_of (m ∷ ns) = cond (mark m) (some (exprs ns)) none

abbrev pub join_sheet_of : List Field → List (List Field) → JoinSheet
join_sheet_of k rs = record {
  op = at k 0;
  mode = at k 1;
  left = exprs (row rs 0);
  right = exprs (row rs 1);
  directions = row rs 2;
  left_input = input_of (row rs 3);
  right_input = input_of (row rs 4);
  left_rewriting = rules_of (exprs (row rs 5));
  right_rewriting = rules_of (exprs (row rs 6));
}

-- a sheet, or a refusal and its line
pub data Reading (A : Type 0) : Type 0 where
  sheet : A → Reading A
  turned : ℕ → ℕ → Reading A

-- S is as long as L (op 2) or empty (others)
abbrev pub directions_fit : ℕ → List ℕ → List Expression → Bool
directions_fit op s l = cond (eqb op 2) (eqb (length s) (length l)) (eqb (length s) 0)

-- a list that does not serve is empty
abbrev pub serves : Bool → ℕ → Bool
serves b n = b || eqb n 0

-- number 5: lengths that differ, or an unused list that has entries; L, G and W serve where an order is tried
unfoldable pub key_lists_fit : KeySheet → Bool
key_lists_fit s =
    let pairs : Bool = order_tried s.op s.mode in
    eqb (length s.left) (length s.right) && (directions_fit s.op s.directions s.left
    && (serves pairs (length s.left) && (serves pairs (length s.rewriting)
    && (serves (eqb s.op 3) (length s.groups) && (serves (eqb s.op 3) (length s.aggregates) && serves (eqb s.op 4) (length s.mapped))))))

-- H and N have no keys after mark 0
abbrev pub unused_keys : List ℕ → Bool
unused_keys [] = false
unused_keys (m ∷ ns) = not (mark m) && not (eqb (length ns) 0)

unfoldable pub join_lists_fit : JoinSheet → List (List Field) → Bool
join_lists_fit s rs =
    eqb (length s.left) (length s.right) && (directions_fit s.op s.directions s.left && (not (unused_keys (row rs 3)) && not (unused_keys (row rs 4))))

-- all lines were read and nothing follows
abbrev pub ended : {A : Type 0} → (List (List Field) → Reading A) → Run → Reading A
ended whole (refused n l) = turned n l
ended whole (read rs ls l p) = cond (at_end ls) (whole rs) (turned 1 l)

abbrev pub key_whole : List Field → List (List Field) → Reading KeySheet
key_whole k rs = let s : KeySheet = key_sheet_of k rs in cond (key_lists_fit s) (sheet s) (turned 5 0)

abbrev pub join_whole : List Field → List (List Field) → Reading JoinSheet
join_whole k rs = let s : JoinSheet = join_sheet_of k rs in cond (join_lists_fit s rs) (sheet s) (turned 5 0)

abbrev pub head_of : List (List Field) → List Field
head_of rs = get_or rs 0 []

-- the lists after a head line, as its fields ask for them, and what all lines make
abbrev pub after_head : {A : Type 0} → (List Field → List Stage) → (List Field → List (List Field) → Reading A) → Run → Reading A
after_head stages whole (refused n l) = turned n l
after_head stages whole (read rs ls l p) = ended (whole (head_of rs)) (chain (stages (head_of rs)) l p ls)

-- by the K line's number of children
abbrev pub stages_of_key : List Field → List Stage
stages_of_key fs = key_stages (at fs 6)

abbrev pub stages_of_input : List Field → List Stage
stages_of_input fs = input_stages

unfoldable pub read_key_sheet : List ℕ → Reading KeySheet
read_key_sheet s = after_head stages_of_key key_whole (rows_of key_line 1 0 1 0 (parts 10 s))

unfoldable pub read_join_sheet : List ℕ → Reading JoinSheet
read_join_sheet s = after_head stages_of_input join_whole (rows_of input_head 1 0 1 0 (parts 10 s))
