-- Refusal 5 by the counts of lists, and what reading a sheet answers.
-- Renders number 5 of document 01's table: "L and G lengths differ; S isn't as long as L (op 2) or empty (others); an unused list has entries".
use Rattle.std.specs.Prelude.{◌≡◌, ℕ, ◌+◌, ◌/◌, List, [], Bool, cond, ◌&&◌, ◌||◌, eqb, leb, get_or, Result, Ok, Err}
use Rattle.keys.specs.Adjust.{KeySheet}
use Rattle.keys.specs.Inputs.{JoinSheet}
use Rattle.linekinds.specs.declared.lists.SheetKind.{SheetKind}
use Rattle.linekinds.specs.declared.lists.SheetKind.TheVariants.{Key, Join}
use Rattle.keys.specs.Codes.{order_tried}
use Rattle.sheet.specs.KeySheets.{Reading, sheet, turned, mark, serves, read_key_sheet, read_join_sheet}
use Rattle.sheet.specs.Held.{child_count, held_key_sheet, held_join_sheet, KeyHeld, JoinHeld, held_text}
use Rattle.refusals.specs.declared.Refused.{Refused}
use Rattle.sheet.specs.SheetLines.{refused_on}

abbrev pub direction_counts : ℕ → ℕ → ℕ → Bool
direction_counts op s l = cond (eqb op 2) (eqb s l) (eqb s 0)

-- of L, G, S and W; a pair of W has two numbers
abbrev pub pair_counts : ℕ → ℕ → ℕ → ℕ → ℕ → ℕ → Bool
pair_counts op mode l g s w = eqb l g && (direction_counts op s l && (serves (order_tried op mode) l && serves (order_tried op mode) (w / 2)))

-- the counts are those of the lines R, L, G, S, W, O, A, M, from place 1 on
unfoldable pub key_counts_fit : ℕ → ℕ → List ℕ → Bool
key_counts_fit op mode cs =
    pair_counts op mode (get_or cs 2 0) (get_or cs 3 0) (get_or cs 4 0) (get_or cs 5 0)
    && (serves (eqb op 3) (get_or cs 6 0) && (serves (eqb op 3) (get_or cs 7 0) && serves (eqb op 4) (get_or cs 8 0)))

-- H and N: a mark, and no keys after mark 0
abbrev pub input_counts : ℕ → ℕ → Bool
input_counts m n = mark m || leb n 1

-- the counts are those of the lines L, G, S, H, N, W, V, from place 1 on; then the marks of H and N
unfoldable pub join_counts_fit : ℕ → List ℕ → ℕ → ℕ → Bool
join_counts_fit op cs h n =
    eqb (get_or cs 1 0) (get_or cs 2 0) && (direction_counts op (get_or cs 3 0) (get_or cs 1 0) && (input_counts h (get_or cs 4 0) && input_counts n (get_or cs 5 0)))

-- of the lists that are held of a sheet
abbrev pub lists_fit : SheetKind → List (List ℕ) → List ℕ → Bool
lists_fit Key lists counts = key_counts_fit (get_or (get_or lists 0 []) 0 0) (get_or (get_or lists 0 []) 1 0) counts
lists_fit Join lists counts = join_counts_fit (get_or (get_or lists 0 []) 0 0) counts (get_or (get_or lists 4 []) 0 0) (get_or (get_or lists 5 []) 0 0)

abbrev pub sheet_by : {A : Type 0} → Reading A → Result (Unit {0}) Refused
sheet_by (sheet x) = Ok tt
sheet_by (turned n l) = Err (refused_on n l)

-- a sheet that was read is held in the rooms lent, and what is held is written as the sheet stood
pub record KeyRead (s : List ℕ) (r : Result (Unit {0}) Refused) (lists : List (List ℕ)) (counts : List ℕ) : Type 0 where
  pub answer : r ≡ sheet_by (read_key_sheet s)
  pub held : (x : KeySheet) → read_key_sheet s ≡ sheet x → KeyHeld lists counts × (held_key_sheet lists counts ≡ x)
  pub again : (x : KeySheet) → read_key_sheet s ≡ sheet x → held_text Key lists counts 0 (9 + child_count lists counts) ≡ s

pub record JoinRead (s : List ℕ) (r : Result (Unit {0}) Refused) (lists : List (List ℕ)) (counts : List ℕ) : Type 0 where
  pub answer : r ≡ sheet_by (read_join_sheet s)
  pub held : (x : JoinSheet) → read_join_sheet s ≡ sheet x → JoinHeld lists counts × (held_join_sheet lists counts ≡ x)
  pub again : (x : JoinSheet) → read_join_sheet s ≡ sheet x → held_text Join lists counts 0 8 ≡ s

-- the same of a sheet of either kind
abbrev pub SheetRead : SheetKind → List ℕ → Result (Unit {0}) Refused → List (List ℕ) → List ℕ → Type 0
SheetRead Key s r lists counts = KeyRead s r lists counts
SheetRead Join s r lists counts = JoinRead s r lists counts
