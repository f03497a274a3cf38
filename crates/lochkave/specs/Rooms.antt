-- The rooms that a decision is made in.
-- Renders document 01, "Exchange sheet": "256 T lines", "8 children a node".
use Rattle.std.specs.Prelude.{ℕ, ◌+◌, ◌*◌, ◌≤◌, ◌≡◌, Bool, true, List, length}
use Rattle.sheet.specs.SheetLines.{Full}
use Rattle.plansheet.specs.PlanRooms.{RoomFor}

-- room to read a sheet of so many bytes, and to decide on as many lines as the tree's room has: an answer has at most twice as many and 24
pub record PlanRooms (bytes fields rows xs mid dst masks index : ℕ) : Type 0 where
  pub wide : 256 ≤ fields
  pub treed : RoomFor 256 17 bytes rows
  pub rowed : RoomFor 128 28 bytes xs
  pub between : rows + 2 ≤ mid
  pub answered : 2 * rows + 24 ≤ dst
  pub bounded : dst ≤ 65536
  pub masked : 256 ≤ masks
  pub indexed : index ≡ 129

-- ---- rooms that are lent for every sheet

-- a test of p
abbrev pub Decides : Bool → Type 0 → Type 0
Decides b p = (b ≡ true → p) × (p → b ≡ true)

-- the fields of a line, and the lists of K and I sheets
pub record KeyRooms (fields : ℕ) (lists : List (List ℕ)) : Type 0 where
  pub wide : 256 ≤ fields
  pub many : 17 ≤ length lists
  pub full : Full lists

-- the rows, masks and index of a D sheet, and the rows of its answer
pub record TreeRooms (rows xs mid dst masks index : ℕ) : Type 0 where
  pub treed : 256 ≤ rows
  pub rowed : 128 ≤ xs
  pub between : 258 ≤ mid
  pub answered : 536 ≤ dst
  pub masked : 256 ≤ masks
  pub indexed : 129 ≤ index
