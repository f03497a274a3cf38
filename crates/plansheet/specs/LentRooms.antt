-- The rooms lent for a sheet, before a call and after it.
-- Apart from `PlanRooms`, which the struct of the rooms imports.
use Rattle.std.specs.Prelude.{◌≡◌, length}
use Rattle.plansheet.specs.declared.rooms.SheetRooms.{SheetRooms}

-- each is as large as it was
abbrev pub SameSizes : SheetRooms → SheetRooms → Type 0
SameSizes a b =
    (length b.fields.now ≡ length a.fields.now) × (length b.head.now ≡ length a.head.now) × (length b.rows.now ≡ length a.rows.now) × (length b.node.now ≡ length a.node.now)
    × (length b.facts.now ≡ length a.facts.now) × (length b.xs.now ≡ length a.xs.now) × (length b.masks.now ≡ length a.masks.now) × (length b.index.now ≡ length a.index.now)
