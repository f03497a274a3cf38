-- A form: what a child of the worked node has been given so far, as a value and as the number on an X row.
-- Renders document 01, "Form is split + 2×top + 8×relationship; top 0 none, 1 merge, 2 keyed exchange, 3 round robin".
use Rattle.std.specs.Prelude.{ℕ, ◌+◌, ◌*◌, ◌/◌, ◌%◌}

-- split and relationship are marks: split at its source, and given an exchange by a relationship round
pub record Form : Type 0 where
  pub split : ℕ
  pub top : ℕ
  pub relationship : ℕ

-- the form's number
abbrev pub form_number : Form → ℕ
form_number f = f.split + 2 * f.top + 8 * f.relationship

-- the form of a number up to 15
abbrev pub form_of : ℕ → Form
form_of n = record { split = n % 2; top = n / 2 % 4; relationship = n / 8 }

-- the child as it stands on the sheet
abbrev pub plain_form : Form
plain_form = record { split = 0; top = 0; relationship = 0 }

-- split at its source
abbrev pub split_form : Form
split_form = record { split = 1; top = 0; relationship = 0 }

-- a merge (1), a keyed exchange (2) or a round robin (3) put on top
abbrev pub with_top : ℕ → Form → Form
with_top top f = record { split = f.split; top = top; relationship = f.relationship }

-- an exchange put on top by a relationship round
abbrev pub with_relationship : Form → Form
with_relationship f = record { split = f.split; top = f.top; relationship = 1 }
