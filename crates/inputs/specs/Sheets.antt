-- The sheet that lent inputs make. Renders document 01, "`I,op,mode` then L, G, S, H, N, W, V".
use Rattle.std.specs.Prelude.{ℕ, List}
use Rattle.keys.specs.Inputs.{JoinSheet}
use Rattle.keys.specs.InputValues.{join_sheet}
use Rattle.inputs.specs.declared.sheet.Inputs.{Inputs}

-- with the directions s, which no decision reads
abbrev pub sheet_of : Inputs → List ℕ → JoinSheet
sheet_of x s =
    join_sheet x.op x.mode x.left.now x.right.now s x.left_input.list.now x.right_input.list.now x.left_rewriting.now x.right_rewriting.now
