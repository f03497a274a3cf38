-- K and I sheets within their bounds.
-- Renders document 01, "A sheet is ASCII lines ended by LF", "An expression is kind,name,index" and "Key sheet".
use Rattle.std.specs.Prelude.{◌≡◌, ℕ, ◌≤◌, List, true, length}
use Rattle.std.proofs.Math.Option.{Option, none, some}
use Rattle.keys.specs.Reorder.{Rule}
use Rattle.keys.specs.Expressions.{Expression}
use Rattle.keys.specs.Adjust.{KeySheet}
use Rattle.keys.specs.Inputs.{JoinSheet}
use Rattle.linekinds.specs.Lines.{most_bytes, most_entries}
use Rattle.linekinds.specs.KeyLines.{defined_expr, defined_mode, defined_join, fit_children}
use Rattle.sheet.specs.KeySheets.{directions_fit, key_lists_fit}
use Rattle.sheet.specs.KeyTexts.{key_sheet_text, join_sheet_text}
use Rattle.sheet.specs.Sizes.{Each, Few}

-- "Fields are 0..65535"
abbrev pub Small : ℕ → Type 0
Small n = n ≤ 65535

pub record LegalExpr (e : Expression) : Type 0 where
  pub defined : defined_expr e.kind e.name e.index ≡ true
  pub name : Small e.name
  pub index : Small e.index

pub record LegalRule (r : Rule Expression) : Type 0 where
  pub from : LegalExpr r.from
  pub to : LegalExpr r.to

-- "32 entries a list"
abbrev pub Listed : {A : Type 0} → (A → Type 0) → List A → Type 0
Listed P xs = Few most_entries P xs

abbrev pub LegalExprs : List Expression → Type 0
LegalExprs es = Listed LegalExpr es

pub record LegalKeySheet (x : KeySheet) : Type 0 where
  pub op : x.op ≤ 6
  pub mode : defined_mode x.op x.mode ≡ true
  pub join : defined_join x.op x.join ≡ true
  pub columns : Small x.columns
  pub required : LegalExprs x.required
  pub left : LegalExprs x.left
  pub right : LegalExprs x.right
  pub directions : Listed (λ d. d ≤ 3) x.directions
  pub rewriting : Listed LegalRule x.rewriting
  pub groups : Listed Small x.groups
  pub aggregates : Listed Small x.aggregates
  pub mapped : LegalExprs x.mapped
  pub few : length x.children ≤ 8
  pub children : Each LegalExprs x.children
  pub suited : fit_children x.op (length x.children) ≡ true
  pub fit : key_lists_fit x ≡ true
  pub bytes : length (key_sheet_text x) ≤ most_bytes

-- a side's keys, where it is hash partitioned
abbrev pub LegalInput : Option (List Expression) → Type 0
LegalInput none = Unit {0}
LegalInput (some es) = LegalExprs es

pub record LegalJoinSheet (x : JoinSheet) : Type 0 where
  pub op : x.op ≤ 6
  pub mode : defined_mode x.op x.mode ≡ true
  pub left : LegalExprs x.left
  pub right : LegalExprs x.right
  pub directions : Listed (λ d. d ≤ 3) x.directions
  pub left_input : LegalInput x.left_input
  pub right_input : LegalInput x.right_input
  pub left_rewriting : Listed LegalRule x.left_rewriting
  pub right_rewriting : Listed LegalRule x.right_rewriting
  pub even : length x.left ≡ length x.right
  pub directed : directions_fit x.op x.directions x.left ≡ true
  pub bytes : length (join_sheet_text x) ≤ most_bytes
