-- The condition on placeholders is needed: with one required, a pair comes out twice, and a name is not found.
use Prim.Native.Nat.{ℕ}
use mathlib.Core.Path.{◌≡◌, refl, sym, ◌∙◌, subst}
use mathlib.Core.Bool.{true}
use mathlib.Core.List.{[], ◌∷◌}
use native.Mathlib.Omega.{arith}
use Rattle.keys.specs.Expressions.{same_expr, column, placeholder}
use Rattle.keys.specs.Adjust.{KeySheet, KeyAnswer, answered, name_not_found, adjust_input_keys_ordering}
use Rattle.keys.specs.Kept.{PairsKept, sheet_pairs, answer_pairs}
use Rattle.keys.proofs.Marked.{doubled, marked}

-- what `pairs_once` says is false of marked sheet 3
pub doubled_pair :
    (a : KeyAnswer) → adjust_input_keys_ordering same_expr doubled.sheet ≡ answered a →
    PairsKept (sheet_pairs doubled.sheet) (answer_pairs a) a.report a.positions → ⊥
doubled_pair a e k = twice (subst (λ (b : KeyAnswer). PairsKept (sheet_pairs doubled.sheet) (answer_pairs b) b.report b.positions) z k)
  where
    d : answered a ≡ answered doubled.answer
    d = sym e ∙ marked.1.1.1.0

    z : a ≡ doubled.answer
    z = cc d

    twice : PairsKept (sheet_pairs doubled.sheet) (answer_pairs doubled.answer) 2 (0 ∷ 0 ∷ []) → ⊥
    twice k = let n : ◌≡◌ {A = ℕ} 2 1 = (k.moved refl).arrangement.once 0 (omega arith) in omega arith

-- an aggregate of two groups of which one is asked for with a placeholder
abbrev pub unnamed : KeySheet
unnamed = record {
  op = 3;
  mode = 0;
  join = 0;
  columns = 0;
  plain = true;
  partial = true;
  required = column 1 0 ∷ placeholder ∷ [];
  left = [];
  right = [];
  directions = [];
  rewriting = [];
  groups = 1 ∷ 2 ∷ [];
  aggregates = [];
  mapped = [];
  children = [] ∷ [];
}

-- what `names_found` says is false of it
pub name_missing : adjust_input_keys_ordering same_expr unnamed ≡ name_not_found
unfolding adjust_input_keys_ordering
name_missing = refl
