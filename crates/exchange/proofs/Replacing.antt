-- What `replace_children` makes of the first of several trees, by the mark that is read at its place: what `FirstAndOthers` asks.
-- Assumes nothing.
use mathlib.Core.Path.{◌≡◌, refl, ap, ◌∙◌}
use mathlib.Core.Bool.{Bool, cond}
use mathlib.Core.List.{List, [], ◌++◌}
use Prim.Native.Nat.{ℕ}
use native.Mathlib.Omega.{arith}
use lib.ListN.{drop, get_or}
use Rattle.exchange.specs.Trees.{none, ◌∷ᶠ◌, root, Plan, Plans}
use Rattle.exchange.specs.Settings.{is_set}
use Rattle.exchange.specs.Rows.{flatten, flattens}
use Rattle.exchange.specs.Runs.{MapsAll}
use Rattle.exchange.specs.Replace.{replace_order_preserving_variants, replace_tracked}
use Rattle.exchange.proofs.TreeRows.{flattens_none, flattens_cons, tracked_read}
use Rattle.exchange.proofs.Replaced.{replaces_none, replaces_turn}

-- what stands in a tree's place, by whether it is tracked
abbrev pub in_place : Bool → Plan → Plan
in_place tracked t = cond tracked (replace_order_preserving_variants t) t

-- by the mark that is read
abbrev pub read_in_place : List (List ℕ) → ℕ → Plan → Plan
read_in_place src at = in_place (is_set (get_or (get_or src at []) 8 0))

pub first_replaced : (src : List (List ℕ)) (at : ℕ) (t : Plan) (ts : Plans) (rest : List (List ℕ)) → drop at src ≡ flatten t ++ (flattens ts ++ rest)
    → flattens (replace_tracked (t ∷ᶠ ts)) ≡ flatten (read_in_place src at t) ++ flattens (replace_tracked ts)
first_replaced src at t ts rest e =
    rw (tracked_read src at t (flattens ts ++ rest) e) (ap flattens (replaces_turn t ts) ∙ flattens_cons (in_place (is_set (root t).tracked) t) (replace_tracked ts))

pub none_wrote : (src : List (List ℕ)) (at to left : ℕ) (d : List (List ℕ)) → left ≡ 0 → MapsAll replace_tracked src at left d to d (record { at = at; to = to })
none_wrote src at to left d z none rest e h = rw (replaces_none, flattens_none) (record { read = omega arith; written = omega arith; stored = refl })
none_wrote src at to left d z (t ∷ᶠ ts) rest e h = absurd (omega arith)
