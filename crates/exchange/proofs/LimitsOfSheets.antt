-- Demand 3, limits of a whole sheet: the answer has those of its tree, each with its owner, in the same order, and no other.
use mathlib.Core.Path.{◌≡◌, refl, sym, ◌∙◌}
use mathlib.Core.Bool.{Bool, true, false, cond, not}
use mathlib.Core.Option.{none as nothing}
use mathlib.Core.List.{append-nil}
use native.Mathlib.Omega.{arith}
use Rattle.keys.proofs.Truths.{and_second}
use Rattle.exchange.specs.Trees.{node, none, ◌∷ᶠ◌, trees, Operator, Plan, Plans}
use Rattle.exchange.specs.declared.settings.Settings.{Settings}
use Rattle.exchange.specs.Facts.{Facts}
use Rattle.exchange.specs.Operators.{has_limit}
use Rattle.exchange.specs.Children.{is_removed, remove_dist_changing_operators, remove_above}
use Rattle.exchange.specs.Ensure.{Answer, answered, ensured}
use Rattle.exchange.specs.Limits.{limits, Owned, is_dist_changing, OneBelow, OneBelows}
use Rattle.exchange.proofs.LimitsKept.{own_none, removed_limit}
use Rattle.exchange.proofs.LimitsOfAnswers.{limits_kept}

-- an operator with no limit over one tree adds nothing
limits_one : (o : Operator) (u : Plan) (us : Plans) → o.limit ≡ nothing → trees us ≡ 0 → limits (node o (u ∷ᶠ us)) ≡ limits u
unfolding limits
limits_one o u none e n = rw (own_none o (u ∷ᶠ none) e) (append-nil (limits u))
limits_one o u (v ∷ᶠ vs) e n = absurd (omega arith)

mutual
  unfolding remove_dist_changing_operators

  limits_removed : (t : Plan) → OneBelow t → limits (remove_dist_changing_operators t) ≡ limits t
  limits_removed (node o ts) h = go (is_removed o) refl (λ e. limits_above o e ts (h.0 (and_second (not (has_limit o)) (is_dist_changing o) e)) h.1)
    where
      go : (b : Bool) → is_removed o ≡ b → (is_removed o ≡ true → limits (remove_above (node o ts) ts) ≡ limits (node o ts))
          → limits (cond b (remove_above (node o ts) ts) (node o ts)) ≡ limits (node o ts)
      go true e k = k e
      go false e k = refl

  limits_above : (o : Operator) → is_removed o ≡ true → (ts : Plans) → trees ts ≡ 1 → OneBelows ts → limits (remove_above (node o ts) ts) ≡ limits (node o ts)
  limits_above o e none n h = absurd (omega arith)
  limits_above o e (u ∷ᶠ us) n h = limits_removed u h.0 ∙ sym (limits_one o u us (removed_limit o e) (omega arith))

pub sheet_limits_kept : (s : Settings) (f : Facts) (t : Plan) (a : Answer) → Owned t → OneBelow t → ensured s f t ≡ answered a → limits a.plan ≡ limits t
sheet_limits_kept s f t a o h e = limits_kept s f t a o e ∙ limits_removed t h
