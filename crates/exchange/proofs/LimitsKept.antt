-- The replacement keeps every limit with its owner, and so does every step of a child: what is added has no limit, or one that is not its own.
use Prim.Native.Nat.{ℕ}
use mathlib.Core.Path.{◌≡◌, refl, sym, ap, ap₂, ◌∙◌}
use mathlib.Core.Bool.{Bool, true, false, cond, not, ◌&&◌, and-false}
use mathlib.Core.Option.{Option, some, none as nothing}
use mathlib.Core.List.{[], ◌++◌, append-nil}
use lib.Dec.{eqb, leb}
use Rattle.keys.proofs.Truths.{true_false}
use Rattle.exchange.specs.Trees.{node, none, ◌∷ᶠ◌, root, Operator, Plan, Plans}
use Rattle.exchange.specs.declared.settings.Settings.{Settings}
use Rattle.exchange.specs.Facts.{NodeFacts, Row}
use Rattle.exchange.specs.Operators.{is_sort_preserving_merge, is_present, is_tracked, track_root, above, new_merge, new_exchange, limited_sort, required_sort}
use Rattle.exchange.specs.Children.{is_removed}
use Rattle.exchange.specs.States.{ChildState}
use Rattle.exchange.specs.Step.{split_plan}
use Rattle.exchange.specs.Replace.{coalesced, relaxed, replace_operator, replace_order_preserving_variants, replace_tracked}
use Rattle.exchange.specs.Order.{handle_order}
use Rattle.exchange.specs.Skeleton.{is_added_sort}
use Rattle.exchange.specs.Limits.{limit_of, id_below, own_limit, limits, limitss, OwnsLimit, Owned, Owneds, NoLimits}
use Rattle.exchange.specs.Worked.{removed, removed_from}
use Rattle.exchange.proofs.Growing.{Grows}
use Rattle.exchange.proofs.Handling.{measure_either, measure_operator, measure_handled}

-- ---- one operator

pub own_none : (o : Operator) (ts : Plans) → o.limit ≡ nothing → own_limit o ts ≡ []
own_none o ts e = go (is_added_sort o) (eqb o.mask 0)
  where
    go : (a m : Bool) → cond a (cond m (limit_of (id_below ts) true o.limit) []) (limit_of o.id (is_sort_preserving_merge o) o.limit) ≡ []
    go true true = rw e
    go true false = refl
    go false m = rw e

-- an operator that has an id where it has a limit owns it
pub own_owned : (o : Operator) (ts : Plans) → OwnsLimit o → own_limit o ts ≡ limit_of o.id (is_sort_preserving_merge o) o.limit
own_owned o ts h = go o.limit refl
  where
    go : (l : Option ℕ) → o.limit ≡ l → own_limit o ts ≡ limit_of o.id (is_sort_preserving_merge o) o.limit
    go nothing e = own_none o ts e ∙ rw e
    go (some l) e = rw (named, and-false)
      where
        named : eqb o.id 0 ≡ false
        named = h (ap is_present e)

owns_none : (o : Operator) → o.limit ≡ nothing → OwnsLimit o
owns_none o e h = absurd (true_false h (ap is_present e))

limits_above : (o : Operator) (t : Plan) → own_limit o (t ∷ᶠ none) ≡ [] → limits (above o t) ≡ limits t
unfolding limits
limits_above o t e = rw e (append-nil (limits t))

-- ---- a child on its way

limits_split : (x : Row) (t : Plan) → limits (split_plan x t) ≡ limits t
unfolding limits
limits_split x (node o ts) = refl

owned_split : (x : Row) (t : Plan) → Owned t → Owned (split_plan x t)
owned_split x (node o ts) h = h

limits_track : (m : ℕ) (t : Plan) → limits (track_root m t) ≡ limits t
unfolding limits
limits_track m (node o ts) = refl

-- its limits are the same, and still owned
abbrev pub SameLimits : Plan → Plan → Type 0
SameLimits t u = Owned t → (limits u ≡ limits t) × Owned u

same_above : (o : Operator) (t u : Plan) → o.limit ≡ nothing → SameLimits t u → SameLimits t (above o u)
same_above o t u e h owned = (limits_above o u (own_none o (u ∷ᶠ none) e) ∙ (h owned).0, (owns_none o e, ((h owned).1, tt)))

pub limits_grow : Grows SameLimits
limits_grow = record {
  same = λ t h. (refl, h);
  split = λ t u x p h. (limits_split x u ∙ (p h).0, owned_split x u (p h).1);
  merged = λ t u x p. same_above (new_merge x (root u)) t u refl p;
  keyed = λ t u x p. same_above (new_exchange 12 x (root u)) t u refl p;
  dealt = λ t u x p. same_above (new_exchange 13 x (root u)) t u refl p;
}

-- ---- the replacement

limits_merge : (o : Operator) (ts : Plans) (l : Option ℕ) → o.limit ≡ l
    → limits (cond (is_present l) (above (limited_sort l o.order (coalesced o)) (node (coalesced o) ts)) (node (coalesced o) ts))
    ≡ limit_of o.id true l ++ limitss ts
unfolding limits
limits_merge o ts nothing e = refl
limits_merge o ts (some l) e = ap (λ ls. limit_of o.id true (some l) ++ ls) (append-nil (limitss ts))

limits_replaced : (o : Operator) (ts : Plans)
    → OwnsLimit o → limits (replace_operator o ts) ≡ limit_of o.id (is_sort_preserving_merge o) o.limit ++ limitss ts
unfolding limits
limits_replaced o ts h =
    measure_operator limits o ts (limit_of o.id (is_sort_preserving_merge o) o.limit ++ limitss ts)
    (λ e. limits_merge o ts o.limit refl ∙ rw e)
    (ap (λ ls. ls ++ limitss ts) (own_owned (relaxed o) ts h))
    (ap (λ ls. ls ++ limitss ts) (own_owned o ts h))

mutual
  unfolding limits replace_order_preserving_variants

  pub limits_replace : (t : Plan) → Owned t → limits (replace_order_preserving_variants t) ≡ limits t
  limits_replace (node o ts) h =
      limits_replaced o (replace_tracked ts) h.0
      ∙ ap₂ ◌++◌ (sym (own_owned o ts h.0)) (limitss_replace ts h.1)

  pub limitss_replace : (ts : Plans) → Owneds ts → limitss (replace_tracked ts) ≡ limitss ts
  limitss_replace none h = refl
  limitss_replace (t ∷ᶠ ts) h =
      ap₂ ◌++◌ (measure_either limits (is_tracked (root t)) (replace_order_preserving_variants t) t (limits t) (limits_replace t h.0) refl) (limitss_replace ts h.1)

-- ---- order handling

limits_sort : (entries : ℕ) (limit : Option ℕ) (t : Plan) → eqb entries 0 ≡ false → limits (above (required_sort limit entries (root t)) t) ≡ limits t
limits_sort entries limit t e = limits_above (required_sort limit entries (root t)) t (rw e)

pub limits_handled : (s : Settings) (b : NodeFacts) (w : Operator) (n : ℕ) (c : ChildState) → Owned c.plan
    → limits (handle_order s b w n c) ≡ limits c.plan
limits_handled s b w n c h = measure_handled limits c (limits_replace c.plan h) limits_sort limits_track s b w n

-- ---- above the worked node

pub removed_limit : (o : Operator) → is_removed o ≡ true → o.limit ≡ nothing
removed_limit o e = go o.limit refl
  where
    go : (l : Option ℕ) → o.limit ≡ l → o.limit ≡ nothing
    go nothing q = q
    go (some l) q = absurd (true_false e (ap (λ x. not (is_present x) && (leb 1 o.kind && leb o.kind 4)) q))

-- nothing that is taken off above the worked node has a limit
mutual
  unfolding removed

  pub removed_unlimited : (t : Plan) → NoLimits (removed t)
  removed_unlimited (node o ts) = go (is_removed o) refl (λ e. above_unlimited o e ts)
    where
      go : (b : Bool) → is_removed o ≡ b → (is_removed o ≡ true → NoLimits (removed_from o ts)) → NoLimits (cond b (removed_from o ts) [])
      go true e h = h e
      go false e h = tt

  above_unlimited : (o : Operator) → is_removed o ≡ true → (ts : Plans) → NoLimits (removed_from o ts)
  above_unlimited o e none = tt
  above_unlimited o e (t ∷ᶠ ts) = (removed_limit o e, removed_unlimited t)
