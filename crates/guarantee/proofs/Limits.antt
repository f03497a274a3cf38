-- Sentence 4, by the equation of `exchange`: the limits of the answer's tree are those of the sheet's, each with its owner, in the same order.
use Prim.Native.Nat.{ℕ}
use mathlib.Core.Path.{◌≡◌, refl, sym, ap, ◌∙◌, subst}
use mathlib.Core.Bool.{Bool, true, false, cond}
use mathlib.Core.Logic.{◌⊎◌, inl, inr}
use mathlib.Core.Option.{Option, some, none as nothing}
use mathlib.Core.List.{List, [], ◌∷◌, ◌++◌}
use lib.Dec.{eqb}
use borrow.Author.Tests.{eqb-false}
use Rattle.exchange.specs.Trees.{node, none, ◌∷ᶠ◌, root, Operator, Plan, Plans}
use Rattle.exchange.specs.Operators.{is_sort_preserving_merge, is_coalesce_partitions, is_present}
use Rattle.exchange.specs.Skeleton.{is_added_sort}
use Rattle.exchange.specs.Limits.{Limit, limit_of, id_below, own_limit, limits, limitss, Owned, Owneds}
use Rattle.exchange.proofs.LimitsKept.{own_owned}
use Rattle.plananswer.specs.Sizes.{Everywhere, Everywheres}
use Rattle.guarantee.specs.Limits.{BecameCoalesce, OnItself, OnSort, LimitIn, LimitIns, LimitsKept}

-- ---- a limit in a list of limits

abbrev In : Limit → List Limit → Type 0
In x [] = ⊥
In x (y ∷ ys) = (y ≡ x) ⊎ In x ys

in_either : (x : Limit) (ys zs : List Limit) → In x (ys ++ zs) → In x ys ⊎ In x zs
in_either x [] zs h = inr h
in_either x (y ∷ ys) zs (inl e) = inl (inl e)
in_either x (y ∷ ys) zs (inr h) = go (in_either x ys zs h)
  where
    go : In x ys ⊎ In x zs → ((y ≡ x) ⊎ In x ys) ⊎ In x zs
    go (inl h) = inl (inr h)
    go (inr h) = inr h

in_first : (x : Limit) (ys zs : List Limit) → In x ys → In x (ys ++ zs)
in_first x [] zs h = absurd h
in_first x (y ∷ ys) zs (inl e) = inl e
in_first x (y ∷ ys) zs (inr h) = inr (in_first x ys zs h)

in_last : (x : Limit) (ys zs : List Limit) → In x zs → In x (ys ++ zs)
in_last x [] zs h = h
in_last x (y ∷ ys) zs h = inr (in_last x ys zs h)

-- an operator's limit, as the list has it
abbrev owned : Operator → ℕ → Limit
owned o l = record { id = o.id; merge = is_sort_preserving_merge o; rows = l }

-- ---- from the list to the tree

module _ (o : Operator) (l : ℕ) (named : o.id ≡ 0 → ⊥) where
  -- what stands under a sort whose limit is o's
  became : (us : Plans) → id_below us ≡ o.id → BecameCoalesce o us
  became none e = absurd (named (sym e))
  became (t ∷ᶠ none) e = go (is_coalesce_partitions (root t)) refl e
    where
      go : (b : Bool) → is_coalesce_partitions (root t) ≡ b → cond b (root t).id 0 ≡ o.id → ((root t).id ≡ o.id) × (is_coalesce_partitions (root t) ≡ true)
      go true q e = (e, q)
      go false q e = absurd (named (sym e))
  became (t ∷ᶠ u ∷ᶠ ts) e = absurd (named (sym e))

  on_itself : (p : Operator) (m : Bool) (k : Option ℕ) → p.limit ≡ k → In (owned o l) (limit_of p.id m k) → OnItself o l p
  on_itself p m nothing q h = absurd h
  on_itself p m (some k) q (inl e) =
      let r : k ≡ l = ap (λ (x : Limit). x.rows) e in
      (ap (λ (x : Limit). x.id) e, q ∙ ap (λ (n : ℕ). some n) r)
  on_itself p m (some k) q (inr h) = absurd h

  on_sort : (p : Operator) (us : Plans) (k : Option ℕ) → p.limit ≡ k → is_added_sort p ≡ true → In (owned o l) (limit_of (id_below us) true k) → OnSort o l p us
  on_sort p us nothing q a h = absurd h
  on_sort p us (some k) q a (inl e) =
      let r : k ≡ l = ap (λ (x : Limit). x.rows) e in
      (sym (ap (λ (x : Limit). x.merge) e), a, q ∙ ap (λ (n : ℕ). some n) r, became us (ap (λ (x : Limit). x.id) e))
  on_sort p us (some k) q a (inr h) = absurd h

  on_either : (p : Operator) (us : Plans) → In (owned o l) (own_limit p us) → OnItself o l p ⊎ OnSort o l p us
  on_either p us = go (is_added_sort p) refl (eqb p.mask 0)
    where
      go : (a : Bool) → is_added_sort p ≡ a → (m : Bool)
          → In (owned o l) (cond a (cond m (limit_of (id_below us) true p.limit) []) (limit_of p.id (is_sort_preserving_merge p) p.limit))
          → OnItself o l p ⊎ OnSort o l p us
      go true q true h = inr (on_sort p us p.limit refl q h)
      go true q false h = absurd h
      go false q m h = inl (on_itself p (is_sort_preserving_merge p) p.limit refl h)

  mutual
    unfolding limits

    limit_in : (u : Plan) → In (owned o l) (limits u) → LimitIn o l u
    limit_in (node p us) h = go (in_either (owned o l) (own_limit p us) (limitss us) h) (λ i. limit_ins us i)
      where
        go : In (owned o l) (own_limit p us) ⊎ In (owned o l) (limitss us) → (In (owned o l) (limitss us) → LimitIns o l us) → LimitIn o l (node p us)
        go (inl h) k = inl (on_either p us h)
        go (inr h) k = inr (k h)

    limit_ins : (us : Plans) → In (owned o l) (limitss us) → LimitIns o l us
    limit_ins none h = absurd h
    limit_ins (u ∷ᶠ us) h = go (in_either (owned o l) (limits u) (limitss us) h) (λ i. limit_in u i) (λ i. limit_ins us i)
      where
        go : In (owned o l) (limits u) ⊎ In (owned o l) (limitss us) → (In (owned o l) (limits u) → LimitIn o l u) → (In (owned o l) (limitss us) → LimitIns o l us)
            → LimitIns o l (u ∷ᶠ us)
        go (inl h) j k = inl (j h)
        go (inr h) j k = inr (k h)

-- ---- every limit of a tree

module _ (after : Plan) where
  abbrev Kept : Operator → Type 0
  Kept o = (l : ℕ) → o.limit ≡ some l → LimitIn o l after

  -- all limits of these lists are among those of the answer
  abbrev Among : List Limit → Type 0
  Among ls = (x : Limit) → In x ls → In x (limits after)

  kept_own : (o : Operator) (ts : Plans) → (is_present o.limit ≡ true → eqb o.id 0 ≡ false) → Among (own_limit o ts) → Kept o
  kept_own o ts h k l e =
      limit_in o l (eqb-false o.id 0 (h (ap is_present e))) after
      (k (owned o l) (subst (In (owned o l)) (sym (own_owned o ts h)) (subst (λ (m : Option ℕ). In (owned o l) (limit_of o.id (is_sort_preserving_merge o) m)) (sym e) (inl refl))))

  mutual
    unfolding limits

    kept_all : (t : Plan) → Owned t → Among (limits t) → Everywhere Kept t
    kept_all (node o ts) h k =
        (kept_own o ts h.0 (λ x i. k x (in_first x (own_limit o ts) (limitss ts) i)), kept_alls ts h.1 (λ x i. k x (in_last x (own_limit o ts) (limitss ts) i)))

    kept_alls : (ts : Plans) → Owneds ts → Among (limitss ts) → Everywheres Kept ts
    kept_alls none h k = tt
    kept_alls (t ∷ᶠ ts) h k =
        (kept_all t h.0 (λ x i. k x (in_first x (limits t) (limitss ts) i)), kept_alls ts h.1 (λ x i. k x (in_last x (limits t) (limitss ts) i)))

pub limits_kept : (t after : Plan) → Owned t → limits after ≡ limits t → LimitsKept t after
limits_kept t after h e = kept_all after t h (λ x i. subst (In x) (sym e) i)
