-- The equality of expressions is an equivalence; and rewriting brings in no placeholder that no rule has.
use Prim.Native.Nat.{ℕ}
use mathlib.Core.Path.{◌≡◌, refl, sym, ◌∙◌}
use mathlib.Core.Bool.{Bool, true, false, cond, ◌&&◌}
use mathlib.Core.List.{List, [], ◌∷◌}
use borrow.Author.Tests.{eq-eqb, eqb-true}
use lib.Dec.{eqb}
use Rattle.std.proofs.lemmas.Bool.{and_from}
use Rattle.keys.specs.Reorder.{Rule, rewrite_one, rewrite}
use Rattle.keys.specs.Expressions.{Expression, same_expr}
use Rattle.keys.specs.Arrange.{Equivalence, Lacks}
use Rattle.keys.specs.Kept.{LacksRules}
use Rattle.keys.proofs.Truths.{and_first, and_second}

-- an equality by the value of a function
module _ {A : Type 0} (f : A → ℕ) where
  pub by_value : Equivalence (λ a b. eqb (f a) (f b))
  by_value = record {
    reflexive = λ x. eq-eqb (f x) (f x) refl;
    symmetric = λ x y e. eq-eqb (f y) (f x) (sym (eqb-true (f x) (f y) e));
    transitive = λ x y z d e. eq-eqb (f x) (f z) (eqb-true (f x) (f y) d ∙ eqb-true (f y) (f z) e);
  }

-- both of two equalities
module _ {A : Type 0} (s t : A → A → Bool) (p : Equivalence s) (q : Equivalence t) where
  pub both : Equivalence (λ a b. s a b && t a b)
  both = record {
    reflexive = λ x. and_from (s x x) (t x x) (p.reflexive x) (q.reflexive x);
    symmetric = λ x y e. and_from (s y x) (t y x) (p.symmetric x y (and_first (s x y) (t x y) e)) (q.symmetric x y (and_second (s x y) (t x y) e));
    transitive = λ x y z d e.
        and_from (s x z) (t x z)
        (p.transitive x y z (and_first (s x y) (t x y) d) (and_first (s y z) (t y z) e))
        (q.transitive x y z (and_second (s x y) (t x y) d) (and_second (s y z) (t y z) e));
  }

pub same_expr_equivalence : Equivalence same_expr
same_expr_equivalence =
    both (λ a b. eqb a.kind b.kind) (λ a b. eqb a.name b.name && eqb a.index b.index) (by_value (λ (e : Expression). e.kind))
    (both (λ a b. eqb a.name b.name) (λ a b. eqb a.index b.index) (by_value (λ (e : Expression). e.name)) (by_value (λ (e : Expression). e.index)))

module _ {A : Type 0} (same : A → A → Bool) (gone : A) where
  one_lacks : (w : List (Rule A)) (e : A) → LacksRules same gone w → same gone e ≡ false → same gone (rewrite_one same w e) ≡ false
  one_lacks [] e h k = k
  one_lacks (r ∷ rs) e h k = go (same r.from e) (one_lacks rs e h.1 k)
    where
      go : (b : Bool) → same gone (rewrite_one same rs e) ≡ false → same gone (cond b r.to (rewrite_one same rs e)) ≡ false
      go true i = h.0
      go false i = i

  pub rewrite_lacks : (w : List (Rule A)) (es : List A) → LacksRules same gone w → Lacks same gone es → Lacks same gone (rewrite same w es)
  rewrite_lacks w [] h k = tt
  rewrite_lacks w (e ∷ es) h k = (one_lacks w e h k.0, rewrite_lacks w es h k.1)
