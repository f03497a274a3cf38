-- What is known of each child before any of them is changed: whether dealing out its rows gains, and whether it must be hashed.
-- Renders `get_repartition_requirement_status` of 000; document 01, "hash necessity is aligned over keyed children from counts before splitting".
use Rattle.std.specs.Prelude.{Bool, true, false, cond, not, ◌&&◌, ◌||◌, List, [], ◌∷◌, map, eqb, ltb}
use Rattle.exchange.specs.declared.settings.Settings.{Settings}
use Rattle.exchange.specs.Settings.{is_set}
use Rattle.exchange.specs.Facts.{ChildFacts}
use Rattle.exchange.specs.Operators.{is_keyed}
use Rattle.exchange.specs.States.{Child, need_of, count_of}

-- `requirement` is the child's own need
pub record RepartitionRequirementStatus : Type 0 where
  pub child : Child
  pub roundrobin_beneficial : Bool
  pub roundrobin_beneficial_stats : Bool
  pub hash_necessary : Bool

-- by the row count: more than a batch where it is exact; an estimate counts only where it is to be used; absent: gain
abbrev pub rows_gain : Settings → ChildFacts → Bool
rows_gain s f =
    cond (eqb f.rowkind 0) (ltb s.batch f.rows)
    (cond (eqb f.rowkind 1) (not (is_set s.estimates) || ltb s.batch f.rows) true)

-- a keyed child has more than one partition, or would gain by more
abbrev pub asks_alignment : Settings → Child → Bool
asks_alignment s c = is_keyed (need_of c) && (ltb 1 (count_of c) || (is_set c.facts.gains && rows_gain s c.facts))

-- one of them asks
unfoldable pub needs_alignment : Settings → List Child → Bool
needs_alignment s [] = false
needs_alignment s (c ∷ cs) = asks_alignment s c || needs_alignment s cs

-- a keyed child is hashed for its own partitions, or since one of the keyed children asks
abbrev pub status_of : Settings → Bool → Child → RepartitionRequirementStatus
status_of s aligned c = record {
  child = c;
  roundrobin_beneficial = is_set c.facts.gains;
  roundrobin_beneficial_stats = rows_gain s c.facts;
  hash_necessary = is_keyed (need_of c) && (ltb 1 (count_of c) || aligned);
}

-- one for each child, in order
abbrev pub get_repartition_requirement_status : Settings → List Child → List RepartitionRequirementStatus
get_repartition_requirement_status s cs = let aligned = needs_alignment s cs in map (status_of s aligned) cs
