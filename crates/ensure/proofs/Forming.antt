-- The forms of a worked node's children are those of its states (`told_worked`), and by what they came to the whole ends (`ends_unenforced`, `ends_finished`).
-- Assumes nothing.
use Prim.Native.Nat.{ℕ, ◌+◌, ◌<◌}
use mathlib.Core.Path.{◌≡◌, refl, sym, ap, ◌∙◌}
use mathlib.Core.Option.{Option, some, none as nothing}
use mathlib.Core.List.{List, [], ◌++◌, map}
use lib.ListN.{length, drop}
use Rattle.std.specs.Prelude.{⊤, Result, Ok, Err}
use Rattle.exchange.specs.declared.settings.Settings.{Settings}
use Rattle.exchange.specs.declared.partitioning.Worked.{Worked}
use Rattle.exchange.specs.declared.relationship.Unenforced.{Unenforced}
use Rattle.exchange.specs.declared.relationship.Unenforced.TheVariants.{Stuck, Missing}
use Rattle.exchange.specs.Trees.{node, trees, root, Operator, Plan, Plans}
use Rattle.exchange.specs.Facts.{Facts, NodeFacts}
use Rattle.exchange.specs.FactRows.{node_facts, fact_row, asked_by}
use Rattle.exchange.specs.States.{Child, ChildState, children_from}
use Rattle.exchange.specs.Status.{get_repartition_requirement_status}
use Rattle.exchange.specs.Step.{ensure_children}
use Rattle.exchange.specs.Standings.{SameNode, SameChildren, form_numbers}
use Rattle.exchange.specs.Relationships.{Enforced as Outcome, row_missing, stuck, enforced}
use Rattle.exchange.specs.Rows.{node_at, children_at, flatten, flattens}
use Rattle.exchange.specs.Runs.{StandAll}
use Rattle.exchange.specs.Skeleton.{below}
use Rattle.exchange.specs.declared.status.Asked.{Asked}
use Rattle.exchange.specs.Places.{needs_of, counts_of}
use Rattle.exchange.specs.Turns.{lacking, unable, given, answer, told}
use Rattle.exchange.specs.Ensure.{answered, relate, child_states, finished, ensured_by, ensure_worked}
use Rattle.exchange.proofs.Marking.{root_read, below_stands, children_read}
use Rattle.exchange.proofs.PlacesRead.{same_children}
use Rattle.ensure.specs.Outcomes.{Ensured, facts_by, Ends}
use Rattle.ensure.specs.Lent.{Came, Stood, Worked as WorkedAt}
use Rattle.ensure.proofs.Finishing.{root_in}

module _ (src : List (List ℕ)) (at count : ℕ) (p : Stood src at count) where
  pub stood_in : at < length src
  stood_in = root_in src at p.tree p.rest p.stands

  pub stood_below : StandAll src (at + 1) count
  stood_below = go p.tree p.stands p.counted
    where
      go : (t : Plan) → drop at src ≡ flatten t ++ p.rest → trees (below t) ≡ count → StandAll src (at + 1) count
      go (node o ts) h c = record { below = ts; rest = p.rest; counted = c; stands = below_stands src at o ts p.rest h }

  -- any tree that stands there has so many children
  pub stood_counted : (t : Plan) (rest : List (List ℕ)) → drop at src ≡ flatten t ++ rest → trees (below t) ≡ count
  stood_counted t rest h = children t rest h ∙ sym (children p.tree p.rest p.stands) ∙ p.counted
    where
      children : (u : Plan) (more : List (List ℕ)) → drop at src ≡ flatten u ++ more → trees (below u) ≡ children_at src at
      children (node o ts) more e = children_read src at o ts more e

-- the rounds read rows and masks alone
relate_same : (s : Settings) (f g : Facts) (x : Option (List ChildState)) → f.rows ≡ g.rows → f.masks ≡ g.masks → relate s f x ≡ relate s g x
relate_same s f g nothing r m = refl
relate_same s f g (some cs) r m = rw (r, m)

module _ (s : Settings) (b : List ℕ) (facts rows : List (List ℕ)) (masks : List ℕ) (src : List (List ℕ)) (at : ℕ) where
  abbrev f : Facts
  f = facts_by b facts rows masks

  module _ (w : Worked) (kind : w.kind ≡ (node_at src at).kind) (is : w.facts ≡ b) (p : Stood src at (length facts)) (asks : List Asked)
      (asked : (ts : Plans) (rest : List (List ℕ)) → trees ts ≡ length facts → drop (at + 1) src ≡ flattens ts ++ rest → asks ≡ asked_by (needs_of ts) (counts_of ts) facts) where
    pub told_worked : (r : Result ⊤ Unenforced) (forms : List ℕ)
        → ((o : Operator) (c : NodeFacts) (ks : List Child) → SameNode w o c → SameChildren 1 asks ks
        → answer r forms ≡ told (relate s (record { node = c; children = []; rows = map fact_row rows; masks = masks }) (ensure_children s o c (map fact_row rows) (get_repartition_requirement_status s ks))))
        → (t : Plan) (rest : List (List ℕ)) → drop at src ≡ flatten t ++ rest → answer r forms ≡ told (child_states s f t)
    unfolding child_states
    told_worked r forms says (node o ts) rest h =
        let many : trees ts ≡ length facts = stood_counted src at (length facts) p (node o ts) rest h in
        let same : SameChildren 1 asks (children_from 1 ts f.children) =
        rw (asked ts rest many (below_stands src at o ts rest h)) (same_children ts facts (sym many)) in
        let this : SameNode w o f.node =
        record { kind = sym (kind ∙ ap (λ (x : Operator). x.kind) (root_read src at (node o ts) rest h)); facts = ap node_facts (sym is) } in
        says o f.node _ this same
        ∙ ap told
        (relate_same s (record { node = f.node; children = []; rows = map fact_row rows; masks = masks }) f
        (ensure_children s o f.node (map fact_row rows) (get_repartition_requirement_status s (children_from 1 ts f.children))) refl refl)

  -- ---- by what the states came to

  by_missing : (o : Operator) (x : Outcome) (d : List (List ℕ)) → lacking ≡ told x → Ends (ensured_by s f o x) (Err Missing) d d
  by_missing o row_missing d e = (refl, refl)
  by_missing o stuck d e = absurd (cc)
  by_missing o (enforced cs) d e = absurd (cc)

  by_stuck : (o : Operator) (x : Outcome) (d : List (List ℕ)) → unable ≡ told x → Ends (ensured_by s f o x) (Err Stuck) d d
  by_stuck o row_missing d e = absurd (cc)
  by_stuck o stuck d e = (refl, refl)
  by_stuck o (enforced cs) d e = absurd (cc)

  -- the states that have the forms
  record Gave (x : Outcome) (forms : List ℕ) : Type 0 where
    pub states : List ChildState
    pub came : x ≡ enforced states
    pub numbers : forms ≡ form_numbers states

  gave : (x : Outcome) (forms : List ℕ) → given forms ≡ told x → Gave x forms
  gave row_missing forms e = absurd (cc)
  gave stuck forms e = absurd (cc)
  gave (enforced cs) forms e = record { states = cs; came = refl; numbers = cc }

  worked_finished : (t : Plan) (cs : List ChildState) → child_states s f t ≡ enforced cs → ensure_worked s f t ≡ answered (finished s f (root t) cs)
  worked_finished (node o ts) cs e = ap (ensured_by s f o) e

  module _ (r : Result ⊤ Unenforced) (forms : List ℕ) (says : (t : Plan) (rest : List (List ℕ)) → drop at src ≡ flatten t ++ rest → answer r forms ≡ told (child_states s f t)) where
    pub ends_unenforced : (e : Unenforced) → r ≡ Err e → (d : List (List ℕ)) (t : Plan) (rest : List (List ℕ)) → drop at src ≡ flatten t ++ rest → Ends (ensure_worked s f t) (Err e) d d
    ends_unenforced Missing e d (node o ts) rest h = by_missing o (child_states s f (node o ts)) d (ap (λ (x : Result ⊤ Unenforced). answer x forms) (sym e) ∙ says (node o ts) rest h)
    ends_unenforced Stuck e d (node o ts) rest h = by_stuck o (child_states s f (node o ts)) d (ap (λ (x : Result ⊤ Unenforced). answer x forms) (sym e) ∙ says (node o ts) rest h)

    module _ (u : ⊤) (e : r ≡ Ok u) where
      gave_at : (t : Plan) (rest : List (List ℕ)) → drop at src ≡ flatten t ++ rest → Gave (child_states s f t) forms
      gave_at t rest h = gave (child_states s f t) forms (ap (λ (x : Result ⊤ Unenforced). answer x forms) (sym e) ∙ says t rest h)

      pub came_worked : (room : ℕ) → WorkedAt s f src at (length facts) room → Came s f src at (length facts) forms room
      came_worked room p =
          let g = gave_at p.tree p.rest p.stands in
          record {
            tree = p.tree;
            rest = p.rest;
            states = g.states;
            stands = p.stands;
            counted = p.counted;
            came = g.came;
            numbers = g.numbers;
            fits = p.fits (finished s f (root p.tree) g.states) (worked_finished p.tree g.states g.came);
          }

      pub ends_finished : (x : Ensured) (d d₁ : List (List ℕ))
          → ((t : Plan) (rest : List (List ℕ)) (cs : List ChildState) → drop at src ≡ flatten t ++ rest → child_states s f t ≡ enforced cs → forms ≡ form_numbers cs
          → Ends (answered (finished s f (root t) cs)) x d d₁)
          → (t : Plan) (rest : List (List ℕ)) → drop at src ≡ flatten t ++ rest → Ends (ensure_worked s f t) x d d₁
      ends_finished x d d₁ wrote t rest h =
          let g = gave_at t rest h in
          rw (worked_finished t g.states g.came) (wrote t rest g.states h g.came g.numbers)
