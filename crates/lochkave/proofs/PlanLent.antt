-- What of a D sheet in its rooms is lent to the decision: its tree, F rows, X rows and masks are the sheet's (`lent_facts`), and they are as the decision asks.
-- Assumes nothing.
use Prim.Native.Nat.{ℕ, zero, suc, ◌≤◌, ◌<◌}
use mathlib.Core.Path.{◌≡◌, sym, ap, subst, ◌∙◌}
use mathlib.Core.List.{List, [], ◌∷◌, ◌++◌, map, append-nil}
use native.Mathlib.Omega.{arith}
use lib.ListN.{length, take, get_or, length-append}
use lib.Seq.{take_at, length-take-le}
use Rattle.std.proofs.lemmas.List.{get_or-take}
use Rattle.sheet.specs.Sizes.{Each}
use Rattle.exchange.specs.declared.settings.Settings.{Settings}
use Rattle.exchange.specs.Facts.{ChildFacts, Facts}
use Rattle.exchange.specs.FactRows.{child_facts, fact_row}
use Rattle.exchange.specs.Found.{index_of}
use Rattle.exchange.specs.Rows.{flatten}
use Rattle.exchange.specs.declared.facts.PlanFacts.{PlanFacts}
use Rattle.ensure.specs.Outcomes.{facts_by, facts_of}
use Rattle.ensure.specs.Lent.{Sheet}
use Rattle.plansheet.specs.PlanLines.{two_to}
use Rattle.plansheet.specs.PlanSheets.{PlanSheet}
use Rattle.plansheet.specs.PlanTexts.{plan_text}
use Rattle.plansheet.proofs.FineLines.{two_small}
use Rattle.plananswer.specs.SheetTexts.{sheet_rows_text}
use Rattle.plananswer.proofs.SheetRows.{rows_sheet}
use Rattle.plantheorems.proofs.TreeLaw.{worked_same}
use Rattle.lochkave.specs.PlanHeld.{Holds, FactsIn}

few_entries : (fs : List (List ℕ)) → Each (λ (f : ChildFacts). f.entries ≤ 8) (map child_facts fs) → (i : ℕ) → i < length fs → (child_facts (get_or fs i [])).entries ≤ 8
few_entries [] h i l = absurd (omega arith)
few_entries (f ∷ fs) h zero l = h.0
few_entries (f ∷ fs) h (suc i) l = few_entries fs h.1 i (omega arith)

module _ {x : PlanSheet} {s : Settings} {k c n : ℕ} {rows : List (List ℕ)} {node : List ℕ} {facts xs : List (List ℕ)} {masks index : List ℕ}
    (h : Holds x s k c n rows node facts xs masks index) where
  pub lent_few : c ≤ 8
  lent_few = omega (arith, h.children, h.held.few)

  pub lent_sets : 256 ≤ length masks → two_to c ≤ length masks
  lent_sets m = omega (arith, two_small c lent_few)

  front : take k rows ≡ flatten x.plan
  front = ap (take k) h.held.stands ∙ take_at (flatten x.plan) h.held.rest k (sym h.lines)

  pub lent_within : k ≤ length rows
  lent_within = omega (arith, h.lines, ap length h.held.stands, length-append (flatten x.plan) h.held.rest)

  pub lent_facts : facts_by node (take c facts) (take n xs) (take (two_to c) masks) ≡ x.facts
  lent_facts =
      let f : map child_facts (take c facts) ≡ x.facts.children = rw h.children h.held.each in
      let r : map fact_row (take n xs) ≡ x.facts.rows = rw h.rows h.held.held in
      let m : take (two_to c) masks ≡ x.facts.masks = rw h.children h.held.bits in
      let b = h.held.above in
      λ j. record { node = b j; children = f j; rows = r j; masks = m j }

  pub lent_in : 8 ≤ length facts → 256 ≤ length masks → FactsIn c n facts xs masks index
  lent_in l m =
      let entries = few_entries (take c facts) (subst (Each (λ (f : ChildFacts). f.entries ≤ 8)) (sym (ap (λ (g : Facts). g.children) lent_facts)) h.sized.entries) in
      let long : length (take c facts) ≡ c = length-take-le c facts (omega (arith, lent_few)) in
      record {
        few = lent_few;
        many = omega (arith, lent_few);
        rowed = omega (arith, h.rows, h.held.room);
        masked = lent_sets m;
        ordered = λ k l. subst (λ (f : List ℕ). (child_facts f).entries ≤ 8) (get_or-take c facts k [] l) (entries k (omega (arith, long)));
        indexed = h.held.found ∙ ap (λ (i : ℕ). index_of (take i xs)) (sym h.rows);
      }

  -- what a sheet says beside its tree, from the rooms
  pub lent_same : (f : PlanFacts) → f.node ≡ node → f.children.now ≡ take c facts → f.xs.rows.now ≡ take n xs → f.masks.now ≡ take (two_to c) masks
      → facts_of f ≡ x.facts
  lent_same f a b r m = rw (a, b, r, m) lent_facts

  pub lent_rows : length (take n xs) ≡ n
  lent_rows = length-take-le n xs (omega (arith, h.rows, h.held.room))

  pub lent_count : 8 ≤ length facts → length (take c facts) ≡ c
  lent_count l = length-take-le c facts (omega (arith, lent_few))

  pub lent_sheet : 8 ≤ length facts → Sheet (take k rows) (length (take c facts))
  lent_sheet l =
      record {
        tree = x.plan;
        rest = [];
        stands = front ∙ sym (append-nil (flatten x.plan));
        counted = worked_same x.plan ∙ sym h.children ∙ sym (lent_count l);
      }

  -- the tree as the decision asks for it
  pub lent_stands : take k rows ≡ flatten x.plan ++ []
  lent_stands = front ∙ sym (append-nil (flatten x.plan))

  -- the sheet's text from the rooms
  pub lent_text : sheet_rows_text s (take k rows) node (take c facts) (take n xs) (take (two_to c) masks) ≡ plan_text x
  lent_text =
      let p = h.settings in
      let f = lent_facts in
      ap (λ (t : List (List ℕ)). sheet_rows_text s t node (take c facts) (take n xs) (take (two_to c) masks)) front
      ∙ rows_sheet s x.plan node (take c facts) (take n xs) (take (two_to c) masks)
      ∙ ap plan_text (λ j. record { settings = p j; plan = x.plan; facts = f j })

  pub lent_written : (f : PlanFacts) → f.node ≡ node → f.children.now ≡ take c facts → f.xs.rows.now ≡ take n xs → f.masks.now ≡ take (two_to c) masks
      → sheet_rows_text s (take k rows) f.node f.children.now f.xs.rows.now f.masks.now ≡ plan_text x
  lent_written f a b r m = rw (a, b, r, m) lent_text
