-- What an entry point returns and leaves of a D sheet, by what was read of it.
-- Assumes nothing.
use Prim.Native.Nat.{ℕ}
use mathlib.Core.Path.{◌≡◌, refl}
use mathlib.Core.List.{List}
use native.Mathlib.Omega.{arith}
use lib.ListN.{length}
use Rattle.sheet.specs.KeySheets.{Reading, sheet, turned}
use Rattle.sheet.specs.KeyAnswers.{refused, wrote}
use Rattle.exchange.specs.declared.settings.Settings.{Settings}
use Rattle.exchange.specs.Rows.{flatten}
use Rattle.exchange.specs.Ensure.{ensured}
use Rattle.plansheet.specs.declared.plan.Plan as P
use Rattle.refusals.specs.declared.Refused.{Refused}
use Rattle.std.specs.Prelude.{Result, Ok, Err}
use Rattle.plansheet.specs.PlanSheets.{PlanSheet, child_count, read_plan}
use Rattle.plansheet.specs.PlanTexts.{plan_text}
use Rattle.plansheet.specs.PlanRooms.{plan_by, PlanHeld}
use Rattle.plantheorems.proofs.PlanSizes.{read_sizes}
use Rattle.plananswer.specs.PlanTexts.{distributed}
use Rattle.plananswer.specs.PlanDecision.{plan_decision}
use Rattle.lochkave.specs.Entry.{plan_again}
use Rattle.lochkave.specs.PlanHeld.{Holds, four}
use Rattle.lochkave.proofs.Entries.{WasTurned}

pub plan_was_turned : (r : Reading PlanSheet) (p : Result P.Plan Refused) (f : Refused) → p ≡ plan_by r → p ≡ Err f → WasTurned r f
plan_was_turned (sheet x) p f e g = let z : ◌≡◌ {A = ℕ} 0 1 = cc in absurd (omega arith)
plan_was_turned (turned n l) p f e g = record { number = n; line = l; is = refl; same = cc }

-- the sheet that was read, with the numbers told of it
record WasHeld (r : Reading PlanSheet) (s : Settings) (k c n : ℕ) : Type 0 where
  x : PlanSheet
  is : r ≡ sheet x
  settings : s ≡ x.settings
  lines : k ≡ length (flatten x.plan)
  children : c ≡ child_count x.plan
  rows : n ≡ length x.facts.rows

plan_was_held : (r : Reading PlanSheet) (p : Result P.Plan Refused) (d : P.Plan) → p ≡ plan_by r → p ≡ Ok d → WasHeld r d.settings d.lines d.children d.rows
plan_was_held (turned n l) p d e f = let z : ◌≡◌ {A = ℕ} 0 1 = cc in absurd (omega arith)
plan_was_held (sheet y) p d e f = record { x = y; is = refl; settings = cc; lines = cc; children = cc; rows = cc }

module _ (bytes : List ℕ) where
  pub plan_turned : (n l : ℕ) → read_plan bytes ≡ turned n l → plan_decision bytes ≡ refused n l
  unfolding plan_decision
  plan_turned n l e = rw e

  pub plan_held : (x : PlanSheet) → read_plan bytes ≡ sheet x → plan_decision bytes ≡ distributed (ensured x.settings x.facts x.plan)
  unfolding plan_decision
  plan_held x e = rw e

  pub again_turned : (n l : ℕ) → read_plan bytes ≡ turned n l → plan_again (read_plan bytes) ≡ refused n l
  again_turned n l e = rw e

  pub again_held : (x : PlanSheet) → read_plan bytes ≡ sheet x → plan_again (read_plan bytes) ≡ wrote (plan_text x)
  again_held x e = rw e

-- ---- in the rooms

held_four :
    (x : PlanSheet) (tree : List (List ℕ)) (node : List ℕ) (facts xs : List (List ℕ)) (masks index : List ℕ) →
    PlanHeld x tree node facts xs masks index → PlanHeld x tree (four node) facts xs masks index
held_four x tree node facts xs masks index h = record {
  rest = h.rest;
  stands = h.stands;
  few = h.few;
  above = h.above;
  each = h.each;
  room = h.room;
  held = h.held;
  found = h.found;
  bits = h.bits;
}

-- the sheet that was read stands there; of the room for the B line the front counts
pub record InRooms (bytes : List ℕ) (p : P.Plan) (tree : List (List ℕ)) (node : List ℕ) (facts xs : List (List ℕ)) (masks index : List ℕ) : Type 0 where
  pub x : PlanSheet
  pub is : read_plan bytes ≡ sheet x
  pub holds : Holds x p.settings p.lines p.children p.rows tree (four node) facts xs masks index

pub in_rooms :
    (bytes : List ℕ) (q : Result P.Plan Refused) (p : P.Plan) → q ≡ plan_by (read_plan bytes) → q ≡ Ok p →
    (tree : List (List ℕ)) (node : List ℕ) (facts xs : List (List ℕ)) (masks index : List ℕ) →
    ((x : PlanSheet) → read_plan bytes ≡ sheet x → PlanHeld x tree node facts xs masks index) → InRooms bytes p tree node facts xs masks index
in_rooms bytes q p e g tree node facts xs masks index held =
    let w = plan_was_held (read_plan bytes) q p e g in
    record {
      x = w.x;
      is = w.is;
      holds = record {
        held = held_four w.x tree node facts xs masks index (held w.x w.is);
        sized = read_sizes bytes w.x w.is;
        settings = w.settings;
        lines = w.lines;
        children = w.children;
        rows = w.rows;
      };
    }
