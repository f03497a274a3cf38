-- An answer that loses an operator is not guaranteed: on marked sheet 9, a merge over nothing, in the place of the child.
use Prim.Native.Nat.{ℕ}
use mathlib.Core.Path.{◌≡◌, refl, ap}
use mathlib.Core.Option.{none as absent}
use mathlib.Core.List.{List}
use native.Mathlib.Omega.{arith}
use Rattle.text.specs.Write.{digits, decimal, field_text, fields_text, line_text}
use Rattle.text.proofs.Examples.{bytes}
use Rattle.exchange.specs.Trees.{Forest, trees}
use Rattle.exchange.specs.Operators.{above}
use Rattle.exchange.specs.Children.{remove_dist_changing_operators}
use Rattle.exchange.specs.Skeleton.{Core, skeleton}
use Rattle.exchange.specs.Ensure.{Answer}
use Rattle.exchange.proofs.Cases.{told, leaf}
use Rattle.plananswer.specs.PlanTexts.{plan_lines, plan_answer_text}
use Rattle.guarantee.specs.Guarantee.{PlanKept, Guaranteed}
use Rattle.guarantee.specs.BadPlanners.{answer_with}
use Rattle.guarantee.proofs.PlanSpeaks.{plan_says}
use Rattle.guarantee.proofs.BadPlanPlanners.{merge_sheet, asked, merge_read}

abbrev pub without : List ℕ
without = bytes "d,1,0,0,0\nt,1,0,1,0,,0,0,0,1\nt,0,2,1,0,,0,0,1,0\n"

abbrev given : Answer
given = answer_with (above (told 1 0 1 0 absent 0 0 0 0) (leaf (told 0 2 1 0 absent 0 0 1 0)))

without_text : without ≡ plan_answer_text given
unfolding digits decimal field_text fields_text line_text plan_lines plan_answer_text
without_text = refl

-- one operator under the worked node on the sheet, none in the answer
lost : PlanKept asked given → ⊥
unfolding skeleton remove_dist_changing_operators
lost k = omega (arith, ap (λ (ts : Forest Core). trees ts) k.operators.under)

pub without_fails : Guaranteed merge_sheet without → ⊥
without_fails g = lost (plan_says merge_sheet without asked given merge_read without_text (refl, ((refl, tt), tt)) g)
