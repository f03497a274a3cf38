-- `needs::partitioning::preserve_satisfying_file_partitioning` meets its contract: what the test of the row answers holds for any alignment.
use native.Mathlib.Omega.{arith}
use Rattle.std.proofs.lemmas.Grind.{common_steps}
use Rattle.needs.proofs.partitioning.preserve_satisfying_file_partitioning.Goals as goal

pub returns-then-satisfied : goal.returns-then-satisfied
returns-then-satisfied c = λ number aligned. let h = c.partitioning_satisfied-satisfied.ensures number aligned in grind (arith, common_steps, h)

pub returns-else-satisfied : goal.returns-else-satisfied
returns-else-satisfied c = λ number aligned. let h = c.partitioning_satisfied-satisfied.ensures number aligned in grind (arith, common_steps, h)
