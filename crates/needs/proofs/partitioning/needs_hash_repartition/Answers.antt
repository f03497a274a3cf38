-- `needs::partitioning::needs_hash_repartition` meets its contract: what the tests of the row answer holds for any alignment.
use native.Mathlib.Omega.{arith}
use Rattle.std.proofs.lemmas.Grind.{common_steps}
use Rattle.needs.proofs.partitioning.needs_hash_repartition.Goals as goal

pub returns-then-not-satisfied : goal.returns-then-not-satisfied
returns-then-not-satisfied c = λ number aligned. let h = c.partitioning_satisfied-satisfied.ensures number aligned in grind (arith, common_steps, h)

pub returns-then-c-s : goal.returns-then-c-s
returns-then-c-s c = λ number aligned. let h = c.partitioning_satisfied-satisfied.ensures number aligned in let k = c.preserve_satisfying_file_partitioning-preserved.ensures number aligned in grind (arith, common_steps, h, k)

pub returns-else-c-s : goal.returns-else-c-s
returns-else-c-s c = λ number aligned. let h = c.partitioning_satisfied-satisfied.ensures number aligned in let k = c.preserve_satisfying_file_partitioning-preserved.ensures number aligned in grind (arith, common_steps, h, k)
