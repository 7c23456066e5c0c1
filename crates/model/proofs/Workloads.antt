-- The workload of sound rows is ordered, and repeats with the cycle.
use Rattle.std.proofs.Common.{ℕ, List, length, refl, arith}
use native.Mathlib.Nat.{eq_of_mul-eq-mul_right, add-mod_left}
use Rattle.model.specs.Jobs.{Row}
use Rattle.model.specs.Workloads.{row_at, workload, Sound}
use Rattle.model.proofs.Regularity.{Ordered, Cyclic}

-- the jobs of a task in a cycle
abbrev pub many : List Row → ℕ → ℕ
many rows i = length (row_at rows i).offsets

module _ (H : ℕ) (rows : List Row) (s : Sound H rows) where
  pub ordered : Ordered (workload rows)
  ordered = record {
    numbers = λ i a t u same. s.numbers_differ i a t u same;
    apart = λ i l b t e. eq_of_mul-eq-mul_right (row_at rows i).period (omega (arith, s.each i t)) l b (omega arith);
    far = λ i l t. grind (arith, s.each i t);
    window = λ i l t. omega (arith, s.each i t, (s.each i t).in_time l);
  }

  pub cyclic : Cyclic (workload rows) H (many rows)
  cyclic = record {
    some = s.some_cycle;
    first = λ i l t h. grind (arith, s.each i t);
    again_release = λ i l t. grind (arith, s.each i t, add-mod_left (many rows i) l);
    again_deadline = λ i l t. omega (arith, s.each i t);
    again_wcet = λ i l t. refl;
  }
