-- What the theorems on runs need to know of a workload.
use Rattle.std.proofs.Common.{◌≡◌, ℕ, ◌+◌, ◌<◌, ◌≤◌, arith}
use Rattle.model.specs.Workloads.{Workload}

-- the order of the jobs tells them apart, and job l comes after l ticks
pub record Ordered (W : Workload) : Type 0 where
  pub numbers : (i a : ℕ) → i < W.tasks → a < W.tasks → W.number i ≡ W.number a → i ≡ a
  pub apart : (i l b : ℕ) → i < W.tasks → W.deadline i l ≡ W.deadline i b → l ≡ b
  pub far : (i l : ℕ) → i < W.tasks → l ≤ W.release i l
  pub window : (i l : ℕ) → i < W.tasks → W.release i l < W.deadline i l

-- the jobs repeat with a cycle of H ticks, of which the task i has `many i`, and no window crosses its end
pub record Cyclic (W : Workload) (H : ℕ) (many : ℕ → ℕ) : Type 0 where
  pub some : 0 < H
  pub first : (i l : ℕ) → i < W.tasks → l < many i → W.deadline i l ≤ H
  pub again_release : (i l : ℕ) → i < W.tasks → W.release i (many i + l) ≡ H + W.release i l
  pub again_deadline : (i l : ℕ) → i < W.tasks → W.deadline i (many i + l) ≡ H + W.deadline i l
  pub again_wcet : (i l : ℕ) → i < W.tasks → W.wcet i (many i + l) ≡ W.wcet i l

pub due_far : (W : Workload) → Ordered W → (i l : ℕ) → i < W.tasks → l < W.deadline i l
due_far W o i l t = omega (arith, o.far i l t, o.window i l t)
