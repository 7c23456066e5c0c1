-- The demand of a core, and intervals that are overloaded. Names no program.
use Rattle.std.specs.Prelude.{◌≡◌, ℕ, zero, suc, ◌+◌, ◌-◌, ◌<◌, ◌≤◌, Bool, cond, ◌&&◌, nat_le}
use Rattle.model.specs.Workloads.{Workload}

-- f 0 + f 1 + .. + f (n - 1)
abbrev pub sum_below : ℕ → (ℕ → ℕ) → ℕ
sum_below zero f = 0
sum_below (suc n) f = sum_below n f + f n

-- the job is released at or after t1, and its deadline is at or before t2
abbrev pub inside : Workload → ℕ → ℕ → ℕ → ℕ → Bool
inside w t1 t2 i l = nat_le t1 (w.release i l) && nat_le (w.deadline i l) t2

-- the worst-case execution times, added up, of the jobs l < n that are inside
abbrev pub demand_below : ℕ → Workload → ℕ → ℕ → ℕ
demand_below n w t1 t2 = sum_below w.tasks (λ i. sum_below n (λ l. cond (inside w t1 t2 i l) (w.wcet i l) 0))

-- of all jobs that are inside: none has a number from t2 on, since job l is due after tick l
abbrev pub demand : Workload → ℕ → ℕ → ℕ
demand w t1 t2 = demand_below t2 w t1 t2

abbrev pub Overloaded : Workload → ℕ → ℕ → Type 0
Overloaded w t1 t2 = (t1 < t2) × (t2 - t1 < demand w t1 t2)

-- ---- within the first cycle of H ticks, from a release to a deadline

abbrev pub IsRelease : Workload → ℕ → Type 0
IsRelease w t = (i : ℕ) × (l : ℕ) × (i < w.tasks) × (w.release i l ≡ t)

abbrev pub IsDeadline : Workload → ℕ → Type 0
IsDeadline w t = (i : ℕ) × (l : ℕ) × (i < w.tasks) × (w.deadline i l ≡ t)

pub record Overload (w : Workload) (H t1 t2 : ℕ) : Type 0 where
  pub released : IsRelease w t1
  pub due : IsDeadline w t2
  pub in_cycle : t2 ≤ H
  pub overloaded : Overloaded w t1 t2

abbrev pub NoOverload : Workload → ℕ → Type 0
NoOverload w H = (t1 t2 : ℕ) → Overload w H t1 t2 → ⊥
