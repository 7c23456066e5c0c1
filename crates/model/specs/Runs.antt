-- Runs of a core: who has each tick. Names no program.
use Rattle.std.specs.Prelude.{◌≡◌, ℕ, zero, suc, ◌+◌, ◌<◌, ◌≤◌, Bool, false, cond, ◌&&◌, ◌==◌}
use Rattle.model.specs.Workloads.{Workload}

-- what a tick is given to: nobody, or job l of the task at place i
pub data Slot : Type 0 where
  idle : Slot
  serves : ℕ → ℕ → Slot

-- a run gives each tick to at most one job
abbrev pub Run : Type 0
Run = ℕ → Slot

abbrev pub is_job : Slot → ℕ → ℕ → Bool
is_job idle i l = false
is_job (serves a b) i l = a == i && b == l

-- how many of the ticks before t the run gives the job
abbrev pub served : Run → ℕ → ℕ → ℕ → ℕ
served r i l zero = 0
served r i l (suc t) = served r i l t + cond (is_job (r t) i l) 1 0

-- ticks go to jobs of the core, and to each only from its release up to the last tick before its deadline
abbrev pub InWindows : Workload → Run → Type 0
InWindows w r = (t i l : ℕ) → r t ≡ serves i l → (i < w.tasks) × (w.release i l ≤ t) × (t < w.deadline i l)

-- each job gets the ticks that it needs at worst, before its deadline
abbrev pub MeetsDeadlines : Workload → Run → Type 0
MeetsDeadlines w r = (i l : ℕ) → i < w.tasks → w.wcet i l ≤ served r i l (w.deadline i l)

-- some run meets every deadline
pub record Feasible (w : Workload) : Type 0 where
  pub run : Run
  pub in_windows : InWindows w run
  pub meets : MeetsDeadlines w run
