-- Earliest deadline first, where each job takes its own number of ticks. Names no program.
use Rattle.std.specs.Prelude.{◌≡◌, ℕ, ◌<◌, ◌≤◌, ◌⊎◌}
use Rattle.model.specs.Workloads.{Workload}
use Rattle.model.specs.Runs.{Run, idle, serves, served}

-- an execution: how many ticks each job takes
abbrev pub Execution : Type 0
Execution = ℕ → ℕ → ℕ

-- each job of the core takes at least a tick and at most its worst case
abbrev pub WithinWcet : Workload → Execution → Type 0
WithinWcet w e = (i l : ℕ) → i < w.tasks → (1 ≤ e i l) × (e i l ≤ w.wcet i l)

-- the job is released at tick t and not done
pub record Pending (w : Workload) (e : Execution) (r : Run) (t i l : ℕ) : Type 0 where
  pub task : i < w.tasks
  pub released : w.release i l ≤ t
  pub unfinished : served r i l t < e i l

-- job (i, l) goes before job (a, b), or is it: by deadline, and at equal deadlines by task number
abbrev pub Before : Workload → ℕ → ℕ → ℕ → ℕ → Type 0
Before w i l a b =
    (w.deadline i l < w.deadline a b) ⊎ ((w.deadline i l ≡ w.deadline a b) × (w.number i ≤ w.number a))

-- each tick goes to the pending job that goes before all others, and to nobody only where none is pending
pub record ObeysEdf (w : Workload) (e : Execution) (r : Run) : Type 0 where
  pub serves_pending : (t i l : ℕ) → r t ≡ serves i l → Pending w e r t i l
  pub serves_first : (t i l : ℕ) → r t ≡ serves i l → (a b : ℕ) → Pending w e r t a b → Before w i l a b
  pub idles : (t : ℕ) → r t ≡ idle → (a b : ℕ) → Pending w e r t a b → ⊥

-- a run in which each job takes its worst case
abbrev pub WorstCaseRun : Workload → Run → Type 0
WorstCaseRun w r = ObeysEdf w w.wcet r
