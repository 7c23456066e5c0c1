-- The scheduling theorems: what demand says of runs, and what the worst case says of every execution. Names no program.
use Rattle.std.specs.Prelude.{◌≡◌, ℕ, ◌+◌, ◌%◌, ◌<◌, ◌≤◌, ◌↔◌, List, [], ◌∷◌, length}
use Rattle.model.specs.Jobs.{Row, φ}
use Rattle.model.specs.Workloads.{Workload, row_at, workload, Sound}
use Rattle.model.specs.Runs.{Run, served, InWindows, MeetsDeadlines, Feasible}
use Rattle.model.specs.Edf.{Execution, WithinWcet, ObeysEdf, WorstCaseRun}
use Rattle.model.specs.Demand.{demand_below, demand, Overloaded, NoOverload}
use Rattle.model.specs.Finishes.{Ends, AfterLast, Finish, Told}

-- ---- what demand says of runs

-- the demand leaves out no job, however far one counts
abbrev pub DemandCountsEveryJob : Type 0
DemandCountsEveryJob = (H : ℕ) (rows : List Row) → Sound H rows →
    (n t1 t2 : ℕ) → demand_below n (workload rows) t1 t2 ≤ demand (workload rows) t1 t2

-- an overloaded interval, anywhere in endless time: no run meets every deadline
abbrev pub OverloadIsInfeasible : Type 0
OverloadIsInfeasible = (w : Workload) (t1 t2 : ℕ) → Overloaded w t1 t2 → Feasible w → ⊥

-- no overload in the first cycle: earliest deadline first meets every deadline in all cycles, and there is such a run
pub record EdfMeets (w : Workload) : Type 0 where
  pub some_run : (r : Run) × WorstCaseRun w r
  pub in_windows : (r : Run) → WorstCaseRun w r → InWindows w r
  pub meets : (r : Run) → WorstCaseRun w r → MeetsDeadlines w r

abbrev pub NoOverloadIsMet : Type 0
NoOverloadIsMet = (H : ℕ) (rows : List Row) → Sound H rows → NoOverload (workload rows) H → EdfMeets (workload rows)

-- so some run meets every deadline exactly where no such interval is overloaded
abbrev pub FeasibleWithoutOverload : Type 0
FeasibleWithoutOverload = (H : ℕ) (rows : List Row) → Sound H rows → Feasible (workload rows) ↔ NoOverload (workload rows) H

-- ---- every execution

-- however long each job takes, there is a run by earliest deadline first
abbrev pub EveryExecutionRuns : Type 0
EveryExecutionRuns = (H : ℕ) (rows : List Row) → Sound H rows → (e : Execution) → (r : Run) × ObeysEdf (workload rows) e r

-- a job that ends at t in some run at the worst case ends by t in every run in which no job takes longer
abbrev pub EndsNoLater : Type 0
EndsNoLater = (H : ℕ) (rows : List Row) → Sound H rows →
    (e : Execution) → WithinWcet (workload rows) e →
    (r s : Run) → WorstCaseRun (workload rows) r → ObeysEdf (workload rows) e s →
    (i l t : ℕ) → i < length rows → Ends (workload rows).wcet r i l t → (u : ℕ) × Ends e s i l u × (u ≤ t)

-- so with no overload every job ends by its deadline
abbrev pub EndsByDeadline : Type 0
EndsByDeadline = (H : ℕ) (rows : List Row) → Sound H rows → NoOverload (workload rows) H →
    (e : Execution) → WithinWcet (workload rows) e → (r : Run) → ObeysEdf (workload rows) e r →
    (i l : ℕ) → i < length rows → (t : ℕ) × Ends e r i l t × (t ≤ (workload rows).deadline i l)

-- ---- finishes

-- a job ends at the tick after its last one, once it has all its ticks
abbrev pub EndsAfterLast : Type 0
EndsAfterLast = (w : Workload) (e : Execution) → WithinWcet w e → (r : Run) → ObeysEdf w e r →
    (i l t : ℕ) → i < w.tasks → Ends e r i l t ↔ (AfterLast r i l t × (e i l ≤ served r i l t))

-- any two runs with the same execution are the same in every tick
abbrev pub OneRun : Type 0
OneRun = (H : ℕ) (rows : List Row) → Sound H rows →
    (e : Execution) (r s : Run) → ObeysEdf (workload rows) e r → ObeysEdf (workload rows) e s → (t : ℕ) → r t ≡ s t

-- so any two runs at the worst case end every job at the same tick
abbrev pub OneEnd : Type 0
OneEnd = (H : ℕ) (rows : List Row) → Sound H rows →
    (r s : Run) → WorstCaseRun (workload rows) r → WorstCaseRun (workload rows) s →
    (i l t u : ℕ) → Ends (workload rows).wcet r i l t → Ends (workload rows).wcet s i l u → t ≡ u

-- job l finishes as the same job of the first cycle does
abbrev pub FinishesRepeat : Type 0
FinishesRepeat = (H : ℕ) (rows : List Row) → Sound H rows → NoOverload (workload rows) H →
    (r : Run) → WorstCaseRun (workload rows) r → (i l f : ℕ) → i < length rows →
    Finish rows (workload rows).wcet r i l f ↔ Finish rows (workload rows).wcet r i (l % length (row_at rows i).offsets) f

-- f is told for job l: as the finish of that job of the first cycle, which no execution passes in any cycle
pub record ToldFinish (rows : List Row) (i l f : ℕ) : Type 0 where
  pub told : Told rows i (l % length (row_at rows i).offsets) f
  pub only : (g : ℕ) → Told rows i (l % length (row_at rows i).offsets) g → g ≡ f
  pub in_time : f ≤ (row_at rows i).deadline
  pub bounds : (e : Execution) → WithinWcet (workload rows) e → (r : Run) → ObeysEdf (workload rows) e r →
      (g : ℕ) × Finish rows e r i l g × (g ≤ f)

-- with no overload each of the endless jobs has one told finish
abbrev pub OneToldFinish : Type 0
OneToldFinish = (H : ℕ) (rows : List Row) → Sound H rows → NoOverload (workload rows) H →
    (i l : ℕ) → i < length rows → (f : ℕ) × ToldFinish rows i l f

-- a task that has its core to itself: each job ends C ticks after its release
abbrev pub AloneFinish : Type 0
AloneFinish = (H : ℕ) (r : Row) → Sound H (r ∷ []) → (l : ℕ) → Told (r ∷ []) 0 l (φ r l + r.memory + r.compute)
