-- The scheduling theorems.
use Rattle.std.proofs.Common.{ℕ, ◌%◌, ◌<◌, ◌≤◌, List, length, arith}
use Rattle.model.specs.Jobs.{Row}
use Rattle.model.specs.Workloads.{workload, Sound}
use Rattle.model.specs.Runs.{Run, served}
use Rattle.model.specs.Edf.{Execution, WithinWcet, ObeysEdf, WorstCaseRun}
use Rattle.model.specs.Finishes.{Ends, Finish}
use Rattle.model.specs.Scheduling.{DemandCountsEveryJob, OverloadIsInfeasible, NoOverloadIsMet, FeasibleWithoutOverload, EveryExecutionRuns, EndsNoLater, EndsByDeadline, EndsAfterLast, OneRun, OneEnd, FinishesRepeat, OneToldFinish}
use Rattle.model.proofs.Sums.{sum_le, sum_trim}
use Rattle.model.proofs.Workloads.{many, ordered, cyclic}
use Rattle.model.proofs.Overloads.{none_inside_from, not_overloaded}
use Rattle.model.proofs.FirstCycle.{meets, in_windows}
use Rattle.model.proofs.Existence.{edf, edf_obeys}
use Rattle.model.proofs.Sustained.{done_no_later}
use Rattle.model.proofs.Agreement.{served_same}
use Rattle.model.proofs.Agreement as agreement
use Rattle.model.proofs.Endings.{ends_by, ends_once, ends_alike}
use Rattle.model.proofs.Endings as endings
use Rattle.model.proofs.Finishes.{wcet_some, some_finish, told_by_one}
use Rattle.model.proofs.Finishes as finishes

-- ---- what demand says of runs

pub demand_counts_every_job : DemandCountsEveryJob
demand_counts_every_job H rows s n t1 t2 = sum_le (length rows) _ _ (λ i task. sum_trim t2 n _ (none_inside_from (workload rows) (ordered H rows s) t1 t2 i task))

pub overload_is_infeasible : OverloadIsInfeasible
overload_is_infeasible w t1 t2 over f = not_overloaded w f.run f.in_windows f.meets t1 t2 over

pub no_overload_is_met : NoOverloadIsMet
no_overload_is_met H rows s free =
    let W = workload rows in
    let ord = ordered H rows s in
    let y = cyclic H rows s in
    record {
      some_run = (edf W W.wcet, edf_obeys W W.wcet ord);
      in_windows = in_windows W H (many rows) ord y free;
      meets = meets W H (many rows) ord y free;
    }

pub feasible_without_overload : FeasibleWithoutOverload
feasible_without_overload H rows s = (
  (λ f t1 t2 over. overload_is_infeasible (workload rows) t1 t2 over.overloaded f),
  (λ free.
      let met = no_overload_is_met H rows s free in
      let (r, o) = met.some_run in
      record { run = r; in_windows = met.in_windows r o; meets = met.meets r o }),
)

-- ---- every execution

pub every_execution_runs : EveryExecutionRuns
every_execution_runs H rows s e = (edf (workload rows) e, edf_obeys (workload rows) e (ordered H rows s))

module _ (H : ℕ) (rows : List Row) (s : Sound H rows) (e : Execution) (within : WithinWcet (workload rows) e) (r t : Run)
    (o : WorstCaseRun (workload rows) r) (p : ObeysEdf (workload rows) e t) where
  -- a job that is done by u at the worst case ends by u
  ends_by_then : (i l u : ℕ) → i < length rows → (workload rows).wcet i l ≤ served r i l u → (v : ℕ) × Ends e t i l v × (v ≤ u)
  ends_by_then i l u task done =
      ends_by e t i l u (done_no_later (workload rows) (ordered H rows s) (workload rows).wcet e (λ a b q. omega (arith, within a b q)) r t o p i l task u done)

pub ends_no_later : EndsNoLater
ends_no_later H rows s e within r t o p i l u task x = ends_by_then H rows s e within r t o p i l u task x.done

pub ends_by_deadline : EndsByDeadline
ends_by_deadline H rows s free e within r o i l task =
    let met = no_overload_is_met H rows s free in
    let (worst, p) = met.some_run in
    ends_by_then H rows s e within worst r p o i l ((workload rows).deadline i l) task (met.meets worst p i l task)

-- ---- finishes

pub ends_after_last : EndsAfterLast
ends_after_last w e within r o i l t task = endings.ends_after_last w e r o i l (within i l task).0 t

pub one_run : OneRun
one_run H rows s = agreement.one_run (workload rows) (ordered H rows s)

pub one_end : OneEnd
one_end H rows s r t o p i l u v x y =
    let same = served_same (workload rows) (ordered H rows s) (workload rows).wcet r t o p i l in
    ends_once (workload rows).wcet t i l u v (ends_alike (workload rows).wcet r t i l u same x) y

pub finishes_repeat : FinishesRepeat
finishes_repeat H rows s free r o i l f task = finishes.finishes_repeat H rows s r o i task ((no_overload_is_met H rows s free).meets r o) l f

pub one_told_finish : OneToldFinish
one_told_finish H rows s free i l task =
    let W = workload rows in
    let met = no_overload_is_met H rows s free in
    let (r, o) = met.some_run in
    let (t, ends, le) = ends_by W.wcet r i l (W.deadline i l) (met.meets r o i l task) in
    let (f, finish, at) = some_finish H rows s W.wcet r o i l t (wcet_some H rows s i l task) ends in
    let same : Finish rows W.wcet r i (l % many rows i) f = (finishes_repeat H rows s free r o i l f task).0 finish in (
      f,
      record {
        told = told_by_one H rows s r o i (l % many rows i) f same;
        only = λ g told. omega (arith, ends_once W.wcet r i (l % many rows i) _ _ (told r o) same);
        in_time = omega arith;
        bounds = λ e within q p.
            let (u, sooner, no_later) = ends_no_later H rows s e within r q o p i l _ task finish in
            let (g, x, back) = some_finish H rows s e q p i l u (within i l task).0 sooner in
            (g, x, omega arith);
      },
    )
