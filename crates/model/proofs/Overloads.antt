-- An overloaded interval cannot be served in time, and a job that misses its deadline under earliest deadline first tells of one.
use Rattle.std.proofs.Common.{◌≡◌, ℕ, suc, ◌+◌, ◌<◌, ◌≤◌, arith}
use Rattle.std.proofs.lemmas.Bool.Decides.{nat_tests}
use Rattle.model.specs.Workloads.{Workload}
use Rattle.model.specs.Runs.{Run, served, InWindows, MeetsDeadlines}
use Rattle.model.specs.Edf.{WorstCaseRun}
use Rattle.model.specs.Demand.{inside, demand, Overloaded, IsRelease}
use Rattle.model.proofs.Regularity.{Ordered, due_far}
use Rattle.model.proofs.Steps.{slow}
use Rattle.model.proofs.Backlog.{Greedy, served_le, busy}
use Rattle.model.proofs.JobSums.{only, jobs_le, jobs_le_both, jobs_none, jobs_find}
use Rattle.model.proofs.Service.{served_grows, served_none, given, given_slow}
use Rattle.model.proofs.Urgent.{released_before, wanted, all_done, greedy}
use Rattle.model.proofs.Priorities.{due_by, urgent_due}

pub none_inside_from : (W : Workload) → Ordered W → (t u i : ℕ) → i < W.tasks → (l : ℕ) → u ≤ l → only (inside W t u) W.wcet i l ≡ 0
none_inside_from W ord t u i p l q = grind (arith, nat_tests, due_far W ord i l p)

-- ---- a run that meets every deadline gives the jobs inside an interval their demand there

module _ (W : Workload) (r : Run) (w : InWindows W r) (m : MeetsDeadlines W r) (t1 t2 : ℕ) where
  none_yet : given W.tasks t2 (inside W t1 t2) r t1 ≡ 0
  unfolding given
  none_yet = jobs_none W.tasks t2 _ (λ i l _ _. grind (arith, nat_tests, served_none r i l (W.release i l) (λ t h. omega (arith, w t i l h)) t1))

  all_then : demand W t1 t2 ≤ given W.tasks t2 (inside W t1 t2) r t2
  unfolding given
  all_then = jobs_le W.tasks t2 _ _ (λ i l a _.
      let by_then : W.deadline i l ≤ t2 → W.wcet i l ≤ served r i l t2 = λ due. omega (arith, m i l a, served_grows r i l (W.deadline i l) t2 due) in
      grind (arith, nat_tests))

  pub not_overloaded : Overloaded W t1 t2 → ⊥
  not_overloaded (lt, over) = omega (arith, none_yet, all_then, slow (given W.tasks t2 (inside W t1 t2) r) (given_slow W.tasks t2 (inside W t1 t2) r) t1 t2 (omega arith))

-- ---- earliest deadline first, where all that was released before t0 is done by then

before_or_inside : (W : Workload) (t d i l : ℕ) →
    only (released_before W (due_by W d) d) W.wcet i l + 0 ≤
    only (released_before W (due_by W d) t) W.wcet i l + only (inside W t d) W.wcet i l
before_or_inside W t d i l = grind (arith, nat_tests)

module _ (W : Workload) (ord : Ordered W) (r : Run) (o : WorstCaseRun W r) (t0 d : ℕ)
    (done : (i l : ℕ) → i < W.tasks → W.release i l < t0 → W.wcet i l ≤ served r i l t0) where
  -- the work of the jobs that are due by d: served, and released
  abbrev S : ℕ → ℕ
  S = given W.tasks d (due_by W d) r

  abbrev R : ℕ → ℕ
  R = wanted W d (due_by W d) W.wcet

  g : Greedy S R
  g = greedy W W.wcet r o d (due_by W d) (urgent_due W ord d)

  none_left : S t0 ≡ R t0
  unfolding given wanted
  none_left =
      let le : R t0 ≤ S t0 = jobs_le W.tasks d _ _ (λ i l t _. grind (arith, nat_tests, done i l t)) in
      omega (arith, served_le S R g t0)

  -- the work of one such job, where it is released before t
  abbrev work : ℕ → ℕ → ℕ → ℕ
  work t = only (released_before W (due_by W d) t) W.wcet

  rest_is_inside : (t1 : ℕ) → R d ≤ R t1 + demand W t1 d
  unfolding wanted
  rest_is_inside t1 = omega (arith, jobs_le_both W.tasks d (work d) (λ i l. 0) (work t1) (only (inside W t1 d) W.wcet) (λ i l _ _. before_or_inside W t1 d i l))

  a_release : (t1 : ℕ) → R t1 < R (suc t1) → IsRelease W t1
  unfolding wanted
  a_release t1 h =
      let (a, b, p, q, lt) = jobs_find W.tasks d (work t1) (work (suc t1)) h in (a, b, p, grind (arith, nat_tests))

  -- work that is due by d and left then began with a release, from which on the interval is overloaded
  overloaded : t0 ≤ d → S d < R d → (t1 : ℕ) × (t0 ≤ t1) × IsRelease W t1 × Overloaded W t1 d
  overloaded h left =
      let (t1, x, y, z, u) = busy S R g t0 d h none_left left in
      (t1, x, a_release t1 (omega (arith, slow S (given_slow W.tasks d (due_by W d) r) (suc t1) d y, served_le S R g (suc t1))), (y, omega (arith, rest_is_inside t1)))

  pub done_by_deadline : t0 ≤ d → ((t1 : ℕ) → t0 ≤ t1 → IsRelease W t1 → Overloaded W t1 d → ⊥) →
      (i l : ℕ) → i < W.tasks → W.deadline i l ≡ d → W.wcet i l ≤ served r i l d
  done_by_deadline h none i l t e = grind (arith, nat_tests, overloaded h, all_done W W.wcet r o d (due_by W d) d, due_far W ord i l t, ord.window i l t)
