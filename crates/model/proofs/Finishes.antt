-- When the jobs of sound rows finish, counted from their activations.
use Rattle.std.proofs.Common.{◌≡◌, ℕ, ◌+◌, ◌-◌, ◌%◌, ◌<◌, ◌≤◌, ◌↔◌, List, length, arith}
use Rattle.model.specs.Jobs.{Row, activation}
use Rattle.model.specs.Workloads.{row_at, workload, Sound}
use Rattle.model.specs.Runs.{Run, MeetsDeadlines}
use Rattle.model.specs.Edf.{Execution, ObeysEdf, WorstCaseRun}
use Rattle.model.specs.Finishes.{Ends, Finish, Told}
use Rattle.model.proofs.Cycles.{by_remainder}
use Rattle.model.proofs.Workloads.{many, ordered, cyclic}
use Rattle.model.proofs.Agreement.{served_same}
use Rattle.model.proofs.Repeats.{ends_again}
use Rattle.model.proofs.Endings.{ends_after_release, ends_alike}

module _ (H : ℕ) (rows : List Row) (s : Sound H rows) where
  pub wcet_some : (i l : ℕ) → i < length rows → 1 ≤ (workload rows).wcet i l
  wcet_some i l t = (s.each i t).figures.1

  -- a job that ends does so after its activation, so that it has a finish
  pub some_finish : (e : Execution) (r : Run) → ObeysEdf (workload rows) e r → (i l t : ℕ) → 1 ≤ e i l → Ends e r i l t →
      (f : ℕ) × Finish rows e r i l f × (activation (row_at rows i) l + f ≡ t)
  some_finish e r o i l t some x =
      let a = activation (row_at rows i) l in
      let back : a + (t - a) ≡ t = omega (arith, ends_after_release (workload rows) e r o i l some t x) in
      (t - a, rw back x, back)

  module _ (r : Run) (o : WorstCaseRun (workload rows) r) (i : ℕ) (task : i < length rows) where
    -- a job finishes as the same job of the cycle before does ..
    finishes_again : MeetsDeadlines (workload rows) r → (f l : ℕ) →
        Finish rows (workload rows).wcet r i l f ↔ Finish rows (workload rows).wcet r i (many rows i + l) f
    finishes_again m f l =
        let t = activation (row_at rows i) l + f in
        let e : H + t ≡ activation (row_at rows i) (many rows i + l) + f = omega (arith, s.each i task) in
        rw e at (ends_again (workload rows) H (many rows) (ordered H rows s) (cyclic H rows s) wcet_some r o m i l t task)

    -- .. and so as the same job of the first cycle does
    pub finishes_repeat : MeetsDeadlines (workload rows) r → (l f : ℕ) →
        Finish rows (workload rows).wcet r i l f ↔ Finish rows (workload rows).wcet r i (l % many rows i) f
    finishes_repeat m l f = by_remainder (λ k. Finish rows (workload rows).wcet r i k f) (many rows i) (finishes_again m f) l

  -- the finish in one run at the worst case is told
  pub told_by_one : (r : Run) → WorstCaseRun (workload rows) r → (i l f : ℕ) → Finish rows (workload rows).wcet r i l f → Told rows i l f
  told_by_one r o i l f x t p = ends_alike (workload rows).wcet r t i l _ (served_same (workload rows) (ordered H rows s) (workload rows).wcet r t o p i l) x
