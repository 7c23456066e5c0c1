-- A task that has its core to itself computes from each release on.
use Rattle.std.proofs.Common.{◌≡◌, ℕ, zero, suc, ◌+◌, ◌-◌, ◌<◌, ◌≤◌, [], ◌∷◌, inl, inr, add-zero, add-suc, arith}
use Rattle.model.specs.Jobs.{Row, φ, activation, release}
use Rattle.model.specs.Workloads.{Workload, workload, SoundRow}
use Rattle.model.specs.Runs.{serves, Run, served}
use Rattle.model.specs.Edf.{Pending, WorstCaseRun}
use Rattle.model.specs.Finishes.{Ends}
use Rattle.model.specs.Scheduling.{AloneFinish}
use Rattle.model.proofs.Service.{cases_slot, cases_tick, served_grows}
use Rattle.model.proofs.Urgent.{served_early}

-- a job with its core to itself is over before the next one is activated
over_before_next : (H : ℕ) (r : Row) → SoundRow H r → (l b : ℕ) → l < b → release r l + r.compute ≤ activation r b
over_before_next H r s l b lt = grind (arith, s.in_time l)

module _ (H : ℕ) (r : Row) (s : SoundRow H r) (run : Run) (o : WorstCaseRun (workload (r ∷ [])) run) where
  abbrev W : Workload
  W = workload (r ∷ [])

  module _ (l : ℕ) (earlier : (b : ℕ) → b < l → r.compute ≤ served run 0 b (release r b + r.compute)) where
    -- while job l is not done, no other job is pending
    only_pending : (d b : ℕ) → d < r.compute → Pending W W.wcet run (release r l + d) 0 b → b ≡ l
    only_pending d b lt p = grind (arith, earlier b, over_before_next H r s b l, over_before_next H r s l b, served_grows run 0 b (release r b + r.compute) (release r l + d))

    serves_it : (d : ℕ) → d < r.compute → served run 0 l (release r l + d) ≡ d → run (release r l + d) ≡ serves 0 l
    serves_it d lt had = elim (cases_slot (run (release r l + d))) [
      | inl idles ↦ absurd (o.idles _ idles 0 l (omega arith))
      | inr (i, b, here) ↦ grind (arith, o.serves_pending (release r l + d) i b here, only_pending d b lt)
    ]

    served_from_release : (d : ℕ) → d ≤ r.compute → served run 0 l (release r l + d) ≡ d
    served_from_release zero h = rw add-zero (served_early W _ run o 0 l (release r l) (omega arith))
    served_from_release (suc d) h = rw add-suc (grind (arith, served_from_release d, cases_tick run 0 l (release r l + d), serves_it d))

  served_all : (n l : ℕ) → l < n → (d : ℕ) → d ≤ r.compute → served run 0 l (release r l + d) ≡ d
  served_all zero l lt = absurd (omega arith)
  served_all (suc n) l lt = served_from_release l (λ b before. omega (arith, served_all n b (omega arith) r.compute))

  pub ends_after_compute : (l : ℕ) → Ends W.wcet run 0 l (release r l + r.compute)
  ends_after_compute l =
      let all = served_all (suc l) l (omega arith) in
      let early = served_early W _ run o 0 l in
      record { done = omega (arith, all r.compute); no_sooner = λ u lt. grind (arith, early u, all (u - release r l)) }

pub alone_finish : AloneFinish
alone_finish H r s l run o =
    let e : release r l + r.compute ≡ activation r l + (φ r l + r.memory + r.compute) = omega arith in
    rw e at (ends_after_compute H r (s.each 0 (omega arith)) run o l)
