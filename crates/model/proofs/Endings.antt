-- When a job ends in a run.
use Rattle.std.proofs.Common.{◌≡◌, ℕ, zero, suc, ◌<◌, ◌≤◌, ◌↔◌, inl, inr, arith}
use Rattle.std.proofs.lemmas.Bool.{cases_lt}
use Rattle.model.specs.Workloads.{Workload}
use Rattle.model.specs.Runs.{Run, served}
use Rattle.model.specs.Edf.{Execution, ObeysEdf}
use Rattle.model.specs.Finishes.{Ends, AfterLast}
use Rattle.model.proofs.Urgent.{served_early}
use Rattle.model.proofs.Service.{last_tick, served_grows}

-- a job that is done by t ends by t
pub ends_by : (e : Execution) (r : Run) (i l t : ℕ) → e i l ≤ served r i l t → (u : ℕ) × Ends e r i l u × (u ≤ t)
ends_by e r i l zero h = (0, omega arith, omega arith)
ends_by e r i l (suc t) h = elim (cases_lt (served r i l t) (e i l)) [
  | inl un ↦ (suc t, grind (arith, served_grows r i l), omega arith)
  | inr ge ↦ grind (arith, ends_by e r i l t ge)
]

pub ends_once : (e : Execution) (r : Run) (i l t u : ℕ) → Ends e r i l t → Ends e r i l u → t ≡ u
ends_once e r i l t u x y = grind arith

module _ (W : Workload) (e : Execution) (r : Run) (o : ObeysEdf W e r) (i l : ℕ) (some : 1 ≤ e i l) where
  pub ends_after_release : (t : ℕ) → Ends e r i l t → W.release i l < t
  ends_after_release t x = grind (arith, served_early W e r o i l t)

  pub ends_after_last : (t : ℕ) → Ends e r i l t ↔ (AfterLast r i l t × (e i l ≤ served r i l t))
  ends_after_last t = (
    (λ x.
        let (f, lt, here, done) = last_tick r i l (e i l) t some x.done in (
          record {
            last = f;
            after = grind (arith, x.no_sooner (suc f));
            here = here;
            none_later = λ u ge h. omega (arith, x, o.serves_pending u i l h, served_grows r i l t u ge);
          },
          x.done,
        )),
    (λ (x, done). record {
      done = done;
      no_sooner = λ u lt. omega (arith, o.serves_pending x.last i l x.here, served_grows r i l u x.last (omega (arith, x.after)));
    }),
  )

-- a run that serves the job alike ends it alike
pub ends_alike : (e : Execution) (r s : Run) (i l t : ℕ) → ((u : ℕ) → served r i l u ≡ served s i l u) → Ends e r i l t → Ends e s i l t
ends_alike e r s i l t same x = grind arith
