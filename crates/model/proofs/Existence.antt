-- There is a run by earliest deadline first: at each tick the first of the pending jobs, of which there are finitely many.
use Rattle.std.proofs.Common.{◌≡◌, ℕ, zero, suc, ◌+◌, ◌<◌, ◌≤◌, cond, ◌↔◌, refl, inl, inr, arith}
use Rattle.std.proofs.lemmas.Bool.{cases_lt}
use Rattle.model.specs.Workloads.{Workload}
use Rattle.model.specs.Runs.{Slot, is_job, Run, served}
use Rattle.model.specs.Edf.{Execution, Pending, ObeysEdf}
use Rattle.model.proofs.Regularity.{Ordered}
use Rattle.model.proofs.Choosing.{Job, Choice, choose_below, slot_of, slot_idle, slot_serves}

-- where v says how many ticks each job has had, x is the job (i, l), and it is released at t and not done
abbrev ReadyAt : Workload → Execution → (ℕ → ℕ → ℕ) → ℕ → ℕ → ℕ → Job → Type 0
ReadyAt W e v t i l x = (x.0 ≡ i) × (x.1 ≡ l) × (W.release i l ≤ t) × (v i l < e i l)

abbrev Ready : Workload → Execution → (ℕ → ℕ → ℕ) → ℕ → Job → Type 0
Ready W e v t x = (i : ℕ) × (i < W.tasks) × ((l : ℕ) × (l < suc t) × ReadyAt W e v t i l x)

module _ (W : Workload) (e : Execution) where
  choose_at : (v : ℕ → ℕ → ℕ) (t i l : ℕ) → Choice W (ReadyAt W e v t i l)
  choose_at v t i l = elim (cases_lt t (W.release i l)) [
    | inl early ↦ inl (λ y q. omega arith)
    | inr now ↦ elim (cases_lt (v i l) (e i l)) [
      | inl un ↦ inr ((i, l), (refl, refl, now, un), λ y q. grind arith)
      | inr done ↦ inl (λ y q. omega arith)
    ]
  ]

  choose : (v : ℕ → ℕ → ℕ) (t : ℕ) → Choice W (Ready W e v t)
  choose v t = choose_below W _ (λ i. choose_below W _ (λ l. choose_at v t i l) (suc t)) W.tasks

  pick : (ℕ → ℕ → ℕ) → ℕ → Slot
  pick v t = slot_of W (Ready W e v t) (choose v t)

  -- how many ticks each job has had before t
  had : ℕ → ℕ → ℕ → ℕ
  had zero i l = 0
  had (suc t) i l = had t i l + cond (is_job (pick (had t) t) i l) 1 0

  pub edf : Run
  edf t = pick (had t) t

  served_is_had : (i l t : ℕ) → served edf i l t ≡ had t i l
  unfolding had edf
  served_is_had i l zero = refl
  served_is_had i l (suc t) = omega (arith, served_is_had i l t)

  module _ (ord : Ordered W) where
    ready_pending : (t i l : ℕ) → Ready W e (had t) t (i, l) ↔ Pending W e edf t i l
    ready_pending t i l = grind (arith, ord.far i l, served_is_had i l t)

    pub edf_obeys : ObeysEdf W e edf
    unfolding edf pick
    edf_obeys = record {
      serves_pending = λ t i l h. (ready_pending t i l).0 (slot_serves W (Ready W e (had t) t) (choose (had t) t) i l h).0;
      serves_first = λ t i l h a b p. (slot_serves W (Ready W e (had t) t) (choose (had t) t) i l h).1 (a, b) ((ready_pending t a b).1 p);
      idles = λ t h a b p. slot_idle W (Ready W e (had t) t) (choose (had t) t) h (a, b) ((ready_pending t a b).1 p);
    }
