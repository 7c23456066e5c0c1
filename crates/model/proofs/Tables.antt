-- Tables of ticks that a test shows to obey earliest deadline first: every run serves each job, and ends it, as the table does.
use Rattle.std.proofs.Common.{◌≡◌, ℕ, suc, ◌+◌, ◌≤◌, Bool, true, not, ◌&&◌, ◌||◌, ltb, leb, List, length, get_or, arith}
use Rattle.std.proofs.lemmas.Bool.Decides.{nat_tests}
use Rattle.model.specs.Jobs.{Row, activation}
use Rattle.model.specs.Workloads.{Workload, row_at, workload, Sound}
use Rattle.model.specs.Runs.{Slot, idle, serves, Run, served}
use Rattle.model.specs.Edf.{Execution, Pending, ObeysEdf}
use Rattle.model.specs.Finishes.{Ends, Told}
use Rattle.model.proofs.Agreement.{ObeysAt, obeys_at, served_alike}
use Rattle.model.proofs.Priorities.{at_or_before}
use Rattle.model.proofs.Bounded.{all_below, passes_below, all_pairs, passes_pairs}
use Rattle.model.proofs.Regularity.{Ordered}
use Rattle.model.proofs.Workloads.{ordered}

-- the run of a table, idle after its end
abbrev pub run_of : List Slot → Run
run_of table t = get_or table t idle

-- ---- tests

abbrev pending? : Workload → Execution → Run → ℕ → ℕ → ℕ → Bool
pending? W e r t i l = ltb i W.tasks && leb (W.release i l) t && ltb (served r i l t) (e i l)

-- job (a, b) is not pending, or goes behind job (i, l)
abbrev behind? : Workload → Execution → Run → ℕ → ℕ → ℕ → ℕ → ℕ → Bool
behind? W e r t i l a b = not (pending? W e r t a b) || at_or_before W a b i l

abbrev obeys_at? : Workload → Execution → Run → ℕ → Slot → Bool
obeys_at? W e r t idle = all_pairs W.tasks (λ _. suc t) (λ a b. not (pending? W e r t a b))
obeys_at? W e r t (serves i l) = pending? W e r t i l && all_pairs W.tasks (λ _. suc t) (behind? W e r t i l)

-- the table obeys at each of its ticks
abbrev pub obeys? : Workload → Execution → List Slot → Bool
obeys? W e table = all_below (length table) (λ t. obeys_at? W e (run_of table) t (run_of table t))

-- the job ends at t in the table
abbrev pub ends? : Execution → List Slot → ℕ → ℕ → ℕ → Bool
ends? e table i l t =
    leb t (length table) && leb (e i l) (served (run_of table) i l t) && all_below t (λ u. ltb (served (run_of table) i l u) (e i l))

-- ---- what they tell

module _ (W : Workload) (o : Ordered W) (e : Execution) where
  -- job b is released at tick b or later, so that those up to t are all that can be pending at t
  passes_pending : (r : Run) (t : ℕ) (p : ℕ → ℕ → Bool) (a b : ℕ) → Pending W e r t a b → all_pairs W.tasks (λ _. suc t) p ≡ true → p a b ≡ true
  passes_pending r t p a b h = passes_pairs W.tasks (λ _. suc t) p a b h.task (omega (arith, h, o.far a b h.task))

  obeys_from_test : (r : Run) (t : ℕ) (x : Slot) → obeys_at? W e r t x ≡ true → ObeysAt W e r t x
  obeys_from_test r t idle c = λ a b h. grind (arith, nat_tests, passes_pending r t (λ i l. not (pending? W e r t i l)) a b h)
  obeys_from_test r t (serves i l) c = (grind (arith, nat_tests), λ a b h. grind (arith, nat_tests, passes_pending r t (behind? W e r t i l) a b h))

  module _ (table : List Slot) (c : obeys? W e table ≡ true) (r : Run) (edf : ObeysEdf W e r) where
    pub served_as_in_table : (t : ℕ) → t ≤ length table → (i l : ℕ) → served r i l t ≡ served (run_of table) i l t
    served_as_in_table = served_alike W o e r (run_of table) (length table) (λ t _. obeys_at W e r edf t)
        (λ t h. obeys_from_test (run_of table) t (run_of table t) (passes_below (length table) _ t h c))

    pub ends_as_in_table : (i l t : ℕ) → ends? e table i l t ≡ true → Ends e r i l t
    ends_as_in_table i l t d = record {
      done = grind (arith, nat_tests, served_as_in_table t);
      no_sooner = λ u h. grind (arith, nat_tests, served_as_in_table u, passes_below t (λ u. ltb (served (run_of table) i l u) (e i l)) u h);
    }

pub told_from_table : (H : ℕ) (rows : List Row) → Sound H rows →
    (table : List Slot) → obeys? (workload rows) (workload rows).wcet table ≡ true →
    (i l f : ℕ) → ends? (workload rows).wcet table i l (activation (row_at rows i) l + f) ≡ true → Told rows i l f
told_from_table H rows s table c i l f d r edf =
    ends_as_in_table (workload rows) (ordered H rows s) (workload rows).wcet table c r edf i l (activation (row_at rows i) l + f) d
