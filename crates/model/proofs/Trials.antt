-- Tests for rows that are written out in numbers: that they are sound, and that no interval of the first cycle is overloaded.
use Rattle.std.proofs.Common.{◌≡◌, ℕ, ◌+◌, ◌-◌, ◌*◌, ◌<◌, Bool, true, not, ◌&&◌, ◌||◌, eqb, ltb, leb, List, length, get_or, mod-lt, arith}
use Rattle.std.proofs.lemmas.Bool.Decides.{nat_tests}
use Rattle.model.specs.Jobs.{Row}
use Rattle.model.specs.Workloads.{Workload, row_at, workload, SoundRow, Sound}
use Rattle.model.specs.Demand.{demand, NoOverload}
use Rattle.model.proofs.Bounded.{all_below, passes_below, all_pairs, passes_pairs}
use Rattle.model.proofs.FirstCycle.{in_first}
use Rattle.model.proofs.Workloads.{many, ordered, cyclic}

-- ---- sound rows

abbrev figures? : Row → Bool
figures? r = leb 1 r.memory && leb 1 r.compute && leb (r.memory + r.compute) r.deadline && leb r.deadline r.period

-- the row has offsets, one for each period of the cycle
abbrev cycle? : ℕ → Row → Bool
cycle? H r = ltb 0 (length r.offsets) && eqb (length r.offsets * r.period) H

abbrev in_time? : Row → ℕ → Bool
in_time? r k = leb (get_or r.offsets k 0 + r.memory + r.compute) r.deadline

abbrev sound_row? : ℕ → Row → Bool
sound_row? H r = figures? r && cycle? H r && all_below (length r.offsets) (in_time? r)

sound_row_from_test : (H : ℕ) (r : Row) → sound_row? H r ≡ true → SoundRow H r
sound_row_from_test H r e = record {
  figures = grind (arith, nat_tests);
  divides = grind (arith, nat_tests);
  in_time = λ l. grind (arith, nat_tests, passes_below (length r.offsets) (in_time? r), mod-lt l);
}

-- two places are one, or their tasks have different numbers
abbrev apart? : List Row → ℕ → ℕ → Bool
apart? rows i a = eqb i a || not (eqb (row_at rows i).number (row_at rows a).number)

abbrev pub sound? : ℕ → List Row → Bool
sound? H rows =
    leb 1 H && all_below (length rows) (λ i. sound_row? H (row_at rows i)) && all_pairs (length rows) (λ _. length rows) (apart? rows)

pub sound_from_test : (H : ℕ) (rows : List Row) → sound? H rows ≡ true → Sound H rows
sound_from_test H rows e = record {
  some_cycle = grind (arith, nat_tests);
  each = λ i t. grind (arith, nat_tests, sound_row_from_test H (row_at rows i), passes_below (length rows) (λ a. sound_row? H (row_at rows a)) i t);
  numbers_differ = λ i a t u same. grind (arith, nat_tests, passes_pairs (length rows) (λ _. length rows) (apart? rows) i a t u);
}

-- ---- no overload

abbrev pub overloaded? : Workload → ℕ → ℕ → Bool
overloaded? W t1 t2 = ltb t1 t2 && ltb (t2 - t1) (demand W t1 t2)

-- from t1 to the deadline of each job of the first cycle
abbrev none_from? : List Row → ℕ → Bool
none_from? rows t1 = all_pairs (length rows) (many rows) (λ a b. not (overloaded? (workload rows) t1 ((workload rows).deadline a b)))

abbrev pub no_overload? : List Row → Bool
no_overload? rows = all_pairs (length rows) (many rows) (λ i l. none_from? rows ((workload rows).release i l))

module _ (H : ℕ) (rows : List Row) (s : Sound H rows) where
  in_first_cycle : (i l : ℕ) → i < length rows → (workload rows).release i l < H → l < many rows i
  in_first_cycle = in_first (workload rows) H (many rows) (ordered H rows s) (cyclic H rows s)

  pub no_overload_from_test : no_overload? rows ≡ true → NoOverload (workload rows) H
  no_overload_from_test e t1 t2 o =
      let (i, l, t, from) = o.released in
      let (a, b, u, to) = o.due in
      let none = passes_pairs (length rows) (many rows) _ i l t (in_first_cycle i l t (omega (arith, o))) e in
      let late = in_first_cycle a b u (omega (arith, o, (ordered H rows s).window a b u)) in
      let fine = passes_pairs (length rows) (many rows) _ a b u late none in
      grind (arith, nat_tests)
