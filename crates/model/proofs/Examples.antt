-- The examples: each fact is a test that computes to true, or compares numbers that compute.
use Rattle.std.proofs.Common.{◌≡◌, true, not, List, ◌++◌, replicate, refl, arith}
use Rattle.std.proofs.lemmas.Bool.Decides.{nat_tests}
use Rattle.model.specs.Workloads.{workload, Sound}
use Rattle.model.specs.Runs.{Slot, idle, serves}
use Rattle.model.specs.Demand.{Overload, NoOverload}
use Rattle.model.specs.Examples.{two, three, tied, TwoFit, ThreeFill, ThreeOverload, TieGoesByNumber}
use Rattle.model.proofs.Bounded.{passes_below}
use Rattle.model.proofs.Workloads.{ordered}
use Rattle.model.proofs.Theorems.{overload_is_infeasible, feasible_without_overload}
use Rattle.model.proofs.Tables.{obeys?, ends_as_in_table, told_from_table}
use Rattle.model.proofs.Trials.{sound_from_test, overloaded?, no_overload_from_test}

-- ---- two tasks

two_sound : Sound 20 two
two_sound = sound_from_test 20 two refl

abbrev two_table : List Slot
two_table =
    replicate 2 idle ++ replicate 3 (serves 0 0) ++ replicate 5 (serves 1 0) ++
    replicate 2 idle ++ replicate 3 (serves 0 1) ++ replicate 5 idle

two_obeys : obeys? (workload two) (workload two).wcet two_table ≡ true
two_obeys = refl

pub two_fit : TwoFit
two_fit =
    let told = told_from_table 20 two two_sound two_table two_obeys in
    record {
      sound = two_sound;
      no_overload = no_overload_from_test 20 two two_sound refl;
      first_ends = (told 0 0 5 refl, told 0 1 5 refl);
      second_ends = told 1 0 10 refl;
    }

-- ---- three tasks that fill an interval

fill_sound : Sound 20 (three 5)
fill_sound = sound_from_test 20 (three 5) refl

fill_no_overload : NoOverload (workload (three 5)) 20
fill_no_overload = no_overload_from_test 20 (three 5) fill_sound refl

abbrev fill_table : List Slot
fill_table =
    replicate 2 idle ++ replicate 3 (serves 0 0) ++ replicate 1 (serves 1 0) ++ replicate 5 (serves 2 0) ++
    replicate 4 (serves 1 0) ++ replicate 3 (serves 0 1) ++ replicate 2 idle

fill_obeys : obeys? (workload (three 5)) (workload (three 5)).wcet fill_table ≡ true
fill_obeys = refl

pub three_fill : ThreeFill
three_fill =
    let told = told_from_table 20 (three 5) fill_sound fill_table fill_obeys in
    record {
      sound = fill_sound;
      full = refl;
      no_overload = fill_no_overload;
      feasible = (feasible_without_overload 20 (three 5) fill_sound).1 fill_no_overload;
      first_ends = (told 0 0 5 refl, told 0 1 8 refl);
      second_ends = told 1 0 15 refl;
      third_ends = told 2 0 11 refl;
    }

-- ---- three tasks that overload it

overload : Overload (workload (three 6)) 20 2 15
overload = record {
  released = (0, 0, omega arith, refl);
  due = (1, 0, omega arith, refl);
  in_cycle = omega arith;
  overloaded = omega arith;
}

-- the third task takes 6 ticks
abbrev late_table : List Slot
late_table =
    replicate 2 idle ++ replicate 3 (serves 0 0) ++ replicate 1 (serves 1 0) ++ replicate 6 (serves 2 0) ++ replicate 4 (serves 1 0)

pub three_overload : ThreeOverload
three_overload = record {
  sound = sound_from_test 20 (three 6) refl;
  demanded = refl;
  overload = overload;
  from_start = refl;
  none_from_start = λ t h over.
      let passed = passes_below 21 (λ u. not (overloaded? (workload (three 6)) 0 u)) t (omega arith) refl in
      grind (arith, nat_tests);
  infeasible = overload_is_infeasible (workload (three 6)) 2 15 overload.overloaded;
  too_long = λ r o. ends_as_in_table (workload (three 5)) (ordered 20 (three 5) fill_sound) (workload (three 6)).wcet late_table refl r o 1 0 16 refl;
}

-- ---- two tasks with equal deadlines

tied_sound : Sound 10 tied
tied_sound = sound_from_test 10 tied refl

abbrev tied_table : List Slot
tied_table = replicate 1 idle ++ replicate 1 (serves 0 0) ++ replicate 2 (serves 1 0) ++ replicate 1 (serves 0 0)

tied_obeys : obeys? (workload tied) (workload tied).wcet tied_table ≡ true
tied_obeys = refl

pub tie_goes_by_number : TieGoesByNumber
tie_goes_by_number =
    let told = told_from_table 10 tied tied_sound tied_table tied_obeys in
    record { sound = tied_sound; larger_ends = told 0 0 5 refl; smaller_ends = told 1 0 4 refl }
