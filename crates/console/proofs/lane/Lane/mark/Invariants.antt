use Rattle.console.specs.Lanes.{width}
use Rattle.std.proofs.Common.{◌≡◌, ◌+◌, ◌%◌, ℕ, ◌<◌, cond, ◌&&◌, nat_le, nat_lt, length, slice_index}
use Rattle.console.proofs.lane.Lane.mark.Given as goal

abbrev pub invariant-loop-tick : goal.invariant-loop-tick
invariant-loop-tick l = record {
  whole : length l.cell-items ≡ width;
  cells : (k : ℕ) → k < width →
      slice_index l.cell-items k
      ≡ cond (nat_lt k l.tick && (nat_le l.from k && nat_lt k (l.from + l.len))) (48 + l.job % 10) (slice_index l.initial.cell-items k);
}
