use Rattle.std.proofs.Common.{◌≡◌, ℕ, ◌/◌, ◌^◌, ◌<◌, get_or}
use Rattle.wire.proofs.Groups.{lowest}
use Rattle.wire.proofs.writing.write_groups.Given as goal

abbrev pub invariant-loop-cell : goal.invariant-loop-cell
invariant-loop-cell l = (l.rest ≡ l.value / 128 ^ l.cell-index) × ((k : ℕ) → k < l.cell-index → get_or l.cells k 0 ≡ lowest (l.value / 128 ^ k))
