use Rattle.std.proofs.Common.{◌≡◌, drop}
use Rattle.queue.specs.Keys.{lexicographic}
use Rattle.queue.proofs.entries.compare.Given as goal

-- what is left decides
abbrev pub invariant-loop-i : goal.invariant-loop-i
invariant-loop-i l = lexicographic (drop l.i l.these) (drop l.i l.those) ≡ lexicographic l.these l.those
