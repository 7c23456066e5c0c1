use Rattle.std.proofs.Common.{◌^◌, ◌<◌, ◌≢◌, length, pow-suc, arith, get_or-set_other, get_or-set_same, below_more}
use Rattle.std.proofs.Math.Nat.{div-div-eq-div-mul}
use Rattle.wire.proofs.Groups.{shown_spells}
use Rattle.wire.proofs.writing.write_groups.Goals as goal

pub loop-cell-preserved : goal.loop-cell-preserved
loop-cell-preserved c =
    let l = c.loop-cell in
    let value = c.args.value in
    let i = l.cell-index in (
      grind (arith, l.invariant.0, div-div-eq-div-mul value (128 ^ i) 128, pow-suc 128 i),
      below_more _ _
          (λ k h. let ne : k ≢ i = omega arith in rw get_or-set_other (l.invariant.1 k h))
          (let lt : i < length l.cells = omega arith in rw (get_or-set_same, ← l.invariant.0) c.lowest.ensures),
    )

pub returns : goal.returns
returns c = shown_spells _ _ c.requires.small (omega arith) (λ k h. c.loop-cell.invariant.1 k (omega arith))
