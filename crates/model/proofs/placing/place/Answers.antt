use Rattle.std.proofs.Common.{◌≡◌, Err, drop, take, rules, arith, length-take-le}
use Rattle.std.proofs.lemmas.List.{set-get_or, drop-append-le, take-append-drop}
use Rattle.std.proofs.lemmas.Grind.{common_steps}
use Rattle.model.specs.declared.placing.Misplaced.TheVariants.{NoOffset}
use Rattle.model.proofs.placing.place.Goals as goal

-- the place of the job keeps what it held, and the rest is as the loop has it
pub returns-in_err-offset : goal.returns-in_err-offset
returns-in_err-offset g c =
    let n = c.args.jobs in let before = c.args.offsets.now in
    let l = c.loop-job in
    let long = length-take-le n before (omega arith) in
    let e : c.from_residual.result ≡ Err (NoOffset l.job) = search rules in
    let a = drop-append-le l.job l.offsets (drop n before) (omega arith) in
    let b = drop-append-le l.job (take n before) (drop n before) (omega arith) in
    let whole = take-append-drop n before in
    let others = l.invariant.others in
    rw (e, set-get_or l.offsets l.job 0) (
      omega arith,
      omega arith,
      search rules,
      record { offsets = λ j in'. grind (arith, common_steps, l.invariant.offsets j in'); others = cc },
    )
