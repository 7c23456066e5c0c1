use Rattle.std.proofs.Common.{sym, ◌∙◌, arith}
use Rattle.queue.proofs.Keys.{places_differ, places_agree, places_end}
use Rattle.queue.proofs.entries.compare.Goals as goal

pub returns-then-these-i : goal.returns-then-these-i
returns-then-these-i c =
    sym (places_differ c.args.these c.args.those c.loop-i.i (omega arith) (omega arith) c.if-these-i.true) ∙ c.loop-i.invariant

pub loop-i-preserved : goal.loop-i-preserved
loop-i-preserved c =
    sym (places_agree c.args.these c.args.those c.loop-i.i (omega arith) (omega arith) c.if-these-i.false) ∙ c.loop-i.invariant

pub returns : goal.returns
returns c = sym (places_end c.args.these c.args.those c.loop-i.i (omega arith)) ∙ c.loop-i.invariant
