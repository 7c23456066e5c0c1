-- Each way out answers what the first bytes say by their places.
use Rattle.std.proofs.Common.{arith}
use Rattle.std.proofs.lemmas.Bool.Decides.{nat_tests}
use Rattle.std.proofs.lemmas.List.{places}
use Rattle.wire.proofs.Places.{read_by_places}
use Rattle.wire.proofs.reading.read_number.Goals as goal

pub returns-in-len1-up : goal.returns-in-len1-up
returns-in-len1-up c = read_by_places c.args.bytes.now _ (λ i. omega (arith, c.type_inv.bytes i)) (grind (arith, nat_tests, places))

pub returns-in-len2-up : goal.returns-in-len2-up
returns-in-len2-up c = read_by_places c.args.bytes.now _ (λ i. omega (arith, c.type_inv.bytes i)) (grind (arith, nat_tests, places))

pub returns-in-len3-up : goal.returns-in-len3-up
returns-in-len3-up c = read_by_places c.args.bytes.now _ (λ i. omega (arith, c.type_inv.bytes i)) (grind (arith, nat_tests, places))

pub returns-in-len4-up : goal.returns-in-len4-up
returns-in-len4-up c = read_by_places c.args.bytes.now _ (λ i. omega (arith, c.type_inv.bytes i)) (grind (arith, nat_tests, places))

pub returns-in-len4-up-2 : goal.returns-in-len4-up-2
returns-in-len4-up-2 c = read_by_places c.args.bytes.now _ (λ i. omega (arith, c.type_inv.bytes i)) (grind (arith, nat_tests, places))

pub returns-in_default : goal.returns-in_default
returns-in_default c = read_by_places c.args.bytes.now _ (λ i. omega (arith, c.type_inv.bytes i)) (grind (arith, nat_tests, places))

pub returns-in_default-2 : goal.returns-in_default-2
returns-in_default-2 c = read_by_places c.args.bytes.now _ (λ i. omega (arith, c.type_inv.bytes i)) (grind (arith, nat_tests, places))

pub returns-in_default-3 : goal.returns-in_default-3
returns-in_default-3 c = read_by_places c.args.bytes.now _ (λ i. omega (arith, c.type_inv.bytes i)) (grind (arith, nat_tests, places))

pub returns-in_default-4 : goal.returns-in_default-4
returns-in_default-4 c = read_by_places c.args.bytes.now _ (λ i. omega (arith, c.type_inv.bytes i)) (grind (arith, nat_tests, places))
