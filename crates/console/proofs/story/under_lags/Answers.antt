use Rattle.std.proofs.Common.{◌≡◌, length, arith}
use Rattle.console.proofs.Lags.{lagged-one, lagged-two}
use Rattle.console.proofs.story.under_lags.Goals as goal

pub returns-in-len1-clause-few : goal.returns-in-len1-clause-few
returns-in-len1-clause-few g c few =
    let one : length c.args.lags.now ≡ 1 = omega arith in
    rw (lagged-one _ _ one) c.new-in-len1.ensures

pub returns-in-len2-clause-few : goal.returns-in-len2-clause-few
returns-in-len2-clause-few g c few =
    let two : length c.args.lags.now ≡ 2 = omega arith in
    rw (lagged-two _ _ two) c.new-in-len2.ensures
