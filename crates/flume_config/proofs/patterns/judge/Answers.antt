use Rattle.plan_judging.proofs.Joins.{join}
use Rattle.flume_config.proofs.patterns.judge.Goals as goal

pub returns : goal.returns
returns c =
    let asks = rw c.as_slice.ensures.keys at c.in_ok-ask_each.ensures in
    record { verdicts = asks.verdicts; are = asks.are; is = (join c.in_ok-found.ensures asks.adds).is }
