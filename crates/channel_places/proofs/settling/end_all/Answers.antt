use Rattle.channel_places.proofs.Renewing.{none_at_all}
use Rattle.channel_places.proofs.settling.end_all.Goals as goal

pub returns : goal.returns
returns c = none_at_all c.loop-txn.table (λ n. c.in_default.ensures n tt)
