use Rattle.file_channel.specs.Opened.{state_of}
use Rattle.file_channel.proofs.logged.LoggedPlaces.open.Goals as goal

pub invariant_of-result : goal.invariant_of-result
invariant_of-result g c = let opens = c.in-Ok.ensures.opens in (state_of c.args.limits opens.base opens.txn, opens.state)
