use Rattle.std.proofs.Common.{rules}
use Rattle.channel_lock.specs.Turns.{Knows}
use Rattle.channel_lock.proofs.Making.{making_none}
use Rattle.channel_lock.proofs.lock.ChannelLock.enter_in_line.Goals as goal

pub returns-in-Some-try_often-clause-making : goal.returns-in-Some-try_often-clause-making
returns-in-Some-try_often-clause-making g c =
    let v = c.args.seat.now.me.0 in
    let k = c.try_often.new.seat.me.0 in
    let knows : Knows g.C.Guarded.stands v c.in-Some-try_often.value k = search rules in
    making_none v k knows.0 knows.2 knows.3 knows.4
