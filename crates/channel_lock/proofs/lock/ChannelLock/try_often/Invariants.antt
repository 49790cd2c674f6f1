use Rattle.std.proofs.Common.{◌≡◌}
use Rattle.channel_lock.proofs.lock.ChannelLock.try_often.Given as goal

abbrev pub invariant-loop : goal.invariant-loop
invariant-loop g l = (l.seat.me ≡ l.initial.seat.me) × (l.seat.table_id ≡ l.initial.seat.table_id) × (l.seat.id ≡ l.initial.seat.id)
