use Rattle.std.proofs.Common.{rules, subst, arith}
use Rattle.channel_lock.specs.Turns.{Takes}
use Rattle.atomic_table.specs.Table.{step}
use mathlib.Core.Option.{none}
use Rattle.channel_lock.proofs.Moves.{take_turn_as, holds_it}
use Rattle.channel_lock.proofs.lock.ChannelLock.try_enter.Goals as goal

-- src/lock.rt:30:12
pub compare_exchange-requires : goal.compare_exchange-requires
compare_exchange-requires g c = (c.requires.table, rw c.args.self.now.sized.0 (omega arith), rw c.args.self.now.sized.1 (take_turn_as _ _ _ _ _ c.requires.idle.0 c.requires.idle.1 c.requires.idle.2))

-- src/lock.rt:33:9
pub exchange-requires : goal.exchange-requires
exchange-requires g c =
    let S = g.C.Guarded.stands in
    let t = subst (λ n. Takes S (step 1 1 0 1 none) c.args.seat.now.me n c.compare_exchange.new.seat.me) c.if-compare_exchange-ne0.false c.compare_exchange.ensures.2 in
    (search rules, holds_it S c.args.seat.now.me _ t)
