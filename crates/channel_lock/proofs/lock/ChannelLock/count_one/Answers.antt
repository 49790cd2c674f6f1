use Rattle.std.proofs.Common.{arith, ap, Option}
use Rattle.atomic_table.specs.Table.{Me}
use Rattle.channel_lock.specs.Views.{View}
use Rattle.channel_lock.proofs.Making.{making_more}
use Rattle.channel_lock.proofs.Moves.{counts_one}
use Rattle.channel_lock.proofs.lock.ChannelLock.count_one.Goals as goal

pub fetch_add-requires : goal.fetch_add-requires
fetch_add-requires g c = (c.requires.table, rw c.args.self.now.sized.0 (omega arith), rw c.args.self.now.sized.1 (counts_one _ _ _ _ _ _ _ c.requires.some.1 c.requires.turn.0 c.requires.turn.2 c.requires.some.2 c.requires.turn.1))

pub returns-clause-call : goal.returns-clause-call
returns-clause-call g c =
    let k = c.args.seat.now.me.0 in
    let made = c.fetch_add.ensures.2 in
    (made.0, made.1, made.2.0, λ v es m own. making_more v k c.fetch_add.new.seat.me.0 es made.0 m own made.2.1 (ap (λ (x : Me (Option g.row.C.Denot) View). x.0) made.2.0))
