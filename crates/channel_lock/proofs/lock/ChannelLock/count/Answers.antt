use Rattle.std.proofs.Common.{arith, ap, Option}
use Rattle.atomic_table.specs.Table.{Me}
use Rattle.channel_lock.specs.Views.{View}
use Rattle.channel_lock.proofs.Making.{making_more}
use Rattle.channel_lock.proofs.Moves.{counts}
use Rattle.channel_lock.proofs.lock.ChannelLock.count.Goals as goal

pub fetch_add-requires : goal.fetch_add-requires
fetch_add-requires g c = (c.requires.table, rw c.args.self.now.sized.0 (omega arith), rw c.args.self.now.sized.1 (counts _ _ _ _ _ _ c.requires.turn.0 c.requires.turn.2 c.requires.own c.requires.turn.1))

pub returns-clause-making : goal.returns-clause-making
returns-clause-making g c = λ v es m own. making_more v c.args.seat.now.me.0 _ es _ m own c.fetch_add.ensures.2.1 (ap (λ (x : Me (Option g.row.C.Denot) View). x.0) c.fetch_add.ensures.2.0)
