use Rattle.std.proofs.Common.{rules, arith, sym, subst, ◌≡◌, ◌<◌, true, Option}
use Rattle.atomic_table.specs.Table.{Me}
use Rattle.channel_lock.specs.Calls.{has}
use Rattle.channel_lock.specs.Views.{View, joined}
use Rattle.channel_lock.proofs.Shares.{joins, looks_joined_as}
use Rattle.channel_lock.proofs.lock.ChannelLock.join.Goals as goal

pub join_seat-requires : goal.join_seat-requires
join_seat-requires g c = (c.requires.into.0, c.requires.from.0, c.requires.from.2, rw c.args.self.now.sized.0 (omega arith), joins _ _ _ _ _ _ _ c.requires.from.1 c.requires.into.1)

pub load-requires : goal.load-requires
load-requires g c = (search rules, rw c.args.self.now.sized.0 (omega arith), rw c.args.self.now.sized.1 (looks_joined_as _ _ _ _ _ c.args.into.now.me.0 c.args.from.me.0 c.requires.into.1 (search rules)))

pub returns-clause-numbers : goal.returns-clause-numbers
returns-clause-numbers g c = λ n h.
    let me = c.join_seat.new.seat.me in
    let is : c.load.new.seat.me ≡ (joined me.0, me.1) = c.load.ensures.2.0 in
    let had : has me.0.numbers n ≡ true = subst (λ (m : Me (Option g.row.C.Denot) View). has m.0.numbers n ≡ true) is h in
    subst (λ (m : Me (Option g.row.C.Denot) View). n < m.0.passes) (sym is) (c.load.ensures.2.5 n had)
