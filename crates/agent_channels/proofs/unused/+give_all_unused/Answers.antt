use Rattle.std.proofs.Common.{rules, List, subst}
use Rattle.channel_wishes.specs.Openings.{HostTold}
use Rattle.channel_wishes.specs.Places.{AreOut}
use Rattle.channel_wishes.specs.Opened.{WereOpened}
use Rattle.channel_wishes.specs.declared.opened.OpenedChannel.{OpenedChannel}
use Rattle.channel_wishes.specs.declared.wish.ChannelWish.{ChannelWish}
use Rattle.agent_channels.proofs.InOrder.{opened_some, out_last, out_later, unused_marks, unused_none, unused_split, were_split}
use Rattle.agent_channels.proofs.unused.+give_all_unused.Goals as goal

pub unreachable-requires : goal.unreachable-requires
unreachable-requires g t c =
    opened_some c.args.wishes.now c.pop.new.self.items c.in-Some.channel c.in_default-split_last.ensures.cases
    (subst (λ (l : List (OpenedChannel _ _)). WereOpened c.args.wishes.now l) c.in-Some.ensures.items c.requires.opened)

pub give_unused-requires-clause-kind : goal.give_unused-requires-clause-kind
give_unused-requires-clause-kind g t c κs within =
    let s = c.in-Some-split_last in
    (were_split c.args.wishes.now s.front.now c.args.channels.now.items c.pop.new.self.items s.wish.now c.in-Some.channel s.ensures.cases.0 c.in-Some.ensures.items c.requires.opened).1

pub give_unused-requires-clause-new : goal.give_unused-requires-clause-new
give_unused-requires-clause-new g t c κs within =
    let s = c.in-Some-split_last in
    (were_split c.args.wishes.now s.front.now c.args.channels.now.items c.pop.new.self.items s.wish.now c.in-Some.channel s.ensures.cases.0 c.in-Some.ensures.items c.requires.opened).2

pub give_unused-requires-clause-out : goal.give_unused-requires-clause-out
give_unused-requires-clause-out g t c κs within =
    let s = c.in-Some-split_last in
    let folders = g.H.Host.folders c.args.host.now in
    (out_last folders s.front.now s.wish.now (subst (λ (l : List ChannelWish). AreOut folders l) s.ensures.cases.0 c.requires.out)).1

pub give_all_unused-requires-clause-opened : goal.give_all_unused-requires-clause-opened
give_all_unused-requires-clause-opened g t c κs within =
    let s = c.in-Some-split_last in
    (were_split c.args.wishes.now s.front.now c.args.channels.now.items c.pop.new.self.items s.wish.now c.in-Some.channel s.ensures.cases.0 c.in-Some.ensures.items c.requires.opened).0

pub give_all_unused-requires-clause-out : goal.give_all_unused-requires-clause-out
give_all_unused-requires-clause-out g t c κs within =
    let s = c.in-Some-split_last in
    let folders = g.H.Host.folders c.args.host.now in
    let mid = g.H.Host.folders c.give_unused.new.host in
    let out = (out_last folders s.front.now s.wish.now (subst (λ (l : List ChannelWish). AreOut folders l) s.ensures.cases.0 c.requires.out)).0 in
    out_later folders mid (unused_marks s.wish.now.place c.in-Some.channel.home.view.base _ _ c.give_unused.ensures) s.front.now out

pub returns : goal.returns
returns g t c =
    let s = c.in-Some-split_last in
    let a : HostTold = record { state = g.H.Host.state c.args.host.now; folders = g.H.Host.folders c.args.host.now } in
    let m : HostTold = record { state = g.H.Host.state c.give_unused.new.host; folders = g.H.Host.folders c.give_unused.new.host } in
    let b : HostTold = record { state = g.H.Host.state c.give_all_unused.new.host; folders = g.H.Host.folders c.give_all_unused.new.host } in
    unused_split c.args.wishes.now s.front.now c.args.channels.now.items c.pop.new.self.items s.wish.now c.in-Some.channel a m b s.ensures.cases.0 c.in-Some.ensures.items c.give_unused.ensures c.give_all_unused.ensures

pub returns-in_default : goal.returns-in_default
returns-in_default g t c =
    unused_none c.args.wishes.now c.args.channels.now.items (record { state = g.H.Host.state c.args.host.now; folders = g.H.Host.folders c.args.host.now }) c.requires.opened (search rules)
