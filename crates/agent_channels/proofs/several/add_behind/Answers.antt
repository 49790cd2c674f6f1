use Rattle.std.proofs.Common.{List, refl, sym, subst}
use Rattle.channel_wishes.specs.Openings.{HostTold}
use Rattle.channel_wishes.specs.Opened.{WereOpened}
use Rattle.agent_channels.specs.Several.{AreUnused}
use Rattle.channel_wishes.specs.declared.opened.OpenedChannel.{OpenedChannel}
use Rattle.agent_channels.proofs.InOrder.{out_later, refuses_marks}
use Rattle.agent_channels.proofs.several.add_behind.Goals as goal

pub give_all_unused-requires-clause-opened : goal.give_all_unused-requires-clause-opened
give_all_unused-requires-clause-opened g c κs within =
    subst (λ (l : List (OpenedChannel _ _)). WereOpened c.args.front.now l) (sym c.in-Err.ensures.same) c.requires.opened

pub give_all_unused-requires-clause-out : goal.give_all_unused-requires-clause-out
give_all_unused-requires-clause-out g c κs within =
    let a : HostTold = record { state = g.H.Host.state c.args.host.now; folders = g.H.Host.folders c.args.host.now } in
    let n : HostTold = record { state = g.H.Host.state c.add_one.new.host; folders = g.H.Host.folders c.add_one.new.host } in
    out_later a.folders n.folders (refuses_marks c.args.wish.now.place c.args.wish.now.limits.capacity a n c.in-Err.cause c.in-Err.ensures.refused) c.args.front.now c.requires.out

pub returns-in-Err-clause-refused : goal.returns-in-Err-clause-refused
returns-in-Err-clause-refused g c =
    let n : HostTold = record { state = g.H.Host.state c.add_one.new.host; folders = g.H.Host.folders c.add_one.new.host } in
    let b : HostTold = record { state = g.H.Host.state c.give_all_unused.new.host; folders = g.H.Host.folders c.give_all_unused.new.host } in
    record {
      at = refl;
      left = n;
      why = c.in-Err.ensures.refused;
      others = subst (λ (l : List (OpenedChannel _ _)). AreUnused c.args.front.now l n b) c.in-Err.ensures.same c.give_all_unused.ensures;
    }
