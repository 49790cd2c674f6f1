use Rattle.channel_wishes.specs.Openings.{HostTold}
use Rattle.agent_channels.proofs.Sparing.{unused_back, unused_place}
use Rattle.agent_channels.proofs.unused.give_unused.Goals as goal

pub give_back-requires-after_bounds : goal.give_back-requires-after_bounds
give_back-requires-after_bounds g c κs within =
    let a : HostTold = record { state = g.H.Host.state c.args.host.now; folders = g.H.Host.folders c.args.host.now } in
    unused_place g.H.Disk.Disk.told g.H.Disk.Disk.faults _ c.args.place.now c.args.channel.share c.args.channel.home.view.base c.unshare-closed.result a c.requires.kind c.requires.out c.unshare-closed.ensures

pub returns : goal.returns
returns g c =
    let a : HostTold = record { state = g.H.Host.state c.args.host.now; folders = g.H.Host.folders c.args.host.now } in
    let b : HostTold = record { state = g.H.Host.state c.give_back.new.host; folders = g.H.Host.folders c.give_back.new.host } in
    unused_back g.H.Disk.Disk.told g.H.Disk.Disk.faults _ c.args.place.now c.args.channel.share c.args.channel.home.view.base c.unshare-closed.result a b c.requires.kind c.unshare-closed.ensures c.give_back.ensures.back
