use Rattle.std.proofs.Common.{refl, sym, subst}
use Rattle.two_channels.specs.declared.shared.EitherClosed.{EitherClosed}
use Rattle.channel_wishes.specs.Openings.{HostTold}
use Rattle.channel_wishes.specs.Places.{IsOfPlace}
use Rattle.agent_channels.specs.Closings.{DisksBack, back_of, disk_back}
use Rattle.agent_channels.proofs.Backing.{back_none}
use Rattle.agent_channels.proofs.close.give_back.Goals as goal

pub give_disk-requires-after_bounds : goal.give_disk-requires-after_bounds
give_disk-requires-after_bounds g c κs within = subst (λ (x : EitherClosed _ _). IsOfPlace (g.H.Host.folders c.args.host.now) c.args.place.now x) c.in-Disk.is c.requires

pub returns-in-Disk-clause-back : goal.returns-in-Disk-clause-back
returns-in-Disk-clause-back g c =
    let a : HostTold = record { state = g.H.Host.state c.args.host.now; folders = g.H.Host.folders c.args.host.now } in
    let b : HostTold = record { state = g.H.Host.state c.give_disk.new.host; folders = g.H.Host.folders c.give_disk.new.host } in
    let told = g.H.Disk.Disk.told in
    let faults = g.H.Disk.Disk.faults in
    let one = subst (λ (d : _). DisksBack (disk_back c.args.place.now (told d) (faults d)) a b) c.close.ensures.disk c.give_disk.ensures in
    subst (λ (x : EitherClosed _ _). DisksBack (back_of told faults c.args.place.now x) a b) (sym c.in-Disk.is) one

pub returns-clause-back : goal.returns-clause-back
returns-clause-back g c =
    let a : HostTold = record { state = g.H.Host.state c.args.host.now; folders = g.H.Host.folders c.args.host.now } in
    subst (λ (x : EitherClosed _ _). DisksBack (back_of g.H.Disk.Disk.told g.H.Disk.Disk.faults c.args.place.now x) a a) (sym c.in-Memory.is) (back_none a a refl)
