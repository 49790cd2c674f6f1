use Rattle.std.proofs.Common.{length, sym, subst}
use Rattle.channel_face.specs.Faces.{Gains}
use Rattle.channel_face.specs.Keeps.{IsMend}
use Rattle.shared_channel.specs.Ports.{AreOwned, Saw}
use Rattle.two_channels.specs.Ports.{IsOnDisk, later_port_none, own_of}
use Rattle.two_channels.specs.declared.port.EitherPort.{EitherPort}
use Rattle.two_channels.proofs.keeping.EitherPortMendFace.mend.Goals as goal

pub returns-in-Disk-clause-calls : goal.returns-in-Disk-clause-calls
returns-in-Disk-clause-calls g c =
    let q = c.mend.new.self.pass in
    subst (λ (p : EitherPort g.row.R.Denot g.row.A.Denot g.row.B.Denot). Gains (own_of p) (AreOwned q.view) (IsMend (IsOnDisk p) (Saw g.A.Channel.stands q.view) (length q.view.seen) c.mend.result)) (sym c.in-Disk.is) c.mend.ensures.calls

pub returns-in-Memory-clause-kept : goal.returns-in-Memory-clause-kept
returns-in-Memory-clause-kept g c = later_port_none c.args.self.now
