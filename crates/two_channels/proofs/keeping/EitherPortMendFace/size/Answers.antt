use Rattle.std.proofs.Common.{◌≡◌, length, sym, subst}
use Rattle.channel_face.specs.Faces.{Gains}
use Rattle.channel_face.specs.Keeps.{IsLook}
use Rattle.shared_channel.specs.Ports.{AreOwned, Saw}
use Rattle.two_channels.specs.Ports.{own_of}
use Rattle.two_channels.specs.declared.port.EitherPort.{EitherPort}
use Rattle.two_channels.proofs.keeping.EitherPortMendFace.size.Goals as goal

pub returns-in-Disk-clause-calls : goal.returns-in-Disk-clause-calls
returns-in-Disk-clause-calls g c =
    let q = c.events_left.new.self.pass in
    subst (λ (p : EitherPort g.row.R.Denot g.row.A.Denot g.row.B.Denot). Gains (own_of p) (AreOwned q.view) (IsLook (Saw g.A.Channel.stands q.view) (λ s. c.events_left.result ≡ length s.items))) (sym c.in-Disk.is) c.events_left.ensures.calls

pub returns-in-Memory-clause-calls : goal.returns-in-Memory-clause-calls
returns-in-Memory-clause-calls g c =
    let q = c.events_left-in-Memory.new.self.pass in
    subst (λ (p : EitherPort g.row.R.Denot g.row.A.Denot g.row.B.Denot). Gains (own_of p) (AreOwned q.view) (IsLook (Saw g.B.Channel.stands q.view) (λ s. c.events_left-in-Memory.result ≡ length s.items))) (sym c.in-Memory.is) c.events_left-in-Memory.ensures.calls
