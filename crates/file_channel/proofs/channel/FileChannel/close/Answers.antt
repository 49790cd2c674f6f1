use Rattle.std.proofs.Common.{Option, ap, subst, sym}
use Rattle.flume_host.specs.Told.{Told}
use Rattle.channel_face.specs.History.{opening, state_after}
use Rattle.channel_writing.specs.Touches.{Rests}
use Rattle.channel_writing.proofs.Whole.{whole_rests}
use Rattle.file_channel.proofs.channel.FileChannel.close.Goals as goal

pub returns-clause-settled : goal.returns-clause-settled
returns-clause-settled g c = rw (← c.self.view_is) (λ start h stands.
    let m = c.self.inside in
    subst (λ (v : Option Told). Rests v (state_after (opening start) h)) (sym (ap g.D.Disk.told c.close.ensures))
    (whole_rests (g.D.Disk.told m.logged.0) m.logged.1.log m.logged.1.busy (state_after (opening start) h) stands.state.whole))
