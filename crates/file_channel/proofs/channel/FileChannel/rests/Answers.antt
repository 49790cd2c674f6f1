use Rattle.channel_face.specs.History.{opening, state_after}
use Rattle.channel_writing.proofs.Whole.{whole_rests}
use Rattle.file_channel.proofs.channel.FileChannel.rests.Goals as goal

pub returns : goal.returns
returns g c = λ start h stands. whole_rests (g.D.Disk.told c.args.self.now.0) c.args.self.now.1.logged.log c.args.self.now.1.logged.busy (state_after (opening start) h) stands.state.whole
