use Rattle.std.proofs.Common.{◌≡◌, drop}
use Rattle.world_laws.specs.Channels.{all_reopened}
use Rattle.hop_core.proofs.Reopens.{with_front}
use Rattle.hop_core.proofs.node.Node.all_reopened.Given as goal

abbrev pub invariant-loop-place : goal.invariant-loop-place
invariant-loop-place l = all_reopened l.kept l.self.channels ≡ with_front l.all.items (all_reopened (drop l.place l.kept) (drop l.place l.self.channels))
