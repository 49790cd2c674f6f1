use Rattle.std.proofs.Common.{rules, ◌≡◌, ◌∙◌, ◌<◌, length, drop, refl, Some, None}
use Rattle.std.specs.Vec.{with_items}
use Rattle.std.specs.List.{slice_get, slice_set}
use Rattle.std.proofs.lemmas.Option.{slice_get_read}
use Rattle.world_laws.specs.World.{live}
use Rattle.hop_core.specs.contracts.node.Node.{the_view}
use Rattle.hop_core.specs.contracts.work.OpenAttempt.{the_view as attempt_view}
use Rattle.world_laws.specs.Channels.{committed}
use Rattle.hop_core.proofs.Nodes.{written_back, commit_done}
use Rattle.hop_core.proofs.node.Node.commit.Goals as goal

pub returns : goal.returns
returns c =
    let node = the_view c.self.inside in
    let a = c.attempt.inside in
    let alive : live node.attempts c.args.number ≡ Some (attempt_view a) = search rules in
    let within : a.channel < length node.channels = search rules in
    let at : slice_get node.channels a.channel ≡ Some c.index.result.now = slice_get_read node.channels (length node.channels) a.channel c.index.result.now refl within c.index.ensures in
    let delivered : a.delivery ≡ Some c.in-Some-delivered.delivery = search rules in
    let done : committed (attempt_view a).token c.in-Some-delivered.delivery a.events c.index.result.now ≡ Some c.in-Some-2.new = search rules in
    let changed : c.clear.new.list ≡ slice_set node.attempts c.args.number None = search rules in
    let size : length c.clear.new.list ≡ c.self.inside.attempts.len = search rules in
    let back : (with_items c.self.inside.attempts c.clear.new.list).items ≡ c.clear.new.list = written_back c.self.inside.attempts.len c.clear.new.list (drop (length c.clear.new.list) c.self.inside.attempts.items) size in
    rw (← c.self.view_is) (commit_done node c.args.number (attempt_view a) c.in-Some-delivered.delivery c.index.result.now c.in-Some-2.new (with_items c.self.inside.attempts c.clear.new.list).items alive delivered at done (back ∙ changed))
