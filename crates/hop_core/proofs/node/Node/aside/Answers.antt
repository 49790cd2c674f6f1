use Rattle.std.proofs.Common.{rules, ◌≡◌, ◌<◌, length, refl, Some, false}
use Rattle.std.specs.List.{slice_get}
use Rattle.std.proofs.lemmas.Option.{slice_get_read}
use Rattle.hop_core.specs.contracts.node.Node.{the_view}
use Rattle.world_laws.specs.Channels.{is_empty, stored}
use Rattle.hop_core.proofs.Nodes.{aside_done}
use Rattle.hop_core.proofs.node.Node.aside.Goals as goal

pub returns : goal.returns
returns c =
    let node = the_view c.self.inside in
    let within : c.args.channel < length node.channels = search rules in
    let at : slice_get node.channels c.args.channel ≡ Some c.index.result.now = slice_get_read node.channels (length node.channels) c.args.channel c.index.result.now refl within c.index.ensures in
    let some : is_empty c.args.events.now ≡ false = search rules in
    let done : stored c.args.events.now c.index.result.now ≡ Some c.in-Some.new = search rules in
    rw (← c.self.view_is) (aside_done node c.args.channel c.args.events.now c.index.result.now c.in-Some.new at some done)
