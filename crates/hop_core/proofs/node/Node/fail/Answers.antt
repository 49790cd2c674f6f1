use Rattle.std.proofs.Common.{rules, ◌≡◌, ◌<◌, length, refl, Some}
use Rattle.std.specs.List.{slice_get}
use Rattle.std.proofs.lemmas.Option.{slice_get_read}
use Rattle.world_laws.specs.Channels.{failed}
use Rattle.hop_core.specs.contracts.node.Node.{the_view}
use Rattle.hop_core.proofs.Nodes.{on_channel_did}
use Rattle.hop_core.proofs.node.Node.fail.Goals as goal

pub returns : goal.returns
returns c =
    let cs = c.self.inside.channels.items in
    let within : c.args.channel < length cs = search rules in
    let at : slice_get cs c.args.channel ≡ Some c.index_mut.result.now = slice_get_read cs (length cs) c.args.channel c.index_mut.result.now refl within c.index_mut.ensures.value in
    rw (← c.self.view_is) (on_channel_did (the_view c.self.inside) c.args.channel c.index_mut.result.now c.fail.new.self failed c.fail.result at c.fail.ensures)
