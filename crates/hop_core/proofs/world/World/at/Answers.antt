use Rattle.std.proofs.Common.{rules, ◌≡◌, ◌<◌, length, refl, Some}
use Rattle.std.specs.List.{slice_get}
use Rattle.std.proofs.lemmas.Option.{slice_get_read}
use Rattle.world_laws.specs.World.{Node}
use Rattle.hop_core.specs.contracts.world.World.{the_view}
use Rattle.hop_core.specs.Labels.{node_step}
use Rattle.hop_core.proofs.Worlds.{at_did}
use Rattle.hop_core.proofs.world.World.at.Goals as goal

pub returns : goal.returns
returns c =
    let w = the_view c.self.inside in
    let within : c.args.node < length w.nodes = search rules in
    let there : slice_get w.nodes (c.args.node) ≡ Some c.index_mut.result.now = slice_get_read w.nodes (length w.nodes) (c.args.node) c.index_mut.result.now refl within c.index_mut.ensures.value in
    rw (← c.self.view_is) (at_did w c.args.node c.index_mut.result.now c.apply.new.self (λ (n : Node). node_step c.args.step.now n) c.apply.result there c.apply.ensures)
