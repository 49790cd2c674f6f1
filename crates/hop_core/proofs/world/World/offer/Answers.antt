use Rattle.std.proofs.Common.{rules, ◌≡◌, ◌∙◌, ◌<◌, ◌++◌, ◌∷◌, [], length, ap, true}
use Rattle.world_laws.specs.World.{World, Packet}
use Rattle.world_laws.specs.Steps as Steps
use Rattle.hop_core.specs.contracts.world.World.{the_view}
use Rattle.hop_core.proofs.Worlds.{offered_is}
use Rattle.hop_core.proofs.world.World.offer.Goals as goal

pub returns : goal.returns
returns c =
    let w = the_view c.self.inside in
    let within : c.args.node < length w.nodes = search rules in
    let known : Steps.is_fresh c.args.tag c.args.self.now.sent ≡ true = search rules in
    let fresh : Steps.is_fresh c.args.tag w.sent ≡ true = ap (λ (v : World). Steps.is_fresh c.args.tag v.sent) c.self.view_is ∙ known in
    let more : c.push.new.self.items ≡ w.sent ++ Packet.Request c.args.node c.args.tag c.args.batch.now ∷ [] = search rules in
    rw (← c.self.view_is) (offered_is w c.args.node c.args.tag c.args.batch.now c.push.new.self.items within fresh more)
