use Rattle.std.proofs.Common.{rules, ◌≡◌, ◌∙◌, ◌<◌, length, refl, sym, ap, Some}
use Rattle.std.specs.List.{slice_get}
use Rattle.std.proofs.lemmas.Option.{slice_get_read}
use Rattle.world_laws.specs.World.{Node, Packet}
use Rattle.world_laws.specs.Steps as Steps
use Rattle.hop_core.specs.contracts.world.World.{the_view}
use Rattle.hop_core.specs.PacketView.{packet_of}
use Rattle.hop_core.specs.declared.packets.Body.{Body}
use Rattle.hop_core.proofs.Worlds.{at_did}
use Rattle.hop_core.proofs.world.World.reply.Goals as goal

pub returns : goal.returns
returns c =
    let w = the_view c.self.inside in
    let within : c.args.node < length w.nodes = search rules in
    let there : slice_get w.nodes (c.args.node) ≡ Some c.index_mut.result.now = slice_get_read w.nodes (length w.nodes) (c.args.node) c.index_mut.result.now refl within c.index_mut.ensures.value in
    let p = c.packet.inside in
    let there_sent : c.args.packet < length w.sent = search rules in
    let sent : slice_get w.sent c.args.packet ≡ Some c.index-packet.result.now = slice_get_read w.sent (length w.sent) c.args.packet c.index-packet.result.now refl there_sent c.index-packet.ensures in
    let is : c.index-packet.result.now ≡ Packet.Reply p.tag p.node c.in-Reply.at = sym c.packet.view_is ∙ ap (λ (body : Body). packet_of p.node p.tag body) c.in-Reply.is in
    rw (← c.self.view_is, sent, is)
    (at_did w c.args.node c.index_mut.result.now c.replied.new.self (λ (n : Node). Steps.replied c.args.attempt p.tag p.node c.in-Reply.at n) c.replied.result there c.replied.ensures)
