use Rattle.std.proofs.Common.{rules, ◌≡◌, ◌∙◌, ◌<◌, ◌++◌, ◌∷◌, [], List, length, refl, ap, Some, None, true}
use Rattle.std.specs.List.{slice_get, slice_set}
use Rattle.std.proofs.lemmas.Option.{slice_get_read}
use Rattle.world_laws.specs.World.{World, Packet}
use Rattle.world_laws.specs.Steps as Steps
use Rattle.hop_core.specs.contracts.world.World.{the_view}
use Rattle.hop_core.proofs.Worlds.{at_sent, at_none, node_stays, fresh_is}
use Rattle.hop_core.proofs.world.World.send.Goals as goal

pub returns-in_default : goal.returns-in_default
returns-in_default c =
    let w = the_view c.self.inside in
    let within : c.args.node < length w.nodes = search rules in
    let there : slice_get w.nodes (c.args.node) ≡ Some c.index_mut.result.now = slice_get_read w.nodes (length w.nodes) (c.args.node) c.index_mut.result.now refl within c.index_mut.ensures.value in
    let known : Steps.is_fresh c.args.tag c.args.self.now.sent ≡ true = search rules in
    let fresh : Steps.is_fresh c.args.tag w.sent ≡ true = ap (λ (v : World). Steps.is_fresh c.args.tag v.sent) c.self.view_is ∙ known in
    let no : (Steps.send c.args.attempt c.args.to c.args.tag c.index_mut.result.now ≡ None) × (c.send.new.self ≡ c.index_mut.result.now) = search rules in
    let kept : c.reserve.new.self.items ≡ w.sent = c.reserve.ensures.items in
    let same = node_stays w c.args.node c.index_mut.result.now c.send.new.self there no.1 in (
      rw (← c.self.view_is) (fresh_is w c.args.tag (Steps.at w c.args.node (Steps.send c.args.attempt c.args.to c.args.tag)) fresh ∙ at_none w c.args.node c.index_mut.result.now (Steps.send c.args.attempt c.args.to c.args.tag) there no.0),
      ap (λ (sent : List Packet). record w { nodes = slice_set w.nodes c.args.node c.send.new.self; sent = sent }) kept ∙ (same ∙ c.self.view_is),
    )

pub returns : goal.returns
returns c =
    let w = the_view c.self.inside in
    let within : c.args.node < length w.nodes = search rules in
    let there : slice_get w.nodes (c.args.node) ≡ Some c.index_mut.result.now = slice_get_read w.nodes (length w.nodes) (c.args.node) c.index_mut.result.now refl within c.index_mut.ensures.value in
    let known : Steps.is_fresh c.args.tag c.args.self.now.sent ≡ true = search rules in
    let fresh : Steps.is_fresh c.args.tag w.sent ≡ true = ap (λ (v : World). Steps.is_fresh c.args.tag v.sent) c.self.view_is ∙ known in
    let did : Steps.send c.args.attempt c.args.to c.args.tag c.index_mut.result.now ≡ Some (c.send.new.self, c.in-Some.request ∷ []) = search rules in
    let more : c.push_within.new.list.items ≡ w.sent ++ c.in-Some.request ∷ [] = search rules in
    rw (← c.self.view_is) (fresh_is w c.args.tag (Steps.at w c.args.node (Steps.send c.args.attempt c.args.to c.args.tag)) fresh ∙ at_sent w c.args.node c.index_mut.result.now c.send.new.self (Steps.send c.args.attempt c.args.to c.args.tag) c.in-Some.request c.push_within.new.list.items there did more)
