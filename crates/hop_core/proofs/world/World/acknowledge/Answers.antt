use Rattle.std.proofs.Common.{rules, ◌≡◌, ◌∙◌, ◌<◌, ◌++◌, ◌∷◌, [], List, length, refl, ap, Some, None}
use Rattle.std.specs.List.{slice_get, slice_set}
use Rattle.std.proofs.lemmas.Option.{slice_get_read}
use Rattle.world_laws.specs.World.{Packet}
use Rattle.world_laws.specs.Steps as Steps
use Rattle.hop_core.specs.contracts.world.World.{the_view}
use Rattle.hop_core.proofs.Worlds.{at_sent, at_none, node_stays}
use Rattle.hop_core.proofs.world.World.acknowledge.Goals as goal

pub returns-in_default : goal.returns-in_default
returns-in_default c =
    let w = the_view c.self.inside in
    let within : c.args.node < length w.nodes = search rules in
    let there : slice_get w.nodes (c.args.node) ≡ Some c.index_mut.result.now = slice_get_read w.nodes (length w.nodes) (c.args.node) c.index_mut.result.now refl within c.index_mut.ensures.value in
    let no : (Steps.acknowledge c.args.node c.args.work c.index_mut.result.now ≡ None) × (c.acknowledge.new.self ≡ c.index_mut.result.now) = search rules in
    let kept : c.reserve.new.self.items ≡ w.sent = c.reserve.ensures.items in
    let same = node_stays w c.args.node c.index_mut.result.now c.acknowledge.new.self there no.1 in (
      rw (← c.self.view_is) (at_none w c.args.node c.index_mut.result.now (Steps.acknowledge c.args.node c.args.work) there no.0),
      ap (λ (sent : List Packet). record w { nodes = slice_set w.nodes c.args.node c.acknowledge.new.self; sent = sent }) kept ∙ (same ∙ c.self.view_is),
    )

pub returns : goal.returns
returns c =
    let w = the_view c.self.inside in
    let within : c.args.node < length w.nodes = search rules in
    let there : slice_get w.nodes (c.args.node) ≡ Some c.index_mut.result.now = slice_get_read w.nodes (length w.nodes) (c.args.node) c.index_mut.result.now refl within c.index_mut.ensures.value in
    let did : Steps.acknowledge c.args.node c.args.work c.index_mut.result.now ≡ Some (c.acknowledge.new.self, c.in-Some.reply ∷ []) = search rules in
    let more : c.push_within.new.list.items ≡ w.sent ++ c.in-Some.reply ∷ [] = search rules in
    rw (← c.self.view_is) (at_sent w c.args.node c.index_mut.result.now c.acknowledge.new.self (Steps.acknowledge c.args.node c.args.work) c.in-Some.reply c.push_within.new.list.items there did more)
