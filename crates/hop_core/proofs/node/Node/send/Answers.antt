use Rattle.std.proofs.Common.{rules, ◌≡◌, ◌∙◌, ◌<◌, length, drop, refl, Some, None, true}
use Rattle.std.specs.Vec.{with_items}
use Rattle.std.specs.List.{slice_get, slice_set}
use Rattle.std.proofs.lemmas.Option.{slice_get_read}
use Rattle.event_core.specs.Journal.{is_among}
use Rattle.world_laws.specs.World.{live}
use Rattle.hop_core.specs.contracts.node.Node.{the_view}
use Rattle.hop_core.specs.contracts.work.OpenAttempt.{the_view as attempt_view}
use Rattle.hop_core.proofs.Nodes.{written_back, send_done}
use Rattle.hop_core.proofs.node.Node.send.Goals as goal

pub returns : goal.returns
returns c =
    let node = the_view c.self.inside in
    let a = c.attempt.inside in
    let alive : live node.attempts c.args.number ≡ Some (attempt_view a) = search rules in
    let within : a.channel < length node.channels = search rules in
    let at : slice_get node.channels a.channel ≡ Some c.index.result.now = slice_get_read node.channels (length node.channels) a.channel c.index.result.now refl within c.index.ensures in
    let undelivered : a.delivery ≡ None = search rules in
    let later : is_among c.index.result.now.later c.args.to ≡ true = search rules in
    let batch : c.in_ok-batch.batch ≡ a.events = search rules in
    let value : c.deref_mut.result.now ≡ node.attempts = search rules in
    let there : live c.deref_mut.result.now c.args.number ≡ Some (attempt_view a) = rw value alive in
    let said = c.set_tag.ensures (attempt_view a) there in
    let changed : c.set_tag.new.attempts ≡ slice_set node.attempts c.args.number (Some (record (attempt_view a) { tag = Some c.args.tag })) = cc in
    let size : length c.set_tag.new.attempts ≡ c.self.inside.attempts.len = search rules in
    let back : (with_items c.self.inside.attempts c.set_tag.new.attempts).items ≡ c.set_tag.new.attempts = written_back c.self.inside.attempts.len c.set_tag.new.attempts (drop (length c.set_tag.new.attempts) c.self.inside.attempts.items) size in
    rw (batch, ← c.self.view_is) (send_done node c.args.number c.args.to c.args.tag (attempt_view a) c.index.result.now (with_items c.self.inside.attempts c.set_tag.new.attempts).items alive at undelivered later (back ∙ changed))
