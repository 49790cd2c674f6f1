use Rattle.std.proofs.Common.{rules, ◌≡◌, ◌∙◌, ◌<◌, ◌++◌, ◌∷◌, [], List, length, drop, refl, ap, Option, Some, None}
use Rattle.std.specs.Vec.{with_items}
use Rattle.std.specs.List.{slice_get, slice_set}
use Rattle.std.proofs.lemmas.Option.{slice_get_read}
use Rattle.std.proofs.lemmas.Result.{err_from_is_err_and}
use Rattle.world_laws.specs.World.{Attempt, Node, live}
use Rattle.hop_core.specs.contracts.node.Node.{the_view}
use Rattle.hop_core.specs.contracts.work.OpenAttempt.{the_view as attempt_view}
use Rattle.world_laws.specs.Channels.{taken}
use Rattle.hop_core.proofs.Nodes.{written_back, take_one_done}
use Rattle.hop_core.proofs.node.Node.take_one.Goals as goal

pub returns-in_err-add_event : goal.returns-in_err-add_event
returns-in_err-add_event c =
    let node : Node = the_view c.self.inside in
    let value : c.deref_mut.result.now ≡ node.attempts = search rules in
    let same : c.add_event.new.attempts ≡ node.attempts = c.in_err-add_event.ensures.err ∙ value in
    let back_size : length c.add_event.new.attempts ≡ c.self.inside.attempts.len = search rules in
    let back : (with_items c.self.inside.attempts c.add_event.new.attempts).items ≡ c.add_event.new.attempts = written_back c.self.inside.attempts.len c.add_event.new.attempts (drop (length c.add_event.new.attempts) c.self.inside.attempts.items) back_size in
    let told = err_from_is_err_and c.from_residual-in_err-add_event.result c.from_residual-in_err-add_event.ensures.1 in
    let kept : record node { attempts = (with_items c.self.inside.attempts c.add_event.new.attempts).items } ≡ node = ap (λ (all : List (Option Attempt)). record node { attempts = all }) (back ∙ same) in
    rw (told.1) (kept ∙ c.self.view_is)

pub returns : goal.returns
returns c =
    let node = the_view c.self.inside in
    let within : c.args.channel < length node.channels = search rules in
    let at : slice_get node.channels c.args.channel ≡ Some c.index.result.now = slice_get_read node.channels (length node.channels) c.args.channel c.index.result.now refl within c.index.ensures in
    let a = c.attempt.inside in
    let alive : live node.attempts c.args.number ≡ Some (attempt_view a) = search rules in
    let own : a.channel ≡ c.args.channel = c.if-attempt-channel.false in
    let sent : a.tag ≡ None = search rules in
    let undelivered : a.delivery ≡ None = search rules in
    let got : taken (attempt_view a).token c.index.result.now ≡ Some (c.in-Some-2.new, c.in-Some-2.event) = search rules in
    let value : c.deref_mut.result.now ≡ node.attempts = search rules in
    let there : live c.deref_mut.result.now c.args.number ≡ Some (attempt_view a) = rw value alive in
    let said = c.in_ok-add_event.ensures.ok (attempt_view a) there in
    let changed : c.add_event.new.attempts ≡ slice_set node.attempts c.args.number (Some (record (attempt_view a) { events = a.events ++ c.in-Some-2.event ∷ [] })) = cc in
    let back_size : length c.add_event.new.attempts ≡ c.self.inside.attempts.len = search rules in
    let back : (with_items c.self.inside.attempts c.add_event.new.attempts).items ≡ c.add_event.new.attempts = written_back c.self.inside.attempts.len c.add_event.new.attempts (drop (length c.add_event.new.attempts) c.self.inside.attempts.items) back_size in
    rw (← c.self.view_is) (take_one_done node c.args.number c.args.channel (attempt_view a) c.index.result.now c.in-Some-2.new c.in-Some-2.event (with_items c.self.inside.attempts c.add_event.new.attempts).items alive own at got sent undelivered (back ∙ changed))
