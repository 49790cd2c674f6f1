use Rattle.std.proofs.Common.{◌≤◌, ℕ, sym, subst}
use Rattle.std.specs.Vec.{vec_capacity}
use Rattle.flume_host.specs.Listens.{IsFrom}
use Rattle.agent_outside.specs.Ends.{end_at}
use Rattle.run_tracks.proofs.Homing.{zips_length}
use Rattle.run_opening.proofs.Naming.{of_named, out_named}
use Rattle.run_opening.proofs.outside.give_listeners.Goals as goal

pub with_places-requires-clause-many : goal.with_places-requires-clause-many
with_places-requires-clause-many g c =
    let sources = c.args.sources.now in
    sym (zips_length (λ place listener. IsFrom (end_at sources place).host (end_at sources place).port (g.H.Listener.Listener.endpoint listener))
    c.args.places.now c.args.listeners.items c.requires.from)

pub with_places-requires-clause-room : goal.with_places-requires-clause-room
with_places-requires-clause-room g c =
    let sources = c.args.sources.now in
    subst (λ (n : ℕ). n ≤ vec_capacity c.args.room)
    (zips_length (λ place listener. IsFrom (end_at sources place).host (end_at sources place).port (g.H.Listener.Listener.endpoint listener))
    c.args.places.now c.args.listeners.items c.requires.from)
    c.requires.room.1

pub give_back_listeners-requires-clause-of : goal.give_back_listeners-requires-clause-of
give_back_listeners-requires-clause-of g c κs within =
    of_named g.H.Listener.Listener.endpoint c.args.sources.now c.args.places.now c.args.listeners.items c.with_places.new.named.items c.with_places.ensures.with c.requires.from c.requires.listen

pub give_back_listeners-requires-clause-out : goal.give_back_listeners-requires-clause-out
give_back_listeners-requires-clause-out g c κs within =
    out_named g.H.Listener.Listener.told g.H.Listener.Listener.waits g.H.Listener.Listener.faults c.args.sources.now c.args.places.now c.args.listeners.items c.with_places.new.named.items (g.H.Host.state c.args.host.now).listeners
    c.with_places.ensures.with c.requires.out
