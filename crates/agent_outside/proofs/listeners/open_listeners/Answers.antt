use Rattle.std.proofs.Common.{◌∙◌, ℕ, List, map, take, get_or, All, sym, ap, subst}
use Rattle.std.proofs.lemmas.List.{take_more}
use Rattle.flume_host.specs.Listens.{Endpoint}
use Rattle.agent_outside.specs.declared.listener.SourceListener.{SourceListener}
use Rattle.agent_outside.specs.Ends.{AreOfSources, AreOut, ListensAt, ListenersBack, come_back, end_at, ends_of}
use Rattle.agent_outside.specs.Listening.{IsFresh, ListenersOpened}
use Rattle.agent_outside.proofs.Listening.{all_take, counted, ends_opened, may_come_back, of_opened, opened_then, refused_then}
use Rattle.agent_outside.proofs.listeners.open_listeners.Goals as goal

pub give_back_listeners-requires-clause-of : goal.give_back_listeners-requires-clause-of
give_back_listeners-requires-clause-of g c κs within =
    let sources = c.args.sources.now in
    let opened = c.loop-place.invariant.opened in
    let endpoint = g.H.Listener.Listener.endpoint in
    let listen = subst (All (ListensAt sources)) (sym opened.order) (all_take (ListensAt sources) c.loop-place.place-index c.args.places.now c.requires) in
    subst (λ (l : List (SourceListener g.row.H-Listener.Denot)). AreOfSources endpoint sources l) (sym c.in-Err.ensures.same)
    (of_opened g.H.Listener.Listener.told endpoint g.H.Listener.Listener.waits g.H.Listener.Listener.faults sources (g.H.Host.state c.args.host.now).listeners c.loop-place.listeners.items listen opened.fresh_each)

pub give_back_listeners-requires-clause-out : goal.give_back_listeners-requires-clause-out
give_back_listeners-requires-clause-out g c κs within =
    let sources = c.args.sources.now in
    let opened = c.loop-place.invariant.opened in
    let told = g.H.Listener.Listener.told in
    let waits = g.H.Listener.Listener.waits in
    let faults = g.H.Listener.Listener.faults in
    let done = take c.loop-place.place-index c.args.places.now in
    let new = g.H.Host.state c.add_listener.new.host in
    let un = c.in-Err.ensures.refused in
    let ends = ends_opened told g.H.Listener.Listener.endpoint waits faults sources c.loop-place.listeners.items ∙ ap (map (end_at sources)) opened.order in
    subst (λ (l : List (SourceListener g.row.H-Listener.Denot)). AreOut (ends_of (come_back told waits faults sources l)) new.listeners) (sym c.in-Err.ensures.same)
    (subst (λ (l : List Endpoint). AreOut l new.listeners) (sym ends) (may_come_back (map (end_at sources) done) un.ends c.in-Err.refused (g.H.Host.state c.args.host.now) (g.H.Host.state c.loop-place.host) new opened.out un.back))

pub returns-in-Err-clause-refused : goal.returns-in-Err-clause-refused
returns-in-Err-clause-refused g c =
    let sources = c.args.sources.now in
    let places = c.args.places.now in
    let i = c.loop-place.place-index in
    let told = g.H.Listener.Listener.told in
    let waits = g.H.Listener.Listener.waits in
    let faults = g.H.Listener.Listener.faults in
    let start = g.H.Host.state c.args.host.now in
    let old = g.H.Host.state c.loop-place.host in
    let new = g.H.Host.state c.add_listener.new.host in
    let end = g.H.Host.state c.give_back_listeners.new.host in
    let un = c.in-Err.ensures.refused in
    let back = subst (λ (l : List (SourceListener g.row.H-Listener.Denot)). ListenersBack (come_back told waits faults sources l) new end) c.in-Err.ensures.same c.give_back_listeners.ensures.back in
    counted sources places i c.in-Err.refused start end un.ends c.loop-place-test.true un.which
    (refused_then told g.H.Listener.Listener.endpoint waits faults sources (take i places) (end_at sources (get_or places i 0)) c.in-Err.refused start old new end c.loop-place.listeners.items c.loop-place.invariant.opened un back)

pub loop-place-preserved : goal.loop-place-preserved
loop-place-preserved g c =
    let sources = c.args.sources.now in
    let places = c.args.places.now in
    let i = c.loop-place.place-index in
    let told = g.H.Listener.Listener.told in
    let endpoint = g.H.Listener.Listener.endpoint in
    let waits = g.H.Listener.Listener.waits in
    let faults = g.H.Listener.Listener.faults in
    let start = g.H.Host.state c.args.host.now in
    let old = g.H.Host.state c.loop-place.host in
    let new = g.H.Host.state c.add_listener.new.host in
    let after = c.add_listener.new.listeners.items in
    record {
      opened = subst (λ (l : List ℕ). ListenersOpened (IsFresh told endpoint waits faults) sources l start new after) (sym (take_more places i 0 c.loop-place-test.true))
          (opened_then told endpoint waits faults sources (take i places) (get_or places i 0) start old new c.loop-place.listeners.items after c.loop-place.invariant.opened c.in_default.ensures.added);
      folders = c.in_default.ensures.folders ∙ c.loop-place.invariant.folders;
    }
