use Rattle.std.proofs.Common.{◌≡◌, ◌∙◌, List, [], ◌∷◌, sym, ap, subst, rules}
use Rattle.std.proofs.lemmas.List.{map-append}
use Rattle.flume_host.specs.HandedOut.{CameBack}
use Rattle.flume_host.specs.Listens.{Endpoint}
use Rattle.agent_outside.specs.declared.listener.SourceListener.{SourceListener}
use Rattle.agent_outside.specs.Ends.{AreOfSources, AreOut, ListenersBack, comes_back, come_back, end_at, ends_of}
use Rattle.agent_outside.proofs.Ending.{came_none, came_then, ends_append, of_last, out_last, out_rest}
use Rattle.agent_outside.proofs.give.give_back_listeners.Goals as goal

pub loop-listener-init : goal.loop-listener-init
loop-listener-init g c = record { of = c.requires.of; out = c.requires.out; rest = λ end back. back; folders = λ i. g.H.Host.folders c.args.host.now }

pub give_back_listener-requires-clause-listens : goal.give_back_listener-requires-clause-listens
give_back_listener-requires-clause-listens g c κs within =
    let endpoint = g.H.Listener.Listener.endpoint in
    (of_last endpoint c.args.sources.now c.pop.new.self.items c.in-Some.listener
    (subst (λ (l : List (SourceListener g.row.H-Listener.Denot)). AreOfSources endpoint c.args.sources.now l) c.in-Some.ensures.items c.loop-listener.invariant.of)).1

pub give_back_listener-requires-clause-from : goal.give_back_listener-requires-clause-from
give_back_listener-requires-clause-from g c κs within =
    let endpoint = g.H.Listener.Listener.endpoint in
    (of_last endpoint c.args.sources.now c.pop.new.self.items c.in-Some.listener
    (subst (λ (l : List (SourceListener g.row.H-Listener.Denot)). AreOfSources endpoint c.args.sources.now l) c.in-Some.ensures.items c.loop-listener.invariant.of)).2

pub give_back_listener-requires-clause-out : goal.give_back_listener-requires-clause-out
give_back_listener-requires-clause-out g c κs within =
    let sources = c.args.sources.now in
    let back = comes_back g.H.Listener.Listener.told g.H.Listener.Listener.waits g.H.Listener.Listener.faults sources in
    let left = c.pop.new.self.items in
    let one = c.in-Some.listener in
    let backs = come_back g.H.Listener.Listener.told g.H.Listener.Listener.waits g.H.Listener.Listener.faults sources in
    let split = ap (λ (l : List (SourceListener g.row.H-Listener.Denot)). ends_of (backs l)) c.in-Some.ensures.items ∙ ap ends_of (map-append back left (one ∷ [])) ∙ ends_append (backs left) (back one ∷ []) in
    out_last (ends_of (backs left)) (end_at sources one.source) (g.H.Host.state c.loop-listener.host).listeners
    (subst (λ (l : List Endpoint). AreOut l (g.H.Host.state c.loop-listener.host).listeners) split c.loop-listener.invariant.out)

pub loop-listener-preserved : goal.loop-listener-preserved
loop-listener-preserved g c =
    let inv = c.loop-listener.invariant in
    let sources = c.args.sources.now in
    let endpoint = g.H.Listener.Listener.endpoint in
    let back = comes_back g.H.Listener.Listener.told g.H.Listener.Listener.waits g.H.Listener.Listener.faults sources in
    let backs = come_back g.H.Listener.Listener.told g.H.Listener.Listener.waits g.H.Listener.Listener.faults sources in
    let left = c.pop.new.self.items in
    let one = c.in-Some.listener in
    let old = g.H.Host.state c.loop-listener.host in
    let new = g.H.Host.state c.give_back_listener.new.host in
    let last = of_last endpoint sources left one (subst (λ (l : List (SourceListener g.row.H-Listener.Denot)). AreOfSources endpoint sources l) c.in-Some.ensures.items inv.of) in
    let whole = ap backs c.in-Some.ensures.items ∙ map-append back left (one ∷ []) in
    let split = ap ends_of whole ∙ ends_append (backs left) (back one ∷ []) in
    record {
      of = last.0;
      out = out_rest (ends_of (backs left)) (back one) old.listeners new.listeners (subst (λ (l : List Endpoint). AreOut l old.listeners) split inv.out) c.give_back_listener.ensures.back.told;
      rest = λ end came. inv.rest end (subst (λ (l : List CameBack). ListenersBack l old end) (sym whole) (came_then (back one ∷ []) (backs left) old new end c.give_back_listener.ensures.back came));
      folders = c.give_back_listener.ensures.folders ∙ inv.folders;
    }

pub returns-clause-back : goal.returns-clause-back
returns-clause-back g c =
    let none : c.loop-listener.left.items ≡ [] = search rules in
    let state = g.H.Host.state c.loop-listener.host in
    c.loop-listener.invariant.rest state
    (subst (λ (l : List (SourceListener g.row.H-Listener.Denot)). ListenersBack (come_back g.H.Listener.Listener.told g.H.Listener.Listener.waits g.H.Listener.Listener.faults c.args.sources.now l) state state) (sym none) (came_none state))
