use Rattle.std.proofs.Common.{IfErr, OnOk, subst, sym, arith}
use Rattle.flume_host.specs.Listens.{Endpoint}
use Rattle.flume_host.specs.declared.names.NameRefused.{NameRefused}
use Rattle.agent_outside.specs.Listening.{IsFresh, ListenerAdded, ListenerUnopened}
use Rattle.agent_outside.proofs.Ending.{below_listens, end_here, listens_here}
use Rattle.agent_outside.proofs.listeners.add_listener.Goals as goal

pub bounds-sources-place : goal.bounds-sources-place
bounds-sources-place g c = below_listens c.args.sources.now c.args.place c.requires

pub offset_bounds-sources-place : goal.offset_bounds-sources-place
offset_bounds-sources-place g c =
    let wide = c.well_formed.1.0.1 in
    omega (arith, wide, below_listens c.args.sources.now c.args.place c.requires)

pub add_end-requires-after_bounds : goal.add_end-requires-after_bounds
add_end-requires-after_bounds g c κs within = listens_here c.args.sources.now c.args.place c.index-sources-place.result c.requires

pub returns-clause-added : goal.returns-clause-added
returns-clause-added g c =
    let fresh = IsFresh g.H.Listener.Listener.told g.H.Listener.Listener.endpoint g.H.Listener.Listener.waits g.H.Listener.Listener.faults in
    subst (λ (e : Endpoint). OnOk c.add_end.result (ListenerAdded fresh e c.args.place (g.H.Host.state c.args.host.now) (g.H.Host.state c.add_end.new.host) c.args.listeners.now.items c.add_end.new.listeners.items))
    (sym (end_here c.args.sources.now c.args.place c.index-sources-place.result (below_listens c.args.sources.now c.args.place c.requires))) c.add_end.ensures.added

pub returns-clause-refused : goal.returns-clause-refused
returns-clause-refused g c =
    subst (λ (e : Endpoint). IfErr c.add_end.result (λ (refused : NameRefused). ListenerUnopened refused e (g.H.Host.state c.args.host.now) (g.H.Host.state c.add_end.new.host)))
    (sym (end_here c.args.sources.now c.args.place c.index-sources-place.result (below_listens c.args.sources.now c.args.place c.requires))) c.add_end.ensures.refused
