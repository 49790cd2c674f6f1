use Rattle.std.proofs.Common.{[], ◌∷◌, sym, subst, arith}
use Rattle.flume_host.specs.HandedOut.{IsOut}
use Rattle.flume_host.specs.Listens.{Endpoint}
use Rattle.agent_outside.specs.Ends.{ListenersBack, end_at, end_back}
use Rattle.agent_outside.proofs.Ending.{below_listens, end_here, from_here, listens_here, out_own}
use Rattle.agent_outside.proofs.give.give_back_listener.Goals as goal

pub bounds-sources-listener : goal.bounds-sources-listener
bounds-sources-listener g c = below_listens c.args.sources.now c.args.listener.source c.requires.listens

pub offset_bounds-sources-listener : goal.offset_bounds-sources-listener
offset_bounds-sources-listener g c =
    let wide = c.well_formed.1.0.1 in
    omega (arith, wide, below_listens c.args.sources.now c.args.listener.source c.requires.listens)

pub give_back_end-requires-clause-listens : goal.give_back_end-requires-clause-listens
give_back_end-requires-clause-listens g c κs within = listens_here c.args.sources.now c.args.listener.source c.index-sources-listener.result c.requires.listens

pub give_back_end-requires-clause-from : goal.give_back_end-requires-clause-from
give_back_end-requires-clause-from g c κs within =
    let sources = c.args.sources.now in
    let place = c.args.listener.source in
    from_here g.H.Listener.Listener.endpoint sources place c.index-sources-listener.result c.args.listener.listener (below_listens sources place c.requires.listens) c.requires.from

pub give_back_end-requires-clause-out : goal.give_back_end-requires-clause-out
give_back_end-requires-clause-out g c κs within =
    let sources = c.args.sources.now in
    let place = c.args.listener.source in
    let state = (g.H.Host.state c.args.host.now).listeners in
    subst (λ (e : Endpoint). IsOut e.host e.port state) (end_here sources place c.index-sources-listener.result (below_listens sources place c.requires.listens)) (out_own (end_at sources place) state c.requires.out)

pub returns-clause-back : goal.returns-clause-back
returns-clause-back g c =
    let sources = c.args.sources.now in
    let place = c.args.listener.source in
    let old = g.H.Host.state c.args.host.now in
    let new = g.H.Host.state c.give_back_end.new.host in
    subst (λ (e : Endpoint). ListenersBack (end_back g.H.Listener.Listener.told g.H.Listener.Listener.waits g.H.Listener.Listener.faults e c.args.listener.listener ∷ []) old new)
    (sym (end_here sources place c.index-sources-listener.result (below_listens sources place c.requires.listens))) c.give_back_end.ensures.back
