use Rattle.std.proofs.Common.{Option, map, refl, sym, subst}
use Rattle.flume_host.specs.HandedOut.{HandedOut}
use Rattle.agent_outside.specs.Ends.{AreOut, come_back, end_at}
use Rattle.agent_run.proofs.Given.{from_back, same_listeners, streams_but, then_back}
use Rattle.agent_run.proofs.joined.run_crew.Goals as goal

pub give_listeners-requires-clause-from : goal.give_listeners-requires-clause-from
give_listeners-requires-clause-from g c κs within =
    from_back g.H.Listener.Listener.endpoint c.args.sources.now c.args.places.now c.args.jobs.listeners.items c.run_jobs-sinks.result.listeners.items c.requires.from c.run_jobs-sinks.ensures.ends

pub give_listeners-requires-clause-out : goal.give_listeners-requires-clause-out
give_listeners-requires-clause-out g c κs within =
    let old = g.H.Host.state c.args.host.now in
    let mid = g.H.Host.state c.keep_streams-streams.new.host in
    let kept = c.keep_streams-streams.ensures.kept in
    let but = streams_but g.H.Source.Source.left g.H.Source.Source.faults g.H.Sink.Sink.took g.H.Sink.Sink.handed g.H.Sink.Sink.faults
    c.run_jobs-sinks.result.drains.items c.run_jobs-sinks.result.lines.items old kept.0 mid kept.1 kept.2 in
    subst (λ (l : Option HandedOut). AreOut (map (end_at c.args.sources.now) c.args.places.now) l) (sym (same_listeners old mid but)) c.requires.out

pub returns-clause-joined : goal.returns-clause-joined
returns-clause-joined g c =
    let kept = c.keep_streams-streams.ensures.kept in
    let given = c.give_listeners.ensures.back in
    record {
      returned = c.run_jobs-sinks.result;
      back = c.run_jobs-sinks.ensures.back;
      sinks = refl;
      streams = c.keep_streams-streams.ensures.ended;
      behind_drains = kept.0;
      behind_lines = g.H.Host.state c.keep_streams-streams.new.host;
      drains = kept.1;
      lines = kept.2;
      listeners = given;
    }

pub returns-clause-rest : goal.returns-clause-rest
returns-clause-rest g c =
    let old = g.H.Host.state c.args.host.now in
    let mid = g.H.Host.state c.keep_streams-streams.new.host in
    let kept = c.keep_streams-streams.ensures.kept in
    let given = c.give_listeners.ensures.back in
    let but = streams_but g.H.Source.Source.left g.H.Source.Source.faults g.H.Sink.Sink.took g.H.Sink.Sink.handed g.H.Sink.Sink.faults
    c.run_jobs-sinks.result.drains.items c.run_jobs-sinks.result.lines.items old kept.0 mid kept.1 kept.2 in
    then_back (come_back g.H.Listener.Listener.told g.H.Listener.Listener.waits g.H.Listener.Listener.faults c.args.sources.now given.named) old mid (g.H.Host.state c.give_listeners.new.host) but given.back
