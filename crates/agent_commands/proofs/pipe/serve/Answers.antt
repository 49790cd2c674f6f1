use Rattle.line_session.specs.Sessions.{ends_of}
use Rattle.agent_commands.specs.Handled.{ends_run}
use Rattle.agent_commands.specs.Puts.{PutsLine}
use Rattle.agent_commands.specs.Trails.{traced_by}
use Rattle.agent_commands.specs.declared.pipe.PassLines.{PassLines}
use Rattle.agent_commands.specs.declared.traced.TracedChannel.{TracedChannel}
use Rattle.agent_commands.proofs.Outcomes.{host_cause, host_handed, host_later, host_served, viewed}
use Rattle.agent_commands.proofs.pipe.serve.Goals as goal

pub returns-clause-served : goal.returns-clause-served
returns-clause-served g c =
    let Takes = PutsLine (traced_by g.H.Disk.Disk.told g.H.Disk.Disk.faults) in
    let L = PassLines g.row.R.Denot (TracedChannel g.row.H-Disk.Denot) in
    host_served _ _ _ _ _ _ _ _ _ _ _ _ _ _ c.take_input-source.ensures.left c.take_input-source.ensures.state c.take_output-sink.ensures.took c.take_output-sink.ensures.state
    c.keep_input.ensures.state.1 c.keep_input.ensures.state.2 c.keep_output.ensures.state.1 c.keep_output.ensures.state.2
    Takes c.serve_lines-end.result c.args.lines.now.port.pass c.serve_lines-end.new.store.port.pass
    (viewed (λ (l : L). l.port.pass) Takes _ _ ends_run
    (ends_of (g.H.Source.Source.left c.take_input-source.result) c.args.lines.now (g.H.Sink.Sink.took c.take_output-sink.result))
    (ends_of (g.H.Source.Source.left c.serve_lines-end.new.source) c.serve_lines-end.new.store (g.H.Sink.Sink.took c.serve_lines-end.new.sink))
    c.serve_lines-end.result c.serve_lines-end.ensures.served)

pub returns-clause-cause : goal.returns-clause-cause
returns-clause-cause g c =
    host_cause _ _ _ _ _ _ _ _ _ _ _ _ _ _ c.take_input-source.ensures.left c.take_input-source.ensures.state c.take_output-sink.ensures.took c.take_output-sink.ensures.state
    c.keep_input.ensures.state.1 c.keep_input.ensures.state.2 c.keep_output.ensures.state.1 c.keep_output.ensures.state.2
    c.serve_lines-end.result _ _ c.take_input-source.ensures.count c.take_output-sink.ensures.count c.serve_lines-end.ensures.cause

pub returns-clause-later : goal.returns-clause-later
returns-clause-later g c =
    host_later _ _ _ _ _ _ _ _ _ _ _ _ _ _ c.take_input-source.ensures.left c.take_input-source.ensures.state c.take_output-sink.ensures.took c.take_output-sink.ensures.state
    c.keep_input.ensures.state.1 c.keep_input.ensures.state.2 c.keep_output.ensures.state.1 c.keep_output.ensures.state.2

pub returns-clause-handed : goal.returns-clause-handed
returns-clause-handed g c = λ not.
    host_handed _ _ _ _ _ _ _ _ _ _ _ _ _ _ c.take_input-source.ensures.left c.take_input-source.ensures.state c.take_output-sink.ensures.took c.take_output-sink.ensures.state
    c.keep_input.ensures.state.1 c.keep_input.ensures.state.2 c.keep_output.ensures.state.1 c.keep_output.ensures.state.2 (c.serve_lines-end.ensures.handed not)
