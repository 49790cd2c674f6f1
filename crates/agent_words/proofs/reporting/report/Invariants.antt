use Rattle.serde_json.specs.View.{members_view}
use Rattle.agent_words.proofs.Channels.{Added}
use Rattle.agent_words.proofs.reporting.report.Given as goal

abbrev pub invariant-loop-name : goal.invariant-loop-name
invariant-loop-name l = Added l.name-index l.channels (members_view l.members.entries)
