use Rattle.grouped_sinks.specs.Rows.{IsOfGroup, JoinedBy, has_sinks, places_where}
use Rattle.grouped_sinks.proofs.row.add_groups.Given as goal

abbrev pub invariant-loop-at : goal.invariant-loop-at
invariant-loop-at l = JoinedBy (IsOfGroup l.sinks l.groups) (places_where (has_sinks l.groups) l.at) l.initial.rows.items l.rows.items
