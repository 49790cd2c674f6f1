use Rattle.std.proofs.Common.{◌≡◌, drop}
use Rattle.grouped_sinks.specs.Rows.{is_grouped}
use Rattle.grouped_sinks.proofs.row.is_grouped.Given as goal

-- those that are left tell as all do
abbrev pub invariant-loop-group : goal.invariant-loop-group
invariant-loop-group l = is_grouped (drop l.group-index l.groups) l.place ≡ is_grouped l.groups l.place
