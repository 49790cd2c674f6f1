use Rattle.std.proofs.Common.{◌≡◌, drop}
use Rattle.grouped_sinks.specs.Rows.{is_among}
use Rattle.grouped_sinks.proofs.row.is_among.Given as goal

-- those that are left tell as all do
abbrev pub invariant-loop-other : goal.invariant-loop-other
invariant-loop-other l = is_among (drop l.other-index l.places) l.place ≡ is_among l.places l.place
