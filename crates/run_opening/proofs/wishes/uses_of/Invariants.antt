use Rattle.std.proofs.Common.{◌≡◌, ◌++◌, map, take}
use Rattle.grouped_sinks.specs.declared.row.SinkRow.{SinkRow}
use Rattle.run_opening.specs.declared.seats.KeepSeat.{KeepSeat}
use Rattle.run_opening.proofs.wishes.uses_of.Given as goal

abbrev pub invariant-loop-keeper : goal.invariant-loop-keeper
invariant-loop-keeper g l = l.uses.items ≡ map (λ (seat : KeepSeat g.row.C.Denot). seat.channel) (take l.keeper-index l.keepers)

abbrev pub invariant-loop-sink : goal.invariant-loop-sink
invariant-loop-sink g l = l.uses.items ≡ map (λ (seat : KeepSeat g.row.C.Denot). seat.channel) l.keepers ++ map (λ (plan : SinkRow). plan.channel) (take l.sink-index l.sinks)
