use Rattle.std.proofs.Common.{◌≡◌, ◌++◌, take}
use Rattle.std.specs.List.{flat_map}
use Rattle.avro_binary.specs.Written.{written_event}
use Rattle.avro_binary.proofs.write.add_events.Given as goal

abbrev pub invariant-events : goal.invariant-events
invariant-events l = l.out.items ≡ l.fn.out.items ++ flat_map written_event (take l.i l.batch)
