use Rattle.std.proofs.Common.{List, ◌-◌, length}
use Rattle.event_core.specs.Content.{Content}
use Rattle.avro_binary.specs.Event.{IsEvent, EventFault}
use Rattle.avro_binary.specs.Found.{Collects}
use Rattle.avro_binary.proofs.Blocks.{Reached}
use Rattle.avro_binary.proofs.event.read_batch.Given as goal

abbrev pub invariant-events : goal.invariant-events
invariant-events l = (events : List Content) × Reached IsEvent EventFault l.bytes l.at l.place l.left events × Collects events l.batch l.large

abbrev pub decreases-events : goal.decreases-events
decreases-events l = length l.bytes - l.place
