-- The types that are looked for.
use Rattle.std.specs.Prelude.{Bool}
use Rattle.serde_json.specs.Data.{Data}
use Rattle.avro_hop.specs.declared.types.Sought.{Sought}
use Rattle.avro_hop.specs.declared.types.Sought.TheVariants.{Status, Event, Other}
use Rattle.avro_hop.specs.Accepted.{is_status, is_event, is_other}

abbrev pub is_sought : Sought → Data → Bool
is_sought Status d = is_status d
is_sought Event d = is_event d
is_sought Other d = is_other d
