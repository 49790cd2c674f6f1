use Rattle.avro_hop.proofs.Within.{types_are_found, field_types_are_found}
use Rattle.avro_hop.proofs.laws.types_at_any_depth.Goals as goal

pub returns-clause-types : goal.returns-clause-types
returns-clause-types c = types_are_found

pub returns-clause-fields : goal.returns-clause-fields
returns-clause-fields c = field_types_are_found
