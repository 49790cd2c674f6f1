use Rattle.avro_hop.proofs.Connection.{one_dialogue_lem, dialogues_join, serials_are_kept, ends_are_final}
use Rattle.avro_hop.proofs.laws.one_dialogue.Goals as goal

pub returns-clause-one : goal.returns-clause-one
returns-clause-one c = one_dialogue_lem

pub returns-clause-join : goal.returns-clause-join
returns-clause-join c = dialogues_join

pub returns-clause-serials : goal.returns-clause-serials
returns-clause-serials c = serials_are_kept

pub returns-clause-ends : goal.returns-clause-ends
returns-clause-ends c = ends_are_final
