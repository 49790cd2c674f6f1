use Rattle.avro_ends.proofs.Dialogues.{one_dialogue}
use Rattle.avro_ends.proofs.laws.one_session.Goals as goal

pub returns : goal.returns
returns g c = record { dialogue = one_dialogue _ }
