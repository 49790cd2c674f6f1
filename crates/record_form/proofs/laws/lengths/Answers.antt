use Rattle.record_form.proofs.Again.{length-spelling}
use Rattle.record_form.proofs.laws.lengths.Goals as goal

pub returns : goal.returns
returns c = length-spelling
