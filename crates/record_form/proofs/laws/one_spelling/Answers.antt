use Rattle.record_form.proofs.Again.{one-spelling}
use Rattle.record_form.proofs.laws.one_spelling.Goals as goal

pub returns : goal.returns
returns c = one-spelling
