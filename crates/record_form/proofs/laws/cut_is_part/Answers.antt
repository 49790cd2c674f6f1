use Rattle.record_form.proofs.Cuts.{cut-part}
use Rattle.record_form.proofs.laws.cut_is_part.Goals as goal

pub returns : goal.returns
returns c = cut-part
