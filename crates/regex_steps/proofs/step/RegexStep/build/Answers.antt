use Rattle.std.proofs.Common.{List, inr, subst}
use Rattle.regex_steps.specs.declared.keys.Group.{Group}
use Rattle.regex_steps.specs.Extract.{HasBadDate}
use Rattle.std.proofs.lemmas.Result.{err_from_is_err_and}
use Rattle.regex_steps.proofs.step.RegexStep.build.Goals as goal

pub returns-in_err-serializers-in-Extract-clause-err : goal.returns-in_err-serializers-in-Extract-clause-err
returns-in_err-serializers-in-Extract-clause-err c =
    let p = err_from_is_err_and c.from_residual-in_err-serializers-in-Extract.result c.from_residual-in_err-serializers-in-Extract.ensures.1 in
    let P : List Group → Type 0 = λ groups. HasBadDate groups in
    rw (p.1, p.2) (λ bad. rw c.in-Extract.is (inr (subst P c.deref.ensures.value (c.in_err-serializers-in-Extract.ensures.err bad))))
