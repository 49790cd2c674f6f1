use Rattle.std.proofs.Common.{◌+◌, List, take, sym, subst}
use Rattle.std.proofs.lemmas.Result.{err_from_is_err_and}
use Rattle.regex_steps.specs.declared.groups.Serializer.{Serializer}
use Rattle.regex_steps.specs.Extract.{serializers_of, AreSerializers}
use Rattle.regex_steps.proofs.Serializing.{serializers_more}
use Rattle.regex_steps.proofs.groups.serializers_for.Goals as goal

pub returns-in_err-serializer_for-clause-err : goal.returns-in_err-serializer_for-clause-err
returns-in_err-serializer_for-clause-err c =
    let p = err_from_is_err_and c.from_residual.result c.from_residual.ensures.1 in
    rw (p.1, p.2) (λ bad. (c.loop-group.group-index, c.group-item.result, c.loop-group-test.true, sym c.group-item.is, c.in_err-serializer_for.ensures.err bad))

pub loop-group-preserved : goal.loop-group-preserved
loop-group-preserved c =
    let P : List Serializer → Type 0 = λ made. AreSerializers (take (c.loop-group.group-index + 1) c.args.groups.now) (serializers_of made) in
    subst P (sym c.in_ok-push.ensures.items)
    (serializers_more c.args.groups.now c.loop-group.group-index c.group-item.result c.loop-group.made.items c.in_ok-serializer_for.field-0 c.loop-group-test.true c.group-item.is c.loop-group.invariant c.in_ok-serializer_for.ensures.ok)
