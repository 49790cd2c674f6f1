use Rattle.std.proofs.lemmas.Result.{err_from_is_err_and}
use Rattle.record_form.proofs.Steps.{body-cut, body-fault, body-answers}
use Rattle.record_form.proofs.reading.body_end.Goals as goal

pub returns-in_err-length-clause-reads : goal.returns-in_err-length-clause-reads
returns-in_err-length-clause-reads c txn headers =
    let p = err_from_is_err_and c.from_residual.result c.from_residual.ensures.1 in
    rw (p.1, p.2, c.in_err-length.ensures.1) (body-cut txn c.args.end c.args.at headers c.args.bytes.now c.requires.within c.in_err-length.ensures.0)

pub returns-then-at-length-clause-reads : goal.returns-then-at-length-clause-reads
returns-then-at-length-clause-reads c txn headers = body-fault txn c.args.end c.args.at headers c.args.bytes.now c.in_ok-length.field-0 c.in_ok-length.ensures.0 c.in_ok-length.ensures.1 c.if-at-length.true

pub returns-clause-reads : goal.returns-clause-reads
returns-clause-reads c txn headers = body-answers txn c.args.end c.args.at headers c.args.bytes.now c.in_ok-length.field-0 c.skip.result c.in_ok-length.ensures.0 c.in_ok-length.ensures.1 c.if-at-length.false c.skip.ensures
