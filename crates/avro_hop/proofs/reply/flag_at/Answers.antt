use Rattle.std.proofs.Common.{inl}
use Rattle.std.proofs.lemmas.Result.{err_from_is_err_and}
use Rattle.avro_binary.specs.Value.{BooleanFault}
use Rattle.avro_binary.proofs.Faults.{same_place}
use Rattle.avro_hop.specs.Replies.{FlagFault}
use Rattle.avro_hop.proofs.Replying.{flag_error}
use Rattle.avro_hop.proofs.reply.flag_at.Goals as goal

pub returns-in_err-error : goal.returns-in_err-error
returns-in_err-error c =
    let p = err_from_is_err_and c.from_residual.result c.from_residual.ensures.1 in
    rw (p.1, p.2) (same_place BooleanFault FlagFault c.args.bytes.now c.args.at c.in_err-error.field-0.0 (λ g h. inl h) c.in_err-error.ensures)

pub returns-then-error : goal.returns-then-error
returns-then-error c =
    let b = rw c.if-error.true at c.in_ok-error.ensures.1 in
    flag_error c.args.bytes.now c.args.at c.in_ok-error.end c.in_ok-error.ensures.0 b

pub returns : goal.returns
returns c = (c.in_ok-error.ensures.0, (c.in_ok-error.error, (c.in_ok-error.ensures.1, c.if-error.false)))
