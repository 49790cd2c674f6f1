use Rattle.std.proofs.Common.{ap, of_z, w32}
use Rattle.std.proofs.lemmas.Result.{err_from_is_err_and}
use Rattle.avro_hop.specs.Replies.{IsAgreed}
use Rattle.avro_hop.proofs.Replying.{enum_int, enum_other, no_match}
use Rattle.avro_hop.proofs.reply.agreed_at.Goals as goal

pub returns-in_err-index : goal.returns-in_err-index
returns-in_err-index c =
    let p = err_from_is_err_and c.from_residual.result c.from_residual.ensures.1 in
    rw (p.1, p.2) (enum_int IsAgreed c.args.bytes.now c.args.at c.in_err-index.field-0.0 c.in_err-index.ensures)

pub returns-else-index-eq1 : goal.returns-else-index-eq1
returns-else-index-eq1 c =
    let z = c.if-index-eq0.false in
    let o = c.if-index-eq1.false in
    let i = c.in_ok-index.ensures.1 in
    enum_other IsAgreed c.args.bytes.now c.args.at c.in_ok-index.end c.in_ok-index.index c.in_ok-index.ensures.0 i (no_match _ c.in_ok-index.index i (λ e. z (ap (of_z w32) e)) (λ e. o (ap (of_z w32) e)))
