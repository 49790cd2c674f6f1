use Rattle.std.proofs.lemmas.Result.{err_from_is_err_and}
use Rattle.avro_binary.specs.Items.{IsMeta, MetaFault}
use Rattle.avro_hop.proofs.Sequences.{index_fault, over_value}
use Rattle.avro_hop.proofs.handshake.meta_option_at.Goals as goal

pub returns-in_err-some : goal.returns-in_err-some
returns-in_err-some c =
    let p = err_from_is_err_and c.from_residual.result c.from_residual.ensures.1 in
    rw (p.1, p.2) (index_fault MetaFault c.args.bytes.now c.args.at c.in_err-some.field-0.0 c.in_err-some.ensures)

pub returns : goal.returns
returns c =
    let i = rw c.if-not-some.false at c.in_ok-some.ensures.1 in
    over_value IsMeta MetaFault c.args.bytes.now c.args.at c.in_ok-some.behind c.read_meta.result c.in_ok-some.ensures.0 i c.read_meta.ensures
