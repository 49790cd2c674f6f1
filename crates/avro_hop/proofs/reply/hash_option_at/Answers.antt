use Rattle.std.proofs.lemmas.Result.{err_from_is_err_and}
use Rattle.std.specs.Prelude.{pos}
use Rattle.avro_binary.specs.Number.{IsInt}
use Rattle.avro_binary.specs.Value.{IsFixed, FixedFault}
use Rattle.avro_binary.proofs.Blocks.{further}
use Rattle.avro_hop.proofs.Sequences.{pair_at, index_fault, value_fault}
use Rattle.avro_hop.proofs.reply.hash_option_at.Goals as goal

pub returns-in_err-some : goal.returns-in_err-some
returns-in_err-some c =
    let p = err_from_is_err_and c.from_residual.result c.from_residual.ensures.1 in
    rw (p.1, p.2) (index_fault FixedFault c.args.bytes.now c.args.at c.in_err-some.field-0.0 c.in_err-some.ensures)

pub returns-in_err-hash : goal.returns-in_err-hash
returns-in_err-hash c =
    let p = err_from_is_err_and c.from_residual-in_err-hash.result c.from_residual-in_err-hash.ensures.1 in
    let i = rw c.if-not-some.false at c.in_ok-some.ensures.1 in
    rw (p.1, p.2) (value_fault FixedFault c.args.bytes.now c.args.at c.in_ok-some.behind c.in_err-hash.field-0.0 c.in_ok-some.ensures.0 i c.in_err-hash.ensures)

pub returns : goal.returns
returns c =
    let i = rw c.if-not-some.false at c.in_ok-some.ensures.1 in
    let t = c.in_ok-hash.ensures in (
      further c.args.bytes.now c.args.at c.in_ok-some.behind c.in_ok-hash.end c.in_ok-some.ensures.0 t.0,
      pair_at IsInt IsFixed c.args.bytes.now c.args.at c.in_ok-some.behind c.in_ok-hash.end (pos 1) c.in_ok-hash.hash.now c.in_ok-some.ensures.0 t.0 i t.1,
    )
