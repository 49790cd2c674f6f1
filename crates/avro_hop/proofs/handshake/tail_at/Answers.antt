use Rattle.std.proofs.lemmas.Result.{err_from_is_err_and}
use Rattle.avro_binary.specs.Value.{IsFixed, FixedFault}
use Rattle.avro_binary.specs.Items.{IsMeta, MetaFault}
use Rattle.avro_binary.proofs.Blocks.{further}
use Rattle.avro_hop.specs.Parts.{IsOption, OptionFault}
use Rattle.avro_hop.proofs.Sequences.{pair_at, second_fault}
use Rattle.avro_hop.proofs.handshake.tail_at.Goals as goal

pub returns-in_err-end : goal.returns-in_err-end
returns-in_err-end c =
    let p = err_from_is_err_and c.from_residual-in_err-end.result c.from_residual-in_err-end.ensures.1 in
    let h = c.in_ok-hash.ensures in
    rw (p.1, p.2) (second_fault IsFixed FixedFault (OptionFault MetaFault) c.args.bytes.now c.args.at c.in_ok-hash.behind c.in_ok-hash.hash.now c.in_err-end.field-0.0 h.0 h.1 c.in_err-end.ensures)

pub returns : goal.returns
returns c =
    let h = c.in_ok-hash.ensures in
    let e = c.in_ok-end.ensures in (
      further c.args.bytes.now c.args.at c.in_ok-hash.behind c.in_ok-end.end h.0 e.0,
      (e.1.0, pair_at IsFixed (IsOption IsMeta) c.args.bytes.now c.args.at c.in_ok-hash.behind c.in_ok-end.end c.in_ok-hash.hash.now e.1.0 h.0 e.0 h.1 e.1.1),
    )
