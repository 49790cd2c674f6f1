use Rattle.std.proofs.lemmas.Result.{err_from_is_err_and}
use Rattle.avro_hop.proofs.Replying.{flag_refused, told_of}
use Rattle.avro_hop.proofs.reply.told_at.Goals as goal

pub returns-in_err-index : goal.returns-in_err-index
returns-in_err-index c =
    let p = err_from_is_err_and c.from_residual-in_err-index.result c.from_residual-in_err-index.ensures.1 in
    let m = c.in_ok-flag.ensures in
    rw (p.1, p.2) (flag_refused c.args.bytes.now c.args.at c.in_ok-flag.flag m.1.0 c.in_err-index.field-0.0 m.0 m.1.1 c.in_err-index.ensures)

pub returns : goal.returns
returns c =
    let m = c.in_ok-flag.ensures in
    let n = c.in_ok-index.ensures in
    told_of c.args.bytes.now c.args.at c.in_ok-flag.flag c.in_ok-index.index m.1.0 n.1.0 c.status_at.result m.0 m.1.1 n.0 n.1.1 c.status_at.ensures
