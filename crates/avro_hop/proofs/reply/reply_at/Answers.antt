use Rattle.std.proofs.lemmas.Result.{err_from_is_err_and}
use Rattle.avro_hop.specs.Replies.{IsAccord, AccordFault, ToldFault}
use Rattle.avro_hop.proofs.Sequences.{first_fault}
use Rattle.avro_hop.proofs.Replying.{first_told, later_told}
use Rattle.avro_hop.proofs.reply.reply_at.Goals as goal

pub returns-then-not-first : goal.returns-then-not-first
returns-then-not-first c = rw c.if-not-first.true (later_told c.args.bytes.now c.told_at.result c.told_at.ensures)

pub returns-in_err-behind : goal.returns-in_err-behind
returns-in_err-behind c =
    let p = err_from_is_err_and c.from_residual.result c.from_residual.ensures.1 in
    rw (c.if-not-first.false, p.1, p.2) (first_fault IsAccord AccordFault ToldFault c.args.bytes.now 0 c.in_err-behind.field-0.0 c.in_err-behind.ensures)

pub returns : goal.returns
returns c =
    let a = c.in_ok-behind.ensures in
    rw c.if-not-first.false (first_told c.args.bytes.now c.in_ok-behind.behind a.1.0 c.told_at-2.result a.0 a.1.1 c.told_at-2.ensures)
