use Rattle.std.proofs.Common.{◌<◌, arith}
use Rattle.avro_binary.proofs.Groups.{wide_front, more_found}
use Rattle.avro_binary.proofs.number.+read_groups.Goals as goal

pub returns-then-high : goal.returns-then-high
returns-then-high t c =
    let e = c.in-Some.ensures.cases.0 in
    let low : c.in-Some.first.now < 256 = omega (arith, rw e at (c.type_inv.bytes 0)) in
    rw e (wide_front c.in-Some.first.now c.in-Some.rest.now c.args.most c.in-Whole.high c.in-Whole.used c.if-byte-lt128.false low (omega arith) c.in-Whole.ensures c.if-high.true)

pub returns-in_default-read_groups : goal.returns-in_default-read_groups
returns-in_default-read_groups t c =
    let e = c.in-Some.ensures.cases.0 in
    let low : c.in-Some.first.now < 256 = omega (arith, rw e at (c.type_inv.bytes 0)) in
    rw e (more_found c.in-Some.first.now c.in-Some.rest.now c.args.most c.read_groups.result c.if-byte-lt128.false low (omega arith) c.read_groups.ensures c.in_default-read_groups.not-Whole)
