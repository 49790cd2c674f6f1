use Rattle.std.proofs.Common.{◌+◌, refl, arith}
use Rattle.std.proofs.lemmas.Result.{err_from_is_err_and}
use Rattle.avro_binary.specs.Number.{LongFault}
use Rattle.avro_binary.specs.Value.{BytesFault, InLength}
use Rattle.avro_binary.specs.Reading.{IsPart}
use Rattle.avro_binary.proofs.Faults.{same_place}
use Rattle.avro_binary.proofs.Values.{counted, negative, cut}
use Rattle.avro_binary.proofs.value.read_bytes.Goals as goal

pub returns-in_err-len : goal.returns-in_err-len
returns-in_err-len c =
    let p = err_from_is_err_and c.from_residual.result c.from_residual.ensures.1 in
    rw (p.1, p.2) (same_place LongFault BytesFault c.args.bytes.now c.args.at c.in_err-len.field-0.0 (λ f h. InLength h) c.in_err-len.ensures)

pub returns-then-len-bytes : goal.returns-then-len-bytes
returns-then-len-bytes c =
    cut c.args.bytes.now c.args.at c.in_ok-len.start c.in-Natural.len c.in_ok-len.ensures.0 (rw c.in-Natural.is at c.in_ok-len.ensures.1) c.if-len-bytes.true

pub returns-in-Negative : goal.returns-in-Negative
returns-in-Negative c =
    negative c.args.bytes.now c.args.at c.in_ok-len.start c.in-Negative.field-0 c.in_ok-len.ensures.0 (rw c.in-Negative.is at c.in_ok-len.ensures.1)

pub returns-else-len-bytes : goal.returns-else-len-bytes
returns-else-len-bytes c =
    let q : IsPart c.args.bytes.now c.in_ok-len.start (c.in_ok-len.start + c.in-Natural.len) = (omega arith, let r = c.in_ok-len.ensures.0.1 in omega arith) in
    (c.in_ok-len.ensures.0.0, q, counted c.args.bytes.now c.args.at c.in_ok-len.start (c.in_ok-len.start + c.in-Natural.len) c.in-Natural.len c.in_ok-len.ensures.0 q (rw c.in-Natural.is at c.in_ok-len.ensures.1) refl)
