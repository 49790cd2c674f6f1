use Rattle.std.proofs.Common.{refl, sym, add-one, arith}
use Rattle.std.proofs.lemmas.Result.{err_from_is_err_and}
use Rattle.avro_binary.specs.Number.{LongFault}
use Rattle.avro_binary.specs.Items.{CountFault, InCount, InSize, Sized}
use Rattle.avro_binary.specs.Reading.{part}
use Rattle.avro_binary.specs.Sign.{signed_value}
use Rattle.avro_binary.proofs.Lists.{join_parts}
use Rattle.avro_binary.proofs.Faults.{same_place, moved}
use Rattle.avro_binary.proofs.items.count_at.Goals as goal

pub returns-in_err-count : goal.returns-in_err-count
returns-in_err-count c =
    let p = err_from_is_err_and c.from_residual.result c.from_residual.ensures.1 in
    rw (p.1, p.2) (same_place LongFault CountFault c.args.bytes.now c.args.at c.in_err-count.field-0.0 (λ f h. InCount h) c.in_err-count.ensures)

pub returns-in_err-end-in-Negative : goal.returns-in_err-end-in-Negative
returns-in_err-end-in-Negative c =
    let p = err_from_is_err_and c.from_residual-in_err-end-in-Negative.result c.from_residual-in_err-end-in-Negative.ensures.1 in
    let long = rw c.in-Negative.is at c.in_ok-count.ensures.1 in
    rw (p.1, p.2) (moved LongFault CountFault c.args.bytes.now c.args.at c.in_ok-count.behind c.in_err-end-in-Negative.field-0.0 c.in_ok-count.ensures.0 (λ rest f h. InSize (part c.args.bytes.now c.args.at c.in_ok-count.behind) rest c.in-Negative.below f refl long h refl) c.in_err-end-in-Negative.ensures)

pub returns-in_ok-end-in-Negative : goal.returns-in_ok-end-in-Negative
returns-in_ok-end-in-Negative c =
    let p = c.in_ok-count.ensures.0 in
    let q = c.in_ok-end-in-Negative.ensures.0 in
    let long = rw c.in-Negative.is at c.in_ok-count.ensures.1 in
    let l = p.0 in
    let m = q.0 in
    ((omega arith, q.1), Sized (part c.args.bytes.now c.args.at c.in_ok-count.behind) (part c.args.bytes.now c.in_ok-count.behind c.in_ok-end-in-Negative.end) c.in-Negative.below (signed_value c.in_ok-end-in-Negative.field-0-0) (sym (join_parts c.args.bytes.now c.args.at c.in_ok-count.behind c.in_ok-end-in-Negative.end p q)) long c.in_ok-end-in-Negative.ensures.1 (add-one c.in-Negative.below))
