use Rattle.std.proofs.lemmas.Result.{err_from_is_err_and}
use Rattle.avro_binary.specs.Value.{BytesFault, TextFault, InBytes}
use Rattle.avro_binary.proofs.Faults.{same_place}
use Rattle.avro_binary.proofs.Values.{not_text}
use Rattle.avro_binary.proofs.value.read_text.Goals as goal

pub returns-in_err-start : goal.returns-in_err-start
returns-in_err-start c =
    let p = err_from_is_err_and c.from_residual.result c.from_residual.ensures.1 in
    rw (p.1, p.2) (same_place BytesFault TextFault c.args.bytes.now c.args.at c.in_err-start.field-0.0 (λ f h. InBytes h) c.in_err-start.ensures)

pub returns-in-Err : goal.returns-in-Err
returns-in-Err c =
    let b = c.in_ok-start.ensures in
    not_text c.args.bytes.now c.args.at c.in_ok-start.start c.in_ok-start.end b.1 b.0 b.2 c.in-Err.ensures.cases.0
