use Rattle.std.proofs.Common.{◌+◌, ◌<◌, length, get_or, drop, refl, arith}
use Rattle.std.proofs.lemmas.List.{drop_more}
use Rattle.avro_binary.specs.Value.{OtherByte}
use Rattle.avro_binary.proofs.value.read_bool.Goals as goal

pub returns-then-byte-gt1 : goal.returns-then-byte-gt1
returns-then-byte-gt1 c =
    let lt : c.args.at < length c.args.bytes.now = omega arith in
    (0, omega arith, OtherByte (get_or c.args.bytes.now c.args.at 0) (drop (c.args.at + 1) c.args.bytes.now) (drop_more c.args.bytes.now c.args.at 0 lt) c.if-byte-gt1.true refl)
