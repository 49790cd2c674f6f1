use Rattle.std.proofs.Common.{◌+◌, length, drop, arith, length-drop}
use Rattle.std.proofs.lemmas.List.{take_rest}
use Rattle.avro_binary.proofs.Groups.{cut_fault, large_fault, other_fault}
use Rattle.avro_binary.proofs.number.number_at.Goals as goal

pub returns-in-Cut : goal.returns-in-Cut
returns-in-Cut c = (
  0,
  length (drop c.args.at c.args.bytes.now) + 1,
  omega arith,
  omega (arith, length-drop c.args.at c.args.bytes.now, c.requires.at),
  cut_fault c.args.most c.args.max (drop c.args.at c.args.bytes.now) (rw take_rest at c.in-Cut.ensures),
)

pub returns-then-number-max : goal.returns-then-number-max
returns-then-number-max c =
    (0, omega arith, large_fault c.args.most c.args.max (drop c.args.at c.args.bytes.now) c.in-Whole.number c.in-Whole.used (rw take_rest at c.in-Whole.ensures) c.if-number-max.true)

pub returns-in_default : goal.returns-in_default
returns-in_default c =
    (0, omega arith, other_fault c.args.most c.args.max (drop c.args.at c.args.bytes.now) c.read_groups.result (omega (arith, c.ranges.max)) (rw take_rest at c.read_groups.ensures) c.in_default.not-Whole c.in_default.not-Cut)
