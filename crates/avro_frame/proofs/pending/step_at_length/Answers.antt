use Rattle.std.proofs.Common.{◌-◌, add-zero, arith}
use Rattle.avro_frame.proofs.Walk.{next_buffer, opens, passes_size}
use Rattle.avro_frame.proofs.pending.step_at_length.Goals as goal

pub returns-then-sum-gt-MAX_BYTES : goal.returns-then-sum-gt-MAX_BYTES
returns-then-sum-gt-MAX_BYTES c =
    let k = next_buffer c.args.held.now c.args.cursor.now.need c.args.cursor.now.sum c.args.left c.number_at-len.result c.requires.here c.requires.due c.number_at-len.ensures in
    rw c.from.ensures (passes_size c.args.held.now k.0 c.args.cursor.now.sum c.args.left c.number_at-len.result k.1 c.requires.some k.2 (omega arith) c.requires.here.small (omega arith))

pub returns-then-left-eq1 : goal.returns-then-left-eq1
returns-then-left-eq1 c =
    let k = next_buffer c.args.held.now c.args.cursor.now.need c.args.cursor.now.sum c.args.left c.number_at-len.result c.requires.here c.requires.due c.number_at-len.ensures in
    let i = opens c.args.held.now k.0 c.args.cursor.now.need c.args.cursor.now.sum c.args.left 0 c.number_at-len.result 0 k.1 (omega arith) k.2 c.requires.due (omega arith) in
    (rw c.from.ensures (rw add-zero at i), omega arith)

pub returns-else-left-eq1 : goal.returns-else-left-eq1
returns-else-left-eq1 c =
    let k = next_buffer c.args.held.now c.args.cursor.now.need c.args.cursor.now.sum c.args.left c.number_at-len.result c.requires.here c.requires.due c.number_at-len.ensures in
    let i = opens c.args.held.now k.0 c.args.cursor.now.need c.args.cursor.now.sum c.args.left (c.args.left - 1) c.number_at-len.result 4 k.1 (omega arith) k.2 c.requires.due (omega arith) in
    ((rw c.from.ensures i, omega arith), omega arith)
