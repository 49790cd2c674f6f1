use Rattle.std.proofs.Common.{◌≡◌, arith}
use Rattle.avro_frame.proofs.Walk.{head_passes, head_opens}
use Rattle.avro_frame.proofs.pending.step_at_head.Goals as goal

pub returns-then-count-gt-MAX_BUFFERS : goal.returns-then-count-gt-MAX_BUFFERS
returns-then-count-gt-MAX_BUFFERS c =
    head_passes c.args.held.now c.number_at-count.result (λ i. omega (arith, c.type_inv.held i)) c.requires.here c.number_at-count.ensures (omega arith) (omega arith)

pub returns-then-count-eq0 : goal.returns-then-count-eq0
returns-then-count-eq0 c =
    let none : c.number_at-count.result ≡ 0 = omega arith in
    let e = rw none at c.number_at-count.ensures in
    (rw c.requires.start (head_opens c.args.held.now 0 0 (λ i. omega (arith, c.type_inv.held i)) c.requires.here e (omega arith)), omega arith)

pub returns-else-count-eq0 : goal.returns-else-count-eq0
returns-else-count-eq0 c =
    ((rw c.requires.start (head_opens c.args.held.now c.number_at-count.result 4 (λ i. omega (arith, c.type_inv.held i)) c.requires.here c.number_at-count.ensures (omega arith)), omega arith), omega arith)
