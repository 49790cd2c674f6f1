use Rattle.std.proofs.Common.{arith}
use Rattle.ring_replay.proofs.Files.{reads_end, reads_fault, reads_illegal, reads_more, reads_one_tick, reads_ticks}
use Rattle.ring_replay.proofs.folder.apply_rest.Goals as goal

pub loop-outline-preserved : goal.loop-outline-preserved
loop-outline-preserved g c =
    reads_more _ _ _ _ _ _ c.args.file c.args.reader c.loop-outline.reader c.next_outline.new.self c.args.index.now c.loop-outline.index c.apply_outline.new.self c.args.steps.now c.loop-outline.steps c.next_outline.new.steps c.in-Ok-Some.at c.in-Ok-Some.outline
    c.loop-outline.invariant (rw c.in-Ok-Some.field-0-is at c.in-Ok-Some.ensures.given) c.in-Ok-Some.ensures.file.file (rw c.in-Ok-Some.field-0-is at c.in-Ok-Some.ensures.ticks) (c.in-Ok.ensures.ok, c.in-Ok.ensures.kept) c.in-Ok-Some.ensures.same (c.in-Ok-Some.ensures.well (λ no. cc))

pub returns-in-Err-apply_outline-clause-bad : goal.returns-in-Err-apply_outline-clause-bad
returns-in-Err-apply_outline-clause-bad g c =
    rw c.of_record.ensures (reads_illegal _ _ _ _ c.args.file c.args.reader c.loop-outline.reader c.next_outline.new.self c.args.index.now c.loop-outline.index c.args.steps.now c.loop-outline.steps c.in-Ok-Some.at c.in-Ok-Some.outline c.in-Err-apply_outline.refused
    c.loop-outline.invariant (rw c.in-Ok-Some.field-0-is at c.in-Ok-Some.ensures.given) c.in-Err-apply_outline.ensures.bad)

pub returns-in-Err-apply_outline-clause-ticks : goal.returns-in-Err-apply_outline-clause-ticks
returns-in-Err-apply_outline-clause-ticks g c =
    reads_one_tick _ _ _ _ c.args.file c.args.reader c.loop-outline.reader c.next_outline.new.self c.args.index.now c.loop-outline.index c.args.steps.now c.loop-outline.steps c.next_outline.new.steps c.in-Ok-Some.at c.in-Ok-Some.outline
    c.loop-outline.invariant (rw c.in-Ok-Some.field-0-is at c.in-Ok-Some.ensures.given) (rw c.in-Ok-Some.field-0-is at c.in-Ok-Some.ensures.ticks)

pub returns-in-Ok-None-clause-ok : goal.returns-in-Ok-None-clause-ok
returns-in-Ok-None-clause-ok g c =
    reads_end _ _ _ _ c.args.file c.args.reader c.loop-outline.reader c.next_outline.new.self c.args.index.now c.loop-outline.index c.args.steps.now c.loop-outline.steps c.loop-outline.invariant (rw c.in-Ok-None.field-0-is at c.in-Ok-None.ensures.given)

pub returns-in-Ok-None-clause-ticks : goal.returns-in-Ok-None-clause-ticks
returns-in-Ok-None-clause-ticks g c =
    reads_ticks _ _ _ _ c.args.file c.args.reader c.loop-outline.reader c.args.index.now c.loop-outline.index c.args.steps.now c.loop-outline.steps c.next_outline.new.steps c.loop-outline.invariant (let ticks = rw c.in-Ok-None.field-0-is at c.in-Ok-None.ensures.ticks in omega (arith, ticks))

pub returns-in-Err-clause-bad : goal.returns-in-Err-clause-bad
returns-in-Err-clause-bad g c =
    rw c.of_frame.ensures (reads_fault _ _ _ _ c.args.file c.args.reader c.loop-outline.reader c.args.index.now c.loop-outline.index c.args.steps.now c.loop-outline.steps c.in-Err.refused c.loop-outline.invariant c.in-Err.ensures.bad)

pub returns-in-Err-clause-ticks : goal.returns-in-Err-clause-ticks
returns-in-Err-clause-ticks g c =
    reads_ticks _ _ _ _ c.args.file c.args.reader c.loop-outline.reader c.args.index.now c.loop-outline.index c.args.steps.now c.loop-outline.steps c.next_outline.new.steps c.loop-outline.invariant c.in-Err.ensures.no_ticks
