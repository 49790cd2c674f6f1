use Rattle.std.proofs.Common.{◌∙◌, ◌+◌, refl, arith}
use Rattle.avro_ends.specs.Sessions.{held_in}
use Rattle.avro_ends.proofs.Listening.{heard_none, reply_fails, reply_comes, reply_goes, reply_waits, part_of, first_part}
use Rattle.avro_ends.proofs.hear.hear.Goals as goal

pub loop-turns-init : goal.loop-turns-init
loop-turns-init g c = record { few = omega arith; less = omega arith; opened = rw c.new-packs.ensures.start first_part; well = refl; heard = rw c.new-packs.ensures.start (heard_none _) }

pub returns-in-Ok-Whole-clause-hears : goal.returns-in-Ok-Whole-clause-hears
returns-in-Ok-Whole-clause-hears g c =
    let i = c.loop-turns.invariant in
    reply_comes c.in-Ok-Whole.message c.in-Ok-Whole.more _ c.hear_turn.new.packs.packing _ _ _ _ _ i.heard c.loop-turns-test.true i.less (rw c.in-Ok-Whole.field-0-is at c.in-Ok-Whole.ensures.hears)

pub loop-turns-preserved-in-Ok-Part : goal.loop-turns-preserved-in-Ok-Part
loop-turns-preserved-in-Ok-Part g c =
    let i = c.loop-turns.invariant in
    let on = reply_goes _ c.hear_turn.new.packs.packing _ _ _ _ _ i.heard (rw c.in-Ok-Part.field-0-is at c.in-Ok-Part.ensures.hears) in
    record {
      few = omega (arith, c.loop-turns-test.true);
      less = i.less;
      opened = on.0;
      well = c.in-Ok-Part.ensures.well ∙ i.well;
      heard = on.1;
    }

pub returns-then-quiets-eq-QUIETS-clause-hears : goal.returns-then-quiets-eq-QUIETS-clause-hears
returns-then-quiets-eq-QUIETS-clause-hears g c =
    let i = c.loop-turns.invariant in
    let on = reply_waits _ c.hear_turn.new.packs.packing _ _ _ _ _ i.opened i.heard (rw c.in-Ok-Quiet.field-0-is at c.in-Ok-Quiet.ensures.hears) in
    (held_in c.hear_turn.new.packs.packing, c.loop-turns.turns + 1, c.loop-turns.quiets + 1, on.1, (omega (arith, c.loop-turns-test.true), omega (arith, c.if-quiets-eq-QUIETS.true)), part_of _ on.0)

pub returns-in-Err-clause-hears : goal.returns-in-Err-clause-hears
returns-in-Err-clause-hears g c =
    let i = c.loop-turns.invariant in
    reply_fails c.in-Err.e _ c.hear_turn.new.packs.packing _ _ _ _ _ i.heard c.loop-turns-test.true i.less c.in-Err.ensures.hears

pub returns-clause-hears : goal.returns-clause-hears
returns-clause-hears g c =
    let i = c.loop-turns.invariant in
    (held_in c.loop-turns.packs.packing, c.loop-turns.turns, c.loop-turns.quiets, i.heard, (omega (arith, i.few, c.loop-turns-test.false), i.less), part_of _ i.opened)
