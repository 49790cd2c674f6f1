use Rattle.std.proofs.Common.{arith, refl}
use Rattle.channel_replay.proofs.Reading.{goes_further, lines_more, lines_none, still_records}
use Rattle.channel_replay.proofs.whole.add_frame.Goals as goal

pub loop-place-init : goal.loop-place-init
loop-place-init c = lines_none c.args.frame.now c.args.file c.args.from c.args.lines.now.items c.requires.frame

pub record_at-requires-clause-records : goal.record_at-requires-clause-records
record_at-requires-clause-records c = still_records c.args.frame.now c.loop-place.place c.args.file c.args.from c.args.lines.now.items c.loop-place.lines.items c.loop-place.invariant c.loop-place-test.true

pub loop-place-smaller : goal.loop-place-smaller
loop-place-smaller c =
    let further = goes_further c.args.frame.now c.loop-place.place c.args.file c.args.from c.args.lines.now.items c.loop-place.lines.items c.in_ok-rec.rec c.in_ok-rec.next c.loop-place.invariant c.loop-place-test.true c.in_ok-rec.ensures.given in
    omega (arith, further, c.loop-place-test.true)

pub loop-place-preserved : goal.loop-place-preserved
loop-place-preserved c =
    lines_more c.args.frame.now c.loop-place.place c.args.file c.args.from c.args.lines.now.items c.loop-place.lines.items c.add.new.lines.items c.in_ok-rec.rec c.in_ok-rec.next _ c.loop-place.invariant c.loop-place-test.true c.in_ok-rec.ensures.given c.in_ok-rec.ensures.within refl c.in_ok-add.ensures
