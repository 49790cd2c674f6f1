use Rattle.std.proofs.Common.{◌≤◌, length, arith}
use Rattle.ring_replay.proofs.RingLists.{appended_all, appended_more, appended_none, appended_room}
use Rattle.ring_replay.proofs.settling.append.Goals as goal

pub loop-place-init : goal.loop-place-init
loop-place-init c = appended_none c.args.first c.args.ring.now c.requires.above

pub push-requires : goal.push-requires
push-requires c =
    let fits = appended_room c.args.first c.loop-place.place c.args.pointers.now c.args.ring.now c.loop-place.ring c.loop-place-test.true c.loop-place.invariant c.requires.room in
    record { above = fits.0; low = omega (arith, c.requires.low, c.loop-place-test.true); room = fits.1 }

pub loop-place-preserved : goal.loop-place-preserved
loop-place-preserved c = appended_more c.args.first c.loop-place.place c.args.pointers.now _ c.args.ring.now c.loop-place.ring c.push.new.self c.loop-place-test.true c.loop-place.invariant c.push.ensures

pub returns : goal.returns
returns c = appended_all c.args.first c.loop-place.place c.args.pointers.now c.args.ring.now c.loop-place.ring (let all : length c.args.pointers.now ≤ c.loop-place.place = omega (arith, c.loop-place-test.false) in all) c.loop-place.invariant
