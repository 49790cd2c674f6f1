use Rattle.std.proofs.Common.{◌∙◌, ◌≤◌, inr, refl, arith}
use Rattle.flume_host.specs.Folder.{Files}
use Rattle.checkpoint_reading.specs.Fields.{ListsGive, Outcome}
use Rattle.checkpoint_reading.proofs.Living.{if_some, live_all, live_ended, live_more, live_stop}
use Rattle.checkpoint_reading.proofs.Stepping.{faults_here, faults_there, same_then, short_u32, when_none, when_some}
use Rattle.checkpoint_reading.proofs.live.read_live.Goals as goal

pub returns-in_default-clause-bad : goal.returns-in_default-clause-bad
returns-in_default-clause-bad g c =
    faults_here _ c.args.reader.now (λ (files : Files) (o : Outcome). ListsGive files o c.args.draft.now.place c.args.draft.now.next) _ _ c.number-file.ensures c.at-start.ensures.at c.at-start.ensures.within
    (λ t is. inr (λ a more there right. short_u32 _ (when_none _ _ _ c.in_default.not-Some c.in_ok-count.ensures.taken t is) a more there, refl))

pub returns-in_default-2-clause-bad : goal.returns-in_default-2-clause-bad
returns-in_default-2-clause-bad g c =
    let some : 1 ≤ c.loop-more.more = omega (arith, c.loop-more-test.true) in
    faults_there _ c.args.reader.now c.loop-more.reader (λ (files : Files) (o : Outcome). ListsGive files o c.args.draft.now.place c.args.draft.now.next) _ _ c.number-file.ensures c.loop-more.invariant.way.file c.at-at.ensures.at c.at-at.ensures.within
    (live_stop _ _ c.args.reader.now c.loop-more.reader _ _ c.loop-more.draft c.loop-more.low c.loop-more.more c.loop-more.invariant.way.same some c.loop-more.invariant.loop.goes (when_none _ _ _ c.in_default-2.not-Some c.in_ok-number.ensures.right))

pub loop-more-preserved : goal.loop-more-preserved
loop-more-preserved g c =
    let some : 1 ≤ c.loop-more.more = omega (arith, c.loop-more-test.true) in
    let right = when_some _ (c.in-Some-2.number, c.in-Some-2.pointer) _ _ c.in-Some-2.is c.in_ok-number.ensures.right in
    let between = when_some _ (c.in-Some-2.number, c.in-Some-2.pointer) _ _ c.in-Some-2.is c.in_ok-number.ensures.between in
    record {
      way = record {
        same = c.next_right.ensures.same ∙ c.loop-more.invariant.way.same;
        well = c.in_ok-number.ensures.cause.well (λ e. cc) ∙ c.loop-more.invariant.way.well;
        held = c.in_ok-number.ensures.held;
        file = same_then _ _ _ c.loop-more.invariant.way.file c.next_right.ensures.file;
        known_is = c.next_right.ensures.known;
      };
      loop = live_more _ _ c.args.reader.now c.loop-more.reader c.next_right.new.reader _ _ c.loop-more.draft c.push.new.self c.loop-more.low c.loop-more.more c.in-Some-2.number c.in-Some-2.pointer c.loop-more.invariant.loop c.loop-more.invariant.way.same some
          right.0 right.1 between.0 between.1 c.push.ensures.rest c.in-Ok.ensures.ring c.in-Ok.ensures.within (if_some _ (c.in-Some-2.number, c.in-Some-2.pointer) _ c.in-Some-2.is c.in_ok-number.ensures.sized);
    }

pub returns-clause-goes : goal.returns-clause-goes
returns-clause-goes g c = live_ended _ _ _ _ _ c.loop-more.draft c.loop-more.low c.loop-more.more c.loop-more.invariant.loop (omega (arith, c.loop-more-test.false))

pub returns-clause-live : goal.returns-clause-live
returns-clause-live g c = live_all _ _ c.loop-more.invariant.loop.live
