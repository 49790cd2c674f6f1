use Rattle.std.proofs.Common.{◌∙◌, ◌≤◌, arith, inr, refl}
use Rattle.flume_host.specs.Folder.{Files}
use Rattle.checkpoint_reading.specs.Fields.{Outcome}
use Rattle.checkpoint_reading.specs.Opens.{TakenGive}
use Rattle.checkpoint_reading.proofs.Opening.{takes_begun, takes_closed, takes_ended, takes_over, takes_stuck}
use Rattle.checkpoint_reading.proofs.Stepping.{faults_here, faults_there, same_then, short_u32, when_none, when_some}
use Rattle.checkpoint_reading.proofs.takes.read_takes.Goals as goal

pub returns-in_default-clause-bad : goal.returns-in_default-clause-bad
returns-in_default-clause-bad g c = λ before puts.
    faults_here _ c.args.reader.now (λ (files : Files) (o : Outcome). TakenGive files o before) _ _ c.number-file.ensures c.at-start.ensures.at c.at-start.ensures.within
    (λ t is. inr (λ a more there right. short_u32 _ (when_none _ _ _ c.in_default.not-Some c.in_ok-count.ensures.taken t is) a more there, refl))

pub loop-more-init : goal.loop-more-init
loop-more-init g c = record {
  way = record {
    same = c.next_u32.ensures.same;
    well = c.in_ok-count.ensures.cause.well (λ e. cc);
    held = c.in_ok-count.ensures.held;
    file = c.next_u32.ensures.file;
    known_is = tt;
  };
  loop = takes_begun _ _ _ c.args.draft.now c.in-Some.count (omega arith) (when_some _ _ _ _ c.in-Some.is c.in_ok-count.ensures.taken);
}

pub read_take-requires-clause-closed : goal.read_take-requires-clause-closed
read_take-requires-clause-closed g c = takes_closed _ _ _ _ _ _ _ c.loop-more.invariant.loop c.requires.puts.0 c.requires.puts.1

pub returns-in_default-2-clause-bad : goal.returns-in_default-2-clause-bad
returns-in_default-2-clause-bad g c = λ before puts.
    let some : 1 ≤ c.loop-more.more = omega (arith, c.loop-more-test.true) in
    faults_there _ c.args.reader.now c.loop-more.reader (λ (files : Files) (o : Outcome). TakenGive files o before) _ _ c.number-file.ensures c.loop-more.invariant.way.file c.at-at.ensures.at c.at-at.ensures.within
    (takes_stuck _ _ c.args.reader.now c.loop-more.reader c.args.draft.now c.loop-more.draft c.loop-more.low c.loop-more.more c.loop-more.invariant.loop c.loop-more.invariant.way.same some (when_none _ _ _ c.in_default-2.not-Some c.in_ok-txn.ensures.right) before puts)

pub loop-more-preserved : goal.loop-more-preserved
loop-more-preserved g c =
    let some : 1 ≤ c.loop-more.more = omega (arith, c.loop-more-test.true) in
    let right = when_some _ _ _ _ c.in-Some-2.is c.in_ok-txn.ensures.right in
    record {
      way = record {
        same = c.read_take.ensures.same ∙ c.loop-more.invariant.way.same;
        well = c.in_ok-txn.ensures.cause.well (λ e. cc) ∙ c.loop-more.invariant.way.well;
        held = c.in_ok-txn.ensures.held;
        file = same_then _ _ _ c.loop-more.invariant.way.file c.read_take.ensures.file;
        known_is = tt;
      };
      loop = takes_over _ _ c.args.reader.now c.loop-more.reader c.read_take.new.reader c.args.draft.now c.loop-more.draft c.read_take.new.draft c.loop-more.low c.loop-more.more c.in-Some-2.txn c.loop-more.invariant.loop c.loop-more.invariant.way.same some right.0 right.1;
    }

pub returns-clause-read : goal.returns-clause-read
returns-clause-read g c = λ before puts. takes_ended _ _ _ _ c.loop-more.draft c.loop-more.low c.loop-more.more c.loop-more.invariant.loop (omega (arith, c.loop-more-test.false)) before puts

pub returns-clause-of : goal.returns-clause-of
returns-clause-of g c = c.loop-more.invariant.loop.of
