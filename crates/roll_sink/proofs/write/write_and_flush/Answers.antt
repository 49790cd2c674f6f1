use Rattle.roll_sink.specs.Rolls.{roll_text}
use Rattle.roll_sink.proofs.Growing.{handed_on}
use Rattle.roll_sink.proofs.write.write_and_flush.Goals as goal

pub returns-clause-done : goal.returns-clause-done
returns-clause-done g c =
    let rolled = g.D.RollDir.rolled in
    handed_on (roll_text c.args.batch.now) c.flush.result (rolled c.args.dir.now) (rolled c.write_batch.new.dir) (rolled c.flush.new.self) c.in_ok-write_batch.ensures.done c.flush.ensures.done
