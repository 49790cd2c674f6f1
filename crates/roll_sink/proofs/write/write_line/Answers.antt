use Rattle.std.proofs.Common.{◌∷◌, []}
use Rattle.roll_sink.proofs.Growing.{then_writes}
use Rattle.roll_sink.proofs.write.write_line.Goals as goal

pub returns-clause-done : goal.returns-clause-done
returns-clause-done g c =
    let rolled = g.D.RollDir.rolled in
    then_writes c.args.body.now (10 ∷ []) c.write_all-2.result (rolled c.args.dir.now) (rolled c.write_all.new.dir) (rolled c.write_all-2.new.dir) c.in_ok-write_all.ensures.done c.write_all-2.ensures.done
