use Rattle.checkpoint.proofs.Laying.{make1, make2, make3, made_closed}
use Rattle.checkpoint.proofs.file.make_closed.Goals as goal

pub returns-in_err-make-clause-any_moment : goal.returns-in_err-make-clause-any_moment
returns-in_err-make-clause-any_moment g c =
    let law = g.met.D.Disk.reads_are_left in
    make1 c.args.number _ _ c.requires (λ t is. law c.args.disk.now t is) c.make.result c.make.ensures.done

pub returns-in_err-write_at-clause-any_moment : goal.returns-in_err-write_at-clause-any_moment
returns-in_err-write_at-clause-any_moment g c =
    let law = g.met.D.Disk.reads_are_left in
    make2 c.args.number _ _ c.requires (λ t is. law c.args.disk.now t is) _ (λ t is. law c.make.new.self t is) c.in_ok-make.ensures.done c.write_at.result c.write_at.ensures.done

pub returns-in_err-sync-clause-any_moment : goal.returns-in_err-sync-clause-any_moment
returns-in_err-sync-clause-any_moment g c =
    let law = g.met.D.Disk.reads_are_left in
    make3 c.args.number _ _ c.requires (λ t is. law c.args.disk.now t is) _ (λ t is. law c.make.new.self t is) c.in_ok-make.ensures.done _ (λ t is. law c.write_at.new.self t is) c.in_ok-write_at.ensures.done c.sync.result c.sync.ensures.done

pub returns-clause-any_moment : goal.returns-clause-any_moment
returns-clause-any_moment g c =
    let law = g.met.D.Disk.reads_are_left in
    make3 c.args.number _ _ c.requires (λ t is. law c.args.disk.now t is) _ (λ t is. law c.make.new.self t is) c.in_ok-make.ensures.done _ (λ t is. law c.write_at.new.self t is) c.in_ok-write_at.ensures.done c.sync.result c.sync.ensures.done

pub returns-clause-made : goal.returns-clause-made
returns-clause-made g c =
    let law = g.met.D.Disk.reads_are_left in
    made_closed c.args.number _ _ c.requires (λ t is. law c.args.disk.now t is) _ (λ t is. law c.make.new.self t is) c.in_ok-make.ensures.done _ (λ t is. law c.write_at.new.self t is) c.in_ok-write_at.ensures.done c.in_ok-sync.ensures.done
