use Rattle.channel_log.proofs.Opening.{open1, open2, open3, begun}
use Rattle.channel_log.proofs.writer.make_file.Goals as goal

pub returns-in_err-make-clause-any_moment : goal.returns-in_err-make-clause-any_moment
returns-in_err-make-clause-any_moment g c = λ birth is_text.
    let law = g.met.D.Disk.reads_are_left in
    open1 birth c.args.number c.args.text.now is_text _ _ c.requires (λ t is. law c.args.disk.now t is) c.make.result c.make.ensures.done

pub returns-in_err-write_at-clause-any_moment : goal.returns-in_err-write_at-clause-any_moment
returns-in_err-write_at-clause-any_moment g c = λ birth is_text.
    let law = g.met.D.Disk.reads_are_left in
    open2 birth c.args.number c.args.text.now is_text _ _ c.requires (λ t is. law c.args.disk.now t is) _ (λ t is. law c.make.new.self t is) c.in_ok-make.ensures.done c.write_at.result c.write_at.ensures.done

pub returns-in_err-sync-clause-any_moment : goal.returns-in_err-sync-clause-any_moment
returns-in_err-sync-clause-any_moment g c = λ birth is_text.
    let law = g.met.D.Disk.reads_are_left in
    open3 birth c.args.number c.args.text.now is_text _ _ c.requires (λ t is. law c.args.disk.now t is) _ (λ t is. law c.make.new.self t is) c.in_ok-make.ensures.done _ (λ t is. law c.write_at.new.self t is) c.in_ok-write_at.ensures.done c.sync.result c.sync.ensures.done

pub returns-clause-any_moment : goal.returns-clause-any_moment
returns-clause-any_moment g c = λ birth is_text.
    let law = g.met.D.Disk.reads_are_left in
    open3 birth c.args.number c.args.text.now is_text _ _ c.requires (λ t is. law c.args.disk.now t is) _ (λ t is. law c.make.new.self t is) c.in_ok-make.ensures.done _ (λ t is. law c.write_at.new.self t is) c.in_ok-write_at.ensures.done c.sync.result c.sync.ensures.done

pub returns-clause-begun : goal.returns-clause-begun
returns-clause-begun g c = λ birth is_text.
    let law = g.met.D.Disk.reads_are_left in
    begun birth c.args.number c.args.text.now is_text _ _ c.requires (λ t is. law c.args.disk.now t is) _ (λ t is. law c.make.new.self t is) c.in_ok-make.ensures.done _ (λ t is. law c.write_at.new.self t is) c.in_ok-write_at.ensures.done c.in_ok-sync.ensures.done
