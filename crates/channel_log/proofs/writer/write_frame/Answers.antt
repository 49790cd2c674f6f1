use Rattle.channel_log.proofs.Calls.{ready_place, place2, exit1, exit2, exit3, exit4, flushed}
use Rattle.channel_log.proofs.writer.write_frame.Goals as goal

pub write_at-requires : goal.write_at-requires
write_at-requires g c = λ t is. let r = c.requires.ready in ready_place r.0 c.args.number c.args.gate r.1 r.2 r.4 c.args.piece.now r.5 t (r.3 t is)

pub write_at-requires-2 : goal.write_at-requires-2
write_at-requires-2 g c =
    let r = c.requires.ready in
    let law = g.met.D.Disk.reads_are_left in
    place2 r.0 c.args.number c.args.gate r.1 r.2 r.4 c.args.piece.now r.5 _ _ r.3 (λ t is. law c.args.disk.now t is) _ (λ t is. law c.write_at.new.self t is) c.in_ok-write_at.ensures.done (g.D.Disk.told c.sync.new.self) (λ t is. law c.sync.new.self t is) c.in_ok-sync.ensures.done

pub returns-in_err-write_at-clause-any_moment : goal.returns-in_err-write_at-clause-any_moment
returns-in_err-write_at-clause-any_moment g c = λ birth frames frame ready is_frame is_piece.
    let law = g.met.D.Disk.reads_are_left in
    exit1 birth c.args.number c.args.gate frames frame is_frame c.args.piece.now is_piece _ _ ready (λ t is. law c.args.disk.now t is) c.write_at.result c.write_at.ensures.done

pub returns-in_err-sync-clause-any_moment : goal.returns-in_err-sync-clause-any_moment
returns-in_err-sync-clause-any_moment g c = λ birth frames frame ready is_frame is_piece.
    let law = g.met.D.Disk.reads_are_left in
    exit2 birth c.args.number c.args.gate frames frame is_frame c.args.piece.now is_piece _ _ ready (λ t is. law c.args.disk.now t is) _ (λ t is. law c.write_at.new.self t is) c.in_ok-write_at.ensures.done c.sync.result c.sync.ensures.done

pub returns-in_err-write_at-2-clause-any_moment : goal.returns-in_err-write_at-2-clause-any_moment
returns-in_err-write_at-2-clause-any_moment g c = λ birth frames frame ready is_frame is_piece.
    let law = g.met.D.Disk.reads_are_left in
    exit3 birth c.args.number c.args.gate frames frame is_frame c.args.piece.now is_piece _ _ ready (λ t is. law c.args.disk.now t is) _ (λ t is. law c.write_at.new.self t is) c.in_ok-write_at.ensures.done _ (λ t is. law c.sync.new.self t is) c.in_ok-sync.ensures.done c.write_at-2.result c.write_at-2.ensures.done

pub returns-in_err-sync-2-clause-any_moment : goal.returns-in_err-sync-2-clause-any_moment
returns-in_err-sync-2-clause-any_moment g c = λ birth frames frame ready is_frame is_piece.
    let law = g.met.D.Disk.reads_are_left in
    exit4 birth c.args.number c.args.gate frames frame is_frame c.args.piece.now is_piece _ _ ready (λ t is. law c.args.disk.now t is) _ (λ t is. law c.write_at.new.self t is) c.in_ok-write_at.ensures.done _ (λ t is. law c.sync.new.self t is) c.in_ok-sync.ensures.done _ (λ t is. law c.write_at-2.new.self t is) c.in_ok-write_at-2.ensures.done c.sync-2.result c.sync-2.ensures.done

pub returns-clause-any_moment : goal.returns-clause-any_moment
returns-clause-any_moment g c = λ birth frames frame ready is_frame is_piece.
    let law = g.met.D.Disk.reads_are_left in
    exit4 birth c.args.number c.args.gate frames frame is_frame c.args.piece.now is_piece _ _ ready (λ t is. law c.args.disk.now t is) _ (λ t is. law c.write_at.new.self t is) c.in_ok-write_at.ensures.done _ (λ t is. law c.sync.new.self t is) c.in_ok-sync.ensures.done _ (λ t is. law c.write_at-2.new.self t is) c.in_ok-write_at-2.ensures.done c.sync-2.result c.sync-2.ensures.done

pub returns-clause-flushed : goal.returns-clause-flushed
returns-clause-flushed g c = λ birth frames frame ready is_frame is_piece.
    let law = g.met.D.Disk.reads_are_left in
    flushed birth c.args.number c.args.gate frames frame is_frame c.args.piece.now is_piece _ _ ready (λ t is. law c.args.disk.now t is) _ (λ t is. law c.write_at.new.self t is) c.in_ok-write_at.ensures.done _ (λ t is. law c.sync.new.self t is) c.in_ok-sync.ensures.done _ (λ t is. law c.write_at-2.new.self t is) c.in_ok-write_at-2.ensures.done c.in_ok-sync-2.ensures.done
