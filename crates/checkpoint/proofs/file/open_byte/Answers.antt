use Rattle.std.proofs.Common.{◌∷◌, arith}
use Rattle.checkpoint.proofs.Laying.{gate_opened, open1, open2}
use Rattle.checkpoint.proofs.file.open_byte.Goals as goal

pub write_at-requires : goal.write_at-requires
write_at-requires g c = λ t is. let k = c.requires t is in (0 ∷ k.0, k.1.reads, omega arith)

pub returns-in_err-write_at-clause-any_moment : goal.returns-in_err-write_at-clause-any_moment
returns-in_err-write_at-clause-any_moment g c = λ text kept.
    let law = g.met.D.Disk.reads_are_left in
    open1 c.args.number text _ _ kept (λ t is. law c.args.disk.now t is) c.write_at.result c.write_at.ensures.done

pub returns-in_err-sync-clause-any_moment : goal.returns-in_err-sync-clause-any_moment
returns-in_err-sync-clause-any_moment g c = λ text kept.
    let law = g.met.D.Disk.reads_are_left in
    open2 c.args.number text _ _ kept (λ t is. law c.args.disk.now t is) _ (λ t is. law c.write_at.new.self t is) c.in_ok-write_at.ensures.done c.sync.result c.sync.ensures.done

pub returns-clause-any_moment : goal.returns-clause-any_moment
returns-clause-any_moment g c = λ text kept.
    let law = g.met.D.Disk.reads_are_left in
    open2 c.args.number text _ _ kept (λ t is. law c.args.disk.now t is) _ (λ t is. law c.write_at.new.self t is) c.in_ok-write_at.ensures.done c.sync.result c.sync.ensures.done

pub returns-clause-opened : goal.returns-clause-opened
returns-clause-opened g c = λ text kept.
    let law = g.met.D.Disk.reads_are_left in
    gate_opened c.args.number text _ _ kept (λ t is. law c.args.disk.now t is) _ (λ t is. law c.write_at.new.self t is) c.in_ok-write_at.ensures.done c.in_ok-sync.ensures.done
