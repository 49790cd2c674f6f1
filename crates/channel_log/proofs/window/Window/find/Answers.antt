use Rattle.std.proofs.Common.{arith, ◌-◌, ℕ, refl, ap, sym, subst}
use Rattle.channel_log.specs.Window.{HasThere, Kept}
use Rattle.channel_log.proofs.Keeping.{block_is, block_has, block_piece, fewer, kept_has}
use Rattle.channel_log.proofs.window.Window.find.Goals as goal

pub returns-then-has-clause-found : goal.returns-then-has-clause-found
returns-then-has-clause-found g c = λ t is part piece below. (piece, λ n few within. subst (λ (from : ℕ). HasThere c.args.self.now (c.args.at - from) (part c.args.file) c.args.at n) (sym (ap (λ (k : Kept). k.from) c.self.view_is)) (kept_has c.args.self.now c.args.file c.args.at n part (fewer c.args.self.now c.args.file c.args.at c.args.want n (c.if-has.ensures.0 refl) few) piece))

pub returns-clause-found : goal.returns-clause-found
returns-clause-found g c = λ t is part piece below.
    let l = c.in_ok-load.ensures.loaded t is in
    let size = c.max.result in
    let k = block_is size c.load.new.self c.args.file c.args.at part l.0 c.args.end (below l.0 l.1) l.2 in
    (block_piece size c.load.new.self c.args.file c.args.at part k, λ n few within. block_has size c.load.new.self c.args.file c.args.at part k n (omega (arith, few)) within)
