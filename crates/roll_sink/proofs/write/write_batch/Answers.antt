use Rattle.std.proofs.Common.{◌≡◌, ◌∙◌, ◌++◌, ◌∷◌, [], ap, refl, List, ℕ, suc, take, drop, arith, add-one}
use Rattle.roll_sink.specs.Rolls.{roll_text}
use Rattle.roll_sink.proofs.Growing.{nothing_written, more_written, then_stopped, fails_early, writes_not, text-more, text-split}
use Rattle.roll_sink.proofs.write.write_batch.Goals as goal

pub loop-i-init : goal.loop-i-init
loop-i-init g c = (refl, nothing_written (g.D.RollDir.rolled c.args.dir.now))

pub loop-i-preserved : goal.loop-i-preserved
loop-i-preserved g c =
    let rolled = g.D.RollDir.rolled in
    let before = roll_text (take c.loop-i.i c.args.batch.now) in
    let line : List ℕ = c.get.result.now.body ++ 10 ∷ [] in
    let more = text-more c.args.batch.now c.loop-i.i c.get.result.now c.get.ensures in
    let here = rw c.body.ensures at c.in_ok-write_line.ensures.done in (
      omega (arith, c.in_ok-write_line.ensures.cause.well, c.loop-i.invariant.0),
      rw (add-one, more) (more_written before line (rolled c.args.dir.now) (rolled c.loop-i.dir) (rolled c.write_line.new.dir) c.loop-i.invariant.1 here),
    )

pub returns-in_err-write_line-clause-done : goal.returns-in_err-write_line-clause-done
returns-in_err-write_line-clause-done g c =
    let rolled = g.D.RollDir.rolled in
    let xs = c.args.batch.now in
    let before = roll_text (take c.loop-i.i xs) in
    let line : List ℕ = c.get.result.now.body ++ 10 ∷ [] in
    let rest = roll_text (drop (suc c.loop-i.i) xs) in
    let whole : roll_text xs ≡ (before ++ line) ++ rest = text-split xs (suc c.loop-i.i) ∙ ap (λ (l : List ℕ). l ++ rest) (text-more xs c.loop-i.i c.get.result.now c.get.ensures) in
    let here = rw c.body.ensures at c.in_err-write_line.ensures.done in
    writes_not (roll_text xs) c.from_residual.result (rolled c.args.dir.now) (rolled c.write_line.new.dir) c.from_residual.ensures.0
    (rw whole (fails_early (before ++ line) rest (rolled c.args.dir.now) (rolled c.write_line.new.dir)
    (then_stopped before line (rolled c.args.dir.now) (rolled c.loop-i.dir) (rolled c.write_line.new.dir) c.loop-i.invariant.1 here)))
