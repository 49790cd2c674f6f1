use Rattle.std.proofs.Common.{[]}
use Rattle.std.proofs.lemmas.Result.{err_from_is_err_and}
use Rattle.event_core.specs.Journal.{Base}
use Rattle.channel_replay.specs.Marks.{Past}
use Rattle.channel_replay.specs.Recover.{HasFault, IsAt, IsSound, empty_base}
use Rattle.channel_replay.specs.Recovery.{Agrees}
use Rattle.channel_replay.proofs.Lines.{applied_bad, applied_more, bad_maps}
use Rattle.channel_replay.proofs.plain.apply_all.Goals as goal

pub loop-line-preserved : goal.loop-line-preserved
loop-line-preserved c = applied_more c.args.lines.items c.loop-line.lines.items c.pop_front.new.self.items c.in-Some.line c.loop-line.recovery c.apply_line.new.self c.loop-line.invariant c.in-Some.ensures.items c.in_ok-apply_line.ensures.ok

pub returns-in_err-apply_line-clause-bad : goal.returns-in_err-apply_line-clause-bad
returns-in_err-apply_line-clause-bad c =
    let p = err_from_is_err_and c.from_residual.result c.from_residual.ensures.1 in
    let line = c.in-Some.line in
    let old = c.loop-line.recovery in
    rw (p.1, p.2) (bad_maps c.in_err-apply_line.field-0.0
    (λ file at. IsAt line file at × ((base : Base) (past : Past) → Agrees base past old → IsSound base past line → ⊥))
    (λ file at. HasFault empty_base [] c.args.lines.items file at)
    (λ file at bad. applied_bad c.args.lines.items c.loop-line.lines.items c.pop_front.new.self.items line old file at c.loop-line.invariant c.in-Some.ensures.items bad)
    c.in_err-apply_line.ensures.bad)
