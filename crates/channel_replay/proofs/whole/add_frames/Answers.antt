use Rattle.std.proofs.Common.{◌≡◌, ◌∷◌, [], ◌++◌, refl}
use Rattle.channel_replay.specs.Recover.{Faulty}
use Rattle.channel_replay.proofs.Lines.{when_ok}
use Rattle.channel_replay.proofs.Reading.{frames_bad, frames_more}
use Rattle.channel_replay.proofs.whole.add_frames.Goals as goal

pub returns-in_default : goal.returns-in_default
returns-in_default c =
    let gate = c.loop-gate.gate in
    let now = c.loop-gate.lines.items in
    let new = c.add.new.lines.items in
    when_ok c.add.result (new ≡ now ++ Faulty c.args.file gate ∷ []) _
    (λ added. frames_bad c.args.bytes.now gate c.args.file gate c.args.lines.now.items now new c.loop-gate.invariant c.loop-gate-test.true c.in_default.ensures.none refl added)
    c.add.ensures

pub loop-gate-preserved : goal.loop-gate-preserved
loop-gate-preserved c =
    frames_more c.args.bytes.now c.loop-gate.gate c.in-Some.next c.args.file _ _ c.args.lines.now.items c.loop-gate.lines.items c.add_frame.new.lines.items c.loop-gate.invariant c.loop-gate-test.true c.in-Some.ensures.found.0 c.in-Some.ensures.found.1 refl refl c.in_ok-add_frame.ensures
