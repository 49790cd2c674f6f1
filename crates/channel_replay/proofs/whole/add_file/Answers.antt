use Rattle.std.proofs.Common.{◌≡◌, ◌∷◌, [], ◌++◌, take, refl}
use Rattle.channel_replay.specs.Plain.{AddsFrames}
use Rattle.channel_replay.specs.Recover.{Faulty}
use Rattle.channel_replay.proofs.Lines.{when_ok}
use Rattle.channel_replay.proofs.Reading.{right_header, wrong_header}
use Rattle.channel_replay.proofs.whole.add_file.Goals as goal

pub returns-in_ok-add_begin-in-Some : goal.returns-in_ok-add_begin-in-Some
returns-in_ok-add_begin-in-Some c =
    let began = c.add_begin.new.lines.items in
    let new = c.add_frames.new.lines.items in
    when_ok c.add_frames.result (AddsFrames c.args.bytes.now c.args.file began new) _
    (λ adds. right_header c.args.bytes.now c.args.file c.in-Some.birth (take 16 c.args.bytes.now) c.args.lines.now.items began new c.if-bytes-le-BLANK_LENGTH.false refl c.in-Some.ensures.0 c.in-Some.ensures.1 c.in_ok-add_begin-in-Some.ensures adds)
    c.add_frames.ensures

pub returns-in-None : goal.returns-in-None
returns-in-None c =
    let new = c.add.new.lines.items in
    when_ok c.add.result (new ≡ c.args.lines.now.items ++ Faulty c.args.file 0 ∷ []) _
    (λ added. wrong_header c.args.bytes.now c.args.file (take 16 c.args.bytes.now) c.args.lines.now.items new c.if-bytes-le-BLANK_LENGTH.false refl c.in-None.ensures added)
    c.add.ensures
