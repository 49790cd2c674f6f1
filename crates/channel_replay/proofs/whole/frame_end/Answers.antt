use Rattle.std.proofs.Common.{◌≡◌, [], ◌-◌, ◌+◌, length, take, drop, arith, length-drop, subst, ◌∙◌}
use Rattle.std.proofs.lemmas.List.{append-nil, take_all}
use Rattle.channel_log.specs.Reader.{OpensNone}
use Rattle.channel_log.proofs.Loads.{cut_bad, cut_part, cut_whole}
use Rattle.channel_replay.proofs.whole.frame_end.Goals as goal

pub returns-else-length-rest-clause-none : goal.returns-else-length-rest-clause-none
returns-else-length-rest-clause-none c =
    let is = c.in-Frame.ensures in
    let rest : take (length c.args.bytes.now - (c.args.gate + 1)) (drop (c.args.gate + 1) c.args.bytes.now) ≡ drop (c.args.gate + 1) c.args.bytes.now = take_all (length c.args.bytes.now - (c.args.gate + 1)) (drop (c.args.gate + 1) c.args.bytes.now) (omega (arith, length-drop (c.args.gate + 1) c.args.bytes.now)) in
    cut_whole (drop (c.args.gate + 1) c.args.bytes.now) c.in-Frame.length is.0 is.1 (rw rest at is.4) (rw rest at c.if-length-rest.false)

pub returns-in-Bad-clause-none : goal.returns-in-Bad-clause-none
returns-in-Bad-clause-none c =
    let rest : take (length c.args.bytes.now - (c.args.gate + 1)) (drop (c.args.gate + 1) c.args.bytes.now) ≡ drop (c.args.gate + 1) c.args.bytes.now = take_all (length c.args.bytes.now - (c.args.gate + 1)) (drop (c.args.gate + 1) c.args.bytes.now) (omega (arith, length-drop (c.args.gate + 1) c.args.bytes.now)) in
    let read = take (length c.args.bytes.now - (c.args.gate + 1)) (drop (c.args.gate + 1) c.args.bytes.now) in
    subst OpensNone (append-nil read ∙ rest) (cut_bad read c.in-Bad.ensures [])

pub returns-in-Part-clause-none : goal.returns-in-Part-clause-none
returns-in-Part-clause-none c =
    let rest : take (length c.args.bytes.now - (c.args.gate + 1)) (drop (c.args.gate + 1) c.args.bytes.now) ≡ drop (c.args.gate + 1) c.args.bytes.now = take_all (length c.args.bytes.now - (c.args.gate + 1)) (drop (c.args.gate + 1) c.args.bytes.now) (omega (arith, length-drop (c.args.gate + 1) c.args.bytes.now)) in
    let read = take (length c.args.bytes.now - (c.args.gate + 1)) (drop (c.args.gate + 1) c.args.bytes.now) in
    subst OpensNone rest (cut_part read c.in-Part.ensures.0)
