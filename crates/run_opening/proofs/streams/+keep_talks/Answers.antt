use Rattle.std.proofs.Common.{◌∙◌, List, map, sym, ap, subst}
use Rattle.run_staff.specs.declared.workers.LineEnded.{LineEnded}
use Rattle.run_opening.specs.Streams.{InTurn, TalkKept, last_or, talk_ended}
use Rattle.run_opening.proofs.Streaming.{last_push, turn_push}
use Rattle.run_opening.proofs.streams.+keep_talks.Goals as goal

pub returns-clause-ended : goal.returns-clause-ended
returns-clause-ended g t c =
    let left = c.pop.new.self.items in
    let before = c.args.ended.now in
    c.keep_talk.ensures.ended ∙ sym (last_push talk_ended before left c.in-Some.talk)
    ∙ ap (λ (l : List (LineEnded g.row.H-Source.Denot g.row.H-Sink.Denot)). last_or before (map talk_ended l)) (sym c.in-Some.ensures.items)

pub returns-clause-kept : goal.returns-clause-kept
returns-clause-kept g t c =
    let Step = TalkKept {I = g.row.H-Source.Denot} g.H.Source.Source.left g.H.Source.Source.faults {O = g.row.H-Sink.Denot} g.H.Sink.Sink.took g.H.Sink.Sink.handed g.H.Sink.Sink.faults in
    let old = g.H.Host.state c.args.host.now in
    let mid = g.H.Host.state c.keep_talks.new.host in
    let new = g.H.Host.state c.keep_talk.new.host in
    subst (λ (l : List (LineEnded g.row.H-Source.Denot g.row.H-Sink.Denot)). InTurn Step l old new) (sym c.in-Some.ensures.items)
    (turn_push Step c.pop.new.self.items c.in-Some.talk old mid new c.keep_talks.ensures.kept c.keep_talk.ensures.kept)
