use Rattle.std.proofs.Common.{◌∙◌, List, map, sym, ap, subst}
use Rattle.crew.specs.declared.draining.DrainWorker.{DrainWorker}
use Rattle.run_opening.specs.Streams.{DrainKept, InTurn, drain_ended, last_or}
use Rattle.run_opening.proofs.Streaming.{last_push, turn_push}
use Rattle.run_opening.proofs.streams.+keep_drains.Goals as goal

pub returns-clause-ended : goal.returns-clause-ended
returns-clause-ended g t c =
    let left = c.pop.new.self.items in
    let before = c.args.ended.now in
    c.keep_drained.ensures.ended ∙ sym (last_push drain_ended before left c.in-Some.worker)
    ∙ ap (λ (l : List (DrainWorker g.row.H-Source.Denot)). last_or before (map drain_ended l)) (sym c.in-Some.ensures.items)

pub returns-clause-kept : goal.returns-clause-kept
returns-clause-kept g t c =
    let Step = DrainKept {I = g.row.H-Source.Denot} g.H.Source.Source.left g.H.Source.Source.faults in
    let old = g.H.Host.state c.args.host.now in
    let mid = g.H.Host.state c.keep_drains.new.host in
    let new = g.H.Host.state c.keep_drained.new.host in
    subst (λ (l : List (DrainWorker g.row.H-Source.Denot)). InTurn Step l old new) (sym c.in-Some.ensures.items)
    (turn_push Step c.pop.new.self.items c.in-Some.worker old mid new c.keep_drains.ensures.kept c.keep_drained.ensures.kept)
