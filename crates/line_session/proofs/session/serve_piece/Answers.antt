use Rattle.std.proofs.Common.{◌∙◌, ◌+◌, take, sym, refl, subst, arith, take-append-drop}
use Rattle.std.proofs.Math.Seq.{take-add}
use Rattle.std.proofs.lemmas.List.{take_rest}
use Rattle.line_session.specs.declared.session.SessionEnd.{SessionEnd}
use Rattle.line_session.specs.Parts.{EndsByLine}
use Rattle.line_session.proofs.Fronts.{goes_none}
use Rattle.line_session.proofs.Going.{breaks_behind, goes_behind}
use Rattle.line_session.proofs.session.serve_piece.Goals as goal

pub loop-at-init : goal.loop-at-init
loop-at-init g c = record { within = omega arith; max = refl; partial = c.requires.partial; ready = c.requires.ready; well = refl; goes = goes_none _ _ _ _ _ _ }

pub returns-in-Err-clause-breaks : goal.returns-in-Err-clause-breaks
returns-in-Err-clause-breaks g c =
    let i = c.loop-at.invariant in
    let breaks = rw (i.max, take_rest) at c.in-Err.ensures.breaks in
    breaks_behind _ _ _ _ (λ is. subst (λ (e : SessionEnd). EndsByLine e) is c.in-Err.ensures.kind) c.args.piece.now (take-append-drop c.loop-at.at c.args.piece.now) i.goes breaks

pub loop-at-preserved : goal.loop-at-preserved
loop-at-preserved g c =
    let i = c.loop-at.invariant in
    let n = c.in-Ok.n in
    let xs = c.args.piece.now in
    let goes = rw (i.max, take_rest) at c.in-Ok.ensures.goes in
    record {
      within = omega (arith, c.in-Ok.ensures.n);
      max = c.serve_front.ensures.max ∙ i.max;
      partial = c.in-Ok.ensures.partial;
      ready = c.in-Ok.ensures.ready;
      well = c.in-Ok.ensures.fault.same (λ is. cc) ∙ i.well;
      goes = goes_behind _ _ _ _ (take (c.loop-at.at + n) xs) (sym (take-add c.loop-at.at n xs)) i.goes goes;
    }
