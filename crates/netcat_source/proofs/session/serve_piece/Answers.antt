use Rattle.std.proofs.Common.{◌∙◌, ◌+◌, take, drop, sym, refl, arith, take-append-drop}
use Rattle.std.proofs.Math.Seq.{take-add}
use Rattle.std.proofs.lemmas.List.{take_rest}
use Rattle.netcat_source.proofs.Fronts.{goes_none}
use Rattle.netcat_source.proofs.Going.{stops_amid, breaks_behind, goes_behind}
use Rattle.netcat_source.proofs.session.serve_piece.Goals as goal

pub loop-at-init : goal.loop-at-init
loop-at-init g c = record { within = omega arith; max = refl; partial = c.requires.partial; well = refl; halts = refl; selector = refl; host = refl; goes = goes_none _ _ _ _ _ }

pub returns-then-asked-clause-breaks : goal.returns-then-asked-clause-breaks
returns-then-asked-clause-breaks g c = stops_amid _ _ _ c.loop-at.invariant.goes (drop c.loop-at.at c.args.piece.now) c.args.piece.now (take-append-drop c.loop-at.at c.args.piece.now)

pub returns-in-Err-clause-breaks : goal.returns-in-Err-clause-breaks
returns-in-Err-clause-breaks g c =
    let i = c.loop-at.invariant in
    let breaks = rw (i.max, i.selector, i.host, take_rest) at c.in-Err.ensures.breaks in
    breaks_behind _ _ _ c.args.piece.now (take-append-drop c.loop-at.at c.args.piece.now) i.goes breaks

pub loop-at-preserved : goal.loop-at-preserved
loop-at-preserved g c =
    let i = c.loop-at.invariant in
    let n = c.in-Ok.n in
    let xs = c.args.piece.now in
    let goes = rw (i.max, i.selector, i.host, take_rest) at c.in-Ok.ensures.goes in
    record {
      within = omega (arith, c.in-Ok.ensures.n);
      max = c.serve_front.ensures.max ∙ i.max;
      partial = c.in-Ok.ensures.partial;
      well = c.in-Ok.ensures.fault.same (λ is. cc) ∙ i.well;
      halts = c.asked.ensures.still c.if-asked.false ∙ i.halts;
      selector = c.serve_front.ensures.same.0 ∙ i.selector;
      host = c.serve_front.ensures.same.1 ∙ i.host;
      goes = goes_behind _ _ _ (take (c.loop-at.at + n) xs) (sym (take-add c.loop-at.at n xs)) i.goes goes;
    }
