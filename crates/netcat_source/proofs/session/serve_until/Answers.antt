use Rattle.std.proofs.Common.{◌≡◌, ◌∙◌, ◌++◌, [], Err, ap, refl, arith}
use Rattle.std.proofs.lemmas.List.Elements.{All-nil}
use Rattle.netcat_source.specs.declared.session.SessionEnd.{SessionEnd}
use Rattle.netcat_source.specs.declared.session.SessionEnd.TheVariants.{Turns}
use Rattle.netcat_source.proofs.Fronts.{goes_none}
use Rattle.netcat_source.proofs.Going.{after_turn, breaks_then, ends_between, goes_then, served_by}
use Rattle.netcat_source.proofs.session.serve_until.Goals as goal

pub loop-turns-init : goal.loop-turns-init
loop-turns-init g c = record {
  few = omega arith;
  max = refl;
  partial = rw c.requires.held (record { short = c.requires.max.0; unbroken = All-nil (λ b. b ≡ 10 → ⊥) });
  well = refl;
  halts = refl;
  selector = refl;
  host = refl;
  goes = ([], goes_none _ _ _ _ _);
}

pub loop-turns-preserved : goal.loop-turns-preserved
loop-turns-preserved g c =
    let i = c.loop-turns.invariant in
    let goes = rw (i.max, i.selector, i.host) at c.in-Ok.ensures.goes in
    record {
      few = omega (arith, c.loop-turns-test.true);
      max = c.serve_turn.ensures.max ∙ i.max;
      partial = c.in-Ok.ensures.partial;
      well = c.in-Ok.ensures.fault.same (λ is. cc) ∙ i.well;
      halts = c.in-Ok.ensures.stop.same (λ is. cc) ∙ i.halts;
      selector = c.serve_turn.ensures.same.0 ∙ i.selector;
      host = c.serve_turn.ensures.same.1 ∙ i.host;
      goes = (i.goes.0 ++ goes.0, goes_then _ _ _ i.goes.1 goes.1);
    }

pub returns-in-Err-clause-served : goal.returns-in-Err-clause-served
returns-in-Err-clause-served g c =
    let i = c.loop-turns.invariant in
    let breaks = rw (i.max, i.selector, i.host) at c.in-Err.ensures.breaks in
    let both = rw c.requires.held at (breaks_then _ _ _ i.goes.1 breaks.3) in
    served_by _ _ _ both (after_turn c.in-Err.end c.loop-turns.turns breaks.1 (λ is. c.in-Err.ensures.turn (ap (λ (e : SessionEnd). Err e) is)) breaks.2 c.loop-turns-test.true)

pub returns-clause-served : goal.returns-clause-served
returns-clause-served g c =
    let i = c.loop-turns.invariant in
    let goes = rw c.requires.held at i.goes.1 in
    let partial = rw i.max at i.partial in
    let ended = ends_between _ _ _ goes partial Turns tt tt in
    served_by _ _ _ ended (omega (arith, i.few, c.loop-turns-test.false))
