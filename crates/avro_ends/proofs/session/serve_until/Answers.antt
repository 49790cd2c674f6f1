use Rattle.std.proofs.Common.{◌∙◌, ◌++◌, [], Err, ap, refl, arith}
use Rattle.avro_frame.specs.Pack.{IsPart, InHead}
use Rattle.avro_frame.specs.Feed.{Packing, Holds, Failed}
use Rattle.avro_ends.specs.Sessions.{IsOpen, held_in}
use Rattle.avro_ends.specs.declared.session.AvroEnd.{AvroEnd}
use Rattle.avro_ends.specs.declared.session.AvroEnd.TheVariants.{Turns}
use Rattle.avro_ends.proofs.Going.{after_turn, breaks_then, ends_between, goes_none, goes_then, served_by}
use Rattle.avro_ends.proofs.session.serve_until.Goals as goal

part : (p : Packing) → IsOpen p → IsPart (held_in p)
part (Holds bytes) is = is
part (Failed e) is = absurd is

first : IsPart []
first = InHead (omega arith)

pub loop-turns-init : goal.loop-turns-init
loop-turns-init g c = record {
  few = omega arith;
  opened = rw c.requires.packs first;
  well = refl;
  halts = refl;
  selector = refl;
  host = refl;
  goes = ([], goes_none _ _ _ _ _);
}

pub loop-turns-preserved : goal.loop-turns-preserved
loop-turns-preserved g c =
    let i = c.loop-turns.invariant in
    let goes = rw (i.selector, i.host) at c.in-Ok.ensures.goes in
    record {
      few = omega (arith, c.loop-turns-test.true);
      opened = c.in-Ok.ensures.open;
      well = c.in-Ok.ensures.fault.same (λ is. cc) ∙ i.well;
      halts = c.in-Ok.ensures.stop.same (λ is. cc) ∙ i.halts;
      selector = c.serve_turn.ensures.same.0 ∙ i.selector;
      host = c.serve_turn.ensures.same.1 ∙ i.host;
      goes = (i.goes.0 ++ goes.0, goes_then _ i.goes.1 goes.1);
    }

pub returns-in-Err-clause-served : goal.returns-in-Err-clause-served
returns-in-Err-clause-served g c =
    let i = c.loop-turns.invariant in
    let breaks = rw (i.selector, i.host) at c.in-Err.ensures.breaks in
    let both = rw (c.requires.packs, c.requires.hop) at (breaks_then _ i.goes.1 breaks.3) in
    served_by _ both (after_turn c.in-Err.end c.loop-turns.turns breaks.1 (λ is. c.in-Err.ensures.turn (ap (λ (e : AvroEnd). Err e) is)) breaks.2 c.loop-turns-test.true)

pub returns-clause-served : goal.returns-clause-served
returns-clause-served g c =
    let i = c.loop-turns.invariant in
    let goes = rw (c.requires.packs, c.requires.hop) at i.goes.1 in
    served_by _ (ends_between _ goes (part c.loop-turns.packs.packing i.opened) Turns tt tt) (omega (arith, i.few, c.loop-turns-test.false))
