use Rattle.std.proofs.Common.{◌≡◌, ◌∙◌, ◌+◌, ◌-◌, ◌^◌, ◌++◌, [], ℕ, refl, subst, arith, length, length-append}
use Rattle.std.proofs.KnownBytes.{Consumes-nil, Consumes-trans}
use Rattle.std.proofs.lemmas.List.Elements.{All-nil}
use Rattle.line_session.specs.declared.session.SessionEnd.TheVariants.{Full}
use Rattle.line_session.specs.Sessions.{EndsAt}
use Rattle.line_session.proofs.Fronts.{goes_none}
use Rattle.line_session.proofs.Going.{answered, begun_so, breaks_then, ends_at, ends_between, goes_then, served_by}
use Rattle.line_session.proofs.session.serve_until.Goals as goal

pub loop-taken-init : goal.loop-taken-init
loop-taken-init g c = record {
  few = omega arith;
  max = refl;
  partial = rw c.requires.held (record { short = c.requires.max.0; unbroken = All-nil (λ b. b ≡ 10 → ⊥) });
  ready = c.requires.ready;
  source_well = refl;
  sink_well = refl;
  goes = ([], Consumes-nil (g.S.Source.left c.args.source.now), refl, goes_none _ _ _ _ _ _);
}

pub loop-taken-preserved : goal.loop-taken-preserved
loop-taken-preserved g c =
    let i = c.loop-taken.invariant in
    let goes = rw i.max at c.in-Ok.ensures.goes in
    let bytes = i.goes.0 in
    let more = goes.0 in
    let size : length (bytes ++ more) ≡ c.loop-taken.taken + c.in-Ok.n = omega (arith, length-append bytes more, i.goes.2, goes.2) in
    record {
      few = omega (arith, c.loop-taken-test.true, goes.1.1, goes.2);
      max = c.serve_read.ensures.max ∙ i.max;
      partial = c.in-Ok.ensures.partial;
      ready = c.in-Ok.ensures.ready;
      source_well = c.in-Ok.ensures.well.0 ∙ i.source_well;
      sink_well = c.in-Ok.ensures.well.1 ∙ i.sink_well;
      goes = (bytes ++ more, Consumes-trans (g.S.Source.left c.args.source.now) (g.S.Source.left c.loop-taken.source) (g.S.Source.left c.serve_read.new.source) bytes more i.goes.1 goes.1.0, size, goes_then _ _ _ _ i.goes.3 goes.4);
    }

pub returns-in-Err-clause-served : goal.returns-in-Err-clause-served
returns-in-Err-clause-served g c =
    let i = c.loop-taken.invariant in
    let end = c.in-Err.end in
    let breaks = rw i.max at c.in-Err.ensures.breaks in
    let bytes = i.goes.0 in
    let more = breaks.0 in
    let both = rw c.requires.held at (breaks_then _ _ _ _ (begun_so end c.in-Err.ensures.kind) i.goes.3 breaks.3) in
    let left = g.S.Source.left c.serve_read.new.source in
    let n : ℕ = c.loop-taken.taken in
    let size : n + length more ≡ length (bytes ++ more) = omega (arith, length-append bytes more, i.goes.2) in
    let at : EndsAt end (n + length more) left = ends_at end n (2 ^ 40 - n) more left c.in-Err.ensures.kind breaks.2 breaks.1.1 c.loop-taken-test.true (omega (arith, i.few)) in
    served_by _ _ _ _ both (Consumes-trans (g.S.Source.left c.args.source.now) (g.S.Source.left c.loop-taken.source) left bytes more i.goes.1 breaks.1.0) (subst (λ (k : ℕ). EndsAt end k left) size at)

pub returns-clause-served : goal.returns-clause-served
returns-clause-served g c =
    let i = c.loop-taken.invariant in
    let goes = rw c.requires.held at i.goes.3 in
    let partial = rw i.max at i.partial in
    let ended = ends_between _ _ _ _ goes Full (answered _ _ _ _ goes, partial) in
    served_by _ _ _ _ ended i.goes.1 (omega (arith, i.goes.2, i.few, c.loop-taken-test.false))
