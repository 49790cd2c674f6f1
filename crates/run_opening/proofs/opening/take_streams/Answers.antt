use Rattle.std.proofs.Common.{◌≡◌, ◌∙◌, List, [], ◌∷◌, ◌++◌, None, length, ap, arith, refl, sym, subst}
use Rattle.crew.specs.declared.draining.DrainWorker.{DrainWorker}
use Rattle.run_opening.specs.Streams.{DrainTaken, InTurn}
use Rattle.run_opening.proofs.Manning.{taken_more}
use Rattle.run_opening.proofs.opening.take_streams.Goals as goal

none_of : {A : Type 0} (xs : List A) → length xs ≡ 0 → xs ≡ []
none_of [] none = refl
none_of (x ∷ xs) none = absurd (omega arith)

pub returns-then-lines-eq0-clause-rest : goal.returns-then-lines-eq0-clause-rest
returns-then-lines-eq0-clause-rest g c = taken_more (g.H.Host.state c.args.host.now) (g.H.Host.state c.take_talks.new.host) (g.H.Host.state c.take_input.new.self) c.take_talks.ensures.rest c.take_input.ensures.state

pub returns-else-lines-eq0-clause-rest : goal.returns-else-lines-eq0-clause-rest
returns-else-lines-eq0-clause-rest g c = c.take_talks.ensures.rest

pub returns-then-lines-eq0-clause-taken : goal.returns-then-lines-eq0-clause-taken
returns-then-lines-eq0-clause-taken g c =
    let D = DrainWorker g.row.H-Source.Denot in
    let worker : D = record { input = c.take_input.result; end = None } in
    let mid = g.H.Host.state c.take_talks.new.host in
    let new = g.H.Host.state c.take_input.new.self in
    let Step = DrainTaken g.H.Source.Source.left g.H.Source.Source.faults in
    let only : c.push_reserved.new.self.items ≡ worker ∷ [] = c.push_reserved.ensures.items ∙ ap (λ (l : List D). l ++ worker ∷ []) c.requires.drains.0 in
    record {
      between = mid;
      lines = c.take_talks.ensures.taken;
      drains = subst (λ (l : List D). InTurn Step l mid new) (sym only)
          (new, record { left_there = c.take_input.ensures.left; read_well = c.take_input.ensures.count; none = refl; state = c.take_input.ensures.state }, refl);
      undrained = λ some. absurd (some (none_of c.take_talks.new.talks.items (c.take_talks.ensures.many ∙ c.if-lines-eq0.true)));
      drained = λ none. ap length only;
    }

pub returns-else-lines-eq0-clause-taken : goal.returns-else-lines-eq0-clause-taken
returns-else-lines-eq0-clause-taken g c =
    let D = DrainWorker g.row.H-Source.Denot in
    let mid = g.H.Host.state c.take_talks.new.host in
    let Step = DrainTaken g.H.Source.Source.left g.H.Source.Source.faults in
    record {
      between = mid;
      lines = c.take_talks.ensures.taken;
      drains = subst (λ (l : List D). InTurn Step l mid mid) (sym c.requires.drains.0) refl;
      undrained = λ some. c.requires.drains.0;
      drained = λ none. absurd (c.if-lines-eq0.false (sym c.take_talks.ensures.many ∙ ap length none));
    }
