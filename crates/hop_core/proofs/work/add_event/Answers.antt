use Rattle.std.proofs.Common.{◌≡◌, ◌∙◌, ap, sym, Some, ◌++◌, ◌∷◌, [], rules}
use Rattle.world_laws.specs.World.{Attempt}
use Rattle.hop_core.specs.contracts.work.OpenAttempt.{the_view}
use Rattle.hop_core.proofs.Live.{changed_at, alive_there}
use Rattle.hop_core.proofs.work.add_event.Goals as goal

pub returns-else-is_err-clause-ok : goal.returns-else-is_err-clause-ok
returns-else-is_err-clause-ok c = λ a alive.
    let at = c.index-attempts-place in
    let pushed : c.push.new.self ≡ c.attempt.inside.events ++ c.args.event ∷ [] = search rules in
    rw pushed
    (changed_at c.args.attempts.now c.args.number at.result (the_view c.attempt.inside) a (λ (x : Attempt). record x { events = x.events ++ c.args.event ∷ [] }) c.if-place-attempts.true at.is (at.is ∙ (c.in-Some.is ∙ ap (λ (x : Attempt). Some x) (sym c.attempt.view_is))) alive)

pub returns-in_default-clause-ok : goal.returns-in_default-clause-ok
returns-in_default-clause-ok c = λ a alive.
    let at = c.index-attempts-place in
    alive_there c.args.attempts.now c.args.number at.result a c.if-place-attempts.true at.is (at.is ∙ c.in_default.is) alive
