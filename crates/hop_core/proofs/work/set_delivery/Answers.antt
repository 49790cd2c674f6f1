use Rattle.std.proofs.Common.{◌∙◌, ap, sym, Some}
use Rattle.world_laws.specs.World.{Attempt}
use Rattle.hop_core.specs.contracts.work.OpenAttempt.{the_view}
use Rattle.hop_core.proofs.Live.{changed_at, alive_there}
use Rattle.hop_core.proofs.work.set_delivery.Goals as goal

pub returns-in-Some : goal.returns-in-Some
returns-in-Some c = λ a alive.
    let at = c.index-attempts-place in
    changed_at c.args.attempts.now c.args.number at.result (the_view c.attempt.inside) a (λ (x : Attempt). record x { delivery = Some c.args.delivery }) c.if-place-attempts.true at.is (at.is ∙ (c.in-Some.is ∙ ap (λ (x : Attempt). Some x) (sym c.attempt.view_is))) alive

pub returns-in_default : goal.returns-in_default
returns-in_default c = λ a alive.
    let at = c.index-attempts-place in
    alive_there c.args.attempts.now c.args.number at.result a c.if-place-attempts.true at.is (at.is ∙ c.in_default.is) alive
