use Rattle.std.proofs.Common.{◌≡◌, ◌+◌, arith, ap, ◌∙◌}
use Rattle.event_core.specs.Content.{content, size}
use Rattle.event_core.proofs.Sizes.{size-sum}
use Rattle.event_core.proofs.event.Event.size.Goals as goal

pub returns-clause-size : goal.returns-clause-size
returns-clause-size c =
    let sum : c.size.result + c.len.result + 8 ≡ size (content c.self.inside.headers c.self.inside.body.items) = omega (arith, size-sum (content c.self.inside.headers c.self.inside.body.items)) in
    sum ∙ ap size c.self.view_is
