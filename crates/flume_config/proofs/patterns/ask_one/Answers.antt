use Rattle.std.proofs.Common.{◌≡◌, List, ℕ, ap, ◌∙◌}
use Rattle.plan_judging.specs.Components.{front_of}
use Rattle.flume_config.proofs.patterns.ask_one.Goals as goal

pub returns : goal.returns
returns g c =
    let outer = c.args.place.now.front.now in
    let front_is : c.as_str.result.now ≡ front_of outer g.K.AskedKind.between c.args.name.now =
    c.as_str.ensures.value ∙ (c.in_ok-front.ensures ∙ ap (λ (part : List ℕ). front_of outer part c.args.name.now) c.infix.ensures) in
    rw front_is at c.ask_in.ensures
