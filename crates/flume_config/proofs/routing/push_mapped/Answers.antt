use Rattle.std.proofs.Common.{sym, false}
use Rattle.std.proofs.lemmas.Str.Pattern.{starts_text}
use Rattle.prop_text.specs.Views.{texts}
use Rattle.flume_config.proofs.Mapping.{maps_none, maps_one}
use Rattle.flume_config.proofs.routing.push_mapped.Goals as goal

pub returns-in-None : goal.returns-in-None
returns-in-None c =
    maps_none (texts c.args.channels.now.keys) c.args.front.now (record { key = c.args.key.now; value = c.args.value.now; line = c.args.line }) _
    (sym (starts_text false c.args.front.now c.args.key.now c.in-None.ensures.cases))

pub returns-in_ok-push-in-Some : goal.returns-in_ok-push-in-Some
returns-in_ok-push-in-Some c =
    let at = c.in-Some.ensures.cases in
    maps_one (texts c.args.channels.now.keys) c.args.front.now (record { key = c.args.key.now; value = c.args.value.now; line = c.args.line })
    c.args.found.now.items c.push.new.self.items c.in-Some.behind.now c.in_ok-places-in-Some.places.items (c.in_ok-behind-in-Some.behind, c.in_ok-places-in-Some.places) at.0
    c.in_ok-push-in-Some.ensures.items (λ i. (c.in_ok-behind-in-Some.ensures.ok i, c.in_ok-places-in-Some.places.items)) at.2 at.1.0 at.1.1 c.in_ok-places-in-Some.ensures
