use Rattle.std.proofs.Common.{Some, sym, ap, ◌∙◌}
use Rattle.std.specs.Option.{option_map}
use Rattle.std.specs.String.{string_bytes}
use Rattle.event_core.specs.Content.{value_of}
use Rattle.event_core.proofs.HeaderLemmas.{value_of-pairs}
use Rattle.event_core.proofs.event.Headers.get.Goals as goal

pub returns-in-Some : goal.returns-in-Some
returns-in-Some c =
    ap Some c.as_str.ensures.value ∙ ap (option_map string_bytes) c.in-Some.ensures.value ∙ sym (value_of-pairs c.self.inside.entries.entries c.args.key.now) ∙ ap (λ hs. value_of hs c.args.key.now) c.self.view_is

pub returns-in-None : goal.returns-in-None
returns-in-None c =
    ap (option_map string_bytes) c.in-None.ensures.value ∙ sym (value_of-pairs c.self.inside.entries.entries c.args.key.now) ∙ ap (λ hs. value_of hs c.args.key.now) c.self.view_is
