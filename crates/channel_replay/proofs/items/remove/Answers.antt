use Rattle.std.proofs.Common.{rules, ◌∙◌, ℕ, not}
use Rattle.std.proofs.lemmas.Fn.{filter_same}
use Rattle.event_core.specs.Content.{Content}
use Rattle.event_core.specs.Journal.{is_among}
use Rattle.channel_replay.proofs.Numbers.{without_filter}
use Rattle.channel_replay.proofs.items.remove.Goals as goal

pub returns : goal.returns
returns c =
    filter_same _ (λ (item : ℕ × Content). not (is_among c.args.numbers.now item.0)) _ (λ x b f' k. search rules) _ _ c.retain.ensures.filtered
    ∙ without_filter c.args.numbers.now c.args.items.now.items
