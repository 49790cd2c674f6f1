use Rattle.std.proofs.Common.{rules, ◌≡◌, ◌≤◌, ◌∙◌, ℕ, true, not, sym}
use Rattle.std.proofs.lemmas.Fn.{filter_same}
use Rattle.event_core.specs.Content.{Content}
use Rattle.event_core.specs.Journal.{taken_numbers, is_among}
use Rattle.channel_face.specs.Machine.{entries}
use Rattle.txn_core.proofs.Taken.{none_taken, without_filter}
use Rattle.txn_core.proofs.settle.drop_taken.Goals as goal

pub returns-then-staged_takes-eq0-clause-items : goal.returns-then-staged_takes-eq0-clause-items
returns-then-staged_takes-eq0-clause-items c =
    sym (none_taken (taken_numbers (entries c.args.staged.now)) c.args.items.now.items (sym c.staged_takes.ensures ∙ c.if-staged_takes-eq0.true))

pub returns-clause-items : goal.returns-clause-items
returns-clause-items c =
    filter_same _ (λ (item : ℕ × Content). not (is_among (taken_numbers (entries c.args.staged.now)) item.0)) _ (λ x b f' k. (let so : ((n : ℕ) → is_among (taken_numbers (entries c.args.staged.now)) n ≡ true → n ≤ c.taken_bound-last.result) → b ≡ not (is_among (taken_numbers (entries c.args.staged.now)) x.0) = search rules in so c.taken_bound-last.ensures, search rules)) _ _ c.retain.ensures.filtered
    ∙ without_filter (taken_numbers (entries c.args.staged.now)) c.args.items.now.items
