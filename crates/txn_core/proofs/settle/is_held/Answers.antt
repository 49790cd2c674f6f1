use Rattle.std.proofs.Common.{rules, ◌≡◌, ◌∙◌, ◌||◌, Bool, true, false, sym, ap}
use Rattle.event_core.specs.Journal.{taken_numbers, is_among}
use Rattle.channel_face.specs.Machine.{entries}
use Rattle.channel_face.proofs.Numbers.{or_among}
use Rattle.txn_core.proofs.settle.is_held.Goals as goal

pub returns-then-takes : goal.returns-then-takes
returns-then-takes c =
    let open_ones : is_among (taken_numbers (entries c.args.opened.now)) c.args.number ≡ true = search rules in
    c.if-takes.true ∙ sym (or_among (taken_numbers (entries c.args.opened.now)) (taken_numbers (entries c.args.staged.now)) c.args.number ∙ ap (λ (b : Bool). b || is_among (taken_numbers (entries c.args.staged.now)) c.args.number) open_ones)

pub returns-else-takes : goal.returns-else-takes
returns-else-takes c =
    let open_ones : is_among (taken_numbers (entries c.args.opened.now)) c.args.number ≡ false = search rules in
    c.takes-else-takes.ensures ∙ sym (or_among (taken_numbers (entries c.args.opened.now)) (taken_numbers (entries c.args.staged.now)) c.args.number ∙ ap (λ (b : Bool). b || is_among (taken_numbers (entries c.args.staged.now)) c.args.number) open_ones)
