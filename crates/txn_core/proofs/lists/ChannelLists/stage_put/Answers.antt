use Rattle.std.proofs.Common.{rules, ◌≡◌, ◌∙◌, ◌+◌, ℕ, length, Some, None, sym, ap}
use Rattle.event_core.specs.declared.journal.Entry.TheVariants.{Puts}
use Rattle.channel_face.specs.Machine.{State}
use Rattle.txn_core.specs.Places.{IsAt}
use Rattle.channel_face.specs.Machine.{next_number, stage_put_refusal}
use Rattle.txn_core.proofs.Steps.{staged_put}
use Rattle.txn_core.proofs.lists.ChannelLists.stage_put.Goals as goal

pub returns-clause-step : goal.returns-clause-step
returns-clause-step c =
    let m = c.self.inside in
    let s : State = c.args.self.now in
    let found = c.in-Some.ensures.found in
    let events = found.0 in
    let held : c.in-Some.held ≡ length events = search rules in
    let at : IsAt s.opened c.args.txn.number c.in-Some.place (Puts events) = search rules in
    let allowed : stage_put_refusal s (Some events) ≡ None = sym (c.stage_put_refusal.ensures events (sym held)) ∙ c.in_default-stage_put_refusal.is in
    let first : m.first + m.staged_puts ≡ next_number s = ap (λ (n : ℕ). m.first + n) c.self.invariant.staged_puts_are ∙ ap (λ (v : State). next_number v) c.self.view_is in
    staged_put s c.args.txn events c.in-Some.place c.in-Some.held (m.first + m.staged_puts) c.ticket-ticket.result c.stage_at.new.self at found.2 held allowed first c.ticket-ticket.ensures (c.stage_at.ensures c.args.txn.number (Puts events) at)
