use Rattle.std.proofs.Common.{rules, ◌≡◌, ◌∙◌, length, Some, None, false, sym, ap, refl}
use Rattle.event_core.specs.declared.journal.Entry.TheVariants.{Takes}
use Rattle.channel_face.specs.Machine.{State}
use Rattle.txn_core.specs.Places.{IsAt}
use Rattle.channel_face.specs.Machine.{stage_take_refusal}
use Rattle.txn_core.proofs.Steps.{staged_take}
use Rattle.txn_core.proofs.lists.ChannelLists.stage_take.Goals as goal

pub returns-clause-step : goal.returns-clause-step
returns-clause-step c =
    let s : State = c.args.self.now in
    let found = c.in-Some.ensures.found in
    let numbers = found.0 in
    let held : c.in-Some.held ≡ length numbers = search rules in
    let at : IsAt s.opened c.args.txn.number c.in-Some.place (Takes numbers) = search rules in
    let whole : s.broken ≡ false = ap (λ (v : State). v.broken) (sym c.self.view_is) ∙ c.if-self.false in
    let allowed : stage_take_refusal s (Some numbers) ≡ None = rw whole refl in
    staged_take s c.args.txn numbers c.in-Some.place c.in-Some.held c.ticket-ticket.result c.stage_at.new.self at found.2 held allowed c.ticket-ticket.ensures (c.stage_at.ensures c.args.txn.number (Takes numbers) at)
