use Rattle.std.proofs.Common.{◌≡◌, ◌∙◌, ℕ, Option, Ok, Some, true, ap, subst, sym}
use Rattle.flume_host.specs.Told.{Told}
use Rattle.event_core.specs.declared.journal.Entry.TheVariants.{Takes}
use Rattle.record_form.specs.declared.record.Rec.TheVariants.{CommitTake}
use Rattle.channel_face.specs.History.{Moves}
use Rattle.channel_face.specs.Machine.{State, StageTake, after, entry_of, stage}
use Rattle.channel_face.specs.declared.replies.Ticket.{Ticket}
use Rattle.channel_places.specs.Looks.{Known, Looks}
use Rattle.channel_writing.specs.Written.{IsLogged}
use Rattle.channel_writing.proofs.Whole.{staged_takes}
use Rattle.file_channel.specs.Placed.{IsStateOf, Logged}
use Rattle.file_channel.specs.Stepped.{Steps}
use Rattle.file_channel.proofs.Stepping.{idle_take, staged_take, stages_take}
use Rattle.file_channel.proofs.logged.LoggedPlaces.stage_take.Goals as goal

pub invariant_of-self : goal.invariant_of-self
invariant_of-self g c =
    let m = c.self.inside in
    let told = g.D.Disk.told m.writing.disk in
    let token = c.args.txn in
    let given : Ticket = c.take_ticket-ticket.result in
    let old : Logged = record { places = m.held; log = m.writing.log; busy = m.writing.busy } in
    let s : State = c.self.invariant.0 in
    let is = c.self.invariant.1 in
    let number : c.number-number.result ≡ token.number = c.number-number.ensures in
    let moves : Moves true s (StageTake token (Ok given)) (after s (StageTake token (Ok given))) = stages_take s token given (sym (c.stage_take_refusal.ensures.refusal is.settled is.known s is.looks) ∙ c.in_default.is) (c.take_ticket-ticket.ensures is.settled is.known s is.looks) in
    let places : (settled known : Known) → Looks settled known old.places s → Looks settled known c.stage.new.self (after s (StageTake token (Ok given))) = λ settled known looks. subst (λ (n : ℕ). Looks settled known c.stage.new.self (stage n (entry_of n s.opened) s)) number (c.stage.ensures.looks settled known s looks) in
    (after s (StageTake token (Ok given)), (idle_take told old c.stage.new.self token given s is moves places c.stage.ensures.opened c.if-ticket-eq0.true).stands)

pub returns-then-ticket-eq0-clause-step : goal.returns-then-ticket-eq0-clause-step
returns-then-ticket-eq0-clause-step g c = rw (← c.self.view_is) (λ s is.
    let m = c.self.inside in
    let told = g.D.Disk.told m.writing.disk in
    let token = c.args.txn in
    let given : Ticket = c.take_ticket-ticket.result in
    let old : Logged = record { places = m.held; log = m.writing.log; busy = m.writing.busy } in
    let number : c.number-number.result ≡ token.number = c.number-number.ensures in
    let moves : Moves true s (StageTake token (Ok given)) (after s (StageTake token (Ok given))) = stages_take s token given (sym (c.stage_take_refusal.ensures.refusal is.settled is.known s is.looks) ∙ c.in_default.is) (c.take_ticket-ticket.ensures is.settled is.known s is.looks) in
    let places : (settled known : Known) → Looks settled known old.places s → Looks settled known c.stage.new.self (after s (StageTake token (Ok given))) = λ settled known looks. subst (λ (n : ℕ). Looks settled known c.stage.new.self (stage n (entry_of n s.opened) s)) number (c.stage.ensures.looks settled known s looks) in
    idle_take told old c.stage.new.self token given s is moves places c.stage.ensures.opened c.if-ticket-eq0.true)

pub invariant_of-self-2 : goal.invariant_of-self-2
invariant_of-self-2 g c =
    let m = c.self.inside in
    let told = g.D.Disk.told m.writing.disk in
    let token = c.args.txn in
    let given : Ticket = c.take_ticket-ticket.result in
    let old : Logged = record { places = m.held; log = m.writing.log; busy = m.writing.busy } in
    let s : State = c.self.invariant.0 in
    let is = c.self.invariant.1 in
    let number : c.number-number.result ≡ token.number = c.number-number.ensures in
    let moves : Moves true s (StageTake token (Ok given)) (after s (StageTake token (Ok given))) = stages_take s token given (sym (c.stage_take_refusal.ensures.refusal is.settled is.known s is.looks) ∙ c.in_default.is) (c.take_ticket-ticket.ensures is.settled is.known s is.looks) in
    let places : (settled known : Known) → Looks settled known old.places s → Looks settled known c.stage.new.self (after s (StageTake token (Ok given))) = λ settled known looks. subst (λ (n : ℕ). Looks settled known c.stage.new.self (stage n (entry_of n s.opened) s)) number (c.stage.ensures.looks settled known s looks) in
    let staged = staged_takes s (after s (StageTake token (Ok given))) token given moves in
    let told' = g.D.Disk.told c.add_commit_take.new.self.disk in
    let new : Logged = record { places = c.stage.new.self; log = c.add_commit_take.new.self.log; busy = c.add_commit_take.new.self.busy } in
    let entry : entry_of c.number-number.result s.opened ≡ Some (Takes staged.numbers) = ap (λ (n : ℕ). entry_of n s.opened) number ∙ staged.entry in
    let same : told' ≡ told = ap g.D.Disk.told c.add_commit_take.ensures.disk in
    let log' : IsLogged told' new.log new.busy (stage c.number-number.result (Some (Takes staged.numbers)) s) = (c.add_commit_take.ensures.logged s staged.numbers (is.whole.logged staged.still) entry staged.count) in
    let log : IsLogged told new.log new.busy (stage token.number (Some (Takes staged.numbers)) s) = subst (λ (v : Option Told). IsLogged v new.log new.busy (stage token.number (Some (Takes staged.numbers)) s)) same (subst (λ (n : ℕ). IsLogged told' new.log new.busy (stage n (Some (Takes staged.numbers)) s)) number log') in
    (after s (StageTake token (Ok given)), subst (λ (v : Option Told). IsStateOf v new (after s (StageTake token (Ok given)))) (sym same) (staged_take told old new token given (CommitTake c.number-number.result given.count) s is moves places c.stage.ensures.opened c.if-ticket-eq0.false staged log c.add_commit_take.ensures.log c.add_commit_take.ensures.waits).stands)

pub returns-clause-step : goal.returns-clause-step
returns-clause-step g c = rw (← c.self.view_is) (λ s is.
    let m = c.self.inside in
    let told = g.D.Disk.told m.writing.disk in
    let token = c.args.txn in
    let given : Ticket = c.take_ticket-ticket.result in
    let old : Logged = record { places = m.held; log = m.writing.log; busy = m.writing.busy } in
    let number : c.number-number.result ≡ token.number = c.number-number.ensures in
    let moves : Moves true s (StageTake token (Ok given)) (after s (StageTake token (Ok given))) = stages_take s token given (sym (c.stage_take_refusal.ensures.refusal is.settled is.known s is.looks) ∙ c.in_default.is) (c.take_ticket-ticket.ensures is.settled is.known s is.looks) in
    let places : (settled known : Known) → Looks settled known old.places s → Looks settled known c.stage.new.self (after s (StageTake token (Ok given))) = λ settled known looks. subst (λ (n : ℕ). Looks settled known c.stage.new.self (stage n (entry_of n s.opened) s)) number (c.stage.ensures.looks settled known s looks) in
    let staged = staged_takes s (after s (StageTake token (Ok given))) token given moves in
    let told' = g.D.Disk.told c.add_commit_take.new.self.disk in
    let new : Logged = record { places = c.stage.new.self; log = c.add_commit_take.new.self.log; busy = c.add_commit_take.new.self.busy } in
    let entry : entry_of c.number-number.result s.opened ≡ Some (Takes staged.numbers) = ap (λ (n : ℕ). entry_of n s.opened) number ∙ staged.entry in
    let same : told' ≡ told = ap g.D.Disk.told c.add_commit_take.ensures.disk in
    let log' : IsLogged told' new.log new.busy (stage c.number-number.result (Some (Takes staged.numbers)) s) = (c.add_commit_take.ensures.logged s staged.numbers (is.whole.logged staged.still) entry staged.count) in
    let log : IsLogged told new.log new.busy (stage token.number (Some (Takes staged.numbers)) s) = subst (λ (v : Option Told). IsLogged v new.log new.busy (stage token.number (Some (Takes staged.numbers)) s)) same (subst (λ (n : ℕ). IsLogged told' new.log new.busy (stage n (Some (Takes staged.numbers)) s)) number log') in
    subst (λ (v : Option Told). Steps told v old new (StageTake token (Ok given)) s) (sym same) (staged_take told old new token given (CommitTake c.number-number.result given.count) s is moves places c.stage.ensures.opened c.if-ticket-eq0.false staged log c.add_commit_take.ensures.log c.add_commit_take.ensures.waits))

pub add_commit_take-requires-clause-logged : goal.add_commit_take-requires-clause-logged
add_commit_take-requires-clause-logged g c =
    let m = c.self.inside in
    let told = g.D.Disk.told m.writing.disk in
    let token = c.args.txn in
    let given : Ticket = c.take_ticket-ticket.result in
    let old : Logged = record { places = m.held; log = m.writing.log; busy = m.writing.busy } in
    let s : State = c.self.invariant.0 in
    let is = c.self.invariant.1 in
    let number : c.number-number.result ≡ token.number = c.number-number.ensures in
    let moves : Moves true s (StageTake token (Ok given)) (after s (StageTake token (Ok given))) = stages_take s token given (sym (c.stage_take_refusal.ensures.refusal is.settled is.known s is.looks) ∙ c.in_default.is) (c.take_ticket-ticket.ensures is.settled is.known s is.looks) in
    let places : (settled known : Known) → Looks settled known old.places s → Looks settled known c.stage.new.self (after s (StageTake token (Ok given))) = λ settled known looks. subst (λ (n : ℕ). Looks settled known c.stage.new.self (stage n (entry_of n s.opened) s)) number (c.stage.ensures.looks settled known s looks) in
    let staged = staged_takes s (after s (StageTake token (Ok given))) token given moves in
    let entry : entry_of c.number-number.result s.opened ≡ Some (Takes staged.numbers) = ap (λ (n : ℕ). entry_of n s.opened) number ∙ staged.entry in
    (s, staged.numbers, is.whole.logged staged.still, entry, staged.count)
