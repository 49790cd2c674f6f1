use Rattle.std.proofs.Common.{◌≡◌, ◌∙◌, ℕ, Option, Ok, Some, true, ap, subst, sym}
use Rattle.flume_host.specs.Told.{Told}
use Rattle.event_core.specs.declared.journal.Entry.TheVariants.{Puts}
use Rattle.record_form.specs.declared.record.Rec.TheVariants.{CommitPut}
use Rattle.channel_face.specs.History.{Moves}
use Rattle.channel_face.specs.Machine.{State, StagePut, after, entry_of, stage}
use Rattle.channel_face.specs.declared.replies.Ticket.{Ticket}
use Rattle.channel_places.specs.Looks.{Known, Looks}
use Rattle.channel_writing.specs.Written.{IsLogged}
use Rattle.channel_writing.proofs.Whole.{staged_puts}
use Rattle.file_channel.specs.Placed.{IsStateOf, Logged}
use Rattle.file_channel.specs.Stepped.{Steps}
use Rattle.file_channel.proofs.Stepping.{idle_put, staged_put, stages_put}
use Rattle.file_channel.proofs.logged.LoggedPlaces.stage_put.Goals as goal

pub invariant_of-self : goal.invariant_of-self
invariant_of-self g c =
    let m = c.self.inside in
    let told = g.D.Disk.told m.writing.disk in
    let token = c.args.txn in
    let given : Ticket = c.put_ticket-ticket.result in
    let old : Logged = record { places = m.held; log = m.writing.log; busy = m.writing.busy } in
    let s : State = c.self.invariant.0 in
    let is = c.self.invariant.1 in
    let number : c.number-number.result ≡ token.number = c.number-number.ensures in
    let moves : Moves true s (StagePut token (Ok given)) (after s (StagePut token (Ok given))) = stages_put s token given (sym (c.stage_put_refusal.ensures.refusal is.settled is.known s is.looks) ∙ c.in_default.is) (c.put_ticket-ticket.ensures is.settled is.known s is.looks) in
    let places : (settled known : Known) → Looks settled known old.places s → Looks settled known c.stage.new.self (after s (StagePut token (Ok given))) = λ settled known looks. subst (λ (n : ℕ). Looks settled known c.stage.new.self (stage n (entry_of n s.opened) s)) number (c.stage.ensures.looks settled known s looks) in
    (after s (StagePut token (Ok given)), (idle_put told old c.stage.new.self token given s is moves places c.stage.ensures.opened c.if-ticket-eq0.true).stands)

pub returns-then-ticket-eq0-clause-step : goal.returns-then-ticket-eq0-clause-step
returns-then-ticket-eq0-clause-step g c = rw (← c.self.view_is) (λ s is.
    let m = c.self.inside in
    let told = g.D.Disk.told m.writing.disk in
    let token = c.args.txn in
    let given : Ticket = c.put_ticket-ticket.result in
    let old : Logged = record { places = m.held; log = m.writing.log; busy = m.writing.busy } in
    let number : c.number-number.result ≡ token.number = c.number-number.ensures in
    let moves : Moves true s (StagePut token (Ok given)) (after s (StagePut token (Ok given))) = stages_put s token given (sym (c.stage_put_refusal.ensures.refusal is.settled is.known s is.looks) ∙ c.in_default.is) (c.put_ticket-ticket.ensures is.settled is.known s is.looks) in
    let places : (settled known : Known) → Looks settled known old.places s → Looks settled known c.stage.new.self (after s (StagePut token (Ok given))) = λ settled known looks. subst (λ (n : ℕ). Looks settled known c.stage.new.self (stage n (entry_of n s.opened) s)) number (c.stage.ensures.looks settled known s looks) in
    idle_put told old c.stage.new.self token given s is moves places c.stage.ensures.opened c.if-ticket-eq0.true)

pub invariant_of-self-2 : goal.invariant_of-self-2
invariant_of-self-2 g c =
    let m = c.self.inside in
    let told = g.D.Disk.told m.writing.disk in
    let token = c.args.txn in
    let given : Ticket = c.put_ticket-ticket.result in
    let old : Logged = record { places = m.held; log = m.writing.log; busy = m.writing.busy } in
    let s : State = c.self.invariant.0 in
    let is = c.self.invariant.1 in
    let number : c.number-number.result ≡ token.number = c.number-number.ensures in
    let moves : Moves true s (StagePut token (Ok given)) (after s (StagePut token (Ok given))) = stages_put s token given (sym (c.stage_put_refusal.ensures.refusal is.settled is.known s is.looks) ∙ c.in_default.is) (c.put_ticket-ticket.ensures is.settled is.known s is.looks) in
    let places : (settled known : Known) → Looks settled known old.places s → Looks settled known c.stage.new.self (after s (StagePut token (Ok given))) = λ settled known looks. subst (λ (n : ℕ). Looks settled known c.stage.new.self (stage n (entry_of n s.opened) s)) number (c.stage.ensures.looks settled known s looks) in
    let staged = staged_puts s (after s (StagePut token (Ok given))) token given moves in
    let told' = g.D.Disk.told c.add_commit_put.new.self.disk in
    let new : Logged = record { places = c.stage.new.self; log = c.add_commit_put.new.self.log; busy = c.add_commit_put.new.self.busy } in
    let entry : entry_of c.number-number.result s.opened ≡ Some (Puts staged.events) = ap (λ (n : ℕ). entry_of n s.opened) number ∙ staged.entry in
    let same : told' ≡ told = ap g.D.Disk.told c.add_commit_put.ensures.disk in
    let log' : IsLogged told' new.log new.busy (stage c.number-number.result (Some (Puts staged.events)) s) = (c.add_commit_put.ensures.logged s staged.events (is.whole.logged staged.still) entry staged.count staged.first staged.fits) in
    let log : IsLogged told new.log new.busy (stage token.number (Some (Puts staged.events)) s) = subst (λ (v : Option Told). IsLogged v new.log new.busy (stage token.number (Some (Puts staged.events)) s)) same (subst (λ (n : ℕ). IsLogged told' new.log new.busy (stage n (Some (Puts staged.events)) s)) number log') in
    (after s (StagePut token (Ok given)), subst (λ (v : Option Told). IsStateOf v new (after s (StagePut token (Ok given)))) (sym same) (staged_put told old new token given (CommitPut c.number-number.result given.first given.count) s is moves places c.stage.ensures.opened c.if-ticket-eq0.false staged log c.add_commit_put.ensures.log c.add_commit_put.ensures.waits).stands)

pub returns-clause-step : goal.returns-clause-step
returns-clause-step g c = rw (← c.self.view_is) (λ s is.
    let m = c.self.inside in
    let told = g.D.Disk.told m.writing.disk in
    let token = c.args.txn in
    let given : Ticket = c.put_ticket-ticket.result in
    let old : Logged = record { places = m.held; log = m.writing.log; busy = m.writing.busy } in
    let number : c.number-number.result ≡ token.number = c.number-number.ensures in
    let moves : Moves true s (StagePut token (Ok given)) (after s (StagePut token (Ok given))) = stages_put s token given (sym (c.stage_put_refusal.ensures.refusal is.settled is.known s is.looks) ∙ c.in_default.is) (c.put_ticket-ticket.ensures is.settled is.known s is.looks) in
    let places : (settled known : Known) → Looks settled known old.places s → Looks settled known c.stage.new.self (after s (StagePut token (Ok given))) = λ settled known looks. subst (λ (n : ℕ). Looks settled known c.stage.new.self (stage n (entry_of n s.opened) s)) number (c.stage.ensures.looks settled known s looks) in
    let staged = staged_puts s (after s (StagePut token (Ok given))) token given moves in
    let told' = g.D.Disk.told c.add_commit_put.new.self.disk in
    let new : Logged = record { places = c.stage.new.self; log = c.add_commit_put.new.self.log; busy = c.add_commit_put.new.self.busy } in
    let entry : entry_of c.number-number.result s.opened ≡ Some (Puts staged.events) = ap (λ (n : ℕ). entry_of n s.opened) number ∙ staged.entry in
    let same : told' ≡ told = ap g.D.Disk.told c.add_commit_put.ensures.disk in
    let log' : IsLogged told' new.log new.busy (stage c.number-number.result (Some (Puts staged.events)) s) = (c.add_commit_put.ensures.logged s staged.events (is.whole.logged staged.still) entry staged.count staged.first staged.fits) in
    let log : IsLogged told new.log new.busy (stage token.number (Some (Puts staged.events)) s) = subst (λ (v : Option Told). IsLogged v new.log new.busy (stage token.number (Some (Puts staged.events)) s)) same (subst (λ (n : ℕ). IsLogged told' new.log new.busy (stage n (Some (Puts staged.events)) s)) number log') in
    subst (λ (v : Option Told). Steps told v old new (StagePut token (Ok given)) s) (sym same) (staged_put told old new token given (CommitPut c.number-number.result given.first given.count) s is moves places c.stage.ensures.opened c.if-ticket-eq0.false staged log c.add_commit_put.ensures.log c.add_commit_put.ensures.waits))

pub add_commit_put-requires-clause-logged : goal.add_commit_put-requires-clause-logged
add_commit_put-requires-clause-logged g c =
    let m = c.self.inside in
    let told = g.D.Disk.told m.writing.disk in
    let token = c.args.txn in
    let given : Ticket = c.put_ticket-ticket.result in
    let old : Logged = record { places = m.held; log = m.writing.log; busy = m.writing.busy } in
    let s : State = c.self.invariant.0 in
    let is = c.self.invariant.1 in
    let number : c.number-number.result ≡ token.number = c.number-number.ensures in
    let moves : Moves true s (StagePut token (Ok given)) (after s (StagePut token (Ok given))) = stages_put s token given (sym (c.stage_put_refusal.ensures.refusal is.settled is.known s is.looks) ∙ c.in_default.is) (c.put_ticket-ticket.ensures is.settled is.known s is.looks) in
    let places : (settled known : Known) → Looks settled known old.places s → Looks settled known c.stage.new.self (after s (StagePut token (Ok given))) = λ settled known looks. subst (λ (n : ℕ). Looks settled known c.stage.new.self (stage n (entry_of n s.opened) s)) number (c.stage.ensures.looks settled known s looks) in
    let staged = staged_puts s (after s (StagePut token (Ok given))) token given moves in
    let entry : entry_of c.number-number.result s.opened ≡ Some (Puts staged.events) = ap (λ (n : ℕ). entry_of n s.opened) number ∙ staged.entry in
    (s, staged.events, is.whole.logged staged.still, entry, staged.count)
