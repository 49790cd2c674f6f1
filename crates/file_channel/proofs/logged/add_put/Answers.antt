use Rattle.std.proofs.Common.{◌≡◌, ◌∙◌, ℕ, [], ◌∷◌, ◌++◌, Option, Some, ap, subst, sym, false}
use Rattle.flume_host.specs.Told.{Told}
use Rattle.event_core.specs.Content.{size}
use Rattle.event_core.specs.declared.journal.Entry.TheVariants.{Puts}
use Rattle.record_form.specs.declared.record.Pointer.{Pointer}
use Rattle.record_form.specs.declared.record.Rec.TheVariants.{Put}
use Rattle.channel_face.specs.Machine.{entry_of, with_entry}
use Rattle.channel_face.proofs.Opened.{puts_of-some}
use Rattle.channel_log.specs.Writer.{Appends}
use Rattle.channel_writing.specs.Written.{IsLogged}
use Rattle.channel_writing.proofs.Putting.{put_in}
use Rattle.file_channel.specs.Placed.{Fits, Logged}
use Rattle.file_channel.proofs.Adding.{put_fits}
use Rattle.file_channel.proofs.Placing.{next_place, place_is}
use Rattle.file_channel.proofs.logged.add_put.Goals as goal

pub returns-clause-fits : goal.returns-clause-fits
returns-clause-fits g c = λ s events fits list first_is.
    let told = g.D.Disk.told c.args.writing.now.disk in
    let told' = g.D.Disk.told c.add_put.new.self.disk in
    let token = c.args.txn.now in
    let event = c.args.event.now in
    let old : Logged = record { places = c.args.held.now; log = c.args.writing.now.log; busy = c.args.writing.now.busy } in
    let new : Logged = record { places = c.put.new.self; log = c.add_put.new.self.log; busy = c.add_put.new.self.busy } in
    let number : c.number.result ≡ token.number = c.number.ensures in
    let entry : entry_of c.number.result s.opened ≡ Some (Puts events) = ap (λ (n : ℕ). entry_of n s.opened) number ∙ (puts_of-some s token events list).1 in
    let log' = c.add_put.ensures.logged s events fits.logged entry first_is in
    let same : told' ≡ told = ap g.D.Disk.told c.add_put.ensures.disk in
    let log : IsLogged told' new.log new.busy (put_in s false token.number events event) = subst (λ (n : ℕ). IsLogged told' new.log new.busy (record s { opened = with_entry n (Puts (events ++ event ∷ [])) s.opened })) number log' in
    let adds : Appends old.log new.log (Put token.number event) = subst (λ (n : ℕ). Appends old.log new.log (Put n event)) number c.add_put.ensures.log in
    let place : Pointer = record { file = c.file.result; at = c.next_at.result; length = c.size.result } in
    let is : place ≡ next_place old.log (size event) = place_is old.log c.file.result c.next_at.result c.size.result (size event) c.file.ensures c.next_at.ensures c.size.ensures.size in
    subst (λ (v : Option Told). Fits v new (put_in s false token.number events event)) (sym same)
    (put_fits told old new token place event s events fits list adds is (λ settled known looks. c.put.ensures.looks settled known s event looks) c.put.ensures.added (subst (λ (v : Option Told). IsLogged v new.log new.busy (put_in s false token.number events event)) same log))

pub put-requires : goal.put-requires
put-requires g c = c.requires.may _
