use Rattle.std.proofs.Common.{◌≡◌, ◌∙◌, ◌∷◌, ◌++◌, [], ℕ, Option, Some, ap, subst, sym, false}
use Rattle.flume_host.specs.Told.{Told}
use Rattle.event_core.specs.declared.journal.Entry.TheVariants.{Takes}
use Rattle.record_form.specs.declared.record.Rec.TheVariants.{Take}
use Rattle.channel_face.specs.Machine.{entry_of, with_entry}
use Rattle.channel_face.proofs.Opened.{takes_of-some}
use Rattle.channel_log.specs.Writer.{Appends}
use Rattle.channel_writing.specs.Written.{IsLogged}
use Rattle.channel_writing.proofs.Freeing.{take_in}
use Rattle.file_channel.specs.Placed.{Fits, Logged}
use Rattle.file_channel.proofs.Adding.{take_fits}
use Rattle.file_channel.proofs.logged.add_take.Goals as goal

pub returns-clause-fits : goal.returns-clause-fits
returns-clause-fits g c = λ s numbers event rest fits list first first_is.
    let told = g.D.Disk.told c.args.writing.now.disk in
    let told' = g.D.Disk.told c.add_take.new.self.disk in
    let token = c.args.txn.now in
    let taken : ℕ = c.args.number in
    let old : Logged = record { places = c.args.held.now; log = c.args.writing.now.log; busy = c.args.writing.now.busy } in
    let new : Logged = record { places = c.take.new.self; log = c.add_take.new.self.log; busy = c.add_take.new.self.busy } in
    let number : c.number.result ≡ token.number = c.number.ensures in
    let entry : entry_of c.number.result s.opened ≡ Some (Takes numbers) = ap (λ (n : ℕ). entry_of n s.opened) number ∙ (takes_of-some s token numbers list).1 in
    let log' = c.add_take.ensures.logged s numbers event rest fits.logged entry first first_is in
    let same : told' ≡ told = ap g.D.Disk.told c.add_take.ensures.disk in
    let log : IsLogged told' new.log new.busy (take_in s false token.number numbers taken) = subst (λ (n : ℕ). IsLogged told' new.log new.busy (record s { opened = with_entry n (Takes (numbers ++ taken ∷ [])) s.opened })) number log' in
    let adds : Appends old.log new.log (Take token.number taken) = subst (λ (n : ℕ). Appends old.log new.log (Take n taken)) number c.add_take.ensures.log in
    subst (λ (v : Option Told). Fits v new (take_in s false token.number numbers taken)) (sym same)
    (take_fits told old new token taken event rest s numbers fits list first adds (λ settled known looks. c.take.ensures.looks settled known s looks) c.take.ensures.opened (subst (λ (v : Option Told). IsLogged v new.log new.busy (take_in s false token.number numbers taken)) same log))
