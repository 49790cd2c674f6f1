use Rattle.std.proofs.Common.{rules, ◌≡◌, ◌∙◌, true, false, sym}
use Rattle.std.specs.Prelude.{IsTrue}
use Rattle.channel_face.specs.Machine.{is_some_of, takes_of}
use Rattle.file_channel.specs.Placed.{Logged}
use Rattle.file_channel.proofs.Calls.{spent_take}
use Rattle.file_channel.proofs.logged.LoggedPlaces.take.Goals as goal

pub returns-then-is_spent-clause-step : goal.returns-then-is_spent-clause-step
returns-then-is_spent-clause-step g c = rw (← c.self.view_is) (λ s is.
    let m = c.self.inside in
    let old : Logged = record { places = m.held; log = m.writing.log; busy = m.writing.busy } in
    let token = c.args.txn.now in
    let has : c.has_takes.result ≡ true = search rules in
    let some : true ≡ is_some_of (takes_of s token) = sym has ∙ c.has_takes.ensures.tells is.settled is.known s is.looks in
    let spent : IsTrue c.is_spent.result = search rules in
    let still : s.broken ≡ false = (c.is_spent.ensures.whole s (rw (← c.self.view_is) is) spent).0 in
    spent_take (g.D.Disk.told m.writing.disk) old token s is some still)
