use Rattle.std.proofs.Common.{rules, ◌≡◌, ℕ, List, slice_get, Some, sym, ap, ◌∙◌}
use Rattle.event_core.specs.declared.journal.Entry.{Entry}
use Rattle.event_core.specs.declared.journal.Entry.TheVariants.{Takes}
use Rattle.channel_face.specs.Machine.{State}
use Rattle.txn_core.proofs.OpenLists.{takes_at}
use Rattle.txn_core.proofs.Counts.{longer_at}
use Rattle.txn_core.proofs.lists.ChannelLists.find_takes.Goals as goal

pub returns-in-Some-takes_at-clause-found : goal.returns-in-Some-takes_at-clause-found
returns-in-Some-takes_at-clause-found c =
    let s : State = c.args.self.now in
    let opened : c.self.inside.opened.items ≡ s.opened = ap (λ (v : State). v.opened) c.self.view_is in
    let life : c.args.txn.now.life ≡ s.life = search rules in
    let number : c.number.result ≡ c.args.txn.now.number = search rules in
    let at = rw (c.deref.ensures.value, number, opened) at c.in-Some.ensures.found in
    let puts = rw (c.deref-in-Some.ensures.value, opened) at c.in-Some-takes_at.ensures.takes in
    takes_at s c.args.txn.now c.in-Some.place c.in-Some-takes_at.held life at puts

pub returns-in-Some-takes_at-clause-within : goal.returns-in-Some-takes_at-clause-within
returns-in-Some-takes_at-clause-within c =
    let m = c.self.inside in
    let puts = c.in-Some-takes_at.ensures.takes in
    let at : slice_get m.opened.items c.in-Some.place ≡ Some (puts.0, Takes puts.1) = ap (λ (l : List (ℕ × Entry)). slice_get l c.in-Some.place) (sym c.deref-in-Some.ensures.value) ∙ puts.2 in
    let limits : m.limits ≡ c.args.self.now.rules.limits = ap (λ (v : State). v.rules.limits) c.self.view_is in
    rw (← limits, puts.3) (longer_at m.limits.txn_capacity m.opened.items c.in-Some.place (puts.0, Takes puts.1) c.self.invariant.lists at)
