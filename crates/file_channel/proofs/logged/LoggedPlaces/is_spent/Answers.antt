use Rattle.std.proofs.Common.{◌≡◌, ◌≤◌, ◌+◌, ℕ, ap, subst, sym}
use Rattle.std.specs.Prelude.{IsTrue}
use Rattle.channel_places.specs.Looks.{Numbers}
use Rattle.channel_writing.proofs.Whole.{whole_spent}
use Rattle.file_channel.proofs.logged.LoggedPlaces.is_spent.Goals as goal

pub returns-then-not-is_broken-clause-told : goal.returns-then-not-is_broken-clause-told
returns-then-not-is_broken-clause-told g c = rw (← c.self.view_is) (λ s is still t told_is.
    let m = c.self.inside in
    let limit : m.held.numbers.rules.limits.max_file ≡ s.rules.limits.max_file = ap (λ (n : Numbers). n.rules.limits.max_file) is.looks.numbers in
    whole_spent (g.D.Disk.told m.writing.disk) m.writing.log m.writing.busy s (IsTrue c.at_last_end.result) is.whole still
    (λ p. let both = c.at_last_end.ensures.0 p in (both.0, subst (λ (n : ℕ). n ≤ m.writing.log.gate + 1) limit both.1))
    (λ both. c.at_last_end.ensures.1 (both.0, subst (λ (n : ℕ). n ≤ m.writing.log.gate + 1) (sym limit) both.1)) t told_is)
