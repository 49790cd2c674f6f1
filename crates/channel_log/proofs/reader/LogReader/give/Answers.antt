use Rattle.std.proofs.Common.{◌≡◌, ◌-◌, take, drop, ap, sym, subst, ◌∙◌}
use Rattle.record_form.specs.Grammar.{Complete, outcome_of}
use Rattle.record_form.specs.Record.{record_length}
use Rattle.channel_log.specs.Reader.{AreRecords, Reader}
use Rattle.channel_log.proofs.Given.{held_part, rec_first, whole_first}
use Rattle.channel_log.proofs.reader.LogReader.give.Goals as goal

pub rec_of-requires : goal.rec_of-requires
rec_of-requires c =
    let part = held_part c.self.inside.place c.self.inside.stop c.self.inside.read.items c.deref.result.now c.self.invariant.within c.deref.ensures.value in
    whole_first (take (c.self.inside.stop - c.self.inside.place) (drop c.self.inside.place c.deref.result.now)) (subst AreRecords (sym (part ∙ ap (λ (r : Reader). r.held) c.self.view_is)) c.requires)

pub returns-clause-given : goal.returns-clause-given
returns-clause-given c = λ first records count framed each counted same.
    let part = held_part c.self.inside.place c.self.inside.stop c.self.inside.read.items c.deref.result.now c.self.invariant.within c.deref.ensures.value in
    let read : outcome_of c.args.self.now.held ≡ Complete c.in_ok-rec.rec (record_length c.in_ok-rec.rec) = sym (ap outcome_of (part ∙ ap (λ (r : Reader). r.held) c.self.view_is)) ∙ c.in_ok-rec.ensures.read in
    let is = (c.give_outline-at.ensures.given first records count framed each counted same).1 in
    record { is = ap (λ x. (x, c.give_outline-at.result.1)) (rec_first c.args.self.now.held c.in_ok-rec.rec first records count framed same read) ∙ is.is; after = is.after }
