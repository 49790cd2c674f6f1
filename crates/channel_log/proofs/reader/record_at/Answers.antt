use Rattle.std.proofs.Common.{drop}
use Rattle.channel_log.proofs.Given.{outcome_at, rec_first, whole_at}
use Rattle.channel_log.proofs.reader.record_at.Goals as goal

pub rec_of-requires : goal.rec_of-requires
rec_of-requires c = whole_at c.args.frame.now c.args.place c.requires.records

pub returns-clause-given : goal.returns-clause-given
returns-clause-given c = λ first records count framed each counted same.
    let m = c.outline_at-next.ensures.given first records count framed each counted same in
    (rec_first (drop c.args.place c.args.frame.now) c.in_ok-rec.rec first records count framed same (outcome_at c.args.frame.now c.args.place c.in_ok-rec.rec c.in_ok-rec.ensures.read), m.1, m.2)
