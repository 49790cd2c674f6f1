use Rattle.std.proofs.lemmas.Result.{err_from_is_err_and}
use Rattle.channel_log.specs.Reader.{AreRecords}
use Rattle.channel_log.proofs.Entering.{gives_none, still_remains, if_true}
use Rattle.channel_log.proofs.Given.{is_outline}
use Rattle.channel_log.proofs.Remaining.{forgets, gives_outline}
use Rattle.channel_log.proofs.reader.LogReader.next_outline.Goals as goal

pub returns-then-not-branch-clause-given : goal.returns-then-not-branch-clause-given
returns-then-not-branch-clause-given g c = λ bytes items fault has remains.
    gives_none c.in_ok-enter.field-0 c.enter.new.self bytes items fault c.if-not-branch.true (c.in_ok-enter.ensures.stands bytes items fault has remains)

pub returns-clause-given : goal.returns-clause-given
returns-clause-given g c = λ bytes items fault has remains.
    gives_outline c.enter.new.self c.give_outline.new.self bytes items fault c.give_outline.result.0 c.give_outline.result.1
    (if_true c.in_ok-enter.field-0 (AreRecords c.enter.new.self.held) c.if-not-branch.false c.in_ok-enter.ensures.held)
    (still_remains c.in_ok-enter.field-0 c.enter.new.self bytes items fault c.if-not-branch.false (c.in_ok-enter.ensures.stands bytes items fault has remains))
    c.give_outline.ensures.given

pub returns-clause-outlined : goal.returns-clause-outlined
returns-clause-outlined g c =
    is_outline c.enter.new.self c.give_outline.new.self c.give_outline.result.0 c.give_outline.result.1 (if_true c.in_ok-enter.field-0 (AreRecords c.enter.new.self.held) c.if-not-branch.false c.in_ok-enter.ensures.held) c.give_outline.ensures.given

pub returns-in_err-enter-clause-refused : goal.returns-in_err-enter-clause-refused
returns-in_err-enter-clause-refused g c =
    let p = err_from_is_err_and c.from_residual.result c.from_residual.ensures.1 in
    rw p.1 (λ bytes items fault has remains. forgets c.args.self.now c.enter.new.self bytes items fault c.in_err-enter.ensures.refused remains)
