use Rattle.load_gen.proofs.takes.end_takes.Goals as goal

pub returns-then-kept-clause-calls : goal.returns-then-kept-clause-calls
returns-then-kept-clause-calls g c = rw c.if-kept.true c.commit_takes.ensures.calls

pub returns-else-kept-clause-calls : goal.returns-else-kept-clause-calls
returns-else-kept-clause-calls g c = rw c.if-kept.false c.roll_back.ensures.calls
