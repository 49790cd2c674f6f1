use Rattle.run_tracks.proofs.Dealing.{begins, ends, goes_on, one_dealt}
use Rattle.run_tracks.proofs.laws.passes_are_dealt.Goals as goal

pub returns-clause-begins : goal.returns-clause-begins
returns-clause-begins c = begins

pub returns-clause-goes_on : goal.returns-clause-goes_on
returns-clause-goes_on c = goes_on

pub returns-clause-one : goal.returns-clause-one
returns-clause-one c = one_dealt

pub returns-clause-ends : goal.returns-clause-ends
returns-clause-ends c = ends
