use Rattle.checkpoint_replay.proofs.Ends.{front_all, front_elsewhere, within_is}
use Rattle.checkpoint_replay.proofs.folder.replay.Goals as goal

pub returns-in-Some-clause-ok : goal.returns-in-Some-clause-ok
returns-in-Some-clause-ok g c = rw c.in-Some.is c.replay_from.ensures.ok

pub returns-in-Some-clause-elsewhere : goal.returns-in-Some-clause-elsewhere
returns-in-Some-clause-elsewhere g c = rw c.in-Some.is c.replay_from.ensures.elsewhere

pub returns-in-Some-clause-bad : goal.returns-in-Some-clause-bad
returns-in-Some-clause-bad g c = rw c.in-Some.is c.replay_from.ensures.bad

pub returns-in-Some-clause-over : goal.returns-in-Some-clause-over
returns-in-Some-clause-over g c = rw c.in-Some.is c.replay_from.ensures.over

pub returns-in-Some-clause-ticks : goal.returns-in-Some-clause-ticks
returns-in-Some-clause-ticks g c = rw c.in-Some.is c.replay_from.ensures.ticks

pub returns-in-None-clause-ok : goal.returns-in-None-clause-ok
returns-in-None-clause-ok g c = rw c.in-None.is (within_is c.replay.result _ _ (λ r. front_all _ r) c.replay.ensures.ok)

pub returns-in-None-clause-elsewhere : goal.returns-in-None-clause-elsewhere
returns-in-None-clause-elsewhere g c = rw c.in-None.is (within_is c.replay.result _ _ (λ r. front_elsewhere _ r) c.replay.ensures.ok)
