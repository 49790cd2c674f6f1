use Rattle.std.proofs.Common.{inr, ◌≡◌, ◌++◌, ℕ, List, refl, subst}
use Rattle.checkpoint_reading.specs.Fields.{Gives}
use Rattle.checkpoint_reading.specs.Reader.{rest}
use Rattle.checkpoint_reading.proofs.Stepping.{faults_here}
use Rattle.checkpoint_reading.proofs.head.read_text.Goals as goal

pub returns-then-not-branch-clause-bad : goal.returns-then-not-branch-clause-bad
returns-then-not-branch-clause-bad g c =
    faults_here _ c.args.reader.now Gives _ _ c.number-file.ensures c.at-at.ensures.at c.at-at.ensures.within
    (λ t is. inr (λ a more there right. c.in_ok-next_text.ensures.other c.if-not-branch.true t is more (subst (λ (l : List ℕ). rest t c.args.reader.now ≡ l ++ more) right there), refl))
