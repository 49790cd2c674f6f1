use Rattle.std.proofs.Common.{true, false, inr, ◌≡◌, refl, ◌∙◌, arith}
use Rattle.checkpoint_reading.specs.Fields.{PlaceGives}
use Rattle.checkpoint_reading.proofs.Stepping.{faults_here, other_u32, short_u32, when_none, when_some}
use Rattle.checkpoint_reading.proofs.head.read_file.Goals as goal

pub returns-in_default-clause-bad : goal.returns-in_default-clause-bad
returns-in_default-clause-bad g c =
    faults_here _ c.args.reader.now PlaceGives _ _ c.number-file.ensures c.at-at.ensures.at c.at-at.ensures.within
    (λ t is. inr (λ a more there right. short_u32 _ (when_none _ _ _ c.in_default.not-Some c.in_ok-number.ensures.taken t is) a more there, refl))

pub returns-then-not-there-clause-bad : goal.returns-then-not-there-clause-bad
returns-then-not-there-clause-bad g c =
    faults_here _ c.args.reader.now PlaceGives _ _ c.number-file.ensures c.at-at.ensures.at c.at-at.ensures.within
    (λ t is. inr (
      other_u32 _ _ _ c.in-Some.number (omega arith) (when_some _ _ _ _ c.in-Some.is c.in_ok-number.ensures.taken t is) (λ a right. right.0)
          (λ right. let yes : c.in-Ok.there ≡ true = (c.in-Ok.ensures.there t (c.next_u32.ensures.same ∙ is)).1 right.1 in let h : c.in-Ok.there ≡ false = c.if-not-there.true in absurd (cc)),
      refl,
    ))
