use Rattle.std.proofs.Common.{true, false, inr, ◌≡◌, refl, ◌∙◌, arith}
use Rattle.flume_host.specs.Folder.{Files}
use Rattle.checkpoint_reading.specs.Fields.{OffsetGives, Outcome}
use Rattle.checkpoint_reading.proofs.Stepping.{faults_here, place_within, other_u64, short_u64, when_none, when_some}
use Rattle.checkpoint_reading.proofs.head.read_offset.Goals as goal

pub returns-in_default-clause-bad : goal.returns-in_default-clause-bad
returns-in_default-clause-bad g c =
    faults_here _ c.args.reader.now (λ (files : Files) (o : Outcome). OffsetGives files o c.args.number) _ _ c.number-file.ensures c.at-at.ensures.at c.at-at.ensures.within
    (λ t is. inr (λ a more there right. short_u64 _ (when_none _ _ _ c.in_default.not-Some c.in_ok-offset.ensures.taken t is) a more there, refl))

pub returns-then-not-is_within-clause-bad : goal.returns-then-not-is_within-clause-bad
returns-then-not-is_within-clause-bad g c =
    faults_here _ c.args.reader.now (λ (files : Files) (o : Outcome). OffsetGives files o c.args.number) _ _ c.number-file.ensures c.at-at.ensures.at c.at-at.ensures.within
    (λ t is. inr (
      other_u64 _ _ _ c.in-Some.offset (omega arith) (when_some _ _ _ _ c.in-Some.is c.in_ok-offset.ensures.taken t is) (λ a right. right.0)
          (λ right. let r = c.in-Ok.ensures.length t (c.next_u64.ensures.same ∙ is) in let yes : c.is_within.result ≡ true = c.is_within.ensures.1 (place_within _ r.0 c.in-Some.offset c.in-Ok.size r.1 r.2 right.1) in let h : c.is_within.result ≡ false = c.if-not-is_within.true in absurd (cc)),
      refl,
    ))
