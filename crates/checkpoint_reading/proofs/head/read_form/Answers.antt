use Rattle.std.proofs.Common.{inr, ◌≡◌, refl, arith}
use Rattle.checkpoint_reading.specs.Fields.{FormGives}
use Rattle.checkpoint_reading.proofs.Stepping.{faults_here, other_u32, short_u32, when_none, when_some}
use Rattle.checkpoint_reading.proofs.head.read_form.Goals as goal

pub returns-in_default-clause-bad : goal.returns-in_default-clause-bad
returns-in_default-clause-bad g c =
    faults_here _ c.args.reader.now FormGives _ _ c.number-file.ensures c.at-at.ensures.at c.at-at.ensures.within
    (λ t is. inr (λ a more there right. short_u32 _ (when_none _ _ _ c.in_default.not-Some c.in_ok-form.ensures.taken t is) a more there, refl))

pub returns-then-form-ne-FORM-clause-bad : goal.returns-then-form-ne-FORM-clause-bad
returns-then-form-ne-FORM-clause-bad g c =
    faults_here _ c.args.reader.now FormGives _ _ c.number-file.ensures c.at-at.ensures.at c.at-at.ensures.within
    (λ t is. inr (other_u32 (λ form. form ≡ 1) _ _ c.in-Some.form (omega arith) (when_some _ _ _ _ c.in-Some.is c.in_ok-form.ensures.taken t is) (λ a one. omega (arith, one)) c.if-form-ne-FORM.true, refl))
