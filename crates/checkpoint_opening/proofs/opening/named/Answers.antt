use Rattle.std.proofs.Common.{refl, subst}
use Rattle.checkpoint.specs.declared.place.Next.{Next}
use Rattle.checkpoint.specs.Text.{Rise}
use Rattle.checkpoint_opening.proofs.opening.named.Goals as goal

pub returns-in-Some : goal.returns-in-Some
returns-in-Some c = rw c.in-Some.is (
  refl,
  λ text keeps ordered.
      let next = c.in-Some.check.next in
      record {
        names = c.least_named.ensures.names next text keeps.says (subst (λ (n : Next). Rise 0 n.number text.live) keeps.says.next_is ordered.numbers);
        most = λ other named. c.least_named.ensures.least next text other keeps.says named;
      },
)
