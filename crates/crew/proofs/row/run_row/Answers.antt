use Rattle.std.proofs.Common.{rules, subst, get_or}
use Rattle.crew.proofs.row.run_row.Goals as goal

pub returns : goal.returns
returns g c =
    record {
      as_many = search rules;
      each = λ i d below.
          let at = (c.for_each_mut.ensures i d below).1 in
          subst (λ x. g.W.Work.ran x (get_or c.for_each_mut.new.s i d)) at.argument_is
          (subst (λ y. g.W.Work.ran at.argument.now y) at.left at.call);
    }
