use Rattle.std.proofs.Common.{subst}
use Rattle.flume_host.proofs.Telling.{back}
use Rattle.checkpoint.specs.declared.place.Next.{Next}
use Rattle.checkpoint.specs.Text.{Rise}
use Rattle.checkpoint.proofs.writing.lay.Goals as goal

pub returns-in-Ok-clause-laid : goal.returns-in-Ok-clause-laid
returns-in-Ok-clause-laid g c = λ text says right t told.
    let was = back _ _ _ c.write_all-written.ensures.any_moment t told in
    let is = (right was.0 was.1).right in
    c.in-Ok.ensures.laid text says (subst (λ (n : Next). Rise 0 n.number text.live) says.next_is is.numbers) is.few_live is.puts_fit is.takes_fit t told
