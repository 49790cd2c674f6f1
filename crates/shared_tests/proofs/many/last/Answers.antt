use Rattle.std.proofs.Common.{◌≡◌}
use Rattle.std.proofs.lemmas.List.Elements.{All-pop}
use Rattle.shared_channel.specs.Passes.{Known}
use Rattle.shared_tests.proofs.many.last.Goals as goal

pub returns : goal.returns
returns g c = All-pop (λ (p : Known). p.table_id ≡ c.args.shared.now.turn.table.shared.table_id) c.args.passes.now.items c.pop.new.self.items c.pop.result c.pop.ensures.items c.requires
