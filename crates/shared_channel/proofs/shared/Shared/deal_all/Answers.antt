use Rattle.std.proofs.Common.{rules, ◌≡◌, sym, subst, List}
use Rattle.std.proofs.lemmas.Grind.{common_steps}
use Rattle.std.specs.List.{All}
use Rattle.shared_channel.specs.Passes.{Known, new_passes}
use Rattle.shared_channel.proofs.Turning.{new_of}
use Rattle.shared_channel.proofs.shared.Shared.deal_all.Goals as goal

pub returns-clause-table : goal.returns-clause-table
returns-clause-table g c =
    let t = c.args.self.now.turn.table.shared.table_id in
    let is : c.loop-i.list.items ≡ new_passes t g.start c.args.passes c.args.passes = first_of (search rules, grind common_steps) in
    subst (λ (l : List Known). All (λ (p : Known). p.table_id ≡ t) l) (sym is) (new_of t g.start c.args.passes c.args.passes)
