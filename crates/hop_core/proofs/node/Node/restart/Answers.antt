use Rattle.std.proofs.Common.{rules, ◌≡◌, ◌∙◌, length, drop, ap, Some}
use Rattle.std.specs.Vec.{with_items}
use Rattle.world_laws.specs.World.{Node}
use Rattle.hop_core.specs.contracts.node.Node.{the_view}
use Rattle.world_laws.specs.Channels.{all_reopened}
use Rattle.world_laws.specs.Steps.{ended}
use Rattle.hop_core.proofs.Nodes.{written_back, restart_done}
use Rattle.hop_core.proofs.node.Node.restart.Goals as goal

pub returns : goal.returns
returns c =
    let node = the_view c.self.inside in
    let found : all_reopened c.args.kept.now c.args.self.now.channels ≡ Some c.in-Some.all.items = search rules in
    let done : all_reopened c.args.kept.now node.channels ≡ Some c.in-Some.all.items = ap (λ (n : Node). all_reopened c.args.kept.now n.channels) c.self.view_is ∙ found in
    let left : c.end_all.new.list ≡ ended node.works = search rules in
    let given : c.end_all-2.new.list ≡ ended node.attempts = search rules in
    let works_back_size : length c.end_all.new.list ≡ c.self.inside.works.len = search rules in
    let works_back : (with_items c.self.inside.works c.end_all.new.list).items ≡ c.end_all.new.list = written_back c.self.inside.works.len c.end_all.new.list (drop (length c.end_all.new.list) c.self.inside.works.items) works_back_size in
    let attempts_back_size : length c.end_all-2.new.list ≡ c.self.inside.attempts.len = search rules in
    let attempts_back : (with_items c.self.inside.attempts c.end_all-2.new.list).items ≡ c.end_all-2.new.list = written_back c.self.inside.attempts.len c.end_all-2.new.list (drop (length c.end_all-2.new.list) c.self.inside.attempts.items) attempts_back_size in
    rw (← c.self.view_is) (restart_done node c.args.kept.now c.in-Some.all.items (with_items c.self.inside.works c.end_all.new.list).items (with_items c.self.inside.attempts c.end_all-2.new.list).items done (works_back ∙ left) (attempts_back ∙ given))
