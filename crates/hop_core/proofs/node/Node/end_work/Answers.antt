use Rattle.std.proofs.Common.{rules, ◌≡◌, ◌∙◌, length, drop, Some, None}
use Rattle.std.specs.Vec.{with_items}
use Rattle.std.specs.List.{slice_set}
use Rattle.world_laws.specs.World.{live}
use Rattle.hop_core.specs.contracts.node.Node.{the_view}
use Rattle.hop_core.proofs.Nodes.{written_back, end_work_done}
use Rattle.hop_core.proofs.node.Node.end_work.Goals as goal

pub returns : goal.returns
returns c =
    let node = the_view c.self.inside in
    let alive : live node.works c.args.number ≡ Some c.in-Some._work.now = search rules in
    let changed : c.clear.new.list ≡ slice_set node.works c.args.number None = search rules in
    let size : length c.clear.new.list ≡ c.self.inside.works.len = search rules in
    let back : (with_items c.self.inside.works c.clear.new.list).items ≡ c.clear.new.list = written_back c.self.inside.works.len c.clear.new.list (drop (length c.clear.new.list) c.self.inside.works.items) size in
    rw (← c.self.view_is) (end_work_done node c.args.number c.in-Some._work.now (with_items c.self.inside.works c.clear.new.list).items alive (back ∙ changed))
