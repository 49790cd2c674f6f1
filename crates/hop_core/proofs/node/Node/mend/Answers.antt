use Rattle.std.proofs.Common.{rules, ◌≡◌, ◌∙◌, ◌<◌, length, drop, refl, sym, ap, Some}
use Rattle.std.specs.Vec.{with_items}
use Rattle.std.specs.List.{slice_get}
use Rattle.std.proofs.lemmas.Option.{slice_get_read}
use Rattle.world_laws.specs.World.{Channel}
use Rattle.hop_core.specs.contracts.node.Node.{the_view}
use Rattle.world_laws.specs.Channels.{reopened}
use Rattle.world_laws.specs.Steps.{without_works, without_attempts}
use Rattle.hop_core.proofs.Nodes.{written_back, mend_done}
use Rattle.hop_core.proofs.node.Node.mend.Goals as goal

pub returns : goal.returns
returns c =
    let node = the_view c.self.inside in
    let within : c.args.channel < length node.channels = search rules in
    let at : slice_get node.channels c.args.channel ≡ Some c.index.result.now = slice_get_read node.channels (length node.channels) c.args.channel c.index.result.now refl within c.index.ensures in
    let again : slice_get node.channels c.args.channel ≡ Some c.index-2.result.now = slice_get_read node.channels (length node.channels) c.args.channel c.index-2.result.now refl within c.index-2.ensures in
    let found : reopened c.args.kept c.index-2.result.now ≡ Some c.in-Some.new = search rules in
    let both : Some c.index-2.result.now ≡ Some c.index.result.now = sym again ∙ at in
    let same : c.index-2.result.now ≡ c.index.result.now = cc in
    let done : reopened c.args.kept c.index.result.now ≡ Some c.in-Some.new = ap (λ (d : Channel). reopened c.args.kept d) (sym same) ∙ found in
    let left : c.end_works.new.works ≡ without_works c.args.channel c.settled_count-settled.result node.works = search rules in
    let given : c.end_attempts.new.attempts ≡ without_attempts c.args.channel node.attempts = search rules in
    let works_back_size : length c.end_works.new.works ≡ c.self.inside.works.len = search rules in
    let works_back : (with_items c.self.inside.works c.end_works.new.works).items ≡ c.end_works.new.works = written_back c.self.inside.works.len c.end_works.new.works (drop (length c.end_works.new.works) c.self.inside.works.items) works_back_size in
    let attempts_back_size : length c.end_attempts.new.attempts ≡ c.self.inside.attempts.len = search rules in
    let attempts_back : (with_items c.self.inside.attempts c.end_attempts.new.attempts).items ≡ c.end_attempts.new.attempts = written_back c.self.inside.attempts.len c.end_attempts.new.attempts (drop (length c.end_attempts.new.attempts) c.self.inside.attempts.items) attempts_back_size in
    rw (← c.self.view_is) (mend_done node c.args.channel c.args.kept c.settled_count-settled.result c.index.result.now c.in-Some.new (with_items c.self.inside.works c.end_works.new.works).items (with_items c.self.inside.attempts c.end_attempts.new.attempts).items
    at c.settled_count-settled.ensures done (works_back ∙ left) (attempts_back ∙ given))
