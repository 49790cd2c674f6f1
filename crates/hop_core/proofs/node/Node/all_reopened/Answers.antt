use Rattle.std.proofs.Common.{rules, ◌≡◌, ◌∙◌, ◌<◌, ◌++◌, ◌∷◌, ◌+◌, [], List, length, drop, get_or, refl, sym, ap, subst, Some}
use Rattle.std.specs.List.{slice_get}
use Rattle.std.proofs.lemmas.Option.{slice_get_read, slice_get-get_or}
use Rattle.world_laws.specs.World.{Channel, Node}
use Rattle.world_laws.specs.Channels.{reopened, all_reopened}
use Rattle.hop_core.specs.contracts.node.Node.{the_view}
use Rattle.hop_core.proofs.Reopens.{lengths_differ, one_joins, with_front}
use Rattle.hop_core.proofs.node.Node.all_reopened.Goals as goal

pub returns-then-kept-len : goal.returns-then-kept-len
returns-then-kept-len c =
    let count : length (the_view c.self.inside).channels ≡ c.len.result = search rules in
    let same : length c.args.self.now.channels ≡ c.len.result = subst (λ (n : Node). length n.channels ≡ c.len.result) c.self.view_is count in
    sym (lengths_differ c.args.kept.now c.args.self.now.channels (λ e. c.if-kept-len.true (e ∙ same)))

pub loop-place-preserved : goal.loop-place-preserved
loop-place-preserved c =
    let l = c.loop-place in
    let node = the_view c.self.inside in
    let k = get_or c.args.kept.now l.place 0 in
    let within : l.place < length node.channels = search rules in
    let at : slice_get node.channels l.place ≡ Some c.index.result.now = slice_get_read node.channels (length node.channels) l.place c.index.result.now refl within c.index.ensures in
    let there : slice_get c.args.self.now.channels l.place ≡ Some c.index.result.now = subst (λ (n : Node). slice_get n.channels l.place ≡ Some c.index.result.now) c.self.view_is at in
    let number : slice_get c.args.kept.now l.place ≡ Some k = slice_get-get_or c.args.kept.now l.place 0 c.loop-place-test.true in
    let done : reopened k c.index.result.now ≡ Some c.in-Some.new = search rules in
    let more : c.push.new.self.items ≡ l.all.items ++ c.in-Some.new ∷ [] = search rules in
    l.invariant
    ∙ (one_joins c.args.kept.now c.args.self.now.channels l.all.items l.place k c.index.result.now c.in-Some.new number there done
    ∙ ap (λ (front : List Channel). with_front front (all_reopened (drop (l.place + 1) c.args.kept.now) (drop (l.place + 1) c.args.self.now.channels))) (sym more))
