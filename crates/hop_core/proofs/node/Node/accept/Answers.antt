use Rattle.std.proofs.Common.{rules, ◌≡◌, ◌∙◌, ◌<◌, ◌++◌, ◌∷◌, [], ℕ, List, length, drop, refl, sym, ap, Some, None, true, false}
use Rattle.std.specs.Vec.{with_items}
use Rattle.std.specs.List.{slice_get, slice_set}
use Rattle.std.proofs.lemmas.Option.{slice_get_read}
use Rattle.event_core.specs.Content.{Content}
use Rattle.world_laws.specs.World.{Channel, commits, live, share}
use Rattle.world_laws.specs.Channels.{is_empty, stored}
use Rattle.world_laws.specs.Steps.{is_passed}
use Rattle.hop_core.specs.contracts.node.Node.{the_view}
use Rattle.hop_core.specs.contracts.work.Work.{the_view as work_view}
use Rattle.hop_core.proofs.Nodes.{accept_empty, accept_refused, accept_stored, emptied, not_emptied, written_back}
use Rattle.hop_core.proofs.node.Node.accept.Goals as goal

pub returns-then-is_empty : goal.returns-then-is_empty
returns-then-is_empty c =
    let node = the_view c.self.inside in
    let work = work_view c.work.inside in
    let alive : live node.works c.args.number ≡ Some work = search rules in
    let number : c.from-2.result ≡ c.args.channel = search rules in
    let taken : c.in_ok-events.events ≡ share node work.made c.from-2.result = rw c.deref-2.ensures.value at c.in_ok-events.ensures in
    let batch : c.in_ok-events.events ≡ share node work.made c.args.channel = taken ∙ ap (λ (n : ℕ). share node work.made n) number in
    let given : is_empty c.in_ok-events.events ≡ true = emptied c.is_empty.result c.in_ok-events.events c.is_empty.ensures c.if-is_empty.true in
    let empty : is_empty (share node work.made c.args.channel) ≡ true = ap is_empty (sym batch) ∙ given in
    (rw (← c.self.view_is) (accept_empty node c.args.number c.args.channel work alive empty), refl)

pub returns-in-Some-2 : goal.returns-in-Some-2
returns-in-Some-2 c =
    let node = the_view c.self.inside in
    let work = work_view c.work.inside in
    let alive : live node.works c.args.number ≡ Some work = search rules in
    let number : c.from-2.result ≡ c.args.channel = search rules in
    let taken : c.in_ok-events.events ≡ share node work.made c.from-2.result = rw c.deref-2.ensures.value at c.in_ok-events.ensures in
    let batch : c.in_ok-events.events ≡ share node work.made c.args.channel = taken ∙ ap (λ (n : ℕ). share node work.made n) number in
    let within : c.args.channel < length node.channels = search rules in
    let at : slice_get node.channels c.args.channel ≡ Some c.index.result.now = slice_get_read node.channels (length node.channels) c.args.channel c.index.result.now refl within c.index.ensures in
    let again : slice_get node.channels c.args.channel ≡ Some c.index-2.result.now = slice_get_read node.channels (length node.channels) c.args.channel c.index-2.result.now refl within c.index-2.ensures in
    let both : Some c.index-2.result.now ≡ Some c.index.result.now = sym again ∙ at in
    let same : c.index-2.result.now ≡ c.index.result.now = cc in
    let given : is_empty c.in_ok-events.events ≡ false = not_emptied c.is_empty.result c.in_ok-events.events c.is_empty.ensures c.if-is_empty.false in
    let some : is_empty (share node work.made c.args.channel) ≡ false = ap is_empty (sym batch) ∙ given in
    let passed : is_passed work c.args.channel ≡ false = search rules in
    let found : stored c.in_ok-events.events c.index-2.result.now ≡ Some c.in-Some-2.new = search rules in
    let done : stored (share node work.made c.args.channel) c.index.result.now ≡ Some c.in-Some-2.new =
    ap (λ (es : List Content). stored es c.index.result.now) (sym batch) ∙ (ap (λ (d : Channel). stored c.in_ok-events.events d) (sym same) ∙ found) in
    let entries : c.in_ok-entries.entries.items ≡ work.entries ++ (c.args.channel, length (commits c.index.result.now)) ∷ [] = search rules in
    let value : c.deref_mut.result.now ≡ node.works = search rules in
    let there : live c.deref_mut.result.now c.args.number ≡ Some work = rw value alive in
    let said = c.set_entries.ensures work there in
    let changed : c.set_entries.new.works ≡ slice_set node.works c.args.number (Some (record work { entries = work.entries ++ (c.args.channel, length (commits c.index.result.now)) ∷ [] })) = cc in
    let size : length c.set_entries.new.works ≡ c.self.inside.works.len = search rules in
    let back : (with_items c.self.inside.works c.set_entries.new.works).items ≡ c.set_entries.new.works = written_back c.self.inside.works.len c.set_entries.new.works (drop (length c.set_entries.new.works) c.self.inside.works.items) size in
    rw (← c.self.view_is) (accept_stored node c.args.number c.args.channel work c.index.result.now c.in-Some-2.new (with_items c.self.inside.works c.set_entries.new.works).items alive at some passed done (back ∙ changed))

pub returns : goal.returns
returns c =
    let node = the_view c.self.inside in
    let work = work_view c.work.inside in
    let alive : live node.works c.args.number ≡ Some work = search rules in
    let number : c.from-2.result ≡ c.args.channel = search rules in
    let taken : c.in_ok-events.events ≡ share node work.made c.from-2.result = rw c.deref-2.ensures.value at c.in_ok-events.ensures in
    let batch : c.in_ok-events.events ≡ share node work.made c.args.channel = taken ∙ ap (λ (n : ℕ). share node work.made n) number in
    let within : c.args.channel < length node.channels = search rules in
    let at : slice_get node.channels c.args.channel ≡ Some c.index.result.now = slice_get_read node.channels (length node.channels) c.args.channel c.index.result.now refl within c.index.ensures in
    let again : slice_get node.channels c.args.channel ≡ Some c.index-2.result.now = slice_get_read node.channels (length node.channels) c.args.channel c.index-2.result.now refl within c.index-2.ensures in
    let both : Some c.index-2.result.now ≡ Some c.index.result.now = sym again ∙ at in
    let same : c.index-2.result.now ≡ c.index.result.now = cc in
    let given : is_empty c.in_ok-events.events ≡ false = not_emptied c.is_empty.result c.in_ok-events.events c.is_empty.ensures c.if-is_empty.false in
    let some : is_empty (share node work.made c.args.channel) ≡ false = ap is_empty (sym batch) ∙ given in
    let passed : is_passed work c.args.channel ≡ false = search rules in
    let found : stored c.in_ok-events.events c.index-2.result.now ≡ None = search rules in
    let done : stored (share node work.made c.args.channel) c.index.result.now ≡ None =
    ap (λ (es : List Content). stored es c.index.result.now) (sym batch) ∙ (ap (λ (d : Channel). stored c.in_ok-events.events d) (sym same) ∙ found) in
    let changed : c.clear.new.list ≡ slice_set node.works c.args.number None = search rules in
    let size : length c.clear.new.list ≡ c.self.inside.works.len = search rules in
    let back : (with_items c.self.inside.works c.clear.new.list).items ≡ c.clear.new.list = written_back c.self.inside.works.len c.clear.new.list (drop (length c.clear.new.list) c.self.inside.works.items) size in
    rw (← c.self.view_is) (accept_refused node c.args.number c.args.channel work c.index.result.now (with_items c.self.inside.works c.clear.new.list).items alive at some passed done (back ∙ changed))
