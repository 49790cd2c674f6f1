use Rattle.std.proofs.Common.{refl, sym, subst}
use Rattle.std.proofs.lemmas.Result.{IfErr-weaker}
use Rattle.channel_wishes.specs.Openings.{Refuses}
use Rattle.channel_wishes.specs.declared.wish.ChannelPlace.{ChannelPlace}
use Rattle.agent_channels.proofs.Opening.{ok_of_three, ok_of_two, opened_in_folder, opened_in_memory, refused_in_folder}
use Rattle.agent_channels.proofs.one.open_one.Goals as goal

pub returns-in-Memory-clause-opened : goal.returns-in-Memory-clause-opened
returns-in-Memory-clause-opened g c =
    let r = c.open_in_memory.ensures in
    ok_of_two c.open_in_memory.result _ _ _ (λ o kind fresh. opened_in_memory (record { state = g.H.Host.state c.args.host.now; folders = g.H.Host.folders c.args.host.now }) (record { state = g.H.Host.state c.args.host.now; folders = g.H.Host.folders c.args.host.now }) c.args.wish.now o.share o.home o.others.items c.in-Memory.is refl kind fresh) r.kind r.fresh

pub returns-in-Memory-clause-refused : goal.returns-in-Memory-clause-refused
returns-in-Memory-clause-refused g c =
    IfErr-weaker c.open_in_memory.result _ _ (λ e no_memory. subst (λ (p : ChannelPlace). Refuses p c.args.wish.now.limits.capacity (record { state = g.H.Host.state c.args.host.now; folders = g.H.Host.folders c.args.host.now }) (record { state = g.H.Host.state c.args.host.now; folders = g.H.Host.folders c.args.host.now }) e) (sym c.in-Memory.is) (no_memory, refl)) c.open_in_memory.ensures.refused

pub returns-in-Folder-clause-opened : goal.returns-in-Folder-clause-opened
returns-in-Folder-clause-opened g c =
    let r = c.open_folder.ensures in
    ok_of_three c.open_folder.result _ _ _ _ (λ o kind fresh out. opened_in_folder (record { state = g.H.Host.state c.args.host.now; folders = g.H.Host.folders c.args.host.now }) (record { state = g.H.Host.state c.open_folder.new.host; folders = g.H.Host.folders c.open_folder.new.host }) c.args.wish.now c.in-Folder.path c.as_str.result.now o.share o.home o.others.items c.in-Folder.is c.as_str.ensures.value kind fresh out) r.kind r.fresh r.out

pub returns-in-Folder-clause-refused : goal.returns-in-Folder-clause-refused
returns-in-Folder-clause-refused g c =
    IfErr-weaker c.open_folder.result _ _ (λ e refused. refused_in_folder (record { state = g.H.Host.state c.args.host.now; folders = g.H.Host.folders c.args.host.now }) (record { state = g.H.Host.state c.open_folder.new.host; folders = g.H.Host.folders c.open_folder.new.host }) c.args.wish.now c.in-Folder.path c.as_str.result.now e c.in-Folder.is c.as_str.ensures.value refused) c.open_folder.ensures.refused
