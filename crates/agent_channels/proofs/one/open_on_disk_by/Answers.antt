use Rattle.std.proofs.Common.{ℕ, ◌∙◌, ◌+◌, ap, inl, inr, refl, sym, subst}
use Rattle.std.proofs.lemmas.Result.{IfErr-weaker, IfOk-weaker}
use Rattle.channel_writing.specs.Folders.{IsRefused}
use Rattle.file_channel.specs.Stands.{opened_as}
use Rattle.shared_channel.specs.Passes.{new_passes}
use Rattle.two_channels.specs.Shares.{table_of}
use Rattle.channel_wishes.specs.Openings.{ClosesAtOnce}
use Rattle.agent_channels.proofs.Opening.{tells_still}
use Rattle.agent_channels.proofs.one.open_on_disk_by.Goals as goal

pub returns-in-Ok-clause-fresh : goal.returns-in-Ok-clause-fresh
returns-in-Ok-clause-fresh g c =
    let told = g.D.Disk.told in
    let faults = g.D.Disk.faults in
    let is = c.in-Ok.channel in
    let e = c.in-Ok.ensures in
    IfOk-weaker c.share_on_disk.result _ _
    (λ o passes. record {
      start = opened_as (told c.args.disk) (faults c.args.disk) (told is.0) is.1;
      begins = record { rules = e.rules; base = e.stands.base; opens = e.opens; faults = c.requires.clean; from = refl; tells = tells_still _ _ _ e.settled };
      passes = passes ∙ ap (λ (d : g.row.D.Denot). new_passes (table_of o.share) (opened_as (told d) (faults d) (told is.0) is.1) (c.args.users + 1) (c.args.users + 1)) c.of-before.ensures;
    })
    c.share_on_disk.ensures.fresh

pub returns-in-Ok-clause-fails : goal.returns-in-Ok-clause-fails
returns-in-Ok-clause-fails g c =
    let told = g.D.Disk.told in
    let faults = g.D.Disk.faults in
    let is = c.in-Ok.channel in
    let e = c.in-Ok.ensures in
    IfErr-weaker c.share_on_disk.result _ _
    (λ r back. inr (back.1, subst (λ (d : g.row.D.Denot). ClosesAtOnce (told c.args.disk) (told d) (faults d)) (sym back.0) (record { gains = e.gains; images = e.any_moment; settled = e.settled; well = e.well ∙ c.requires.clean })))
    c.share_on_disk.ensures.back

pub returns-clause-fails : goal.returns-clause-fails
returns-clause-fails g c =
    let told = g.D.Disk.told in
    let faults = g.D.Disk.faults in
    let r = c.in-Err.refused in
    inl (record {
      refused = subst (λ (n : ℕ). IsRefused (told c.args.disk) (told r.disk) n (faults r.disk) c.args.limits.capacity r.cause) c.requires.clean c.in-Err.ensures.refused;
      settled = c.in-Err.ensures.settled_or;
    })
