use Rattle.std.proofs.Common.{Option, inl, inr, refl, sym, subst}
use Rattle.flume_host.specs.Told.{Told}
use Rattle.flume_host.proofs.Folders.{but_between}
use Rattle.channel_wishes.specs.Openings.{BeginsOnDisk, Fails, IsFresh}
use Rattle.agent_channels.proofs.Opening.{back_state, hands_none, same_state}
use Rattle.agent_channels.proofs.one.open_folder.Goals as goal

pub returns-in-Ok-open_on_disk-clause-fresh : goal.returns-in-Ok-open_on_disk-clause-fresh
returns-in-Ok-open_on_disk-clause-fresh g c =
    let o = c.in-Ok-open_on_disk.channel in
    subst (λ (t : Option Told). IsFresh (BeginsOnDisk c.args.limits t) c.args.users o.share o.home o.others.items) c.in-Ok.ensures.told.0 c.in-Ok-open_on_disk.ensures.fresh

pub returns-in-Ok-open_on_disk-clause-out : goal.returns-in-Ok-open_on_disk-clause-out
returns-in-Ok-open_on_disk-clause-out g c = record {
  state = same_state _ _ _ c.in-Ok.ensures.state.1 c.in-Ok.ensures.state.2;
  others = c.in-Ok.ensures.others;
  opened = c.in-Ok.ensures.opened;
}

pub returns-in-Err-clause-refused : goal.returns-in-Err-clause-refused
returns-in-Err-clause-refused g c =
    let told = g.H.Disk.Disk.told in
    let faults = g.H.Disk.Disk.faults in
    let r = c.in-Err.field-0 in
    let keep = c.keep_disk.ensures in
    let state = back_state _ _ _ _ _ (same_state _ _ _ c.in-Ok.ensures.state.1 c.in-Ok.ensures.state.2) keep.state.1 keep.state.2 in
    inr (record {
      faults = faults r.disk;
      folder = subst (λ (t : Option Told × Option Told). Fails t.0 t.1 (faults r.disk) c.args.limits.capacity r.cause) (λ i. (c.in-Ok.ensures.told.0 i, sym keep.told i)) c.in-Err.ensures.fails;
      others = but_between _ _ _ _ _ c.in-Ok.ensures.others refl keep.others;
      opened = keep.opened;
      state = state.0;
      counts = state.1;
    })

pub returns-in-Err-Failed-clause-refused : goal.returns-in-Err-Failed-clause-refused
returns-in-Err-Failed-clause-refused g c =
    let e = c.in-Err-Failed.ensures in
    inl (hands_none _ _ _ _ e.refused e.state.1 e.later (inl (refl, e.state.2 c.in-Err-Failed.field-0-is)))

pub returns-in-Err-NoMemory-clause-refused : goal.returns-in-Err-NoMemory-clause-refused
returns-in-Err-NoMemory-clause-refused g c =
    let e = c.in-Err-NoMemory.ensures in
    inl (hands_none _ _ _ _ e.refused e.state.1 e.later (inr refl))
