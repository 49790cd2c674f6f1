use Rattle.std.proofs.Common.{◌≡◌, ◌<◌, length, refl, ap, arith}
use Rattle.flume_host.specs.declared.names.FileName.{FileName}
use Rattle.host_memory.specs.declared.parts.Recorded.{Recorded}
use Rattle.host_memory.specs.declared.parts.Recorded.TheVariants.{Made, Wrote, Synced, Settled, Removed}
use Rattle.host_memory.specs.Parts.{call_of}
use Rattle.flume_host.specs.Told.{sync_cost}
use Rattle.host_memory.proofs.Replay.{syncs_more}
use Rattle.host_memory.proofs.store.Store.syncs.Goals as goal
use Rattle.host_memory.proofs.store.Store.syncs.Goals.{in-Synced, in_default}

not_synced : (change : Recorded) → ((name : FileName) → change ≡ Synced name → ⊥) → sync_cost (call_of change) ≡ 0
not_synced (Made name) other = refl
not_synced (Wrote name at bytes) other = refl
not_synced (Synced name) other = absurd (other name refl)
not_synced Settled other = refl
not_synced (Removed name) other = refl

pub loop-i-preserved : goal.loop-i-preserved
loop-i-preserved c =
    let change = c.index.result.now.change in
    let below : c.loop-i.i < length c.args.self.now.calls.items = omega (arith, c.loop-i-test.true, c.len-i-end.ensures, c.args.self.now.calls.ok.0) in
    let more = syncs_more c.args.self.now.first.items c.args.self.now.calls.items c.loop-i.i c.index.result.now below c.index.ensures in
    elim c.match-index.branch [
      | in-Synced w ↦
          let one : sync_cost (call_of change) ≡ 1 = ap (λ (r : Recorded). sync_cost (call_of r)) w.in-Synced.is in
          (omega (arith, w.count-is, c.loop-i.invariant.0), omega (arith, w.count-is, c.loop-i.invariant.1, more, one))
      | in_default w ↦
          let none : sync_cost (call_of change) ≡ 0 = not_synced change w.in_default.not-Synced in
          (omega (arith, w.count-is, c.loop-i.invariant.0), omega (arith, w.count-is, c.loop-i.invariant.1, more, none))
    ]
