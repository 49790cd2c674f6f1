use Rattle.std.proofs.Common.{◌≡◌, ◌≤◌, take}
use Rattle.host_memory.specs.Parts.{told_of}
use Rattle.host_memory.proofs.store.Store.syncs.Given as goal

abbrev pub invariant-loop-i : goal.invariant-loop-i
invariant-loop-i l = (l.count ≤ l.i) × (l.count ≡ (told_of l.self.first.items (take l.i l.self.calls.items)).syncs)
