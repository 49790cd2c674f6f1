-- The law of a folder that is pruned.
use Rattle.std.specs.Prelude.{ℕ}
use Rattle.flume_host.specs.Folder.{Files, IsImage}
use Rattle.flume_host.specs.Told.{LeavesOnly, Told}
use Rattle.event_core.specs.Journal.{Base}
use Rattle.checkpoint_recovery.specs.Laws.{NeedsFrom}
use Rattle.checkpoint_recovery.specs.Recovers.{RecoversTo}
use Rattle.checkpoint_pruning.specs.Pruning.{KeepsFrom}

-- Where each image before a prune recovers to the same, by a newest checkpoint that needs no file below those which are kept, each image at any moment of the
-- prune does.
abbrev pub PrunedAtAnyMoment : Type 0
PrunedAtAnyMoment =
    (old new : Told) (least laid : ℕ) (left : Base) (txn : ℕ) → IsImage old.now old.reads → KeepsFrom least laid old new
    → ((image : Files) → IsImage old.now image → NeedsFrom image least laid × RecoversTo image left txn) → LeavesOnly old new (λ image. RecoversTo image left txn)
