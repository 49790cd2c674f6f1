-- What the worker of a channel on a disk needs, and what it did.
use Rattle.std.specs.Prelude.{◌≡◌, List}
use Rattle.keep_worker.specs.declared.keeping.Upkeep.{Upkeep}
use Rattle.keep_worker.specs.declared.worker.KeepWorker.{KeepWorker}
use Rattle.keep_worker.specs.Rounds.{Face, Rounds}

-- Its channel is on a disk, and no call takes it from there.
pub record CanKeep {F C : Type 0} (on_disk : F → Type 0) (kept : F → F → Type 0) (w : KeepWorker F C) : Type 0 where
  pub here : on_disk w.port
  pub stays : (first second : F) → kept first second → on_disk first → on_disk second

-- It made rounds one after the other, and no other call of its channel.
pub record KeepRan {F C : Type 0} (face : Face F) (old new : KeepWorker F C) : Type 0 where
  pub upkeeps : List Upkeep
  pub rounds : Rounds face upkeeps old.port new.port
  pub channel : new.channel ≡ old.channel
  pub interval : new.interval ≡ old.interval
