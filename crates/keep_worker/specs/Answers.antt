-- What follows on what a channel answered.
use Rattle.std.specs.Prelude.{ℕ, Bool, true, false, Result, Err}
use Rattle.channel_face.specs.declared.replies.CheckRefused.{CheckRefused}
use Rattle.channel_face.specs.declared.replies.CheckRefused.TheVariants as check
use Rattle.channel_face.specs.declared.replies.PruneRefused.{PruneRefused}
use Rattle.channel_face.specs.declared.replies.PruneRefused.TheVariants as prune

-- the checkpoint or the removal of old files met a broken channel, or broke it
abbrev pub needs_mend : Result (Unit {0}) CheckRefused → Result ℕ PruneRefused → Bool
needs_mend (Err check.Broken) pruned = true
needs_mend (Err check.DiskFault) pruned = true
needs_mend checked (Err prune.Broken) = true
needs_mend checked pruned = false
