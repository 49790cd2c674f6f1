-- What a file channel that the generator alone calls may answer.
use Rattle.channel_face.specs.declared.replies.BeginRefused.TheVariants as Begin
use Rattle.channel_face.specs.declared.replies.CheckRefused.TheVariants as Check
use Rattle.channel_face.specs.declared.replies.FaceRefused.TheVariants as Face
use Rattle.channel_face.specs.declared.replies.PruneRefused.TheVariants as Prune
use Rattle.channel_face.specs.declared.replies.PutRefused.TheVariants as Put
use Rattle.channel_face.specs.declared.replies.StageCause.TheVariants as Stage
use Rattle.channel_face.specs.declared.replies.TakeRefused.TheVariants as Take
use Rattle.load_gen.specs.declared.refused.LoadRefused.{LoadRefused}
use Rattle.load_gen.specs.declared.refused.LoadRefused.TheVariants as Load

-- A fault of the disk, a number at its end, a damaged event or out of memory: a channel that has room for all events and that nobody else calls
-- refuses the generator for no other cause.
abbrev pub IsOwnCause : LoadRefused → Type 0
IsOwnCause (Load.Face (Face.Begin (Begin.Spent counter))) = Unit {0}
IsOwnCause (Load.Face (Face.Begin Begin.NoMemory)) = Unit {0}
IsOwnCause (Load.Face (Face.Put (Put.Spent counter))) = Unit {0}
IsOwnCause (Load.Face (Face.Put Put.DiskFault)) = Unit {0}
IsOwnCause (Load.Face (Face.Put Put.NoMemory)) = Unit {0}
IsOwnCause (Load.Face (Face.Take (Take.Spent counter))) = Unit {0}
IsOwnCause (Load.Face (Face.Take Take.ReadFault)) = Unit {0}
IsOwnCause (Load.Face (Face.Take (Take.Damaged kept found))) = Unit {0}
IsOwnCause (Load.Face (Face.Take Take.DiskFault)) = Unit {0}
IsOwnCause (Load.Face (Face.Take Take.NoMemory)) = Unit {0}
IsOwnCause (Load.Face (Face.Stage (Stage.Spent counter))) = Unit {0}
IsOwnCause (Load.Face Face.InDoubt) = Unit {0}
IsOwnCause (Load.Check (Check.Spent counter)) = Unit {0}
IsOwnCause (Load.Check Check.DiskFault) = Unit {0}
IsOwnCause (Load.Check Check.CheckFault) = Unit {0}
IsOwnCause (Load.Prune (Prune.Spent counter)) = Unit {0}
IsOwnCause (Load.Prune Prune.DiskFault) = Unit {0}
IsOwnCause Load.NoMemory = Unit {0}
IsOwnCause cause = ⊥
