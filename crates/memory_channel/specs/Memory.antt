-- What a channel in memory keeps, and what it refuses.
use Rattle.std.specs.Prelude.{◌≡◌, false}
use Rattle.channel_face.specs.declared.replies.Kind.TheVariants.{Memory as InMemory}
use Rattle.channel_face.specs.declared.replies.BeginRefused.{BeginRefused}
use Rattle.channel_face.specs.declared.replies.BeginRefused.TheVariants as Begin
use Rattle.channel_face.specs.declared.replies.PutRefused.{PutRefused}
use Rattle.channel_face.specs.declared.replies.PutRefused.TheVariants as PutNo
use Rattle.channel_face.specs.declared.replies.TakeRefused.{TakeRefused}
use Rattle.channel_face.specs.declared.replies.TakeRefused.TheVariants as TakeNo
use Rattle.channel_face.specs.declared.replies.StageCause.{StageCause}
use Rattle.channel_face.specs.declared.replies.StageCause.TheVariants as StageNo
use Rattle.channel_face.specs.Machine.{State}

-- it is in memory, and never breaks
pub record IsInMemory (s : State) : Type 0 where
  pub kind : s.rules.kind ≡ InMemory
  pub whole : s.broken ≡ false

-- the refusals that there are

abbrev pub MayRefuseBegin : BeginRefused → Type 0
MayRefuseBegin Begin.Broken = ⊥
MayRefuseBegin refused = Unit {0}

abbrev pub MayRefusePut : PutRefused → Type 0
MayRefusePut PutNo.Stale = Unit {0}
MayRefusePut (PutNo.TxnFull count) = Unit {0}
MayRefusePut PutNo.NoMemory = Unit {0}
MayRefusePut refused = ⊥

abbrev pub MayRefuseTake : TakeRefused → Type 0
MayRefuseTake TakeNo.Stale = Unit {0}
MayRefuseTake (TakeNo.TxnFull count) = Unit {0}
MayRefuseTake TakeNo.NoMemory = Unit {0}
MayRefuseTake refused = ⊥

abbrev pub MayRefuseStage : StageCause → Type 0
MayRefuseStage StageNo.Broken = ⊥
MayRefuseStage cause = Unit {0}
