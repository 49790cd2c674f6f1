-- What is true of every channel on a disk.
use Rattle.std.specs.Prelude.{◌≡◌, ℕ, Option, false, true}
use Rattle.flume_host.specs.Told.{Told}
use Rattle.channel_log.specs.Writer.{Writer}
use Rattle.channel_face.specs.Machine.{State}
use Rattle.channel_face.specs.declared.replies.Kind.TheVariants.{File as OnFile}
use Rattle.channel_face.specs.Sound.{IsSoundState}
use Rattle.channel_writing.specs.Written.{IsLogged, MayRest}

-- its log has its state, unless it is broken; then a crash may also leave what is staged
pub record IsWhole (told : Option Told) (w : Writer) (busy_ones : ℕ) (s : State) : Type 0 where
  pub logged : s.broken ≡ false → IsLogged told w busy_ones s
  pub left : s.broken ≡ true → MayRest told s
  pub sound : IsSoundState s
  pub kind : s.rules.kind ≡ OnFile
