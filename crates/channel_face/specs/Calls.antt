-- What the calls of a commit are.
use Rattle.std.specs.Prelude.{◌≡◌, ◌⊎◌, List, [], ◌∷◌, Result, Ok, Err}
use Rattle.channel_face.specs.Token.{Token}
use Rattle.channel_face.specs.Machine.{Call, Flush}
use Rattle.channel_face.specs.declared.replies.Ticket.{Ticket}
use Rattle.channel_face.specs.declared.replies.StageCause.{StageCause}
use Rattle.channel_face.specs.declared.replies.StageRefused.{StageRefused}
use Rattle.channel_face.specs.declared.replies.CommitRefused.{CommitRefused}
use Rattle.channel_face.specs.declared.replies.CommitRefused.TheVariants.{Stage, InDoubt}
use Rattle.channel_face.specs.declared.replies.FlushRefused.{FlushRefused}

-- a refusal of a stage, without its token
abbrev pub cause_of : {T : Type 0} → Result Ticket (StageRefused T) → Result Ticket StageCause
cause_of (Ok ticket) = Ok ticket
cause_of (Err refused) = Err refused.cause

-- the ticket, unless the flush was refused
abbrev pub flushed : Result (Unit {0}) FlushRefused → Ticket → Result Ticket (CommitRefused Token)
flushed (Ok done) ticket = Ok ticket
flushed (Err refused) ticket = Err InDoubt

-- A stage, then a flush. A stage that was refused hands the token back, and no flush follows.
abbrev pub IsCommit : (Result Ticket StageCause → Call) → Token → List Call → Result Ticket (CommitRefused Token) → Type 0
IsCommit stage token calls result =
    ((cause : StageCause) × (calls ≡ stage (Err cause) ∷ []) × (result ≡ Err (Stage (record { txn = token; cause = cause }))))
    ⊎ ((ticket : Ticket) × (reply : Result (Unit {0}) FlushRefused) × (calls ≡ stage (Ok ticket) ∷ Flush reply ∷ []) × (result ≡ flushed reply ticket))
