-- Each call of a running channel that is a step of the world can be taken in each world whose channel agrees with it.
use Rattle.std.specs.Prelude.{◌≡◌, ◌<◌, ◌-◌, ◌^◌, ◌⊎◌, ℕ, List, ◌∷◌, slice_get, Some, None, Ok, Err, true, false}
use Rattle.event_core.specs.Content.{Content}
use Rattle.channel_face.specs.Token.{Token}
use Rattle.channel_face.specs.Machine.{State, BeginTake, Take, StagePut, StageTake, RollbackTake, Reopen, Front, Call, Admits, after, puts_of, takes_of}
use Rattle.channel_face.specs.declared.replies.Ticket.{Ticket}
use Rattle.channel_face.specs.declared.replies.OpenCause.{OpenCause}
use Rattle.world_laws.specs.World.{World, Node, Channel, Work, Attempt, Delivery, share, live}
use Rattle.world_laws.specs.Steps
use Rattle.world_laws.specs.Steps.{Step, is_passed, happens}
use Rattle.world_laws.specs.Held.{AtNode, AtChannel, Held}
use Rattle.world_laws.specs.Agrees.{IsReached, Agrees, IsSettling, IsBreaking}

-- the step can be taken, and then the channel there agrees with this state
abbrev pub StepIsTaken : World → Step → ℕ → ℕ → State → Type 0
StepIsTaken w step n channel s = (new : World) × (d : Channel) × (happens w step ≡ Some new) × AtChannel new n channel d × Agrees d.state s

-- an attempt of the channel whose open take is of the same numbers
pub record IsTaking (node : Node) (c : Channel) (s : State) (channel number : ℕ) (a : Attempt) (token : Token) : Type 0 where
  pub live_one : live node.attempts number ≡ Some a
  pub of : a.channel ≡ channel
  pub same : takes_of c.state a.token ≡ takes_of s token

-- What the running channel, in the state s, calls next is a step of this world at channel c of the node, if this has a number left for a transaction
-- that begins, and a life for a reopening. A refused call ends a work or an attempt: this can be taken too, unless a mend or a restart has ended it
-- already.
pub record StepsAreTaken (w : World) (n channel : ℕ) (node : Node) (c : Channel) (s : State) : Type 0 where
  pub accept :
      (number : ℕ) (work : Work) (token : Token) (ticket : Ticket) (e : Content) (events : List Content) → c.state.txn < 2 ^ 64 - 1
      → live node.works number ≡ Some work → is_passed work channel ≡ false → share node work.made channel ≡ e ∷ events
      → puts_of s token ≡ Some (e ∷ events)
      → Admits true s (StagePut token (Ok ticket))
      → StepIsTaken w (Steps.Accept n number channel) n channel (after s (StagePut token (Ok ticket)))
  pub aside :
      (token : Token) (ticket : Ticket) (e : Content) (events : List Content) → c.state.txn < 2 ^ 64 - 1
      → puts_of s token ≡ Some (e ∷ events)
      → Admits true s (StagePut token (Ok ticket))
      → StepIsTaken w (Steps.Aside n channel (e ∷ events)) n channel (after s (StagePut token (Ok ticket)))
  pub settled : (call : Call) → IsSettling call → Admits true s call → StepIsTaken w (Steps.Flush n channel true) n channel (after s call)
  pub broken : (call : Call) → IsBreaking call → Admits true s call → StepIsTaken w (Steps.Flush n channel false) n channel (after s call)
  pub begun :
      (token : Token) → c.state.txn < 2 ^ 64 - 1 → Admits true s (BeginTake (Ok token))
      → StepIsTaken w (Steps.Take n channel None) n channel (after s (BeginTake (Ok token)))
  pub taken :
      (number : ℕ) (a : Attempt) (token : Token) (e : Content) → IsTaking node c s channel number a token → a.tag ≡ None
      → a.delivery ≡ None → Admits true s (Take token (Ok (record { event = Some e; spilled = false })))
      → StepIsTaken w (Steps.Take n channel (Some number)) n channel (after s (Take token (Ok (record { event = Some e; spilled = false }))))
  pub committed :
      (number : ℕ) (a : Attempt) (delivery : Delivery) (token : Token) (ticket : Ticket) → IsTaking node c s channel number a token
      → a.delivery ≡ Some delivery → Admits true s (StageTake token (Ok ticket))
      → StepIsTaken w (Steps.Commit n number) n channel (after s (StageTake token (Ok ticket)))
  pub given_up :
      (number : ℕ) (a : Attempt) (token : Token) → IsTaking node c s channel number a token → Admits true s (RollbackTake token true)
      → StepIsTaken w (Steps.EndAttempt n number) n channel (after s (RollbackTake token true))
  pub mended :
      (kept txn : ℕ) → c.state.life < 2 ^ 64 - 1 → Admits true s (Reopen (Ok (record { kept = Front kept; txn = txn })))
      → StepIsTaken w (Steps.Mend n channel kept) n channel (after s (Reopen (Ok (record { kept = Front kept; txn = txn }))))
  pub failed :
      (cause : OpenCause) → Admits true s (Reopen (Err cause))
      → StepIsTaken w (Steps.Fail n channel) n channel (after s (Reopen (Err cause)))
  pub work_ends :
      (number : ℕ) → (live node.works number ≡ None) ⊎ ((new : World) × (happens w (Steps.EndWork n number) ≡ Some new))
  pub attempt_ends :
      (number : ℕ) → (live node.attempts number ≡ None) ⊎ ((new : World) × (happens w (Steps.EndAttempt n number) ≡ Some new))

-- So it is where the accounting holds and the two channels agree.
abbrev pub CallsAreSteps : Type 0
CallsAreSteps =
    (w : World) (n channel : ℕ) (node : Node) (c : Channel) (s : State) → Held w → AtNode w n node
    → slice_get node.channels channel ≡ Some c → IsReached s → Agrees c.state s → StepsAreTaken w n channel node c s
