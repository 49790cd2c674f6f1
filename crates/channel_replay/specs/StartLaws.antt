-- Laws of replays that start at different places of a log.
use Rattle.std.specs.Prelude.{◌≡◌, ◌⊎◌, ◌↔◌, ℕ, List, [], ◌∷◌, ◌++◌, length, Option, Some, None}
use Rattle.event_core.specs.declared.journal.Entry.{Entry}
use Rattle.event_core.specs.declared.journal.Entry.TheVariants.{Puts, Takes}
use Rattle.channel_face.specs.Machine.{State, base_of, entry_of}
use Rattle.channel_replay.specs.Marks.{open_txns, opened}
use Rattle.channel_replay.specs.Open.{keys}
use Rattle.channel_replay.specs.Recover.{AreSound, IsBadFrom, past_lines, replayed}
use Rattle.channel_replay.specs.declared.line.Line.{Line}
use Rattle.channel_replay.specs.declared.line.Line.TheVariants.{Begins}
use Rattle.channel_replay.specs.Start.{AreApart, IsStart, Start, start_past}

-- A later start has what an earlier one and the lines between them lead to.
pub record Follows (s : Start) (between : List Line) (later : Start) : Type 0 where
  pub base : later.base ≡ replayed s between
  pub each : (t : ℕ) → entry_of t later.opened ≡ opened t (past_lines (start_past s) between)
  pub as_many : length later.opened ≡ length (open_txns (past_lines (start_past s) between))

-- After a later start that has what an earlier one leads to, lines are sound for both or for none, and leave the same.
abbrev pub StartsAgree : Type 0
StartsAgree =
    (s later : Start) (between rest : List Line) → IsStart s → IsStart later → AreSound s.base (start_past s) between → Follows s between later
    → (AreSound s.base (start_past s) (between ++ rest) ↔ AreSound later.base (start_past later) rest)
    × (AreSound later.base (start_past later) rest → replayed s (between ++ rest) ≡ replayed later rest)

-- And they have their first fault at one place.
abbrev pub FaultIsOneForBoth : Type 0
FaultIsOneForBoth =
    (s later : Start) (between rest : List Line) (file at : ℕ) → IsStart s → IsStart later → AreSound s.base (start_past s) between → Follows s between later
    → IsBadFrom later rest file at → IsBadFrom s (between ++ rest) file at

-- nothing stands after, or a file that drops what is open
abbrev pub BeginsLife : List Line → Type 0
BeginsLife rest = (rest ≡ []) ⊎ ((more : List Line) × (rest ≡ Begins ∷ more))

-- Where a new life begins after a later start with nothing open, that start needs only to have what is left.
abbrev pub NewLifeAgrees : Type 0
NewLifeAgrees =
    (s later : Start) (between rest : List Line) → IsStart s → IsStart later → AreSound s.base (start_past s) between → later.base ≡ replayed s between → BeginsLife rest
    → AreSound later.base (start_past later) rest
    → AreSound s.base (start_past s) (between ++ rest) × (replayed s (between ++ rest) ≡ replayed later rest)

-- What follows a start that follows another follows that one.
abbrev pub FollowingGoesOn : Type 0
FollowingGoesOn =
    (s mid later : Start) (between more : List Line) → IsStart s → IsStart mid → AreSound s.base (start_past s) between → Follows s between mid
    → AreSound mid.base (start_past mid) more → Follows mid more later → Follows s (between ++ more) later

-- what an open transaction did, if it did anything
abbrev pub done_of : Option Entry → Option Entry
done_of None = None
done_of (Some (Puts [])) = None
done_of (Some (Takes [])) = None
done_of (Some entry) = Some entry

abbrev pub or_not : Option Entry → ℕ → List (ℕ × Entry) → List (ℕ × Entry)
or_not None txn opened = opened
or_not (Some entry) txn opened = (txn, entry) ∷ opened

-- the open transactions that did something
abbrev pub busy_ones : List (ℕ × Entry) → List (ℕ × Entry)
busy_ones [] = []
busy_ones (o ∷ opened) = or_not (done_of (Some o.1)) o.0 (busy_ones opened)

-- what a checkpoint of a state stands for
abbrev pub start_of : State → Start
start_of s = record { base = base_of s; opened = busy_ones s.opened; txn = s.txn }

-- A state with nothing staged has what a start and lines lead to.
pub record Settled (c : Start) (lines : List Line) (s : State) : Type 0 where
  pub base : base_of s ≡ replayed c lines
  pub each : (t : ℕ) → opened t (past_lines (start_past c) lines) ≡ done_of (entry_of t s.opened)
  pub as_many : length (open_txns (past_lines (start_past c) lines)) ≡ length (busy_ones s.opened)

-- What is laid of the state follows that start.
abbrev pub LaidFollows : Type 0
LaidFollows = (c : Start) (lines : List Line) (s : State) → AreApart (keys s.opened) → Settled c lines s → Follows c lines (start_of s)
