-- Laws of the channel machine.
use Rattle.std.specs.Prelude.{◌≡◌, ◌<◌, ◌≤◌, ◌+◌, ℕ, List, [], ◌∷◌, ◌++◌, length, Bool, Ok}
use Rattle.std.specs.List.{AllByRecursion}
use Rattle.event_core.specs.Content.{Content}
use Rattle.event_core.specs.Journal.{IsBase, IsJournal, IsWellFormed, after_journal, put_events}
use Rattle.channel_face.specs.Machine.{State, Call, Reopen, Kept, Front, Read, base_of, free, count}
use Rattle.channel_face.specs.History.{Step, Opening, opening, IsRun, state_after, journal, commits}
use Rattle.channel_face.specs.Counters.{tally, counted}
use Rattle.channel_face.specs.declared.replies.Kind.{Kind}
use Rattle.channel_face.specs.declared.replies.Kind.TheVariants.{File as OnFile, Memory as InMemory}

abbrev pub IsFront : Kept → Type 0
IsFront (Front k) = Unit {0}
IsFront (Read base) = ⊥

-- the call is no reopen that read its list from a disk that doesn't show its contents
abbrev pub KeepsFront : Call → Type 0
KeepsFront (Reopen (Ok r)) = IsFront r.kept
KeepsFront call = Unit {0}

-- no reopen did so
abbrev pub ReadsNone : List Step → Type 0
ReadsNone h = AllByRecursion (λ step. KeepsFront step.call) h

-- In every state that a run leads to, numbers rise.
abbrev pub NumbersRise : Type 0
NumbersRise = (tells : Bool) (o : Opening) (h : List Step) → IsBase o.base → IsRun tells (opening o) h → IsBase (base_of (state_after (opening o) h))

-- Of the events that no transaction holds, the first has the least number.
abbrev pub TakesLeast : Type 0
TakesLeast = (s : State) (item : ℕ × Content) (rest : List (ℕ × Content)) → IsBase (base_of s) → free s ≡ item ∷ rest → AllByRecursion (λ other. item.0 < other.0) rest

-- What is left, and the next number, are what the journal leaves of the base.
abbrev pub StandsForJournal : Type 0
StandsForJournal =
    (tells : Bool) (o : Opening) (h : List Step) → IsBase o.base → IsRun tells (opening o) h → ReadsNone h
    → base_of (state_after (opening o) h) ≡ after_journal o.base (journal (opening o) h)

-- The commits of a run are a well-formed journal of its base, and none is empty.
abbrev pub CommitsAreWellFormed : Type 0
CommitsAreWellFormed =
    (tells : Bool) (o : Opening) (h : List Step) → IsBase o.base → IsRun tells (opening o) h → ReadsNone h
    → IsWellFormed o.base (commits (opening o) h) × IsJournal (commits (opening o) h)

-- What is counted of a history with one more call is what was counted, and that call.
abbrev pub CountsOneCall : Type 0
CountsOneCall = (s : State) (h : List Step) (step : Step) → tally s (h ++ step ∷ []) ≡ counted (state_after s h) step.call (tally s h)

-- the events that a capacity limits: those that are left and staged, and in a file those of open puts too
abbrev pub limited : Kind → State → ℕ
limited OnFile s = count s
limited InMemory s = length s.items + length (put_events s.staged)

-- Over a run from a base within its capacity a channel never counts more events than that.
abbrev pub CountStaysWithin : Type 0
CountStaysWithin =
    (tells : Bool) (o : Opening) (h : List Step) → length o.base.items ≤ o.rules.limits.capacity → IsRun tells (opening o) h → ReadsNone h
    → limited o.rules.kind (state_after (opening o) h) ≤ o.rules.limits.capacity
