-- Worked histories of a channel that callers share: two put one event each and stage it, and the second flushes for both. Then a third takes one.
use Rattle.std.specs.Prelude.{◌≡◌, ℕ, List, [], ◌∷◌, ◌++◌, take, Some, Ok, true, false}
use Rattle.event_core.specs.Content.{Content}
use Rattle.event_core.specs.declared.journal.Entry.TheVariants.{Puts, Takes}
use Rattle.channel_face.specs.Token.{Token}
use Rattle.channel_face.specs.Machine.{State, Call, BeginPut, BeginTake, Put, Take, StagePut, StageTake, Flush, puts_of}
use Rattle.channel_face.specs.History.{Step, Opening, opening, IsRun, state_after, journal}
use Rattle.channel_face.specs.Faces.{Own, one, IsPutBatch, IsTakeCommit}
use Rattle.channel_face.specs.declared.replies.Kind.TheVariants.{Memory}
use Rattle.channel_face.specs.declared.replies.Put.{Put as PutDone}
use Rattle.channel_face.specs.declared.replies.Ticket.{Ticket}
use Rattle.channel_laws.specs.Transactions.{AreAmong, LeftAtEnd, looks_at_nothing}

abbrev pub start : Opening
start = record { rules = record { kind = Memory; limits = record { capacity = 10; txn_capacity = 10; max_file = 0 } }; base = record { items = []; first = 0 }; txn = 1; faults = 0; from = 0; tells = true }

abbrev pub token : ℕ → Token
token number = record { life = 1; number = number }

-- the ticket of one event or take, in this frame
abbrev pub ticket : ℕ → ℕ → Ticket
ticket frame first = record { life = 1; frame = frame; first = first; count = 1 }

abbrev pub done : PutDone
done = record { spilled = false }

abbrev pub by : ℕ → Call → Step
by pass call = record { pass = pass; call = call; moment = 0 }

-- passes 0 and 1 begin, put and stage in turns, and pass 1 flushes
abbrev pub history : Content → Content → List Step
history e f =
    by 0 (BeginPut (Ok (token 1))) ∷ by 1 (BeginPut (Ok (token 2)))
    ∷ by 0 (Put (token 1) e (Ok done)) ∷ by 1 (Put (token 2) f (Ok done))
    ∷ by 0 (StagePut (token 1) (Ok (ticket 1 0))) ∷ by 1 (StagePut (token 2) (Ok (ticket 1 1)))
    ∷ by 1 (Flush (Ok tt)) ∷ []

-- the state before the call at this place
abbrev pub state_at : List Step → ℕ → State
state_at h place = state_after (opening start) (take place h)

abbrev pub own_of_first : Content → Content → List Own
own_of_first e f =
    one (BeginPut (Ok (token 1))) (state_at (history e f) 0) 0 ++ one (Put (token 1) e (Ok done)) (state_at (history e f) 2) 0
    ++ one (StagePut (token 1) (Ok (ticket 1 0))) (state_at (history e f) 4) 0

abbrev pub own_of_second : Content → Content → List Own
own_of_second e f =
    one (BeginPut (Ok (token 2))) (state_at (history e f) 1) 0 ++ one (Put (token 2) f (Ok done)) (state_at (history e f) 3) 0
    ++ one (StagePut (token 2) (Ok (ticket 1 1))) (state_at (history e f) 5) 0 ++ one (Flush (Ok tt)) (state_at (history e f) 6) 0

-- each left the channel in the last state
abbrev pub at_end : List Step → List Own → State → Type 0
at_end h own s = s ≡ state_after (opening start) h

-- All that the law of batches asks of a run and of a face's calls holds of both, who left the channel in the last state and were answered 0 and 1. The
-- journal and what is left are as computed by hand.
pub record TwoBatchesOneFlush (e f : Content) : Type 0 where
  pub run : IsRun true (opening start) (history e f)
  pub left_at_end : LeftAtEnd (at_end (history e f)) start (history e f)
  pub first : IsPutBatch (at_end (history e f)) 7 (e ∷ []) (Ok 0) [] (own_of_first e f)
  pub second : IsPutBatch (at_end (history e f)) 7 (f ∷ []) (Ok 1) [] (own_of_second e f)
  pub first_alone : AreAmong (λ s. puts_of s (token 1)) (opening start) (history e f) (own_of_first e f)
  pub second_alone : AreAmong (λ s. puts_of s (token 2)) (opening start) (history e f) (own_of_second e f)
  pub entries : journal (opening start) (history e f) ≡ Puts (e ∷ []) ∷ Puts (f ∷ []) ∷ []
  pub left : (state_after (opening start) (history e f)).items ≡ (0, e) ∷ (1, f) ∷ []

-- then pass 2 takes the first event and flushes
abbrev pub drained : Content → Content → List Step
drained e f =
    history e f
    ++ by 2 (BeginTake (Ok (token 3))) ∷ by 2 (Take (token 3) (Ok (record { event = Some e; spilled = false })))
    ∷ by 2 (StageTake (token 3) (Ok (ticket 2 0))) ∷ by 2 (Flush (Ok tt)) ∷ []

abbrev pub taking : Content → Content → List Own
taking e f =
    one (BeginTake (Ok (token 3))) (state_at (drained e f) 7) 0
    ++ one (Take (token 3) (Ok (record { event = Some e; spilled = false }))) (state_at (drained e f) 8) 0

abbrev pub committing : Content → Content → List Own
committing e f = one (StageTake (token 3) (Ok (ticket 2 0))) (state_at (drained e f) 9) 0 ++ one (Flush (Ok tt)) (state_at (drained e f) 10) 0

-- All that the law of takes asks of a run and of a face's calls holds, and the journal and what is left are as computed by hand.
pub record OneIsTaken (e f : Content) : Type 0 where
  pub run : IsRun true (opening start) (drained e f)
  pub left_at_end : LeftAtEnd (at_end (drained e f)) start (drained e f)
  pub commit : IsTakeCommit (at_end (drained e f)) 11 (token 3) (Ok tt) (taking e f) (committing e f)
  pub among : AreAmong looks_at_nothing (opening start) (drained e f) (taking e f ++ committing e f)
  pub entries : journal (opening start) (drained e f) ≡ Puts (e ∷ []) ∷ Puts (f ∷ []) ∷ Takes (0 ∷ []) ∷ []
  pub left : (state_after (opening start) (drained e f)).items ≡ (1, f) ∷ []
