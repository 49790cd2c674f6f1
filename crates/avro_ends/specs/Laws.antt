-- What follows for whole sessions.
use Rattle.std.specs.Prelude.{◌≡◌, ℕ, Bool, List, [], ◌∷◌, ◌++◌, map, flat_map, Option, Some, None}
use Rattle.event_core.specs.Content.{Content}
use Rattle.source_put.specs.declared.intake.Verdict.{Verdict}
use Rattle.avro_frame.specs.Pack.{IsPart, pack}
use Rattle.avro_frame.specs.Feed.{Holds}
use Rattle.avro_frame.specs.Stream.{IsCut}
use Rattle.avro_hop.specs.declared.respond.Status.{Status}
use Rattle.avro_hop.specs.Connection.{IsDialogue, Waits}
use Rattle.avro_ends.specs.Exchanges.{Exchange, Exchanges, ArePacks, texts, status_of}

abbrev pub messages_of : List Exchange → List (ℕ × List ℕ)
messages_of done = map (λ (x : Exchange). (x.serial, x.payload)) done

abbrev pub replies_of : List Exchange → List (ℕ × List ℕ)
replies_of done = map (λ (x : Exchange). (x.serial, x.reply)) done

abbrev pub one_of : Option Status → List Status
one_of None = []
one_of (Some status) = status ∷ []

abbrev pub told_of : Option Verdict → List Status
told_of None = []
told_of (Some verdict) = one_of (status_of verdict)

abbrev pub statuses_of : List Exchange → List Status
statuses_of [] = []
statuses_of (x ∷ done) = told_of x.verdict ++ statuses_of done

-- The messages that were answered and their verdicts have this dialogue.
abbrev pub IsOneDialogue : {S : Type 0} → (S → List Content → Verdict → S → Type 0) → Type 0
IsOneDialogue {S} Takes = (greeted after : Bool) (old new : S) (done : List Exchange)
    → Exchanges Takes greeted old done after new → IsDialogue greeted (messages_of done)
    (statuses_of done) (replies_of done) (Waits after)

-- What a link gave is cut into these messages.
abbrev pub CutsIntoMessages : Type 0
CutsIntoMessages = (front rest : List ℕ) (done : List Exchange) → ArePacks front done → IsPart rest
    → IsCut (front ++ rest) (messages_of done) (Holds rest)

-- What it took are the packs of the dialogue's replies.
abbrev pub SendsReplies : Type 0
SendsReplies = (done : List Exchange) → texts done ≡ flat_map
    (λ (r : ℕ × List ℕ). pack r.0 (r.1 ∷ [])) (replies_of done)
