-- What a client takes for a reply, and where one is at fault (Avro specification, "Handshake", "Call Format").
use Rattle.std.specs.Prelude.{◌≡◌, ◌⊎◌, ℕ, Bool, true, false, List, ◌∷◌, ◌++◌, Result, Ok, Err, ℤ, pos}
use Rattle.avro_binary.specs.Fault.{Fault, Wrong}
use Rattle.avro_binary.specs.Number.{IsInt, IntFault}
use Rattle.avro_binary.specs.Value.{IsBoolean, BooleanFault, IsText, TextFault, IsFixed, FixedFault}
use Rattle.avro_binary.specs.Items.{IsMeta, MetaFault}
use Rattle.avro_hop.specs.declared.handshake.Match.{Match}
use Rattle.avro_hop.specs.declared.handshake.Match.TheVariants.{Both, Client, Stranger}
use Rattle.avro_hop.specs.declared.respond.Status.{Status}
use Rattle.avro_hop.specs.Parts.{IsPair, PairFault, IsOption, OptionFault, WholeFault}
use Rattle.avro_hop.specs.Calls.{status_index, response}
use Rattle.avro_hop.specs.Dialogue.{IsPlace}
use Rattle.avro_hop.specs.Handshake.{greeting}
use Rattle.avro_hop.specs.Responses.{Greeting, match_index, IsGreeting, Told, IsResponse}

-- an int that is none of these
pub data EnumFault {E : Type 0} (Is : List ℕ → E → Type 0) (bytes : List ℕ) (f : Fault) : Type 0 where
  InIndex : IntFault bytes f → EnumFault Is bytes f
  OtherIndex : (front rest : List ℕ) (z : ℤ) → bytes ≡ front ++ rest → IsInt front z → ((e : E) → Is front e → ⊥) → f ≡ Wrong 0 → EnumFault Is bytes f

-- BOTH or CLIENT: a client goes on after both alike
abbrev pub IsAgreed : List ℕ → Match → Type 0
IsAgreed bytes found = IsInt bytes (pos (match_index found)) × (found ≡ Stranger → ⊥)

abbrev pub IsStatus : List ℕ → Status → Type 0
IsStatus bytes status = IsInt bytes (pos (status_index status))

-- the answer to a handshake after which a client goes on
abbrev pub IsAccord : List ℕ → Greeting → Type 0
IsAccord bytes told = IsGreeting bytes told × (told.found ≡ Stranger → ⊥)

abbrev pub AccordFault : List ℕ → Fault → Type 0
AccordFault bytes f =
    PairFault IsAgreed (EnumFault IsAgreed)
    (PairFault (IsOption IsText) (OptionFault TextFault)
    (PairFault (IsOption IsFixed) (OptionFault FixedFault) (OptionFault MetaFault)))
    bytes f

-- the flag of a call that has no error
abbrev pub IsNoError : List ℕ → Bool → Type 0
IsNoError bytes error = IsBoolean bytes error × (error ≡ false)

abbrev pub FlagFault : List ℕ → Fault → Type 0
FlagFault bytes f = BooleanFault bytes f ⊎ ((rest : List ℕ) × (bytes ≡ 1 ∷ rest) × (f ≡ Wrong 0))

-- a response that tells a status
abbrev pub IsTold : List ℕ → Status → Type 0
IsTold bytes status = IsResponse bytes (Told status)

abbrev pub ToldFault : List ℕ → Fault → Type 0
ToldFault bytes f = PairFault IsMeta MetaFault (PairFault IsNoError FlagFault (EnumFault IsStatus)) bytes f

-- The reply to a connection's first request has the answer to the handshake in front.
abbrev pub IsReply : Bool → List ℕ → Status → Type 0
IsReply true bytes status = (told : Greeting) × IsPair IsAccord IsTold bytes told status
IsReply false bytes status = IsTold bytes status

abbrev pub SpelledFault : Bool → List ℕ → Fault → Type 0
SpelledFault true bytes f = PairFault IsAccord AccordFault ToldFault bytes f
SpelledFault false bytes f = ToldFault bytes f

-- the first fault of a reply, or the first byte after one
abbrev pub ReplyFault : Bool → List ℕ → Fault → Type 0
ReplyFault first bytes f = WholeFault (IsReply first) (SpelledFault first) bytes f

-- the status that all of the bytes tell, or the place of their first fault
abbrev pub ReadsReply : Bool → List ℕ → Result Status ℕ → Type 0
ReadsReply first bytes (Ok status) = IsReply first bytes status
ReadsReply first bytes (Err at) = IsPlace (ReplyFault first) bytes at

-- The bytes are read in one way.
abbrev pub OneReply : Type 0
OneReply = (first : Bool) (bytes : List ℕ) (r s : Result Status ℕ) → ReadsReply first bytes r → ReadsReply first bytes s → r ≡ s

-- What a server of this agent answers is read as its status.
abbrev pub RepliesAreRead : Type 0
RepliesAreRead =
    (status : Status)
    → IsReply true (greeting Both ++ response status) status
    × IsReply true (greeting Client ++ response status) status
    × IsReply false (response status) status
