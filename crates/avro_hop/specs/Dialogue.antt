-- What a connection answers to a message.
use Rattle.std.specs.Prelude.{◌≡◌, ℕ, List, [], ◌++◌, length, Bool, true, false, Result, Ok, Err}
use Rattle.avro_binary.specs.Fault.{Fault, shift}
use Rattle.avro_hop.specs.declared.handshake.Match.{Match}
use Rattle.avro_hop.specs.declared.handshake.Match.TheVariants.{Both, Client, Stranger}
use Rattle.avro_hop.specs.declared.hop.Asked.{Asked}
use Rattle.avro_hop.specs.declared.hop.Asked.TheVariants.{Reply, Events}
use Rattle.avro_hop.specs.declared.hop.HopRefused.{HopRefused}
use Rattle.avro_hop.specs.declared.hop.HopRefused.TheVariants.{BadHandshake, OtherProtocol, NoMemory}
use Rattle.avro_hop.specs.Parts.{place}
use Rattle.avro_hop.specs.Handshake.{Request, IsRequest, RequestFault, IsKnown, IsOther, IsMatch, greeting}
use Rattle.avro_hop.specs.Calls.{Call, IsCall, CallFault, IsAsked}

-- a handshake, and the bytes after it
pub record Greets (bytes rest : List ℕ) (r : Request) : Type 0 where
  pub front : List ℕ
  pub whole : bytes ≡ front ++ rest
  pub request : IsRequest front r

-- A stranger is answered alone, and the rest is left aside. Otherwise the call is answered after the handshake, and the connection has no more of them.
abbrev pub Opens : Match → List ℕ → Asked → Bool → Type 0
Opens Stranger rest (Reply bytes) greeted = (bytes.items ≡ greeting Stranger) × (greeted ≡ false)
Opens Stranger rest (Events front batch) greeted = ⊥
Opens Both rest asked greeted = ((call : Call) × IsCall rest call × IsAsked (greeting Both) call asked) × (greeted ≡ true)
Opens Client rest asked greeted = ((call : Call) × IsCall rest call × IsAsked (greeting Client) call asked) × (greeted ≡ true)

-- the first fault of a first message
pub data FirstFault (bytes : List ℕ) (f : Fault) : Type 0 where
  InRequest : RequestFault bytes f → FirstFault bytes f
  InCall : (front rest : List ℕ) (r : Request) (inner : Fault) → bytes ≡ front ++ rest → IsRequest front r → IsKnown r → CallFault rest inner → f ≡ shift (length front) inner → FirstFault bytes f

-- the place of the first fault
abbrev pub IsPlace : (List ℕ → Fault → Type 0) → List ℕ → ℕ → Type 0
IsPlace Faults bytes at = (f : Fault) × Faults bytes f × (at ≡ place f)

-- before the handshake
abbrev pub AnswersFirst : List ℕ → Result Asked HopRefused → Bool → Type 0
AnswersFirst bytes (Ok asked) greeted = (rest : List ℕ) × (r : Request) × (m : Match) × Greets bytes rest r × IsMatch r m × Opens m rest asked greeted
AnswersFirst bytes (Err (BadHandshake at)) greeted = IsPlace FirstFault bytes at × (greeted ≡ false)
AnswersFirst bytes (Err OtherProtocol) greeted = ((rest : List ℕ) × (r : Request) × Greets bytes rest r × IsOther r) × (greeted ≡ false)
AnswersFirst bytes (Err NoMemory) greeted = greeted ≡ false

-- after the handshake
abbrev pub AnswersCall : List ℕ → Result Asked HopRefused → Bool → Type 0
AnswersCall bytes (Ok asked) greeted = ((call : Call) × IsCall bytes call × IsAsked [] call asked) × (greeted ≡ true)
AnswersCall bytes (Err (BadHandshake at)) greeted = IsPlace CallFault bytes at × (greeted ≡ true)
AnswersCall bytes (Err OtherProtocol) greeted = ⊥
AnswersCall bytes (Err NoMemory) greeted = greeted ≡ true

-- whether the handshake was made, before and after
abbrev pub Answers : Bool → List ℕ → Result Asked HopRefused → Bool → Type 0
Answers false bytes result greeted = AnswersFirst bytes result greeted
Answers true bytes result greeted = AnswersCall bytes result greeted

-- the same where the answer tells whether the handshake was made
abbrev pub AnswersFirstOf : List ℕ → Result (Asked × Bool) HopRefused → Type 0
AnswersFirstOf bytes (Ok found) = AnswersFirst bytes (Ok found.0) found.1
AnswersFirstOf bytes (Err e) = AnswersFirst bytes (Err e) false
