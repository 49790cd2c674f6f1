-- A message is read in one way, and has one answer.
use Rattle.std.specs.Prelude.{◌≡◌, ℕ, List, ◌++◌, Bool, Result, Ok, Err}
use Rattle.avro_binary.specs.Fault.{Fault}
use Rattle.avro_binary.specs.Laws.{HasOneFault}
use Rattle.avro_hop.specs.declared.handshake.Match.{Match}
use Rattle.avro_hop.specs.declared.hop.Asked.{Asked}
use Rattle.avro_hop.specs.declared.hop.Asked.TheVariants.{Reply, Events}
use Rattle.avro_hop.specs.declared.hop.HopRefused.{HopRefused}
use Rattle.avro_hop.specs.declared.hop.HopRefused.TheVariants.{BadHandshake, OtherProtocol, NoMemory}
use Rattle.avro_hop.specs.Handshake.{Request, IsRequest, RequestFault, IsMatch, IsOther}
use Rattle.avro_hop.specs.Calls.{Call, IsCall, CallFault}
use Rattle.avro_hop.specs.Dialogue.{Answers}

-- No request begins another, and each tells one thing.
abbrev pub OneRequest : Type 0
OneRequest = (a b x y : List ℕ) (r s : Request) → IsRequest a r → IsRequest b s → a ++ x ≡ b ++ y → (a ≡ b) × (r ≡ s)

-- Where a request stands there is no fault, whatever follows.
abbrev pub NoRequestFault : Type 0
NoRequestFault = (front rest : List ℕ) (r : Request) (f : Fault) → IsRequest front r → RequestFault (front ++ rest) f → ⊥

-- The bytes are one call at most, and then there is no fault in them.
abbrev pub OneCall : Type 0
OneCall = (bytes : List ℕ) (c d : Call) → IsCall bytes c → IsCall bytes d → c ≡ d

abbrev pub NoCallFault : Type 0
NoCallFault = (bytes : List ℕ) (c : Call) (f : Fault) → IsCall bytes c → CallFault bytes f → ⊥

-- A request or a call that is at fault is so at one place.
abbrev pub OneRequestFault : Type 0
OneRequestFault = HasOneFault RequestFault

abbrev pub OneCallFault : Type 0
OneCallFault = HasOneFault CallFault

-- The hashes match in one way, or the client's text is of another protocol.
abbrev pub OneMatch : Type 0
OneMatch = (r : Request) (m n : Match) → IsMatch r m → (IsMatch r n → m ≡ n) × (IsOther r → ⊥)

-- the same bytes to send, or the same events to take
abbrev pub SameAsked : Asked → Asked → Type 0
SameAsked (Reply a) (Reply b) = a.items ≡ b.items
SameAsked (Reply a) (Events front batch) = ⊥
SameAsked (Events front batch) (Reply b) = ⊥
SameAsked (Events front batch) (Events front' batch') = (front.items ≡ front'.items) × (batch ≡ batch')

-- the same answer, and the same connection after it; out of memory may come in place of any
abbrev pub SameAnswer : Result Asked HopRefused → Bool → Result Asked HopRefused → Bool → Type 0
SameAnswer (Ok a) g (Ok b) h = SameAsked a b × (g ≡ h)
SameAnswer (Ok a) g (Err (BadHandshake at)) h = ⊥
SameAnswer (Ok a) g (Err OtherProtocol) h = ⊥
SameAnswer (Ok a) g (Err NoMemory) h = Unit {0}
SameAnswer (Err (BadHandshake at)) g (Ok b) h = ⊥
SameAnswer (Err (BadHandshake at)) g (Err (BadHandshake at')) h = (at ≡ at') × (g ≡ h)
SameAnswer (Err (BadHandshake at)) g (Err OtherProtocol) h = ⊥
SameAnswer (Err (BadHandshake at)) g (Err NoMemory) h = Unit {0}
SameAnswer (Err OtherProtocol) g (Ok b) h = ⊥
SameAnswer (Err OtherProtocol) g (Err (BadHandshake at)) h = ⊥
SameAnswer (Err OtherProtocol) g (Err OtherProtocol) h = g ≡ h
SameAnswer (Err OtherProtocol) g (Err NoMemory) h = Unit {0}
SameAnswer (Err NoMemory) g s h = Unit {0}

-- A message has one answer, except when out of memory.
abbrev pub OneAnswer : Type 0
OneAnswer = (greeted : Bool) (bytes : List ℕ) (r s : Result Asked HopRefused) (g h : Bool) → Answers greeted bytes r g → Answers greeted bytes s h → SameAnswer r g s h
