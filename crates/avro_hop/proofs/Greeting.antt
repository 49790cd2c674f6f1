-- From the parts of a handshake to the answer.
use Rattle.std.proofs.Common.{◌≡◌, ℕ, true, false, List, [], length, drop, refl, arith}
use Rattle.std.specs.Prelude.{Result, Ok, Err}
use Rattle.avro_binary.specs.declared.refused.ValueRefused.{ValueRefused}
use Rattle.avro_binary.specs.declared.refused.ValueRefused.TheVariants.{Short, Bad, TooLarge}
use Rattle.avro_binary.specs.declared.refused.ValueRefused.TheVariants as values
use Rattle.avro_binary.specs.Fault.{Fault, Lacks, Wrong, shift}
use Rattle.avro_binary.specs.Reading.{part, IsPart, IsFault}
use Rattle.avro_binary.proofs.Lists.{rest_part, length-part}
use Rattle.avro_hop.specs.declared.handshake.Match.{Match}
use Rattle.avro_hop.specs.declared.handshake.Match.TheVariants.{Both, Client, Stranger}
use Rattle.avro_hop.specs.declared.hop.Asked.{Asked}
use Rattle.avro_hop.specs.declared.hop.HopRefused.{HopRefused}
use Rattle.avro_hop.specs.declared.hop.HopRefused.TheVariants.{BadHandshake, OtherProtocol, NoMemory}
use Rattle.avro_hop.specs.Handshake.{Request, IsRequest, RequestFault, IsKnown, IsMatch, greeting}
use Rattle.avro_hop.specs.Told.{Matches}
use Rattle.avro_hop.specs.Refusal.{IsPlaceOf}
use Rattle.avro_hop.specs.Parameters.{CallsAt}
use Rattle.avro_hop.specs.Dialogue.{Greets, Opens, InRequest, InCall, AnswersFirst, AnswersCall}
use Rattle.avro_hop.proofs.Calling.{place-shift}

-- a request that was read, and the bytes after it
pub greets : (bytes : List ℕ) (call : ℕ) (r : Request) → IsPart bytes 0 call → IsRequest (part bytes 0 call) r → Greets bytes (drop call bytes) r
greets bytes call r p i = record { front = part bytes 0 call; whole = rest_part bytes 0 call p; request = i }

-- a field that is refused is at some place
pub placed : (Faults : List ℕ → Fault → Type 0) (bytes : List ℕ) (at : ℕ) (e : ValueRefused) → IsFault Faults bytes at e → (field : ℕ) × IsPlaceOf e field
placed Faults bytes at (Short field need) f = (field, refl)
placed Faults bytes at (Bad field) f = (field, refl)
placed Faults bytes at (TooLarge n end) f = absurd f
placed Faults bytes at values.NoMemory f = absurd f

-- a first message whose request is at fault is refused at its place
pub request_refused : (bytes : List ℕ) (at : ℕ) (e : ValueRefused) → IsFault RequestFault bytes 0 e → IsPlaceOf e at → AnswersFirst bytes (Err (BadHandshake at)) false
request_refused bytes at (Short field need) f p = ((Lacks f.0 f.1, InRequest f.4, omega (arith, f.2, p)), refl)
request_refused bytes at (Bad field) f p = ((Wrong f.0, InRequest f.2, omega (arith, f.1, p)), refl)
request_refused bytes at (TooLarge n end) f p = absurd f
request_refused bytes at values.NoMemory f p = absurd f

-- a first message of another protocol is refused, or there is no memory to tell
pub match_refused : (bytes : List ℕ) (call : ℕ) (r : Request) (e : HopRefused) → IsPart bytes 0 call → IsRequest (part bytes 0 call) r → Matches r (Err e) → AnswersFirst bytes (Err e) false
match_refused bytes call r (BadHandshake at) p i m = absurd m
match_refused bytes call r OtherProtocol p i m = ((drop call bytes, r, greets bytes call r p i, m), refl)
match_refused bytes call r NoMemory p i m = refl

known_of : (r : Request) (m : Match) → IsMatch r m → (m ≡ Stranger → ⊥) → IsKnown r
known_of r Both i other = i.0
known_of r Client i other = i.0
known_of r Stranger i other = absurd (other refl)

opens_call : (m : Match) (bytes : List ℕ) (call : ℕ) (asked : Asked) → (m ≡ Stranger → ⊥) → CallsAt (greeting m) bytes call (Ok asked) → Opens m (drop call bytes) asked true
opens_call Both bytes call asked other c = (c, refl)
opens_call Client bytes call asked other c = (c, refl)
opens_call Stranger bytes call asked other c = absurd (other refl)

-- a client that is known has its call answered after the handshake
pub first_opened : (bytes : List ℕ) (call : ℕ) (r : Request) (m : Match) (asked : Asked) → IsPart bytes 0 call → IsRequest (part bytes 0 call) r → IsMatch r m → (m ≡ Stranger → ⊥) → CallsAt (greeting m) bytes call (Ok asked) → AnswersFirst bytes (Ok asked) true
first_opened bytes call r m asked p i known other c = (drop call bytes, r, m, greets bytes call r p i, known, opens_call m bytes call asked other c)

-- a client that is known, but whose call is refused
pub first_refused : (bytes front : List ℕ) (call : ℕ) (r : Request) (m : Match) (e : HopRefused) → IsPart bytes 0 call → IsRequest (part bytes 0 call) r → IsMatch r m → (m ≡ Stranger → ⊥) → CallsAt front bytes call (Err e) → AnswersFirst bytes (Err e) false
first_refused bytes front call r m (BadHandshake at) p i known other c =
    let len = length-part bytes 0 call p in
    let k = length (part bytes 0 call) in
    ((shift k c.0, InCall (part bytes 0 call) (drop call bytes) r c.0 (rest_part bytes 0 call p) i (known_of r m known other) c.1 refl, omega (arith, c.2, place-shift k c.0)), refl)
first_refused bytes front call r m OtherProtocol p i known other c = absurd c
first_refused bytes front call r m NoMemory p i known other c = refl

-- after the handshake
pub later : (bytes : List ℕ) (result : Result Asked HopRefused) → CallsAt [] bytes 0 result → AnswersCall bytes result true
later bytes (Ok asked) c = (c, refl)
later bytes (Err (BadHandshake at)) c = ((c.0, c.1, omega (arith, c.2)), refl)
later bytes (Err OtherProtocol) c = absurd c
later bytes (Err NoMemory) c = refl
