-- What the readers of a handshake answer.
use Rattle.std.specs.Prelude.{ℕ, List, Bool, true, false, Result, Ok, Err, pos}
use Rattle.std.specs.Option.{option_map}
use Rattle.avro_binary.specs.declared.refused.ValueRefused.{ValueRefused}
use Rattle.avro_binary.specs.Fault.{Fault}
use Rattle.avro_binary.specs.Number.{IsInt}
use Rattle.avro_binary.specs.Reading.{Reads}
use Rattle.avro_hop.specs.declared.handshake.Told.{Told}
use Rattle.avro_hop.specs.declared.handshake.Match.{Match}
use Rattle.avro_hop.specs.declared.hop.HopRefused.{HopRefused}
use Rattle.avro_hop.specs.declared.hop.HopRefused.TheVariants.{BadHandshake, OtherProtocol, NoMemory}
use Rattle.avro_hop.specs.Parts.{OptionFault}
use Rattle.avro_hop.specs.Handshake.{Request, IsMatch, IsOther}

abbrev pub IsIndex : List ℕ → Bool → Type 0
IsIndex bytes true = IsInt bytes (pos 1)
IsIndex bytes false = IsInt bytes (pos 0)

abbrev pub NoFault : List ℕ → Fault → Type 0
NoFault bytes f = ⊥

-- the index of a union of null and a value
abbrev pub ReadsIndex : List ℕ → ℕ → Result (Bool × ℕ) ValueRefused → Type 0
ReadsIndex bytes at result = Reads (λ (b : Bool). b) IsIndex (OptionFault NoFault) bytes at result

-- a request without where its parts lie in memory
abbrev pub told : Told → Request
told t = record { hash = t.hash.now; text = option_map (λ s. s.now) t.text; server_hash = t.server_hash.now }

abbrev pub Matches : Request → Result Match HopRefused → Type 0
Matches r (Ok m) = IsMatch r m
Matches r (Err (BadHandshake at)) = ⊥
Matches r (Err OtherProtocol) = IsOther r
Matches r (Err NoMemory) = Unit {0}
