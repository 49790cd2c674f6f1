-- The handshake (Avro specification, "Protocol Declaration", "Handshake").
use Rattle.std.specs.Prelude.{◌≡◌, ℕ, List, ◌++◌, ◌⊎◌, true, false, Option, Some, None, pos, codes}
use Rattle.md5.specs.Md5.{md5}
use Rattle.avro_binary.specs.Fault.{Fault}
use Rattle.avro_binary.specs.Value.{IsText, TextFault, IsFixed, FixedFault}
use Rattle.avro_binary.specs.Items.{IsMeta, MetaFault}
use Rattle.avro_binary.specs.Written.{written_number, written_bytes}
use Rattle.avro_hop.specs.declared.handshake.Match.{Match}
use Rattle.avro_hop.specs.declared.handshake.Match.TheVariants.{Both, Client, Stranger}
use Rattle.avro_hop.specs.Accepted.{is_accepted}
use Rattle.avro_hop.specs.Parts.{IsPair, PairFault, IsOption, OptionFault}

-- this agent's protocol text, and its hash
unfoldable pub own_text : List ℕ
own_text = codes "{\"protocol\":\"AvroSourceProtocol\",\"namespace\":\"org.apache.flume.source.avro\",\"types\":[{\"type\":\"enum\",\"name\":\"Status\",\"symbols\":[\"OK\",\"FAILED\",\"UNKNOWN\"]},{\"type\":\"record\",\"name\":\"AvroFlumeEvent\",\"fields\":[{\"name\":\"headers\",\"type\":{\"type\":\"map\",\"values\":\"string\"}},{\"name\":\"body\",\"type\":\"bytes\"}]}],\"messages\":{\"append\":{\"request\":[{\"name\":\"event\",\"type\":\"AvroFlumeEvent\"}],\"response\":\"Status\"},\"appendBatch\":{\"request\":[{\"name\":\"events\",\"type\":{\"type\":\"array\",\"items\":\"AvroFlumeEvent\"}}],\"response\":\"Status\"}}}"

abbrev pub own_hash : List ℕ
own_hash = md5 own_text

-- what a client tells: the hash of its text, perhaps the text, and the hash that it takes for the server's
pub record Request : Type 0 where
  pub hash : List ℕ
  pub text : Option (List ℕ)
  pub server_hash : List ℕ

-- the server's hash, and metadata, which is left aside
abbrev pub IsTail : List ℕ → List ℕ → Type 0
IsTail bytes server_hash = (meta : Option (List (List ℕ × List ℕ))) × IsPair IsFixed (IsOption IsMeta) bytes server_hash meta

abbrev pub TailFault : List ℕ → Fault → Type 0
TailFault bytes f = PairFault IsFixed FixedFault (OptionFault MetaFault) bytes f

pub record IsRequest (bytes : List ℕ) (r : Request) : Type 0 where
  pub hash_bytes : List ℕ
  pub text_bytes : List ℕ
  pub tail_bytes : List ℕ
  pub whole : bytes ≡ hash_bytes ++ (text_bytes ++ tail_bytes)
  pub hash : IsFixed hash_bytes r.hash
  pub text : IsOption IsText text_bytes r.text
  pub tail : IsTail tail_bytes r.server_hash

abbrev pub RequestFault : List ℕ → Fault → Type 0
RequestFault bytes f = PairFault IsFixed FixedFault (PairFault (IsOption IsText) (OptionFault TextFault) TailFault) bytes f

-- the client's hash is the server's own, or its text is accepted
abbrev pub IsKnown : Request → Type 0
IsKnown r = (r.hash ≡ own_hash) ⊎ ((text : List ℕ) × (r.text ≡ Some text) × (is_accepted text ≡ true))

-- a text of another protocol
abbrev pub IsOther : Request → Type 0
IsOther r = (r.hash ≡ own_hash → ⊥) × ((text : List ℕ) × (r.text ≡ Some text) × (is_accepted text ≡ false))

-- what is answered: that both hashes match, that only the client's does, or that the client's text is wanted
abbrev pub IsMatch : Request → Match → Type 0
IsMatch r Both = IsKnown r × (r.server_hash ≡ own_hash)
IsMatch r Client = IsKnown r × (r.server_hash ≡ own_hash → ⊥)
IsMatch r Stranger = (r.hash ≡ own_hash → ⊥) × (r.text ≡ None)

abbrev pub written_null : List ℕ
written_null = written_number (pos 0)

abbrev pub written_some : List ℕ → List ℕ
written_some bytes = written_number (pos 1) ++ bytes

-- this agent's text and hash, and no metadata
abbrev pub written_own : List ℕ
written_own = written_some (written_bytes own_text) ++ (written_some own_hash ++ written_null)

-- the bytes of the answer
abbrev pub greeting : Match → List ℕ
greeting Both = written_number (pos 0) ++ (written_null ++ (written_null ++ written_null))
greeting Client = written_number (pos 1) ++ written_own
greeting Stranger = written_number (pos 2) ++ written_own
