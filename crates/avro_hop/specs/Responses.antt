-- Answers to a handshake and responses to a call, as bytes and what they tell (Avro specification, "Handshake", "Call Format").
use Rattle.std.specs.Prelude.{◌≡◌, ℕ, List, ◌++◌, true, false, Option, Some, None, codes, pos}
use Rattle.avro_binary.specs.Number.{IsInt}
use Rattle.avro_binary.specs.Value.{IsBoolean, IsText, IsFixed}
use Rattle.avro_binary.specs.Items.{IsMeta}
use Rattle.avro_binary.specs.Laws.{IsPrefixFree}
use Rattle.avro_hop.specs.declared.handshake.Match.{Match}
use Rattle.avro_hop.specs.declared.handshake.Match.TheVariants.{Both, Client, Stranger}
use Rattle.avro_hop.specs.declared.respond.Status.{Status}
use Rattle.avro_hop.specs.Parts.{IsPair, IsOption}
use Rattle.avro_hop.specs.Handshake.{own_text, own_hash, greeting}
use Rattle.avro_hop.specs.Calls.{status_index, response, unknown_message}

-- how the hashes match, and perhaps the server's text and its hash
pub record Greeting : Type 0 where
  pub found : Match
  pub text : Option (List ℕ)
  pub hash : Option (List ℕ)

-- BOTH, CLIENT and NONE
abbrev pub match_index : Match → ℕ
match_index Both = 0
match_index Client = 1
match_index Stranger = 2

-- metadata is read and left aside
pub record IsGreeting (bytes : List ℕ) (told : Greeting) : Type 0 where
  pub index_bytes : List ℕ
  pub text_bytes : List ℕ
  pub hash_bytes : List ℕ
  pub meta_bytes : List ℕ
  pub meta : Option (List (List ℕ × List ℕ))
  pub whole : bytes ≡ index_bytes ++ (text_bytes ++ (hash_bytes ++ meta_bytes))
  pub index : IsInt index_bytes (pos (match_index told.found))
  pub text_at : IsOption IsText text_bytes told.text
  pub hash_at : IsOption IsFixed hash_bytes told.hash
  pub meta_at : IsOption IsMeta meta_bytes meta

-- what each answer tells: the server's text and hash, unless both hashes match
abbrev pub told_of : Match → Greeting
told_of Both = record { found = Both; text = None; hash = None }
told_of Client = record { found = Client; text = Some own_text; hash = Some own_hash }
told_of Stranger = record { found = Stranger; text = Some own_text; hash = Some own_hash }

-- what a call comes to
pub data Outcome : Type 0 where
  Told : Status → Outcome
  Error : List ℕ → Outcome

-- the union of errors has a text alone
abbrev pub IsError : List ℕ → List ℕ → Type 0
IsError bytes text = IsPair IsInt IsText bytes (pos 0) text

-- the error flag, and after it the Status or the error
abbrev pub IsOutcome : List ℕ → Outcome → Type 0
IsOutcome bytes (Told status) = IsPair IsBoolean IsInt bytes false (pos (status_index status))
IsOutcome bytes (Error text) = IsPair IsBoolean IsError bytes true text

-- metadata, which is left aside, and the outcome
abbrev pub IsResponse : List ℕ → Outcome → Type 0
IsResponse bytes outcome = (meta : List (List ℕ × List ℕ)) × IsPair IsMeta IsOutcome bytes meta outcome

-- What is answered to a handshake is spelled so.
abbrev pub GreetingsAreSpelled : Type 0
GreetingsAreSpelled = (found : Match) → IsGreeting (greeting found) (told_of found)

-- What is answered to a call is spelled so.
abbrev pub ResponsesAreSpelled : Type 0
ResponsesAreSpelled = (status : Status) → IsResponse (response status) (Told status)

abbrev pub UnknownIsSpelled : Type 0
UnknownIsSpelled = IsResponse unknown_message (Error (codes "unknown message"))

-- No answer begins another, and each tells one thing.
abbrev pub OneGreeting : Type 0
OneGreeting = IsPrefixFree IsGreeting

abbrev pub OneResponse : Type 0
OneResponse = IsPrefixFree IsResponse
