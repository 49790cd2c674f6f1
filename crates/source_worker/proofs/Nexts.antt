-- The message at which a session of Avro calls ended.
use Rattle.std.proofs.Common.{◌≡◌, ◌++◌, ℕ, List}
use Rattle.avro_frame.specs.Pack.{IsPack}
use Rattle.avro_ends.specs.Sessions.{IsNext}

-- the message, its pack, and what is true of it
pub record NextOf (rest : List ℕ) (P : List ℕ → Type 0) : Type 0 where
  pub first : List ℕ
  pub behind : List ℕ
  pub serial : ℕ
  pub payload : List ℕ
  pub split : rest ≡ first ++ behind
  pub pack : IsPack first serial payload
  pub is : P payload

-- the parts of what is said of the next message
pub next_of : (rest : List ℕ) (P : List ℕ → Type 0) → IsNext rest P → NextOf rest P
next_of rest P (first, behind, serial, payload, split, pack, is) = record { first = first; behind = behind; serial = serial; payload = payload; split = split; pack = pack; is = is }
