-- A stream of packs as a whole, and the pieces that it comes in.
use Rattle.std.specs.Prelude.{◌≡◌, ℕ, ◌^◌, ◌<◌, ◌≤◌, List, [], ◌∷◌, ◌++◌, length, drop, Option, Some, None, Ok, Err}
use Rattle.avro_frame.specs.declared.packs.Message.{Message}
use Rattle.avro_frame.specs.declared.packs.PackRefused.{PackRefused}
use Rattle.avro_frame.specs.declared.packs.PackRefused.TheVariants.{TooMany, TooLarge, NoMemory}
use Rattle.avro_frame.specs.Pack.{pack, max_bytes, IsPack, IsPart, PassesCount, PassesSize}
use Rattle.avro_frame.specs.Feed.{Packing, Holds, Failed, Feeds}

-- The whole packs of a stream in order, each by its serial and its payload, and what is after them: less than a pack, or one that passes a limit. Nothing after that one is looked at.
pub data IsCut : List ℕ → List (ℕ × List ℕ) → Packing → Type 0 where
  InPack : (rest : List ℕ) → IsPart rest → IsCut rest [] (Holds rest)
  OverCount : (rest : List ℕ) (n : ℕ) → PassesCount rest n → IsCut rest [] (Failed (TooMany n))
  OverSize : (rest : List ℕ) (n : ℕ) → PassesSize rest n → IsCut rest [] (Failed (TooLarge n))
  Pack : (first rest payload : List ℕ) (serial : ℕ) (messages : List (ℕ × List ℕ)) (end : Packing) → IsPack first serial payload → IsCut rest messages end → IsCut (first ++ rest) ((serial, payload) ∷ messages) end

-- what a call gives, as a list
abbrev pub given : Option Message → List (ℕ × List ℕ)
given None = []
given (Some m) = (m.serial, m.payload.items) ∷ []

-- A stream that is fed: each call gets some front of what is left of it, and what it took is gone. The messages that were given, and the packs after the last call.
pub data IsFed : Packing → List ℕ → List (ℕ × List ℕ) → Packing → Type 0 where
  -- nothing is left
  Done : (now : Packing) → IsFed now [] [] now
  Takes : (before after end : Packing) (piece rest : List ℕ) (n : ℕ) (found : Option Message) (messages : List (ℕ × List ℕ)) → Feeds before piece (Ok (n, found)) after → IsFed after (drop n piece ++ rest) messages end → IsFed before (piece ++ rest) (given found ++ messages) end
  -- when out of memory a piece is fed again, or another in its place
  Lacks : (before after end : Packing) (piece rest : List ℕ) (messages : List (ℕ × List ℕ)) → Feeds before piece (Err NoMemory) after → IsFed after (piece ++ rest) messages end → IsFed before (piece ++ rest) messages end
  -- a limit is passed
  Refused : (before after : Packing) (piece rest : List ℕ) (e : PackRefused) → (e ≡ NoMemory → ⊥) → Feeds before piece (Err e) after → IsFed before (piece ++ rest) [] after

-- Whatever the pieces, feeding a stream gives the packs of the whole.
abbrev pub FeedingCuts : Type 0
FeedingCuts = (stream : List ℕ) (messages : List (ℕ × List ℕ)) (end : Packing) → IsFed (Holds []) stream messages end → IsCut stream messages end

-- A stream is cut in one way.
abbrev pub OneCut : Type 0
OneCut = (stream : List ℕ) (messages others : List (ℕ × List ℕ)) (end other : Packing) → IsCut stream messages end → IsCut stream others other → (messages ≡ others) × (end ≡ other)

-- What is written is a pack of this serial and payload.
abbrev pub WrittenIsPack : Type 0
WrittenIsPack = (serial : ℕ) (payload : List ℕ) → serial < 2 ^ 32 → length payload ≤ max_bytes → IsPack (pack serial (payload ∷ [])) serial payload
