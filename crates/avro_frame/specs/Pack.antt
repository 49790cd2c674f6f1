-- A pack: a serial, a number of buffers, and each buffer after its length.
use Rattle.std.specs.Prelude.{◌≡◌, ℕ, ◌+◌, ◌^◌, ◌<◌, ◌≤◌, List, ◌++◌, length}
use Rattle.std.specs.List.{flat_map}
use Rattle.std.specs.Int.{w32, to_be_bytes}

-- a number in four bytes, the highest first
unfoldable pub u32_bytes : ℕ → List ℕ
u32_bytes n = to_be_bytes w32 n

-- the most buffers, and the most bytes in all of them
abbrev pub max_buffers : ℕ
max_buffers = 65536

abbrev pub max_bytes : ℕ
max_bytes = 67108864

-- the most bytes of room that are kept between packs
abbrev pub room_kept : ℕ
room_kept = 65536

abbrev pub head : ℕ → ℕ → List ℕ
head serial count = u32_bytes serial ++ u32_bytes count

-- a buffer after its length
abbrev pub buffer : List ℕ → List ℕ
buffer bytes = u32_bytes (length bytes) ++ bytes

abbrev pub joined : List (List ℕ) → List ℕ
joined buffers = flat_map (λ bytes. bytes) buffers

abbrev pub pack : ℕ → List (List ℕ) → List ℕ
pack serial buffers = head serial (length buffers) ++ flat_map buffer buffers

-- what stands before the bytes of a pack of one buffer whose length is still to come
abbrev pub begun : ℕ → List ℕ
begun serial = head serial 1 ++ u32_bytes 0

-- the bytes are a pack within the limits, with this serial and payload
pub record IsPack (bytes : List ℕ) (serial : ℕ) (payload : List ℕ) : Type 0 where
  pub buffers : List (List ℕ)
  pub whole : bytes ≡ pack serial buffers
  pub joins : payload ≡ joined buffers
  pub serial_fits : serial < 2 ^ 32
  pub few : length buffers ≤ max_buffers
  pub small : length payload ≤ max_bytes

-- whole buffers of a pack of `count` buffers, within the limits, and then the rest
pub record Begins (bytes : List ℕ) (serial count : ℕ) (buffers : List (List ℕ)) (rest : List ℕ) : Type 0 where
  pub whole : bytes ≡ head serial count ++ (flat_map buffer buffers ++ rest)
  pub serial_fits : serial < 2 ^ 32
  pub few : count ≤ max_buffers
  pub lacking : length buffers < count
  pub small : length (joined buffers) ≤ max_bytes

-- less than a whole pack, within the limits as far as it shows
pub data IsPart (bytes : List ℕ) : Type 0 where
  -- the number of buffers is still to come
  InHead : length bytes < 8 → IsPart bytes
  -- a buffer's length is still to come
  InLength : (serial count : ℕ) (buffers : List (List ℕ)) (rest : List ℕ) → Begins bytes serial count buffers rest → length rest < 4 → IsPart bytes
  -- bytes of a buffer are still to come
  InBuffer : (serial count : ℕ) (buffers : List (List ℕ)) (len : ℕ) (rest : List ℕ) → Begins bytes serial count buffers (u32_bytes len ++ rest) → len < 2 ^ 32 → length rest < len → length (joined buffers) + len ≤ max_bytes → IsPart bytes

-- the pack that begins so has n buffers, too many
pub record PassesCount (bytes : List ℕ) (n : ℕ) : Type 0 where
  pub serial : ℕ
  pub rest : List ℕ
  pub whole : bytes ≡ head serial n ++ rest
  pub serial_fits : serial < 2 ^ 32
  pub fits : n < 2 ^ 32
  pub many : max_buffers < n

-- the pack that begins so has a buffer whose length makes the sum n, too large
pub record PassesSize (bytes : List ℕ) (n : ℕ) : Type 0 where
  pub serial : ℕ
  pub count : ℕ
  pub buffers : List (List ℕ)
  pub len : ℕ
  pub rest : List ℕ
  pub begun : Begins bytes serial count buffers (u32_bytes len ++ rest)
  pub fits : len < 2 ^ 32
  pub sum : n ≡ length (joined buffers) + len
  pub large : max_bytes < n

-- No pack begins another, so a stream is cut in one way.
abbrev pub OnePack : Type 0
OnePack = (a b x y : List ℕ) (m n : ℕ) (p q : List ℕ) → IsPack a m p → IsPack b n q → a ++ x ≡ b ++ y → (a ≡ b) × (m ≡ n) × (p ≡ q)

-- What is less than a pack has none at its front.
abbrev pub NoPackInPart : Type 0
NoPackInPart = (a x : List ℕ) (m : ℕ) (p : List ℕ) → IsPack a m p → IsPart (a ++ x) → ⊥

-- What passes a limit has no pack at its front.
abbrev pub NoPackInLarge : Type 0
NoPackInLarge = (a x : List ℕ) (m n : ℕ) (p : List ℕ) → IsPack a m p → (PassesCount (a ++ x) n → ⊥) × (PassesSize (a ++ x) n → ⊥)
