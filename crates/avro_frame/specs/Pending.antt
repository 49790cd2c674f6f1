-- How far the present pack was read.
use Rattle.std.specs.Prelude.{◌≡◌, ℕ, ◌+◌, ◌^◌, ◌<◌, ◌≤◌, List, [], ◌++◌, length, Option, Some, None}
use Rattle.std.specs.List.{flat_map}
use Rattle.avro_frame.specs.declared.pending.Due.{Due}
use Rattle.avro_frame.specs.declared.pending.Due.TheVariants.{Head, Length, End}
use Rattle.avro_frame.specs.declared.pending.Cursor.{Cursor}
use Rattle.avro_frame.specs.declared.pending.Step.{Step}
use Rattle.avro_frame.specs.declared.pending.Step.TheVariants.{More, Ends, Passes}
use Rattle.avro_frame.specs.declared.packs.PackRefused.{PackRefused}
use Rattle.avro_frame.specs.declared.packs.PackRefused.TheVariants.{TooMany, TooLarge, NoMemory}
use Rattle.avro_frame.specs.Pack.{u32_bytes, head, buffer, joined, pack, max_buffers, max_bytes, IsPart, PassesCount, PassesSize}

-- the buffer whose length was read last, if there is one
abbrev pub opening : Option ℕ → List ℕ
opening None = []
opening (Some len) = u32_bytes len

abbrev pub opened_count : Option ℕ → ℕ
opened_count None = 0
opened_count (Some len) = 1

abbrev pub opened_len : Option ℕ → ℕ
opened_len None = 0
opened_len (Some len) = len

-- After the head: whole buffers, the opened one, and `left` more. The next step is due after the opened one's bytes and `ahead` more.
pub record InBuffers (held : List ℕ) (need sum left ahead : ℕ) : Type 0 where
  pub serial : ℕ
  pub buffers : List (List ℕ)
  pub opened : Option ℕ
  pub part : List ℕ
  pub whole : held ≡ head serial (length buffers + opened_count opened + left) ++ (flat_map buffer buffers ++ (opening opened ++ part))
  pub due : need + length part ≡ length held + (opened_len opened + ahead)
  pub within : length part ≤ opened_len opened + ahead
  pub sum_is : sum ≡ length (joined buffers) + opened_len opened
  pub serial_fits : serial < 2 ^ 32
  pub few : length buffers + opened_count opened + left ≤ max_buffers
  pub small : sum ≤ max_bytes

-- where the next step is due
abbrev pub IsDue : List ℕ → ℕ → ℕ → Due → Type 0
IsDue held need sum Head = (need ≡ 8) × (sum ≡ 0) × (length held ≤ 8)
IsDue held need sum (Length left) = InBuffers held need sum left 4 × (0 < left)
IsDue held need sum End = InBuffers held need sum 0 0

abbrev pub IsAt : List ℕ → Cursor → Type 0
IsAt held c = IsDue held c.need c.sum c.due

-- the bytes are a whole pack
pub record IsEnded (held : List ℕ) : Type 0 where
  pub serial : ℕ
  pub buffers : List (List ℕ)
  pub whole : held ≡ pack serial buffers
  pub serial_fits : serial < 2 ^ 32
  pub few : length buffers ≤ max_buffers
  pub small : length (joined buffers) ≤ max_bytes

-- no step is due, but where the pack ends here
abbrev pub IsBehind : List ℕ → ℕ → Due → Type 0
IsBehind held need Head = length held < need
IsBehind held need (Length left) = length held < need
IsBehind held need End = length held ≤ need

abbrev pub PassesLimit : List ℕ → PackRefused → Type 0
PassesLimit held (TooMany n) = PassesCount held n
PassesLimit held (TooLarge n) = PassesSize held n
PassesLimit held NoMemory = ⊥

-- what a step brings at bytes up to the place where it is due
abbrev pub Steps : List ℕ → Due → Step → Cursor → Type 0
Steps held Head More new = IsAt held new × IsBehind held new.need new.due
Steps held (Length left) More new = IsAt held new × IsBehind held new.need new.due
Steps held End More new = ⊥
Steps held due Ends new = IsEnded held
Steps held due (Passes e) new = PassesLimit held e

-- what a piece brings: all of it was taken, or the pack ends after its first n bytes, or a limit is passed
abbrev pub Fills : List ℕ → List ℕ → ℕ → Step → List ℕ → Cursor → Type 0
Fills old piece n More new c = (n ≡ length piece) × IsAt new c × IsBehind new c.need c.due × IsPart new
Fills old piece n Ends new c = IsEnded new
Fills old piece n (Passes e) new c = PassesLimit new e
