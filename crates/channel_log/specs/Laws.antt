-- The law of what a log file holds.
use Rattle.std.specs.Prelude.{◌≡◌, ℕ, List}
use Rattle.channel_log.specs.Frames.{Content, Holds}

-- a file holds one content
abbrev pub HasOneContent : Type 0
HasOneContent = (number : ℕ) (bytes : List ℕ) (a b : Content) → Holds number bytes a → Holds number bytes b → a ≡ b

-- and it holds some content, whatever its bytes
abbrev pub HasSomeContent : Type 0
HasSomeContent = (number : ℕ) (bytes : List ℕ) → (content : Content) × Holds number bytes content
