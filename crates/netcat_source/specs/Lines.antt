-- How a text is cut into lines.
use Rattle.std.specs.Prelude.{◌≡◌, ◌≢◌, ℕ, ◌<◌, ◌≤◌, List, [], ◌∷◌, ◌++◌, length, take, All, flat_map}

-- What `max-line-length` may be. The event of a shorter line has less than 1,048,576 bytes.
abbrev pub IsLineLimit : ℕ → Type 0
IsLineLimit max = (0 < max) × (max ≤ 1_048_568)

-- no byte is a newline
abbrev pub IsUnbroken : List ℕ → Type 0
IsUnbroken bytes = All (λ b. b ≢ 10) bytes

-- what a line may be: fewer than `max` bytes, none a newline
pub record IsLine (max : ℕ) (bytes : List ℕ) : Type 0 where
  pub short : length bytes < max
  pub unbroken : IsUnbroken bytes

-- the lines, each with its newline
abbrev pub ended : List ℕ → List ℕ
ended line = line ++ 10 ∷ []

abbrev pub joined : List (List ℕ) → List ℕ
joined lines = flat_map ended lines

-- at a line's start `max` bytes are there and hold no newline
pub record IsTooLong (max : ℕ) (rest : List ℕ) : Type 0 where
  pub long : max ≤ length rest
  pub unbroken : IsUnbroken (take max rest)

pub data LinesEnd : Type 0 where
  Rest : LinesEnd
  TooLong : LinesEnd

-- what stands after the last line
abbrev pub IsEnd : ℕ → LinesEnd → List ℕ → Type 0
IsEnd max Rest rest = IsLine max rest
IsEnd max TooLong rest = IsTooLong max rest

-- a text is these lines and this end
pub record IsCut (max : ℕ) (bytes : List ℕ) (lines : List (List ℕ)) (end : LinesEnd) : Type 0 where
  pub rest : List ℕ
  pub whole : bytes ≡ joined lines ++ rest
  pub each : All (IsLine max) lines
  pub ends : IsEnd max end rest

-- a text is cut in one way
abbrev pub OneCut : Type 0
OneCut = (max : ℕ) (bytes : List ℕ) (lines others : List (List ℕ)) (end other : LinesEnd)
    → IsCut max bytes lines end → IsCut max bytes others other → (lines ≡ others) × (end ≡ other)
