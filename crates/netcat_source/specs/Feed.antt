-- What a piece does to the present line.
use Rattle.std.specs.Prelude.{◌≡◌, ℕ, ◌+◌, ◌<◌, ◌≤◌, List, [], ◌∷◌, ◌++◌, length, take}
use Rattle.netcat_source.specs.Lines.{IsLine, IsUnbroken}
use Rattle.netcat_source.specs.declared.lines.Cut.{Cut}
use Rattle.netcat_source.specs.declared.lines.Cut.TheVariants.{More, Line, TooLong}

-- what contracts see of a cutter: the present line, and what the last piece brought
pub record LineState : Type 0 where
  pub max : ℕ
  pub line : List ℕ
  pub at : Cut

-- how the present line stands
abbrev pub HoldsLine : ℕ → List ℕ → Cut → Type 0
HoldsLine max line More = IsLine max line
HoldsLine max line Line = IsLine max line
HoldsLine max line TooLong = (length line ≡ max) × IsUnbroken line

-- the bytes since the last newline: after a whole line a new one begins
abbrev pub begun : Cut → List ℕ → List ℕ
begun More line = line
begun Line line = []
begun TooLong line = line

-- the first n bytes of a piece go after the line so far
abbrev pub Takes : ℕ → List ℕ → List ℕ → ℕ → Cut → List ℕ → Type 0
Takes max old piece n More new = (n ≡ length piece) × (old ++ piece ≡ new)
Takes max old piece n Line new = (1 ≤ n) × (n ≤ length piece) × (old ++ take n piece ≡ new ++ 10 ∷ [])
Takes max old piece n TooLong new = (n ≤ length piece) × (old ++ take n piece ≡ new)

pub record Feeds (old : LineState) (piece : List ℕ) (n : ℕ) (cut : Cut) (new : LineState) : Type 0 where
  pub max : new.max ≡ old.max
  pub at : new.at ≡ cut
  pub takes : Takes old.max (begun old.at old.line) piece n cut new.line
  pub holds : HoldsLine old.max new.line cut

-- no line was begun before, and the piece begins with this one and its newline
pub record StandsWhole (lines : LineState) (piece line : List ℕ) : Type 0 where
  pub none : begun lines.at lines.line ≡ []
  pub is : IsLine lines.max line
  pub within : length line < length piece
  pub front : take (length line + 1) piece ≡ line ++ 10 ∷ []
