-- A text that comes in pieces.
use Rattle.std.specs.Prelude.{◌≡◌, ℕ, ◌+◌, List, [], ◌∷◌, ◌++◌, length, drop}
use Rattle.netcat_source.specs.declared.lines.Cut.TheVariants as brings
use Rattle.netcat_source.specs.Lines.{IsLine, IsCut, LinesEnd, Rest, TooLong}
use Rattle.netcat_source.specs.Feed.{LineState, begun, Feeds, StandsWhole}

-- A text that is fed to a cutter: each call gets some front of what is left of the text, and what it took is
-- gone; a line that stands whole in such a front may be passed over with its newline instead. The lines that were
-- brought, and what is after them. Nothing is fed after a line that is too long.
pub data IsFed : LineState → List ℕ → List (List ℕ) → LinesEnd → Type 0 where
  Done : (now : LineState) → IsFed now [] [] Rest
  GoesOn : (before after : LineState) (piece rest : List ℕ) (n : ℕ) (lines : List (List ℕ)) (end : LinesEnd)
      → Feeds before piece n brings.More after → IsFed after (drop n piece ++ rest) lines end
      → IsFed before (piece ++ rest) lines end
  Brings : (before after : LineState) (piece rest : List ℕ) (n : ℕ) (lines : List (List ℕ)) (end : LinesEnd)
      → Feeds before piece n brings.Line after → IsFed after (drop n piece ++ rest) lines end
      → IsFed before (piece ++ rest) (after.line ∷ lines) end
  Passes : (now : LineState) (piece rest line : List ℕ) (lines : List (List ℕ)) (end : LinesEnd)
      → StandsWhole now piece line → IsFed now (drop (length line + 1) piece ++ rest) lines end
      → IsFed now (piece ++ rest) (line ∷ lines) end
  Stops : (before after : LineState) (piece rest : List ℕ) (n : ℕ)
      → Feeds before piece n brings.TooLong after → IsFed before (piece ++ rest) [] TooLong

-- Whatever the pieces, feeding a text from its start brings the lines and the end of the whole.
abbrev pub FeedingCuts : Type 0
FeedingCuts = (start : LineState) (text : List ℕ) (lines : List (List ℕ)) (end : LinesEnd)
    → begun start.at start.line ≡ [] → IsLine start.max [] → IsFed start text lines end
    → IsCut start.max text lines end

-- The same text in any two rows of pieces brings the same lines and the same end.
abbrev pub AnyPieces : Type 0
AnyPieces = (start : LineState) (text : List ℕ) (lines others : List (List ℕ)) (end other : LinesEnd)
    → begun start.at start.line ≡ [] → IsLine start.max []
    → IsFed start text lines end → IsFed start text others other → (lines ≡ others) × (end ≡ other)
