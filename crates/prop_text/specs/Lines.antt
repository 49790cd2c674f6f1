-- The lines of a properties text, given by its bytes: each character with a meaning of its own is ASCII.
use Rattle.std.specs.Prelude.{ℕ, ◌+◌, ◌-◌, ◌%◌, Bool, ◌||◌, ◌&&◌, List, [], ◌∷◌, ◌++◌, length, take, drop, slice_index, ◌==◌, if◌then◌else◌}
use Rattle.std.specs.List.{prefix_len, suffix_len}

-- space, tab and form feed
abbrev pub is_white_space : ℕ → Bool
is_white_space b = b == 32 || b == 9 || b == 12

-- the text without the white space at its start
abbrev pub trim_start : List ℕ → List ℕ
trim_start text = drop (prefix_len is_white_space text) text

-- the bytes, at the front of the first line
abbrev pub with_front : List ℕ → List (List ℕ) → List (List ℕ)
with_front front [] = front ∷ []
with_front front (line ∷ lines) = (front ++ line) ∷ lines

-- Natural lines. One ends at a newline, at a carriage return, or at a carriage return and the newline after it.
abbrev pub natural_lines : List ℕ → List (List ℕ)
natural_lines [] = [] ∷ []
natural_lines (b ∷ bs) =
    if b == 13 && slice_index bs 0 == 10 then natural_lines bs
    else (if b == 10 || b == 13 then [] ∷ natural_lines bs else with_front (b ∷ []) (natural_lines bs))

-- the length of the line end at the front, or 0
abbrev pub end_len : List ℕ → ℕ
end_len [] = 0
end_len (b ∷ bs) = if b == 13 && slice_index bs 0 == 10 then 2 else (if b == 10 || b == 13 then 1 else 0)

-- the line ends in an odd number of backslashes, so the next natural line continues it
abbrev pub goes_on : List ℕ → Bool
goes_on line = suffix_len (λ b. b == 92) line % 2 == 1

-- a line of white space alone, and a comment, once the white space at the start is gone
abbrev pub is_skipped : List ℕ → Bool
is_skipped line = length line == 0 || slice_index line 0 == 35 || slice_index line 0 == 33

-- a logical line, and the number of its first natural line, from 1
pub record Line : Type 0 where
  pub number : ℕ
  pub text : List ℕ

-- what some natural lines come to, whether the first of them begins a logical line or continues one
pub record Reading : Type 0 where
  -- the logical lines, where the first natural line begins one
  pub begun : List Line
  -- where it continues a logical line: what it and those after it add to that one, and the logical lines after that
  pub added : List ℕ
  pub behind : List Line

abbrev pub with_line : ℕ → List ℕ → Reading → Reading
with_line number line rest =
    let own = trim_start line in
    let added = if goes_on own then take (length own - 1) own ++ rest.added else own in
    let behind = if goes_on own then rest.behind else rest.begun in
    record {
      begun = if is_skipped own then rest.begun else record { number = number; text = added } ∷ behind;
      added = added;
      behind = behind;
    }

-- each natural line is read in both ways
abbrev pub reading : ℕ → List (List ℕ) → Reading
reading number [] = record { begun = []; added = []; behind = [] }
reading number (line ∷ lines) = with_line number line (reading (number + 1) lines)

-- Logical lines, of the natural lines of a text.
abbrev pub logical_lines : List ℕ → List Line
logical_lines text = (reading 1 (natural_lines text)).begun
