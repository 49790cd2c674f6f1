-- The words, numbers and truth values that a value is.
use Rattle.std.specs.Prelude.{ℕ, ◌+◌, ◌-◌, ◌*◌, Bool, true, false, ◌||◌, ◌&&◌, List, [], ◌∷◌, length, filter, map, ◌==◌, nat_lt, nat_le, if◌then◌else◌, Option, Some, None, option_and_then, codes}
use Rattle.std.specs.Char.{is_ascii_digit}
use Rattle.std.specs.Str.{bytes_eq, str_eq_ignore_ascii_case}
use Rattle.std.specs.List.{list_any}
use Rattle.prop_text.specs.Lines.{is_white_space, with_front}
use Rattle.prop_text.specs.Pairs.{trim}

-- what stands between white space, empty pieces too
abbrev pub pieces : List ℕ → List (List ℕ)
pieces [] = [] ∷ []
pieces (b ∷ bs) = if is_white_space b then [] ∷ pieces bs else with_front (b ∷ []) (pieces bs)

abbrev pub is_word : List ℕ → Bool
is_word piece = nat_lt 0 (length piece)

-- the words of a list
abbrev pub words : List ℕ → List (List ℕ)
words text = filter is_word (pieces text)

-- the name is among the names
abbrev pub is_among : List ℕ → List (List ℕ) → Bool
is_among name names = list_any (λ other. bytes_eq name other) names

-- each of the names is among the others
abbrev pub all_among : List (List ℕ) → List (List ℕ) → Bool
all_among [] others = true
all_among (name ∷ names) others = is_among name others && all_among names others

-- some name stands twice
abbrev pub has_twice : List (List ℕ) → Bool
has_twice [] = false
has_twice (name ∷ names) = is_among name names || has_twice names

-- the number that the digits are, after those that make the number so far
abbrev pub decimal_behind : ℕ → List ℕ → Option ℕ
decimal_behind number [] = Some number
decimal_behind number (b ∷ bs) = if is_ascii_digit b then decimal_behind (number * 10 + (b - 48)) bs else None

-- a decimal number without sign
abbrev pub decimal : List ℕ → Option ℕ
decimal [] = None
decimal (b ∷ bs) = decimal_behind 0 (b ∷ bs)

-- a number within limits
abbrev pub number_in : ℕ → ℕ → List ℕ → Option ℕ
number_in low high text = option_and_then (λ n. if nat_le low n && nat_le n high then Some n else None) (decimal text)

-- a truth value
abbrev pub truth_of : List ℕ → Option Bool
truth_of text =
    if str_eq_ignore_ascii_case text (codes "true") then Some true
    else (if str_eq_ignore_ascii_case text (codes "false") then Some false else None)

-- what stands between commas
abbrev pub comma_pieces : List ℕ → List (List ℕ)
comma_pieces [] = [] ∷ []
comma_pieces (b ∷ bs) = if b == 44 then [] ∷ comma_pieces bs else with_front (b ∷ []) (comma_pieces bs)

-- a name without the white space beside it, unless that is empty
abbrev pub trimmed_names : List (List ℕ) → List (List ℕ)
trimmed_names pieces = filter is_word (map trim pieces)

-- the names of a list with commas
abbrev pub listed : List ℕ → List (List ℕ)
listed text = trimmed_names (comma_pieces text)
