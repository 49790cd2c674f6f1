-- The pairs of a properties text: a key and a value for each logical line.
use Rattle.std.specs.Prelude.{ℕ, zero, suc, ◌+◌, ◌-◌, ◌*◌, Bool, ◌||◌, ◌&&◌, List, [], ◌∷◌, ◌++◌, length, take, drop, slice_index, ◌==◌, nat_lt, nat_le, if◌then◌else◌, Option, Some, None, option_and_then, option_map, Result, Ok, Err, encode_utf8}
use Rattle.std.specs.Char.{digit_value}
use Rattle.std.specs.List.{suffix_len}
use Rattle.prop_text.specs.Lines.{is_white_space, trim_start, Line}

-- a key and its value, and the number of the first line that they stand on
pub record Pair : Type 0 where
  pub key : List ℕ
  pub value : List ℕ
  pub line : ℕ

-- what ends a key, where no backslash stands before it
abbrev pub ends_key : ℕ → Bool
ends_key b = b == 61 || b == 58 || is_white_space b

-- the length of a line's key as it is spelled: a backslash keeps the byte after it in the key
abbrev pub key_len : List ℕ → ℕ
key_len [] = 0
key_len (b ∷ []) = if ends_key b then 0 else 1
key_len (b ∷ c ∷ bs) = if ends_key b then 0 else (if b == 92 then 2 + key_len bs else 1 + key_len (c ∷ bs))

-- how many bytes of a key go together: a backslash and the byte after it, or one
abbrev pub key_step : List ℕ → ℕ
key_step [] = 0
key_step (b ∷ []) = 1
key_step (b ∷ c ∷ bs) = if b == 92 then 2 else 1

-- white space, at most one `=` or `:`, and white space
abbrev pub past_separator : List ℕ → List ℕ
past_separator rest =
    let mark = trim_start rest in
    if slice_index mark 0 == 61 || slice_index mark 0 == 58 then trim_start (drop 1 mark) else mark

-- the digit at a place, which is hexadecimal where it is below 16
abbrev pub digit_at : List ℕ → ℕ → ℕ
digit_at bs place = digit_value (slice_index bs place)

-- the number that four hexadecimal digits at the front are
abbrev pub hex_number : List ℕ → Option ℕ
hex_number bs =
    if nat_lt (digit_at bs 0) 16 && nat_lt (digit_at bs 1) 16 && nat_lt (digit_at bs 2) 16 && nat_lt (digit_at bs 3) 16
    then Some (digit_at bs 0 * 4096 + digit_at bs 1 * 256 + digit_at bs 2 * 16 + digit_at bs 3) else None

-- a high half of a surrogate pair, and a low one
abbrev pub is_high : ℕ → Bool
is_high unit = nat_le 0xD800 unit && nat_lt unit 0xDC00

abbrev pub is_low : ℕ → Bool
is_low unit = nat_le 0xDC00 unit && nat_lt unit 0xE000

-- the character that a pair spells
abbrev pub pair_char : ℕ → ℕ → ℕ
pair_char high low = 0x1_0000 + (high - 0xD800) * 1024 + (low - 0xDC00)

-- after a high half: `\u` and a low one, which spell a character with it
abbrev pub low_half : ℕ → List ℕ → Option (List ℕ × ℕ)
low_half high bs =
    if slice_index bs 0 == 92 && slice_index bs 1 == 117
    then option_and_then (λ low. if is_low low then Some (encode_utf8 (pair_char high low), 11) else None) (hex_number (drop 2 bs))
    else None

-- after `\u`: four digits, which spell a character unless they are half a pair
abbrev pub unicode_escape : List ℕ → Option (List ℕ × ℕ)
unicode_escape bs = option_and_then (λ unit.
    if is_high unit then low_half unit (drop 4 bs)
    else (if is_low unit then None else Some (encode_utf8 unit, 5))) (hex_number bs)

-- what a letter after a backslash stands for
abbrev pub letter : ℕ → ℕ
letter c = if c == 116 then 9 else (if c == 110 then 10 else (if c == 114 then 13 else (if c == 102 then 12 else c)))

-- After a backslash: what the escape spells, and how many bytes it takes. A logical line ends in no single backslash.
abbrev pub escape : List ℕ → Option (List ℕ × ℕ)
escape [] = Some ([], 0)
escape (c ∷ bs) = if c == 117 then unicode_escape bs else Some (letter c ∷ [], 1)

-- What a spelling stands for, or `None` where an escape is bad. The number says how many bytes of the last escape are still to pass.
abbrev pub unescaped : ℕ → List ℕ → Option (List ℕ)
unescaped passing [] = Some []
unescaped (suc passing) (b ∷ bs) = unescaped passing bs
unescaped zero (b ∷ bs) =
    if b == 92 then option_and_then (λ spelled. option_map (λ rest. spelled.0 ++ rest) (unescaped spelled.1 bs)) (escape bs)
    else option_map (λ rest. b ∷ rest) (unescaped zero bs)

-- the text without the white space at its end, and at both ends
abbrev pub trim_end : List ℕ → List ℕ
trim_end text = take (length text - suffix_len is_white_space text) text

abbrev pub trim : List ℕ → List ℕ
trim text = trim_end (trim_start text)

-- the pair of a logical line, or `None` where an escape is bad
abbrev pub pair_of : Line → Option Pair
pair_of l =
    option_and_then (λ key. option_map (λ value. record { key = trim key; value = trim value; line = l.number })
    (unescaped 0 (past_separator (drop (key_len l.text) l.text))))
    (unescaped 0 (take (key_len l.text) l.text))

-- the pairs, with that of one line before them; the fault of an earlier line counts
abbrev pub with_pair : ℕ → Option Pair → Result (List Pair) ℕ → Result (List Pair) ℕ
with_pair line None rest = Err line
with_pair line (Some p) (Ok ps) = Ok (p ∷ ps)
with_pair line (Some p) (Err later) = Err later

-- Pairs of the logical lines, or the number of the first line with a bad escape.
abbrev pub pairs : List Line → Result (List Pair) ℕ
pairs [] = Ok []
pairs (l ∷ ls) = with_pair l.number (pair_of l) (pairs ls)
