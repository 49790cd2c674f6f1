-- Dates in texts, by a pattern of fields and of bytes that stand for themselves.
use Rattle.std.specs.Prelude.{◌≡◌, ℕ, zero, suc, ◌+◌, ◌-◌, ◌*◌, ◌/◌, ◌%◌, Bool, true, false, not, ◌&&◌, ◌||◌, ◌==◌, nat_le, List, [], ◌∷◌, ◌++◌, length, take, drop, flat_map, fold, codes, Option, Some, None, ℤ, pos, ◌+ℤ◌, ◌*ℤ◌, if◌then◌else◌}
use Rattle.std.specs.List.{list_any, AllByRecursion}
use Rattle.std.specs.Char.{is_ascii_alphabetic, is_ascii_digit}
use Rattle.std.specs.Str.{bytes_eq}
use Rattle.jiff_core.specs.Calendar.{days_in_month, days_from_civil}
use Rattle.regex_steps.specs.declared.civil.Field.{Field}
use Rattle.regex_steps.specs.declared.civil.Field.TheVariants.{Year, Month, Day, Hour, Minute, Second, Millisecond}
use Rattle.regex_steps.specs.declared.civil.CivilTime.{CivilTime}
use Rattle.regex_steps.specs.declared.date_pattern.Part.{Part}
use Rattle.regex_steps.specs.declared.date_pattern.Part.TheVariants as part

-- a field as a pattern has it, a letter for each digit that it stands for
abbrev pub letters : Field → List ℕ
letters Year = codes "yyyy"
letters Month = codes "MM"
letters Day = codes "dd"
letters Hour = codes "HH"
letters Minute = codes "mm"
letters Second = codes "ss"
letters Millisecond = codes "SSS"

-- how many digits it stands for
abbrev pub digit_count : Field → ℕ
digit_count Year = 4
digit_count Month = 2
digit_count Day = 2
digit_count Hour = 2
digit_count Minute = 2
digit_count Second = 2
digit_count Millisecond = 3

-- its number where a pattern has no such field
abbrev pub default : Field → ℕ
default Year = 1970
default Month = 1
default Day = 1
default other = 0

-- its place among the fields
abbrev pub code : Field → ℕ
code Year = 0
code Month = 1
code Day = 2
code Hour = 3
code Minute = 4
code Second = 5
code Millisecond = 6

abbrev pub same : Field → Field → Bool
same f g = code f == code g

abbrev pub is_quote : ℕ → Bool
is_quote c = c == 39

-- neither a letter of ASCII nor a quote
abbrev pub is_plain : ℕ → Bool
is_plain c = not (is_ascii_alphabetic c || is_quote c)

-- a piece of a pattern
pub data Piece : Type 0 where
  -- the digits of a field
  Digits : Field → Piece
  -- a byte that stands for itself
  Plain : ℕ → Piece
  -- a text between two quotes, which stands for itself
  Quoted : List ℕ → Piece

abbrev pub IsPiece : Piece → Type 0
IsPiece (Digits f) = Unit {0}
IsPiece (Plain c) = is_plain c ≡ true
IsPiece (Quoted text) = list_any is_quote text ≡ false

-- the piece as a pattern has it
abbrev pub spelled : Piece → List ℕ
spelled (Digits f) = letters f
spelled (Plain c) = c ∷ []
spelled (Quoted text) = 39 ∷ text ++ 39 ∷ []

abbrev pub is_field : Field → Piece → Bool
is_field f (Digits g) = same f g
is_field f (Plain c) = false
is_field f (Quoted text) = false

-- the field is one of the pieces
abbrev pub has : Field → List Piece → Bool
has f pieces = list_any (is_field f) pieces

-- no field stands twice
abbrev pub are_once : List Piece → Bool
are_once [] = true
are_once (Digits f ∷ pieces) = not (has f pieces) && are_once pieces
are_once (Plain c ∷ pieces) = are_once pieces
are_once (Quoted text ∷ pieces) = are_once pieces

-- the text is a pattern of these pieces
pub record IsPattern (text : List ℕ) (pieces : List Piece) : Type 0 where
  pub is : text ≡ flat_map spelled pieces
  pub right : AllByRecursion IsPiece pieces
  pub once : are_once pieces ≡ true

abbrev pub IsNoDatePattern : List ℕ → Type 0
IsNoDatePattern text = (pieces : List Piece) → IsPattern text pieces → ⊥

-- no piece stands at the front of the text
abbrev pub BeginsNone : List ℕ → Type 0
BeginsNone text = (p : Piece) (rest : List ℕ) → IsPiece p → text ≡ spelled p ++ rest → ⊥

-- the piece is a field that is among the pieces
abbrev pub repeats : List Piece → Piece → Bool
repeats pieces (Digits f) = has f pieces
repeats pieces (Plain c) = false
repeats pieces (Quoted text) = false

abbrev pub piece : Part → Piece
piece (part.Digits f) = Digits f
piece (part.Plain c) = Plain c
piece (part.Quoted text) = Quoted text.items

-- the number of a field
abbrev pub value : CivilTime → Field → ℕ
value t Year = t.year
value t Month = t.month
value t Day = t.day
value t Hour = t.hour
value t Minute = t.minute
value t Second = t.second
value t Millisecond = t.millisecond

-- a number in so many decimal digits, from the last of which it is made
unfoldable pub digits : ℕ → ℕ → List ℕ
digits zero n = []
digits (suc k) n = digits k (n / 10) ++ (48 + n % 10) ∷ []

-- what a piece stands for in the text of a date and time
abbrev pub shown : CivilTime → Piece → List ℕ
shown t (Digits f) = digits (digit_count f) (value t f)
shown t (Plain c) = c ∷ []
shown t (Quoted text) = text

-- how many bytes that takes
abbrev pub width : Piece → ℕ
width (Digits f) = digit_count f
width (Plain c) = 1
width (Quoted text) = length text

-- the number that digits are
abbrev pub number : List ℕ → ℕ
number text = fold (λ n c. n * 10 + (c - 48)) 0 text

-- the number of a field in a text: of the digits after what stands for the pieces before it
abbrev pub value_at : Field → List Piece → List ℕ → ℕ
value_at f [] text = default f
value_at f (p ∷ pieces) text = if is_field f p then number (take (width p) text) else value_at f pieces (drop (width p) text)

abbrev pub civil_in : List Piece → List ℕ → CivilTime
civil_in pieces text = record {
  year = value_at Year pieces text;
  month = value_at Month pieces text;
  day = value_at Day pieces text;
  hour = value_at Hour pieces text;
  minute = value_at Minute pieces text;
  second = value_at Second pieces text;
  millisecond = value_at Millisecond pieces text;
}

-- the calendar has this day
abbrev pub is_day : CivilTime → Bool
is_day t = nat_le t.year 9999 && nat_le 1 t.month && nat_le t.month 12 && nat_le 1 t.day && nat_le t.day (days_in_month (pos t.year) t.month)

-- a day has this time
abbrev pub is_time : CivilTime → Bool
is_time t = nat_le t.hour 23 && nat_le t.minute 59 && nat_le t.second 59

-- the milliseconds since 1970 in UTC
abbrev pub milliseconds : CivilTime → ℤ
milliseconds t = (days_from_civil (pos t.year) t.month t.day *ℤ pos 86_400_000) +ℤ pos (t.hour * 3_600_000 + t.minute * 60_000 + t.second * 1000 + t.millisecond)

-- A text is a date of the pattern where the numbers of its fields are a day and a time that are shown so.
abbrev pub is_date_in : List Piece → List ℕ → Bool
is_date_in pieces text = let t = civil_in pieces text in bytes_eq text (flat_map (shown t) pieces) && is_day t && is_time t

abbrev pub milliseconds_in : List Piece → List ℕ → Option ℤ
milliseconds_in pieces text = if is_date_in pieces text then Some (milliseconds (civil_in pieces text)) else None

-- the time with another number of a field
abbrev pub with_value : CivilTime → Field → ℕ → CivilTime
with_value t Year n = record t { year = n }
with_value t Month n = record t { month = n }
with_value t Day n = record t { day = n }
with_value t Hour n = record t { hour = n }
with_value t Minute n = record t { minute = n }
with_value t Second n = record t { second = n }
with_value t Millisecond n = record t { millisecond = n }

abbrev pub are_digits : List ℕ → Bool
are_digits [] = true
are_digits (c ∷ text) = is_ascii_digit c && are_digits text

-- a piece stands at the front of a text, and its number is the field's
abbrev pub Reads : Piece → List ℕ → List ℕ → CivilTime → CivilTime → Type 0
Reads (Digits f) text rest old new =
    (found : List ℕ) × (text ≡ found ++ rest) × (length found ≡ digit_count f) × (are_digits found ≡ true) × (new ≡ with_value old f (number found))
Reads (Plain c) text rest old new = (text ≡ c ∷ rest) × (new ≡ old)
Reads (Quoted literal) text rest old new = (text ≡ literal ++ rest) × (new ≡ old)

-- a piece does not stand at the front of a text
abbrev pub ReadsNot : Piece → List ℕ → Type 0
ReadsNot p text = (t : CivilTime) (rest : List ℕ) → text ≡ shown t p ++ rest → ⊥
