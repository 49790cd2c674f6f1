-- The pairs of a properties text that count, and what reading answers.
use Rattle.std.specs.Prelude.{◌≡◌, ℕ, ◌+◌, ◌<◌, ◌≤◌, Bool, not, List, [], ◌∷◌, ◌++◌, length, take, filter, find, nat_lt, if◌then◌else◌, Option, Ok, Err}
use Rattle.std.specs.Str.{IsUtf8, bytes_eq}
use Rattle.prop_text.specs.Lines.{logical_lines}
use Rattle.prop_text.specs.Pairs.{Pair, pairs}

abbrev pub same_key : Pair → Pair → Bool
same_key p q = bytes_eq p.key q.key

-- the last of the pairs with the key of p, and p where there is none
abbrev pub last_with_key : Pair → List Pair → Pair
last_with_key p [] = p
last_with_key p (q ∷ qs) = last_with_key (if same_key q p then q else p) qs

-- the last pair of each key, in the order in which the keys first stand
abbrev pub winners : List Pair → List Pair
winners [] = []
winners (p ∷ ps) = last_with_key p ps ∷ filter (λ q. not (same_key q p)) (winners ps)

-- the pair has a value
abbrev pub has_value : Pair → Bool
has_value p = nat_lt 0 (length p.value)

-- the pairs that count: a key whose last value is empty is left out
abbrev pub properties_of : List Pair → List Pair
properties_of ps = filter has_value (winners ps)

-- the pair of a key
abbrev pub lookup : List ℕ → List Pair → Option Pair
lookup key ps = find (λ p. bytes_eq key p.key) ps

-- some text begins with the bytes
abbrev pub BeginsText : List ℕ → Type 0
BeginsText bytes = (rest : List ℕ) × IsUtf8 (bytes ++ rest)

-- the bytes are no text, and the byte at this place is the first that no text goes on with;
-- the place is their length where they end within a character
pub record IsFirstFault (bytes : List ℕ) (at : ℕ) : Type 0 where
  pub no_text : IsUtf8 bytes → ⊥
  pub within : at ≤ length bytes
  pub before : BeginsText (take at bytes)
  pub here : at < length bytes → BeginsText (take (at + 1) bytes) → ⊥

-- the text has these properties
pub record HasProperties (bytes : List ℕ) (found : List Pair) : Type 0 where
  pub all : List Pair
  pub text : IsUtf8 bytes
  pub read : pairs (logical_lines bytes) ≡ Ok all
  pub counted : found ≡ properties_of all

-- the first bad escape of the text is on the logical line with this number
abbrev pub HasBadEscape : List ℕ → ℕ → Type 0
HasBadEscape bytes line = IsUtf8 bytes × (pairs (logical_lines bytes) ≡ Err line)
