-- Single words.
use Rattle.std.specs.Prelude.{◌≡◌, ◌≢◌, ◌≤◌, ◌||◌, if◌then◌else◌, ℕ, List, [], ◌∷◌, map, take, slice_index, codes, Option, Some, None, String, string_bytes}
use Rattle.std.specs.Str.{bytes_eq}
use Rattle.std.specs.Str.Parse.{IsNumeral, digits_value}
use Rattle.std.specs.declared.alloc.Global.{Global}
use Rattle.agent_words.specs.declared.flag.Flag.{Flag}
use Rattle.agent_words.specs.declared.flag.Flag.TheVariants.{Name, File, Folder, Define}

abbrev pub texts : List (String Global) → List (List ℕ)
texts words = map string_bytes words

-- a name isn't empty and doesn't begin with `-`
abbrev pub IsName : List ℕ → Type 0
IsName [] = ⊥
IsName (b ∷ bytes) = b ≢ 45

-- decimal without sign or leading zero, from 1 to 1,000,000
pub record IsCount (text : List ℕ) (n : ℕ) : Type 0 where
  pub digits : IsNumeral 10 text
  pub no_leading_zero : slice_index text 0 ≢ 48
  pub value : n ≡ digits_value 10 text
  pub least : 1 ≤ n
  pub most : n ≤ 1_000_000

-- the option that a word begins
abbrev pub flag_of : List ℕ → Option Flag
flag_of word =
    if bytes_eq word (codes "-n") || bytes_eq word (codes "--name") then Some Name
    else if bytes_eq word (codes "-f") || bytes_eq word (codes "--conf-file") then Some File
    else if bytes_eq word (codes "-c") || bytes_eq word (codes "--conf") then Some Folder
    else if bytes_eq (take 2 word) (codes "-D") then Some Define
    else None
