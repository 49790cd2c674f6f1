-- What a folder of rolled files shows, and what each call does to it.
use Rattle.std.specs.Prelude.{◌≡◌, ℕ, List, [], ◌∷◌, ◌++◌, take, Option, Bool, true, false, Result, MatchResult}
use Rattle.std.specs.Option.{option_map}
use Rattle.flume_host.specs.declared.names.Failed.{Failed}
use Rattle.flume_host.specs.Told.{Tells}

-- A file, by its name.
pub record RollFile : Type 0 where
  pub name : List ℕ
  pub bytes : List ℕ

pub record Rolled : Type 0 where
  -- the files that were begun, in that order
  pub files : List RollFile
  -- all of that was handed on
  pub flushed : Bool
  -- a file was begun, and the last of them gets what is written
  pub begun : Bool
  -- the last call failed
  pub failed : Bool

-- no file has this name
abbrev pub IsNewName : List RollFile → List ℕ → Type 0
IsNewName [] name = Unit {0}
IsNewName (file ∷ files) name = (file.name ≡ name → ⊥) × IsNewName files name

-- the last file got these bytes
pub record GrewBy (bytes : List ℕ) (old new : List RollFile) : Type 0 where
  pub front : List RollFile
  pub last : RollFile
  pub was : old ≡ front ++ last ∷ []
  pub is : new ≡ front ++ record last { bytes = last.bytes ++ bytes } ∷ []

-- A call that failed took nothing. After a begin that failed no file gets what is written.
abbrev pub refused_roll : Bool → Rolled → Rolled
refused_roll begun r = record r { begun = begun; failed = true }

-- a new file, which stands last
pub record Began (name : List ℕ) (old new : Rolled) : Type 0 where
  pub fresh : IsNewName old.files name
  pub is : new ≡ record { files = old.files ++ record { name = name; bytes = [] } ∷ []; flushed = false; begun = true; failed = false }

-- the file that was begun got these bytes
pub record Added (bytes : List ℕ) (old new : Rolled) : Type 0 where
  pub begun : old.begun ≡ true
  pub grew : GrewBy bytes old.files new.files
  pub is : new ≡ record { files = new.files; flushed = false; begun = true; failed = false }

abbrev pub Begins : List ℕ → Result (Unit {0}) Failed → Option Rolled → Option Rolled → Type 0
Begins name result old new = Tells old new (λ r s. MatchResult result (λ _. Began name r s) (λ _. s ≡ refused_roll false r))

abbrev pub Adds : List ℕ → Result ℕ Failed → Option Rolled → Option Rolled → Type 0
Adds bytes result old new = Tells old new (λ r s. MatchResult result (λ n. Added (take n bytes) r s) (λ _. s ≡ refused_roll r.begun r))

abbrev pub HandsOn : Result (Unit {0}) Failed → Option Rolled → Option Rolled → Type 0
HandsOn result old new = Tells old new (λ r s. MatchResult result (λ _. s ≡ record r { flushed = true; failed = false }) (λ _. s ≡ refused_roll r.begun r))

-- what a folder shows when it is opened: no file of it gets what is written
abbrev pub opened : Option Rolled → Option Rolled
opened rolled = option_map (λ (r : Rolled). record r { begun = false; failed = false }) rolled
