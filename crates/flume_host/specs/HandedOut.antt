-- The listeners and dialers that a host handed out and took back.
use Rattle.std.specs.Prelude.{◌≡◌, ◌<◌, ℕ, ◌+◌, List, [], ◌∷◌, ◌++◌}
use Rattle.std.specs.Prelude.{Option, Some, None, Result, Ok, Err, Bool, true, false}
use Rattle.std.specs.Option.{option_map}
use Rattle.flume_host.specs.Causes.{Rose}
use Rattle.flume_host.specs.Told.{Tells}
use Rattle.flume_host.specs.Listens.{Endpoint, LinksTold, no_links}
use Rattle.flume_host.specs.declared.names.NameRefused.{NameRefused}
use Rattle.flume_host.specs.declared.names.NameRefused.TheVariants.{Failed, NoMemory}

-- One that came back: a listener at this address and port, or a dialer of them, what it told then of its links, and how
-- often it had waited and failed. A dialer waits for nobody.
pub record CameBack : Type 0 where
  pub host : List ℕ
  pub port : ℕ
  pub told : Option LinksTold
  pub waits : ℕ
  pub faults : ℕ

-- The listeners of a host, or its dialers.
pub record HandedOut : Type 0 where
  -- how many are out, by address and port
  pub out : List ℕ → ℕ → ℕ
  -- those that came back, in that order
  pub back : List CameBack

-- one more of this address and port is out
pub record GoesOut (host : List ℕ) (port : ℕ) (old new : HandedOut) : Type 0 where
  pub more : new.out host port ≡ old.out host port + 1
  pub others : (h : List ℕ) (p : ℕ) → ((h ≡ host) × (p ≡ port) → ⊥) → new.out h p ≡ old.out h p
  pub back : new.back ≡ old.back

-- this one came back
pub record ComesBack (one : CameBack) (old new : HandedOut) : Type 0 where
  pub fewer : old.out one.host one.port ≡ new.out one.host one.port + 1
  pub others : (h : List ℕ) (p : ℕ) → ((h ≡ one.host) × (p ≡ one.port) → ⊥) → new.out h p ≡ old.out h p
  pub back : new.back ≡ old.back ++ one ∷ []

-- a call with this answer hands one out, or none where it is refused
abbrev pub HandsOut : {T E : Type 0} → Result T E → List ℕ → ℕ → Option HandedOut → Option HandedOut → Type 0
HandsOut (Ok one) host port old new = Tells old new (GoesOut host port)
HandsOut (Err refused) host port old new = new ≡ old

-- one is taken back
abbrev pub TakesBack : CameBack → Option HandedOut → Option HandedOut → Type 0
TakesBack one old new = Tells old new (ComesBack one)

-- what is handed out shows its contents, where the host shows it, and gave no links yet
abbrev pub fresh_links : Option HandedOut → Option LinksTold
fresh_links told = option_map (λ (all : HandedOut). no_links) told

-- and it knows its address and port
abbrev pub endpoint_of : List ℕ → ℕ → Option HandedOut → Option Endpoint
endpoint_of host port told = option_map (λ (all : HandedOut). record { host = host; port = port }) told

-- one of this address and port is out, where the host shows it
abbrev pub IsOut : List ℕ → ℕ → Option HandedOut → Type 0
IsOut host port None = Unit {0}
IsOut host port (Some all) = 0 < all.out host port

-- the host's count of faults rose where a fault is answered, and is as before where none is
abbrev pub FaultsBy : {T : Type 0} → Result T NameRefused → ℕ → ℕ → Type 0
FaultsBy (Ok one) before now = now ≡ before
FaultsBy (Err Failed) before now = Rose before now
FaultsBy (Err NoMemory) before now = now ≡ before

-- the text is the address where that was asked for, and else the name, where they are told
abbrev pub Names : Bool → Option (List ℕ) → Option (List ℕ) → List ℕ → Type 0
Names true name address text = (told : List ℕ) → address ≡ Some told → text ≡ told
Names false name address text = (told : List ℕ) → name ≡ Some told → text ≡ told
