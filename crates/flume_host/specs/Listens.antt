-- What a listener and a dialer show of their links.
use Rattle.std.specs.Prelude.{◌≡◌, ℕ, ◌+◌, ◌<◌, length, List, [], ◌∷◌, ◌++◌}
use Rattle.std.specs.Prelude.{Option, Some, None, Bool, true, false}
use Rattle.std.specs.Option.{option_map}
use Rattle.flume_host.specs.Links.{LinkTold, unused}

-- an address as text, and a port
pub record Endpoint : Type 0 where
  pub host : List ℕ
  pub port : ℕ

-- it was handed out for this address and port, where it shows for which
abbrev pub IsFrom : List ℕ → ℕ → Option Endpoint → Type 0
IsFrom host port None = Unit {0}
IsFrom host port (Some endpoint) = (endpoint.host ≡ host) × (endpoint.port ≡ port)

pub record LinksTold : Type 0 where
  -- how many links it gave
  pub given : ℕ
  -- what each told that it took back, in that order
  pub kept : List LinkTold
  -- the last call that was to give one failed
  pub failed : Bool

-- nothing was asked of it
abbrev pub no_links : LinksTold
no_links = record { given = 0; kept = []; failed = false }

-- a call gave a link
abbrev pub gave_one : Option LinksTold → Option LinksTold
gave_one told = option_map (λ (l : LinksTold). record l { given = l.given + 1; failed = false }) told

-- a call found none for a while
abbrev pub gave_none : Option LinksTold → Option LinksTold
gave_none told = option_map (λ (l : LinksTold). record l { failed = false }) told

-- a call failed
abbrev pub refused_link : Option LinksTold → Option LinksTold
refused_link told = option_map (λ (l : LinksTold). record l { failed = true }) told

-- what a new link shows: it does so where the one that gave it does
abbrev pub fresh_from : Option LinksTold → Option LinkTold
fresh_from told = option_map (λ (l : LinksTold). unused) told

-- It took a link back that shows this. What took back a link that doesn't show its contents, shows no more.
abbrev pub kept_in : Option LinksTold → Option LinkTold → Option LinksTold
kept_in None link = None
kept_in (Some l) None = None
kept_in (Some l) (Some t) = Some (record l { kept = l.kept ++ t ∷ [] })

-- it gave more links than it took back, as far as it shows
abbrev pub IsOwed : Option LinksTold → Type 0
IsOwed None = Unit {0}
IsOwed (Some l) = length l.kept < l.given

-- it took back as many links as it gave, as far as it shows
abbrev pub IsSettled : Option LinksTold → Type 0
IsSettled None = Unit {0}
IsSettled (Some l) = length l.kept ≡ l.given
