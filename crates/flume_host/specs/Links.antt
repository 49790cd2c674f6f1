-- What a link shows, and what each call does to it.
use Rattle.std.specs.Prelude.{◌≡◌, ℕ, ◌+◌, ◌^◌, ◌≤◌, ◌<◌, List, [], ◌++◌, length, take, Option, Bool, true, false}
use Rattle.std.specs.Prelude.{Result, Ok, Err, MatchResult}
use Rattle.flume_host.specs.Causes.{Rose}
use Rattle.flume_host.specs.Told.{Tells}
use Rattle.flume_host.specs.declared.names.Failed.{Failed}
use Rattle.flume_host.specs.declared.link.LinkRead.{LinkRead}
use Rattle.flume_host.specs.declared.link.LinkRead.TheVariants.{Got, End, Quiet}

-- What a link shows of all its calls.
pub record LinkTold : Type 0 where
  -- all that its reads gave, and all that its writes took
  pub gave : List ℕ
  pub took : List ℕ
  -- how many reads gave bytes, how many waited in vain, and how many found the end
  pub pieces : ℕ
  pub quiets : ℕ
  pub ends : ℕ
  -- the last call failed
  pub failed : Bool

-- a link of which nothing was asked
abbrev pub unused : LinkTold
unused = record { gave = []; took = []; pieces = 0; quiets = 0; ends = 0; failed = false }

-- what a read brought has room, and is not empty
abbrev pub FitsIn : LinkRead → ℕ → Type 0
FitsIn (Got n) room = (1 ≤ n) × (n ≤ room)
FitsIn End room = Unit {0}
FitsIn Quiet room = Unit {0}

-- the count of waits did not fall, and rose where nothing came
abbrev pub CountsWait : Result LinkRead Failed → ℕ → ℕ → Type 0
CountsWait (Ok (Got n)) before now = before ≤ now
CountsWait (Ok End) before now = before ≤ now
CountsWait (Ok Quiet) before now = Rose before now
CountsWait (Err failed) before now = before ≤ now

-- a call that failed gave nothing and took nothing
abbrev pub broke : LinkTold → LinkTold
broke t = record t { failed = true }

-- a read brought this, and left these bytes in what it read into
abbrev pub heard : LinkRead → List ℕ → LinkTold → LinkTold
heard (Got n) into t = record t { gave = t.gave ++ take n into; pieces = t.pieces + 1; failed = false }
heard End into t = record t { ends = t.ends + 1; failed = false }
heard Quiet into t = record t { quiets = t.quiets + 1; failed = false }

-- a write took these bytes
abbrev pub wrote : List ℕ → LinkTold → LinkTold
wrote bytes t = record t { took = t.took ++ bytes; failed = false }

-- a read with this answer, which left these bytes in what it read into
abbrev pub Hears : Result LinkRead Failed → List ℕ → Option LinkTold → Option LinkTold → Type 0
Hears result into old new =
    Tells old new (λ t u. MatchResult result (λ read. u ≡ heard read into t) (λ _. u ≡ broke t))

-- a write of these bytes with this answer
abbrev pub Sends : Result ℕ Failed → List ℕ → Option LinkTold → Option LinkTold → Type 0
Sends result bytes old new =
    Tells old new (λ t u. MatchResult result (λ n. u ≡ wrote (take n bytes) t) (λ _. u ≡ broke t))

-- From the one to the other its reads gave these bytes, its writes took these, so many reads gave bytes or waited in vain,
-- and so many found the end.
pub record TalksTo (found : ℕ) (given taken : List ℕ) (turns : ℕ) (t u : LinkTold) : Type 0 where
  pub gave : u.gave ≡ t.gave ++ given
  pub took : u.took ≡ t.took ++ taken
  pub count : u.pieces + u.quiets ≡ t.pieces + t.quiets + turns
  pub ends : u.ends ≡ t.ends + found

-- the same, and no read found the end
abbrev pub Talks : (given taken : List ℕ) (turns : ℕ) (t u : LinkTold) → Type 0
Talks = TalksTo 0

-- so many more reads waited in vain
abbrev pub Waited : ℕ → LinkTold → LinkTold → Type 0
Waited quiets t u = u.quiets ≡ t.quiets + quiets

-- the last call failed
abbrev pub FailedLast : Option LinkTold → Option LinkTold → Type 0
FailedLast told now = Tells told now (λ t u. u.failed ≡ true)

-- a write of these bytes failed: a part of them was sent
pub record BreaksOff (bytes : List ℕ) (told now : Option LinkTold) : Type 0 where
  pub count : ℕ
  pub short : count < length bytes
  pub talk : Tells told now (Talks [] (take count bytes) 0)
  pub failed : FailedLast told now

-- the most turns of a session, and of a delivery: reads that gave bytes or waited in vain
abbrev pub most_turns : ℕ
most_turns = 2 ^ 40
