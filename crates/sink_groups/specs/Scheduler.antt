-- The scheduler of a group: which members a delivery tries, and what a success or a failure changes.
use Rattle.std.specs.Prelude.{◌≡◌, ℕ, ◌+◌, ◌*◌, ◌^◌, ◌%◌, min, nat_le, List, ◌++◌, [], length, replicate, ◌<◌, ◌≤◌, take, drop, slice_index_or, slice_set, Bool, true, false, if◌then◌else◌}
use Rattle.std.specs.List.{All, filter}
use Rattle.sink_groups.specs.Ranking.{IsRanking}
pub use Rattle.sink_groups.specs.declared.standing.Standing.{Standing}
use Rattle.sink_groups.specs.declared.rules.GroupKind.{GroupKind}
use Rattle.sink_groups.specs.declared.rules.GroupKind.TheVariants.{Single, Failover, RoundRobin, Random}

pub record Group : Type 0 where
  pub kind : GroupKind
  -- the most milliseconds for which a member is left alone
  pub penalty : ℕ
  pub backoff : Bool
  -- the members in the order in which they are tried where none is left alone
  pub ranking : List ℕ
  -- the standing of each member
  pub members : List Standing
  -- the place in the ranking at which the next delivery by round robin starts
  pub turn : ℕ
  -- the members that this delivery is still to try
  pub due : List ℕ

-- a member that has not failed yet
abbrev pub fresh : Standing
fresh = record { failures = 0; until = 0 }

-- whether members that failed are left alone for a time
abbrev pub cools : GroupKind → Bool → Bool
cools Single backoff = false
cools Failover backoff = true
cools RoundRobin backoff = backoff
cools Random backoff = backoff

-- the member has failed once more: it is left alone for twice as long as the last time, and at most for the penalty
abbrev pub failed : ℕ → ℕ → Standing → Standing
failed penalty now s = let failures = min (s.failures + 1) 32 in record { failures = failures; until = now + min penalty (1000 * 2 ^ failures) }

-- it took a batch
abbrev pub succeeded : Standing → Standing
succeeded s = record s { failures = 0 }

abbrev pub standing_after : Bool → ℕ → ℕ → Standing → Standing
standing_after true penalty now s = succeeded s
standing_after false penalty now s = failed penalty now s

abbrev pub standing_of : List Standing → ℕ → Standing
standing_of members member = slice_index_or members member fresh

-- the members with what a report changes of this one
abbrev pub with_standing : List Standing → ℕ → (Standing → Standing) → List Standing
with_standing members member change = slice_set members member (change (standing_of members member))

-- The group after it was told whether a member took a batch. Where no member is ever left alone nothing is kept.
abbrev pub reported : Group → ℕ → Bool → ℕ → Group
reported g member ok now =
    if cools g.kind g.backoff then record g { members = with_standing g.members member (standing_after ok g.penalty now) } else g

-- whether a member is tried at this moment
abbrev pub is_due : List Standing → ℕ → ℕ → Bool
is_due members now member = nat_le (standing_of members member).until now

-- the place in the ranking at which a delivery starts, by the turn of round robin or by chance
abbrev pub start_by : GroupKind → ℕ → ℕ → ℕ
start_by Single turn chance = 0
start_by Failover turn chance = 0
start_by RoundRobin turn chance = turn
start_by Random turn chance = chance

abbrev pub start_of : Group → ℕ → ℕ
start_of g draw = start_by g.kind g.turn (draw % length g.ranking)

-- the members that a delivery tries, in order: all that are not left alone at this moment, each once, from its start on
abbrev pub order : Group → ℕ → ℕ → List ℕ
order g now draw = let start = start_of g draw in filter (is_due g.members now) (drop start g.ranking ++ take start g.ranking)

-- round robin starts one place later each time
abbrev pub turn_after : GroupKind → ℕ → ℕ → ℕ
turn_after RoundRobin turn count = (turn + 1) % count
turn_after kind turn count = turn

-- a delivery begins
abbrev pub started : Group → ℕ → ℕ → Group
started g now draw = record g { due = order g now draw; turn = turn_after g.kind g.turn (length g.ranking) }

-- no member has failed yet, and no delivery was begun
pub record IsNew (kind : GroupKind) (priorities : List ℕ) (penalty : ℕ) (backoff : Bool) (g : Group) : Type 0 where
  pub rules : (g.kind ≡ kind) × (g.penalty ≡ penalty) × (g.backoff ≡ backoff)
  pub ranking : IsRanking kind priorities g.ranking
  pub members : g.members ≡ replicate (length priorities) fresh
  pub turn : g.turn ≡ 0
  pub due : g.due ≡ []

-- what a scheduler keeps true of its lists
pub record IsSchedule (ranking : List ℕ) (members : List Standing) (turn : ℕ) (order : List ℕ) (room : ℕ) : Type 0 where
  pub some : 0 < length members
  pub each : length ranking ≡ length members
  pub within : All (λ member. member < length members) ranking
  pub starts : turn < length members
  pub ordered : All (λ member. member < length members) order
  pub fits : length members ≤ room
