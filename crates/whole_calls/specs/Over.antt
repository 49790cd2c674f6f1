-- Transactions that are open no more.
use Rattle.std.specs.Prelude.{◌≡◌, ℕ, List, [], ◌∷◌, Bool, true, None, Ok}
use Rattle.std.specs.List.{AllByRecursion}
use Rattle.channel_face.specs.Faces.{Own}
use Rattle.channel_face.specs.History.{IsRun, opening}
use Rattle.channel_face.specs.Machine.{BeginPut, BeginTake, Call, State, puts_of, takes_of}
use Rattle.shared_channel.specs.Calls.{state_seen}
use Rattle.shared_channel.specs.Ports.{own_calls}
use Rattle.channel_lock.specs.Calls.{Below, has}
use Rattle.channel_lock.specs.Turns.{Has, HasAll}
use Rattle.channel_lock.specs.Views.{View, part}

-- the transaction that a call began, if any, is open no more in this state
abbrev pub IsOver : State → Call → Type 0
IsOver s (BeginPut (Ok token)) = puts_of s token ≡ None
IsOver s (BeginTake (Ok token)) = takes_of s token ≡ None
IsOver s call = Unit {0}

-- each that these calls began
abbrev pub AreOver : State → List Own → Type 0
AreOver s own = AllByRecursion (λ o. IsOver s o.call) own

-- each that calls with these numbers began is over in the state that a view has seen
abbrev pub LeaveNone : List ℕ → View → Type 0
LeaveNone numbers v = AreOver (state_seen v) (own_calls numbers (opening v.base) v.seen)

-- each that a pass began
abbrev pub LeavesNone : View → Type 0
LeavesNone v = LeaveNone v.numbers v

-- each call that a pass has seen was answered as the machine answers it
abbrev pub SawRun : Bool → View → Type 0
SawRun tells v = IsRun tells (opening v.base) v.seen

-- Where a pass left none open, none of its transactions is open in a longer history with no further call of its numbers.
abbrev pub StayOver : Type 0
StayOver =
    (tells : Bool) (home pass : View) → SawRun tells home → home.base ≡ pass.base → Has home.seen (part pass)
    → LeavesNone pass → LeaveNone pass.numbers home

-- Where none of the transactions of each of its numbers is open, a pass leaves none open.
abbrev pub EachIsOver : Type 0
EachIsOver = (home : View) → ((n : ℕ) → has home.numbers n ≡ true → LeaveNone (n ∷ []) home) → LeavesNone home

-- Where a pass with all numbers leaves none open, none is open.
abbrev pub NoneIsOpen : Type 0
NoneIsOpen =
    (tells : Bool) (home : View) → SawRun tells home → Below home.passes home.seen → HasAll home → LeavesNone home
    → (state_seen home).opened ≡ []
