-- What a seat at the table knows.
use Rattle.std.specs.Prelude.{◌++◌, ℕ, suc, List, [], ◌∷◌, Bool, true, false}
use Rattle.channel_face.specs.History.{Opening, Step}
use Rattle.channel_face.specs.declared.replies.Kind.TheVariants.{Memory as InMemory}

-- Numbers, and a part of the history that has all calls of theirs, as a seat knew them.
pub record Part : Type 0 where
  pub live : Bool
  pub base : Opening
  pub passes : ℕ
  pub numbers : List ℕ
  pub seen : List Step

pub record View : Type 0 where
  -- what the history began with, and how many passes there are
  pub base : Opening
  pub passes : ℕ
  -- it holds the lock
  pub turn : Bool
  -- the part of the history that it has seen
  pub seen : List Step
  -- no other took it in
  pub live : Bool
  -- the numbers that its calls carry
  pub numbers : List ℕ
  -- after a join, what each of the two knew
  pub one : Part
  pub other : Part
  -- it deals the numbers, of which those below `dealt` were drawn
  pub deals : Bool
  pub dealt : ℕ

-- an opening that nothing is said of
abbrev pub no_opening : Opening
no_opening = record { rules = record { kind = InMemory; limits = record { capacity = 0; txn_capacity = 0; max_file = 0 } }; base = record { items = []; first = 0 }; txn = 0; faults = 0; from = 0; tells = true }

abbrev pub nothing : Part
nothing = record { live = false; base = no_opening; passes = 0; numbers = []; seen = [] }

abbrev pub part : View → Part
part v = record { live = v.live; base = v.base; passes = v.passes; numbers = v.numbers; seen = v.seen }

abbrev pub first_opening : List Opening → Opening
first_opening [] = no_opening
first_opening (o ∷ os) = o

-- the first seat, which deals the numbers
abbrev pub dealer : Opening → ℕ → View
dealer base passes = record { base = base; passes = passes; turn = false; seen = []; live = true; numbers = []; one = nothing; other = nothing; deals = true; dealt = 0 }

-- it has dealt so many
abbrev pub dealer_of : Opening → ℕ → ℕ → View
dealer_of base passes n = record (dealer base passes) { dealt = n }

-- it has dealt one number more
abbrev pub dealing : View → View
dealing v = record v { dealt = suc v.dealt }

-- the new seat that has this number, and has made no call
abbrev pub newcomer : View → View
newcomer v = record { base = v.base; passes = v.passes; turn = false; seen = v.seen; live = true; numbers = v.dealt ∷ []; one = nothing; other = nothing; deals = false; dealt = 0 }

-- a seat that another took in
abbrev pub gone : View
gone = record { base = no_opening; passes = 0; turn = false; seen = []; live = false; numbers = []; one = nothing; other = nothing; deals = false; dealt = 0 }

-- of two beginnings of one history, the longer
abbrev pub longer : List Step → List Step → List Step
longer [] b = b
longer (x ∷ xs) [] = x ∷ xs
longer (x ∷ xs) (y ∷ ys) = x ∷ longer xs ys

-- it has seen what either had, and has the numbers of both
abbrev pub both : View → View → View
both v w = record v { seen = longer v.seen w.seen; one = part v; other = part w; numbers = v.numbers ++ w.numbers }

-- what each of the two knew is told, and kept no longer
abbrev pub joined : View → View
joined v = record v { one = nothing; other = nothing }

-- with the lock, it has seen all of the history
abbrev pub entered : View → List Step → View
entered v log = record v { turn = true; seen = log; one = nothing; other = nothing }

-- with the lock, it made this call
abbrev pub with_call : Step → View → View
with_call e v = record v { seen = v.seen ++ e ∷ []; one = nothing; other = nothing }

-- the lock was released
abbrev pub idle : View → View
idle v = record v { turn = false }

-- without the lock, this part of the history was seen
abbrev pub saw : View → List Step → View
saw v log = record v { turn = false; seen = log; one = nothing; other = nothing }
