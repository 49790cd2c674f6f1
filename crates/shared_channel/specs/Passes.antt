-- What contracts see of a pass.
use Rattle.std.specs.Prelude.{◌≡◌, ◌<◌, ℕ, zero, suc, List, [], ◌∷◌, ◌++◌, length, get_or, Bool, true, false}
use Rattle.atomic_table.specs.Seated.{TableId}
use Rattle.channel_face.specs.History.{Opening}
use Rattle.channel_lock.specs.Calls.{has}
use Rattle.channel_lock.specs.Views.{View, dealer, dealer_of, newcomer, no_opening}

-- its table, the number that its next call carries, and what it knows
pub record Known : Type 0 where
  pub table_id : TableId
  pub number : ℕ
  pub view : View

abbrev pub view_of : List View → View
view_of [] = dealer no_opening 0
view_of (v ∷ vs) = v

-- a pass with this number and these views
abbrev pub known : TableId → ℕ → List View → Known
known table number views = record { table_id = table; number = number; view = view_of views }

-- a pass with the number n that has made no call
abbrev pub new_pass : TableId → Opening → ℕ → ℕ → Known
new_pass table start passes n = record { table_id = table; number = n; view = newcomer (dealer_of start passes n) }

-- the passes with the numbers below a count, in order
abbrev pub new_passes : TableId → Opening → ℕ → ℕ → List Known
new_passes table start passes zero = []
new_passes table start passes (suc n) = new_passes table start passes n ++ new_pass table start passes n ∷ []

-- the marks say which numbers there are
abbrev pub AreMarks : List ℕ → List Bool → Type 0
AreMarks numbers marks = (n : ℕ) → n < length marks → get_or marks n false ≡ has numbers n

-- so many marks, and none is set
abbrev pub IsBlank : ℕ → List Bool → Type 0
IsBlank passes marks = AreMarks [] marks × (length marks ≡ passes)

-- The views are those of one seat that does not hold the lock, and has this number.
abbrev pub IsHome : List View → ℕ → Type 0
IsHome views number =
    (views ≡ view_of views ∷ []) × ((view_of views).turn ≡ false) × ((view_of views).live ≡ true) × (has (view_of views).numbers number ≡ true)

-- what holds of a pass: it does not hold the lock, its next call's number is one of its own, and it knows how many calls it saw and which numbers it has
abbrev pub IsPass : List View → ℕ → ℕ → List Bool → Type 0
IsPass views number calls marks =
    IsHome views number × (calls ≡ length (view_of views).seen) × AreMarks (view_of views).numbers marks
    × ((n : ℕ) → has (view_of views).numbers n ≡ true → n < (view_of views).passes) × (length marks ≡ (view_of views).passes)
