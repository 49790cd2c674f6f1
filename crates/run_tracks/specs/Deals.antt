-- How the passes of channels are dealt to workers.
use Rattle.std.specs.Prelude.{◌≡◌, ◌<◌, ◌≤◌, ◌==◌, ◌++◌, ℕ, List, [], ◌∷◌, length, map, slice_index_or, slice_set}
use Rattle.std.specs.List.{count_by}
use Rattle.std.specs.declared.alloc.Global.{Global}
use Rattle.std.specs.declared.vec.Vec.{Vec}
use Rattle.shared_channel.specs.Passes.{Known}

-- the passes of each channel that are still to be dealt
abbrev pub hands_of : List (Vec Known Global) → List (List Known)
hands_of hands = map (λ (hand : Vec Known Global). hand.items) hands

-- those of the channel at this place
abbrev pub hand_at : List (List Known) → ℕ → List Known
hand_at hands place = slice_index_or hands place []

-- how often a place is among these
abbrev pub count_of : ℕ → List ℕ → ℕ
count_of place places = count_by (λ p. p == place) places

-- each channel has a pass for each time that it is among these places
abbrev pub Suffice : List (List Known) → List ℕ → Type 0
Suffice hands places = (place : ℕ) → count_of place places ≤ length (hand_at hands place)

-- The last pass of the channel at this place is dealt.
pub record Draws (hands : List (List Known)) (place : ℕ) (pass : Known) (new : List (List Known)) : Type 0 where
  pub rest : List Known
  pub there : place < length hands
  pub last : hand_at hands place ≡ rest ++ pass ∷ []
  pub left : new ≡ slice_set hands place rest

-- One is dealt for each of these places, in order.
abbrev pub Deals : List (List Known) → List ℕ → List Known → List (List Known) → Type 0
Deals hands [] [] new = new ≡ hands
Deals hands [] (pass ∷ passes) new = ⊥
Deals hands (place ∷ places) [] new = ⊥
Deals hands (place ∷ places) (pass ∷ passes) new = (next : List (List Known)) × Draws hands place pass next × Deals next places passes new

-- Each worker gets those of its channels, one worker after the other.
abbrev pub DealsEach : {J : Type 0} → (J → List ℕ) → (J → List Known) → List (List Known) → List J → List (List Known) → Type 0
DealsEach channels ports hands [] new = new ≡ hands
DealsEach channels ports hands (job ∷ jobs) new =
    (next : List (List Known)) × Deals hands (channels job) (ports job) next × DealsEach channels ports next jobs new
