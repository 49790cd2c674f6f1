-- Each number of a channel has one owner.
use Rattle.std.specs.Prelude.{◌≡◌, ◌<◌, List, [], ◌∷◌, All, length, slice_index_or}
use Rattle.std.specs.List.{AllByRecursion}
use Rattle.shared_channel.specs.Passes.{Known}
use Rattle.run_tracks.specs.Dealt.{Owner}

-- The worker's number is one of its channel's, and the pass at home there carries another.
pub record IsAway (homes : List Known) (o : Owner) : Type 0 where
  pub there : o.place < length homes
  pub below : (d : Known) → o.number < (slice_index_or homes o.place d).view.passes
  pub other : (d : Known) → (slice_index_or homes o.place d).number ≡ o.number → ⊥

-- two workers have not one number in one channel
abbrev pub Differ : Owner → Owner → Type 0
Differ o p = p.place ≡ o.place → p.number ≡ o.number → ⊥

-- nor have any two of these
abbrev pub AllDiffer : List Owner → Type 0
AllDiffer [] = Unit {0}
AllDiffer (o ∷ owners) = AllByRecursion (Differ o) owners × AllDiffer owners

-- Each worker's number in a channel is its own: no other worker has it, and the pass at home carries another.
pub record AreAlone (homes : List Known) (owners : List Owner) : Type 0 where
  pub away : All (IsAway homes) owners
  pub apart : AllDiffer owners
