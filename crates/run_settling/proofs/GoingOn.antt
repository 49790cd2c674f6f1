-- Passes at home that have each number still have it when their channels were kept and mended.
use Rattle.std.proofs.Common.{ℕ, List, [], ◌∷◌, All, Bool, Ok, Result, true, false, get_or, sym, subst, arith}
use Rattle.channel_face.specs.declared.replies.OpenCause.{OpenCause}
use Rattle.atomic_table.specs.Seated.{TableId}
use Rattle.channel_face.specs.History.{Opening, Step}
use Rattle.channel_face.specs.Machine.{State}
use Rattle.shared_channel.specs.Passes.{Known}
use Rattle.shared_channel.specs.Ports.{Later, later_none}
use Rattle.channel_lock.specs.Turns.{HasAll}
use Rattle.two_channels.specs.declared.shared.EitherShared.{EitherShared}
use Rattle.run_tracks.specs.Homes.{AreHomes}
use Rattle.run_tracks.specs.Stops.{AreKept, AreMended, IsKept, IsMended, KeptIf}
use Rattle.run_settling.proofs.Chaining.{all_go_on}
use Rattle.run_settling.specs.Draining.{EachGoesOn, GoesOn}

-- a pass that is later with the same number goes on
pub later_goes_on : (p q : Known) → Later p q → GoesOn p q
later_goes_on p q later = record { table = later.table; number = later.number; base = later.base; passes = later.passes; numbers = later.numbers; begins = later.begins }

-- the pass of one that is kept, or is not to be, goes on
pub kept_later : {A B : Type 0} (disk : A → Opening → List Step → Type 0) (tells : A → Bool) (moment : A → ℕ) (laid : A → State → Type 0) (pruned : A → Type 0)
    (share : EitherShared A B) (b : Bool) (p q : Known) → KeptIf b (IsKept disk tells moment laid pruned share) p q → Later p q
kept_later disk tells moment laid pruned share true p q is = is.later
kept_later disk tells moment laid pruned share false p q same = subst (Later p) (sym same) (later_none p)

-- where channels are kept, each pass at home goes on
pub kept_go_on : (A B : Type 0) (disk : A → Opening → List Step → Type 0) (tells : A → Bool) (moment : A → ℕ) (laid : A → State → Type 0) (pruned : A → Type 0) (share : EitherShared A B) (shares : List (EitherShared A B)) (closes : List Bool) (old new : List Known)
    → AreKept (IsKept disk tells moment laid pruned) shares closes old new → EachGoesOn old new
kept_go_on A B disk tells moment laid pruned share shares closes old new did = record {
  as_many = did.as_many;
  each = λ place d below. later_goes_on (get_or old place d) (get_or new place d)
      (kept_later disk tells moment laid pruned (get_or shares place share) (get_or closes place false) (get_or old place d) (get_or new place d) (did.each place share false d d below));
}

-- and so it does where they are mended
pub mended_go_on : (A B : Type 0) (disk : A → Opening → List Step → Type 0) (tells : A → Bool) (moment : A → ℕ) (share : EitherShared A B) (shares : List (EitherShared A B)) (old new : List Known) (answers : List (Result Bool OpenCause))
    → AreMended (IsMended disk tells moment) shares old answers new → EachGoesOn old new
mended_go_on A B disk tells moment share shares old new answers did =
    record { as_many = did.as_many; each = λ place d below. later_goes_on (get_or old place d) (get_or new place d) (did.each place share d d (Ok false) below).later }

module _ {A B : Type 0} (table : EitherShared A B → TableId) (disk : A → Opening → List Step → Type 0) (tells : A → Bool) (moment : A → ℕ) where
  -- where channels are kept, each pass at home still has all numbers
  pub kept_all : (laid : A → State → Type 0) (pruned : A → Type 0) (shares : List (EitherShared A B)) (closes : List Bool) (old new : List Known) → AreHomes table shares old
      → AreKept (IsKept disk tells moment laid pruned) shares closes old new → All (λ (p : Known). HasAll p.view) old → All (λ (p : Known). HasAll p.view) new
  kept_all laid pruned [] closes old new are did all = λ place d below. absurd (let e = did.as_many in let f = are.as_many in omega (arith, below, e, f))
  kept_all laid pruned (share ∷ shares) closes old new are did all = all_go_on old new (kept_go_on A B disk tells moment laid pruned share (share ∷ shares) closes old new did) all

  -- where channels are mended, each pass at home still has all numbers
  pub mended_all : (shares : List (EitherShared A B)) (old new : List Known) (answers : List (Result Bool OpenCause)) → AreHomes table shares old
      → AreMended (IsMended disk tells moment) shares old answers new → All (λ (p : Known). HasAll p.view) old → All (λ (p : Known). HasAll p.view) new
  mended_all [] old new answers are did all = λ place d below. absurd (let e = did.as_many in let f = are.as_many in omega (arith, below, e, f))
  mended_all (share ∷ shares) old new answers are did all = all_go_on old new (mended_go_on A B disk tells moment share (share ∷ shares) old new answers did) all
