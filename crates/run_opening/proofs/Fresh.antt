-- The passes of channels that were opened, before any call.
use Rattle.std.proofs.Common.{◌≡◌, ◌∙◌, ◌<◌, ◌≤◌, ◌+◌, ◌++◌, ℕ, zero, suc, List, [], ◌∷◌, length, map, get_or, refl, sym, ap, subst, arith}
use mathlib.Core.Logic.{dite}
use Rattle.std.proofs.Math.Decide.{dec_lt}
use native.Mathlib.Decide.{ℕ_discrete}
use Rattle.std.specs.List.{AllByRecursion}
use Rattle.std.specs.declared.alloc.Global.{Global}
use Rattle.std.specs.declared.vec.Vec.{Vec}
use Rattle.std.proofs.lemmas.List.{get_or-map, get_or_append_left, get_or_past, get_or_push, length-append, length-map}
use Rattle.atomic_table.specs.Seated.{TableId}
use Rattle.channel_face.specs.History.{Opening}
use Rattle.shared_channel.specs.Passes.{Known, new_pass, new_passes}
use Rattle.two_channels.specs.Shares.{table_of}
use Rattle.two_channels.specs.declared.shared.EitherShared.{EitherShared}
use Rattle.run_tracks.specs.Deals.{hand_at, hands_of}
use Rattle.run_tracks.specs.Dealing.{AreDealtBut, IsWith}
use Rattle.run_tracks.specs.Homes.{AreHomes, IsAt}
use Rattle.run_tracks.specs.Told.{IsNew}
use Rattle.run_tracks.proofs.Dealing.{begins}
use Rattle.channel_wishes.specs.Openings.{HostTold, IsOpened}
use Rattle.channel_wishes.specs.Opened.{AreOpened}
use Rattle.channel_wishes.specs.declared.opened.OpenedChannel.{OpenedChannel}
use Rattle.channel_wishes.specs.declared.wish.ChannelWish.{ChannelWish}
use Rattle.run_settling.specs.Draining.{HasOwn}
use Rattle.run_staff.proofs.Owning.{first_own}

-- what holds of each new pass of a channel
abbrev pub IsNewOf : TableId → Known → Type 0
IsNewOf table p = (p.table_id ≡ table) × IsNew p

all_push : (P : Known → Type 0) (l : List Known) (x : Known) → AllByRecursion P l → P x → AllByRecursion P (l ++ x ∷ [])
all_push P [] x all one = (one, tt)
all_push P (y ∷ l) x all one = (all.0, all_push P l x all.1 one)

all_new : (table : TableId) (start : Opening) (passes k : ℕ) → AllByRecursion (IsNewOf table) (new_passes table start passes k)
all_new table start passes zero = tt
all_new table start passes (suc k) =
    all_push (IsNewOf table) (new_passes table start passes k) (new_pass table start passes k) (all_new table start passes k) (refl, (refl, refl))

many_new : (table : TableId) (start : Opening) (passes k : ℕ) → length (new_passes table start passes k) ≡ k
many_new table start passes zero = refl
many_new table start passes (suc k) =
    let rest = many_new table start passes k in
    let one = length-append (new_passes table start passes k) (new_pass table start passes k ∷ []) in
    omega (arith, rest, one)

-- they have the numbers from 0 on, in order, and each knows how many there are
abbrev IsNumbered : ℕ → ℕ → Known → Type 0
IsNumbered passes n p = (p.number ≡ n) × (p.view.passes ≡ passes)

numbered_new : (table : TableId) (start : Opening) (passes k i : ℕ) (d : Known) → i < k → IsNumbered passes i (get_or (new_passes table start passes k) i d)
numbered_new table start passes zero i d below = absurd (omega (arith, below))
numbered_new table start passes (suc k) i d below =
    let front = new_passes table start passes k in
    let last = new_pass table start passes k in
    let many = many_new table start passes k in
    dite (ℕ_discrete i k)
    (λ same. subst (λ (p : Known). IsNumbered passes i p) (sym (get_or_push front last d i (many ∙ sym same))) (sym same, refl))
    (λ other.
    subst (λ (p : Known). IsNumbered passes i p) (sym (get_or_append_left front (last ∷ []) d i (omega (arith, below, other, many))))
    (numbered_new table start passes k i d (omega (arith, below, other))))

-- What holds of a channel that was opened, by its passes: those at home and in hand are all new, and as many are in hand as it has users.
pub record IsFreshAt {A B : Type 0} (wish : ChannelWish) (c : OpenedChannel A B) : Type 0 where
  pub home : IsNewOf (table_of c.share) c.home
  pub others : AllByRecursion (IsNewOf (table_of c.share)) c.others.items
  pub many : length c.others.items ≡ wish.users
  pub start : Opening
  pub all : new_passes (table_of c.share) start (wish.users + 1) (wish.users + 1) ≡ c.home ∷ c.others.items

fresh_one : {A B : Type 0} (a b : HostTold) (wish : ChannelWish) (c : OpenedChannel A B) → IsOpened a b wish c.share c.home c.others.items → IsFreshAt wish c
fresh_one a b wish c is =
    let n = wish.users + 1 in
    let new = subst (AllByRecursion (IsNewOf (table_of c.share))) (sym is.fresh.passes) (all_new (table_of c.share) is.fresh.start n n) in
    let count = ap length is.fresh.passes ∙ many_new (table_of c.share) is.fresh.start n n in
    record { home = new.0; others = new.1; many = omega (arith, count); start = is.fresh.start; all = sym is.fresh.passes }

-- each of them, in order
abbrev pub AreFresh : {A B : Type 0} → List ChannelWish → List (OpenedChannel A B) → Type 0
AreFresh [] [] = Unit {0}
AreFresh [] (c ∷ cs) = ⊥
AreFresh (wish ∷ wishes) [] = ⊥
AreFresh (wish ∷ wishes) (c ∷ cs) = IsFreshAt wish c × AreFresh wishes cs

-- channels that were opened as wished have made no call
pub are_fresh : {A B : Type 0} (wishes : List ChannelWish) (cs : List (OpenedChannel A B)) (a b : HostTold) → AreOpened wishes cs a b → AreFresh wishes cs
are_fresh [] [] a b all = tt
are_fresh [] (c ∷ cs) a b all = absurd all
are_fresh (wish ∷ wishes) [] a b all = absurd all
are_fresh (wish ∷ wishes) (c ∷ cs) a b all = (fresh_one a all.0 wish c all.1, are_fresh wishes cs all.0 b all.2)

-- as many channels are fresh as were wished for
pub fresh_many : {A B : Type 0} (wishes : List ChannelWish) (cs : List (OpenedChannel A B)) → AreFresh wishes cs → length cs ≡ length wishes
fresh_many [] [] all = refl
fresh_many [] (c ∷ cs) all = absurd all
fresh_many (wish ∷ wishes) [] all = absurd all
fresh_many (wish ∷ wishes) (c ∷ cs) all = let rest = fresh_many wishes cs all.1 in omega (arith, rest)

-- the fresh channel at a place is as wished there
pub fresh_at : {A B : Type 0} (wishes : List ChannelWish) (cs : List (OpenedChannel A B)) → AreFresh wishes cs → (place : ℕ) (w : ChannelWish) (d : OpenedChannel A B) → place < length cs
    → IsFreshAt (get_or wishes place w) (get_or cs place d)
fresh_at [] [] all place w d below = absurd (omega (arith, below))
fresh_at [] (c ∷ cs) all place w d below = absurd all
fresh_at (wish ∷ wishes) [] all place w d below = absurd all
fresh_at (wish ∷ wishes) (c ∷ cs) all zero w d below = all.0
fresh_at (wish ∷ wishes) (c ∷ cs) all (suc place) w d below = fresh_at wishes cs all.1 place w d (omega (arith, below))

-- what each pass that is still to be dealt fulfils, by the place of its channel
abbrev pub InHands : (ℕ → Known → Type 0) → List (List Known) → Type 0
InHands P hands = (place : ℕ) → AllByRecursion (P place) (hand_at hands place)

-- the passes of each channel that are still to be dealt have the numbers from 1 on, in order
abbrev pub AreInOrder : List (List Known) → Type 0
AreInOrder hands = (place i : ℕ) (d : Known) → i < length (hand_at hands place) → (get_or (hand_at hands place) i d).number ≡ suc i

module _ {A B : Type 0} (wishes : List ChannelWish) (cs : List (OpenedChannel A B)) (fresh : AreFresh wishes cs) where
  abbrev pub shares : List (EitherShared A B)
  shares = map (λ (c : OpenedChannel A B). c.share) cs

  abbrev pub homes : List Known
  homes = map (λ (c : OpenedChannel A B). c.home) cs

  abbrev pub hands : List (List Known)
  hands = hands_of (map (λ (c : OpenedChannel A B). c.others) cs)

  many_shares : length shares ≡ length cs
  many_shares = length-map cs (λ (c : OpenedChannel A B). c.share)

  many_homes : length homes ≡ length cs
  many_homes = length-map cs (λ (c : OpenedChannel A B). c.home)

  -- some channel, where there is one
  some : (place : ℕ) → place < length cs → OpenedChannel A B
  some place below = first cs below
    where
      first : (l : List (OpenedChannel A B)) → place < length l → OpenedChannel A B
      first [] lt = absurd (omega (arith, lt))
      first (c ∷ l) lt = c

  hand_of : (place : ℕ) (d : OpenedChannel A B) → place < length cs → hand_at hands place ≡ (get_or cs place d).others.items
  hand_of place d below =
      let many : length (map (λ (c : OpenedChannel A B). c.others) cs) ≡ length cs = length-map cs (λ (c : OpenedChannel A B). c.others) in
      get_or-map (λ (v : Vec Known Global). v.items) (map (λ (c : OpenedChannel A B). c.others) cs) place d.others [] (omega (arith, below, many))
      ∙ ap (λ (v : Vec Known Global). v.items) (get_or-map (λ (c : OpenedChannel A B). c.others) cs place d d.others below)

  home_of : (place : ℕ) (d : OpenedChannel A B) (e : Known) → place < length cs → get_or homes place e ≡ (get_or cs place d).home
  home_of place d e below = get_or-map (λ (c : OpenedChannel A B). c.home) cs place d e below

  share_of : (place : ℕ) (d : OpenedChannel A B) (e : EitherShared A B) → place < length cs → get_or shares place e ≡ (get_or cs place d).share
  share_of place d e below = get_or-map (λ (c : OpenedChannel A B). c.share) cs place d e below

  no_hand : (place : ℕ) → length cs ≤ place → hand_at hands place ≡ []
  no_hand place beyond =
      let many : length hands ≡ length cs = length-map (map (λ (c : OpenedChannel A B). c.others) cs) (λ (v : Vec Known Global). v.items) ∙ length-map cs (λ (c : OpenedChannel A B). c.others) in
      get_or_past hands place [] (omega (arith, beyond, many))

  -- a channel has a pass to deal for each of its users
  pub hand_many : (place : ℕ) (w : ChannelWish) → place < length cs → length (hand_at hands place) ≡ (get_or wishes place w).users
  hand_many place w below =
      let d = some place below in
      ap length (hand_of place d below) ∙ (fresh_at wishes cs fresh place w d below).many

  -- behind the last channel there is no pass to deal
  pub hand_none : (place : ℕ) → length cs ≤ place → length (hand_at hands place) ≡ 0
  hand_none place beyond = ap length (no_hand place beyond)

  wish_there : (place : ℕ) → place < length cs → ChannelWish
  wish_there place below = first wishes (let e = fresh_many wishes cs fresh in omega (arith, below, e))
    where
      first : (l : List ChannelWish) → place < length l → ChannelWish
      first [] lt = absurd (omega (arith, lt))
      first (w ∷ l) lt = w

  here : (place : ℕ) (below : place < length cs) → IsFreshAt (get_or wishes place (wish_there place below)) (get_or cs place (some place below))
  here place below = fresh_at wishes cs fresh place (wish_there place below) (some place below) below

  is_at : (place : ℕ) (below : place < length cs) (p : Known) → IsNewOf (table_of (get_or cs place (some place below)).share) p → IsAt table_of shares place p
  is_at place below p new = record {
    below = omega (arith, below, many_shares);
    here = λ e. new.0 ∙ ap table_of (sym (share_of place (some place below) e below));
  }

  -- there is a pass at home of each channel
  pub homes_are : AreHomes table_of shares homes
  homes_are = record {
    as_many = many_homes ∙ sym many_shares;
    each = λ place d below.
        let low : place < length cs = omega (arith, below, many_homes) in
        subst (IsAt table_of shares place) (sym (home_of place (some place low) d low)) (is_at place low (get_or cs place (some place low)).home (here place low).home);
  }

  -- each pass at home has its own number among those it carries
  pub own_are : (place : ℕ) (d : Known) → place < length homes → HasOwn (get_or homes place d)
  own_are place d below =
      let low : place < length cs = omega (arith, below, many_homes) in
      let c = get_or cs place (some place low) in
      let f = here place low in
      let n = (get_or wishes place (wish_there place low)).users + 1 in
      subst HasOwn (sym (home_of place (some place low) d low)) (first_own (table_of c.share) f.start n c.home c.others.items f.all)

  -- before the first is dealt, no pass has an owner
  pub dealt_but : AreDealtBut homes [] hands
  dealt_but = λ place d below.
      let low : place < length cs = omega (arith, below, many_homes) in
      let c = get_or cs place (some place low) in
      let f = here place low in
      let n = (get_or wishes place (wish_there place low)).users + 1 in
      subst (λ (x : Known × List Known). IsWith x.0 [] place x.1) (λ i. (sym (home_of place (some place low) d low) i, sym (hand_of place (some place low) low) i))
      (begins (table_of c.share) f.start n c.home c.others.items [] place f.all)

  each_at : (place : ℕ) (below : place < length cs) (ps : List Known) → AllByRecursion (IsNewOf (table_of (get_or cs place (some place below)).share)) ps
      → AllByRecursion (λ (p : Known). IsAt table_of shares place p × IsNew p) ps
  each_at place below [] all = tt
  each_at place below (p ∷ ps) all = ((is_at place below p all.0, all.0.1), each_at place below ps all.1)

  -- each pass to be dealt is of its channel and has made no call
  pub in_hands : InHands (λ place p. IsAt table_of shares place p × IsNew p) hands
  in_hands place =
      dite (dec_lt place (length cs))
      (λ below.
      subst (AllByRecursion (λ (p : Known). IsAt table_of shares place p × IsNew p)) (sym (hand_of place (some place below) below))
      (each_at place below (get_or cs place (some place below)).others.items (here place below).others))
      (λ beyond.
      subst (AllByRecursion (λ (p : Known). IsAt table_of shares place p × IsNew p)) (sym (no_hand place (omega (arith, beyond)))) tt)

  -- the numbers of a channel's passes, of which the first is at home
  numbered_at : (place : ℕ) (below : place < length cs) (i : ℕ) (d : Known) → let c = get_or cs place (some place below) in
      i < suc (length c.others.items) → IsNumbered (suc (length c.others.items)) i (get_or (c.home ∷ c.others.items) i d)
  numbered_at place below i d lt =
      let c = get_or cs place (some place below) in
      let f = here place below in
      let n = (get_or wishes place (wish_there place below)).users + 1 in
      let many = f.many in
      let same : n ≡ suc (length c.others.items) = omega (arith, many) in
      subst (λ (x : ℕ × List Known). IsNumbered x.0 i (get_or x.1 i d)) (λ j. (same j, f.all j)) (numbered_new (table_of c.share) f.start n n i d (omega (arith, lt, same)))

  -- the passes of each channel are to be dealt in the order of their numbers
  pub in_order : AreInOrder hands
  in_order place i d lt =
      dite (dec_lt place (length cs))
      (λ below.
      let hand = hand_of place (some place below) below in
      subst (λ (l : List Known). (get_or l i d).number ≡ suc i) (sym hand) (numbered_at place below (suc i) d (omega (arith, lt, ap length hand))).0)
      (λ beyond. absurd (omega (arith, lt, hand_none place (omega (arith, beyond)))))

  -- the pass at home carries the first number, and knows how many there are
  pub home_numbered : (place : ℕ) (d : Known) → place < length homes → ((get_or homes place d).number ≡ 0) × ((get_or homes place d).view.passes ≡ suc (length (hand_at hands place)))
  home_numbered place d below =
      let low : place < length cs = omega (arith, below, many_homes) in
      subst (λ (x : Known × List Known). (x.0.number ≡ 0) × (x.0.view.passes ≡ suc (length x.1))) (λ j. (sym (home_of place (some place low) d low) j, sym (hand_of place (some place low) low) j))
      (numbered_at place low 0 d (omega arith))

  -- where some are left of a channel, there is a pass of it at home
  pub home_there : (place : ℕ) → 0 < length (hand_at hands place) → place < length homes
  home_there place left =
      dite (dec_lt place (length cs))
      (λ below. omega (arith, below, many_homes))
      (λ beyond. absurd (omega (arith, left, hand_none place (omega (arith, beyond)))))
