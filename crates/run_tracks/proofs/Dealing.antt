-- Passes that are dealt.
use Rattle.std.proofs.Common.{◌≡◌, ◌∙◌, ◌⊎◌, ◌<◌, inl, inr, ℕ, zero, suc, List, [], ◌∷◌, ◌++◌, true, length, length-append, get_or, set, refl, sym, ap, subst, Bool, false, ◌||◌, eq-eqb, arith}
use Rattle.std.specs.List.{AllByRecursion}
use mathlib.Core.Logic.{dite}
use native.Mathlib.Decide.{ℕ_discrete}
use Rattle.std.proofs.lemmas.List.{get_or-set_same, get_or-set_other, get_or_append_left, get_or_push}
use Rattle.atomic_table.specs.Seated.{TableId}
use Rattle.channel_face.specs.History.{Opening}
use Rattle.shared_channel.specs.Passes.{Known, new_pass, new_passes}
use Rattle.channel_lock.specs.Calls.{has}
use Rattle.run_tracks.specs.Dealing.{DealingBegins, DealingEnds, DealingGoesOn, DealsOne, IsInHand, IsWith}
use Rattle.run_tracks.specs.Dealt.{IsOwned, Owner}

in_left : (hand more : List Known) (n : ℕ) → IsInHand hand n → IsInHand (hand ++ more) n
in_left [] more n is = absurd is
in_left (p ∷ hand) more n (inl is) = inl is
in_left (p ∷ hand) more n (inr is) = inr (in_left hand more n is)

in_last : (hand : List Known) (p : Known) (n : ℕ) → p.number ≡ n → IsInHand (hand ++ p ∷ []) n
in_last [] p n is = inl is
in_last (q ∷ hand) p n is = inr (in_last hand p n is)

-- the number of the last, or of another
last_or : (hand : List Known) (p : Known) (n : ℕ) → IsInHand (hand ++ p ∷ []) n → (p.number ≡ n) ⊎ IsInHand hand n
last_or [] p n (inl is) = inl is
last_or [] p n (inr is) = absurd is
last_or (q ∷ hand) p n (inl is) = inr (inl is)
last_or (q ∷ hand) p n (inr is) = one (last_or hand p n is)
  where
    one : (p.number ≡ n) ⊎ IsInHand hand n → (p.number ≡ n) ⊎ IsInHand (q ∷ hand) n
    one (inl same) = inl same
    one (inr other) = inr (inr other)

-- each number below the count is in hand
all_in : (table : TableId) (start : Opening) (passes k n : ℕ) → n < k → IsInHand (new_passes table start passes k) n
all_in table start passes zero n below = absurd (omega (arith, below))
all_in table start passes (suc k) n below =
    dite (ℕ_discrete n k) (λ same. in_last (new_passes table start passes k) (new_pass table start passes k) n (sym same)) (λ other. in_left (new_passes table start passes k) (new_pass table start passes k ∷ []) n (all_in table start passes k n (omega (arith, below, other))))

owned_more : (owners : List Owner) (o : Owner) (place n : ℕ) → IsOwned owners place n → IsOwned (owners ++ o ∷ []) place n
owned_more owners o place n (i, below, is) = (i, omega (arith, below, length-append owners (o ∷ [])), λ d. get_or_append_left owners (o ∷ []) d i below ∙ is d)

owned_last : (owners : List Owner) (place n : ℕ) → IsOwned (owners ++ record { place = place; number = n } ∷ []) place n
owned_last owners place n = (length owners, omega (arith, length-append owners (record { place = place; number = n } ∷ [])), λ d. get_or_push owners (record { place = place; number = n }) d (length owners) refl)

-- once no pass is left to be dealt, each number is at home or with a worker
pub ends : DealingEnds
ends homes hands owners none but = λ place d below n lt. one place n (but place d below n lt)
  where
    one : {X : Type 0} (place n : ℕ) → X ⊎ (IsOwned owners place n ⊎ IsInHand (get_or hands place []) n) → X ⊎ IsOwned owners place n
    one place n (inl at) = inl at
    one place n (inr (inl o)) = inr o
    one place n (inr (inr h)) = absurd (subst (λ (l : List Known). IsInHand l n) (none place) h)

-- what holds of each new pass
abbrev pub IsFirst : ℕ → Known → Type 0
IsFirst passes p = (p.view.passes ≡ passes) × (has p.view.numbers p.number ≡ true)

all_push : (P : Known → Type 0) (l : List Known) (x : Known) → AllByRecursion P l → P x → AllByRecursion P (l ++ x ∷ [])
all_push P [] x all one = (one, tt)
all_push P (y ∷ l) x all one = (all.0, all_push P l x all.1 one)

all_first : (table : TableId) (start : Opening) (passes k : ℕ) → AllByRecursion (IsFirst passes) (new_passes table start passes k)
all_first table start passes zero = tt
all_first table start passes (suc k) =
    all_push (IsFirst passes) (new_passes table start passes k) (new_pass table start passes k) (all_first table start passes k) (refl, ap (λ (b : Bool). b || false) (eq-eqb k k refl))

-- of a channel's new passes one stays at home, and the others are to be dealt
pub begins : DealingBegins
begins table start passes home hand owners place is = λ n lt.
    let first : AllByRecursion (IsFirst passes) (home ∷ hand) = subst (AllByRecursion (IsFirst passes)) is (all_first table start passes passes) in
    let below : n < passes = let e = first.0.0 in omega (arith, lt, e) in
    one n first.0.1 (subst (λ (l : List Known). IsInHand l n) is (all_in table start passes passes n below))
  where
    one : (n : ℕ) → has home.view.numbers home.number ≡ true → IsInHand (home ∷ hand) n → (has home.view.numbers n ≡ true) ⊎ (IsOwned owners place n ⊎ IsInHand hand n)
    one n at (inl same) = inl (subst (λ (m : ℕ). has home.view.numbers m ≡ true) same at)
    one n at (inr h) = inr (inr h)

-- a further channel's passes are still to be dealt, beside those before it
pub goes_on : DealingGoesOn
goes_on homes hands owners home hand many but with = λ place d below.
    dite (ℕ_discrete place (length homes))
    (λ last.
    let here : get_or (homes ++ home ∷ []) place d ≡ home = get_or_push homes home d place (sym last) in
    let in_hand : get_or (hands ++ hand ∷ []) place [] ≡ hand = get_or_push hands hand [] place (many ∙ sym last) in
    subst (λ (x : Known × ℕ × List Known). IsWith x.0 owners x.1 x.2) (λ i. (sym here i, sym last i, sym in_hand i)) with)
    (λ other.
    let low : place < length homes = omega (arith, below, other, length-append homes (home ∷ [])) in
    let low' : place < length hands = omega (arith, low, many) in
    let here : get_or (homes ++ home ∷ []) place d ≡ get_or homes place d = get_or_append_left homes (home ∷ []) d place low in
    let in_hand : get_or (hands ++ hand ∷ []) place [] ≡ get_or hands place [] = get_or_append_left hands (hand ∷ []) [] place low' in
    subst (λ (x : Known × List Known). IsWith x.0 owners place x.1) (λ i. (sym here i, sym in_hand i)) (but place d low))

-- a pass that is dealt leaves the hand for a worker
pub one_dealt : DealsOne
one_dealt homes hands owners place hand pass in_hands is but = λ i d below.
    dite (ℕ_discrete i place)
    (λ same.
    let left : get_or (set hands place hand) i [] ≡ hand = ap (λ (k : ℕ). get_or (set hands place hand) k []) same ∙ get_or-set_same hands place hand [] in_hands in
    subst (λ (l : List Known). IsWith (get_or homes i d) more i l) (sym left) (λ n lt. here i (get_or homes i d) n same (but i d below n lt)))
    (λ other.
    let left : get_or (set hands place hand) i [] ≡ get_or hands i [] = get_or-set_other hands place i hand [] other in
    subst (λ (l : List Known). IsWith (get_or homes i d) more i l) (sym left) (λ n lt. there i (get_or homes i d) n (but i d below n lt)))
  where
    more : List Owner
    more = owners ++ record { place = place; number = pass.number } ∷ []

    last : (i n : ℕ) → i ≡ place → (pass.number ≡ n) ⊎ IsInHand hand n → IsOwned more i n ⊎ IsInHand hand n
    last i n same (inl number) = inl (subst (λ (x : ℕ × ℕ). IsOwned more x.0 x.1) (λ k. (sym same k, number k)) (owned_last owners place pass.number))
    last i n same (inr h) = inr h

    here : (i : ℕ) (home : Known) (n : ℕ) → i ≡ place → (has home.view.numbers n ≡ true) ⊎ (IsOwned owners i n ⊎ IsInHand (get_or hands i []) n) → (has home.view.numbers n ≡ true) ⊎ (IsOwned more i n ⊎ IsInHand hand n)
    here i home n same (inl at) = inl at
    here i home n same (inr (inl o)) = inr (inl (owned_more owners (record { place = place; number = pass.number }) i n o))
    here i home n same (inr (inr h)) = inr (last i n same (last_or hand pass n (subst (λ (l : List Known). IsInHand l n) (ap (λ (k : ℕ). get_or hands k []) same ∙ is) h)))

    there : (i : ℕ) (home : Known) (n : ℕ) → (has home.view.numbers n ≡ true) ⊎ (IsOwned owners i n ⊎ IsInHand (get_or hands i []) n) → (has home.view.numbers n ≡ true) ⊎ (IsOwned more i n ⊎ IsInHand (get_or hands i []) n)
    there i home n (inl at) = inl at
    there i home n (inr (inl o)) = inr (inl (owned_more owners (record { place = place; number = pass.number }) i n o))
    there i home n (inr (inr h)) = inr (inr h)
