-- What is so of passes that were dealt.
use Rattle.std.proofs.Common.{◌≡◌, ◌∙◌, ◌++◌, ℕ, List, [], ◌∷◌, flat_map, get_or, set, sym, ap, subst, append-nil}
use mathlib.Core.Logic.{dite}
use native.Mathlib.Decide.{ℕ_discrete}
use Rattle.std.specs.List.{AllByRecursion}
use Rattle.std.proofs.lemmas.List.{append_assoc, get_or-set_other, get_or-set_same}
use Rattle.shared_channel.specs.Passes.{Known}
use Rattle.run_tracks.specs.Deals.{Deals, DealsEach, Draws, hand_at}
use Rattle.run_tracks.specs.Dealing.{AreDealtBut}
use Rattle.run_tracks.specs.Dealt.{Owner}
use Rattle.run_tracks.specs.Places.{Zips}
use Rattle.run_tracks.proofs.Dealing.{one_dealt}
use Rattle.run_staff.specs.Jobs.{owners_at}
use Rattle.run_opening.proofs.Fresh.{InHands}

split_last : (P : Known → Type 0) (l : List Known) (x : Known) → AllByRecursion P (l ++ x ∷ []) → AllByRecursion P l × P x
split_last P [] x all = (tt, all.0)
split_last P (y ∷ l) x all = let rest = split_last P l x all.1 in ((all.0, rest.0), rest.1)

module _ (P : ℕ → Known → Type 0) where
  drawn_in : (hands new : List (List Known)) (at : ℕ) (pass : Known) → Draws hands at pass new → InHands P hands → P at pass × InHands P new
  drawn_in hands new at pass d all =
      let two = split_last (P at) d.rest pass (subst (AllByRecursion (P at)) d.last (all at)) in (
        two.1,
        λ place.
            dite (ℕ_discrete place at)
            (λ same.
            let left : hand_at new place ≡ d.rest = ap (λ (n : List (List Known)). hand_at n place) d.left ∙ ap (λ (k : ℕ). get_or (set hands at d.rest) k []) same ∙ get_or-set_same hands at d.rest [] d.there in
            subst (λ (x : ℕ × List Known). AllByRecursion (P x.0) x.1) (λ i. (sym same i, sym left i)) two.0)
            (λ other.
            let left : hand_at new place ≡ hand_at hands place = ap (λ (n : List (List Known)). hand_at n place) d.left ∙ get_or-set_other hands at place d.rest [] other in
            subst (AllByRecursion (P place)) (sym left) (all place)),
      )

  -- what holds of the passes to be dealt holds of those dealt to one worker, and of the rest
  pub deals_in : (hands : List (List Known)) (places : List ℕ) (passes : List Known) (new : List (List Known)) → Deals hands places passes new → InHands P hands
      → Zips P places passes × InHands P new
  deals_in hands [] [] new is all = (tt, subst (InHands P) (sym is) all)
  deals_in hands [] (p ∷ passes) new is all = absurd is
  deals_in hands (at ∷ places) [] new is all = absurd is
  deals_in hands (at ∷ places) (pass ∷ passes) new is all =
      let one = drawn_in hands is.0 at pass is.1 all in
      let rest = deals_in is.0 places passes new is.2 one.1 in
      ((one.0, rest.0), rest.1)

  module _ {J : Type 0} (channels : J → List ℕ) (ports : J → List Known) where
    -- what holds of the passes to be dealt holds of each worker's, and of the rest
    pub each_in : (hands : List (List Known)) (jobs : List J) (new : List (List Known)) → DealsEach channels ports hands jobs new → InHands P hands
        → AllByRecursion (λ (job : J). Zips P (channels job) (ports job)) jobs × InHands P new
    each_in hands [] new is all = (tt, subst (InHands P) (sym is) all)
    each_in hands (job ∷ jobs) new is all =
        let one = deals_in hands (channels job) (ports job) is.0 is.1 all in
        let rest = each_in is.0 jobs new is.2 one.1 in
        ((one.0, rest.0), rest.1)

module _ (homes : List Known) where
  deals_owned : (hands : List (List Known)) (owners : List Owner) (places : List ℕ) (passes : List Known) (new : List (List Known)) → Deals hands places passes new
      → AreDealtBut homes owners hands → AreDealtBut homes (owners ++ owners_at places passes) new
  deals_owned hands owners [] [] new is but =
      subst (λ (x : List Owner × List (List Known)). AreDealtBut homes x.0 x.1) (λ i. (sym (append-nil owners) i, sym is i)) but
  deals_owned hands owners [] (p ∷ passes) new is but = absurd is
  deals_owned hands owners (at ∷ places) [] new is but = absurd is
  deals_owned hands owners (at ∷ places) (pass ∷ passes) new is but =
      let d = is.1 in
      let o : Owner = record { place = at; number = pass.number } in
      let one = one_dealt homes hands owners at d.rest pass d.there d.last but in
      let two = deals_owned is.0 (owners ++ o ∷ []) places passes new is.2 (subst (AreDealtBut homes (owners ++ o ∷ [])) (sym d.left) one) in
      subst (λ (x : List Owner). AreDealtBut homes x new) (append_assoc owners (o ∷ []) (owners_at places passes)) two

  module _ {J : Type 0} (channels : J → List ℕ) (ports : J → List Known) where
    -- passes dealt to more workers have these as their owners
    pub each_owned : (hands : List (List Known)) (owners : List Owner) (jobs : List J) (new : List (List Known)) → DealsEach channels ports hands jobs new
        → AreDealtBut homes owners hands → AreDealtBut homes (owners ++ flat_map (λ (j : J). owners_at (channels j) (ports j)) jobs) new
    each_owned hands owners [] new is but =
        subst (λ (x : List Owner × List (List Known)). AreDealtBut homes x.0 x.1) (λ i. (sym (append-nil owners) i, sym is i)) but
    each_owned hands owners (job ∷ jobs) new is but =
        let one = deals_owned hands owners (channels job) (ports job) is.0 is.1 but in
        let two = each_owned is.0 (owners ++ owners_at (channels job) (ports job)) jobs new is.2 one in
        subst (λ (x : List Owner). AreDealtBut homes x new)
        (append_assoc owners (owners_at (channels job) (ports job)) (flat_map (λ (j : J). owners_at (channels j) (ports j)) jobs)) two
