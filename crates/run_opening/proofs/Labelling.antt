-- The channels of a run by name, with the workers that use each.
use Rattle.std.proofs.Common.{◌≡◌, ◌∙◌, ◌==◌, ◌+◌, ◌++◌, ℕ, suc, true, false, List, [], ◌∷◌, length, length-append, map, refl, sym, ap, subst, eq-eqb, arith, string_bytes}
use mathlib.Core.Logic.{dite}
use native.Mathlib.Decide.{ℕ_discrete}
use Rattle.std.proofs.lemmas.Bool.{ne_eqb}
use Rattle.std.proofs.lemmas.List.{length-map, map-append}
use Rattle.agent_plan.specs.declared.plan.ChannelPlan.{ChannelPlan}
use Rattle.run_tracks.specs.Deals.{count_of}
use Rattle.run_tracks.proofs.Handing.{count_joined}
use Rattle.run_opening.specs.Labels.{AreLabels, Entry, IsLabel, Use, entries_at, entry_of, places_of, user_of}
use Rattle.run_opening.specs.declared.labels.ChannelLabel.{ChannelLabel}
use Rattle.run_opening.specs.declared.labels.User.{User}
use Rattle.run_opening.specs.declared.channel_end.Worker.{Worker}

-- as many labels as channels
pub labels_many : (users : List Use) (place : ℕ) (plans : List ChannelPlan) (labels : List ChannelLabel) → AreLabels users place plans labels → length labels ≡ length plans
labels_many users place [] [] all = refl
labels_many users place [] (label ∷ labels) all = absurd all
labels_many users place (plan ∷ plans) [] all = absurd all
labels_many users place (plan ∷ plans) (label ∷ labels) all = ap suc (labels_many users (suc place) plans labels all.1)

-- a label more, for the last channel
pub labels_and : (users : List Use) (place n : ℕ) (plans : List ChannelPlan) (plan : ChannelPlan) (labels : List ChannelLabel) (label : ChannelLabel)
    → AreLabels users place plans labels → n ≡ length plans + place → IsLabel users n plan label → AreLabels users place (plans ++ plan ∷ []) (labels ++ label ∷ [])
labels_and users place n [] plan [] label all here is =
    let same : n ≡ place = omega (arith, here) in
    (subst (λ (k : ℕ). IsLabel users k plan label) same is, tt)
labels_and users place n [] plan (l ∷ labels) label all here is = absurd all
labels_and users place n (p ∷ plans) plan [] label all here is = absurd all
labels_and users place n (p ∷ plans) plan (l ∷ labels) label all here is =
    (all.0, labels_and users (suc place) n plans plan labels label all.1 (omega (arith, here)) is)

-- ---- the workers of a channel

-- where a worker uses the channel
with_one : (place : ℕ) (u : Use) (us : List Use) → (u.channel == place) ≡ true
    → entries_at place (u ∷ us) ≡ entries_at place us ++ record { component = u.component; place = u.place; number = count_of place (places_of us) + 1 } ∷ []
with_one place u us is = rw is refl

without_one : (place : ℕ) (u : Use) (us : List Use) → (u.channel == place) ≡ false → entries_at place (u ∷ us) ≡ entries_at place us
without_one place u us is = rw is refl

one_used : (place : ℕ) (u : Use) → (u.channel == place) ≡ true → count_of place (u.channel ∷ []) ≡ 1
one_used place u is = rw is refl

none_used : (place : ℕ) (u : Use) → (u.channel == place) ≡ false → count_of place (u.channel ∷ []) ≡ 0
none_used place u is = rw is refl

-- as many as the channel is used
pub entries_many : (place : ℕ) (users : List Use) → length (entries_at place users) ≡ count_of place (places_of users)
entries_many place [] = refl
entries_many place (u ∷ us) =
    let all = entries_many place us in
    let count = count_joined place (u.channel ∷ []) (places_of us) in
    dite (ℕ_discrete u.channel place)
    (λ same.
    let is = eq-eqb u.channel place same in
    let more = ap length (with_one place u us is) ∙ length-append (entries_at place us) (record { component = u.component; place = u.place; number = count_of place (places_of us) + 1 } ∷ []) in
    let one = one_used place u is in
    omega (arith, more, one, all, count))
    (λ other.
    let is = ne_eqb u.channel place other in
    let same = ap length (without_one place u us is) in
    let none = none_used place u is in
    omega (arith, same, none, all, count))

module _ (place : ℕ) (users others : List User) (user : User) (split : users ≡ user ∷ others) (workers : List Worker)
    (so_far : map entry_of workers ≡ entries_at place (map user_of others)) where
  -- a worker more, which uses the channel
  pub entry_more : (w : Worker) (new : List Worker) → new ≡ workers ++ w ∷ [] → user.channel ≡ place → string_bytes w.component ≡ string_bytes user.component → w.place ≡ user.place
      → w.number ≡ length workers + 1 → map entry_of new ≡ entries_at place (map user_of users)
  entry_more w new added here component among number =
      let count : length workers ≡ count_of place (places_of (map user_of others)) =
      sym (length-map workers entry_of) ∙ ap length so_far ∙ entries_many place (map user_of others) in
      let entry : entry_of w ≡ record { component = string_bytes user.component; place = user.place; number = count_of place (places_of (map user_of others)) + 1 } =
      λ i. record { component = component i; place = among i; number = (number ∙ ap (λ (k : ℕ). k + 1) count) i } in
      ap (λ (l : List Worker). map entry_of l) added ∙ map-append entry_of workers (w ∷ [])
      ∙ ap (λ (x : List Entry × Entry). x.0 ++ x.1 ∷ []) (λ i. (so_far i, entry i))
      ∙ sym (with_one place (user_of user) (map user_of others) (eq-eqb user.channel place here))
      ∙ ap (λ (l : List User). entries_at place (map user_of l)) (sym split)

  -- one more, which does not
  pub entry_none : (user.channel ≡ place → ⊥) → map entry_of workers ≡ entries_at place (map user_of users)
  entry_none other =
      so_far ∙ sym (without_one place (user_of user) (map user_of others) (ne_eqb user.channel place other)) ∙ ap (λ (l : List User). entries_at place (map user_of l)) (sym split)
