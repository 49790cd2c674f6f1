-- The channels that a run wants, one after the other.
use Rattle.std.proofs.Common.{◌≡◌, ◌∙◌, ◌<◌, ◌+◌, ℕ, List, [], ◌∷◌, ◌++◌, length, get_or, take, sym, ap, subst, arith}
use mathlib.Core.Logic.{dite}
use native.Mathlib.Decide.{ℕ_discrete}
use Rattle.std.proofs.lemmas.List.{get_or_append_left, get_or_push, length-append, length-take, take_more}
use Rattle.agent_plan.specs.declared.plan.ChannelPlan.{ChannelPlan}
use Rattle.channel_wishes.specs.declared.wish.ChannelWish.{ChannelWish}
use Rattle.run_tracks.specs.Deals.{count_of}
use Rattle.run_opening.specs.Wishes.{AreWishes, IsWish}

one_more : (uses : List ℕ) (plans : List ChannelPlan) (plan : ChannelPlan) (wishes : List ChannelWish) (wish : ChannelWish) → AreWishes uses plans wishes
    → IsWish plan (count_of (length plans) uses) wish → count_of (length plans) uses < 4_294_967_295 → AreWishes uses (plans ++ plan ∷ []) (wishes ++ wish ∷ [])
one_more uses plans plan wishes wish are is few = record {
  many = length-append wishes (wish ∷ []) ∙ ap (λ (n : ℕ). n + 1) are.many ∙ sym (length-append plans (plan ∷ []));
  each = λ place p w below.
      dite (ℕ_discrete place (length plans))
      (λ last.
      let at_plan : get_or (plans ++ plan ∷ []) place p ≡ plan = get_or_push plans plan p place (sym last) in
      let at_wish : get_or (wishes ++ wish ∷ []) place w ≡ wish = get_or_push wishes wish w place (are.many ∙ sym last) in
      subst (λ (x : ChannelPlan × ℕ × ChannelWish). IsWish x.0 (count_of x.1 uses) x.2 × (count_of x.1 uses < 4_294_967_295)) (λ i. (sym at_plan i, sym last i, sym at_wish i)) (is, few))
      (λ other.
      let low : place < length plans = omega (arith, below, other, length-append plans (plan ∷ [])) in
      let low' : place < length wishes = let m = are.many in omega (arith, low, m) in
      let at_plan : get_or (plans ++ plan ∷ []) place p ≡ get_or plans place p = get_or_append_left plans (plan ∷ []) p place low in
      let at_wish : get_or (wishes ++ wish ∷ []) place w ≡ get_or wishes place w = get_or_append_left wishes (wish ∷ []) w place low' in
      subst (λ (x : ChannelPlan × ChannelWish). IsWish x.0 (count_of place uses) x.1 × (count_of place uses < 4_294_967_295)) (λ i. (sym at_plan i, sym at_wish i)) (are.each place p w low));
}

-- one more of each
pub wishes_along : (uses : List ℕ) (plans : List ChannelPlan) (i : ℕ) (plan : ChannelPlan) (wishes : List ChannelWish) (wish : ChannelWish) (users : ℕ) → i < length plans → plan ≡ get_or plans i plan
    → AreWishes uses (take i plans) wishes → users ≡ count_of i uses → users < 4_294_967_295 → IsWish plan users wish → AreWishes uses (take (i + 1) plans) (wishes ++ wish ∷ [])
wishes_along uses plans i plan wishes wish users below here are counted few is =
    let many : length (take i plans) ≡ i = let e = length-take i plans in omega (arith, e, below) in
    let same : users ≡ count_of (length (take i plans)) uses = counted ∙ ap (λ (n : ℕ). count_of n uses) (sym many) in
    subst (λ (l : List ChannelPlan). AreWishes uses l (wishes ++ wish ∷ [])) (ap (λ (p : ChannelPlan). take i plans ++ p ∷ []) here ∙ sym (take_more plans i plan below))
    (one_more uses (take i plans) plan wishes wish are (subst (λ (n : ℕ). IsWish plan n wish) same is) (subst (λ (n : ℕ). n < 4_294_967_295) same few))
