use Rattle.std.proofs.Common.{rules, ◌≡◌, ◌∙◌, ◌+◌, ℕ, suc, List, [], ◌∷◌, ◌++◌, length, map, Some, None, Option, refl, sym, ap, arith, Vec, Global, append-nil, append_assoc}
use Rattle.std.proofs.lemmas.List.{map-append}
use Rattle.agent_plan.specs.declared.plan.ChannelPlan.{ChannelPlan}
use Rattle.run_opening.specs.Keepers.{Keep, interval_of, keep_if, keep_of, keeps_from, keeps_of}
use Rattle.run_opening.specs.declared.seats.KeepSeat.{KeepSeat}
use Rattle.run_opening.proofs.seats.+keep_seats_of.Goals.{in-Some-interval_of+in_ok-push, in_default-interval_of}
use Rattle.run_opening.proofs.seats.+keep_seats_of.Goals as goal

keeps_more : (place : ℕ) (front : List ChannelPlan) (plan : ChannelPlan) → keeps_from place (front ++ plan ∷ []) ≡ keeps_from place front ++ keep_if (place + length front) (interval_of plan.kind)
keeps_more place [] plan =
    let same : place ≡ place + 0 = omega arith in
    append-nil (keep_if place (interval_of plan.kind)) ∙ ap (λ (n : ℕ). keep_if n (interval_of plan.kind)) same
keeps_more place (p ∷ front) plan =
    let own = keep_if place (interval_of p.kind) in
    let last = interval_of plan.kind in
    let same : suc place + length front ≡ place + suc (length front) = omega arith in
    ap (λ (l : List Keep). own ++ l) (keeps_more (suc place) front plan) ∙ sym (append_assoc own (keeps_from (suc place) front) (keep_if (suc place + length front) last))
    ∙ ap (λ (n : ℕ). (own ++ keeps_from (suc place) front) ++ keep_if n last) same

-- one channel more, which is kept or is not
module _ {C : Type 0} (front plans : List ChannelPlan) (plan : ChannelPlan) (before after : List (KeepSeat C)) (is : plans ≡ front ++ plan ∷ []) (were : map (keep_of {C = C}) before ≡ keeps_of front) where
  keeps_next : (last : Option ℕ) → interval_of plan.kind ≡ last → map (keep_of {C = C}) after ≡ map (keep_of {C = C}) before ++ keep_if (length front) last → map (keep_of {C = C}) after ≡ keeps_of plans
  keeps_next last here then =
      let same : length front ≡ 0 + length front = omega arith in
      then ∙ (λ i. were i ++ keep_if (same i) (sym here i)) ∙ sym (keeps_more 0 front plan) ∙ ap (keeps_from 0) (sym is)

  kept_one : (seat : KeepSeat C) (interval : ℕ) → interval_of plan.kind ≡ Some interval → after ≡ before ++ seat ∷ [] → seat.channel ≡ length front → seat.interval ≡ interval
      → map (keep_of {C = C}) after ≡ keeps_of plans
  kept_one seat interval here pushed place often =
      keeps_next (Some interval) here
      (ap (map (keep_of {C = C})) pushed ∙ map-append (keep_of {C = C}) before (seat ∷ []) ∙ (λ i. map (keep_of {C = C}) before ++ record { channel = place i; interval = often i } ∷ []))

  kept_none : interval_of plan.kind ≡ None → after ≡ before → map (keep_of {C = C}) after ≡ keeps_of plans
  kept_none here same = keeps_next None here (ap (map (keep_of {C = C})) same ∙ sym (append-nil (map (keep_of {C = C}) before)))

pub returns-clause-seats : goal.returns-clause-seats
returns-clause-seats g t c =
    let C = g.row.H-Clock.Denot in
    let plan = c.in-Some.plan.now in
    let front = c.in-Some.front.now in
    let plans = c.args.plans.now in
    let before = c.in_ok-seats.seats.items in
    let split : plans ≡ front ++ plan ∷ [] = search rules in
    let own = sym c.interval_of.ensures in
    elim c.match-interval_of.branch [
      | in-Some-interval_of+in_ok-push w ↦
          let seat : KeepSeat C = record { channel = c.in-Ok.channel; interval = w.in-Some-interval_of.interval; clock = w.clock-clock.result } in
          let place : c.in-Ok.channel ≡ length front = search rules in
          kept_one {C = C} front plans plan before c.match-interval_of.seats.items split c.in_ok-seats.ensures.seats seat w.in-Some-interval_of.interval (own ∙ w.in-Some-interval_of.is)
          (ap (λ (v : Vec (KeepSeat C) Global). v.items) w.seats-is ∙ w.in_ok-push.ensures.items) place refl
      | in_default-interval_of w ↦
          kept_none {C = C} front plans plan before c.match-interval_of.seats.items split c.in_ok-seats.ensures.seats (own ∙ w.in_default-interval_of.is) (ap (λ (v : Vec (KeepSeat C) Global). v.items) w.seats-is)
    ]
