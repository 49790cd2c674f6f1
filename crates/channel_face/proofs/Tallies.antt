-- What is counted goes on call by call.
use Rattle.std.proofs.Common.{◌≡◌, ◌+◌, ◌-◌, ◌^◌, ◌++◌, ◌∷◌, [], ℕ, List, length, min, refl, ◌∙◌, ap, arith}
use Rattle.event_core.specs.Journal.{put_events, taken_numbers}
use Rattle.channel_face.specs.Machine.{State, after}
use Rattle.channel_face.specs.History.{Step, state_after, settled_by}
use Rattle.channel_face.specs.Counters.{put_calls, take_calls, put_attempts, take_attempts, put_successes, take_successes, capped, Tally, tally, counted}

capped_more : (a b most : ℕ) → min (a + b) most ≡ min (min a most + b) most
capped_more a b most = omega arith

capped-add : (a b : ℕ) → capped (a + b) ≡ capped (capped a + b)
capped-add a b = capped_more a b (2 ^ 64 - 1)

puts-push : (h : List Step) (step : Step) → put_attempts (h ++ step ∷ []) ≡ put_attempts h + put_calls step.call
puts-push [] step = omega arith
puts-push (x ∷ h) step = omega (arith, puts-push h step)

takes-push : (h : List Step) (step : Step) → take_attempts (h ++ step ∷ []) ≡ take_attempts h + take_calls step.call
takes-push [] step = omega arith
takes-push (x ∷ h) step = omega (arith, takes-push h step)

put_done-push : (s : State) (h : List Step) (step : Step) → put_successes s (h ++ step ∷ []) ≡ put_successes s h + length (put_events (settled_by (state_after s h) step.call))
put_done-push s [] step = omega arith
put_done-push s (x ∷ h) step = omega (arith, put_done-push (after s x.call) h step)

take_done-push : (s : State) (h : List Step) (step : Step) → take_successes s (h ++ step ∷ []) ≡ take_successes s h + length (taken_numbers (settled_by (state_after s h) step.call))
take_done-push s [] step = omega arith
take_done-push s (x ∷ h) step = omega (arith, take_done-push (after s x.call) h step)

same_tally : (a b : Tally) → a.put_attempts ≡ b.put_attempts → a.put_successes ≡ b.put_successes → a.take_attempts ≡ b.take_attempts → a.take_successes ≡ b.take_successes → a ≡ b
same_tally a b x y z w = rw (x, y, z, w) refl

-- what is counted of a history with one call more
pub tally-push : (s : State) (h : List Step) (step : Step) → tally s (h ++ step ∷ []) ≡ counted (state_after s h) step.call (tally s h)
tally-push s h step = same_tally (tally s (h ++ step ∷ [])) (counted (state_after s h) step.call (tally s h))
    (ap capped (puts-push h step) ∙ capped-add (put_attempts h) (put_calls step.call))
    (ap capped (put_done-push s h step) ∙ capped-add (put_successes s h) (length (put_events (settled_by (state_after s h) step.call))))
    (ap capped (takes-push h step) ∙ capped-add (take_attempts h) (take_calls step.call))
    (ap capped (take_done-push s h step) ∙ capped-add (take_successes s h) (length (taken_numbers (settled_by (state_after s h) step.call))))
