-- Trails go on with each call, and those that are not counted left none.
use Rattle.std.proofs.Common.{◌≡◌, ℕ, List, [], ◌∷◌, ◌++◌, Option, Bool, true, false, cond, true≢false, refl, sym, ◌∙◌, ap, subst}
use Rattle.std.specs.Prelude.{◌||◌}
use Rattle.flume_host.specs.Told.{Tells, Told}
use Rattle.channel_face.specs.History.{AddsOne, Opening, Shows, Step, opening, state_after}
use Rattle.channel_face.specs.Machine.{State, Call, BeginPut, BeginTake, Put, Take, StagePut, StageTake, Flush, RollbackPut, RollbackTake, Checkpoint, Prune, Reopen, after, close}
use Rattle.channel_face.proofs.Adding.{state-push}
use Rattle.channel_lock.specs.Calls.{keep}
use Rattle.channel_writing.specs.Stands.{has_fault, is_fault}
use Rattle.file_channel.specs.Stands.{FileState, StandsOver}
use Rattle.channel_writing.specs.Touches.{Flushed, Rests, flushes}
use Rattle.shared_channel.specs.Counting.{counted_calls, is_counted}
use Rattle.agent_commands.specs.Trails.{Began, FindsLog, StandsTraced, Touches, Trail, may_change}

trail_push : (s : State) (told mid told' : Option Told) (h : List Step) (step : Step) → Trail s told h mid → Touches (state_after s h) step.call mid told' → Trail s told (h ++ step ∷ []) told'
trail_push s told mid told' [] step trail touch = (told', subst (λ (o : Option Told). Touches s step.call o told') trail touch, refl)
trail_push s told mid told' (x ∷ h) step trail touch = (trail.0, trail.1, trail_push (after s x.call) trail.0 mid told' h step trail.2 touch)

-- the channel's next call
module _ (told told' : Option Told) (faults faults' : ℕ) (c c' : FileState) (call : Call) (moment : ℕ) (step : AddsOne (StandsOver told faults c) (StandsOver told' faults' c') call moment) (rests : Shows (StandsOver told' faults' c') (Rests told')) where
  -- a traced channel's next call adds one step to its trail
  pub adds : (may_change call ≡ false → told' ≡ told) → Shows (StandsOver told faults c) (λ s. flushes call ≡ true → Tells told told' (Flushed s)) → Shows (StandsOver told faults c) (λ s. FindsLog s call told)
      → AddsOne (StandsTraced told faults c) (StandsTraced told' faults' c') call moment
  adds quiet flushed log start h pass st =
      let e : Step = record { pass = pass; call = call; moment = moment } in
      let next : StandsOver told' faults' c' start (h ++ e ∷ []) = step start h pass st.stands in
      record {
        stands = next;
        first = st.first;
        began = st.began;
        trail = trail_push (opening start) st.first told told' h e st.trail
            (record { quiet = quiet; flushed = flushed start h st.stands; log = log start h st.stands; rests = subst (Rests told') (state-push (opening start) h e) (rests start (h ++ e ∷ []) next) });
      }

  -- which lays a checkpoint, removes old files or opens the folder anew
  pub adds_keeping : may_change call ≡ true → flushes call ≡ false → ((s : State) → FindsLog s call told) → AddsOne (StandsTraced told faults c) (StandsTraced told' faults' c') call moment
  adds_keeping may none log = adds (λ no. absurd (true≢false (sym may ∙ no))) (λ start h st yes. absurd (true≢false (sym yes ∙ none))) (λ start h st. log (state_after (opening start) h))

  -- which came to no flush
  pub adds_quietly : told' ≡ told → flushes call ≡ false → ((s : State) → FindsLog s call told) → AddsOne (StandsTraced told faults c) (StandsTraced told' faults' c') call moment
  adds_quietly same none log = adds (λ _. same) (λ start h st yes. absurd (true≢false (sym yes ∙ none))) (λ start h st. log (state_after (opening start) h))

-- a call that is not counted changed nothing
uncounted : (s : State) (call : Call) → is_counted call ≡ false → (after s call ≡ s) × (may_change call ≡ false) × (is_fault call ≡ false)
uncounted s (BeginPut r) not = absurd (true≢false not)
uncounted s (BeginTake r) not = absurd (true≢false not)
uncounted s (Put t e r) not = absurd (true≢false not)
uncounted s (Take t r) not = absurd (true≢false not)
uncounted s (StagePut t r) not = absurd (true≢false not)
uncounted s (StageTake t r) not = absurd (true≢false not)
uncounted s (Flush r) not = absurd (true≢false not)
uncounted s (RollbackPut t b) not = (ap (λ (x : Bool). cond x (close t.number s) s) not, refl, refl)
uncounted s (RollbackTake t b) not = (ap (λ (x : Bool). cond x (close t.number s) s) not, refl, refl)
uncounted s (Checkpoint r) not = absurd (true≢false not)
uncounted s (Prune r) not = absurd (true≢false not)
uncounted s (Reopen r) not = absurd (true≢false not)

trail_keep : (b : Bool) (s : State) (told mid told' : Option Told) (step : Step) (h : List Step) → is_counted step.call ≡ b → Touches s step.call told mid → Trail (after s step.call) mid h told' → Trail s told (keep b step h) told'
trail_keep true s told mid told' step h is touch trail = (mid, touch, trail)
trail_keep false s told mid told' step h is touch trail =
    let none = uncounted s step.call is in
    subst (λ (x : State × Option Told). Trail x.0 x.1 h told') (λ i. (none.0 i, touch.quiet none.1 i)) trail

-- calls that are not counted may be left out of a trail
pub trail_counted : (s : State) (told told' : Option Told) (all : List Step) → Trail s told all told' → Trail s told (counted_calls all) told'
trail_counted s told told' [] trail = trail
trail_counted s told told' (step ∷ all) trail = trail_keep (is_counted step.call) s told trail.0 told' step (counted_calls all) refl trail.1 (trail_counted (after s step.call) trail.0 told' all trail.2)

fault_keep : (b : Bool) (step : Step) (all h : List Step) → is_counted step.call ≡ b → (s : State) → has_fault all ≡ has_fault h → is_fault step.call || has_fault all ≡ has_fault (keep b step h)
fault_keep true step all h is s same = ap (λ (x : Bool). is_fault step.call || x) same
fault_keep false step all h is s same = ap (λ (x : Bool). x || has_fault all) (uncounted s step.call is).2 ∙ same

-- calls that are not counted have no fault
pub fault_counted : (s : State) (all : List Step) → has_fault all ≡ has_fault (counted_calls all)
fault_counted s [] = refl
fault_counted s (step ∷ all) = fault_keep (is_counted step.call) step all (counted_calls all) refl s (fault_counted s all)

-- after an opening: the first trail is none
pub traced_at_first : (told : Option Told) (faults : ℕ) (c : FileState) (start : Opening) → StandsOver told faults c start [] → Began told start → StandsTraced told faults c start []
traced_at_first told faults c start stands began = record { stands = stands; first = told; began = began; trail = refl }
