-- Calls after calls.
use Rattle.std.proofs.Common.{◌≡◌, ℕ, List, [], ◌∷◌, ◌++◌, true, refl, sym, ◌∙◌, ap, subst, append_assoc}
use Rattle.channel_face.specs.Machine.{Call, State, Admits, after}
use Rattle.channel_face.specs.History.{Opening, opening, Step, Said, by_pass, Adds, AddsOne, IsRun, state_after, Moves, Shows, StandsFor}
use Rattle.channel_face.specs.Counters.{Tally, tally, counted, counts_of, counts_with, StandsCounted}
use Rattle.channel_face.specs.declared.replies.Counts.{Counts}
use Rattle.channel_face.proofs.Tallies.{tally-push}

by_pass-append : (pass : ℕ) (x y : List Said) → by_pass pass (x ++ y) ≡ by_pass pass x ++ by_pass pass y
by_pass-append pass [] y = refl
by_pass-append pass (s ∷ x) y = ap (λ (l : List Step). record { pass = pass; call = s.call; moment = s.moment } ∷ l) (by_pass-append pass x y)

-- what gains some calls, and then others, gains both in a row
pub adds_then : (a b c : Opening → List Step → Type 0) (x y : List Said) → Adds a b x → Adds b c y → Adds a c (x ++ y)
adds_then a b c x y f g start h pass stands =
    subst (c start) (append_assoc h (by_pass pass x) (by_pass pass y) ∙ ap (λ (l : List Step). h ++ l) (sym (by_pass-append pass x y))) (g start (h ++ by_pass pass x) pass (f start h pass stands))

-- a run goes on by one call
pub run-push : (tells : _) (s : State) (h : List Step) (step : Step) → IsRun tells s h → Admits tells (state_after s h) step.call → IsRun tells s (h ++ step ∷ [])
run-push tells s [] step run may = (may, tt)
run-push tells s (x ∷ h) step run may = (run.0, run-push tells (after s x.call) h step run.1 may)

-- the state after one call more
pub state-push : (s : State) (h : List Step) (step : Step) → state_after s (h ++ step ∷ []) ≡ after (state_after s h) step.call
state-push s [] step = refl
state-push s (x ∷ h) step = state-push (after s x.call) h step

-- the state after two histories, one behind the other
pub state-append : (s : State) (x y : List Step) → state_after s (x ++ y) ≡ state_after (state_after s x) y
state-append s [] y = refl
state-append s (step ∷ x) y = state-append (after s step.call) x y

-- the last call of a run was answered as the state before it allows
pub run-last : (tells : _) (s : State) (h : List Step) (step : Step) → IsRun tells s (h ++ step ∷ []) → Admits tells (state_after s h) step.call
run-last tells s [] step run = run.0
run-last tells s (x ∷ h) step run = run-last tells (after s x.call) h step run.1

-- a move adds its call to what a state stands for
pub adds : (old : State) (call : Call) (new : State) → Moves true old call new → AddsOne (StandsFor old) (StandsFor new) call 0
adds old call new moves start h pass stands =
    let step : Step = record { pass = pass; call = call; moment = 0 } in
    let may : Admits true (state_after (opening start) h) call = subst (λ (s : State). Admits true s call) (sym stands.1) moves.admitted in
    let so : state_after (opening start) (h ++ step ∷ []) ≡ new = state-push (opening start) h step ∙ (ap (λ (s : State). after s call) stands.1 ∙ sym moves.state) in
    (run-push true (opening start) h step stands.0 may, so, stands.2)

-- what is true of the state that a channel stands for, it shows
pub shows : (s : State) (P : State → Type 0) → P s → Shows (StandsFor s) P
shows s P is start h stands = subst P (sym stands.1) is

-- the same with what is counted
pub adds_counted : (old : State) (t : Tally) (call : Call) (new : State) (t' : Tally) → Moves true old call new → t' ≡ counted old call t → AddsOne (StandsCounted old t) (StandsCounted new t') call 0
adds_counted old t call new t' moves is start h pass stands =
    let step : Step = record { pass = pass; call = call; moment = 0 } in
    let count : tally (opening start) (h ++ step ∷ []) ≡ counted (state_after (opening start) h) call (tally (opening start) h) = tally-push (opening start) h step in
    let same : counted (state_after (opening start) h) call (tally (opening start) h) ≡ counted old call t = ap (λ (s : State). counted s call (tally (opening start) h)) stands.0.1 ∙ ap (λ (u : Tally). counted old call u) stands.1 in
    (adds old call new moves start h pass stands.0, count ∙ (same ∙ sym is))

-- it shows that also where the calls are counted
pub shows_counted : (s : State) (t : Tally) (P : State → Type 0) → P s → Shows (StandsCounted s t) P
shows_counted s t P is start h stands = subst P (sym stands.0.1) is

-- counts that were made of a state and its tally are those of its history
pub shows_counts : (s : State) (t : Tally) (counts : Counts) → counts ≡ counts_with t s → (start : Opening) (h : List Step) → StandsCounted s t start h → counts ≡ counts_of start h
shows_counts s t counts is start h stands = is ∙ (sym (ap (λ (v : State). counts_with t v) stands.0.1) ∙ sym (ap (λ (u : Tally). counts_with u (state_after (opening start) h)) stands.1))
