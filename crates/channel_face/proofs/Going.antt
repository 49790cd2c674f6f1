-- Calls of one's own, one after another.
use Rattle.std.proofs.Common.{◌≡◌, ℕ, List, [], ◌∷◌, ◌++◌, Bool, refl, sym, ◌∙◌, ap, subst, append_assoc}
use Rattle.std.proofs.lemmas.List.{append-nil}
use Rattle.channel_face.specs.Machine.{Call, State, Admits, after}
use Rattle.channel_face.specs.History.{Opening, opening, Step, by_pass, AddsOne, IsRun, Shows, state_after}
use Rattle.channel_face.specs.Faces.{Own, one, Gains}
use Rattle.channel_face.specs.OwnCalls.{steps_of, AreFrom, MadeOwn, HasMade, Was, Goes, Continues}
use Rattle.channel_face.proofs.Adding.{run-last, state-append, state-push}

abbrev pub Standing : Type 1
Standing = Opening → List Step → Type 0

steps_of-append : (x y : List Own) → steps_of (x ++ y) ≡ steps_of x ++ steps_of y
steps_of-append [] y = refl
steps_of-append (o ∷ x) y = ap (λ (l : List Step). record { pass = 0; call = o.call; moment = o.moment } ∷ l) (steps_of-append x y)

from-push : (s : State) (own : List Own) (call : Call) (before : State) (moment : ℕ) → AreFrom s own → before ≡ state_after s (steps_of own) → AreFrom s (own ++ one call before moment)
from-push s [] call before moment from is = (is, tt)
from-push s (o ∷ own) call before moment from is = (from.0, from-push (after s o.call) own call before moment from.1 is)

-- one call of one's own, made in a state of which something was shown
pub goes_shown_one : (tells : Bool) (a b : Standing) (F : State → Type 0) (call : Call) (moment : ℕ) → Shows a F → AddsOne a b call moment → ((start : Opening) (h : List Step) → b start h → IsRun tells (opening start) h)
    → Goes a b (λ own s more new. F s × (more ≡ one call s moment) × Admits tells s call × (new ≡ after s call))
goes_shown_one tells a b F call moment shows adds law start earlier own s made =
    let s0 : State = opening start in
    let h : List Step = earlier ++ steps_of own in
    let step : Step = record { pass = 0; call = call; moment = moment } in
    let stands : b start (h ++ step ∷ []) = adds start h 0 made.here in
    let longer : h ++ step ∷ [] ≡ earlier ++ steps_of (own ++ one call s moment) = append_assoc earlier (steps_of own) (step ∷ []) ∙ ap (λ (l : List Step). earlier ++ l) (sym (steps_of-append own (one call s moment))) in
    let may : Admits tells s call = subst (λ (v : State). Admits tells v call) made.state (run-last tells s0 h step (law start (h ++ step ∷ []) stands)) in
    let here : s ≡ state_after (state_after s0 earlier) (steps_of own) = sym made.state ∙ state-append s0 earlier (steps_of own) in
    let goes : state_after s0 (earlier ++ steps_of (own ++ one call s moment)) ≡ after s call = ap (λ (l : List Step). state_after s0 l) (sym longer) ∙ (state-push s0 h step ∙ ap (λ (v : State). after v call) made.state) in (
      one call s moment,
      after s call,
      record { here = subst (b start) longer stands; from = from-push (state_after s0 earlier) own call s moment made.from here; state = goes },
      (subst F made.state (shows start h made.here), refl, may, refl),
    )

-- one call of one's own, as the machine may answer it
pub goes_one : (tells : Bool) (a b : Standing) (call : Call) (moment : ℕ) → AddsOne a b call moment → ((start : Opening) (h : List Step) → b start h → IsRun tells (opening start) h)
    → Goes a b (λ own s more new. (more ≡ one call s moment) × Admits tells s call × (new ≡ after s call))
goes_one tells a b call moment adds law start earlier own s made =
    let went = goes_shown_one tells a b (λ v. Unit {0}) call moment (λ start h stands. tt) adds law start earlier own s made in
    (went.0, went.1, went.2, (went.3.1, went.3.2, went.3.3))

-- no call at all, but a look at the state in which the channel is
pub goes_shown : (a : Standing) (F : State → Type 0) → Shows a F → Goes a a (λ own s more new. F s × (more ≡ []) × (new ≡ s) × Was a own s)
goes_shown a F shows start earlier own s made = ([], s, subst (λ (l : List Own). MadeOwn a start earlier l s) (sym (append-nil own)) made, (subst F made.state (shows start (earlier ++ steps_of own) made.here), refl, refl, (start, earlier, made)))

-- no call, and the state stays
pub goes_none : (a : Standing) → Goes a a (λ own s more new. (more ≡ []) × (new ≡ s))
goes_none a start earlier own s made = ([], s, subst (λ (l : List Own). MadeOwn a start earlier l s) (sym (append-nil own)) made, (refl, refl))

-- calls of one's own, and then more of them, told as one
pub goes_then : (a b c : Standing) (P Q R : List Own → State → List Own → State → Type 0) → Goes a b P → Goes b c Q
    → ((own : List Own) (s : State) (x : List Own) (t : State) (y : List Own) (u : State) → P own s x t → Q (own ++ x) t y u → R own s (x ++ y) u) → Goes a c R
goes_then a b c P Q R first second join start earlier own s made =
    let f = first start earlier own s made in
    let g = second start earlier (own ++ f.0) f.1 f.2 in
    (f.0 ++ g.0, g.1, subst (λ (l : List Own). MadeOwn c start earlier l g.1) (append_assoc own f.0 g.0) g.2, join own s f.0 f.1 g.0 g.1 f.3 g.3)

-- what is told of calls of one's own may be told in other words
pub goes_as : (a b : Standing) (P Q : List Own → State → List Own → State → Type 0) → Goes a b P → ((own : List Own) (s : State) (x : List Own) (t : State) → P own s x t → Q own s x t) → Goes a b Q
goes_as a b P Q goes turn start earlier own s made = let f = goes start earlier own s made in (f.0, f.1, f.2, turn own s f.0 f.1 f.3)

-- what goes on by calls of one's own is a face that gains them
pub gains : (a b : Standing) (P : List Own → List Own → Type 0) → Goes a b (λ own s x t. P own x) → Gains (HasMade a) (HasMade b) P
gains a b P goes start earlier own made = let f = goes start earlier own made.0 made.1 in (f.0, (f.1, f.2), f.3)

-- each history goes on by one call
pub continues_one : (a b : Standing) (call : Call) (moment : ℕ) → AddsOne a b call moment → Continues a b
continues_one a b call moment adds start h stands = (by_pass 0 (record { call = call; moment = moment } ∷ []), adds start h 0 stands)
