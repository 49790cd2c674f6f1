-- What a crash may leave, as calls are added.
use Rattle.std.proofs.Common.{◌≡◌, ◌++◌, ◌∷◌, [], ℕ, zero, suc, List, take, refl, sym, ◌∙◌, ap, append_assoc}
use Rattle.std.proofs.lemmas.List.{append-nil}
use Rattle.event_core.specs.Journal.{Base, after_journal}
use Rattle.event_core.specs.declared.journal.Entry.{Entry}
use Rattle.channel_face.specs.Machine.{State, after}
use Rattle.channel_face.specs.History.{Opening, opening, Step, state_after, journal, kept_by, MayLeave}
use Rattle.channel_face.proofs.Adding.{state-push}

-- one call more adds to the journal what it settled or kept
pub journal-push : (s : State) (h : List Step) (step : Step) → journal s (h ++ step ∷ []) ≡ journal s h ++ kept_by (state_after s h) step.call
journal-push s [] step = append-nil (kept_by s step.call)
journal-push s (x ∷ h) step = ap (λ (l : List Entry). kept_by s x.call ++ l) (journal-push (after s x.call) h step) ∙ sym (append_assoc (kept_by s x.call) (journal (after s x.call) h) (kept_by (state_after (after s x.call) h) step.call))

front_of_more : (xs ys : List Entry) (k : ℕ) → (j : ℕ) × (take k xs ≡ take j (xs ++ ys))
front_of_more [] ys zero = (0, refl)
front_of_more [] ys (suc k) = (0, refl)
front_of_more (x ∷ xs) ys zero = (0, refl)
front_of_more (x ∷ xs) ys (suc k) = let more = front_of_more xs ys k in (suc more.0, ap (λ (l : List Entry). x ∷ l) more.1)

-- a call that settles nothing, and only adds to what is staged, leaves at least what might be left before
pub leaves_as_before : (o : Opening) (h : List Step) (step : Step) (more : List Entry) (found : Base)
    → kept_by (state_after (opening o) h) step.call ≡ [] → (after (state_after (opening o) h) step.call).staged ≡ (state_after (opening o) h).staged ++ more
    → MayLeave o h found → MayLeave o (h ++ step ∷ []) found
leaves_as_before o h step more found settles_none stages may =
    let s : State = state_after (opening o) h in
    let front = front_of_more s.staged more may.0 in
    let same_journal : journal (opening o) (h ++ step ∷ []) ≡ journal (opening o) h = journal-push (opening o) h step ∙ (ap (λ (l : List Entry). journal (opening o) h ++ l) settles_none ∙ append-nil (journal (opening o) h)) in
    let staged : (state_after (opening o) (h ++ step ∷ [])).staged ≡ s.staged ++ more = ap (λ (v : State). v.staged) (state-push (opening o) h step) ∙ stages in
    (front.0, may.1 ∙ ap (λ (l : List Entry). after_journal o.base (journal (opening o) h ++ l)) front.1 ∙ rw (same_journal, staged) refl)
