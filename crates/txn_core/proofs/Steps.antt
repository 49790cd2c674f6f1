-- What the machine's calls are, as steps.
use Rattle.std.proofs.Common.{◌≡◌, ◌∙◌, ◌<◌, ◌≤◌, ◌-◌, ◌^◌, ◌++◌, ◌∷◌, [], ℕ, List, length, Option, Some, None, Ok, true, sym, ap}
use Rattle.event_core.specs.Content.{Content}
use Rattle.event_core.specs.declared.journal.Entry.{Entry}
use Rattle.event_core.specs.declared.journal.Entry.TheVariants.{Puts, Takes}
use Rattle.channel_face.specs.Token.{Token}
use Rattle.channel_face.specs.declared.replies.Kind.TheVariants.{File as OnFile}
use Rattle.channel_face.specs.Machine.{Reopen, Front, after_reopen, State, Call, StagePut, StageTake, puts_of, takes_of, stage_put_refusal, stage_take_refusal, next_number, ticket, stage}
use Rattle.channel_face.specs.declared.replies.Ticket.{Ticket}
use Rattle.channel_face.specs.History.{Moves, AddsOne, Shows, Opening, Step, opening, state_after, journal, kept_by}
use Rattle.channel_face.specs.Counters.{counts_with, counts_of}
use Rattle.channel_face.specs.declared.replies.Counts.{Counts}
use Rattle.channel_face.proofs.Leaving.{journal-push}
use Rattle.txn_core.specs.Shadow.{Journaled, Journals, StandsWith}
use Rattle.channel_face.proofs.Adding.{adds_counted, shows_counted, shows_counts}
use Rattle.txn_core.specs.Counted.{Counted, Makes, StandsAs}
use Rattle.txn_core.specs.Places.{IsAt}

-- staging a put is a move of the machine
pub staged_put : (s : State) (token : Token) (events : List Content) (place held first : ℕ) (given : Ticket) (new : State) → IsAt s.opened token.number place (Puts events) → puts_of s token ≡ Some events → held ≡ length events
    → stage_put_refusal s (Some events) ≡ None → first ≡ next_number s → given ≡ ticket s first held → new ≡ stage token.number (Some (Puts events)) s → Moves true s (StagePut token (Ok given)) new
staged_put s token events place held first given new at list size allowed first_is given_is new_is =
    record {
      admitted = rw list (allowed, given_is ∙ (ap (λ (n : ℕ). ticket s n held) first_is ∙ ap (λ (n : ℕ). ticket s (next_number s) n) size));
      state = new_is ∙ ap (λ (e : Option Entry). stage token.number e s) (sym at.entry_is);
    }

-- staging a take is a move of the machine
pub staged_take : (s : State) (token : Token) (numbers : List ℕ) (place held : ℕ) (given : Ticket) (new : State) → IsAt s.opened token.number place (Takes numbers) → takes_of s token ≡ Some numbers → held ≡ length numbers
    → stage_take_refusal s (Some numbers) ≡ None → given ≡ ticket s 0 held → new ≡ stage token.number (Some (Takes numbers)) s → Moves true s (StageTake token (Ok given)) new
staged_take s token numbers place held given new at list size allowed given_is new_is =
    record {
      admitted = rw list (allowed, given_is ∙ ap (λ (n : ℕ). ticket s 0 n) size);
      state = new_is ∙ ap (λ (e : Option Entry). stage token.number e s) (sym at.entry_is);
    }

-- a reopening that keeps a first part of what was staged is a move of the machine
pub restarted_so : (s old new : State) (k : ℕ) → s ≡ old → old.life < 2 ^ 64 - 1 → k ≤ length old.staged → old.rules.kind ≡ OnFile → new ≡ after_reopen s (Ok (record { kept = Front k; txn = s.txn })) → Moves true old (Reopen (Ok (record { kept = Front k; txn = old.txn }))) new
restarted_so s old new k same life few kind is =
    record {
      admitted = ((life, few), kind);
      state = is ∙ ap (λ (v : State). after_reopen v (Ok (record { kept = Front k; txn = v.txn }))) same;
    }

-- a call that the machine may make adds one step to what the counted state stands for
pub adds_made : (old : Counted) (call : Call) (new : Counted) → Makes old call new → AddsOne (StandsAs old) (StandsAs new) call 0
adds_made old call new makes = adds_counted old.state old.tally call new.state new.tally makes.moves makes.tally

-- what is true of the state is shown by what it stands for
pub shows_made : (c : Counted) (P : State → Type 0) → P c.state → Shows (StandsAs c) P
shows_made c P is = shows_counted c.state c.tally P is

-- a call that the journal goes on with adds one step to what the state stands for
pub adds_journaled : (old : Journaled) (call : Call) (new : Journaled) → Journals old call new → AddsOne (StandsWith old) (StandsWith new) call 0
adds_journaled old call new steps start h pass stands =
    let step : Step = record { pass = pass; call = call; moment = 0 } in
    let s : State = state_after (opening start) h in
    let here : s ≡ old.counted.state = stands.0.0.1 in
    let longer : journal (opening start) (h ++ step ∷ []) ≡ new.journal =
    journal-push (opening start) h step ∙ (ap (λ (v : State). journal (opening start) h ++ kept_by v call) here ∙ (ap (λ (l : List Entry). l ++ kept_by old.counted.state call) stands.1 ∙ sym steps.journal)) in
    (adds_made old.counted call new.counted steps.makes start h pass stands.0, longer)

-- what is true of the state is shown also with its journal
pub shows_journaled : (j : Journaled) (P : State → Type 0) → P j.counted.state → Shows (StandsWith j) P
shows_journaled j P is start h stands = shows_made j.counted P is start h stands.0

-- the counts with a journal are those of the calls so far
pub counts_journaled : (j : Journaled) (counts : Counts) → counts ≡ counts_with j.counted.tally j.counted.state → (start : Opening) (h : List Step) → StandsWith j start h → counts ≡ counts_of start h
counts_journaled j counts is start h stands = shows_counts j.counted.state j.counted.tally counts is start h stands.0
