-- A channel's history goes on by one call, and what a history gives.
use Rattle.std.proofs.Common.{◌≡◌, ◌++◌, ◌∷◌, [], List, true, sym, ◌∙◌, ap, subst, arith}
use Rattle.event_core.specs.Journal.{Base, IsBase, IsJournal, IsWellFormed, after_journal}
use Rattle.event_core.specs.declared.journal.Entry.{Entry}
use Rattle.channel_face.specs.Machine.{State, Call, Admits, after, base_of}
use Rattle.channel_face.specs.History.{Step as Made, opening, state_after, journal, kept_by}
use Rattle.channel_face.specs.Laws.{ReadsNone, KeepsFront}
use Rattle.channel_face.proofs.Adding.{run-push, state-push}
use Rattle.channel_face.proofs.Leaving.{journal-push}
use Rattle.channel_face.specs.Sound.{IsSoundState}
use Rattle.channel_face.proofs.Sound.{sound_run}
use Rattle.channel_face.proofs.LawLemmas.{sound_opening, stands_for, commits_formed}
use Rattle.world_laws.specs.World.{Channel, commits}
use Rattle.world_laws.specs.Held.{IsHistory, Balances, nothing}

-- one more call that keeps the front, after calls that did so
pub all_push : (calls : List Made) (m : Made) → ReadsNone calls → KeepsFront m.call → ReadsNone (calls ++ m ∷ [])
all_push [] m all one = (one, tt)
all_push (c ∷ calls) m all one = (all.0, all_push calls m all.1 one)

-- one more call
pub history_call : (s s' : State) (j j' : List Entry) (call : Call) → IsHistory s j → Admits true s call → KeepsFront call → after s call ≡ s' → j ++ kept_by s call ≡ j' → s'.rules ≡ s.rules → IsHistory s' j'
history_call s s' j j' call h may front state settled rules =
    let m : Made = record { pass = 0; call = call; moment = 0 } in
    record {
      start = h.start;
      calls = h.calls ++ m ∷ [];
      empty = h.empty;
      kind = ap (λ r. r.kind) rules ∙ h.kind;
      run = run-push true (opening h.start) h.calls m h.run (subst (λ (x : State). Admits true x call) (sym h.state) may);
      fronts = all_push h.calls m h.fronts front;
      state = state-push (opening h.start) h.calls m ∙ (ap (λ (x : State). after x call) h.state ∙ state);
      journal_is = journal-push (opening h.start) h.calls m ∙ (ap (λ (x : State). journal (opening h.start) h.calls ++ kept_by x call) h.state ∙ (ap (λ (l : List Entry). l ++ kept_by s call) h.journal_is ∙ settled));
    }

empty_base : (b : Base) → b ≡ nothing → IsBase b
empty_base b is = subst IsBase (sym is) (record { rising = λ k le. absurd (omega (arith, le)); below = tt })

-- a state that has a history is sound
pub sound_is : (s : State) (j : List Entry) → IsHistory s j → IsSoundState s
sound_is s j h = subst IsSoundState h.state (sound_run true (opening h.start) h.calls (sound_opening h.start (empty_base h.start.base h.empty)) h.run)

-- what is left is what the journal leaves, and no number is taken twice
pub balances : (c : Channel) → IsHistory c.state c.journal → Balances c
balances c h =
    let o : State = opening h.start in
    let sound = sound_opening h.start (empty_base h.start.base h.empty) in
    let left = stands_for true o h.calls sound h.run h.fronts in
    let formed = commits_formed true o h.calls sound h.run h.fronts in
    let all : journal o h.calls ++ (state_after o h.calls).staged ≡ commits c = ap (λ (l : List Entry). l ++ (state_after o h.calls).staged) h.journal_is ∙ ap (λ (s : State). c.journal ++ s.staged) h.state in
    record {
      left = ap base_of (sym h.state) ∙ (left ∙ (ap (λ (b : Base). after_journal b (journal o h.calls)) h.empty ∙ ap (λ (l : List Entry). after_journal nothing l) h.journal_is));
      formed = subst (λ (l : List Entry). IsWellFormed nothing l) all (subst (λ (b : Base). IsWellFormed b (journal o h.calls ++ (state_after o h.calls).staged)) h.empty formed.0);
      full = subst IsJournal all formed.1;
    }
