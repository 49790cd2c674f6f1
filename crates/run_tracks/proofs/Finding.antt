-- A sink run that found no event, call by call.
use Rattle.std.proofs.Common.{◌≡◌, ◌∙◌, ◌<◌, ◌≤◌, inl, inr, ℕ, List, [], ◌∷◌, ◌++◌, length, Option, Some, None, Result, Ok, Err, Bool, true, false, refl, sym, ap, subst, append_assoc, arith}
use Rattle.std.proofs.lemmas.List.{append-nil, append_cancel_left}
use Rattle.channel_face.specs.Faces.{IsTake, Own}
use Rattle.channel_face.specs.History.{IsRun, Opening, Step, opening, state_after}
use Rattle.channel_face.specs.Machine.{Admits, BeginTake, Call, Gives, State, Take, after, entries, first_event, free}
use Rattle.channel_face.specs.Token.{Token}
use Rattle.channel_face.specs.declared.replies.BeginRefused.TheVariants as begins
use Rattle.channel_face.specs.declared.replies.PutRefused.TheVariants as puts
use Rattle.channel_face.specs.declared.replies.TakeRefused.TheVariants as takes
use Rattle.channel_face.specs.declared.replies.Taken.{Taken}
use Rattle.channel_face.specs.declared.replies.FaceRefused.{FaceRefused}
use Rattle.channel_face.specs.declared.replies.FaceRefused.TheVariants as face
use Rattle.channel_face.proofs.Numbers.{taken_numbers-append, without_none}
use Rattle.channel_face.proofs.Opened.{entries-append}
use Rattle.event_core.specs.Content.{Content}
use Rattle.event_core.specs.Journal.{taken_numbers, without}
use Rattle.event_core.specs.declared.journal.Entry.TheVariants.{Takes}
use Rattle.plug_in.specs.declared.sink.SinkRefused.{SinkRefused}
use Rattle.plug_in.specs.declared.sink.SinkRefused.TheVariants as sinks
use Rattle.shared_channel.specs.Calls.{state_seen}
use Rattle.shared_channel.specs.Passes.{Known}
use Rattle.shared_channel.specs.Ports.{own_calls, own_if, owned}
use Rattle.shared_channel.proofs.Porting.{own-append}
use Rattle.sink_runner.specs.Turns.{AreTakenUpTo, EndsTurn, IsTurn, turn_refused}
use Rattle.sink_runner.specs.declared.turn.Turn.{Turn}
use Rattle.sink_runner.specs.declared.turn.Turn.TheVariants.{Empty, NoMemory}
use Rattle.sink_worker.specs.Rounds.{Told}
use Rattle.channel_lock.specs.Calls.{Below, has}
use Rattle.run_tracks.specs.Found.{EmptyFoundNone, IsNoneHeld}
use Rattle.run_tracks.specs.Told.{IsFace}

-- no refusal is a run that found no event
refused_some : (refused : FaceRefused) → turn_refused refused ≡ Empty → ⊥
refused_some (face.Begin begins.Broken) e = cc
refused_some (face.Begin (begins.TooManyOpen held)) e = cc
refused_some (face.Begin (begins.Spent counter)) e = cc
refused_some (face.Begin begins.NoMemory) e = cc
refused_some (face.Put puts.Stale) e = cc
refused_some (face.Put puts.Broken) e = cc
refused_some (face.Put (puts.Spent counter)) e = cc
refused_some (face.Put (puts.TxnFull count)) e = cc
refused_some (face.Put (puts.TooLarge size)) e = cc
refused_some (face.Put (puts.Full count)) e = cc
refused_some (face.Put puts.DiskFault) e = cc
refused_some (face.Put puts.NoMemory) e = cc
refused_some (face.Take takes.Stale) e = cc
refused_some (face.Take takes.Broken) e = cc
refused_some (face.Take (takes.Spent counter)) e = cc
refused_some (face.Take (takes.TxnFull count)) e = cc
refused_some (face.Take takes.ReadFault) e = cc
refused_some (face.Take (takes.Damaged kept found)) e = cc
refused_some (face.Take takes.NoMemory) e = cc
refused_some (face.Take takes.DiskFault) e = cc
refused_some (face.Stage cause) e = cc
refused_some face.InDoubt e = cc

-- The first two calls of such a run: a transaction was begun, and a take of it gave none.
pub record TookNone (more : List Own) : Type 0 where
  pub token : Token
  pub taken : Taken
  pub none : taken.event ≡ None
  pub begun_in : State
  pub took_in : State
  pub begun_at : ℕ
  pub took_at : ℕ
  pub rest : List Own
  pub calls : more ≡ record { call = BeginTake (Ok token); before = begun_in; moment = begun_at } ∷ record { call = Take token (Ok taken); before = took_in; moment = took_at } ∷ rest

-- a take that gave none
pub record GaveNone (token : Token) (own : List Own) : Type 0 where
  pub taken : Taken
  pub none : taken.event ≡ None
  pub before : State
  pub at : ℕ
  pub is : own ≡ record { call = Take token (Ok taken); before = before; moment = at } ∷ []

event_none : (taken : Taken) → ◌≡◌ {A = Result (Option Content) FaceRefused} (Ok None) (Ok taken.event) → taken.event ≡ None
event_none taken told = cc

same_token : (given token : Token) → ◌≡◌ {A = Result Token FaceRefused} (Ok token) (Ok given) → given ≡ token
same_token given token told = cc

gave_none : (seen : ℕ) (token : Token) (own : List Own) → IsTake seen token (Ok None) own → GaveNone token own
gave_none seen token own (Ok taken, s, (moment, is), told) = record { taken = taken; none = event_none taken told; before = s; at = moment; is = is }
gave_none seen token own (Err refused, s, made, told) = absurd (cc)

module _ {S : Type 0} (saw : List Own → State → Type 0) (seen : ℕ) (delivers : S → List Content → ℕ → Result (Unit {0}) SinkRefused → S → Type 0) (batch moment : ℕ) (some : 1 ≤ batch) where
  -- how the takes ended
  ended_none : (token : Token) (events : List Content) (stop : Result (Unit {0}) Turn) (takes : List Own) (sink later : S) (earlier ending : List Own) → AreTakenUpTo seen token batch events stop takes → EndsTurn saw seen delivers token events moment sink stop Empty later earlier ending → GaveNone token takes
  ended_none token [] (Ok done) takes sink later earlier ending (room, (first, last, split, all, inl (none, full))) over = absurd (full (omega (arith, some), omega arith))
  ended_none token [] (Ok done) takes sink later earlier ending (room, (first, last, split, all, inr (left, take))) over =
      gave_none seen token takes (subst (λ (l : List Own). IsTake seen token (Ok None) l) (sym (split ∙ ap (λ (l : List Own). l ++ last) all)) take)
  ended_none token (event ∷ events) (Ok done) takes sink later earlier ending up (Ok sent, delivery, (Ok committed, commit, is)) = absurd (cc)
  ended_none token (event ∷ events) (Ok done) takes sink later earlier ending up (Ok sent, delivery, (Err refused, commit, is)) = absurd (refused_some refused (sym is))
  ended_none token (event ∷ events) (Ok done) takes sink later earlier ending up (Err sinks.Refused, delivery, (back, is)) = absurd (cc)
  ended_none token (event ∷ events) (Ok done) takes sink later earlier ending up (Err sinks.NoMemory, delivery, (back, is)) = absurd (cc)
  ended_none token events (Err turn) takes sink later earlier ending (room, (first, last, split, all, inl (left, (refused, take, is)))) (back, over, same) = absurd (refused_some refused (sym (over ∙ is)))
  ended_none token events (Err turn) takes sink later earlier ending (room, (first, last, split, all, inr (none, had, is))) (back, over, same) = absurd (none_memory (over ∙ is))
    where
      none_memory : Empty ≡ NoMemory → ⊥
      none_memory e = cc

  -- the run's calls
  pub turn_none : (sink later : S) (earlier more : List Own) → IsTurn saw seen delivers batch moment sink Empty later earlier more → TookNone more
  turn_none sink later earlier more (Err refused, first, rest, split, begun, (none, is, same)) = absurd (refused_some refused (sym is))
  turn_none sink later earlier more (Ok token, first, rest, split, (Err refused, s, made, told), last) = absurd (cc)
  turn_none sink later earlier more (Ok token, first, rest, split, (Ok given, s, (at, is), told), (events, stop, takes, ending, parts, up, over)) =
      let got = ended_none token events stop takes sink later ((earlier ++ first) ++ takes) ending up over in
      let same : given ≡ token = same_token given token told in
      record {
        token = token;
        taken = got.taken;
        none = got.none;
        begun_in = s;
        took_in = got.before;
        begun_at = at;
        took_at = got.at;
        rest = ending;
        calls = split ∙ (λ i. is i ++ parts i) ∙ (λ i. record { call = BeginTake (Ok (same i)); before = s; moment = at } ∷ (got.is i ++ ending));
      }

-- the machine's answers after a front
run_behind : (tells : Bool) (s : State) (a b : List Step) → IsRun tells s (a ++ b) → IsRun tells (state_after s a) b
run_behind tells s [] b run = run
run_behind tells s (x ∷ a) b run = run_behind tells (after s x.call) a b run.1

below_behind : (bound : ℕ) (a b : List Step) → Below bound (a ++ b) → Below bound b
below_behind bound [] b below = below
below_behind bound (x ∷ a) b below = below_behind bound a b below.1

-- two own calls, where all calls are own, follow each other
two_calls : (tells : Bool) (ns : List ℕ) (bound : ℕ) (s : State) (d e : List Step) (o p : Own) (rest : List Own) → ((n : ℕ) → n < bound → has ns n ≡ true) → Below bound (d ++ e) → IsRun tells s (d ++ e) → own_calls ns s d ≡ o ∷ p ∷ rest → Admits tells (after s o.call) p.call
two_calls tells ns bound s [] e o p rest all below run own = absurd (cc)
two_calls tells ns bound s (x ∷ []) e o p rest all below run own = absurd (alone (has ns x.pass) own)
  where
    alone : (b : Bool) → own_if b (record { call = x.call; before = s; moment = x.moment }) [] ≡ o ∷ p ∷ rest → ⊥
    alone true same = cc
    alone false same = cc
two_calls tells ns bound s (x ∷ y ∷ d) e o p rest all below run own =
    let first : own_if true (record { call = x.call; before = s; moment = x.moment }) (own_if true (record { call = y.call; before = after s x.call; moment = y.moment }) (own_calls ns (after (after s x.call) y.call) d)) ≡ o ∷ p ∷ rest =
    (λ i. own_if (sym (all x.pass below.0) i) (record { call = x.call; before = s; moment = x.moment }) (own_if (sym (all y.pass below.1.0) i) (record { call = y.call; before = after s x.call; moment = y.moment }) (own_calls ns (after (after s x.call) y.call) d))) ∙ own in
    both first
  where
    both : record { call = x.call; before = s; moment = x.moment } ∷ record { call = y.call; before = after s x.call; moment = y.moment } ∷ own_calls ns (after (after s x.call) y.call) d ≡ o ∷ p ∷ rest → Admits tells (after s o.call) p.call
    both same =
        let o_is : x.call ≡ o.call = ap (λ (q : Own). q.call) (heads same) in
        let p_is : y.call ≡ p.call = ap (λ (q : Own). q.call) (heads (tails same)) in
        subst (λ (q : Call × Call). Admits tells (after s q.0) q.1) (λ i. (o_is i, p_is i)) run.1.0
      where
        heads : {a b : Own} {xs ys : List Own} → a ∷ xs ≡ b ∷ ys → a ≡ b
        heads e = cc

        tails : {a b : Own} {xs ys : List Own} → a ∷ xs ≡ b ∷ ys → xs ≡ ys
        tails e = cc

none_free : (tells : Bool) (items : List (ℕ × Content)) (given : Option Content) → given ≡ None → Gives tells (first_event items) given → items ≡ []
none_free tells [] given none gives = refl
none_free true (x ∷ items) given none gives = absurd (cc)
none_free false (x ∷ items) None none gives = absurd gives
none_free false (x ∷ items) (Some e) none gives = absurd (cc)

-- a transaction that was begun holds nothing
free_begun : (s : State) (token : Token) → free (after s (BeginTake (Ok token))) ≡ free s
free_begun s token =
    let new = (s.txn, Takes []) ∷ [] in
    let held : taken_numbers (entries (s.opened ++ new)) ≡ taken_numbers (entries s.opened) =
    ap taken_numbers (entries-append s.opened new) ∙ taken_numbers-append (entries s.opened) (Takes [] ∷ []) ∙ append-nil (taken_numbers (entries s.opened)) in
    ap (λ (l : List ℕ). without (l ++ taken_numbers s.staged) s.items) held

none_left : (s : State) → free s ≡ [] → IsNoneHeld s → s.items ≡ []
none_left s none held = sym (without_none s.items) ∙ ap (λ (l : List ℕ). without l s.items) (sym held) ∙ none

module _ {F : Type 0} (pass : F → Known) (saw : F → List Own → State → Type 0) (kept : F → F → Type 0) (face : IsFace pass saw kept) where
  -- where a run through a pass with each number found no event, each that was left was held
  pub empty_found_none : {S : Type 0} (sink : Told S) → EmptyFoundNone pass saw kept sink
  empty_found_none sink batch old new tells whole some all begins once =
      let p = pass old.from in
      let q = pass new.from in
      let l = face.laters old.from new.from once.same in
      let at = once.calls p.view.base [] (owned p.view) (refl, refl, refl) in
      let took = turn_none (saw new.from) (length q.view.seen) sink.delivers batch once.moment some old.sink new.sink (owned p.view) at.0 at.2 in
      let s = state_seen p.view in
      let d = l.begins.0 in
      let e = begins.begins.0 in
      let shape : p.view.seen ++ (d ++ e) ≡ whole = sym (append_assoc p.view.seen d e) ∙ ap (λ (h : List Step). h ++ e) l.begins.1 ∙ begins.begins.1 in
      let run : IsRun tells s (d ++ e) = run_behind tells (opening p.view.base) p.view.seen (d ++ e) (subst (λ (x : Opening × List Step). IsRun tells (opening x.0) x.1) (λ i. (l.base i, sym shape i)) begins.run) in
      let below : Below p.view.passes (d ++ e) = below_behind p.view.passes p.view.seen (d ++ e) (subst (λ (x : ℕ × List Step). Below x.0 x.1) (λ i. (l.passes i, sym shape i)) begins.below) in
      let own : own_calls p.view.numbers s d ≡ at.0 =
      append_cancel_left (owned p.view) (own_calls p.view.numbers s d) at.0
      (sym (own-append p.view.numbers (opening p.view.base) p.view.seen d) ∙ (λ i. own_calls (sym l.numbers i) (opening (sym l.base i)) (l.begins.1 i)) ∙ sym at.1.2) in
      let took_call = two_calls tells p.view.numbers p.view.passes s d e (record { call = BeginTake (Ok took.token); before = took.begun_in; moment = took.begun_at }) (record { call = Take took.token (Ok took.taken); before = took.took_in; moment = took.took_at }) took.rest all below run (own ∙ took.calls) in
      let none : free s ≡ [] = sym (free_begun s took.token) ∙ none_free tells (free (after s (BeginTake (Ok took.token)))) took.taken.event took.none took_call.1 in
      (none, none_left s none)
