-- What a channel keeps standing for.
use Rattle.std.proofs.Common.{◌≡◌, ◌≤◌, ◌<◌, ◌+◌, ◌-◌, ◌^◌, ℕ, List, [], ◌∷◌, ◌++◌, length, length-append, Option, None, Some, Bool, true, false, refl, sym, ◌∙◌, ap, subst, arith}
use Rattle.std.proofs.lemmas.List.{append-nil}
use Rattle.event_core.specs.Journal.{put_events, taken_numbers}
use Rattle.channel_face.specs.Token.{Token}
use Rattle.channel_face.specs.Machine.{State, Call, RollbackPut, RollbackTake, Admits, after}
use Rattle.channel_face.specs.History.{Opening, opening, Step, AddsOne, IsRun, Shows, state_after, settled_by, kept_by, journal}
use Rattle.channel_face.specs.Counters.{tally, counts_of, counts_with, put_calls, take_calls, put_attempts, take_attempts, put_successes, take_successes, capped}
use Rattle.channel_face.specs.declared.replies.Counts.{Counts}
use Rattle.channel_face.proofs.Adding.{state-push, run-last}
use Rattle.channel_lock.specs.Calls.{keep}
use Rattle.shared_channel.specs.Counting.{is_counted, counted_calls, Agree, StandsAgreeing, StandsCounting, Keeps}
use Rattle.shared_channel.specs.Calls.{step}
use Rattle.shared_channel.specs.Kinds.{IsRollback}
use Rattle.shared_channel.proofs.Rooms.{few_after}

keep_append : (b : Bool) (e : Step) (xs ys : List Step) → keep b e (xs ++ ys) ≡ keep b e xs ++ ys
keep_append true e xs ys = refl
keep_append false e xs ys = refl

counted-append : (xs ys : List Step) → counted_calls (xs ++ ys) ≡ counted_calls xs ++ counted_calls ys
counted-append [] ys = refl
counted-append (x ∷ xs) ys = ap (keep (is_counted x.call) x) (counted-append xs ys) ∙ keep_append (is_counted x.call) x (counted_calls xs) (counted_calls ys)

counted-one : (h : List Step) (x : Step) → is_counted x.call ≡ true → counted_calls (h ++ x ∷ []) ≡ counted_calls h ++ x ∷ []
counted-one h x is = counted-append h (x ∷ []) ∙ ap (λ b. counted_calls h ++ keep b x []) is

counted-none : (h : List Step) (x : Step) → is_counted x.call ≡ false → counted_calls (h ++ x ∷ []) ≡ counted_calls h
counted-none h x is = counted-append h (x ∷ []) ∙ ap (λ b. counted_calls h ++ keep b x []) is ∙ append-nil (counted_calls h)

-- What a rollback of a stale token does, each call does that is not counted.
uncounted : {A : Type 0} (f : Call → A) (a : A) → ((token : Token) → f (RollbackPut token false) ≡ a) → ((token : Token) → f (RollbackTake token false) ≡ a) → (call : Call) → is_counted call ≡ false → f call ≡ a
uncounted f a put take (RollbackPut token false) is = put token
uncounted f a put take (RollbackTake token false) is = take token
uncounted f a put take call is = absurd (cc)

-- A fold over calls is the same over those that are counted, where no rollback of a stale token changes it.
module _ {A : Type 0} (F : State → List Step → A) (op : State → Call → A → A) (by_step : (s : State) (x : Step) (h : List Step) → F s (x ∷ h) ≡ op s x.call (F (after s x.call) h))
    (no_put : (s : State) (token : Token) (a : A) → op s (RollbackPut token false) a ≡ a) (no_take : (s : State) (token : Token) (a : A) → op s (RollbackTake token false) a ≡ a) where
  same_fold : (s : State) (h : List Step) → F s (counted_calls h) ≡ F s h
  same_fold s [] = refl
  same_fold s (x ∷ h) = by_count (is_counted x.call) refl ∙ ap (op s x.call) (same_fold (after s x.call) h) ∙ sym (by_step s x h)
    where
      by_count : (b : Bool) → is_counted x.call ≡ b → F s (keep b x (counted_calls h)) ≡ op s x.call (F (after s x.call) (counted_calls h))
      by_count true is = by_step s x (counted_calls h)
      by_count false is = sym (uncounted (λ (call : Call). op s call (F (after s call) (counted_calls h))) (F s (counted_calls h)) (λ token. no_put s token (F s (counted_calls h))) (λ token. no_take s token (F s (counted_calls h))) x.call is)

-- calls that are not counted do not change the state
pub counted_state : (s : State) (h : List Step) → state_after s (counted_calls h) ≡ state_after s h
counted_state = same_fold state_after (λ s call t. t) (λ s x h. refl) (λ s token t. refl) (λ s token t. refl)

keep_run : (tells : Bool) (s : State) (x : Step) (h : List Step) → Admits tells s x.call → IsRun tells (after s x.call) (counted_calls h) → (b : Bool) → is_counted x.call ≡ b → IsRun tells s (keep b x (counted_calls h))
keep_run tells s x h may run true is = (may, run)
keep_run tells s x h may run false is = subst (λ (t : State). IsRun tells t (counted_calls h)) (uncounted (after s) s (λ token. refl) (λ token. refl) x.call is) run

-- the counted calls of a run are a run
pub counted_run : (tells : Bool) (s : State) (h : List Step) → IsRun tells s h → IsRun tells s (counted_calls h)
counted_run tells s [] run = tt
counted_run tells s (x ∷ h) run = keep_run tells s x h run.0 (counted_run tells (after s x.call) h run.1) (is_counted x.call) refl

same_tally : (s : State) (h : List Step) → tally s (counted_calls h) ≡ tally s h
same_tally s h = λ i. record {
  put_attempts = capped (same_fold (λ s h. put_attempts h) (λ s call n. put_calls call + n) (λ s x h. refl) (λ s token n. omega arith) (λ s token n. omega arith) s h i);
  put_successes = capped (same_fold put_successes (λ s call n. length (put_events (settled_by s call)) + n) (λ s x h. refl) (λ s token n. omega arith) (λ s token n. omega arith) s h i);
  take_attempts = capped (same_fold (λ s h. take_attempts h) (λ s call n. take_calls call + n) (λ s x h. refl) (λ s token n. omega arith) (λ s token n. omega arith) s h i);
  take_successes = capped (same_fold take_successes (λ s call n. length (taken_numbers (settled_by s call)) + n) (λ s x h. refl) (λ s token n. omega arith) (λ s token n. omega arith) s h i);
}

same_counts : (start : Opening) (h : List Step) → counts_of start (counted_calls h) ≡ counts_of start h
same_counts start h = λ i. counts_with (same_tally (opening start) h i) (counted_state (opening start) h i)

same_journal : (s : State) (h : List Step) → journal s (counted_calls h) ≡ journal s h
same_journal = same_fold journal (λ s call l. kept_by s call ++ l) (λ s x h. refl) (λ s token l. refl) (λ s token l. refl)

-- calls and those of them that are counted lead to one state, with one journal
pub agrees : (start : Opening) (all h : List Step) → counted_calls all ≡ h → Agree start all h
agrees start all h is = record {
  state = sym (counted_state (opening start) all) ∙ ap (λ (l : List Step). state_after (opening start) l) is;
  counts = sym (same_counts start all) ∙ ap (counts_of start) is;
  journal = sym (same_journal (opening start) all) ∙ ap (λ (l : List Step). journal (opening start) l) is;
}

-- a channel that stands for counted calls agrees with them in state, counts and journal
pub stands_agreeing : {C : Type 0} (stands : C → Opening → List Step → Type 0) (c : C) (start : Opening) (h : List Step) → StandsCounting stands c start h → StandsAgreeing stands c start h
stands_agreeing stands c start h k = (k.0, k.1, k.2, agrees start k.0 h k.2)

module _ {C : Type 0} (stands : C → Opening → List Step → Type 0) (tells : C → Bool) where
  abbrev pub Law : Type 0
  Law = (c : C) (start : Opening) (h : List Step) → stands c start h → IsRun (tells c) (opening start) h

  abbrev pub TellsAsOpened : Type 0
  TellsAsOpened = (c : C) (start : Opening) (h : List Step) → stands c start h → start.tells ≡ tells c

  -- the counted calls that a channel stands for are a run
  pub kept_run : Law → (c : C) (start : Opening) (h : List Step) → StandsCounting stands c start h → IsRun (tells c) (opening start) h
  kept_run law c start h k = subst (λ (l : List Step). IsRun (tells c) (opening start) l) k.2 (counted_run (tells c) (opening start) k.0 (law c start k.0 k.1))

  same_state : (c : C) (start : Opening) (h : List Step) → (k : StandsCounting stands c start h) → state_after (opening start) k.0 ≡ state_after (opening start) h
  same_state c start h k = sym (counted_state (opening start) k.0) ∙ ap (λ (l : List Step). state_after (opening start) l) k.2

  -- what is shown of a channel is shown of the counted calls
  pub kept_shows : (c : C) (start : Opening) (h : List Step) (P : State → Type 0) → Shows (stands c) P → StandsCounting stands c start h → P (state_after (opening start) h)
  kept_shows c start h P shows k = subst P (same_state c start h k) (shows start k.0 k.1)

  -- what a channel counts is the count of its counted calls
  pub kept_counts : (c : C) (start : Opening) (h : List Step) (counts : Counts) → ((o : Opening) (l : List Step) → stands c o l → counts ≡ counts_of o l) → StandsCounting stands c start h → counts ≡ counts_of start h
  kept_counts c start h counts told k = told start k.0 k.1 ∙ sym (same_counts start k.0) ∙ ap (counts_of start) k.2

  -- the last call was answered as the machine answers it
  answered : Law → (c d : C) (start : Opening) (h : List Step) (call : Call) (moment : ℕ) → AddsOne (stands c) (stands d) call moment → StandsCounting stands c start h → Admits (tells d) (state_after (opening start) h) call
  answered law c d start h call moment adds k = subst (λ (s : State). Admits (tells d) s call) (same_state c start h k) (run-last (tells d) (opening start) k.0 (step 0 call moment) (law d start (k.0 ++ step 0 call moment ∷ []) (adds start k.0 0 k.1)))

  counts_more : (c d : C) (start : Opening) (h : List Step) (by : ℕ) (call : Call) (moment : ℕ) → AddsOne (stands c) (stands d) call moment → is_counted call ≡ true → StandsCounting stands c start h → StandsCounting stands d start (h ++ step by call moment ∷ [])
  counts_more c d start h by call moment adds is k = (k.0 ++ step by call moment ∷ [], adds start k.0 by k.1, counted-one k.0 (step by call moment) is ∙ ap (λ (l : List Step). l ++ step by call moment ∷ []) k.2)

  counts_none : (c d : C) (start : Opening) (h : List Step) (call : Call) (moment : ℕ) → AddsOne (stands c) (stands d) call moment → is_counted call ≡ false → StandsCounting stands c start h → StandsCounting stands d start h
  counts_none c d start h call moment adds is k = (k.0 ++ step 0 call moment ∷ [], adds start k.0 0 k.1, counted-none k.0 (step 0 call moment) is ∙ k.2)

  -- a call is added, where there is room beside the rollbacks that may follow
  pub keeps_more : Law → (c d : C) (start : Opening) (h : List Step) (by : ℕ) (call : Call) (moment : ℕ) → AddsOne (stands c) (stands d) call moment → is_counted call ≡ true → length h ≤ 2 ^ 64 - 1026 → Keeps stands c start h → Keeps stands d start (h ++ step by call moment ∷ [])
  keeps_more law c d start h by call moment adds is below k = record {
    calls = counts_more c d start h by call moment adds is k.calls;
    room = record { few = few; room = omega (arith, few, below, length-append h (step by call moment ∷ [])) };
  }
    where
      few : length (state_after (opening start) (h ++ step by call moment ∷ [])).opened ≤ 1024
      few = subst (λ (s : State). length s.opened ≤ 1024) (sym (state-push (opening start) h (step by call moment)))
          (few_after (tells d) (state_after (opening start) h) call (answered law c d start h call moment adds k.calls) k.room.few)

  -- of a channel that was kept the last call was answered as the machine answers it
  pub answered_by : Law → (c d : C) (start : Opening) (h : List Step) (call : Call) (moment : ℕ) → AddsOne (stands c) (stands d) call moment → Keeps stands c start h → Admits (tells d) (state_after (opening start) h) call
  answered_by law c d start h call moment adds k = answered law c d start h call moment adds k.calls

  -- A rollback that was made of a channel that was kept.
  module _ (law : Law) {rollback : Bool → Call} {IsStale : State → Type 0} (is : IsRollback rollback IsStale) (c d : C) (start : Opening) (h : List Step) (moment : ℕ) (ended : Bool) (adds : AddsOne (stands c) (stands d) (rollback ended) moment) (k : Keeps stands c start h) where
    adds_as : (b : Bool) → ended ≡ b → AddsOne (stands c) (stands d) (rollback b) moment
    adds_as b so = subst (λ (e : Bool). AddsOne (stands c) (stands d) (rollback e) moment) so adds

    ends : ended ≡ true → length (after (state_after (opening start) h) (rollback true)).opened + 1 ≡ length (state_after (opening start) h).opened
    ends so = is.ends (tells d) (state_after (opening start) h) (answered law c d start h (rollback true) moment (adds_as true so) k.calls)

    -- one that ended a transaction is counted, for which there is room
    pub room : ended ≡ true → length h + 1 < 2 ^ 64
    room so = let e = ends so in let r = k.room.room in omega arith

    -- a rollback that ended a transaction is counted, and the channel is kept with it
    pub rolled : ended ≡ true → (by : ℕ) → Keeps stands d start (h ++ step by (rollback true) moment ∷ [])
    rolled so by =
        let last = step by (rollback true) moment in
        let now : length (state_after (opening start) (h ++ last ∷ [])).opened ≡ length (after (state_after (opening start) h) (rollback true)).opened = ap (λ (s : State). length s.opened) (state-push (opening start) h last) in
        record {
          calls = counts_more c d start h by (rollback true) moment (adds_as true so) (is.counted true) k.calls;
          room = record { few = omega (arith, now, ends so, k.room.few); room = omega (arith, now, ends so, k.room.room, length-append h (last ∷ [])) };
        }

    -- one of a stale token is not
    pub stale : ended ≡ false → Keeps stands d start h × IsStale (state_after (opening start) h)
    stale so = (
      record { calls = counts_none c d start h (rollback false) moment (adds_as false so) (is.counted false) k.calls; room = k.room },
      is.stale (tells d) (state_after (opening start) h) (answered law c d start h (rollback false) moment (adds_as false so) k.calls),
    )
