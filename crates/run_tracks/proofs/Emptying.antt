-- What was called through a pass with several numbers is what the worker of one of them called in the whole history.
use Rattle.std.proofs.Common.{◌≡◌, ◌∙◌, ℕ, List, [], ◌∷◌, ◌++◌, length, Bool, true, false, refl, sym, ap, subst}
use Rattle.std.proofs.lemmas.List.{append-nil, append_cancel_left}
use Rattle.agent_end.specs.Drains.{Deliveries, EndsDrain, LooksOnce, RunsOnEvents}
use Rattle.agent_end.specs.declared.draining.ChannelDrain.{ChannelDrain}
use Rattle.agent_end.specs.declared.draining.ChannelDrain.TheVariants.{Emptied, Stopped}
use Rattle.channel_face.specs.Faces.{Own}
use Rattle.event_core.specs.Content.{Content}
use Rattle.channel_face.specs.History.{Step, opening, state_after}
use Rattle.channel_face.specs.Machine.{State, after}
use Rattle.shared_channel.specs.Calls.{state_seen}
use Rattle.shared_channel.specs.Passes.{Known}
use Rattle.shared_channel.specs.Ports.{AreUnder, Later, later_none, later_then, own_calls, own_if, owned}
use Rattle.shared_channel.proofs.Porting.{own-append}
use Rattle.sink_runner.specs.declared.turn.Turn.{Turn}
use Rattle.sink_runner.specs.declared.turn.Turn.TheVariants.{Delivered}
use Rattle.sink_worker.specs.Rounds.{Taking, Told, TurnsOnce}
use Rattle.channel_lock.specs.Calls.{calls_by, has, keep}
use Rattle.channel_lock.proofs.Histories.{has_only}
use Rattle.run_tracks.specs.Drained.{FaceDrains, DrainIsInTrack, EmptiedLeavesNone, Looked, MatchesUnder, called_in}
use Rattle.run_tracks.specs.Told.{IsFace, as_face}
use Rattle.run_tracks.specs.Tracks.{Stood, Track, Turned}
use Rattle.run_tracks.proofs.Homing.{has_one, prefix_then}
use Rattle.run_tracks.proofs.Moving.{turned}
use Rattle.run_tracks.proofs.Tracking.{prefix_short}

-- a call of a pass with these numbers whose own calls carry this one carries it, or is not of the pass
one_under : (ns : List ℕ) (n : ℕ) (x : Step) (d : List Step) → has ns n ≡ true → (b : Bool) → has ns x.pass ≡ b → AreUnder n (keep b x d) → (has (n ∷ []) x.pass ≡ b) × AreUnder n d
one_under ns n x d is true e under = (subst (λ (k : ℕ). has (n ∷ []) k ≡ true) (sym under.0) (has_one n), under.1)
one_under ns n x d is false e under = (other (has (n ∷ []) x.pass) refl, under)
  where
    other : (b : Bool) → has (n ∷ []) x.pass ≡ b → b ≡ false
    other false same = refl
    other true same = absurd (differ (sym (subst (λ (k : ℕ). has ns k ≡ true) (sym (has_only n x.pass same)) is) ∙ e))
      where
        differ : true ≡ false → ⊥
        differ wrong = cc

-- of such calls those with the number are the pass's own
own_under : (ns : List ℕ) (n : ℕ) → has ns n ≡ true → (s : State) (d : List Step) → AreUnder n (calls_by ns d) → own_calls (n ∷ []) s d ≡ own_calls ns s d
own_under ns n is s [] under = refl
own_under ns n is s (x ∷ d) under =
    let one = one_under ns n x (calls_by ns d) is (has ns x.pass) refl under in
    let rest = own_under ns n is (after s x.call) d one.1 in
    λ i. own_if (one.0 i) (record { call = x.call; before = s; moment = x.moment }) (rest i)

-- after a front the same calls follow in both
more_under : (ns : List ℕ) (n : ℕ) → has ns n ≡ true → (s : State) (a d : List Step) (more : List Own) → AreUnder n (calls_by ns d) → own_calls ns s (a ++ d) ≡ own_calls ns s a ++ more → own_calls (n ∷ []) s (a ++ d) ≡ own_calls (n ∷ []) s a ++ more
more_under ns n is s a d more under all =
    let same : own_calls ns (state_after s a) d ≡ more = append_cancel_left (own_calls ns s a) (own_calls ns (state_after s a) d) more (sym (own-append ns s a d) ∙ all) in
    own-append (n ∷ []) s a d ∙ ap (λ (l : List Own). own_calls (n ∷ []) s a ++ l) (own_under ns n is (state_after s a) d under ∙ same)

-- the track before some calls
abbrev pub before : Known → Track → Track
before p t = record t { own = called_in t p }

-- what a pass called is what its number called
called_more : (p q : Known) (t : Track) (more : List Own) → has q.view.numbers t.number ≡ true → q.number ≡ t.number → Later p q → owned q.view ≡ owned p.view ++ more → called_in t q ≡ called_in t p ++ more
called_more p q t more is now l all =
    let n = t.number in
    let has_it : has p.view.numbers n ≡ true = subst (λ (ns : List ℕ). has ns n ≡ true) l.numbers is in
    let under : AreUnder n (calls_by p.view.numbers l.begins.0) = subst (λ (k : ℕ). AreUnder k (calls_by p.view.numbers l.begins.0)) (sym l.number ∙ now) l.under in
    let all' : own_calls p.view.numbers (opening p.view.base) (p.view.seen ++ l.begins.0) ≡ owned p.view ++ more = (λ i. own_calls (sym l.numbers i) (opening (sym l.base i)) (l.begins.1 i)) ∙ all in
    (λ i. own_calls (n ∷ []) (opening (l.base i)) (sym l.begins.1 i)) ∙ more_under p.view.numbers n has_it (opening p.view.base) p.view.seen l.begins.0 more under all'

matches_before : (p q : Known) (t : Track) → Later p q → MatchesUnder q t → MatchesUnder p (before p t)
matches_before p q t l m = record {
  has_it = subst (λ (ns : List ℕ). has ns t.number ≡ true) l.numbers m.has_it;
  now = sym l.number ∙ m.now;
  start = sym l.base ∙ m.start;
  own = refl;
  within = prefix_then p.view.seen q.view.seen t.whole l.begins m.within;
}

module _ {F : Type 0} (pass : F → Known) (saw : F → List Own → State → Type 0) (kept : F → F → Type 0) (face : IsFace pass saw kept) where
  -- what a pass had seen stood in the whole history
  stood : (p q : F) (t : Track) → MatchesUnder (pass q) t → Later (pass p) (pass q) → (more : List Own) (s : State) → saw q (owned (pass p).view ++ more) s → Stood t (called_in t (pass p) ++ more) s
  stood p q t m l more s seen =
      let told = face.saws q (owned (pass p).view ++ more) s seen in (
        (pass q).view.seen,
        m.within,
        (λ i. own_calls (t.number ∷ []) (opening (sym m.start i)) (pass q).view.seen) ∙ called_more (pass p) (pass q) t more m.has_it m.now l told.0,
        (λ i. state_after (opening (sym m.start i)) (pass q).view.seen) ∙ told.1,
      )

  module _ {S : Type 0} (sink : Told S) (most : ℕ) where
    abbrev pub PortRuns : Taking F S → Turn → Taking F S → Type 0
    PortRuns = TurnsOnce (as_face pass saw kept) sink most

    abbrev pub PortLooks : Taking F S → ℕ → Taking F S → Type 0
    PortLooks = LooksOnce (as_face pass saw kept)

    -- with a track for its port
    abbrev pub on : Track → Taking F S → Taking Track S
    on t a = record { from = t; sink = a.sink; moments = a.moments }

    ran : (a b : Taking F S) (turn : Turn) (t : Track) → MatchesUnder (pass b.from) t → PortRuns a turn b → MatchesUnder (pass a.from) (before (pass a.from) t) × Turned sink most (on (before (pass a.from) t) a) turn (on t b)
    ran a b turn t m once =
        let p = pass a.from in
        let q = pass b.from in
        let own = owned p.view in
        let l = face.laters a.from b.from once.same in
        let at = once.calls p.view.base [] own (refl, refl, refl) in
        let all : called_in t p ++ at.0 ≡ t.own = sym (called_more p q t at.0 m.has_it m.now l (sym at.1.2)) ∙ m.own in (
          matches_before p q t l m,
          (
            once.moment,
            at.0,
            once.next,
            once.counts,
            ap (λ (o : List Own). record t { own = o }) (sym all),
            turned (saw b.from) (Stood (before p t)) (length q.view.seen) (length t.whole) (prefix_short q.view.seen t.whole m.within) sink.delivers most once.moment a.sink turn b.sink own (called_in t p) at.0
                (λ x s seen. stood a.from b.from t m l x s seen) at.2,
          ),
        )

    looked : (a b : Taking F S) (size : ℕ) (t : Track) → MatchesUnder (pass b.from) t → PortLooks a size b → MatchesUnder (pass a.from) (before (pass a.from) t) × Looked (on (before (pass a.from) t) a) size (on t b)
    looked a b size t m once =
        let p = pass a.from in
        let q = pass b.from in
        let own = owned p.view in
        let l = face.laters a.from b.from once.same in
        let at = once.calls p.view.base [] own (refl, refl, refl) in
        let none : called_in t q ≡ called_in t p = called_more p q t at.0 m.has_it m.now l (sym at.1.2) ∙ ap (λ (x : List Own). called_in t p ++ x) at.2.0 ∙ append-nil (called_in t p) in
        let here : t ≡ before p t = ap (λ (o : List Own). record t { own = o }) (sym m.own ∙ none) in (
          matches_before p q t l m,
          (
            λ i. record { from = here i; sink = once.sink i; moments = once.moments i },
            (
              at.2.1.0,
              subst (λ (o : List Own). Stood (before p t) o at.2.1.0) (append-nil (called_in t p))
                  (stood a.from b.from t m l [] at.2.1.0 (subst (λ (o : List Own). saw b.from o at.2.1.0) (sym (append-nil own)) at.2.1.1)),
              at.2.1.2,
            ),
          ),
        )

    ran_on_events : (a b : Taking F S) (turn : Turn) (t : Track) → MatchesUnder (pass b.from) t → RunsOnEvents PortRuns PortLooks a turn b → MatchesUnder (pass a.from) (before (pass a.from) t) × RunsOnEvents (Turned sink most) Looked (on (before (pass a.from) t) a) turn (on t b)
    ran_on_events a b turn t m (size, between, some, look, run) =
        let later = ran between b turn t m run in
        let u = before (pass between.from) t in
        let first = looked a between size u later.0 look in
        (first.0, (size, on u between, some, first.1, later.1))

    here : (a : Taking F S) (t : Track) → MatchesUnder (pass a.from) t → before (pass a.from) t ≡ t
    here a t m = ap (λ (o : List Own). record t { own = o }) m.own

    delivered : (counts : List ℕ) (a b : Taking F S) (t : Track) → MatchesUnder (pass b.from) t → Deliveries PortRuns PortLooks counts a b → MatchesUnder (pass a.from) (before (pass a.from) t) × Deliveries (Turned sink most) Looked counts (on (before (pass a.from) t) a) (on t b)
    delivered [] a b t m none =
        let mine : MatchesUnder (pass a.from) t = subst (λ (x : Taking F S). MatchesUnder (pass x.from) t) none m in
        let is = here a t mine in
        (subst (λ (u : Track). MatchesUnder (pass a.from) u) (sym is) mine, λ i. on (sym is i) (none i))
    delivered (count ∷ counts) a b t m (next, one, others) =
        let later = delivered counts next b t m others in
        let u = before (pass next.from) t in
        let first = ran_on_events a next (Delivered count) u later.0 one in
        (first.0, (on u next, first.1, later.1))

    ended : (end : ChannelDrain) (a b : Taking F S) (t : Track) → MatchesUnder (pass b.from) t → EndsDrain PortRuns PortLooks end a b → MatchesUnder (pass a.from) (before (pass a.from) t) × EndsDrain (Turned sink most) Looked end (on (before (pass a.from) t) a) (on t b)
    ended Emptied a b t m look = looked a b 0 t m look
    ended (Stopped turn) a b t m (undelivered, run) = let got = ran_on_events a b turn t m run in (got.0, (undelivered, got.1))

  -- a draining through a port is in each track at which its pass then is
  pub drain_in_track : {S : Type 0} (sink : Told S) → DrainIsInTrack pass saw kept sink
  drain_in_track sink batch end old new did t m =
      let last = ended sink batch end did.between new t m did.ends in
      let u = before (pass did.between.from) t in
      let first = delivered sink batch did.counts old did.between u last.0 did.deliveries in
      (first.0, record { counts = did.counts; between = on sink batch u did.between; deliveries = first.1; ends = last.1 })

  -- a draining that found its channel empty leaves no event in what its pass has seen
  pub emptied_none : {S : Type 0} (sink : Told S) → EmptiedLeavesNone pass saw kept sink
  emptied_none sink batch old new did =
      let own = owned (pass did.between.from).view in
      let at = did.ends.calls (pass did.between.from).view.base [] own (refl, refl, refl) in
      let told = face.saws new.from (own) at.2.1.0 at.2.1.1 in
      none_of (state_seen (pass new.from).view).items (at.2.1.2 ∙ ap (λ (s : State). length s.items) (sym told.1))
    where
      none_of : (items : List (ℕ × Content)) → 0 ≡ length items → items ≡ []
      none_of [] none = refl
      none_of (x ∷ items) none = absurd (cc)

  -- the pass is the same after it

  looked_later : {S : Type 0} (a b : Taking F S) (size : ℕ) → LooksOnce (as_face pass saw kept) a size b → Later (pass a.from) (pass b.from)
  looked_later a b size once = face.laters a.from b.from once.same

  ran_later : {S : Type 0} (sink : Told S) (batch : ℕ) (a b : Taking F S) (turn : Turn) → RunsOnEvents (TurnsOnce (as_face pass saw kept) sink batch) (LooksOnce (as_face pass saw kept)) a turn b → Later (pass a.from) (pass b.from)
  ran_later sink batch a b turn (size, between, some, look, run) = later_then (pass a.from) (pass between.from) (pass b.from) (looked_later a between size look) (face.laters between.from b.from run.same)

  delivered_later : {S : Type 0} (sink : Told S) (batch : ℕ) (counts : List ℕ) (a b : Taking F S) → Deliveries (TurnsOnce (as_face pass saw kept) sink batch) (LooksOnce (as_face pass saw kept)) counts a b → Later (pass a.from) (pass b.from)
  delivered_later {S} sink batch [] a b none = subst (λ (x : Taking F S). Later (pass a.from) (pass x.from)) (sym none) (later_none (pass a.from))
  delivered_later sink batch (count ∷ counts) a b (next, one, others) = later_then (pass a.from) (pass next.from) (pass b.from) (ran_later sink batch a next (Delivered count) one) (delivered_later sink batch counts next b others)

  ended_later : {S : Type 0} (sink : Told S) (batch : ℕ) (end : ChannelDrain) (a b : Taking F S) → EndsDrain (TurnsOnce (as_face pass saw kept) sink batch) (LooksOnce (as_face pass saw kept)) end a b → Later (pass a.from) (pass b.from)
  ended_later sink batch Emptied a b look = looked_later a b 0 look
  ended_later sink batch (Stopped turn) a b (undelivered, run) = ran_later sink batch a b turn run

  -- a draining leaves the port's pass the same pass, later
  pub drain_later : {S : Type 0} (sink : Told S) (batch : ℕ) (end : ChannelDrain) (old new : Taking F S) → FaceDrains pass saw kept sink batch end old new → Later (pass old.from) (pass new.from)
  drain_later sink batch end old new did = later_then (pass old.from) (pass did.between.from) (pass new.from) (delivered_later sink batch did.counts old did.between did.deliveries) (ended_later sink batch end did.between new did.ends)
