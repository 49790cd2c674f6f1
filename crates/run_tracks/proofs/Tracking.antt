-- What was done through a port is what its worker called in the whole history.
use Rattle.std.proofs.Common.{◌≡◌, ◌∙◌, ◌≤◌, inl, inr, ℕ, suc, List, [], ◌∷◌, ◌++◌, length, length-append, Option, Some, None, Result, Ok, Err, Bool, true, false, refl, sym, ap, subst, arith}
use Rattle.std.proofs.lemmas.List.{append-nil}
use mathlib.Core.List.{IsPrefix}
use Rattle.event_core.specs.Content.{Content}
use Rattle.channel_face.specs.History.{Step, opening, state_after}
use Rattle.channel_face.specs.Machine.{State}
use Rattle.channel_face.specs.Faces.{Own}
use Rattle.channel_face.specs.declared.replies.FaceRefused.{FaceRefused}
use Rattle.channel_face.specs.declared.replies.OpenCause.{OpenCause}
use Rattle.channel_lock.specs.Calls.{calls_by}
use Rattle.channel_lock.proofs.Histories.{calls_by-append, nil_of}
use Rattle.shared_channel.specs.Passes.{Known}
use Rattle.shared_channel.specs.Ports.{own_calls, owned, Later, later_none, later_then}
use Rattle.shared_channel.proofs.Porting.{own-append, own-none}
use Rattle.selectors.specs.Choices.{required, optional}
use Rattle.selectors.specs.declared.selector.Selector.{Selector}
use Rattle.source_put.specs.Accepts.{Gives, Judges, events_for}
use Rattle.source_put.specs.Chains.{Meaning}
use Rattle.source_put.specs.Tries.{Tries, Follows, Requires, Offers, Ends}
use Rattle.source_put.specs.declared.chain.HostNames.{HostNames}
use Rattle.source_put.specs.declared.chain.Stopped.{Stopped}
use Rattle.source_put.specs.declared.chain.Stopped.TheVariants as stop
use Rattle.source_put.specs.declared.put.Refusal.{Refusal}
use Rattle.source_put.specs.declared.intake.Verdict.{Verdict}
use Rattle.sink_runner.specs.declared.turn.Turn.{Turn}
use Rattle.source_put.specs.Routes.{Accepts, Route}
use Rattle.sink_worker.specs.Answers.{needs_mend}
use Rattle.sink_worker.specs.Rounds.{MendsIf, MendsOnce, Round, Rounds, Taking, Told, TurnsOnce}
use Rattle.run_tracks.specs.Homes.{Took}
use Rattle.run_tracks.specs.Places.{Zips}
use Rattle.run_tracks.specs.Told.{as_face, IsBehind, IsFace, IsSteady, Matches, PortPuts}
use Rattle.run_tracks.specs.Tracks.{Track, track_of, ended, Stood, Gave, Turned, Mended}
use Rattle.run_tracks.proofs.Homing.{prefix_then}
use Rattle.run_tracks.proofs.Moving.{batch, mend, turned}

-- a longer history with no further call of these numbers has the same calls of theirs
pub own_same : (ns : List ℕ) (s : State) (a h : List Step) → IsPrefix a h → calls_by ns h ≡ calls_by ns a → own_calls ns s h ≡ own_calls ns s a
own_same ns s a h p same =
    let whole : calls_by ns a ++ calls_by ns p.0 ≡ calls_by ns a = sym (calls_by-append ns a p.0) ∙ ap (calls_by ns) p.1 ∙ same in
    let none : calls_by ns p.0 ≡ [] = nil_of (calls_by ns p.0) (omega (arith, length-append (calls_by ns a) (calls_by ns p.0), ap length whole)) in
    sym (ap (own_calls ns s) p.1) ∙ own-append ns s a p.0 ∙ ap (λ (l : List Own). own_calls ns s a ++ l) (own-none ns (state_after s a) p.0 none) ∙ append-nil (own_calls ns s a)

-- a pass that was taken in is where its worker's track ends
pub matches_home : (home q : Known) (n : ℕ) → q.view.numbers ≡ n ∷ [] → Took home q → Matches q (ended (track_of home n))
matches_home home q n only took = record {
  numbers = only;
  start = sym took.base;
  own = (λ i. own_calls (only i) (opening (sym took.base i)) q.view.seen) ∙ sym (own_same (n ∷ []) (opening home.view.base) q.view.seen home.view.seen took.seen.0 (subst (λ (ns : List ℕ). calls_by ns home.view.seen ≡ calls_by ns q.view.seen) only took.seen.1));
  within = took.seen.0;
}

-- a front is no longer than the whole
pub prefix_short : (a b : List Step) → IsPrefix a b → length a ≤ length b
prefix_short a b p = omega (arith, length-append a p.0, ap length p.1)

-- the track before some calls
abbrev pub back : Known → Track → Track
back p t = record t { own = owned p.view }

-- a pass before some calls is where the track before them is
pub matches_back : (p q : Known) (t : Track) → Later p q → Matches q t → Matches p (back p t)
matches_back p q t later m = record { numbers = sym later.numbers ∙ m.numbers; start = sym later.base ∙ m.start; own = refl; within = prefix_then p.view.seen q.view.seen t.whole later.begins m.within }

-- tracks are behind themselves
pub behind_self : (ts : List Track) → Zips IsBehind ts ts
behind_self [] = tt
behind_self (t ∷ ts) = (refl, behind_self ts)

-- tracks behind tracks that are behind others are behind those
pub behind_then : (us ts ws : List Track) → Zips IsBehind us ts → Zips IsBehind ts ws → Zips IsBehind us ws
behind_then [] [] ws f g = g
behind_then [] (t ∷ ts) ws f g = absurd f
behind_then (u ∷ us) [] ws f g = absurd f
behind_then (u ∷ us) (t ∷ ts) [] f g = absurd g
behind_then (u ∷ us) (t ∷ ts) (w ∷ ws) f g = (f.0 ∙ ap (λ (x : Track). record x { own = u.own }) g.0, behind_then us ts ws f.1 g.1)

module _ {F : Type 0} (pass : F → Known) (saw : F → List Own → State → Type 0) (kept : F → F → Type 0) (face : IsFace pass saw kept) where
  -- what a pass had seen stood in the whole history
  pub stood : (q : F) (t : Track) → Matches (pass q) t → (own : List Own) (s : State) → saw q own s → Stood t own s
  stood q t m own s seen =
      let told = face.saws q own s seen in (
        (pass q).view.seen,
        m.within,
        (λ i. own_calls (sym m.numbers i) (opening (sym m.start i)) (pass q).view.seen) ∙ told.0,
        (λ i. state_after (opening (sym m.start i)) (pass q).view.seen) ∙ told.1,
      )

  gave : (p q : F) (t : Track) (events : List Content) (result : Result ℕ FaceRefused) → Matches (pass q) t → (PortPuts pass saw kept) p q events result → Gave (back (pass p) t) t events result
  gave p q t events result m put =
      let at = put.calls (pass p).view.base [] (owned (pass p).view) (refl, refl, refl) in
      let all : owned (pass p).view ++ at.0 ≡ t.own = at.1.2 ∙ m.own in
      let own = owned (pass p).view in (
        at.0,
        ap (λ (l : List Own). record t { own = l }) (sym all),
        batch (saw q) (Stood (back (pass p) t)) (length (pass q).view.seen) (length t.whole) (prefix_short (pass q).view.seen t.whole m.within) events result own own at.0
            (λ x s seen. stood q t m (own ++ x) s seen) at.2,
      )

  -- each of these ports is where the track at its place is
  abbrev pub AllMatch : List F → List Track → Type 0
  AllMatch ports ts = Zips (λ port t. Matches (pass port) t) ports ts

  back_same : (p : F) (t : Track) → Matches (pass p) t → back (pass p) t ≡ t
  back_same p t m = ap (λ (l : List Own). record t { own = l }) m.own

  -- before some calls these ports were where tracks are of which P is true, and which differ from those after it in their own calls alone
  pub record Before (ports : List F) (ts : List Track) (P : List Track → Type 0) : Type 0 where
    pub us : List Track
    pub all : AllMatch ports us
    pub behind : Zips IsBehind us ts
    pub holds : P us

  -- there was no call
  pub before_none : (ps : List F) (ts : List Track) (P : List Track → Type 0) → AllMatch ps ts → P ts → Before ps ts P
  before_none ps ts P m holds = record { us = ts; all = m; behind = behind_self ts; holds = holds }

  tries : (events : List Content) (p q : F) (t : Track) (reply : Result (Unit {0}) FaceRefused) → Matches (pass q) t → Tries (PortPuts pass saw kept) events p q reply → (u : Track) × Matches (pass p) u × IsBehind u t × Tries Gave events u t reply
  tries [] p q t reply m (is, same) = (t, subst (λ (x : F). Matches (pass x) t) same m, refl, (is, refl))
  tries (event ∷ events) p q t reply m (result, put, is) = (back (pass p) t, matches_back (pass p) (pass q) t (face.laters p q put.same) m, refl, (result, gave p q t (event ∷ events) result m put, is))

  requires : (events : ℕ → List Content) (place : ℕ) (olds : List F) (refusal : Option Refusal) (news : List F) (ts : List Track) → AllMatch news ts → Requires (PortPuts pass saw kept) events place olds refusal news → Before olds ts (λ us. Requires Gave events place us refusal ts)
  requires events place [] refusal news [] m (is, none) = before_none [] [] (λ us. Requires Gave events place us refusal []) tt (is, refl)
  requires events place [] refusal news (t ∷ ts) m (is, none) = absurd (subst (λ (l : List F). AllMatch l (t ∷ ts)) none m)
  requires events place (old ∷ olds) refusal news [] m (new, others, reply, split, tried, follows) = absurd (subst (λ (l : List F). AllMatch l []) split m)
  requires events place (old ∷ olds) refusal news (t ∷ ts) m (new, others, reply, split, tried, follows) =
      let here : AllMatch (new ∷ others) (t ∷ ts) = subst (λ (l : List F). AllMatch l (t ∷ ts)) split m in
      let first = tries (events place) old new t reply here.0 tried in
      let rest = follow here.1 (λ more. requires events (suc place) olds refusal others ts here.1 more) reply follows in
      record { us = first.0 ∷ rest.us; all = (first.1, rest.all); behind = (first.2, rest.behind); holds = (t, ts, reply, refl, first.3, rest.holds) }
    where
      follow : AllMatch others ts → (Requires (PortPuts pass saw kept) events (suc place) olds refusal others → Before olds ts (λ us. Requires Gave events (suc place) us refusal ts)) → (reply : Result (Unit {0}) FaceRefused)
          → Follows (PortPuts pass saw kept) reply place refusal olds others (Requires (PortPuts pass saw kept) events (suc place) olds refusal others) → Before olds ts (λ us. Follows Gave reply place refusal us ts (Requires Gave events (suc place) us refusal ts))
      follow m go (Ok done) more = go more
      follow m go (Err cause) (is, same) = before_none olds ts (λ us. Follows Gave (Err cause) place refusal us ts (Requires Gave events (suc place) us refusal ts)) (subst (λ (l : List F). AllMatch l ts) same m) (is, refl)

  offers : (events : ℕ → List Content) (place : ℕ) (olds news : List F) (ts : List Track) → AllMatch news ts → Offers (PortPuts pass saw kept) events place olds news → Before olds ts (λ us. Offers Gave events place us ts)
  offers events place [] news [] m none = before_none [] [] (λ us. Offers Gave events place us []) tt refl
  offers events place [] news (t ∷ ts) m none = absurd (subst (λ (l : List F). AllMatch l (t ∷ ts)) none m)
  offers events place (old ∷ olds) news [] m (new, others, reply, split, tried, follows) = absurd (subst (λ (l : List F). AllMatch l []) split m)
  offers events place (old ∷ olds) news (t ∷ ts) m (new, others, reply, split, tried, follows) =
      let here : AllMatch (new ∷ others) (t ∷ ts) = subst (λ (l : List F). AllMatch l (t ∷ ts)) split m in
      let first = tries (events place) old new t reply here.0 tried in
      let rest = offers events (suc place) olds others ts here.1 follows in
      record { us = first.0 ∷ rest.us; all = (first.1, rest.all); behind = (first.2, rest.behind); holds = (t, ts, reply, refl, first.3, rest.holds) }

  ends : (refusal : Option Refusal) (optional : ℕ → List Content) (old new : List F) (ts : List Track) → AllMatch new ts → Ends (PortPuts pass saw kept) refusal optional old new → Before old ts (λ us. Ends Gave refusal optional us ts)
  ends None optional old new ts m offered = offers optional 0 old new ts m offered
  ends (Some refusal) optional old new ts m same = before_none old ts (λ us. ts ≡ us) (subst (λ (l : List F). AllMatch l ts) same m) refl

  gives : (selector : Selector) (events : List Content) (old new : List F) (verdict : Verdict) (ts : List Track) → AllMatch new ts → Gives (PortPuts pass saw kept) selector events old new verdict → Before old ts (λ us. Gives Gave selector events us ts verdict)
  gives selector events old new verdict ts m (refusal, (between, first, last), is) =
      let end = ends refusal (events_for (optional selector) events) between new ts m last in
      let begin = requires (events_for (required selector) events) 0 old refusal between end.us end.all first in
      record { us = begin.us; all = begin.all; behind = behind_then begin.us end.us ts begin.behind end.behind; holds = (refusal, (end.us, begin.holds, end.holds), is) }

  judges : (selector : Selector) (made : Result (List Content) Stopped) (old new : List F) (verdict : Verdict) (ts : List Track) → AllMatch new ts → Judges (PortPuts pass saw kept) selector made old new verdict → Before old ts (λ us. Judges Gave selector made us ts verdict)
  judges selector (Ok events) old new verdict ts m (inl given) = let g = gives selector events old new verdict ts m given in record { us = g.us; all = g.all; behind = g.behind; holds = inl g.holds }
  judges selector (Ok events) old new verdict ts m (inr (is, same)) = before_none old ts (λ us. Judges Gave selector (Ok events) us ts verdict) (subst (λ (l : List F). AllMatch l ts) same m) (inr (is, refl))
  judges selector (Err (stop.TooLarge size)) old new verdict ts m (is, same) = before_none old ts (λ us. Judges Gave selector (Err (stop.TooLarge size)) us ts verdict) (subst (λ (l : List F). AllMatch l ts) same m) (is, refl)
  judges selector (Err stop.NoMemory) old new verdict ts m (is, same) = before_none old ts (λ us. Judges Gave selector (Err stop.NoMemory) us ts verdict) (subst (λ (l : List F). AllMatch l ts) same m) (is, refl)

  module _ {B : Type 0} (Means : Meaning B) (selector : Selector) (host : HostNames) (moment : ℕ) where
    -- a batch that went through ports is in their tracks
    pub accepts : (a b : Route F B) (batch : List Content) (verdict : Verdict) (ts : List Track) → AllMatch b.ports ts → Accepts (PortPuts pass saw kept) selector Means moment host a batch verdict b
        → Before a.ports ts (λ us. Accepts Gave selector Means moment host (record { links = a.links; ports = us }) batch verdict (record { links = b.links; ports = ts }))
    accepts a b batch verdict ts m (made, passed, judged) =
        let j = judges selector made a.ports b.ports verdict ts m judged in
        record { us = j.us; all = j.all; behind = j.behind; holds = (made, passed, j.holds) }

  module _ {S : Type 0} (sink : Told S) (most : ℕ) (on_disk : F → Type 0) (steady : IsSteady kept on_disk) (D : Type 0) where
    abbrev pub PortTurns : Taking F S → Turn → Taking F S → Type 0
    PortTurns = TurnsOnce (as_face pass saw kept) sink most

    abbrev pub PortMends : Taking F S → Result Bool OpenCause → Taking F S → Type 0
    PortMends = MendsOnce (as_face pass saw kept) on_disk

    -- with a track for its port
    abbrev pub on : Track → Taking F S → Taking Track S
    on t a = record { from = t; sink = a.sink; moments = a.moments }

    -- it is on a disk exactly where D says so
    abbrev pub SameDisk : Taking F S → Type 0
    SameDisk a = (on_disk a.from → D) × (D → on_disk a.from)

    same_after : (a b : Taking F S) → kept a.from b.from → SameDisk a → SameDisk b
    same_after a b k same = let s = steady a.from b.from k in (λ x. same.0 (s.1 x), λ d. s.0 (same.1 d))

    turned_once : (a b : Taking F S) (turn : Turn) (t : Track) → Matches (pass b.from) t → PortTurns a turn b → Matches (pass a.from) (back (pass a.from) t) × Turned sink most (on (back (pass a.from) t) a) turn (on t b)
    turned_once a b turn t m once =
        let p = pass a.from in
        let own = owned p.view in
        let at = once.calls p.view.base [] own (refl, refl, refl) in
        let all : own ++ at.0 ≡ t.own = at.1.2 ∙ m.own in (
          matches_back p (pass b.from) t (face.laters a.from b.from once.same) m,
          (
            once.moment,
            at.0,
            once.next,
            once.counts,
            ap (λ (l : List Own). record t { own = l }) (sym all),
            turned (saw b.from) (Stood (back p t)) (length (pass b.from).view.seen) (length t.whole) (prefix_short (pass b.from).view.seen t.whole m.within) sink.delivers most once.moment a.sink turn b.sink own own at.0
                (λ x s seen. stood b.from t m (own ++ x) s seen) at.2,
          ),
        )

    mended_once : (a b : Taking F S) (result : Result Bool OpenCause) (t : Track) → Matches (pass b.from) t → SameDisk a → PortMends a result b → Matches (pass a.from) (back (pass a.from) t) × Mended D (on (back (pass a.from) t) a) result (on t b)
    mended_once a b result t m same once =
        let p = pass a.from in
        let own = owned p.view in
        let at = once.calls p.view.base [] own (refl, refl, refl) in
        let all : own ++ at.0 ≡ t.own = at.1.2 ∙ m.own in (
          matches_back p (pass b.from) t (face.laters a.from b.from once.same) m,
          (
            at.0,
            λ i. record { from = t; sink = once.sink i; moments = once.moments i },
            ap (λ (l : List Own). record t { own = l }) (sym all),
            mend (saw b.from) (Stood (back p t)) (length (pass b.from).view.seen) (length t.whole) (prefix_short (pass b.from).view.seen t.whole m.within) (on_disk a.from) D same.0 same.1 result own own at.0
                (λ x s seen. stood b.from t m (own ++ x) s seen) at.2,
          ),
        )

    mended_if : (due : Bool) (a b : Taking F S) (t : Track) → Matches (pass b.from) t → SameDisk a → MendsIf PortMends due a b → Matches (pass a.from) (back (pass a.from) t) × MendsIf (Mended D) due (on (back (pass a.from) t) a) (on t b)
    mended_if true a b t m same once = let got = mended_once a b once.0 t m same once.1 in (got.0, (once.0, got.1))
    mended_if false a b t m same none =
        let here : Matches (pass a.from) t = subst (λ (x : Taking F S). Matches (pass x.from) t) none m in
        let is = back_same a.from t here in
        (subst (λ (u : Track). Matches (pass a.from) u) (sym is) here, λ i. on (sym is i) (none i))

    round : (a b : Taking F S) (turn : Turn) (t : Track) → Matches (pass b.from) t → SameDisk a → Round PortTurns PortMends a turn b → Matches (pass a.from) (back (pass a.from) t) × Round (Turned sink most) (Mended D) (on (back (pass a.from) t) a) turn (on t b)
    round a b turn t m same (between, one, due) =
        let later = mended_if (needs_mend turn) between b t m (same_after a between one.same same) due in
        let first = turned_once a between turn (back (pass between.from) t) later.0 one in
        (first.0, (on (back (pass between.from) t) between, first.1, later.1))

    same_mended : (due : Bool) (a b : Taking F S) → MendsIf PortMends due a b → SameDisk a → SameDisk b
    same_mended true a b once same = same_after a b once.1.same same
    same_mended false a b none same = subst SameDisk (sym none) same

    -- rounds that were made through a port are in its track
    pub rounds : (turns : List Turn) (a b : Taking F S) (t : Track) → Matches (pass b.from) t → SameDisk a → Rounds PortTurns PortMends turns a b → Matches (pass a.from) (back (pass a.from) t) × Rounds (Turned sink most) (Mended D) turns (on (back (pass a.from) t) a) (on t b)
    rounds [] a b t m same none =
        let here : Matches (pass a.from) t = subst (λ (x : Taking F S). Matches (pass x.from) t) none m in
        let is = back_same a.from t here in
        (subst (λ (u : Track). Matches (pass a.from) u) (sym is) here, λ i. on (sym is i) (none i))
    rounds (turn ∷ turns) a b t m same (next, one, others) =
        let later = rounds turns next b t m (same_mended (needs_mend turn) one.0 next one.2 (same_after a one.0 one.1.same same)) others in
        let first = round a next turn (back (pass next.from) t) later.0 same one in
        (first.0, (on (back (pass next.from) t) next, first.1, later.1))

    mended_later : (due : Bool) (a b : Taking F S) → MendsIf PortMends due a b → Later (pass a.from) (pass b.from)
    mended_later true a b once = face.laters a.from b.from once.1.same
    mended_later false a b none = subst (λ (x : Taking F S). Later (pass a.from) (pass x.from)) (sym none) (later_none (pass a.from))

    -- the port is the same after some rounds
    pub rounds_later : (turns : List Turn) (a b : Taking F S) → Rounds PortTurns PortMends turns a b → Later (pass a.from) (pass b.from)
    rounds_later [] a b none = subst (λ (x : Taking F S). Later (pass a.from) (pass x.from)) (sym none) (later_none (pass a.from))
    rounds_later (turn ∷ turns) a b (next, (between, one, due), others) =
        later_then (pass a.from) (pass next.from) (pass b.from)
        (later_then (pass a.from) (pass between.from) (pass next.from) (face.laters a.from between.from one.same) (mended_later (needs_mend turn) between next due)) (rounds_later turns next b others)
