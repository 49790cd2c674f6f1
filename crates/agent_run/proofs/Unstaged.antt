-- Nothing is staged in the end of a run that ended well.
use Rattle.std.proofs.Common.{◌≡◌, ◌∙◌, ◌<◌, ◌++◌, ◌⊎◌, inl, inr, ℕ, zero, suc, List, [], ◌∷◌, append-nil, append_assoc, Bool, true, false, Option, None, Result, Ok, Err, String, length, get_or, refl, sym, ap, subst, arith}
use Rattle.std.proofs.lemmas.Bool.{false≢true}
use Rattle.std.proofs.lemmas.List.{append_cancel_left, get_or-map, get_or_default}
use Rattle.std.proofs.lemmas.List.Elements.{All-from_recursion}
use Rattle.std.specs.List.{AllByRecursion}
use Rattle.std.specs.declared.alloc.Global.{Global}
use Rattle.channel_face.specs.Faces.{Own}
use Rattle.channel_face.specs.History.{IsRun, Opening, Step, opening, reopen_reply, state_after}
use Rattle.channel_face.specs.Keeps.{is_spent_check, is_spent_open, is_spent_prune}
use Rattle.channel_face.specs.Machine.{Call, Checkpoint, Prune, Reopen, State, after, is_none_staged}
use Rattle.channel_face.specs.declared.replies.Counts.{Counts}
use Rattle.channel_face.specs.declared.replies.OpenCause.{OpenCause}
use Rattle.event_core.specs.declared.journal.Entry.{Entry}
use Rattle.agent_end.specs.declared.draining.ChannelDrain.{ChannelDrain}
use Rattle.shared_channel.specs.Calls.{Answers, step}
use Rattle.shared_channel.specs.Passes.{Known}
use Rattle.shared_channel.specs.Ports.{own_calls, own_if}
use Rattle.shared_channel.proofs.Porting.{own-append}
use Rattle.sink_worker.specs.Rounds.{Told}
use Rattle.sink_worker.specs.declared.worker.SinkWorker.{SinkWorker}
use Rattle.channel_lock.specs.Calls.{Below, calls_by, has, keep}
use Rattle.channel_lock.specs.Turns.{MadeInTurn}
use Rattle.channel_lock.specs.Views.{View}
use Rattle.channel_lock.proofs.Histories.{calls_by-append, has_only}
use Rattle.two_channels.specs.Shares.{KeepsIn, MendsIn}
use Rattle.two_channels.specs.declared.shared.EitherShared.{EitherShared}
use Rattle.two_channels.specs.declared.shared.EitherShared.TheVariants as share
use Rattle.run_tracks.specs.Dealt.{AreDealt, IsOwned, Owner}
use Rattle.run_tracks.specs.Closes.{IsClosed}
use Rattle.run_tracks.specs.Homes.{EachTook, Took}
use Rattle.run_tracks.specs.Places.{Zips}
use Rattle.run_tracks.specs.Stops.{IsKept, IsMended, KeptIf}
use Rattle.run_tracks.specs.Told.{IsNew}
use Rattle.run_tracks.specs.Tracks.{Stood}
use Rattle.run_staff.specs.Alone.{IsAway}
use Rattle.run_settling.specs.Draining.{EachGoesOn, IsDrainedAt}
use Rattle.agent_run.specs.Finals.{finals_of}
use Rattle.run_working.specs.Histories.{IsSinkTold}
use Rattle.agent_run.specs.RolledTold.{CountsMore}
use Rattle.run_settling.specs.Settling.{AreSettled}
use Rattle.run_working.specs.Wholes.{AreBeside, IsNot, IsSilent, IsSinkWhole}
use Rattle.run_settling.specs.declared.at_home.AtHome.{AtHome}
use Rattle.run_settling.specs.declared.settling.Settled.{Settled}
use Rattle.agent_run.proofs.Course.{there}
use Rattle.agent_run.proofs.Ended.{Plain, ends_plain}
use Rattle.agent_run.proofs.Left.{at_rest, closed_at, closed_long, finals_are, left_below}
use Rattle.run_working.proofs.Owners.{sink_owners}
use Rattle.agent_run.proofs.Growing.{whole_tidied}
use Rattle.run_working.proofs.Silence.{drains_silent, silent_own}
use Rattle.agent_run.proofs.Staged.{EachEnds, EndsOf, nothing_staged, ticket_of, track_in}
use Rattle.agent_run.proofs.Tidying.{EndsAt, whole_tidy}
use Rattle.run_working.proofs.Unrun.{none_called}

-- ---- workers

-- each stage of the workers of sinks was settled or flushed
pub sinks_tidy : {A B S C : Type 0} (sink : Told S) (moments : C → Option (ℕ → ℕ)) (shares : List (EitherShared A B)) (finals : List Known) (some : EitherShared A B)
    (jobs : List (SinkWorker Known S C)) (ends : List ChannelDrain) (backs : List S) → AreBeside (IsSinkWhole sink moments shares finals) jobs ends backs
    → AllByRecursion (λ (o : Owner). EndsAt finals o.place o.number) (sink_owners jobs)
sinks_tidy sink moments shares finals some [] [] [] all = tt
sinks_tidy sink moments shares finals some [] [] (b ∷ backs) all = absurd all
sinks_tidy sink moments shares finals some [] (e ∷ ends) backs all = absurd all
sinks_tidy sink moments shares finals some (job ∷ jobs) [] backs all = absurd all
sinks_tidy sink moments shares finals some (job ∷ jobs) (e ∷ ends) [] all = absurd all
sinks_tidy sink moments shares finals some (job ∷ jobs) (e ∷ ends) (b ∷ backs) all = (
  whole_tidy finals job.channel job.port job.port.number (whole_tidied sink moments shares finals job e b all.0 some job.port),
  sinks_tidy sink moments shares finals some jobs ends backs all.1,
)

owned_at : (P : Owner → Type 0) (owners : List Owner) (i : ℕ) (d : Owner) → AllByRecursion P owners → i < length owners → P (get_or owners i d)
owned_at P [] i d all below = absurd (omega (arith, below))
owned_at P (o ∷ owners) zero d all below = all.0
owned_at P (o ∷ owners) (suc i) d all below = owned_at P owners i d all.1 (omega (arith, below))

-- where that is so of all owners of numbers, it is so of each number that one of them owns
pub owner_ends : (finals : List Known) (owners : List Owner) (place n : ℕ) → AllByRecursion (λ (o : Owner). EndsAt finals o.place o.number) owners → IsOwned owners place n → EndsAt finals place n
owner_ends finals owners place n all (i, below, is) =
    let d : Owner = record { place = place; number = n } in
    subst (λ (o : Owner). EndsAt finals o.place o.number) (is d) (owned_at (λ (o : Owner). EndsAt finals o.place o.number) owners i d all below)

-- ---- the pass at home

-- no call of these staged anything
abbrev StagesNone : List Step → Type 0
StagesNone h = AllByRecursion (λ (x : Step). ticket_of x.call ≡ None) h

own_plain : (ns : List ℕ) (n : ℕ) → has ns n ≡ true → (s : State) (h : List Step) → StagesNone (calls_by ns h) → Plain (own_calls (n ∷ []) s h)
own_plain ns n is s [] none = tt
own_plain ns n is s (x ∷ h) none = by (has ns x.pass) (has (n ∷ []) x.pass) refl refl none (λ rest. own_plain ns n is (after s x.call) h rest)
  where
    by : (b c : Bool) → has ns x.pass ≡ b → has (n ∷ []) x.pass ≡ c → StagesNone (keep b x (calls_by ns h)) → (StagesNone (calls_by ns h) → Plain (own_calls (n ∷ []) (after s x.call) h))
        → Plain (own_if c (record { call = x.call; before = s; moment = x.moment }) (own_calls (n ∷ []) (after s x.call) h))
    by true true b c none rest = (none.0, rest none.1)
    by true false b c none rest = rest none.1
    by false false b c none rest = rest none
    by false true b c none rest = absurd (false≢true (sym b ∙ ap (has ns) (has_only n x.pass c) ∙ is))

-- what the one has seen begins what the other has, and no further call with one of its numbers staged anything
pub record IsStill (v w : View) : Type 0 where
  pub base : w.base ≡ v.base
  pub rest : List Step
  pub whole : v.seen ++ rest ≡ w.seen
  pub none : AllByRecursion (λ (x : Step). ticket_of x.call ≡ None) (calls_by v.numbers rest)

made_still : (v w : View) (es : List Step) → StagesNone es → MadeInTurn v es w → IsStill v w
made_still v w es none is =
    let rest = is.0 ++ es in
    let whole : v.seen ++ rest ≡ w.seen = sym (append_assoc v.seen is.0 es) ∙ sym is.2 in
    let calls : calls_by v.numbers v.seen ++ calls_by v.numbers rest ≡ calls_by v.numbers v.seen ++ es =
    sym (calls_by-append v.numbers v.seen rest) ∙ ap (calls_by v.numbers) whole ∙ is.3 in
    record {
      base = ap (λ (x : View). x.base) is.1;
      rest = rest;
      whole = whole;
      none = subst StagesNone (sym (append_cancel_left (calls_by v.numbers v.seen) (calls_by v.numbers rest) es calls)) none;
    }

still_self : (v : View) → IsStill v v
still_self v = record { base = refl; rest = []; whole = append-nil v.seen; none = tt }

stages_more : (a b : List Step) → StagesNone a → StagesNone b → StagesNone (a ++ b)
stages_more [] b p q = q
stages_more (x ∷ a) b p q = (p.0, stages_more a b p.1 q)

still_then : (u v w : View) → v.numbers ≡ u.numbers → IsStill u v → IsStill v w → IsStill u w
still_then u v w numbers f g = record {
  base = g.base ∙ f.base;
  rest = f.rest ++ g.rest;
  whole = sym (append_assoc u.seen f.rest g.rest) ∙ ap (λ (l : List Step). l ++ g.rest) f.whole ∙ g.whole;
  none = subst StagesNone (sym (calls_by-append u.numbers f.rest g.rest))
      (stages_more (calls_by u.numbers f.rest) (calls_by u.numbers g.rest) f.none (subst (λ (ns : List ℕ). StagesNone (calls_by ns g.rest)) numbers g.none));
}

module _ {A : Type 0} (disk : A → Opening → List Step → Type 0) (tells : A → Bool) (moment : A → ℕ) where
  called_still : (spent : Bool) (v w : View) (by : ℕ) (call : Call) → ticket_of call ≡ None → Answers disk tells moment spent v by call w → IsStill v w × (w.numbers ≡ v.numbers)
  called_still true v w by call none is = (made_still v w [] tt is.0.1.made, ap (λ (x : View). x.numbers) is.0.1.made.1)
  called_still false v w by call none is = (made_still v w (step by call (moment is.0.0) ∷ []) (none, tt) is.0.1.made, ap (λ (x : View). x.numbers) is.0.1.made.1)

  module _ (laid : A → State → Type 0) (pruned : A → Type 0) {B : Type 0} where
    kept_still : (s : EitherShared A B) (v w : View) (by : ℕ) → KeepsIn disk tells moment laid pruned s v by w → IsStill v w
    kept_still (share.Disk s) v w by is =
        let first = called_still (is_spent_check is.check) v is.between by (Checkpoint is.check) refl is.checks in
        let last = called_still (is_spent_prune is.prune) is.between w by (Prune is.prune) refl is.prunes in
        still_then v is.between w first.1 first.0 last.0
    kept_still (share.Memory s) v w by same = subst (IsStill v) (sym same) (still_self v)

    -- where it was to be kept, or else
    kept_if_still : (s : EitherShared A B) (b : Bool) (p q : Known) → KeptIf b (IsKept disk tells moment laid pruned s) p q → IsStill p.view q.view × (q.view.numbers ≡ p.view.numbers)
    kept_if_still s true p q is = (kept_still s p.view q.view p.number is.keeps, is.later.numbers)
    kept_if_still s false p q same = subst (λ (k : Known). IsStill p.view k.view × (k.view.numbers ≡ p.view.numbers)) (sym same) (still_self p.view, refl)

  mended_still : {B : Type 0} (s : EitherShared A B) (v w : View) (by : ℕ) (result : Result Bool OpenCause) → MendsIn disk tells moment s v by result w → IsStill v w
  mended_still (share.Disk s) v w by (Ok false) is = made_still v w [] tt is.0.1.made
  mended_still (share.Disk s) v w by (Ok true) is = (called_still (is_spent_open is.0) v w by (Reopen (reopen_reply is.0 is.1.0)) refl is.1.1).0
  mended_still (share.Disk s) v w by (Err e) is = (called_still (is_spent_open is.0) v w by (Reopen (reopen_reply is.0 is.1.0)) refl is.1.1).0
  mended_still (share.Memory s) v w by result is = subst (IsStill v) (sym is.0) (still_self v)

-- no call with the number of the pass at home staged anything
pub home_ends : (n : ℕ) (p0 p1 p2 : Known) (v : View) → IsNew p0 → p0.number ≡ n → Took p1 p0 → IsSilent n p1 p2 → has p2.view.numbers n ≡ true → IsStill p2.view v → EndsOf v.base v.seen n
home_ends n p0 p1 p2 v new mine took silent has_it still =
    let start = opening p2.view.base in
    let before : own_calls (n ∷ []) start p2.view.seen ≡ [] = silent_own n p1 p2 silent ∙ subst (λ (k : ℕ). own_calls (k ∷ []) (opening p1.view.base) p1.view.seen ≡ []) mine (none_called p1 p0 new took) in
    let rest = own_calls (n ∷ []) (state_after start p2.view.seen) still.rest in
    let own : own_calls (n ∷ []) (opening v.base) v.seen ≡ rest =
    (λ i. own_calls (n ∷ []) (opening (still.base i)) (sym still.whole i)) ∙ own-append (n ∷ []) start p2.view.seen still.rest ∙ ap (λ (l : List Own). l ++ rest) before in
    subst (EachEnds (Stood (track_in v.base v.seen n)) (length v.seen) []) (sym own)
    (ends_plain (Stood (track_in v.base v.seen n)) (length v.seen) [] rest (own_plain p2.view.numbers n has_it (state_after start p2.view.seen) still.rest still.none))

-- a worker of a sink has none of the numbers of a pass at home
pub home_not : {A B S C : Type 0} (sink : Told S) (moments : C → Option (ℕ → ℕ)) (shares : List (EitherShared A B)) (homes firsts : List Known) (place n : ℕ) (d : Known) → (get_or firsts place d).number ≡ n
    → (jobs : List (SinkWorker Known S C)) (ws : List (SinkWorker AtHome S C)) → Zips (IsSinkTold sink moments shares homes) jobs ws → AllByRecursion (IsAway firsts) (sink_owners jobs)
    → AllByRecursion (IsNot place n) ws
home_not sink moments shares homes firsts place n d mine [] [] told away = tt
home_not sink moments shares homes firsts place n d mine [] (w ∷ ws) told away = absurd told
home_not sink moments shares homes firsts place n d mine (job ∷ jobs) [] told away = absurd told
home_not sink moments shares homes firsts place n d mine (job ∷ jobs) (w ∷ ws) told away = (
  λ at number. away.0.other d (ap (λ (k : ℕ). (get_or firsts k d).number) (sym told.0.channel ∙ at) ∙ mine ∙ sym number ∙ told.0.number),
  home_not sink moments shares homes firsts place n d mine jobs ws told.1 away.1,
)

none_of : (staged : List Entry) → is_none_staged staged ≡ true → staged ≡ []
none_of [] is = refl
none_of (entry ∷ staged) is = absurd (false≢true is)

-- Nothing is staged in a channel that is not broken, where each stage of each number was settled or flushed.
pub none_staged : (tells : Bool) (v : View) → IsRun tells (opening v.base) v.seen → (state_after (opening v.base) v.seen).broken ≡ false → CountsMore (length v.seen) → Below v.passes v.seen
    → ((n : ℕ) → n < v.passes → EndsOf v.base v.seen n) → (state_after (opening v.base) v.seen).staged ≡ []
none_staged tells v run whole counted below each =
    none_of (state_after (opening v.base) v.seen).staged (nothing_staged tells v.base v.seen v.passes run whole counted below each)

still_later : (u v w : View) → w.base ≡ v.base → w.seen ≡ v.seen → IsStill u v → IsStill u w
still_later u v w base seen is = record { base = base ∙ is.base; rest = is.rest; whole = is.whole ∙ sym seen; none = is.none }

-- ---- the whole

module _ {A B S C : Type 0} (sink : Told S) (moments : C → Option (ℕ → ℕ)) (disk : A → Opening → List Step → Type 0) (tells : A → Bool) (moment : A → ℕ)
    (laid : A → State → Type 0) (pruned : A → Type 0) (memory : B → Opening → List Step → Type 0) (tells' : B → Bool) (shares : List (EitherShared A B)) (firsts homes : List Known) (workers : List (SinkWorker AtHome S C))
    (closes : List Bool) (names : List (String Global × Counts)) (settled : Settled S A B)
    (is : AreSettled (IsDrainedAt sink moments) (IsKept disk tells moment laid pruned) (IsMended disk tells moment) (IsClosed disk tells memory tells') shares homes workers closes names settled)
    (many : length firsts ≡ length shares) (named : length names ≡ length homes) (took : EachTook firsts homes) (fresh : (place : ℕ) (d : Known) → place < length firsts → IsNew (get_or firsts place d))
    (owners : List Owner) (dealt : AreDealt firsts owners) (goes_on : EachGoesOn homes (finals_of settled))
    (owned : AllByRecursion (λ (o : Owner). EndsAt (finals_of settled) o.place o.number) owners)
    (jobs : List (SinkWorker Known S C)) (told : Zips (IsSinkTold sink moments shares homes) jobs workers) (away : AllByRecursion (IsAway firsts) (sink_owners jobs))
    (place : ℕ) (final : Known) (below : place < length firsts) where
  abbrev at_end : View
  at_end = (get_or (finals_of settled) place final).view

  at_home : place < length homes
  at_home = let e = took.as_many in omega (arith, below, e)

  at_drained : place < length is.drained
  at_drained = let e = is.goes_on.as_many in let h = at_home in omega (arith, h, e)

  at_kept : place < length is.kept
  at_kept = let e = is.keeps.as_many in let h = at_drained in omega (arith, h, e)

  at_mended : place < length is.mended
  at_mended = let e = is.mends.as_many in let h = at_kept in omega (arith, h, e)

  at_counted : place < length is.counted
  at_counted = let e = is.counts.as_many in let h = at_mended in omega (arith, h, e)

  final_is : get_or (finals_of settled) place final ≡ at_rest (get_or is.counted place final)
  final_is = ap (λ (l : List Known). get_or l place final) (finals_are disk tells memory tells' shares is.counted settled.closed.items is.closed) ∙ get_or-map at_rest is.counted place final final at_counted

  each_below : Below at_end.passes at_end.seen
  each_below =
      let s = there shares place (omega (arith, below, many)) in
      let e = there settled.closed.items place (let l = closed_long (IsClosed disk tells memory tells') shares is.counted settled.closed.items is.closed in let h = at_counted in omega (arith, h, l)) in
      subst (λ (q : Known). Below q.view.passes q.view.seen) (sym final_is)
      (left_below disk tells memory tells' (get_or shares place s) (get_or is.counted place final) (get_or settled.closed.items place e)
      (closed_at (IsClosed disk tells memory tells') shares is.counted settled.closed.items is.closed place s final e at_counted))

  -- the calls after the drainings
  still_at_end : IsStill (get_or is.drained place final).view at_end
  still_at_end =
      let s = there shares place (omega (arith, below, many)) in
      let b = there names place (let h = at_home in omega (arith, h, named)) in
      let c = there settled.report.items place (let e = is.counts.noted in let h = at_home in omega (arith, h, named, e)) in
      let old = get_or is.drained place final in
      let kept = get_or is.kept place final in
      let mid = get_or is.mended place final in
      let first = kept_if_still disk tells moment laid pruned (get_or shares place s) (get_or closes place false) old kept (is.keeps.each place s false final final at_drained) in
      let last = mended_still disk tells moment (get_or shares place s) kept.view mid.view kept.number (get_or settled.mends.items place (Ok false)) (is.mends.each place s final final (Ok false) at_kept).mends in
      let one = still_then old.view kept.view mid.view first.1 first.0 last in
      let counted = (is.counts.each place final final b c at_mended).pass in
      still_later old.view mid.view at_end
      (ap (λ (q : Known). q.view.base) final_is ∙ ap (λ (q : Known). q.view.base) counted) (ap (λ (q : Known). q.view.seen) final_is ∙ ap (λ (q : Known). q.view.seen) counted) one

  home_number : (n : ℕ) → has (get_or firsts place final).view.numbers n ≡ true → EndsOf at_end.base at_end.seen n
  home_number n has_it =
      let new = fresh place final below in
      let mine : (get_or firsts place final).number ≡ n = sym (has_only (get_or firsts place final).number n (subst (λ (l : List ℕ). has l n ≡ true) new.0 has_it)) in
      let at_each : (d : Known) → has (get_or homes place d).view.numbers n ≡ true =
      λ d. (took.each place d below).numbers n (subst (λ (q : Known). has q.view.numbers n ≡ true) (get_or_default firsts place final d below) has_it) in
      let silent = drains_silent sink moments place n homes is.drained workers settled.ends.items settled.sinks.items at_home at_each
      (All-from_recursion (IsNot place n) workers (home_not sink moments shares homes firsts place n final mine jobs workers told away)) is.drains final in
      let later : has (get_or is.drained place final).view.numbers n ≡ true = subst (λ (l : List ℕ). has l n ≡ true) (sym (is.goes_on.each place final at_home).numbers) (at_each final) in
      home_ends n (get_or firsts place final) (get_or homes place final) (get_or is.drained place final) at_end new mine (took.each place final below) silent later still_at_end

  each_number : (n : ℕ) → n < at_end.passes → EndsOf at_end.base at_end.seen n
  each_number n under =
      let on = goes_on.each place final at_home in
      let same : at_end.passes ≡ (get_or firsts place final).view.passes = on.passes ∙ (took.each place final below).passes in
      by (dealt place final below n (omega (arith, under, same)))
    where
      by : (has (get_or firsts place final).view.numbers n ≡ true) ⊎ IsOwned owners place n → EndsOf at_end.base at_end.seen n
      by (inl mine) = home_number n mine
      by (inr other) = owner_ends (finals_of settled) owners place n owned other final (let e = goes_on.as_many in let h = at_home in omega (arith, h, e))

  -- Where the channel at this place is not broken in the end, nothing is staged in it.
  pub staged_none : (t : Bool) → IsRun t (opening at_end.base) at_end.seen → (state_after (opening at_end.base) at_end.seen).broken ≡ false → CountsMore (length at_end.seen)
      → (state_after (opening at_end.base) at_end.seen).staged ≡ []
  staged_none t run whole counted = none_staged t at_end run whole counted each_below each_number
