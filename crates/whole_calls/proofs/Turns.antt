-- A run of a sink, and a batch that is put, leave open no transaction that they began.
use Rattle.std.proofs.Common.{inl, inr, ◌≡◌, ◌++◌, ◌∷◌, [], ℕ, List, Option, Some, None, Result, Ok, Err, Bool, true, false, refl, sym, ◌∙◌, ap, subst, append_assoc}
use mathlib.Core.List.{IsPrefix}
use Rattle.event_core.specs.Content.{Content}
use Rattle.channel_face.specs.Faces.{ArePut, ArePutUpTo, EndsAs, EndsPuts, IsFound, IsMade, IsPutBatch, IsPutStage, IsRolledBack, IsTake, IsTakeCommit, Own, is_spent_begin, is_spent_flush, is_spent_put, is_spent_stage, is_spent_take, one}
use Rattle.channel_face.specs.History.{IsRun, Opening, Step, opening, state_after}
use Rattle.channel_face.specs.Machine.{Admits, BeginPut, BeginTake, Call, Flush, Put, StagePut, StageTake, State, Take, after, settled}
use Rattle.channel_face.specs.Token.{Token}
use Rattle.channel_face.specs.declared.replies.FaceRefused.{FaceRefused}
use Rattle.channel_face.specs.declared.replies.PutRefused.{PutRefused}
use Rattle.channel_face.specs.declared.replies.Settled.{Settled}
use Rattle.channel_face.specs.declared.replies.Settled.TheVariants.{Yes, No, InDoubt}
use Rattle.plug_in.specs.declared.sink.SinkRefused.{SinkRefused}
use Rattle.shared_channel.specs.Ports.{Stood, own_calls}
use Rattle.sink_runner.specs.Turns.{AreTaken, AreTakenUpTo, EndsTaking, EndsTurn, IsHandedOver, IsTurn}
use Rattle.sink_runner.specs.declared.turn.Turn.{Turn}
use Rattle.whole_calls.specs.Over.{AreOver, IsOver}
use Rattle.whole_calls.proofs.Ending.{Earlier, Ended, Stale, begun_earlier, earlier_run, ended_run, ended_stale, kept_run, rolled_ended, rolls, staged_ended, stale_ended}
use Rattle.whole_calls.proofs.Origins.{kept_opening}
use Rattle.whole_calls.proofs.Placing.{IsAt, place, run_behind, run_front, state_append}
use Rattle.whole_calls.proofs.Shapes.{Kept, begins}

-- what some calls began is over, and what further ones began too
pub over_append : (s : State) (a b : List Own) → AreOver s a → AreOver s b → AreOver s (a ++ b)
over_append s [] b x y = y
over_append s (o ∷ a) b x y = (x.0, over_append s a b x.1 y)

over_split : (s : State) (own a b : List Own) → own ≡ a ++ b → AreOver s a → AreOver s b → AreOver s own
over_split s own a b split x y = subst (AreOver s) (sym split) (over_append s a b x y)

-- a call that began no transaction
pub over_made : (s t : State) (seen : ℕ) (spent : Bool) (call : Call) (own : List Own) → IsOver s call → IsMade seen spent call t own → AreOver s own
over_made s t seen false call own it made = subst (AreOver s) (sym made.1) (it, tt)
over_made s t seen true call own it made = subst (AreOver s) (sym made.0) tt

over_take : (s : State) (seen : ℕ) (token : Token) (result : Result (Option Content) FaceRefused) (own : List Own) → IsTake seen token result own → AreOver s own
over_take s seen token result own (reply, t, made, is) = over_made s t seen (is_spent_take reply) (Take token reply) own tt made

over_taken : (s : State) (seen : ℕ) (token : Token) (events : List Content) (own : List Own) → AreTaken seen token events own → AreOver s own
over_taken s seen token [] own none = subst (AreOver s) (sym none) tt
over_taken s seen token (event ∷ events) own (first, rest, split, take, others) = over_split s own first rest split (over_take s seen token (Ok (Some event)) first take) (over_taken s seen token events rest others)

over_last : (s : State) (seen : ℕ) (token : Token) (batch : ℕ) (events : List Content) (stop : Result (Unit {0}) Turn) (own : List Own) → EndsTaking seen token batch events stop own → AreOver s own
over_last s seen token batch events (Ok done) own (inl (none, full)) = subst (AreOver s) (sym none) tt
over_last s seen token batch events (Ok done) own (inr (room, take)) = over_take s seen token (Ok None) own take
over_last s seen token batch events (Err turn) own (inl (room, (refused, take, is))) = over_take s seen token (Err refused) own take
over_last s seen token batch events (Err turn) own (inr (none, had, is)) = subst (AreOver s) (sym none) tt

over_takes : (s : State) (seen : ℕ) (token : Token) (batch : ℕ) (events : List Content) (stop : Result (Unit {0}) Turn) (own : List Own) → AreTakenUpTo seen token batch events stop own → AreOver s own
over_takes s seen token batch events stop own (room, (takes, last, split, all, end)) = over_split s own takes last split (over_taken s seen token events takes all) (over_last s seen token batch events stop last end)

over_put : (s : State) (token : Token) (events : List Content) (own : List Own) → ArePut token events own → AreOver s own
over_put s token [] own none = subst (AreOver s) (sym none) tt
over_put s token (event ∷ events) own (done, t, moment, rest, split, others) = over_split s own (one (Put token event (Ok done)) t moment) rest split (tt, tt) (over_put s token events rest others)

over_puts : (s : State) (seen : ℕ) (token : Token) (events : List Content) (reply : Result (Unit {0}) PutRefused) (own : List Own) → ArePutUpTo seen token events reply own → AreOver s own
over_puts s seen token events (Ok done) own all = over_put s token events own all
over_puts s seen token events (Err why) own (front, back, event, t, puts, put, parts, split, all, made) =
    over_split s own puts put split (over_put s token front puts all) (over_made s t seen (is_spent_put (Err why)) (Put token event (Err why)) put tt made)

over_flush : (s t : State) (seen : ℕ) (a : Settled) (own : List Own) (sure : Bool) → EndsAs seen t a own sure → AreOver s own
over_flush s t seen Yes own sure end = subst (AreOver s) (sym end.0) tt
over_flush s t seen No own sure end = over_made s t seen (is_spent_flush end.0) (Flush end.0) own tt end.1
over_flush s t seen InDoubt own sure end = subst (AreOver s) (sym end.0) tt

-- a list that has a begin of this token
pub record HasBegun (takes : Bool) (token : Token) (own : List Own) : Type 0 where
  pub front : List Own
  pub begin : Own
  pub back : List Own
  pub split : own ≡ front ++ begin ∷ back
  pub is : begin.call ≡ begins takes token

begun_more : (takes : Bool) (token : Token) (own more : List Own) → HasBegun takes token own → HasBegun takes token (own ++ more)
begun_more takes token own more h = record { front = h.front; begin = h.begin; back = h.back ++ more; split = ap (λ (l : List Own). l ++ more) h.split ∙ append_assoc h.front (h.begin ∷ h.back) more; is = h.is }

begun_one : (takes : Bool) (token : Token) (earlier first : List Own) (s : State) (moment : ℕ) → first ≡ one (begins takes token) s moment → HasBegun takes token (earlier ++ first)
begun_one takes token earlier first s moment is = record { front = earlier; begin = record { call = begins takes token; before = s; moment = moment }; back = []; split = ap (λ (l : List Own). earlier ++ l) is; is = refl }

-- of own calls in parts that begin a list the first part does
prefix_first : (a b all : List Own) → IsPrefix (a ++ b) all → IsPrefix a all
prefix_first a b all p = (b ++ p.0, sym (append_assoc a b p.0) ∙ p.1)

prefix_parts : (a own b c all : List Own) → own ≡ b ++ c → IsPrefix (a ++ own) all → IsPrefix ((a ++ b) ++ c) all
prefix_parts a own b c all split p = (p.0, ap (λ (l : List Own). l ++ p.0) (append_assoc a b c ∙ ap (λ (l : List Own). a ++ l) (sym split)) ∙ p.1)

module _ (tells : Bool) (ns : List ℕ) (start : Opening) (whole : List Step) (run : IsRun tells (opening start) whole) where
  abbrev pub all : List Own
  all = own_calls ns (opening start) whole

  abbrev pub end : State
  end = state_after (opening start) whole

  -- an ended transaction's token is stale at the end
  ended_at : (takes : Bool) (token : Token) (front back : List Step) → whole ≡ front ++ back → Ended takes (state_after (opening start) front) token → Stale takes end token
  ended_at takes token front back split ended =
      let both = subst (IsRun tells (opening start)) split run in
      let kept = kept_run tells (opening start) front (run_front tells (opening start) front back both) (kept_opening start) in
      let later = ended_run tells takes (state_after (opening start) front) back token (run_behind tells (opening start) front back both) kept ended in
      ended_stale takes end token (subst (λ (s : State). Ended takes s token) (sym (ap (state_after (opening start)) split ∙ state_append (opening start) front back)) later)

  -- the place of a call
  abbrev at : List Own → Own → Type 0
  at own o = IsAt ns (opening start) whole own o

  -- the machine's answer to it
  may : (own : List Own) (o : Own) → (p : at own o) → Admits tells (state_after (opening start) p.front) p.step.call
  may own o p = (run_behind tells (opening start) p.front (p.step ∷ p.back) (subst (IsRun tells (opening start)) p.split run)).0

  -- after a call that ends a transaction
  ended_behind : (takes : Bool) (token : Token) (own : List Own) (call : Call) (s : State) (moment : ℕ) (more : List Own) → more ≡ one call s moment → IsPrefix (own ++ more) all
      → ((s : State) → Admits tells s call → Kept s → Ended takes (after s call) token) → Stale takes end token
  ended_behind takes token own call s moment more is p ends =
      let o : Own = record { call = call; before = s; moment = moment } in
      let split : all ≡ own ++ o ∷ p.0 = sym p.1 ∙ ap (λ (l : List Own). (own ++ l) ++ p.0) is ∙ append_assoc own (o ∷ []) p.0 in
      let q = place ns (opening start) whole own o p.0 split in
      let before = state_after (opening start) q.front in
      let front = run_front tells (opening start) q.front (q.step ∷ q.back) (subst (IsRun tells (opening start)) q.split run) in
      let ended = ends before (subst (Admits tells before) q.call (may own o q)) (kept_run tells (opening start) q.front front (kept_opening start)) in
      ended_at takes token (q.front ++ q.step ∷ []) q.back (q.split ∙ sym (append_assoc q.front (q.step ∷ []) q.back))
      (subst (λ (x : State). Ended takes x token) (sym (state_append (opening start) q.front (q.step ∷ []) ∙ ap (after before) q.call)) ended)

  -- after a begin the token was given before
  pub begun_before : (takes : Bool) (token : Token) (own : List Own) (front back : List Step) → HasBegun takes token own → whole ≡ front ++ back → own_calls ns (opening start) front ≡ own → Earlier (state_after (opening start) front) token
  begun_before takes token own front back has split is =
      let q = place ns (opening start) front has.front has.begin has.back (is ∙ has.split) in
      let s = state_after (opening start) q.front in
      let first = run_front tells (opening start) front back (subst (IsRun tells (opening start)) split run) in
      let rest = run_behind tells (opening start) q.front (q.step ∷ q.back) (subst (IsRun tells (opening start)) q.split first) in
      let begun : Earlier (after s q.step.call) token = subst (λ (c : Call). Earlier (after s c) token) (sym (q.call ∙ has.is)) (begun_earlier tells takes s token (subst (Admits tells s) (q.call ∙ has.is) rest.0)) in
      subst (λ (x : State). Earlier x token) (sym (ap (state_after (opening start)) q.split ∙ state_append (opening start) q.front (q.step ∷ q.back))) (earlier_run tells (after s q.step.call) q.back token rest.1 begun)

  module _ (saw : List Own → State → Type 0) (stood : (own : List Own) (s : State) → saw own s → Stood start whole ns own s) where
    -- a token that was found stale
    stale_found : (takes : Bool) (token : Token) (earlier own : List Own) (s : State) → HasBegun takes token earlier → IsPrefix (earlier ++ own) all → IsFound saw earlier own s → Stale takes s token → Stale takes end token
    stale_found takes token earlier [] s has p found stale =
        let (front, begins, own, is) = stood earlier s found in
        let before = begun_before takes token earlier front begins.0 has (sym begins.1) own in
        ended_at takes token front begins.0 (sym begins.1) (stale_ended takes (state_after (opening start) front) token before (subst (λ (x : State). Stale takes x token) (sym is) stale))
    stale_found takes token earlier (o ∷ own) s has p is stale =
        let q = place ns (opening start) whole earlier o (own ++ p.0) (sym p.1 ∙ append_assoc earlier (o ∷ own) p.0) in
        let before = begun_before takes token earlier q.front (q.step ∷ q.back) has q.split q.own in
        ended_at takes token q.front (q.step ∷ q.back) q.split (stale_ended takes (state_after (opening start) q.front) token before (subst (λ (x : State). Stale takes x token) (sym is ∙ q.before) stale))

    over_rolls : (takes b : Bool) (token : Token) (s : State) (moment : ℕ) (own : List Own) → own ≡ one (rolls takes token b) s moment → AreOver end own
    over_rolls true b token s moment own is = subst (AreOver end) (sym is) (tt, tt)
    over_rolls false b token s moment own is = subst (AreOver end) (sym is) (tt, tt)

    -- after a rollback
    rolled : (takes : Bool) (token : Token) (earlier own : List Own) → HasBegun takes token earlier → IsPrefix (earlier ++ own) all → IsRolledBack saw (rolls takes token) (λ s. Stale takes s token) earlier own → Stale takes end token × AreOver end own
    rolled takes token earlier own has p (inl (s, moment, is)) =
        (ended_behind takes token earlier (rolls takes token true) s moment own is p (λ x m k. rolled_ended tells takes x token m k), over_rolls takes true token s moment own is)
    rolled takes token earlier own has p (inr (s, found, stale, inl none)) = (stale_found takes token earlier own s has p found stale, subst (AreOver end) (sym none) tt)
    rolled takes token earlier own has p (inr (s, found, stale, inr (moment, is))) = (stale_found takes token earlier own s has p found stale, over_rolls takes false token s moment own is)

    module _ (seen : ℕ) where
      -- after a commit of takes
      committed : (token : Token) (result : Result (Unit {0}) FaceRefused) (earlier own : List Own) → HasBegun true token earlier → IsPrefix (earlier ++ own) all → IsTakeCommit saw seen token result earlier own → Stale true end token × AreOver end own
      committed token result earlier own has p (Ok ticket, s, staged, ending, split, (moment, is), (sure, (t, found, last), answer)) =
          let q = prefix_parts earlier own staged ending all split p in (
            ended_behind true token earlier (StageTake token (Ok ticket)) s moment staged is (prefix_first (earlier ++ staged) ending all q) (λ x m k. staged_ended tells true x token ticket m k),
            over_split end own staged ending split (subst (AreOver end) (sym is) (tt, tt)) (over_flush end t seen (settled t ticket) ending sure last),
          )
      committed token result earlier own has p (Err cause, s, staged, ending, split, made, (back, answer)) =
          let r = rolled true token (earlier ++ staged) ending (begun_more true token earlier staged has) (prefix_parts earlier own staged ending all split p) back in
          (r.0, over_split end own staged ending split (over_made end s seen (is_spent_stage (Err cause)) (StageTake token (Err cause)) staged tt made) r.1)

      -- after a stage of puts
      put_staged : (token : Token) (result : Result ℕ FaceRefused) (earlier own : List Own) → HasBegun false token earlier → IsPrefix (earlier ++ own) all → IsPutStage saw seen token result earlier own → Stale false end token × AreOver end own
      put_staged token result earlier own has p (Ok ticket, s, staged, ending, split, (moment, is), (sure, (t, found, last), answer)) =
          let q = prefix_parts earlier own staged ending all split p in (
            ended_behind false token earlier (StagePut token (Ok ticket)) s moment staged is (prefix_first (earlier ++ staged) ending all q) (λ x m k. staged_ended tells false x token ticket m k),
            over_split end own staged ending split (subst (AreOver end) (sym is) (tt, tt)) (over_flush end t seen (settled t ticket) ending sure last),
          )
      put_staged token result earlier own has p (Err cause, s, staged, ending, split, made, (back, answer)) =
          let r = rolled false token (earlier ++ staged) ending (begun_more false token earlier staged has) (prefix_parts earlier own staged ending all split p) back in
          (r.0, over_split end own staged ending split (over_made end s seen (is_spent_stage (Err cause)) (StagePut token (Err cause)) staged tt made) r.1)

      puts_ended : (token : Token) (reply : Result (Unit {0}) PutRefused) (result : Result ℕ FaceRefused) (earlier own : List Own) → HasBegun false token earlier → IsPrefix (earlier ++ own) all → EndsPuts saw seen token reply earlier own result → Stale false end token × AreOver end own
      puts_ended token (Ok done) result earlier own has p ends = put_staged token result earlier own has p ends
      puts_ended token (Err why) result earlier own has p ends = rolled false token earlier own has p ends.0

      -- A batch leaves no transaction open.
      pub batch_over : (events : List Content) (result : Result ℕ FaceRefused) (earlier own : List Own) → IsPrefix (earlier ++ own) all → IsPutBatch saw seen events result earlier own → AreOver end own
      batch_over events result earlier own p (Err why, s, begun, ending, split, made, (none, is)) =
          over_split end own begun ending split (over_made end s seen (is_spent_begin (Err why)) (BeginPut (Err why)) begun tt made) (subst (AreOver end) (sym none) tt)
      batch_over events result earlier own p (Ok token, s, begun, ending, split, (moment, is), (reply, puts, last, parts, up, ends)) =
          let q = prefix_parts (earlier ++ begun) ending puts last all parts (prefix_parts earlier own begun ending all split p) in
          let has = begun_more false token (earlier ++ begun) puts (begun_one false token earlier begun s moment is) in
          let r = puts_ended token reply result ((earlier ++ begun) ++ puts) last has q ends in
          over_split end own begun ending split (subst (AreOver end) (sym is) (r.0, tt)) (over_split end ending puts last parts (over_puts end seen token events reply puts up) r.1)

      module _ {S : Type 0} (delivers : S → List Content → ℕ → Result (Unit {0}) SinkRefused → S → Type 0) where
        handed : (token : Token) (events : List Content) (moment : ℕ) (sink : S) (turn : Turn) (later : S) (earlier own : List Own) → HasBegun true token earlier → IsPrefix (earlier ++ own) all
            → IsHandedOver saw seen delivers token events moment sink turn later earlier own → Stale true end token × AreOver end own
        handed token [] moment sink turn later earlier own has p h = rolled true token earlier own has p h.0
        handed token (event ∷ events) moment sink turn later earlier own has p (Ok done, delivery, (answer, commit, is)) = committed token answer earlier own has p commit
        handed token (event ∷ events) moment sink turn later earlier own has p (Err why, delivery, (back, is)) = rolled true token earlier own has p back

        turn_ended : (token : Token) (events : List Content) (moment : ℕ) (sink : S) (stop : Result (Unit {0}) Turn) (turn : Turn) (later : S) (earlier own : List Own) → HasBegun true token earlier → IsPrefix (earlier ++ own) all
            → EndsTurn saw seen delivers token events moment sink stop turn later earlier own → Stale true end token × AreOver end own
        turn_ended token events moment sink (Ok done) turn later earlier own has p h = handed token events moment sink turn later earlier own has p h
        turn_ended token events moment sink (Err over) turn later earlier own has p h = rolled true token earlier own has p h.0

        same_token : (given token : Token) → ◌≡◌ {A = Result Token FaceRefused} (Ok token) (Ok given) → given ≡ token
        same_token given token told = cc

        -- A run of a sink leaves no transaction open.
        pub turn_over : (batch moment : ℕ) (sink : S) (turn : Turn) (later : S) (earlier own : List Own) → IsPrefix (earlier ++ own) all → IsTurn saw seen delivers batch moment sink turn later earlier own → AreOver end own
        turn_over batch moment sink turn later earlier own p (Err refused, first, rest, split, (Err why, s, made, told), (none, is, same)) =
            over_split end own first rest split (over_made end s seen (is_spent_begin (Err why)) (BeginTake (Err why)) first tt made) (subst (AreOver end) (sym none) tt)
        turn_over batch moment sink turn later earlier own p (Err refused, first, rest, split, (Ok given, s, made, told), last) = absurd (cc)
        turn_over batch moment sink turn later earlier own p (Ok token, first, rest, split, (Err why, s, made, told), last) = absurd (cc)
        turn_over batch moment sink turn later earlier own p (Ok token, first, rest, split, (Ok given, s, (at, is), told), (events, stop, takes, ending, parts, up, ends)) =
            let same = same_token given token told in
            let begun = is ∙ ap (λ (t : Token). one (BeginTake (Ok t)) s at) same in
            let q = prefix_parts (earlier ++ first) rest takes ending all parts (prefix_parts earlier own first rest all split p) in
            let has = begun_more true token (earlier ++ first) takes (begun_one true token earlier first s at begun) in
            let r = turn_ended token events moment sink stop turn later ((earlier ++ first) ++ takes) ending has q ends in
            over_split end own first rest split (subst (AreOver end) (sym begun) (r.0, tt)) (over_split end rest takes ending parts (over_takes end seen token batch events stop takes up) r.1)
