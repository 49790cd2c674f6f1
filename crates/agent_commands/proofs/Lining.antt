-- What the put transaction of a line did to an idle channel and to its disk.
use Rattle.std.proofs.Common.{◌≡◌, inl, inr, ◌<◌, ◌≤◌, ◌+◌, ◌-◌, ◌^◌, ℕ, List, [], ◌∷◌, ◌++◌, length, Option, Some, None, Result, Ok, Err, Bool, true, false, cond, ◌==◌, refl, sym, ◌∙◌, ap, subst, arith}
use Rattle.std.specs.Prelude.{◌||◌, is_ok}
use Rattle.std.proofs.lemmas.List.{append-nil}
use Rattle.std.proofs.lemmas.Bool.Decides.{nat_tests}
use Rattle.flume_host.specs.Told.{Told}
use Rattle.event_core.specs.Content.{Content, size}
use Rattle.event_core.specs.declared.journal.Entry.{Entry}
use Rattle.event_core.specs.declared.journal.Entry.TheVariants.{Puts, Takes}
use Rattle.channel_face.specs.Token.{Token}
use Rattle.channel_face.specs.Faces.{ArePut, ArePutUpTo, Ends, EndsAs, EndsBegin, EndsPuts, EndsStage, IsFound, IsMade, IsPutBatch, IsPutRolledBack, IsPutStage, Own, in_doubt_unless, is_spent_begin, is_spent_flush, is_spent_put, is_spent_stage, one}
use Rattle.channel_face.specs.History.{IsRun, Moves, Opening, Step, kept_by, opening}
use Rattle.channel_face.specs.Machine.{State, Admits, BeginPut, Call, Flush, Put, RollbackPut, StagePut, add_put, after, entry_of, is_none_staged, puts_of, settle_if, settled, size_of_list, stage}
use Rattle.channel_face.specs.declared.replies.BeginRefused.{BeginRefused}
use Rattle.channel_face.specs.declared.replies.BeginRefused.TheVariants as BeginNo
use Rattle.channel_face.specs.declared.replies.FaceRefused.{FaceRefused}
use Rattle.channel_face.specs.declared.replies.FlushRefused.{FlushRefused}
use Rattle.channel_face.specs.declared.replies.FlushRefused.TheVariants as FlushNo
use Rattle.channel_face.specs.declared.replies.Put.{Put as PutDone}
use Rattle.channel_face.specs.declared.replies.PutRefused.{PutRefused}
use Rattle.channel_face.specs.declared.replies.PutRefused.TheVariants as PutNo
use Rattle.channel_face.specs.declared.replies.Settled.{Settled}
use Rattle.channel_face.specs.declared.replies.Settled.TheVariants.{No}
use Rattle.channel_face.specs.declared.replies.StageCause.{StageCause}
use Rattle.channel_face.specs.declared.replies.Ticket.{Ticket}
use Rattle.channel_writing.specs.Stands.{is_fault}
use Rattle.channel_writing.specs.Touches.{Rests}
use Rattle.netcat_source.specs.declared.lines.LineVerdict.{LineVerdict}
use Rattle.netcat_source.specs.declared.lines.LineVerdict.TheVariants.{Accepted, Refused, InDoubt, NoMemory}
use Rattle.shared_channel.specs.Ports.{Stood}
use Rattle.agent_commands.specs.Handled.{GoesOn, is_accepted, is_in_doubt}
use Rattle.agent_commands.specs.Puts.{begin_verdict, put_verdict, verdict_of}
use Rattle.agent_commands.specs.Trails.{Trail}
use Rattle.agent_commands.proofs.Idle.{IsIdle, PutsOne}
use Rattle.agent_commands.proofs.Committing.{HasOpen, HasStaged, begin_refused, has_begun, has_put, has_staged, is_done, is_in_doubt as left_in_doubt, no_event, not_done, not_staged_done, open_puts}
use Rattle.agent_commands.proofs.Recording.{AllOf, First, calls_to, calls_to-append, faulty, first, found, recorded, settled_in}

-- what a line's verdict adds to what is settled
abbrev pub entry_if : LineVerdict → Content → List Entry
entry_if verdict event = cond (is_accepted verdict) (Puts (event ∷ []) ∷ []) []

no_begin_settles : (e : BeginRefused) (event : Content) → ([] ≡ entry_if (begin_verdict e) event) × (false ≡ is_in_doubt (begin_verdict e))
no_begin_settles BeginNo.Broken event = (refl, refl)
no_begin_settles (BeginNo.TooManyOpen held) event = (refl, refl)
no_begin_settles (BeginNo.Spent counter) event = (refl, refl)
no_begin_settles BeginNo.NoMemory event = (refl, refl)

no_put_settles : (e : PutRefused) (token : Token) (event : Content) → ([] ≡ entry_if (put_verdict e) event) × (is_fault (Put token event (Err e)) ≡ is_in_doubt (put_verdict e))
no_put_settles PutNo.Stale token event = (refl, refl)
no_put_settles PutNo.Broken token event = (refl, refl)
no_put_settles (PutNo.Spent counter) token event = (refl, refl)
no_put_settles (PutNo.TxnFull n) token event = (refl, refl)
no_put_settles (PutNo.TooLarge n) token event = (refl, refl)
no_put_settles (PutNo.Full n) token event = (refl, refl)
no_put_settles PutNo.DiskFault token event = (refl, refl)
no_put_settles PutNo.NoMemory token event = (refl, refl)

-- a put that was refused leaves its transaction open, and the frame
still_open : (s : State) (token : Token) (event : Content) (e : PutRefused) → (puts_of (after s (Put token event (Err e))) token ≡ puts_of s token) × ((after s (Put token event (Err e))).frame ≡ s.frame)
still_open s token event PutNo.Stale = (refl, refl)
still_open s token event PutNo.Broken = (refl, refl)
still_open s token event (PutNo.Spent counter) = (refl, refl)
still_open s token event (PutNo.TxnFull n) = (refl, refl)
still_open s token event (PutNo.TooLarge n) = (refl, refl)
still_open s token event (PutNo.Full n) = (refl, refl)
still_open s token event PutNo.DiskFault = (refl, refl)
still_open s token event PutNo.NoMemory = (refl, refl)

frame_if : (b : Bool) (n : ℕ) → n ≤ cond b n (n + 1)
frame_if true n = omega arith
frame_if false n = omega arith

frame_settled : (spilled : Bool) (s : State) → s.frame ≤ (settle_if spilled s).frame
frame_settled true s = frame_if (is_none_staged s.staged) s.frame
frame_settled false s = omega arith

frame_put : (s : State) (number : ℕ) (puts : Option (List Content)) (event : Content) → (add_put s number puts event).frame ≡ s.frame
frame_put s number None event = refl
frame_put s number (Some events) event = refl

frame_staged : (number : ℕ) (entry : Option Entry) (s : State) → (stage number entry s).frame ≡ s.frame
frame_staged number None s = refl
frame_staged number (Some (Puts [])) s = refl
frame_staged number (Some (Takes [])) s = refl
frame_staged number (Some (Puts (e ∷ es))) s = refl
frame_staged number (Some (Takes (n ∷ ns))) s = refl

life_staged : (number : ℕ) (entry : Option Entry) (s : State) → (stage number entry s).life ≡ s.life
life_staged number None s = refl
life_staged number (Some (Puts [])) s = refl
life_staged number (Some (Takes [])) s = refl
life_staged number (Some (Puts (e ∷ es))) s = refl
life_staged number (Some (Takes (n ∷ ns))) s = refl

-- a ticket of the frame that the next flush carries is not settled
waits : (t : Ticket) (s : State) → t.life ≡ s.life → t.frame ≡ s.frame → 1 ≤ s.frame → s.broken ≡ false → settled s t ≡ No
waits t s life frame some whole = grind (arith, nat_tests)

flush_fault : (s : State) (e : FlushRefused) → s.broken ≡ false → Admits true s (Flush (Err e)) → is_fault (Flush (Err e)) ≡ true
flush_fault s FlushNo.Broken whole may = absurd (let no = sym may ∙ whole in cc)
flush_fault s FlushNo.DiskFault whole may = refl
flush_fault s (FlushNo.Spent counter) whole may = absurd may

none_kept : (spilled : Bool) (staged : List Entry) → staged ≡ [] → cond spilled staged [] ≡ []
none_kept true staged none = none
none_kept false staged none = refl

or_false : (b : Bool) → b || false ≡ b
or_false true = refl
or_false false = refl

first_content : Content → List Content → Content
first_content x [] = x
first_content x (y ∷ l) = y

-- of one event
only_event : (event other : Content) (front back : List Content) → event ∷ [] ≡ front ++ other ∷ back → (front ≡ []) × (other ≡ event)
unfolding first_content
only_event event other [] back is = (refl, sym (ap (λ (l : List Content). first_content event l) is))
only_event event other (x ∷ front) back is = absurd (few front (ap length is))
  where
    few : (front : List Content) → length (event ∷ []) ≡ length (x ∷ (front ++ other ∷ back)) → ⊥
    few [] e = omega (arith, e)
    few (y ∷ front) e = omega (arith, e)

-- What a line's calls came to, of which the others are still to come.
pub record LineMade (tells : Bool) (end : Option Told) (its rest : List Own) (event : Content) (verdict : LineVerdict) (s : State) (told : Option Told) : Type 0 where
  pub state : State
  pub now : Option Told
  pub h : List Step
  pub trail : Trail state now h end
  pub run : IsRun tells state h
  pub ahead : recorded state h ≡ rest
  pub led : calls_to s its ≡ state
  pub puts : PutsOne event verdict told now s state
  pub frame : GoesOn verdict → 1 ≤ state.frame
  pub rests : Rests now state
  pub settles : settled_in s its ≡ entry_if verdict event
  pub fault : faulty its ≡ is_in_doubt verdict

-- there was no memory for the event
pub no_line : (tells : Bool) (end : Option Told) (rest : List Own) (event : Content) (s : State) (told : Option Told) (h : List Step) → IsIdle s → 1 ≤ s.frame → Rests told s → Trail s told h end → IsRun tells s h → recorded s h ≡ rest
    → LineMade tells end [] rest event NoMemory s told
no_line tells end rest event s told h idle frame rests trail run ahead = record {
  state = s;
  now = told;
  h = h;
  trail = trail;
  run = run;
  ahead = ahead;
  led = refl;
  puts = no_event told s event idle rests;
  frame = λ goes. absurd goes;
  rests = rests;
  settles = refl;
  fault = refl;
}

-- the caller found the channel in the state that its calls had led to
module _ (o : Opening) (all : List Step) (numbers : List ℕ) (mine : AllOf numbers all) (tells : Bool) (end : Option Told) (s : State) (told : Option Told) (h : List Step) (earlier rest : List Own) (to : calls_to (opening o) earlier ≡ s) (trail : Trail s told h end)
    (run : IsRun tells s h) where
  found_here : (own : List Own) (x : State) → IsFound (Stood o all numbers) earlier own x → recorded s h ≡ own ++ rest → x ≡ s
  found_here [] x f e = found o all numbers mine earlier x f ∙ to
  found_here (y ∷ own) x f e = sym f ∙ (first tells end s told h y.call y.before y.moment (own ++ rest) e trail run).here

  -- so an open transaction is not stale
  not_stale : (token : Token) (events : List Content) (own : List Own) → recorded s h ≡ own ++ rest → puts_of s token ≡ Some events → (x : State) → IsFound (Stood o all numbers) earlier own x → puts_of x token ≡ None → ⊥
  not_stale token events own e some x f none = let no : None ≡ Some events = sym none ∙ ap (λ (y : State). puts_of y token) (found_here own x f e) ∙ some in cc

module _ (o : Opening) (all : List Step) (numbers : List ℕ) (mine : AllOf numbers all) (few : length all < 2 ^ 64 - 1025) (tells : Bool) (end : Option Told) where
  -- fewer calls were counted than would be refused
  made : (spent : Bool) (call : Call) (s : State) (own : List Own) → IsMade (length all) spent call s own → (moment : ℕ) × (own ≡ one call s moment)
  made true call s own m = absurd (let k = m.1 in omega (arith, k, few))
  made false call s own m = m

  module _ (event : Content) (small : size event ≤ 1048576) (s : State) (told : Option Told) (h : List Step) (idle : IsIdle s) (frame : 1 ≤ s.frame) (at_rest : Rests told s) (earlier its rest : List Own) (to : calls_to (opening o) earlier ≡ s)
      (trail : Trail s told h end) (run : IsRun tells s h) (ahead : recorded s h ≡ its ++ rest) where
    abbrev Made : LineVerdict → Type 0
    Made verdict = LineMade tells end its rest event verdict s told

    not_begun : (e : BeginRefused) (before : State) (moment : ℕ) → its ≡ one (BeginPut (Err e)) before moment → Made (begin_verdict e)
    not_begun e before moment is =
        let p = first tells end s told h (BeginPut (Err e)) before moment rest (ahead ∙ ap (λ (l : List Own). l ++ rest) is) trail run in
        record {
          state = s;
          now = p.mid;
          h = p.h;
          trail = p.trail;
          run = p.run;
          ahead = p.rest;
          led = ap (calls_to s) is;
          puts = begin_refused told p.mid s s event e idle at_rest (p.touches.quiet refl) (record { admitted = p.admits; state = refl });
          frame = λ _. frame;
          rests = p.touches.rests;
          settles = ap (settled_in s) is ∙ (no_begin_settles e event).0;
          fault = ap faulty is ∙ (no_begin_settles e event).1;
        }

    -- a transaction was begun
    module _ (token : Token) (before1 : State) (moment1 : ℕ) (ending1 : List Own) (is1 : its ≡ one (BeginPut (Ok token)) before1 moment1 ++ ending1) where
      abbrev own1 : List Own
      own1 = one (BeginPut (Ok token)) before1 moment1

      abbrev s1 : State
      s1 = after s (BeginPut (Ok token))

      p1 : First tells end s told (BeginPut (Ok token)) before1 (ending1 ++ rest)
      p1 = first tells end s told h (BeginPut (Ok token)) before1 moment1 (ending1 ++ rest) (ahead ∙ ap (λ (l : List Own). l ++ rest) is1) trail run

      move1 : Moves true s (BeginPut (Ok token)) s1
      move1 = record { admitted = p1.admits; state = refl }

      has1 : HasOpen s s1 token []
      has1 = has_begun s s1 token idle move1

      to1 : calls_to (opening o) (earlier ++ own1) ≡ s1
      to1 = calls_to-append (opening o) earlier own1 ∙ ap (λ (x : State). after x (BeginPut (Ok token))) to

      -- the event was not put
      module _ (e : PutRefused) (before2 : State) (moment2 : ℕ) (ending2 : List Own) (is2 : ending1 ≡ one (Put token event (Err e)) before2 moment2 ++ ending2) where
        abbrev own2 : List Own
        own2 = one (Put token event (Err e)) before2 moment2

        abbrev s2 : State
        s2 = after s1 (Put token event (Err e))

        p2 : First tells end s1 p1.mid (Put token event (Err e)) before2 (ending2 ++ rest)
        p2 = first tells end s1 p1.mid p1.h (Put token event (Err e)) before2 moment2 (ending2 ++ rest) (p1.rest ∙ ap (λ (l : List Own). l ++ rest) is2) p1.trail p1.run

        some2 : puts_of s2 token ≡ Some []
        some2 = (still_open s1 token event e).0 ∙ open_puts s s1 token [] has1

        to2 : calls_to (opening o) ((earlier ++ own1) ++ own2) ≡ s2
        to2 = calls_to-append (opening o) (earlier ++ own1) own2 ∙ ap (λ (x : State). after x (Put token event (Err e))) to1

        rolled : (before3 : State) (moment3 : ℕ) → ending2 ≡ one (RollbackPut token true) before3 moment3 → Made (put_verdict e)
        rolled before3 moment3 is3 =
            let p3 = first tells end s2 p2.mid p2.h (RollbackPut token true) before3 moment3 rest (p2.rest ∙ ap (λ (l : List Own). l ++ rest) is3) p2.trail p2.run in
            let s3 : State = after s2 (RollbackPut token true) in
            let own3 : List Own = one (RollbackPut token true) before3 moment3 in
            let whole : its ≡ own1 ++ (own2 ++ own3) = is1 ∙ ap (λ (l : List Own). own1 ++ l) (is2 ∙ ap (λ (l : List Own). own2 ++ l) is3) in
            record {
              state = s3;
              now = p3.mid;
              h = p3.h;
              trail = p3.trail;
              run = p3.run;
              ahead = p3.rest;
              led = ap (calls_to s) whole;
              puts = not_done told p1.mid p2.mid p3.mid s s1 s2 s3 token event true idle at_rest (p1.touches.quiet refl) move1 e p2.touches.quiet (p3.touches.quiet refl) (record { admitted = p2.admits; state = refl })
                  (record { admitted = p3.admits; state = refl }) small p2.touches.log p2.touches.flushed;
              frame = λ _. let f = (still_open s1 token event e).1 in omega (arith, f, frame);
              rests = p3.touches.rests;
              settles = ap (settled_in s) whole ∙ (no_put_settles e token event).0;
              fault = ap faulty whole ∙ or_false (is_fault (Put token event (Err e))) ∙ (no_put_settles e token event).1;
            }

        put_no : IsPutRolledBack (Stood o all numbers) token ((earlier ++ own1) ++ own2) ending2 → Made (put_verdict e)
        put_no (inl done) = rolled done.0 done.1 done.2
        put_no (inr stale) = absurd (not_stale o all numbers mine tells end s2 p2.mid p2.h ((earlier ++ own1) ++ own2) rest to2 p2.trail p2.run token [] ending2 p2.rest some2 stale.0 stale.1 stale.2)

      -- it was put
      module _ (done : PutDone) (before2 : State) (moment2 : ℕ) (ending2 : List Own) (is2 : ending1 ≡ one (Put token event (Ok done)) before2 moment2 ++ ending2) where
        abbrev own2' : List Own
        own2' = one (Put token event (Ok done)) before2 moment2

        abbrev s2' : State
        s2' = after s1 (Put token event (Ok done))

        p2' : First tells end s1 p1.mid (Put token event (Ok done)) before2 (ending2 ++ rest)
        p2' = first tells end s1 p1.mid p1.h (Put token event (Ok done)) before2 moment2 (ending2 ++ rest) (p1.rest ∙ ap (λ (l : List Own). l ++ rest) is2) p1.trail p1.run

        move2 : Moves true s1 (Put token event (Ok done)) s2'
        move2 = record { admitted = p2'.admits; state = refl }

        has2 : HasOpen s s2' token (event ∷ [])
        has2 = has_put s s1 s2' token event done has1 move2

        to2' : calls_to (opening o) ((earlier ++ own1) ++ own2') ≡ s2'
        to2' = calls_to-append (opening o) (earlier ++ own1) own2' ∙ ap (λ (x : State). after x (Put token event (Ok done))) to1

        frame2 : 1 ≤ s2'.frame
        frame2 =
            let a = frame_settled done.spilled s1 in
            let b = frame_put (settle_if done.spilled s1) token.number (puts_of s1 token) event in
            omega (arith, a, b, frame)

        kept2 : kept_by s1 (Put token event (Ok done)) ≡ []
        kept2 = none_kept done.spilled s1.staged has1.staged

        -- and not staged
        module _ (cause : StageCause) (before3 : State) (moment3 : ℕ) (ending3 : List Own) (is3 : ending2 ≡ one (StagePut token (Err cause)) before3 moment3 ++ ending3) where
          abbrev own3 : List Own
          own3 = one (StagePut token (Err cause)) before3 moment3

          p3 : First tells end s2' p2'.mid (StagePut token (Err cause)) before3 (ending3 ++ rest)
          p3 = first tells end s2' p2'.mid p2'.h (StagePut token (Err cause)) before3 moment3 (ending3 ++ rest) (p2'.rest ∙ ap (λ (l : List Own). l ++ rest) is3) p2'.trail p2'.run

          to3 : calls_to (opening o) (((earlier ++ own1) ++ own2') ++ own3) ≡ s2'
          to3 = calls_to-append (opening o) ((earlier ++ own1) ++ own2') own3 ∙ to2'

          unstaged : (before4 : State) (moment4 : ℕ) → ending3 ≡ one (RollbackPut token true) before4 moment4 → Made Refused
          unstaged before4 moment4 is4 =
              let p4 = first tells end s2' p3.mid p3.h (RollbackPut token true) before4 moment4 rest (p3.rest ∙ ap (λ (l : List Own). l ++ rest) is4) p3.trail p3.run in
              let s4 : State = after s2' (RollbackPut token true) in
              let own4 : List Own = one (RollbackPut token true) before4 moment4 in
              let whole : its ≡ own1 ++ (own2' ++ (own3 ++ own4)) = is1 ∙ ap (λ (l : List Own). own1 ++ l) (is2 ∙ ap (λ (l : List Own). own2' ++ l) (is3 ∙ ap (λ (l : List Own). own3 ++ l) is4)) in
              record {
                state = s4;
                now = p4.mid;
                h = p4.h;
                trail = p4.trail;
                run = p4.run;
                ahead = p4.rest;
                led = ap (calls_to s) whole;
                puts = not_staged_done told p1.mid p2'.mid p3.mid s s1 s2' s2' token event true idle at_rest (p1.touches.quiet refl) move1 done move2 p2'.touches.quiet p2'.touches.flushed p2'.touches.log cause p4.mid s4 (p3.touches.quiet refl)
                    (p4.touches.quiet refl) (record { admitted = p3.admits; state = refl }) (record { admitted = p4.admits; state = refl });
                frame = λ _. frame2;
                rests = p4.touches.rests;
                settles = ap (settled_in s) whole ∙ ap (λ (l : List Entry). l ++ []) kept2;
                fault = ap faulty whole;
              }

          stage_no : IsPutRolledBack (Stood o all numbers) token (((earlier ++ own1) ++ own2') ++ own3) ending3 → Made Refused
          stage_no (inl done) = unstaged done.0 done.1 done.2
          stage_no (inr stale) = absurd (not_stale o all numbers mine tells end s2' p3.mid p3.h (((earlier ++ own1) ++ own2') ++ own3) rest to3 p3.trail p3.run token (event ∷ []) ending3 p3.rest (open_puts s s2' token (event ∷ []) has2) stale.0 stale.1 stale.2)

        -- and staged
        module _ (ticket : Ticket) (before3 : State) (moment3 : ℕ) (ending3 : List Own) (is3 : ending2 ≡ one (StagePut token (Ok ticket)) before3 moment3 ++ ending3) where
          abbrev own3' : List Own
          own3' = one (StagePut token (Ok ticket)) before3 moment3

          abbrev s3' : State
          s3' = after s2' (StagePut token (Ok ticket))

          p3' : First tells end s2' p2'.mid (StagePut token (Ok ticket)) before3 (ending3 ++ rest)
          p3' = first tells end s2' p2'.mid p2'.h (StagePut token (Ok ticket)) before3 moment3 (ending3 ++ rest) (p2'.rest ∙ ap (λ (l : List Own). l ++ rest) is3) p2'.trail p2'.run

          move3 : Moves true s2' (StagePut token (Ok ticket)) s3'
          move3 = record { admitted = p3'.admits; state = refl }

          has3 : HasStaged s s3' event
          has3 = has_staged s s2' s3' token event ticket has2 move3

          to3' : calls_to (opening o) (((earlier ++ own1) ++ own2') ++ own3') ≡ s3'
          to3' = calls_to-append (opening o) ((earlier ++ own1) ++ own2') own3' ∙ ap (λ (x : State). after x (StagePut token (Ok ticket))) to2'

          -- its ticket is not settled yet
          not_yet : settled s3' ticket ≡ No
          not_yet =
              let given = p3'.admits.1 in
              let one_event : size_of_list (puts_of s2' token) ≡ 1 = ap (λ (l : Option (List Content)). size_of_list l) (open_puts s s2' token (event ∷ []) has2) in
              let life : ticket.life ≡ s3'.life = ap (λ (t : Ticket). t.life) given ∙ sym (life_staged token.number (entry_of token.number s2'.opened) s2') in
              let number : ticket.frame ≡ s3'.frame = ap (λ (t : Ticket). t.frame) given ∙ ap (λ (n : ℕ). cond (n == 0) 0 s2'.frame) one_event ∙ sym (frame_staged token.number (entry_of token.number s2'.opened) s2') in
              let some : 1 ≤ s3'.frame = let f = frame_staged token.number (entry_of token.number s2'.opened) s2' in omega (arith, f, frame2) in
              waits ticket s3' life number some has3.whole

          -- a flush was answered so
          done_so : (before4 : State) (moment4 : ℕ) → ending3 ≡ one (Flush (Ok tt)) before4 moment4 → Made Accepted
          done_so before4 moment4 is4 =
              let p4 = first tells end s3' p3'.mid p3'.h (Flush (Ok tt)) before4 moment4 rest (p3'.rest ∙ ap (λ (l : List Own). l ++ rest) is4) p3'.trail p3'.run in
              let s4 : State = after s3' (Flush (Ok tt)) in
              let own4 : List Own = one (Flush (Ok tt)) before4 moment4 in
              let whole : its ≡ own1 ++ (own2' ++ (own3' ++ own4)) = is1 ∙ ap (λ (l : List Own). own1 ++ l) (is2 ∙ ap (λ (l : List Own). own2' ++ l) (is3 ∙ ap (λ (l : List Own). own3' ++ l) is4)) in
              record {
                state = s4;
                now = p4.mid;
                h = p4.h;
                trail = p4.trail;
                run = p4.run;
                ahead = p4.rest;
                led = ap (calls_to s) whole;
                puts = is_done told p1.mid p2'.mid p3'.mid s s1 s2' s3' token event true idle at_rest (p1.touches.quiet refl) move1 done move2 p2'.touches.quiet p2'.touches.flushed p2'.touches.log ticket p4.mid s4 (p3'.touches.quiet refl) move3
                    (record { admitted = p4.admits; state = refl }) (p4.touches.flushed refl);
                frame = λ _. let a = frame_settled true s3' in let f = frame_staged token.number (entry_of token.number s2'.opened) s2' in omega (arith, a, f, frame2);
                rests = p4.touches.rests;
                settles = ap (settled_in s) whole ∙ ap (λ (l : List Entry). l ++ (s3'.staged ++ [])) kept2 ∙ append-nil s3'.staged ∙ has3.staged;
                fault = ap faulty whole;
              }

          doubt_so : (e : FlushRefused) (before4 : State) (moment4 : ℕ) → ending3 ≡ one (Flush (Err e)) before4 moment4 → Made InDoubt
          doubt_so e before4 moment4 is4 =
              let p4 = first tells end s3' p3'.mid p3'.h (Flush (Err e)) before4 moment4 rest (p3'.rest ∙ ap (λ (l : List Own). l ++ rest) is4) p3'.trail p3'.run in
              let s4 : State = after s3' (Flush (Err e)) in
              let own4 : List Own = one (Flush (Err e)) before4 moment4 in
              let whole : its ≡ own1 ++ (own2' ++ (own3' ++ own4)) = is1 ∙ ap (λ (l : List Own). own1 ++ l) (is2 ∙ ap (λ (l : List Own). own2' ++ l) (is3 ∙ ap (λ (l : List Own). own3' ++ l) is4)) in
              record {
                state = s4;
                now = p4.mid;
                h = p4.h;
                trail = p4.trail;
                run = p4.run;
                ahead = p4.rest;
                led = ap (calls_to s) whole;
                puts = left_in_doubt told p1.mid p2'.mid p3'.mid s s1 s2' s3' token event true idle at_rest (p1.touches.quiet refl) move1 done move2 p2'.touches.quiet p2'.touches.flushed p2'.touches.log ticket p4.mid s4 (p3'.touches.quiet refl) move3
                    e (record { admitted = p4.admits; state = refl }) p4.touches.flushed;
                frame = λ goes. absurd goes;
                rests = p4.touches.rests;
                settles = ap (settled_in s) whole ∙ ap (λ (l : List Entry). l ++ []) kept2;
                fault = ap faulty whole ∙ or_false (is_fault (Flush (Err e))) ∙ flush_fault s3' e has3.whole p4.admits;
              }

          by_flush : (reply : Result (Unit {0}) FlushRefused) → IsMade (length all) (is_spent_flush reply) (Flush reply) s3' ending3 → (result : Result ℕ FaceRefused) (sure : Bool) → sure ≡ is_ok reply → result ≡ in_doubt_unless sure ticket.first → Made (verdict_of result)
          by_flush (Ok u) m result sure is_sure is =
              let k = made (is_spent_flush (Ok u)) (Flush (Ok u)) s3' ending3 m in
              subst (λ (r : Result ℕ FaceRefused). Made (verdict_of r)) (sym (is ∙ ap (λ (b : Bool). in_doubt_unless b ticket.first) is_sure)) (done_so s3' k.0 k.1)
          by_flush (Err e) m result sure is_sure is =
              let k = made (is_spent_flush (Err e)) (Flush (Err e)) s3' ending3 m in
              subst (λ (r : Result ℕ FaceRefused). Made (verdict_of r)) (sym (is ∙ ap (λ (b : Bool). in_doubt_unless b ticket.first) is_sure)) (doubt_so e s3' k.0 k.1)

          asked : (result : Result ℕ FaceRefused) (sure : Bool) → Ends (Stood o all numbers) (length all) ticket (((earlier ++ own1) ++ own2') ++ own3') ending3 sure → result ≡ in_doubt_unless sure ticket.first → Made (verdict_of result)
          asked result sure ends is =
              let here : ends.0 ≡ s3' = found_here o all numbers mine tells end s3' p3'.mid p3'.h (((earlier ++ own1) ++ own2') ++ own3') rest to3' p3'.trail p3'.run ending3 ends.0 ends.1 p3'.rest in
              let at : EndsAs (length all) s3' (settled s3' ticket) ending3 sure = subst (λ (x : State). EndsAs (length all) x (settled x ticket) ending3 sure) here ends.2 in
              let no : EndsAs (length all) s3' No ending3 sure = subst (λ (x : Settled). EndsAs (length all) s3' x ending3 sure) not_yet at in
              by_flush no.0 no.1 result sure no.2 is

        -- by what the stage was answered
        by_stage : (reply : Result Ticket StageCause) (before3 : State) (staged ending3 : List Own) → ending2 ≡ staged ++ ending3 → IsMade (length all) (is_spent_stage reply) (StagePut token reply) before3 staged → (result : Result ℕ FaceRefused)
            → EndsStage (Stood o all numbers) (length all) token reply (((earlier ++ own1) ++ own2') ++ staged) ending3 result → Made (verdict_of result)
        by_stage (Err cause) before3 staged ending3 is m result ends =
            let k = made (is_spent_stage (Err cause)) (StagePut token (Err cause)) before3 staged m in
            let is3 : ending2 ≡ one (StagePut token (Err cause)) before3 k.0 ++ ending3 = is ∙ ap (λ (l : List Own). l ++ ending3) k.1 in
            let rolled : IsPutRolledBack (Stood o all numbers) token (((earlier ++ own1) ++ own2') ++ one (StagePut token (Err cause)) before3 k.0) ending3 = subst (λ (l : List Own). IsPutRolledBack (Stood o all numbers) token (((earlier ++ own1) ++ own2') ++ l) ending3) k.1 ends.0 in
            subst (λ (r : Result ℕ FaceRefused). Made (verdict_of r)) (sym ends.1) (stage_no cause before3 k.0 ending3 is3 rolled)
        by_stage (Ok ticket) before3 staged ending3 is m result ends =
            let k = made (is_spent_stage (Ok ticket)) (StagePut token (Ok ticket)) before3 staged m in
            let is3 : ending2 ≡ one (StagePut token (Ok ticket)) before3 k.0 ++ ending3 = is ∙ ap (λ (l : List Own). l ++ ending3) k.1 in
            asked ticket before3 k.0 ending3 is3 result ends.0 (subst (λ (l : List Own). Ends (Stood o all numbers) (length all) ticket (((earlier ++ own1) ++ own2') ++ l) ending3 ends.0) k.1 ends.1) ends.2

      -- by what the put was answered
      by_put : (reply : Result (Unit {0}) PutRefused) (puts ending2 : List Own) → ending1 ≡ puts ++ ending2 → ArePutUpTo (length all) token (event ∷ []) reply puts → (result : Result ℕ FaceRefused)
          → EndsPuts (Stood o all numbers) (length all) token reply ((earlier ++ own1) ++ puts) ending2 result → Made (verdict_of result)
      by_put (Ok u) puts ending2 is up result ends =
          let x : List Own = one (Put token event (Ok up.0)) up.1 up.2 in
          let put : puts ≡ x = up.4 ∙ ap (λ (l : List Own). x ++ l) up.5 in
          let is2 : ending1 ≡ x ++ ending2 = is ∙ ap (λ (l : List Own). l ++ ending2) put in
          let e : IsPutStage (Stood o all numbers) (length all) token result ((earlier ++ own1) ++ x) ending2 = subst (λ (l : List Own). IsPutStage (Stood o all numbers) (length all) token result ((earlier ++ own1) ++ l) ending2) put ends in
          by_stage up.0 up.1 up.2 ending2 is2 e.0 e.1 e.2 e.3 e.4 e.5 result e.6
      by_put (Err refused) puts ending2 is up result ends =
          let only = only_event event up.2 up.0 up.1 up.6 in
          let k = made (is_spent_put (Err refused)) (Put token up.2 (Err refused)) up.3 up.5 up.9 in
          let none : up.4 ≡ [] = subst (λ (l : List Content). ArePut token l up.4) only.0 up.8 in
          let x : List Own = one (Put token event (Err refused)) up.3 k.0 in
          let put : puts ≡ x = up.7 ∙ ap (λ (l : List Own). l ++ up.5) none ∙ k.1 ∙ ap (λ (c : Content). one (Put token c (Err refused)) up.3 k.0) only.1 in
          let is2 : ending1 ≡ x ++ ending2 = is ∙ ap (λ (l : List Own). l ++ ending2) put in
          let rolled : IsPutRolledBack (Stood o all numbers) token ((earlier ++ own1) ++ x) ending2 = subst (λ (l : List Own). IsPutRolledBack (Stood o all numbers) token ((earlier ++ own1) ++ l) ending2) put ends.0 in
          subst (λ (r : Result ℕ FaceRefused). Made (verdict_of r)) (sym ends.1) (put_no refused up.3 k.0 ending2 is2 rolled)

    -- by what the begin was answered
    by_begin : (reply : Result Token BeginRefused) (before : State) (begun ending : List Own) → its ≡ begun ++ ending → IsMade (length all) (is_spent_begin reply) (BeginPut reply) before begun → (result : Result ℕ FaceRefused)
        → EndsBegin (Stood o all numbers) (length all) (event ∷ []) reply (earlier ++ begun) ending result → Made (verdict_of result)
    by_begin (Err e) before begun ending is m result ends =
        let k = made (is_spent_begin (Err e)) (BeginPut (Err e)) before begun m in
        let x : List Own = one (BeginPut (Err e)) before k.0 in
        let whole : its ≡ x = is ∙ ap (λ (l : List Own). l ++ ending) k.1 ∙ ap (λ (l : List Own). x ++ l) ends.0 in
        subst (λ (r : Result ℕ FaceRefused). Made (verdict_of r)) (sym ends.1) (not_begun e before k.0 whole)
    by_begin (Ok token) before begun ending is m result ends =
        let k = made (is_spent_begin (Ok token)) (BeginPut (Ok token)) before begun m in
        let x : List Own = one (BeginPut (Ok token)) before k.0 in
        let is1 : its ≡ x ++ ending = is ∙ ap (λ (l : List Own). l ++ ending) k.1 in
        let e : EndsBegin (Stood o all numbers) (length all) (event ∷ []) (Ok token) (earlier ++ x) ending result = subst (λ (l : List Own). EndsBegin (Stood o all numbers) (length all) (event ∷ []) (Ok token) (earlier ++ l) ending result) k.1 ends in
        by_put token before k.0 ending is1 e.0 e.1 e.2 e.3 e.4 result e.5

    -- what the put transaction of one event came to, by its answer
    pub line_made : (result : Result ℕ FaceRefused) → IsPutBatch (Stood o all numbers) (length all) (event ∷ []) result earlier its → LineMade tells end its rest event (verdict_of result) s told
    line_made result b = by_begin b.0 b.1 b.2 b.3 b.4 b.5 result b.6
