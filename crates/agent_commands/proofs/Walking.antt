-- What the lines of a session came to, one after another.
use Rattle.std.proofs.Common.{◌≡◌, inl, inr, ◌<◌, ◌≤◌, ◌*◌, ◌-◌, ◌^◌, ℕ, List, [], ◌∷◌, ◌++◌, length, All, Option, Result, Ok, Err, Bool, true, false, refl, sym, ◌∙◌, ap, subst, arith, append_assoc, length-append, append-nil}
use Rattle.std.specs.Prelude.{◌||◌}
use Rattle.std.proofs.lemmas.List.Elements.{All-head, All-tail, All-push}
use Rattle.flume_host.specs.Told.{Told}
use Rattle.event_core.specs.Content.{Content}
use Rattle.event_core.specs.declared.journal.Entry.{Entry}
use Rattle.channel_face.specs.Token.{Token}
use Rattle.channel_face.specs.Faces.{ArePut, ArePutUpTo, EndsAs, EndsBegin, EndsPuts, EndsStage, IsMade, IsPutBatch, IsPutRolledBack, IsPutStage, Own}
use Rattle.channel_face.specs.History.{IsRun, Opening, Step, opening}
use Rattle.channel_face.specs.Machine.{Call, State, settled}
use Rattle.channel_face.specs.declared.replies.BeginRefused.{BeginRefused}
use Rattle.channel_face.specs.declared.replies.FaceRefused.{FaceRefused}
use Rattle.channel_face.specs.declared.replies.PutRefused.{PutRefused}
use Rattle.channel_face.specs.declared.replies.Settled.{Settled}
use Rattle.channel_face.specs.declared.replies.Settled.TheVariants.{Yes, No, InDoubt as Doubtful}
use Rattle.channel_face.specs.declared.replies.StageCause.{StageCause}
use Rattle.channel_face.specs.declared.replies.Ticket.{Ticket}
use Rattle.channel_writing.specs.Touches.{Rests}
use Rattle.netcat_source.specs.Lines.{IsLine}
use Rattle.netcat_source.specs.declared.lines.LineVerdict.{LineVerdict}
use Rattle.line_session.specs.Handled.{Handled, lines_of, verdicts_of}
use Rattle.shared_channel.specs.Ports.{Stood}
use Rattle.agent_commands.specs.Handled.{GoesOn, and_then, has_doubt, is_in_doubt}
use Rattle.agent_commands.specs.Puts.{ArePutsOf, IsPutOf, entries_of}
use Rattle.netcat_source.specs.Judged.{event_of}
use Rattle.agent_commands.specs.Trails.{Trail}
use Rattle.agent_commands.proofs.Committing.{still_idle}
use Rattle.agent_commands.proofs.Idle.{IsIdle, Stands}
use Rattle.agent_commands.proofs.Lining.{LineMade, entry_if, line_made, no_line}
use Rattle.agent_commands.proofs.Recording.{AllOf, calls_to, calls_to-append, faulty, faulty-append, none_left, recorded, settled_in, settled_in-append}
use Rattle.agent_commands.proofs.Standing.{line_size, stands_more, verdicts-push}

-- all but the last of the lines let the session go on
abbrev pub FirstGo : List Handled → Type 0
FirstGo [] = Unit {0}
FirstGo (x ∷ []) = Unit {0}
FirstGo (x ∷ y ∷ done) = GoesOn x.verdict × FirstGo (y ∷ done)

-- how many calls they came to, at most

made_few : (seen : ℕ) (spent : Bool) (call : Call) (s : State) (own : List Own) → IsMade seen spent call s own → length own ≤ 1
made_few seen true call s own m = let n = ap length m.0 in omega (arith, n)
made_few seen false call s own m = let n = ap length m.1 in omega (arith, n)

module _ (saw : List Own → State → Type 0) (seen : ℕ) where
  rolled_few : (token : Token) (earlier own : List Own) → IsPutRolledBack saw token earlier own → length own ≤ 1
  rolled_few token earlier own (inl made) = let n = ap length made.2 in omega (arith, n)
  rolled_few token earlier own (inr stale) = elim stale.3 [ inl none ↦ (let n = ap length none in omega (arith, n)) | inr made ↦ (let n = ap length made.1 in omega (arith, n)) ]

  ends_few : (s : State) (a : Settled) (own : List Own) (sure : Bool) → EndsAs seen s a own sure → length own ≤ 1
  ends_few s Yes own sure e = let n = ap length e.0 in omega (arith, n)
  ends_few s No own sure e = made_few seen _ _ s own e.1
  ends_few s Doubtful own sure e = let n = ap length e.0 in omega (arith, n)

  stage_few : (token : Token) (reply : Result Ticket StageCause) (earlier own : List Own) (result : Result ℕ FaceRefused) → EndsStage saw seen token reply earlier own result → length own ≤ 1
  stage_few token (Err cause) earlier own result e = rolled_few token earlier own e.0
  stage_few token (Ok ticket) earlier own result e = ends_few e.1.0 (settled e.1.0 ticket) own e.0 e.1.2

  stages_few : (token : Token) (result : Result ℕ FaceRefused) (earlier own : List Own) → IsPutStage saw seen token result earlier own → length own ≤ 2
  stages_few token result earlier own x =
      let n = ap length x.4 in
      let a = made_few seen _ _ x.1 x.2 x.5 in
      let b = stage_few token x.0 (earlier ++ x.2) x.3 result x.6 in
      omega (arith, n, a, b, length-append x.2 x.3)

  puts_few : (token : Token) (events : List Content) (own : List Own) → ArePut token events own → length own ≡ length events
  puts_few token [] own p = ap length p
  puts_few token (event ∷ events) own p =
      let n = ap length p.4 in
      let m = puts_few token events p.3 p.5 in
      omega (arith, n, m)

  put_few : (token : Token) (events : List Content) (reply : Result (Unit {0}) PutRefused) (own : List Own) → ArePutUpTo seen token events reply own → length own ≤ length events
  put_few token events (Ok u) own p = let n = puts_few token events own p in omega (arith, n)
  put_few token events (Err refused) own p =
      let e = ap length p.6 in
      let n = ap length p.7 in
      let a = puts_few token p.0 p.4 p.8 in
      let b = made_few seen _ _ p.3 p.5 p.9 in
      omega (arith, e, n, a, b, length-append p.0 (p.2 ∷ p.1), length-append p.4 p.5)

  put_ends_few : (token : Token) (reply : Result (Unit {0}) PutRefused) (earlier own : List Own) (result : Result ℕ FaceRefused) → EndsPuts saw seen token reply earlier own result → length own ≤ 2
  put_ends_few token (Ok u) earlier own result e = stages_few token result earlier own e
  put_ends_few token (Err refused) earlier own result e = let n = rolled_few token earlier own e.0 in omega (arith, n)

  begin_ends_few : (event : Content) (reply : Result Token BeginRefused) (earlier own : List Own) (result : Result ℕ FaceRefused) → EndsBegin saw seen (event ∷ []) reply earlier own result → length own ≤ 3
  begin_ends_few event (Err refused) earlier own result e = let n = ap length e.0 in omega (arith, n)
  begin_ends_few event (Ok token) earlier own result e =
      let n = ap length e.3 in
      let a = put_few token (event ∷ []) e.0 e.1 e.4 in
      let b = put_ends_few token e.0 (earlier ++ e.1) e.2 result e.5 in
      omega (arith, n, a, b, length-append e.1 e.2)

  batch_few : (event : Content) (result : Result ℕ FaceRefused) (earlier own : List Own) → IsPutBatch saw seen (event ∷ []) result earlier own → length own ≤ 4
  batch_few event result earlier own x =
      let n = ap length x.4 in
      let a = made_few seen _ _ x.1 x.2 x.5 in
      let b = begin_ends_few event x.0 (earlier ++ x.2) x.3 result x.6 in
      omega (arith, n, a, b, length-append x.2 x.3)

-- each line came to four calls at most
pub puts_of_few : (o : Opening) (h : List Step) (numbers : List ℕ) (earlier : List Own) (done : List Handled) (own : List Own) → ArePutsOf o h numbers earlier done own → length own ≤ 4 * length done
puts_of_few o h numbers earlier [] own puts = let n = ap length puts in omega (arith, n)
puts_of_few o h numbers earlier (x ∷ done) own puts =
    let n = ap length puts.2 in
    let more = puts_of_few o h numbers (earlier ++ puts.0) done puts.1 puts.4 in
    let first = line_few puts.3 in
    omega (arith, n, more, first, length-append puts.0 puts.1)
  where
    line_few : IsPutOf o h numbers earlier x puts.0 → length puts.0 ≤ 4
    line_few (inl batch) = batch_few (Stood o h numbers) (length h) (event_of x.line) batch.0 earlier puts.0 batch.1
    line_few (inr none) = let n = ap length none.0 in omega (arith, n)

-- A session's lines from some state on.
pub record Walked (before end : Option Told) (done : List Handled) (s : State) (own : List Own) (first : List Handled) : Type 0 where
  pub last : State
  pub stands : Stands before end (first ++ done) last
  pub settles : settled_in s own ≡ entries_of done
  pub fault : faulty own ≡ has_doubt (verdicts_of done)

module _ (before end : Option Told) (o : Opening) (all : List Step) (numbers : List ℕ) (mine : AllOf numbers all) (few : length all < 2 ^ 64 - 1025) (tells : Bool) where
  -- one line
  one_line : (x : Handled) → IsLine 512 x.line → (earlier its rest : List Own) (s : State) (told : Option Told) (h : List Step) → IsIdle s → 1 ≤ s.frame → Rests told s → calls_to (opening o) earlier ≡ s → Trail s told h end → IsRun tells s h
      → recorded s h ≡ its ++ rest → IsPutOf o all numbers earlier x its → LineMade tells end its rest (event_of x.line) x.verdict s told
  one_line x short earlier its rest s told h idle frame rests to trail run ahead (inl batch) =
      let small = line_size x.line (let n = short.short in omega (arith, n)) in
      subst (λ (v : LineVerdict). LineMade tells end its rest (event_of x.line) v s told) (sym batch.2)
      (line_made o all numbers mine few tells end (event_of x.line) small s told h idle frame rests earlier its rest to trail run ahead batch.0 batch.1)
  one_line x short earlier its rest s told h idle frame rests to trail run ahead (inr none) =
      subst (λ (p : List Own × LineVerdict). LineMade tells end p.0 rest (event_of x.line) p.1 s told) (λ i. (sym none.0 i, sym none.1 i))
      (no_line tells end rest (event_of x.line) s told h idle frame rests trail run (ahead ∙ ap (λ (l : List Own). l ++ rest) none.0))

  -- no line is left
  finished : (first : List Handled) (s : State) (told : Option Told) (h : List Step) → Stands before told first s → Trail s told h end → recorded s h ≡ [] → Walked before end [] s [] first
  finished first s told h st trail none = record {
    last = s;
    stands = subst (λ (p : Option Told × List Handled). Stands before p.0 p.1 s) (λ i. (sym (none_left s told end h none trail) i, sym (append-nil first) i)) st;
    settles = refl;
    fault = refl;
  }

  -- a line and those after it
  and_more : (first done : List Handled) (x : Handled) (s : State) (told : Option Told) (its rest own : List Own) → own ≡ its ++ rest → (l : LineMade tells end its rest (event_of x.line) x.verdict s told) → Walked before end done l.state rest (and_then first x.line x.verdict)
      → Walked before end (x ∷ done) s own first
  and_more first done x s told its rest own is l w = record {
    last = w.last;
    stands = subst (λ (d : List Handled). Stands before end d w.last) (append_assoc first (x ∷ []) done) w.stands;
    settles =
        ap (settled_in s) is ∙ settled_in-append s its rest ∙ ap (λ (y : List Entry). y ++ settled_in (calls_to s its) rest) l.settles
        ∙ ap (λ (t : State). entry_if x.verdict (event_of x.line) ++ settled_in t rest) l.led ∙ ap (λ (y : List Entry). entry_if x.verdict (event_of x.line) ++ y) w.settles;
    fault = ap faulty is ∙ faulty-append its rest ∙ ap (λ (b : Bool). b || faulty rest) l.fault ∙ ap (λ (b : Bool). is_in_doubt x.verdict || b) w.fault;
  }

  -- a session's lines, one after another, from an idle channel on
  pub walk : (done first : List Handled) (earlier own : List Own) (s : State) (told : Option Told) (h : List Step) → FirstGo done → All (IsLine 512) (lines_of done) → All GoesOn (verdicts_of first) → Stands before told first s → IsIdle s → 1 ≤ s.frame → Rests told s
      → calls_to (opening o) earlier ≡ s → Trail s told h end → IsRun tells s h → recorded s h ≡ own → ArePutsOf o all numbers earlier done own → Walked before end done s own first
  walk [] first earlier own s told h go each going st idle frame rests to trail run ahead puts =
      subst (λ (l : List Own). Walked before end [] s l first) (sym puts) (finished first s told h st trail (ahead ∙ puts))
  walk (x ∷ []) first earlier own s told h go each going st idle frame rests to trail run ahead puts =
      let l = one_line x (All-head (IsLine 512) x.line [] each) earlier puts.0 puts.1 s told h idle frame rests to trail run (ahead ∙ puts.2) puts.3 in
      let st' = stands_more before told l.now s l.state first x.line going st x.verdict l.puts l.rests in
      let w = subst (λ (k : List Own). Walked before end [] l.state k (and_then first x.line x.verdict)) (sym puts.4) (finished (and_then first x.line x.verdict) l.state l.now l.h st' l.trail (l.ahead ∙ puts.4)) in
      and_more first [] x s told puts.0 puts.1 own puts.2 l w
  walk (x ∷ y ∷ done) first earlier own s told h go each going st idle frame rests to trail run ahead puts =
      let l = one_line x (All-head (IsLine 512) x.line (lines_of (y ∷ done)) each) earlier puts.0 puts.1 s told h idle frame rests to trail run (ahead ∙ puts.2) puts.3 in
      let st' = stands_more before told l.now s l.state first x.line going st x.verdict l.puts l.rests in
      let more : All GoesOn (verdicts_of (and_then first x.line x.verdict)) = let P : List LineVerdict → Type 0 = λ vs. All GoesOn vs in subst P (sym (verdicts-push first x.line x.verdict)) (All-push GoesOn (verdicts_of first) x.verdict going go.0) in
      let to' : calls_to (opening o) (earlier ++ puts.0) ≡ l.state = calls_to-append (opening o) earlier puts.0 ∙ ap (λ (t : State). calls_to t puts.0) to ∙ l.led in
      let w = walk (y ∷ done) (and_then first x.line x.verdict) (earlier ++ puts.0) puts.1 l.state l.now l.h go.1 (All-tail (IsLine 512) x.line (lines_of (y ∷ done)) each) more st' (still_idle x.verdict (event_of x.line) s l.state go.0 l.puts.state) (l.frame go.0) l.rests to' l.trail
      l.run l.ahead puts.4 in
      and_more first (y ∷ done) x s told puts.0 puts.1 own puts.2 l w
