-- The states of a channel while an event is put in a transaction of its own.
use Rattle.std.proofs.Common.{◌≡◌, ◌≢◌, ◌⊎◌, inl, inr, ◌<◌, ◌≤◌, ◌+◌, ◌-◌, ◌^◌, ◌++◌, ◌∷◌, [], ℕ, List, length, Option, Some, None, Result, Ok, Err, Bool, true, false, cond, ◌==◌, nat_le, nat_lt, if◌then◌else◌, refl, sym, ◌∙◌, ap, subst, arith}
use Rattle.std.specs.Prelude.{IsSome, ◌↔◌}
use Rattle.std.proofs.lemmas.List.{append-nil}
use Rattle.std.proofs.lemmas.Bool.Decides.{nat_tests}
use Rattle.flume_host.specs.Told.{LeavesOnly, Tells, Told, WhereTold}
use Rattle.flume_host.specs.Folder.{Files}
use Rattle.flume_host.proofs.Moments.{started}
use Rattle.flume_host.proofs.Telling.{follows, tells_more, tells_same}
use Rattle.event_core.specs.Content.{Content, size}
use Rattle.event_core.specs.Journal.{Base, after_journal, put_events}
use Rattle.event_core.specs.declared.journal.Entry.{Entry}
use Rattle.event_core.specs.declared.journal.Entry.TheVariants.{Puts}
use Rattle.channel_face.specs.Token.{Token}
use Rattle.channel_face.specs.History.{Moves}
use Rattle.channel_face.specs.Machine.{State, Admits, Call, is_some_of, BeginPut, Flush, Put, StagePut, RollbackPut, add_put, base_of, close, count, entries, entry_of, next_number, puts_of, AdmitsPut, Rules, put_refusal, settle, settle_if, size_refusal, stage, stage_put_refusal, without_entry, with_entry}
use Rattle.channel_face.specs.declared.replies.Counter.TheVariants.{File, Number}
use Rattle.channel_face.specs.declared.replies.Kind.{Kind}
use Rattle.channel_face.specs.declared.replies.Kind.TheVariants.{File as OnFile, Memory as InMemory}
use Rattle.channel_face.specs.declared.replies.Limits.{Limits}
use Rattle.channel_face.specs.declared.replies.Put.{Put as PutDone}
use Rattle.channel_face.specs.declared.replies.BeginRefused.{BeginRefused}
use Rattle.channel_face.specs.declared.replies.BeginRefused.TheVariants as BeginNo
use Rattle.channel_face.specs.declared.replies.PutRefused.{PutRefused}
use Rattle.channel_face.specs.declared.replies.PutRefused.TheVariants as PutNo
use Rattle.channel_face.specs.declared.replies.FlushRefused.{FlushRefused}
use Rattle.channel_face.specs.declared.replies.FlushRefused.TheVariants as FlushNo
use Rattle.channel_face.specs.declared.replies.StageCause.{StageCause}
use Rattle.channel_face.specs.declared.replies.StageCause.TheVariants as StageNo
use Rattle.channel_face.specs.declared.replies.Ticket.{Ticket}
use Rattle.channel_face.proofs.LawLemmas.{after_none}
use Rattle.txn_core.proofs.Kept.{few_opened, put_allows}
use Rattle.channel_writing.specs.Folders.{OpensTo}
use Rattle.channel_writing.specs.Touches.{Flushed, IsSpentLog, Rests, flushes}
use Rattle.channel_writing.specs.Written.{MayRecover}
use Rattle.channel_writing.proofs.Opening.{joined, only_more}
use Rattle.agent_commands.specs.Stored.{default_limits}
use Rattle.netcat_source.specs.declared.lines.LineVerdict.{LineVerdict as Verdict}
use Rattle.netcat_source.specs.declared.lines.LineVerdict.TheVariants as LineVerdict
use Rattle.agent_commands.specs.Handled.{GoesOn}
use Rattle.agent_commands.specs.Puts.{begin_verdict, put_verdict}
use Rattle.agent_commands.proofs.Idle.{HasSpentLog, IsFull, IsIdle, Keeps, LeavesState, MayGain, PutsOne, one_put}

-- a move over any disk, of a call whose reply hangs on no disk
pub exactly : (tells : Bool) (s : State) (call : Call) (s' : State) → Moves tells s call s' → (Admits tells s call → Admits true s call) → Moves true s call s'
exactly tells s call s' moves same = record { admitted = same moves.admitted; state = moves.state }

itself : (n : ℕ) → (n == n) ≡ true
itself n = grind (arith, nat_tests)

-- From an idle channel on, one transaction of puts is open.
pub record HasOpen (start s : State) (token : Token) (events : List Content) : Type 0 where
  pub rules : s.rules ≡ start.rules
  pub base : base_of s ≡ base_of start
  pub opened : s.opened ≡ (token.number, Puts events) ∷ []
  pub staged : s.staged ≡ []
  pub whole : s.broken ≡ false
  pub life : token.life ≡ s.life
  pub txn : s.txn ≡ start.txn + 1

-- a begin on an idle channel opens one transaction without events
pub has_begun : (start s : State) (token : Token) → IsIdle start → Moves true start (BeginPut (Ok token)) s → HasOpen start s token []
has_begun start s token idle moves =
    let is = moves.state in
    let its : token ≡ record { life = start.life; number = start.txn } = moves.admitted.1 in
    record {
      rules = ap (λ (x : State). x.rules) is;
      base = ap base_of is;
      opened = ap (λ (x : State). x.opened) is ∙ ap (λ (l : List (ℕ × Entry)). l ++ (start.txn, Puts []) ∷ []) idle.opened ∙ ap (λ (t : Token). (t.number, Puts []) ∷ []) (sym its);
      staged = ap (λ (x : State). x.staged) is ∙ idle.staged;
      whole = ap (λ (x : State). x.broken) is ∙ idle.whole;
      life = ap (λ (t : Token). t.life) its ∙ ap (λ (x : State). x.life) (sym is);
      txn = ap (λ (x : State). x.txn) is;
    }

-- a transaction that was begun had a number left
pub begun_below : (start s : State) (token : Token) → Moves true start (BeginPut (Ok token)) s → start.txn < 2 ^ 64 - 1
begun_below start s token moves = (few_opened start moves.admitted.0).2

-- the list of the open transaction
pub open_puts : (start s : State) (token : Token) (events : List Content) → HasOpen start s token events → puts_of s token ≡ Some events
open_puts start s token events has = rw (ap (λ (n : ℕ). n == s.life) has.life ∙ itself s.life, has.opened, itself token.number) refl

open_entry : (start s : State) (token : Token) (events : List Content) → HasOpen start s token events → entry_of token.number s.opened ≡ Some (Puts events)
open_entry start s token events has = rw (has.opened, itself token.number) refl

-- nothing is open without it
none_without : (start s : State) (token : Token) (events : List Content) → HasOpen start s token events → without_entry token.number s.opened ≡ []
none_without start s token events has = rw (has.opened, itself token.number) refl

-- a state of a channel on which nothing is staged is as it is settled
settled_base : (spilled : Bool) (s : State) → s.staged ≡ [] → base_of (settle_if spilled s) ≡ base_of s
settled_base true s none = rw none (after_none (base_of s))
settled_base false s none = refl

settled_rest : (spilled : Bool) (s : State) → s.staged ≡ [] → (settle_if spilled s).staged ≡ []
settled_rest true s none = refl
settled_rest false s none = none

settled_opened : (spilled : Bool) (s : State) → (settle_if spilled s).opened ≡ s.opened
settled_opened true s = refl
settled_opened false s = refl

settled_same : (spilled : Bool) (s : State) → ((settle_if spilled s).rules ≡ s.rules) × ((settle_if spilled s).broken ≡ s.broken) × ((settle_if spilled s).life ≡ s.life) × ((settle_if spilled s).txn ≡ s.txn)
settled_same true s = (refl, refl, refl, refl)
settled_same false s = (refl, refl, refl, refl)

-- the event was put
pub has_put : (start s s' : State) (token : Token) (event : Content) (done : PutDone) → HasOpen start s token [] → Moves true s (Put token event (Ok done)) s' → HasOpen start s' token (event ∷ [])
has_put start s s' token event done has moves =
    let list : puts_of s token ≡ Some [] = open_puts start s token [] has in
    let n : State = settle_if done.spilled s in
    let same = settled_same done.spilled s in
    let is : s' ≡ record n { opened = with_entry token.number (Puts (event ∷ [])) n.opened } = moves.state ∙ ap (λ (l : Option (List Content)). add_put n token.number l event) list in
    let opened : n.opened ≡ (token.number, Puts []) ∷ [] = settled_opened done.spilled s ∙ has.opened in
    record {
      rules = ap (λ (x : State). x.rules) is ∙ same.0 ∙ has.rules;
      base = ap base_of is ∙ settled_base done.spilled s has.staged ∙ has.base;
      opened = ap (λ (x : State). x.opened) is ∙ rw (opened, itself token.number) refl;
      staged = ap (λ (x : State). x.staged) is ∙ settled_rest done.spilled s has.staged;
      whole = ap (λ (x : State). x.broken) is ∙ same.1 ∙ has.whole;
      life = has.life ∙ sym (ap (λ (x : State). x.life) is ∙ same.2);
      txn = ap (λ (x : State). x.txn) is ∙ same.3 ∙ has.txn;
    }

-- how many events a channel has on which nothing is staged and one transaction is open
counts : (start s : State) (token : Token) (events : List Content) → HasOpen start s token events → count s ≡ length start.items + length events
counts start s token events has =
    let items : length s.items ≡ length start.items = ap (λ (b : Base). length b.items) has.base in
    let puts : length (put_events (entries s.opened)) ≡ length events = ap (λ (l : List (ℕ × Entry)). length (put_events (entries l))) has.opened ∙ ap (λ (l : List Content). length l) (append-nil events) in
    let none : length (put_events s.staged) ≡ 0 = ap (λ (l : List Entry). length (put_events l)) has.staged in
    omega (arith, items, puts, none)

limits_are : (start s : State) (token : Token) (events : List Content) → IsIdle start → HasOpen start s token events → (s.rules.limits ≡ default_limits) × (s.rules.kind ≡ OnFile)
limits_are start s token events idle has = (ap (λ (r : Rules). r.limits) has.rules ∙ idle.limits, ap (λ (r : Rules). r.kind) has.rules ∙ idle.kind)

room_left : (k : Kind) (s : State) (event : Content) → size_refusal k s event ≡ None → k ≡ OnFile → count s < s.rules.limits.capacity
room_left OnFile s event none is = grind (arith, nat_tests)
room_left InMemory s event none is = absurd (cc)

-- an event that was put had room
pub put_below : (start s s' : State) (token : Token) (event : Content) (done : PutDone) → IsIdle start → HasOpen start s token [] → Moves true s (Put token event (Ok done)) s' → length start.items < default_limits.capacity
put_below start s s' token event done idle has moves =
    let list : puts_of s token ≡ Some [] = open_puts start s token [] has in
    let may = put_allows s [] event (rw list at moves.admitted.0) in
    let its = limits_are start s token [] idle has in
    let few : count s < s.rules.limits.capacity = room_left s.rules.kind s event may.2 its.1 in
    let capacity : s.rules.limits.capacity ≡ 1000000 = ap (λ (l : Limits). l.capacity) its.0 in
    omega (arith, few, capacity, counts start s token [] has)

-- an event that was not put finds the channel full or no log file left, except when out of memory and a fault of the disk
pub not_put : (start s s' : State) (token : Token) (event : Content) (e : PutRefused) → IsIdle start → HasOpen start s token [] → size event ≤ 1048576 → (e ≢ PutNo.NoMemory) → (e ≢ PutNo.DiskFault) → Moves true s (Put token event (Err e)) s'
    → (default_limits.capacity ≤ length start.items) ⊎ (e ≡ PutNo.Spent File)
not_put start s s' token event e idle has small memory fault moves = by_cause e memory fault (subst (λ (l : Option (List Content)). AdmitsPut s l event (Err e)) list moves.admitted)
  where
    list : puts_of s token ≡ Some []
    list = open_puts start s token [] has

    its : (s.rules.limits ≡ default_limits) × (s.rules.kind ≡ OnFile)
    its = limits_are start s token [] idle has

    most : s.rules.limits.txn_capacity ≡ 10000
    most = ap (λ (l : Limits). l.txn_capacity) its.0

    capacity : s.rules.limits.capacity ≡ 1000000
    capacity = ap (λ (l : Limits). l.capacity) its.0

    refusal : put_refusal s (Some []) event ≡ (if nat_le s.rules.limits.capacity (count s) then Some (PutNo.Full (count s)) else None)
    refusal = let w = has.whole in grind (arith, nat_tests, w, most, its.1, small)

    by_cause : (e : PutRefused) → (e ≢ PutNo.NoMemory) → (e ≢ PutNo.DiskFault) → AdmitsPut s (Some []) event (Err e) → (default_limits.capacity ≤ length start.items) ⊎ (e ≡ PutNo.Spent File)
    by_cause PutNo.NoMemory memory fault admitted = absurd (memory refl)
    by_cause PutNo.DiskFault memory fault admitted = absurd (fault refl)
    by_cause PutNo.Stale memory fault admitted = absurd (let r = refusal in grind (arith, nat_tests))
    by_cause PutNo.Broken memory fault admitted = absurd (let r = refusal in grind (arith, nat_tests))
    by_cause (PutNo.Spent counter) memory fault admitted = inr (ap PutNo.Spent admitted.1)
    by_cause (PutNo.TxnFull n) memory fault admitted = absurd (let r = refusal in grind (arith, nat_tests))
    by_cause (PutNo.TooLarge n) memory fault admitted = absurd (let r = refusal in grind (arith, nat_tests))
    by_cause (PutNo.Full n) memory fault admitted = inl (let r = refusal in let c = counts start s token [] has in grind (arith, nat_tests))

-- the transaction is staged
pub record HasStaged (start s : State) (event : Content) : Type 0 where
  pub rules : s.rules ≡ start.rules
  pub base : base_of s ≡ base_of start
  pub opened : s.opened ≡ []
  pub staged : s.staged ≡ one_put event
  pub whole : s.broken ≡ false
  pub txn : s.txn ≡ start.txn + 1

-- a stage closes the transaction and stages its event
pub has_staged : (start s s' : State) (token : Token) (event : Content) (ticket : Ticket) → HasOpen start s token (event ∷ []) → Moves true s (StagePut token (Ok ticket)) s' → HasStaged start s' event
has_staged start s s' token event ticket has moves =
    let is : s' ≡ record s { opened = without_entry token.number s.opened; staged = s.staged ++ one_put event } = moves.state ∙ ap (λ (e : Option Entry). stage token.number e s) (open_entry start s token (event ∷ []) has) in
    record {
      rules = ap (λ (x : State). x.rules) is ∙ has.rules;
      base = ap base_of is ∙ has.base;
      opened = ap (λ (x : State). x.opened) is ∙ none_without start s token (event ∷ []) has;
      staged = ap (λ (x : State). x.staged) is ∙ ap (λ (l : List Entry). l ++ one_put event) has.staged;
      whole = ap (λ (x : State). x.broken) is ∙ has.whole;
      txn = ap (λ (x : State). x.txn) is ∙ has.txn;
    }

-- what a stage asks for
stage_asks : (start s : State) (token : Token) (event : Content) → IsIdle start → HasOpen start s token (event ∷ []) → stage_put_refusal s (puts_of s token) ≡ (if nat_lt (2 ^ 64 - 1) (start.first + 1) then Some (StageNo.Spent Number) else None)
stage_asks start s token event idle has =
    let list : puts_of s token ≡ Some (event ∷ []) = open_puts start s token (event ∷ []) has in
    let kind = (limits_are start s token (event ∷ []) idle has).1 in
    let next : next_number s ≡ start.first = rw has.staged (omega (arith, ap (λ (b : Base). b.first) has.base)) in
    rw (list, has.whole, kind, next) refl

-- an event that was staged had a number left
pub staged_below : (start s s' : State) (token : Token) (event : Content) (ticket : Ticket) → IsIdle start → HasOpen start s token (event ∷ []) → Moves true s (StagePut token (Ok ticket)) s' → start.first < 2 ^ 64 - 1
staged_below start s s' token event ticket idle has moves = let r = sym (stage_asks start s token event idle has) ∙ moves.admitted.0 in grind (arith, nat_tests)

-- a stage is refused only for want of a number, and changes nothing
pub not_staged : (start s s' : State) (token : Token) (event : Content) (cause : StageCause) → IsIdle start → HasOpen start s token (event ∷ []) → Moves true s (StagePut token (Err cause)) s' → (2 ^ 64 - 1 ≤ start.first) × (s' ≡ s)
not_staged start s s' token event cause idle has moves = (let r = sym (stage_asks start s token event idle has) ∙ moves.admitted in grind (arith, nat_tests), moves.state)

-- it is settled
pub has_settled : (start s s' : State) (event : Content) → IsIdle start → HasStaged start s event → Moves true s (Flush (Ok tt)) s' → IsIdle s' × (base_of s' ≡ after_journal (base_of start) (one_put event)) × (s'.txn ≡ start.txn + 1)
has_settled start s s' event idle has moves =
    let is : s' ≡ settle s = moves.state in (
      record {
        kind = ap (λ (x : State). x.rules.kind) is ∙ ap (λ (r : Rules). r.kind) has.rules ∙ idle.kind;
        limits = ap (λ (x : State). x.rules.limits) is ∙ ap (λ (r : Rules). r.limits) has.rules ∙ idle.limits;
        opened = ap (λ (x : State). x.opened) is ∙ has.opened;
        staged = ap (λ (x : State). x.staged) is;
        whole = ap (λ (x : State). x.broken) is ∙ has.whole;
      },
      ap base_of is ∙ ap (λ (l : List Entry). after_journal (base_of s) l) has.staged ∙ ap (λ (b : Base). after_journal b (one_put event)) has.base,
      ap (λ (x : State). x.txn) is ∙ has.txn,
    )

-- a transaction was rolled back
pub is_idle_again : (start s s' : State) (token : Token) (events : List Content) (ended : Bool) → IsIdle start → HasOpen start s token events → Moves true s (RollbackPut token ended) s' → IsIdle s' × (base_of s' ≡ base_of start) × (start.txn ≤ s'.txn)
is_idle_again start s s' token events ended idle has moves =
    let list : puts_of s token ≡ Some events = open_puts start s token events has in
    let yes : ended ≡ true = moves.admitted ∙ ap (λ (l : Option (List Content)). is_some_of l) list in
    let is : s' ≡ close token.number s = moves.state ∙ ap (λ (b : Bool). cond b (close token.number s) s) yes in
    let its = limits_are start s token events idle has in (
      record {
        kind = ap (λ (x : State). x.rules.kind) is ∙ its.1;
        limits = ap (λ (x : State). x.rules.limits) is ∙ its.0;
        opened = ap (λ (x : State). x.opened) is ∙ none_without start s token events has;
        staged = ap (λ (x : State). x.staged) is ∙ has.staged;
        whole = ap (λ (x : State). x.broken) is ∙ has.whole;
      },
      ap base_of is ∙ has.base,
      let one : s'.txn ≡ s.txn = ap (λ (x : State). x.txn) is in let more = has.txn in omega (arith, one, more),
    )

-- An event that was not put leaves the state and the disk alone, but for a fault of the disk.
pub put_leaves : (s s' : State) (token : Token) (event : Content) (e : PutRefused) → (e ≢ PutNo.DiskFault) → Moves true s (Put token event (Err e)) s' → (s' ≡ s) × (flushes (Put token event (Err e)) ≡ false)
put_leaves s s' token event PutNo.Stale other moves = (moves.state, refl)
put_leaves s s' token event PutNo.Broken other moves = (moves.state, refl)
put_leaves s s' token event (PutNo.Spent counter) other moves = (moves.state, refl)
put_leaves s s' token event (PutNo.TxnFull n) other moves = (moves.state, refl)
put_leaves s s' token event (PutNo.TooLarge n) other moves = (moves.state, refl)
put_leaves s s' token event (PutNo.Full n) other moves = (moves.state, refl)
put_leaves s s' token event PutNo.DiskFault other moves = absurd (other refl)
put_leaves s s' token event PutNo.NoMemory other moves = (moves.state, refl)

-- a put that was refused for this cause
abbrev pub err_put : PutRefused → Result PutDone PutRefused
err_put e = Err e

-- one that was not
abbrev pub ok_put : PutDone → Result PutDone PutRefused
ok_put done = Ok done

-- images

-- what a crash may leave in a stretch of calls: what was settled before, or that and the event
abbrev pub Stays : State → Told → Told → Type 0
Stays start t u = LeavesOnly t u (Keeps (base_of start))

abbrev pub MayLeave : State → Content → Told → Told → Type 0
MayLeave start event t u = LeavesOnly t u (MayGain (base_of start) event)

-- what an idle channel has at rest
rests_stay : (told : Option Told) (s : State) → IsIdle s → Rests told s → Tells told told (Stays s)
rests_stay told s idle rests = tells_same told (Stays s) (λ t is. started t (Keeps (base_of s)) (λ image left. let r = rests idle.whole t is image left in (r.0, r.2)))

still : (told told' : Option Told) (start : State) → told' ≡ told → Tells told told (Stays start) → Tells told told' (Stays start)
still told told' start same is = subst (λ (o : Option Told). Tells told o (Stays start)) (sym same) is

-- one stretch after another
on_stays : (a b c : Option Told) (start : State) → Tells a b (Stays start) → Tells b c (Stays start) → Tells a c (Stays start)
on_stays a b c start one more = follows a b c (Stays start) (Stays start) (Stays start) (λ t u v _ _ _ p q. joined t u v (Keeps (base_of start)) p q) one more

keeps_gain : (base : Base) (event : Content) (image : Files) → Keeps base image → MayGain base event image
keeps_gain base event image keeps = (keeps.0, inl keeps.1)

stays_gain : (a b : Option Told) (start : State) (event : Content) → Tells a b (Stays start) → Tells a b (MayLeave start event)
stays_gain a b start event is = tells_more a b (Stays start) (MayLeave start event) (λ t u _ _ p. only_more t u (Keeps (base_of start)) (MayGain (base_of start) event) (keeps_gain (base_of start) event) p) is

on_gains : (a b c : Option Told) (start : State) (event : Content) → Tells a b (Stays start) → Tells b c (MayLeave start event) → Tells a c (MayLeave start event)
on_gains a b c start event one more = follows a b c (MayLeave start event) (MayLeave start event) (MayLeave start event) (λ t u v _ _ _ p q. joined t u v (MayGain (base_of start) event) p q) (stays_gain a b start event one) more

-- a flush of what is staged
staged_gain : (told told' : Option Told) (start s : State) (event : Content) → HasStaged start s event → Tells told told' (λ t u. Flushed s t u) → Tells told told' (MayLeave start event)
staged_gain told told' start s event has flushed = tells_more told told' (λ t u. Flushed s t u) (MayLeave start event) (λ t u _ _ f. only_more t u (MayRecover s) (MayGain (base_of start) event) gains f.images) flushed
  where
    gains : (image : Files) → MayRecover s image → MayGain (base_of start) event image
    gains image may = (
      may.0,
      elim may.2 [
        | inl was ↦ inl (subst (λ (b : Base). OpensTo image b may.0) has.base was)
        | inr is ↦ inr (subst (λ (b : Base). OpensTo image b may.0) (ap (λ (l : List Entry). after_journal (base_of s) l) has.staged ∙ ap (λ (b : Base). after_journal b (one_put event)) has.base) is)
      ],
    )

-- a flush of nothing
none_stays : (told told' : Option Told) (start s : State) (token : Token) (events : List Content) → HasOpen start s token events → Tells told told' (λ t u. Flushed s t u) → Tells told told' (Stays start)
none_stays told told' start s token events has flushed = tells_more told told' (λ t u. Flushed s t u) (Stays start) (λ t u _ _ f. only_more t u (MayRecover s) (Keeps (base_of start)) keeps f.images) flushed
  where
    none : after_journal (base_of s) s.staged ≡ base_of start
    none = ap (λ (l : List Entry). after_journal (base_of s) l) has.staged ∙ after_none (base_of s) ∙ has.base

    keeps : (image : Files) → MayRecover s image → Keeps (base_of start) image
    keeps image may = (
      may.0,
      elim may.2 [
        | inl was ↦ subst (λ (b : Base). OpensTo image b may.0) has.base was
        | inr is ↦ subst (λ (b : Base). OpensTo image b may.0) none is
      ],
    )

-- the put, with or without a flush of nothing
put_stays : (told told' : Option Told) (start s : State) (token : Token) (spilled : Bool) → HasOpen start s token [] → Tells told told (Stays start) → (spilled ≡ false → told' ≡ told) → (spilled ≡ true → Tells told told' (λ t u. Flushed s t u)) → Tells told told' (Stays start)
put_stays told told' start s token true has rests quiet flushed = none_stays told told' start s token [] has (flushed refl)
put_stays told told' start s token false has rests quiet flushed = still told told' start (quiet refl) rests

-- what is known of an event that was refused, or for which there was no memory
pub puts_none : (told told' : Option Told) (s s' : State) (event : Content) → IsIdle s' × (base_of s' ≡ base_of s) → Tells told told' (Stays s) → told' ≡ told → PutsOne event LineVerdict.NoMemory told told' s s'
puts_none told told' s s' event state images same = record {
  state = state;
  images = images;
  fits = λ is. absurd cc;
  refused = λ is. absurd cc;
  spent = λ t is log. (λ is. absurd cc, same);
}

-- what is known of an event that was refused, as the channel is at its end or no log file is left
pub puts_refused : (told told' : Option Told) (s s' : State) (event : Content) → IsIdle s' × (base_of s' ≡ base_of s) × (s.txn ≤ s'.txn) → Tells told told' (Stays s) → IsFull s ⊎ HasSpentLog told'
    → WhereTold told (λ t. IsSpentLog t default_limits.max_file → told' ≡ told) → PutsOne event LineVerdict.Refused told told' s s'
puts_refused told told' s s' event state images cause same = record {
  state = state;
  images = images;
  fits = λ is. absurd cc;
  refused = λ _. cause;
  spent = λ t is log. (λ is. absurd cc, same t is log);
}

-- what is known of an event that is in doubt
pub puts_doubt : (told told' : Option Told) (s s' : State) (event : Content) → Tells told told' (MayLeave s event) → WhereTold told (λ t. IsSpentLog t default_limits.max_file → ⊥) → PutsOne event LineVerdict.InDoubt told told' s s'
puts_doubt told told' s s' event images no_end = record {
  state = tt;
  images = images;
  fits = λ is. absurd cc;
  refused = λ is. absurd cc;
  spent = λ t is log. absurd (no_end t is log);
}

-- what the put says of the log file, by the limits
pub spent_log : (told : Option Told) (start s : State) (token : Token) (result : Result PutDone PutRefused) → IsIdle start → HasOpen start s token []
    → (s.broken ≡ false → IsSome (puts_of s token) → WhereTold told (λ t. (result ≡ Err (PutNo.Spent File)) ↔ IsSpentLog t s.rules.limits.max_file))
    → WhereTold told (λ t. (result ≡ Err (PutNo.Spent File)) ↔ IsSpentLog t default_limits.max_file)
spent_log told start s token result idle has says t is =
    let list : puts_of s token ≡ Some [] = open_puts start s token [] has in
    let some : IsSome (puts_of s token) = subst (λ (l : Option (List Content)). IsSome l) (sym list) refl in
    let most : s.rules.limits.max_file ≡ default_limits.max_file = ap (λ (l : Limits). l.max_file) (limits_are start s token [] idle has).0 in
    subst (λ (n : ℕ). (result ≡ Err (PutNo.Spent File)) ↔ IsSpentLog t n) most (says has.whole some t is)

-- no transaction was begun
same_state : (s s' : State) → s' ≡ s → IsIdle s → IsIdle s' × (base_of s' ≡ base_of s) × (s.txn ≤ s'.txn)
same_state s s' is idle = (subst IsIdle (sym is) idle, ap base_of is, let e : s'.txn ≡ s.txn = ap (λ (x : State). x.txn) is in omega (arith, e))

-- no event was made
pub no_event : (told : Option Told) (s : State) (event : Content) → IsIdle s → Rests told s → PutsOne event LineVerdict.NoMemory told told s s
no_event told s event idle rests = puts_none told told s s event (idle, refl) (rests_stay told s idle rests) refl

-- what is known of an event whose transaction was not begun
pub begin_refused : (told told' : Option Told) (s s' : State) (event : Content) (e : BeginRefused) → IsIdle s → Rests told s → told' ≡ told → Moves true s (BeginPut (Err e)) s' → PutsOne event (begin_verdict e) told told' s s'
begin_refused told told' s s' event BeginNo.NoMemory idle rests same moves =
    let is = same_state s s' moves.state idle in
    puts_none told told' s s' event (is.0, is.1) (still told told' s same (rests_stay told s idle rests)) same
begin_refused told told' s s' event BeginNo.Broken idle rests same moves = let e = moves.admitted in let w = idle.whole in let o : length s.opened ≡ 0 = ap length idle.opened in absurd (grind (arith, nat_tests))
begin_refused told told' s s' event (BeginNo.TooManyOpen held) idle rests same moves = let e = moves.admitted in let w = idle.whole in let o : length s.opened ≡ 0 = ap length idle.opened in absurd (grind (arith, nat_tests))
begin_refused told told' s s' event (BeginNo.Spent counter) idle rests same moves =
    let full : 2 ^ 64 - 1 ≤ s.txn = let e = moves.admitted in let w = idle.whole in let o : length s.opened ≡ 0 = ap length idle.opened in grind (arith, nat_tests) in
    puts_refused told told' s s' event (same_state s s' moves.state idle) (still told told' s same (rests_stay told s idle rests)) (inl (inr (inr full))) (λ t is log. same)

-- an event was not put
module _ (told0 told1 told2 told3 : Option Told) (s s1 s2 s3 : State) (token : Token) (event : Content) (ended : Bool) (idle : IsIdle s) (rests : Rests told0 s) (same1 : told1 ≡ told0) (begun : Moves true s (BeginPut (Ok token)) s1) where
  has : HasOpen s s1 token []
  has = has_begun s s1 token idle begun

  start : Tells told0 told0 (Stays s)
  start = rests_stay told0 s idle rests

  opened : Tells told0 told1 (Stays s)
  opened = still told0 told1 s same1 start

  -- the transaction is rolled back, and the disk was left alone
  module _ (e : PutRefused) (same2 : flushes (Put token event (Err e)) ≡ false → told2 ≡ told1) (same3 : told3 ≡ told2) (put : Moves true s1 (Put token event (Err e)) s2) (rolled : Moves true s2 (RollbackPut token ended) s3) (small : size event ≤ 1048576)
      (says : s1.broken ≡ false → IsSome (puts_of s1 token) → WhereTold told1 (λ t. (err_put e ≡ Err (PutNo.Spent File)) ↔ IsSpentLog t s1.rules.limits.max_file)) where
    left : (e ≢ PutNo.DiskFault) → (s2 ≡ s1) × (told3 ≡ told0)
    left other = let l = put_leaves s1 s2 token event e other put in (l.0, same3 ∙ same2 l.1 ∙ same1)

    again : (e ≢ PutNo.DiskFault) → IsIdle s3 × (base_of s3 ≡ base_of s) × (s.txn ≤ s3.txn)
    again other = is_idle_again s s2 s3 token [] ended idle (subst (λ (x : State). HasOpen s x token []) (sym (left other).0) has) rolled

    none : e ≡ PutNo.NoMemory → PutsOne event LineVerdict.NoMemory told0 told3 s s3
    none is = let other : e ≢ PutNo.DiskFault = λ fault. absurd cc in let a = again other in puts_none told0 told3 s s3 event (a.0, a.1) (still told0 told3 s (left other).1 start) (left other).1

    refused : (e ≢ PutNo.DiskFault) → (e ≢ PutNo.NoMemory) → PutsOne event LineVerdict.Refused told0 told3 s s3
    refused other memory =
        let kept : told3 ≡ told0 = (left other).1 in
        let log = spent_log told1 s s1 token (err_put e) idle has says in
        let cause : IsFull s ⊎ HasSpentLog told3 = elim (not_put s s1 s2 token event e idle has small memory other put) [
          | inl full ↦ inl (inl full)
          | inr spent ↦ inr (λ t is. (log t (same1 ∙ sym kept ∙ is)).0 (ap err_put spent))
        ] in
        puts_refused told0 told3 s s3 event (again other) (still told0 told3 s kept start) cause (λ t is at. kept)

    -- whatever the cause is
    pub not_done : (flushes (Put token event (Err e)) ≡ true → Tells told1 told2 (λ t u. Flushed s1 t u)) → PutsOne event (put_verdict e) told0 told3 s s3
    not_done flushed = by_cause e refl
      where
        by_cause : (x : PutRefused) → e ≡ x → PutsOne event (put_verdict x) told0 told3 s s3
        by_cause PutNo.Stale is = refused (λ f. absurd cc) (λ m. absurd cc)
        by_cause PutNo.Broken is = refused (λ f. absurd cc) (λ m. absurd cc)
        by_cause (PutNo.Spent counter) is = refused (λ f. absurd cc) (λ m. absurd cc)
        by_cause (PutNo.TxnFull n) is = refused (λ f. absurd cc) (λ m. absurd cc)
        by_cause (PutNo.TooLarge n) is = refused (λ f. absurd cc) (λ m. absurd cc)
        by_cause (PutNo.Full n) is = refused (λ f. absurd cc) (λ m. absurd cc)
        by_cause PutNo.DiskFault is =
            let yes : flushes (Put token event (Err e)) ≡ true = ap (λ (x : PutRefused). flushes (Put token event (err_put x))) is in
            puts_doubt told0 told3 s s3 event (stays_gain told0 told3 s event (subst (λ (o : Option Told). Tells told0 o (Stays s)) (sym same3) (on_stays told0 told1 told2 s opened (none_stays told1 told2 s s1 token [] has (flushed yes))))) (λ t told at. let no = (spent_log told1 s s1 token (err_put e) idle has says t (same1 ∙ told)).1 at in let is_not : err_put e ≡ err_put PutNo.DiskFault = ap err_put is in cc)
        by_cause PutNo.NoMemory is = none is

  -- it was put
  module _ (done : PutDone) (put : Moves true s1 (Put token event (Ok done)) s2) (quiet2 : done.spilled ≡ false → told2 ≡ told1) (flushed2 : done.spilled ≡ true → Tells told1 told2 (λ t u. Flushed s1 t u))
      (says : s1.broken ≡ false → IsSome (puts_of s1 token) → WhereTold told1 (λ t. (ok_put done ≡ Err (PutNo.Spent File)) ↔ IsSpentLog t s1.rules.limits.max_file)) where
    has2 : HasOpen s s2 token (event ∷ [])
    has2 = has_put s s1 s2 token event done has put

    images2 : Tells told0 told2 (Stays s)
    images2 = on_stays told0 told1 told2 s opened (put_stays told1 told2 s s1 token done.spilled has (subst (λ (o : Option Told). Tells o o (Stays s)) (sym same1) start) quiet2 flushed2)

    has_log : WhereTold told0 (λ t. IsSpentLog t default_limits.max_file → ⊥)
    has_log t is at = let no = (spent_log told1 s s1 token (ok_put done) idle has says t (same1 ∙ is)).1 at in cc

    -- but not staged
    pub not_staged_done : (cause : StageCause) (told4 : Option Told) (s4 : State) → told3 ≡ told2 → told4 ≡ told3 → Moves true s2 (StagePut token (Err cause)) s3 → Moves true s3 (RollbackPut token ended) s4 → PutsOne event LineVerdict.Refused told0 told4 s s4
    not_staged_done cause told4 s4 same3 same4 staged rolled =
        let no = not_staged s s2 s3 token event cause idle has2 staged in
        puts_refused told0 told4 s s4 event (is_idle_again s s3 s4 token (event ∷ []) ended idle (subst (λ (x : State). HasOpen s x token (event ∷ [])) (sym no.1) has2) rolled)
        (subst (λ (o : Option Told). Tells told0 o (Stays s)) (sym (same4 ∙ same3)) images2) (inl (inr (inl no.0))) (λ t is at. absurd (has_log t is at))

    -- and staged
    module _ (ticket : Ticket) (told4 : Option Told) (s4 : State) (same3 : told3 ≡ told2) (staged : Moves true s2 (StagePut token (Ok ticket)) s3) where
      has3 : HasStaged s s3 event
      has3 = has_staged s s2 s3 token event ticket has2 staged

      images4 : Tells told3 told4 (λ t u. Flushed s3 t u) → Tells told0 told4 (MayLeave s event)
      images4 flushed = on_gains told0 told3 told4 s event (subst (λ (o : Option Told). Tells told0 o (Stays s)) (sym same3) images2) (staged_gain told3 told4 s s3 event has3 flushed)

      -- a flush that was done has the event accepted
      pub is_done : Moves true s3 (Flush (Ok tt)) s4 → Tells told3 told4 (λ t u. Flushed s3 t u) → PutsOne event LineVerdict.Accepted told0 told4 s s4
      is_done settled flushed = record {
        state = has_settled s s3 s4 event idle has3 settled;
        images = images4 flushed;
        fits = λ _ full. elim full [
          | inl items ↦ let few = put_below s s1 s2 token event done idle has put in omega (arith, items, few)
          | inr number ↦ elim number [
            | inl first ↦ let few = staged_below s s2 s3 token event ticket idle has2 staged in omega (arith, first, few)
            | inr txn ↦ let few = begun_below s s1 token begun in omega (arith, txn, few)
          ]
        ];
        refused = λ is. absurd cc;
        spent = λ t is at. absurd (has_log t is at);
      }

      -- a flush that was refused leaves the event in doubt
      pub is_in_doubt : (e : FlushRefused) → Moves true s3 (Flush (Err e)) s4 → (flushes (Flush (Err e)) ≡ true → Tells told3 told4 (λ t u. Flushed s3 t u)) → PutsOne event LineVerdict.InDoubt told0 told4 s s4
      is_in_doubt FlushNo.Broken moves flushed = absurd (let no = sym moves.admitted ∙ has3.whole in cc)
      is_in_doubt (FlushNo.Spent counter) moves flushed = absurd moves.admitted
      is_in_doubt FlushNo.DiskFault moves flushed = puts_doubt told0 told4 s s4 event (images4 (flushed refl)) has_log

-- a line that stopped nothing leaves the channel idle
pub still_idle : (verdict : Verdict) (event : Content) (s s' : State) → GoesOn verdict → LeavesState verdict event s s' → IsIdle s'
still_idle LineVerdict.Accepted event s s' goes left = left.0
still_idle LineVerdict.Refused event s s' goes left = left.0
still_idle LineVerdict.InDoubt event s s' goes left = absurd goes
still_idle LineVerdict.NoMemory event s s' goes left = absurd goes
