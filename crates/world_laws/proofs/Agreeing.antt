-- Each call of a running channel that is a step can be taken by a channel of the world that agrees with it.
use Rattle.std.proofs.Common.{◌⊎◌, inl, inr, ◌≡◌, ◌<◌, ◌≤◌, ◌+◌, ◌-◌, ◌^◌, ◌++◌, ◌∷◌, [], ℕ, List, length, length-append, take, Option, Some, None, Result, Ok, Err, Bool, ◌&&◌, true, false, not, nat_le, nat_lt, cond, refl, sym, ◌∙◌, ap, subst, arith, append_assoc}
use Rattle.std.specs.List.{AllByRecursion}
use Rattle.std.proofs.lemmas.List.{append-nil}
use Rattle.std.proofs.lemmas.Bool.Decides.{nat_tests}
use Rattle.event_core.specs.Content.{Content, size}
use Rattle.event_core.specs.Journal.{Base, left, next, put_events, taken_numbers, without, is_among}
use Rattle.event_core.specs.declared.journal.Entry.{Entry}
use Rattle.event_core.specs.declared.journal.Entry.TheVariants.{Puts, Takes}
use Rattle.channel_face.specs.Token.{Token}
use Rattle.channel_face.specs.Machine.{State, Rules, Call, BeginPut, BeginTake, Put, Take, StagePut, StageTake, Flush, RollbackPut, RollbackTake, Checkpoint, Prune, Reopen, Front, SpillsNone, Admits, after, after_reopen, begin_refusal, put_refusal, take_refusal, free, first_event, add_take, after_take, size_refusal, room_refusal, stage_put_refusal, stage_take_refusal, or_else, puts_of, takes_of, base_of, settle, settle_if, broken_state, close, stage, entries, entry_of, with_entry, without_entry, add_put, after_put, after_begin, count, next_number, is_some_of}
use Rattle.channel_face.specs.History.{opening}
use Rattle.channel_face.specs.Laws.{limited}
use Rattle.channel_face.specs.declared.replies.Kind.{Kind}
use Rattle.channel_face.specs.declared.replies.Kind.TheVariants.{File as OnFile}
use Rattle.channel_face.specs.declared.replies.Ticket.{Ticket}
use Rattle.channel_face.specs.declared.replies.StageCause.TheVariants as StageNo
use Rattle.channel_face.specs.declared.replies.Counter.TheVariants.{Number}
use Rattle.channel_face.specs.declared.replies.FlushRefused.TheVariants as FlushNo
use Rattle.channel_face.specs.declared.replies.PutRefused.{PutRefused}
use Rattle.channel_face.specs.declared.replies.PutRefused.TheVariants as PutNo
use Rattle.channel_face.specs.declared.replies.CheckRefused.TheVariants as CheckNo
use Rattle.channel_face.specs.declared.replies.OpenCause.{OpenCause}
use Rattle.channel_face.specs.declared.replies.Taken.{Taken}
use Rattle.channel_face.specs.declared.replies.TakeRefused.{TakeRefused}
use Rattle.channel_face.specs.declared.replies.TakeRefused.TheVariants as TakeNo
use Rattle.channel_face.specs.Sound.{Opened, AreNumbered}
use Rattle.channel_face.proofs.Opened.{entry_of-push, entry_of-with, puts_of-some, takes_of-some, puts_of-from}
use Rattle.channel_face.proofs.Numbers.{put_events-append, times-append, among_times}
use Rattle.channel_face.proofs.Opened.{entries-append}
use Rattle.channel_face.proofs.Within.{within_run, within_opening}
use Rattle.world_laws.specs.World.{Channel, Delivery, and_then}
use Rattle.world_laws.specs.Channels.{unless, only_if, is_empty, next_token, put_all, stage_all, put_transaction, stored, flushed, failed, reopened, take_begun, taken, committed, given_up}
use Rattle.world_laws.specs.Held.{IsHistory}
use Rattle.world_laws.specs.Agrees.{IsReached, sum_of, puts_one, takes_one, times, times_in, Agrees, IsTaken, IsTakenFrom, IsSettling, IsBreaking, IsNoStep, CallsAreTaken}
use Rattle.world_laws.proofs.Histories.{sound_is}
use Rattle.world_laws.proofs.Opens.{takes_of-from}
use Rattle.world_laws.proofs.Summing.{sum-push, sum-with, sum-without, sum_both, open_events, no_events, with-push, without-push}
use Rattle.world_laws.proofs.Fitting.{Fits, fits_of, fits_run, begin_allows, put_allows}

-- what a reached state is

reached_fits : (s : State) → IsReached s → Fits s
reached_fits s r = subst Fits r.state (fits_run (opening r.start) r.calls r.run (record { kind = r.kind; few = omega arith; fits = tt }))

reached_within : (s : State) → IsReached s → count s ≤ s.rules.limits.capacity
reached_within s r =
    let within = within_run r.start.rules true (opening r.start) r.calls (refl, within_opening r.start.rules.kind r.start r.within) r.run r.fronts in
    let same : s.rules ≡ r.start.rules = ap (λ (x : State). x.rules) (sym r.state) ∙ within.0 in
    let at_s : limited s.rules.kind s ≤ s.rules.limits.capacity = subst (λ (x : State). limited x.rules.kind x ≤ x.rules.limits.capacity) r.state within.1 in
    subst (λ (k : Kind). limited k s ≤ s.rules.limits.capacity) (ap (λ (q : Rules). q.kind) same ∙ r.kind) at_s

-- what is not refused

begin_free : (s : State) → s.broken ≡ false → length s.opened < 1024 → s.txn < 2 ^ 64 - 1 → begin_refusal s ≡ None
begin_free s broken few txn = grind (arith, nat_tests)

le_false : (a b : ℕ) → b < a → nat_le a b ≡ false
le_false a b less = grind (arith, nat_tests)

lt_false : (a b : ℕ) → b ≤ a → nat_lt a b ≡ false
lt_false a b le = grind (arith, nat_tests)

not_lt : (a b : ℕ) → nat_lt a b ≡ false → b ≤ a
not_lt a b is = grind (arith, nat_tests)

cond_false : {A : Type 0} (b : Bool) (x y z : A) → b ≡ false → y ≡ z → cond b x y ≡ z
cond_false true x y z is same = absurd (cc)
cond_false false x y z is same = same

or_none : {A : Type 0} (a b : Option A) → a ≡ None → b ≡ None → or_else a b ≡ None
or_none None b is none = none
or_none (Some x) b is none = absurd (cc)

size_free : (k : Kind) (s : State) (e : Content) → k ≡ OnFile → size e ≤ 1048576 → count s < s.rules.limits.capacity → size_refusal k s e ≡ None
size_free OnFile s e is small room = rw (lt_false 1048576 (size e) small, le_false s.rules.limits.capacity (count s) room) refl
size_free other s e is small room = absurd (cc)

-- a put that fits, in a channel on a disk that is not broken and has room, is not refused
pub put_free : (s : State) (events : List Content) (e : Content) → s.broken ≡ false → length events < s.rules.limits.txn_capacity → s.rules.kind ≡ OnFile → size e ≤ 1048576 → count s < s.rules.limits.capacity → put_refusal s (Some events) e ≡ None
put_free s events e broken few kind small room = cond_false s.broken _ _ None broken (cond_false (nat_le s.rules.limits.txn_capacity (length events)) _ _ None (le_false s.rules.limits.txn_capacity (length events) few) (size_free s.rules.kind s e kind small room))

room_free : (k : Kind) (s : State) (size : ℕ) → k ≡ OnFile → room_refusal k s size ≡ None
room_free OnFile s size is = refl
room_free other s size is = absurd (cc)

stage_free : (s : State) (events : List Content) → s.broken ≡ false → s.rules.kind ≡ OnFile → next_number s + length events ≤ 2 ^ 64 - 1 → stage_put_refusal s (Some events) ≡ None
stage_free s events broken kind few = cond_false s.broken _ _ None broken (or_none (room_refusal s.rules.kind s (length events)) _ (room_free s.rules.kind s (length events) kind) (cond_false (nat_lt (2 ^ 64 - 1) (next_number s + length events)) _ _ None (lt_false (2 ^ 64 - 1) (next_number s + length events) few) refl))

or_else_none : {A : Type 0} (a b : Option A) → or_else a b ≡ None → b ≡ None
or_else_none None b is = is
or_else_none (Some x) b is = absurd (cc)

stage_allows : (s : State) (events : List Content) → stage_put_refusal s (Some events) ≡ None → (s.broken ≡ false) × (next_number s + length events ≤ 2 ^ 64 - 1)
stage_allows s events none = from s.broken refl none
  where
    test : Bool
    test = nat_lt (2 ^ 64 - 1) (next_number s + length events)

    few : (b : Bool) → test ≡ b → cond b (Some (StageNo.Spent Number)) None ≡ None → next_number s + length events ≤ 2 ^ 64 - 1
    few true is it = absurd (cc)
    few false is it = not_lt (2 ^ 64 - 1) (next_number s + length events) is

    from : (b : Bool) → s.broken ≡ b → cond b (Some StageNo.Broken) (or_else (room_refusal s.rules.kind s (length events)) (cond test (Some (StageNo.Spent Number)) None)) ≡ None → (s.broken ≡ false) × (next_number s + length events ≤ 2 ^ 64 - 1)
    from true is it = absurd (cc)
    from false is it = (is, few test refl (or_else_none (room_refusal s.rules.kind s (length events)) (cond test (Some (StageNo.Spent Number)) None) it))

-- a channel that does not refuse a put is not broken
pub put_whole : (s : State) (puts : Option (List Content)) (e : Content) → put_refusal s puts e ≡ None → s.broken ≡ false
put_whole s None e none = absurd (cc)
put_whole s (Some events) e none = grind (arith, nat_tests)

-- a channel that does not refuse a take is not broken
pub take_whole : (s : State) (takes : Option (List ℕ)) → take_refusal s takes ≡ None → s.broken ≡ false
take_whole s None none = absurd (cc)
take_whole s (Some numbers) none = grind (arith, nat_tests)

le_true : (a b : ℕ) → a ≤ b → nat_le a b ≡ true
le_true a b le = grind (arith, nat_tests)

lt_true : (a b : ℕ) → a < b → nat_lt a b ≡ true
lt_true a b less = grind (arith, nat_tests)

both_tests : (a b : Bool) → a ≡ true → b ≡ true → (a && b) ≡ true
both_tests true true x y = refl
both_tests true false x y = absurd (cc)
both_tests false b x y = absurd (cc)

-- a whole transaction of puts

-- the state in which these events are put
abbrev putting : State → List Content → State
putting t done = record t { opened = t.opened ++ (t.txn, Puts done) ∷ []; txn = t.txn + 1 }

-- the state in which they are staged
abbrev put_staged : State → List Content → State
put_staged t events = record t { txn = t.txn + 1; staged = t.staged ++ Puts events ∷ [] }

record HasRoom (t : State) (events : List Content) : Type 0 where
  numbered : AreNumbered t.txn t.opened
  no_puts : put_events (entries t.opened) ≡ []
  broken : t.broken ≡ false
  kind : t.rules.kind ≡ OnFile
  few : length events ≤ t.rules.limits.txn_capacity
  room : length t.items + length events + length (put_events t.staged) ≤ t.rules.limits.capacity

open_of : (t : State) (done : List Content) → put_events (entries t.opened) ≡ [] → put_events (entries (putting t done).opened) ≡ done
open_of t done none =
    ap put_events (entries-append t.opened ((t.txn, Puts done) ∷ [])) ∙ (put_events-append (entries t.opened) (Puts done ∷ []) ∙ (ap (λ (l : List Content). l ++ (done ++ [])) none ∙ append-nil done))

put_goes : (events done : List Content) (t : State) → HasRoom t (done ++ events) → AllByRecursion (λ e. size e ≤ 1048576) events → put_all (putting t done) (next_token t) events ≡ Some (putting t (done ++ events))
put_goes [] done t room small = ap (λ (l : List Content). Some (putting t l)) (sym (append-nil done))
put_goes (e ∷ events) done t room small =
    let u : State = putting t done in
    let token = next_token t in
    let more : List Content = done ++ e ∷ [] in
    let put : Option (List Content) → State = λ puts. after_put u token puts e (Ok (record { spilled = false })) in
    let go : Option (List Content) → Option State = λ puts. unless (put_refusal u puts e) (put puts) in
    let now : puts_of u token ≡ Some done = puts_of-from u token done refl (entry_of-push t.txn (Puts done) t.opened room.numbered) in
    let longer = length-append done (e ∷ events) in
    let own = ap length (open_of t done room.no_puts) in
    let free : put_refusal u (Some done) e ≡ None = put_free u done e room.broken (omega (arith, room.few, longer)) room.kind small.0 (omega (arith, room.room, longer, own)) in
    let pushed : put (Some done) ≡ putting t more = ap (λ (l : Opened). record u { opened = l }) (with-push t.txn (Puts done) (Puts more) t.opened room.numbered) in
    let first : go (puts_of u token) ≡ Some (putting t more) = ap go now ∙ (ap (λ r. unless r (put (Some done))) free ∙ ap (λ (x : State). Some x) pushed) in
    let whole : more ++ events ≡ done ++ e ∷ events = append_assoc done (e ∷ []) events in
    ap (λ (o : Option State). and_then o (λ next. put_all next token events)) first
    ∙ (put_goes events more t (subst (HasRoom t) (sym whole) room) small.1 ∙ ap (λ (l : List Content). Some (putting t l)) whole)

transaction_goes : (t : State) (e : Content) (events : List Content) → HasRoom t (e ∷ events) → AllByRecursion (λ x. size x ≤ 1048576) (e ∷ events) → length t.opened < 1024 → t.txn < 2 ^ 64 - 1 → next_number t + length (e ∷ events) ≤ 2 ^ 64 - 1
    → put_transaction t (e ∷ events) ≡ Some (put_staged t (e ∷ events))
transaction_goes t e events room small few txn numbers =
    let all : List Content = e ∷ events in
    let token = next_token t in
    let u : State = putting t all in
    let begun : unless (begin_refusal t) (putting t []) ≡ Some (putting t []) = ap (λ r. unless r (putting t [])) (begin_free t room.broken few txn) in
    let entry : entry_of token.number u.opened ≡ Some (Puts all) = entry_of-push t.txn (Puts all) t.opened room.numbered in
    let now : puts_of u token ≡ Some all = puts_of-from u token all refl entry in
    let free : stage_put_refusal u (puts_of u token) ≡ None = ap (stage_put_refusal u) now ∙ stage_free u all room.broken room.kind numbers in
    let done : stage token.number (entry_of token.number u.opened) u ≡ put_staged t all = ap (λ (o : Option Entry). stage token.number o u) entry ∙ ap (λ (l : Opened). record (put_staged t all) { opened = l }) (without-push t.txn (Puts all) t.opened room.numbered) in
    let staged : stage_all u token ≡ Some (put_staged t all) = ap (λ r. unless r (stage token.number (entry_of token.number u.opened) u)) free ∙ ap (λ (x : State). Some x) done in
    ap (λ (o : Option State). and_then o (λ x. and_then (put_all x token all) (λ put. stage_all put token))) begun
    ∙ (ap (λ (o : Option State). and_then o (λ put. stage_all put token)) (put_goes all [] t room small) ∙ staged)

-- what open transactions hold

held_times : (n : ℕ) (opened : Opened) → sum_of (times_in n) opened ≡ times n (taken_numbers (entries opened))
held_times n [] = refl
held_times n (o ∷ opened) = from o.1 (held_times n opened)
  where
    from : (e : Entry) → sum_of (times_in n) opened ≡ times n (taken_numbers (entries opened)) → times_in n e + sum_of (times_in n) opened ≡ times n (taken_numbers (e ∷ entries opened))
    from (Puts events) rest = omega (arith, rest)
    from (Takes numbers) rest = let both = times-append n numbers (taken_numbers (entries opened)) in omega (arith, rest, both)

same_among : (n : ℕ) (xs ys : List ℕ) → times n xs ≡ times n ys → is_among xs n ≡ is_among ys n
same_among n xs ys same = from (among_times n xs) (among_times n ys)
  where
    from : ((is_among xs n ≡ true) × (1 ≤ times n xs)) ⊎ ((is_among xs n ≡ false) × (times n xs ≡ 0)) → ((is_among ys n ≡ true) × (1 ≤ times n ys)) ⊎ ((is_among ys n ≡ false) × (times n ys ≡ 0)) → is_among xs n ≡ is_among ys n
    from (inl a) (inl b) = a.0 ∙ sym b.0
    from (inl a) (inr b) = absurd (omega (arith, same, a.1, b.1))
    from (inr a) (inl b) = absurd (omega (arith, same, a.1, b.1))
    from (inr a) (inr b) = a.0 ∙ sym b.0

-- what is left depends only on how often each number was taken
pub without_same : (xs ys : List ℕ) (items : List (ℕ × Content)) → ((n : ℕ) → times n xs ≡ times n ys) → without xs items ≡ without ys items
without_same xs ys [] same = refl
without_same xs ys (item ∷ items) same =
    ap (λ (b : Bool). cond b (without xs items) (item ∷ without xs items)) (same_among item.0 xs ys (same item.0))
    ∙ ap (λ (l : List (ℕ × Content)). cond (is_among ys item.0) l (item ∷ l)) (without_same xs ys items same)

free_same : (opened_t opened_s : Opened) (staged_t staged_s : List Entry) (items_t items_s : List (ℕ × Content)) → ((n : ℕ) → sum_of (times_in n) opened_t ≡ sum_of (times_in n) opened_s) → staged_t ≡ staged_s → items_t ≡ items_s
    → without (taken_numbers (entries opened_t) ++ taken_numbers staged_t) items_t ≡ without (taken_numbers (entries opened_s) ++ taken_numbers staged_s) items_s
free_same opened_t opened_s staged_t staged_s items_t items_s held staged items =
    ap (λ (l : List (ℕ × Content)). without (taken_numbers (entries opened_t) ++ taken_numbers staged_t) l) items
    ∙ (ap (λ (l : List Entry). without (taken_numbers (entries opened_t) ++ taken_numbers l) items_s) staged
    ∙ without_same (taken_numbers (entries opened_t) ++ taken_numbers staged_s) (taken_numbers (entries opened_s) ++ taken_numbers staged_s) items_s by_times)
  where
    by_times : (n : ℕ) → times n (taken_numbers (entries opened_t) ++ taken_numbers staged_s) ≡ times n (taken_numbers (entries opened_s) ++ taken_numbers staged_s)
    by_times n =
        let a = times-append n (taken_numbers (entries opened_t)) (taken_numbers staged_s) in
        let b = times-append n (taken_numbers (entries opened_s)) (taken_numbers staged_s) in
        let x = held_times n opened_t in
        let y = held_times n opened_s in
        omega (arith, a, b, x, y, held n)

-- a take's refusal, by what it looks at
abbrev take_with : Bool → ℕ → List ℕ → Option TakeRefused
take_with broken most numbers = cond broken (Some TakeNo.Broken) (cond (nat_le most (length numbers)) (Some (TakeNo.TxnFull (length numbers))) None)

-- a state after a stage of puts
staged_state : (s : State) (token : Token) (e : Content) (events : List Content) → entry_of token.number s.opened ≡ Some (Puts (e ∷ events))
    → stage token.number (entry_of token.number s.opened) s ≡ record s { opened = without_entry token.number s.opened; staged = s.staged ++ Puts (e ∷ events) ∷ [] }
staged_state s token e events entry = ap (λ (o : Option Entry). stage token.number o s) entry

module _ (s : State) (c : Channel) (reached : IsReached s) (is : IsHistory c.state c.journal) (agrees : Agrees c.state s) where
  abbrev t : State
  t = c.state

  fits : Fits s
  fits = reached_fits s reached

  kind : t.rules.kind ≡ OnFile
  kind = ap (λ (r : Rules). r.kind) agrees.rules ∙ fits.kind

  numbered : AreNumbered t.txn t.opened
  numbered = (sound_is t c.journal is).numbered

  stored_goes : (token : Token) (ticket : Ticket) (e : Content) (events : List Content) → t.txn < 2 ^ 64 - 1 → puts_of s token ≡ Some (e ∷ events) → Admits true s (StagePut token (Ok ticket)) → IsTaken (stored (e ∷ events) c) (after s (StagePut token (Ok ticket)))
  stored_goes token ticket e events few puts may =
      let all : List Content = e ∷ events in
      let entry : entry_of token.number s.opened ≡ Some (Puts all) = (puts_of-some s token all puts).1 in
      let allowed = stage_allows s all (ap (stage_put_refusal s) (sym puts) ∙ may.0) in
      let own = fits_of s.rules token.number s.opened (Puts all) fits.fits entry in
      let one = sum-without puts_one token.number s.opened (Puts all) entry in
      let takes = sum-without takes_one token.number s.opened (Puts all) entry in
      let both = sum_both s.opened in
      let both_t = sum_both t.opened in
      let within = reached_within s reached in
      let shown = open_events token.number s.opened all entry in
      let items = ap length agrees.items in
      let staged = ap (λ (l : List Entry). length (put_events l)) agrees.staged in
      let cap = ap (λ (r : Rules). r.limits.capacity) agrees.rules in
      let txn_cap = ap (λ (r : Rules). r.limits.txn_capacity) agrees.rules in
      let room : HasRoom t all = record {
        numbered = numbered;
        no_puts = no_events t.opened agrees.no_puts;
        broken = agrees.broken ∙ allowed.0;
        kind = kind;
        few = omega (arith, own.0, txn_cap);
        room = omega (arith, within, shown, items, staged, cap);
      } in
      let goes = transaction_goes t e events room own.1 (omega (arith, both_t, agrees.no_puts, agrees.few, both, one, fits.few)) few (omega (arith, allowed.1, agrees.first, staged)) in (
        record c { state = put_staged t all; named = c.named ++ None ∷ [] },
        ap (λ (o : Option State). and_then o (λ x. Some (record c { state = x; named = c.named ++ None ∷ [] }))) goes,
        subst (Agrees (put_staged t all)) (sym (staged_state s token e events entry)) (record {
          rules = agrees.rules;
          items = agrees.items;
          first = agrees.first;
          staged = ap (λ (l : List Entry). l ++ Puts all ∷ []) agrees.staged;
          broken = agrees.broken;
          no_puts = agrees.no_puts;
          few = omega (arith, agrees.few, takes);
          held = λ n. let held = sum-without (times_in n) token.number s.opened (Puts all) entry in omega (arith, agrees.held n, held);
        }),
      )

  settles : s.broken ≡ false → IsTaken (flushed true c) (settle s)
  settles may =
      let make : Channel = record c { state = settle t; journal = c.journal ++ t.staged } in
      let base : base_of t ≡ base_of s = ap (λ (l : List (ℕ × Content)). record { items = l; first = t.first }) agrees.items ∙ ap (λ (n : ℕ). record { items = s.items; first = n }) agrees.first in (
        make,
        ap (λ (b : Bool). only_if (not b) make) (agrees.broken ∙ may),
        record {
          rules = agrees.rules;
          items = ap (λ (b : Base). left b t.staged) base ∙ ap (left (base_of s)) agrees.staged;
          first = ap (λ (b : Base). next b t.staged) base ∙ ap (next (base_of s)) agrees.staged;
          staged = refl;
          broken = agrees.broken;
          no_puts = agrees.no_puts;
          few = agrees.few;
          held = agrees.held;
        },
      )

  settled_goes : (call : Call) → IsSettling call → Admits true s call → IsTaken (flushed true c) (after s call)
  settled_goes (Flush (Ok done)) is may = settles may
  settled_goes (Checkpoint (Ok done)) is may = settles may.0
  settled_goes (Checkpoint (Err CheckNo.CheckFault)) is may = settles may.0
  settled_goes call is may = absurd is

  breaks : Agrees (broken_state t) (broken_state s)
  breaks = record {
    rules = agrees.rules;
    items = agrees.items;
    first = agrees.first;
    staged = agrees.staged;
    broken = refl;
    no_puts = agrees.no_puts;
    few = agrees.few;
    held = agrees.held;
  }

  broken_by : s.broken ≡ false → IsTaken (flushed false c) (broken_state s)
  broken_by may =
      let make : Channel = record c { state = broken_state t } in
      (make, ap (λ (b : Bool). only_if (not b) make) (agrees.broken ∙ may), breaks)

  broken_goes : (call : Call) → IsBreaking call → Admits true s call → IsTaken (flushed false c) (after s call)
  broken_goes (Put token e (Err PutNo.DiskFault)) is may = broken_by (put_whole s (puts_of s token) e may.0)
  broken_goes (Take token (Err TakeNo.DiskFault)) is may = broken_by (take_whole s (takes_of s token) may.0)
  broken_goes (Flush (Err FlushNo.DiskFault)) is may = broken_by may.0
  broken_goes (Checkpoint (Err CheckNo.DiskFault)) is may = broken_by may.0
  broken_goes call is may = absurd is

  failed_goes : (cause : OpenCause) → Admits true s (Reopen (Err cause)) → IsTaken (failed c) (after s (Reopen (Err cause)))
  failed_goes cause may = from t.broken refl
    where
      from : (b : Bool) → t.broken ≡ b → IsTaken (Some (cond b c (record c { state = broken_state t }))) (broken_state s)
      from true is = (c, refl, subst (λ (x : State). Agrees x (broken_state s)) (ap (λ (b : Bool). record t { broken = b }) (sym is)) breaks)
      from false is = (record c { state = broken_state t }, refl, breaks)

  reopened_goes : (kept txn : ℕ) → t.life < 2 ^ 64 - 1 → Admits true s (Reopen (Ok (record { kept = Front kept; txn = txn }))) → IsTaken (reopened kept c) (after s (Reopen (Ok (record { kept = Front kept; txn = txn }))))
  reopened_goes kept txn life may =
      let make : Channel = record c { state = after_reopen t (Ok (record { kept = Front kept; txn = t.txn })); journal = c.journal ++ take kept t.staged; named = take (length c.journal + kept) c.named } in
      let size = ap (λ (l : List Entry). length l) agrees.staged in
      let test : (nat_le kept (length t.staged) && nat_lt t.life (2 ^ 64 - 1)) ≡ true = both_tests (nat_le kept (length t.staged)) (nat_lt t.life (2 ^ 64 - 1)) (le_true kept (length t.staged) (omega (arith, size, may.0.1))) (lt_true t.life (2 ^ 64 - 1) life) in
      let base : base_of t ≡ base_of s = ap (λ (l : List (ℕ × Content)). record { items = l; first = t.first }) agrees.items ∙ ap (λ (n : ℕ). record { items = s.items; first = n }) agrees.first in (
        make,
        ap (λ (b : Bool). only_if b make) test,
        record {
          rules = agrees.rules;
          items = ap (λ (b : Base). left b (take kept t.staged)) base ∙ ap (λ (l : List Entry). left (base_of s) (take kept l)) agrees.staged;
          first = ap (λ (b : Base). next b (take kept t.staged)) base ∙ ap (λ (l : List Entry). next (base_of s) (take kept l)) agrees.staged;
          staged = refl;
          broken = refl;
          no_puts = refl;
          few = omega arith;
          held = λ n. refl;
        },
      )

  begun_goes : (token : Token) → t.txn < 2 ^ 64 - 1 → Admits true s (BeginTake (Ok token)) → IsTaken (take_begun c) (after s (BeginTake (Ok token)))
  begun_goes token few may =
      let allowed = begin_allows s may.0 in
      let both = sum_both s.opened in
      let both_t = sum_both t.opened in
      let make : Channel = record c { state = after_begin (Takes []) t (Ok (next_token t)) } in
      let free = begin_free t (agrees.broken ∙ allowed.0) (omega (arith, both, both_t, agrees.no_puts, agrees.few, allowed.1)) few in
      let puts_t = sum-push puts_one t.opened (t.txn, Takes []) in
      let takes_t = sum-push takes_one t.opened (t.txn, Takes []) in
      let takes_s = sum-push takes_one s.opened (s.txn, Takes []) in (
        make,
        ap (λ r. unless r make) free,
        record {
          rules = agrees.rules;
          items = agrees.items;
          first = agrees.first;
          staged = agrees.staged;
          broken = agrees.broken;
          no_puts = omega (arith, puts_t, agrees.no_puts);
          few = omega (arith, takes_t, takes_s, agrees.few);
          held = λ n. let held_t = sum-push (times_in n) t.opened (t.txn, Takes []) in let held_s = sum-push (times_in n) s.opened (s.txn, Takes []) in omega (arith, held_t, held_s, agrees.held n);
        },
      )

  -- two open takes of the same numbers end
  module _ (own token : Token) (numbers : List ℕ) (mine : entry_of own.number t.opened ≡ Some (Takes numbers)) (its : entry_of token.number s.opened ≡ Some (Takes numbers)) where
    ended : (staged_t staged_s : List Entry) → staged_t ≡ staged_s → Agrees (record t { opened = without_entry own.number t.opened; staged = staged_t }) (record s { opened = without_entry token.number s.opened; staged = staged_s })
    ended staged_t staged_s same =
        let puts_t = sum-without puts_one own.number t.opened (Takes numbers) mine in
        let takes_t = sum-without takes_one own.number t.opened (Takes numbers) mine in
        let takes_s = sum-without takes_one token.number s.opened (Takes numbers) its in
        record {
          rules = agrees.rules;
          items = agrees.items;
          first = agrees.first;
          staged = same;
          broken = agrees.broken;
          no_puts = omega (arith, puts_t, agrees.no_puts);
          few = omega (arith, takes_t, takes_s, agrees.few);
          held = λ n. let held_t = sum-without (times_in n) own.number t.opened (Takes numbers) mine in let held_s = sum-without (times_in n) token.number s.opened (Takes numbers) its in omega (arith, held_t, held_s, agrees.held n);
        }

    staged_both : Agrees (stage own.number (entry_of own.number t.opened) t) (stage token.number (entry_of token.number s.opened) s)
    staged_both =
        subst (λ (o : Option Entry). Agrees (stage own.number o t) (stage token.number (entry_of token.number s.opened) s)) (sym mine)
        (subst (λ (o : Option Entry). Agrees (stage own.number (Some (Takes numbers)) t) (stage token.number o s)) (sym its) (from numbers ended))
      where
        from : (ns : List ℕ) → ((staged_t staged_s : List Entry) → staged_t ≡ staged_s → Agrees (record t { opened = without_entry own.number t.opened; staged = staged_t }) (record s { opened = without_entry token.number s.opened; staged = staged_s }))
            → Agrees (stage own.number (Some (Takes ns)) t) (stage token.number (Some (Takes ns)) s)
        from [] rest = rest t.staged s.staged agrees.staged
        from (n ∷ ns) rest = rest (t.staged ++ Takes (n ∷ ns) ∷ []) (s.staged ++ Takes (n ∷ ns) ∷ []) (ap (λ (l : List Entry). l ++ Takes (n ∷ ns) ∷ []) agrees.staged)

    -- both take one more number
    more_both : (k : ℕ) → Agrees (record t { opened = with_entry own.number (Takes (numbers ++ k ∷ [])) t.opened }) (record s { opened = with_entry token.number (Takes (numbers ++ k ∷ [])) s.opened })
    more_both k =
        let new : Entry = Takes (numbers ++ k ∷ []) in
        let puts_t = sum-with puts_one own.number t.opened (Takes numbers) new mine in
        let takes_t = sum-with takes_one own.number t.opened (Takes numbers) new mine in
        let takes_s = sum-with takes_one token.number s.opened (Takes numbers) new its in
        record {
          rules = agrees.rules;
          items = agrees.items;
          first = agrees.first;
          staged = agrees.staged;
          broken = agrees.broken;
          no_puts = omega (arith, puts_t, agrees.no_puts);
          few = omega (arith, takes_t, takes_s, agrees.few);
          held = λ n. let held_t = sum-with (times_in n) own.number t.opened (Takes numbers) new mine in let held_s = sum-with (times_in n) token.number s.opened (Takes numbers) new its in omega (arith, held_t, held_s, agrees.held n);
        }

  takes_both : (token own : Token) (numbers : List ℕ) → takes_of t own ≡ takes_of s token → takes_of s token ≡ Some numbers → (entry_of own.number t.opened ≡ Some (Takes numbers)) × (entry_of token.number s.opened ≡ Some (Takes numbers))
  takes_both token own numbers same has = ((takes_of-some t own numbers (same ∙ has)).1, (takes_of-some s token numbers has).1)

  committed_goes : (token own : Token) (ticket : Ticket) (delivery : Delivery) (events : List Content) → takes_of t own ≡ takes_of s token → Admits true s (StageTake token (Ok ticket)) → IsTaken (committed own delivery events c) (after s (StageTake token (Ok ticket)))
  committed_goes token own ticket delivery events same may = from (takes_of s token) refl may.0
    where
      make : Channel
      make = record c { state = stage own.number (entry_of own.number t.opened) t; named = cond (is_empty events) c.named (c.named ++ Some delivery ∷ []) }

      whole : (numbers : List ℕ) → s.broken ≡ false → stage_take_refusal t (Some numbers) ≡ None
      whole numbers broken = cond_false t.broken _ _ None (agrees.broken ∙ broken) refl

      not_broken : (b : Bool) (numbers : List ℕ) → s.broken ≡ b → stage_take_refusal s (Some numbers) ≡ None → s.broken ≡ false
      not_broken true numbers is none = let bad : Some StageNo.Broken ≡ None = ap (λ (b : Bool). cond b (Some StageNo.Broken) None) (sym is) ∙ none in absurd (cc)
      not_broken false numbers is none = is

      from : (takes : Option (List ℕ)) → takes_of s token ≡ takes → stage_take_refusal s (takes_of s token) ≡ None → IsTaken (committed own delivery events c) (after s (StageTake token (Ok ticket)))
      from None has none = let bad : stage_take_refusal s None ≡ None = ap (stage_take_refusal s) (sym has) ∙ none in absurd (cc)
      from (Some numbers) has none =
          let both = takes_both token own numbers same has in
          let broken = not_broken s.broken numbers refl (ap (stage_take_refusal s) (sym has) ∙ none) in
          (make, ap (λ r. unless r make) (ap (stage_take_refusal t) (same ∙ has) ∙ whole numbers broken), staged_both own token numbers both.0 both.1)

  given_up_goes : (token own : Token) → takes_of t own ≡ takes_of s token → Admits true s (RollbackTake token true) → IsTaken (given_up own c) (after s (RollbackTake token true))
  given_up_goes token own same may = from (takes_of s token) refl may
    where
      from : (takes : Option (List ℕ)) → takes_of s token ≡ takes → true ≡ is_some_of (takes_of s token) → IsTaken (given_up own c) (after s (RollbackTake token true))
      from None has some = let bad : true ≡ false = some ∙ ap is_some_of has in absurd (cc)
      from (Some numbers) has some =
          let both = takes_both token own numbers same has in
          let open_one : is_some_of (takes_of t own) ≡ true = ap is_some_of (same ∙ has) in
          (record c { state = close own.number t }, ap (λ (b : Bool). Some (record c { state = cond b (close own.number t) t })) open_one, ended own token numbers both.0 both.1 t.staged s.staged agrees.staged)

  taken_goes : (token own : Token) (e : Content) → takes_of t own ≡ takes_of s token → Admits true s (Take token (Ok (record { event = Some e; spilled = false }))) → IsTakenFrom (taken own c) e own (after s (Take token (Ok (record { event = Some e; spilled = false })))) token
  taken_goes token own e same may = from (takes_of s token) refl may.0 (free s) refl may.1
    where
      reply : Result Taken TakeRefused
      reply = Ok (record { event = Some e; spilled = false })

      make : Option (List ℕ) → List (ℕ × Content) → Content → Channel × Content
      make takes items x = (record c { state = after_take t own takes items (Ok (record { event = Some x; spilled = false })) }, x)

      -- what is free is the same
      same_free : free t ≡ free s
      same_free = free_same t.opened s.opened t.staged s.staged t.items s.items agrees.held agrees.staged agrees.items

      refusal : (numbers : List ℕ) → take_refusal s (Some numbers) ≡ None → take_refusal t (Some numbers) ≡ None
      refusal numbers none = ap (λ (b : Bool). take_with b t.rules.limits.txn_capacity numbers) agrees.broken ∙ (ap (λ (r : Rules). take_with s.broken r.limits.txn_capacity numbers) agrees.rules ∙ none)

      from : (takes : Option (List ℕ)) → takes_of s token ≡ takes → take_refusal s (takes_of s token) ≡ None → (items : List (ℕ × Content)) → free s ≡ items → Some e ≡ first_event (free s)
          → IsTakenFrom (taken own c) e own (after s (Take token reply)) token
      from None has none items is gives = let bad : take_refusal s None ≡ None = ap (take_refusal s) (sym has) ∙ none in absurd (cc)
      from (Some numbers) has none [] is gives = let bad : Some e ≡ None = gives ∙ ap first_event is in absurd (cc)
      from (Some numbers) has none (item ∷ items) is gives =
          let both = takes_both token own numbers same has in
          let new : Entry = Takes (numbers ++ item.0 ∷ []) in
          let free_t : free t ≡ item ∷ items = same_free ∙ is in
          let first : first_event (free t) ≡ Some e = ap first_event same_free ∙ sym gives in
          let next_t : State = record t { opened = with_entry own.number new t.opened } in
          let next_s : State = record s { opened = with_entry token.number new s.opened } in
          let there : next_s ≡ after s (Take token reply) =
          ap (λ (l : List (ℕ × Content)). add_take s token.number (Some numbers) l) (sym is) ∙ ap (λ (p : Option (List ℕ)). add_take s token.number p (free s)) (sym has) in
          let mine : takes_of t own ≡ Some numbers = same ∙ has in
          let step : taken own c ≡ Some (record c { state = next_t }, e) =
          ap (λ (o : Option Content). and_then o (λ x. unless (take_refusal t (takes_of t own)) (make (takes_of t own) (free t) x))) first
          ∙ (ap (λ r. unless r (make (takes_of t own) (free t) e)) (ap (take_refusal t) mine ∙ refusal numbers (ap (take_refusal s) (sym has) ∙ none))
          ∙ (ap (λ (p : Option (List ℕ)). Some (make p (free t) e)) mine ∙ ap (λ (l : List (ℕ × Content)). Some (make (Some numbers) l e)) free_t)) in
          let alive_t = (takes_of-some t own numbers mine).0 in
          let alive_s = (takes_of-some s token numbers has).0 in
          let now_t : takes_of next_t own ≡ Some (numbers ++ item.0 ∷ []) = takes_of-from next_t own (numbers ++ item.0 ∷ []) alive_t (entry_of-with own.number t.opened (Takes numbers) new both.0) in
          let now_s : takes_of next_s token ≡ Some (numbers ++ item.0 ∷ []) = takes_of-from next_s token (numbers ++ item.0 ∷ []) alive_s (entry_of-with token.number s.opened (Takes numbers) new both.1) in (
            record c { state = next_t },
            step,
            subst (Agrees next_t) there (more_both own token numbers both.0 both.1 item.0),
            now_t ∙ (sym now_s ∙ ap (λ (x : State). takes_of x token) there),
          )

  -- a transaction of puts ends
  puts_end : (number : ℕ) (events : List Content) → entry_of number s.opened ≡ Some (Puts events) → Agrees t (close number s)
  puts_end number events entry =
      let takes = sum-without takes_one number s.opened (Puts events) entry in
      record {
        rules = agrees.rules;
        items = agrees.items;
        first = agrees.first;
        staged = agrees.staged;
        broken = agrees.broken;
        no_puts = agrees.no_puts;
        few = omega (arith, takes, agrees.few);
        held = λ n. let held = sum-without (times_in n) number s.opened (Puts events) entry in omega (arith, held, agrees.held n);
      }

  empty_ends : (number : ℕ) → entry_of number s.opened ≡ Some (Puts []) → Agrees t (stage number (entry_of number s.opened) s)
  empty_ends number entry = subst (λ (o : Option Entry). Agrees t (stage number o s)) (sym entry) (puts_end number [] entry)

  put_same : (token : Token) (e : Content) (refused : PutRefused) → IsNoStep s (Put token e (Err refused)) → Agrees t (after s (Put token e (Err refused)))
  put_same token e PutNo.DiskFault is = absurd is
  put_same token e refused is = agrees

  take_same : (token : Token) (refused : TakeRefused) → IsNoStep s (Take token (Err refused)) → Agrees t (after s (Take token (Err refused)))
  take_same token TakeNo.DiskFault is = absurd is
  take_same token refused is = agrees

  none_taken : (event : Option Content) (spilled : Bool) (takes : Option (List ℕ)) (items : List (ℕ × Content)) (number : ℕ) → event ≡ None → event ≡ first_event items → SpillsNone event spilled → Agrees t (add_take (settle_if spilled s) number takes items)
  none_taken (Some e) spilled takes items number none gives quiet = absurd (cc)
  none_taken None spilled takes (item ∷ items) number none gives quiet = absurd (cc)
  none_taken None spilled None [] number none gives quiet = subst (λ (b : Bool). Agrees t (settle_if b s)) (sym quiet) agrees
  none_taken None spilled (Some numbers) [] number none gives quiet = subst (λ (b : Bool). Agrees t (settle_if b s)) (sym quiet) agrees

  no_step_goes : (call : Call) → IsNoStep s call → Admits true s call → Agrees t (after s call)
  no_step_goes (BeginPut (Err refused)) is may = agrees
  no_step_goes (BeginTake (Err refused)) is may = agrees
  no_step_goes (BeginTake (Ok token)) is may = absurd is
  no_step_goes (Put token e (Err refused)) is may = put_same token e refused is
  no_step_goes (Take token (Ok got)) is may = none_taken got.event got.spilled (takes_of s token) (free s) token.number is may.1 may.3
  no_step_goes (Take token (Err refused)) is may = take_same token refused is
  no_step_goes (StagePut token (Ok ticket)) is may = empty_ends token.number (puts_of-some s token [] is).1
  no_step_goes (StagePut token (Err cause)) is may = agrees
  no_step_goes (StageTake token (Ok ticket)) is may = absurd is
  no_step_goes (StageTake token (Err cause)) is may = agrees
  no_step_goes (Flush (Ok done)) is may = absurd is
  no_step_goes (Flush (Err FlushNo.Broken)) is may = agrees
  no_step_goes (Flush (Err FlushNo.DiskFault)) is may = absurd is
  no_step_goes (Flush (Err (FlushNo.Spent counter))) is may = absurd is
  no_step_goes (RollbackTake token false) is may = agrees
  no_step_goes (RollbackTake token true) is may = absurd is
  no_step_goes (Checkpoint (Ok done)) is may = absurd is
  no_step_goes (Checkpoint (Err CheckNo.Broken)) is may = agrees
  no_step_goes (Checkpoint (Err (CheckNo.Spent counter))) is may = agrees
  no_step_goes (Checkpoint (Err CheckNo.CheckFault)) is may = absurd is
  no_step_goes (Checkpoint (Err CheckNo.DiskFault)) is may = absurd is
  no_step_goes (Prune reply) is may = agrees
  no_step_goes (Reopen reply) is may = absurd is
  no_step_goes (BeginPut (Ok token)) is may =
      let takes = sum-push takes_one s.opened (s.txn, Puts []) in
      record {
        rules = agrees.rules;
        items = agrees.items;
        first = agrees.first;
        staged = agrees.staged;
        broken = agrees.broken;
        no_puts = agrees.no_puts;
        few = omega (arith, takes, agrees.few);
        held = λ n. let held = sum-push (times_in n) s.opened (s.txn, Puts []) in omega (arith, held, agrees.held n);
      }
  no_step_goes (Put token e (Ok done)) is may =
      let a = put_allows s (puts_of s token) e fits.kind may.0 in
      let entry = (puts_of-some s token a.0 a.1).1 in
      let new : Entry = Puts (a.0 ++ e ∷ []) in
      let takes = sum-with takes_one token.number s.opened (Puts a.0) new entry in
      let there : record s { opened = with_entry token.number new s.opened } ≡ after s (Put token e (Ok done)) =
      ap (λ (b : Bool). add_put (settle_if b s) token.number (Some a.0) e) (sym is) ∙ ap (λ (p : Option (List Content)). add_put (settle_if done.spilled s) token.number p e) (sym a.1) in
      subst (Agrees t) there (record {
        rules = agrees.rules;
        items = agrees.items;
        first = agrees.first;
        staged = agrees.staged;
        broken = agrees.broken;
        no_puts = agrees.no_puts;
        few = omega (arith, takes, agrees.few);
        held = λ n. let held = sum-with (times_in n) token.number s.opened (Puts a.0) new entry in omega (arith, held, agrees.held n);
      })
  no_step_goes (RollbackPut token false) is may = agrees
  no_step_goes (RollbackPut token true) is may = from (puts_of s token) refl may
    where
      from : (puts : Option (List Content)) → puts_of s token ≡ puts → true ≡ is_some_of (puts_of s token) → Agrees t (close token.number s)
      from None has some = let bad : true ≡ false = some ∙ ap is_some_of has in absurd (cc)
      from (Some events) has some = puts_end token.number events (puts_of-some s token events has).1

  -- Each call that is a step can be taken, and the two agree again.
  pub calls_are_taken : CallsAreTaken s c
  calls_are_taken = record {
    stored = stored_goes;
    settled = settled_goes;
    broken = broken_goes;
    begun = begun_goes;
    taken = taken_goes;
    committed = committed_goes;
    given_up = given_up_goes;
    reopened = reopened_goes;
    failed = failed_goes;
    no_step = no_step_goes;
  }
