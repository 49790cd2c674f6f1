-- The events of a channel stay within its capacity.
use Rattle.std.proofs.Common.{◌≡◌, ◌≤◌, ◌+◌, ◌-◌, ◌^◌, ◌++◌, ◌∷◌, [], ℕ, zero, suc, List, length, length-append, take, Option, Some, None, Result, Ok, Err, Bool, true, false, ◌==◌, nat_lt, cond, refl, sym, ◌∙◌, ap, subst, arith}
use Rattle.std.proofs.lemmas.Bool.Decides.{nat_tests}
use Rattle.std.proofs.lemmas.List.{append-nil}
use Rattle.event_core.specs.Content.{Content}
use Rattle.event_core.specs.Journal.{Base, put_events, taken_numbers, is_among, without, numbered, left}
use Rattle.event_core.specs.declared.journal.Entry.{Entry}
use Rattle.event_core.specs.declared.journal.Entry.TheVariants.{Puts, Takes}
use Rattle.channel_face.specs.Token.{Token}
use Rattle.channel_face.specs.Machine.{State, Rules, Call, BeginPut, BeginTake, Put, Take, StagePut, StageTake, Flush, RollbackPut, RollbackTake, Checkpoint, Prune, Reopen, Kept, Front, Read, Admits, after, base_of, entries, entry_of, with_entry, without_entry, puts_of, takes_of, free, settle, settle_if, close, stage, add_put, add_take, after_put, after_take, after_begin, after_reopen, broken_state, put_refusal, take_refusal, size_refusal, room_refusal, stage_put_refusal, stage_take_refusal, or_else, next_number}
use Rattle.channel_face.specs.History.{Step, Opening, opening, IsRun, state_after}
use Rattle.channel_face.specs.Laws.{KeepsFront, IsFront, ReadsNone, limited}
use Rattle.channel_face.specs.declared.replies.Kind.{Kind}
use Rattle.channel_face.specs.declared.replies.Kind.TheVariants.{File as OnFile, Memory as InMemory}
use Rattle.channel_face.specs.declared.replies.Put.{Put as PutDone}
use Rattle.channel_face.specs.declared.replies.PutRefused.TheVariants as PutNo
use Rattle.channel_face.specs.declared.replies.Taken.{Taken}
use Rattle.channel_face.specs.declared.replies.TakeRefused.TheVariants as TakeNo
use Rattle.channel_face.specs.declared.replies.StageCause.{StageCause}
use Rattle.channel_face.specs.declared.replies.StageCause.TheVariants as StageNo
use Rattle.channel_face.specs.declared.replies.Counter.TheVariants.{Number}
use Rattle.channel_face.specs.declared.replies.BeginRefused.{BeginRefused}
use Rattle.channel_face.specs.declared.replies.FlushRefused.TheVariants as FlushNo
use Rattle.channel_face.specs.declared.replies.CheckRefused.TheVariants as CheckNo
use Rattle.channel_face.proofs.Numbers.{put_events-append}
use Rattle.channel_face.specs.Sound.{Opened}
use Rattle.channel_face.proofs.Opened.{entries-append, puts_of-some, takes_of-some}

size-append : (a b : List Entry) → length (put_events (a ++ b)) ≡ length (put_events a) + length (put_events b)
size-append a b = ap (λ (l : List Content). length l) (put_events-append a b) ∙ length-append (put_events a) (put_events b)

size-cons : (e : Entry) (rest : List Entry) → length (put_events (e ∷ rest)) ≡ length (put_events (e ∷ [])) + length (put_events rest)
size-cons e rest = size-append (e ∷ []) rest

some_same : (a b : Entry) → Some a ≡ Some b → a ≡ b
some_same a b is = cc

-- how many events the open transactions put
abbrev pub open_size : Opened → ℕ
open_size opened = length (put_events (entries opened))

open-with : (number : ℕ) (opened : Opened) (old new : Entry) → entry_of number opened ≡ Some old → open_size (with_entry number new opened) + length (put_events (old ∷ [])) ≡ open_size opened + length (put_events (new ∷ []))
open-with number [] old new is = absurd (cc)
open-with number (o ∷ opened) old new is = by_test (o.0 == number) refl (open-with number opened old new)
  where
    by_test : (t : Bool) → (o.0 == number) ≡ t → (entry_of number opened ≡ Some old → open_size (with_entry number new opened) + length (put_events (old ∷ [])) ≡ open_size opened + length (put_events (new ∷ [])))
        → open_size (cond (o.0 == number) ((o.0, new) ∷ opened) (o ∷ with_entry number new opened)) + length (put_events (old ∷ [])) ≡ open_size (o ∷ opened) + length (put_events (new ∷ []))
    by_test true t_is more =
        let same : o.1 ≡ old = some_same o.1 old (rw t_is at is) in
        rw t_is (omega (arith, size-cons new (entries opened), size-cons o.1 (entries opened), ap (λ (e : Entry). length (put_events (e ∷ []))) same))
    by_test false t_is more =
        rw t_is (omega (arith, size-cons o.1 (entries opened), size-cons o.1 (entries (with_entry number new opened)), more (rw t_is at is)))

open-without : (number : ℕ) (opened : Opened) (old : Entry) → entry_of number opened ≡ Some old → open_size (without_entry number opened) + length (put_events (old ∷ [])) ≡ open_size opened
open-without number [] old is = absurd (cc)
open-without number (o ∷ opened) old is = by_test (o.0 == number) refl (open-without number opened old)
  where
    by_test : (t : Bool) → (o.0 == number) ≡ t → (entry_of number opened ≡ Some old → open_size (without_entry number opened) + length (put_events (old ∷ [])) ≡ open_size opened)
        → open_size (cond (o.0 == number) opened (o ∷ without_entry number opened)) + length (put_events (old ∷ [])) ≡ open_size (o ∷ opened)
    by_test true t_is more =
        let same : o.1 ≡ old = some_same o.1 old (rw t_is at is) in
        rw t_is (omega (arith, size-cons o.1 (entries opened), ap (λ (e : Entry). length (put_events (e ∷ []))) same))
    by_test false t_is more =
        rw t_is (omega (arith, size-cons o.1 (entries opened), size-cons o.1 (entries (without_entry number opened)), more (rw t_is at is)))

open-fewer : (number : ℕ) (opened : Opened) → open_size (without_entry number opened) ≤ open_size opened
open-fewer number [] = omega arith
open-fewer number (o ∷ opened) = by_test (o.0 == number) (open-fewer number opened)
  where
    by_test : (t : Bool) → open_size (without_entry number opened) ≤ open_size opened → open_size (cond t opened (o ∷ without_entry number opened)) ≤ open_size (o ∷ opened)
    by_test true more = omega (arith, size-cons o.1 (entries opened))
    by_test false more = omega (arith, more, size-cons o.1 (entries opened), size-cons o.1 (entries (without_entry number opened)))

-- its rules are these, and it has no more events than its capacity
abbrev pub IsWithin : Rules → State → Type 0
IsWithin r s = (s.rules ≡ r) × (limited s.rules.kind s ≤ s.rules.limits.capacity)

abbrev pub lasting_size : State → ℕ
lasting_size s = length s.items + length (put_events s.staged)

no_more : (k : Kind) (s t : State) → lasting_size t ≤ lasting_size s → open_size t.opened ≤ open_size s.opened → limited k t ≤ limited k s
no_more OnFile s t lasting open_ones = omega (arith, lasting, open_ones)
no_more InMemory s t lasting open_ones = lasting

-- a state with the same rules and no more events
stays : (r : Rules) (s t : State) → t.rules ≡ s.rules → IsWithin r s → lasting_size t ≤ lasting_size s → open_size t.opened ≤ open_size s.opened → IsWithin r t
stays r s t rules within lasting open_ones =
    let fits : limited s.rules.kind t ≤ s.rules.limits.capacity = omega (arith, no_more s.rules.kind s t lasting open_ones, within.1) in
    (rules ∙ within.0, subst (λ (q : Rules). limited q.kind t ≤ q.limits.capacity) (sym rules) fits)

-- numbered events are as many as the events
pub length-numbered : (first : ℕ) (events : List Content) → length (numbered first events) ≡ length events
length-numbered first [] = refl
length-numbered first (event ∷ events) = omega (arith, length-numbered (first + 1) events)

no_longer : (b : Bool) (item : ℕ × Content) (xs ys : List (ℕ × Content)) → length xs ≤ length ys → length (cond b xs (item ∷ xs)) ≤ length (item ∷ ys)
no_longer true item xs ys le = omega (arith, le)
no_longer false item xs ys le = omega (arith, le)

fewer_left : (numbers : List ℕ) (items : List (ℕ × Content)) → length (without numbers items) ≤ length items
fewer_left numbers [] = omega arith
fewer_left numbers (item ∷ items) = no_longer (is_among numbers item.0) item (without numbers items) items (fewer_left numbers items)

-- a journal leaves no more events than there were and it puts
pub left_size : (base : Base) (journal : List Entry) → length (left base journal) ≤ length base.items + length (put_events journal)
left_size base journal =
    let all : List (ℕ × Content) = base.items ++ numbered base.first (put_events journal) in
    omega (arith, fewer_left (taken_numbers journal) all, length-append base.items (numbered base.first (put_events journal)), length-numbered base.first (put_events journal))

within_settle : (r : Rules) (s : State) → IsWithin r s → IsWithin r (settle s)
within_settle r s within = stays r s (settle s) refl within (omega (arith, left_size (base_of s) s.staged)) (omega arith)

within_settle_if : (r : Rules) (b : Bool) (s : State) → IsWithin r s → IsWithin r (settle_if b s)
within_settle_if r true s within = within_settle r s within
within_settle_if r false s within = within

within_close : (r : Rules) (number : ℕ) (s : State) → IsWithin r s → IsWithin r (close number s)
within_close r number s within = stays r s (close number s) refl within (omega arith) (open-fewer number s.opened)

within_broken : (r : Rules) (s : State) → IsWithin r s → IsWithin r (broken_state s)
within_broken r s within = stays r s (broken_state s) refl within (omega arith) (omega arith)

within_begun : (r : Rules) (entry : Entry) (s : State) (reply : Result Token BeginRefused) → length (put_events (entry ∷ [])) ≡ 0 → IsWithin r s → IsWithin r (after_begin entry s reply)
within_begun r entry s (Err e) none within = within
within_begun r entry s (Ok token) none within =
    let more : open_size (s.opened ++ (s.txn, entry) ∷ []) ≡ open_size s.opened + length (put_events (entry ∷ [])) = ap (λ (l : List Entry). length (put_events l)) (entries-append s.opened ((s.txn, entry) ∷ [])) ∙ size-append (entries s.opened) (entry ∷ []) in
    stays r s (record s { opened = s.opened ++ (s.txn, entry) ∷ []; txn = s.txn + 1 }) refl within (omega arith) (omega (arith, more, none))

-- a put that is not refused finds room for one event more, where open puts count
room_for_one : (k : Kind) (s : State) (event : Content) → size_refusal k s event ≡ None → limited k s ≤ s.rules.limits.capacity → (t : State) → lasting_size t ≤ lasting_size s → open_size t.opened ≤ open_size s.opened + 1 → limited k t ≤ s.rules.limits.capacity
room_for_one OnFile s event none within t lasting open_ones = grind (arith, nat_tests)
room_for_one InMemory s event none within t lasting open_ones = omega (arith, lasting, within)

settled_rules : (b : Bool) (s : State) → (settle_if b s).rules ≡ s.rules
settled_rules true s = refl
settled_rules false s = refl

settled_opened : (b : Bool) (s : State) → (settle_if b s).opened ≡ s.opened
settled_opened true s = refl
settled_opened false s = refl

settled_size : (b : Bool) (s : State) → lasting_size (settle_if b s) ≤ lasting_size s
settled_size true s = omega (arith, left_size (base_of s) s.staged)
settled_size false s = omega arith

-- one event more in an open transaction
put_one : (r : Rules) (s t : State) (number : ℕ) (events : List Content) (event : Content) → t.rules ≡ s.rules → lasting_size t ≤ lasting_size s → t.opened ≡ s.opened
    → entry_of number s.opened ≡ Some (Puts events) → size_refusal s.rules.kind s event ≡ None → IsWithin r s → IsWithin r (add_put t number (Some events) event)
put_one r s t number events event rules lasting same is none within =
    let new : Entry = Puts (events ++ event ∷ []) in
    let more : length ((events ++ event ∷ []) ++ []) ≡ length (events ++ []) + 1 = omega (arith, length-append (events ++ event ∷ []) [], length-append events (event ∷ []), length-append events []) in
    let open_ones : open_size (with_entry number new t.opened) ≤ open_size s.opened + 1 = rw same (omega (arith, open-with number s.opened (Puts events) new is, more)) in
    let fits : limited s.rules.kind (add_put t number (Some events) event) ≤ s.rules.limits.capacity = room_for_one s.rules.kind s event none within.1 (add_put t number (Some events) event) lasting open_ones in
    (rules ∙ within.0, subst (λ (q : Rules). limited q.kind (add_put t number (Some events) event) ≤ q.limits.capacity) (sym rules) fits)

put_allows : (s : State) (puts : Option (List Content)) (event : Content) → put_refusal s puts event ≡ None → (events : List Content) × (puts ≡ Some events) × (size_refusal s.rules.kind s event ≡ None)
put_allows s None event none = absurd (cc)
put_allows s (Some events) event none = (events, refl, grind (arith, nat_tests))

within_put : (r : Rules) (s : State) (token : Token) (event : Content) (done : PutDone) → put_refusal s (puts_of s token) event ≡ None → IsWithin r s → IsWithin r (after_put s token (puts_of s token) event (Ok done))
within_put r s token event done none within =
    let allowed = put_allows s (puts_of s token) event none in
    let b : Bool = done.spilled in
    subst (λ (puts : Option (List Content)). IsWithin r (add_put (settle_if b s) token.number puts event)) (sym allowed.1)
    (put_one r s (settle_if b s) token.number allowed.0 event (settled_rules b s) (settled_size b s) (settled_opened b s) (puts_of-some s token allowed.0 allowed.1).1 allowed.2 within)

take_one : (r : Rules) (t : State) (number : ℕ) (numbers : List ℕ) (items : List (ℕ × Content)) → entry_of number t.opened ≡ Some (Takes numbers) → IsWithin r t → IsWithin r (add_take t number (Some numbers) items)
take_one r t number numbers [] is within = within
take_one r t number numbers (item ∷ items) is within =
    let new : Entry = Takes (numbers ++ item.0 ∷ []) in
    stays r t (record t { opened = with_entry number new t.opened }) refl within (omega arith) (omega (arith, open-with number t.opened (Takes numbers) new is))

take_allows : (s : State) (takes : Option (List ℕ)) → take_refusal s takes ≡ None → (numbers : List ℕ) × (takes ≡ Some numbers)
take_allows s None none = absurd (cc)
take_allows s (Some numbers) none = (numbers, refl)

within_take : (r : Rules) (s : State) (token : Token) (taken : Taken) → take_refusal s (takes_of s token) ≡ None → IsWithin r s → IsWithin r (after_take s token (takes_of s token) (free s) (Ok taken))
within_take r s token taken none within =
    let allowed = take_allows s (takes_of s token) none in
    let b : Bool = taken.spilled in
    subst (λ (takes : Option (List ℕ)). IsWithin r (add_take (settle_if b s) token.number takes (free s))) (sym allowed.1)
    (take_one r (settle_if b s) token.number allowed.0 (free s) (ap (λ (o : Opened). entry_of token.number o) (settled_opened b s) ∙ (takes_of-some s token allowed.0 allowed.1).1) (within_settle_if r b s within))

-- what is staged next finds room, where open puts do not count
room_for_list : (k : Kind) (s : State) (size : ℕ) → room_refusal k s size ≡ None → limited k s ≤ s.rules.limits.capacity → (t : State) → lasting_size t ≤ lasting_size s + size → open_size t.opened + size ≤ open_size s.opened → limited k t ≤ s.rules.limits.capacity
room_for_list OnFile s size none within t lasting open_ones = omega (arith, lasting, open_ones, within)
room_for_list InMemory s size none within t lasting open_ones = grind (arith, nat_tests)

stage_one : (r : Rules) (s : State) (number : ℕ) (entry : Entry) → entry_of number s.opened ≡ Some entry → room_refusal s.rules.kind s (length (put_events (entry ∷ []))) ≡ None → IsWithin r s
    → IsWithin r (record s { opened = without_entry number s.opened; staged = s.staged ++ entry ∷ [] })
stage_one r s number entry is none within = (
  within.0,
  room_for_list s.rules.kind s (length (put_events (entry ∷ []))) none within.1 (record s { opened = without_entry number s.opened; staged = s.staged ++ entry ∷ [] })
      (omega (arith, size-append s.staged (entry ∷ []))) (omega (arith, open-without number s.opened entry is)),
)

within_stage : (r : Rules) (s : State) (number : ℕ) (entry : Option Entry) → entry_of number s.opened ≡ entry → ((e : Entry) → entry ≡ Some e → room_refusal s.rules.kind s (length (put_events (e ∷ []))) ≡ None) → IsWithin r s → IsWithin r (stage number entry s)
within_stage r s number None is room within = within
within_stage r s number (Some (Puts [])) is room within = within_close r number s within
within_stage r s number (Some (Takes [])) is room within = within_close r number s within
within_stage r s number (Some (Puts (e ∷ es))) is room within = stage_one r s number (Puts (e ∷ es)) is (room (Puts (e ∷ es)) refl) within
within_stage r s number (Some (Takes (n ∷ ns))) is room within = stage_one r s number (Takes (n ∷ ns)) is (room (Takes (n ∷ ns)) refl) within

left_none : (a b : Option StageCause) → or_else a b ≡ None → a ≡ None
left_none None b none = refl
left_none (Some cause) b none = none

stage_allows : (s : State) (puts : Option (List Content)) → stage_put_refusal s puts ≡ None → (events : List Content) × (puts ≡ Some events) × (room_refusal s.rules.kind s (length events) ≡ None)
stage_allows s None none = absurd (cc)
stage_allows s (Some events) none = (events, refl, by_broken s.broken none)
  where
    rest : Option StageCause
    rest = cond (nat_lt (2 ^ 64 - 1) (next_number s + length events)) (Some (StageNo.Spent Number)) None

    by_broken : (t : Bool) → cond t (Some StageNo.Broken) (or_else (room_refusal s.rules.kind s (length events)) rest) ≡ None → room_refusal s.rules.kind s (length events) ≡ None
    by_broken true none = absurd (cc)
    by_broken false none = left_none (room_refusal s.rules.kind s (length events)) rest none

stage_take_allows : (s : State) (takes : Option (List ℕ)) → stage_take_refusal s takes ≡ None → (numbers : List ℕ) × (takes ≡ Some numbers)
stage_take_allows s None none = absurd (cc)
stage_take_allows s (Some numbers) none = (numbers, refl)

room_for_none : (k : Kind) (s : State) → limited k s ≤ s.rules.limits.capacity → room_refusal k s 0 ≡ None
room_for_none OnFile s within = refl
room_for_none InMemory s within = grind (arith, nat_tests)

entry_same : (entry : Option Entry) (a b : Entry) → entry ≡ Some a → entry ≡ Some b → a ≡ b
entry_same entry a b is also = some_same a b (sym is ∙ also)

within_stage_put : (r : Rules) (s : State) (token : Token) → stage_put_refusal s (puts_of s token) ≡ None → IsWithin r s → IsWithin r (stage token.number (entry_of token.number s.opened) s)
within_stage_put r s token none within = within_stage r s token.number (entry_of token.number s.opened) refl room within
  where
    room : (e : Entry) → entry_of token.number s.opened ≡ Some e → room_refusal s.rules.kind s (length (put_events (e ∷ []))) ≡ None
    room e is =
        let allowed = stage_allows s (puts_of s token) none in
        let events : List Content = allowed.0 in
        let same : Puts events ≡ e = entry_same (entry_of token.number s.opened) (Puts events) e (puts_of-some s token events allowed.1).1 is in
        let size : length (put_events (Puts events ∷ [])) ≡ length events = ap (λ (l : List Content). length l) (append-nil events) in
        subst (λ (x : Entry). room_refusal s.rules.kind s (length (put_events (x ∷ []))) ≡ None) same (rw size allowed.2)

within_stage_take : (r : Rules) (s : State) (token : Token) → stage_take_refusal s (takes_of s token) ≡ None → IsWithin r s → IsWithin r (stage token.number (entry_of token.number s.opened) s)
within_stage_take r s token none within = within_stage r s token.number (entry_of token.number s.opened) refl room within
  where
    room : (e : Entry) → entry_of token.number s.opened ≡ Some e → room_refusal s.rules.kind s (length (put_events (e ∷ []))) ≡ None
    room e is =
        let allowed = stage_take_allows s (takes_of s token) none in
        let same : Takes allowed.0 ≡ e = entry_same (entry_of token.number s.opened) (Takes allowed.0) e (takes_of-some s token allowed.0 allowed.1).1 is in
        subst (λ (x : Entry). room_refusal s.rules.kind s (length (put_events (x ∷ []))) ≡ None) same (room_for_none s.rules.kind s within.1)

-- a first part of what is staged puts no more events than all of it
pub front_size : (k : ℕ) (staged : List Entry) → length (put_events (take k staged)) ≤ length (put_events staged)
front_size zero [] = omega arith
front_size (suc k) [] = omega arith
front_size zero (e ∷ staged) = omega arith
front_size (suc k) (e ∷ staged) = omega (arith, front_size k staged, size-cons e staged, size-cons e (take k staged))

within_reopen : (r : Rules) (s : State) (kept : Kept) (txn : ℕ) → IsFront kept → IsWithin r s → IsWithin r (after_reopen s (Ok (record { kept = kept; txn = txn })))
within_reopen r s (Read base) txn front within = absurd front
within_reopen r s (Front k) txn front within =
    stays r s (after_reopen s (Ok (record { kept = Front k; txn = txn }))) refl within (omega (arith, left_size (base_of s) (take k s.staged), front_size k s.staged)) (omega arith)

-- the machine keeps it
within_after : (r : Rules) (tells : Bool) (s : State) (call : Call) → Admits tells s call → KeepsFront call → IsWithin r s → IsWithin r (after s call)
within_after r tells s (BeginPut reply) may front within = within_begun r (Puts []) s reply refl within
within_after r tells s (BeginTake reply) may front within = within_begun r (Takes []) s reply refl within
within_after r tells s (Put token event (Ok done)) may front within = within_put r s token event done may.0 within
within_after r tells s (Put token event (Err PutNo.DiskFault)) may front within = within_broken r s within
within_after r tells s (Put token event (Err PutNo.Stale)) may front within = within
within_after r tells s (Put token event (Err PutNo.Broken)) may front within = within
within_after r tells s (Put token event (Err (PutNo.Spent counter))) may front within = within
within_after r tells s (Put token event (Err (PutNo.TxnFull n))) may front within = within
within_after r tells s (Put token event (Err (PutNo.TooLarge n))) may front within = within
within_after r tells s (Put token event (Err (PutNo.Full n))) may front within = within
within_after r tells s (Put token event (Err PutNo.NoMemory)) may front within = within
within_after r tells s (Take token (Ok taken)) may front within = within_take r s token taken may.0 within
within_after r tells s (Take token (Err TakeNo.DiskFault)) may front within = within_broken r s within
within_after r tells s (Take token (Err TakeNo.Stale)) may front within = within
within_after r tells s (Take token (Err TakeNo.Broken)) may front within = within
within_after r tells s (Take token (Err (TakeNo.Spent counter))) may front within = within
within_after r tells s (Take token (Err (TakeNo.TxnFull n))) may front within = within
within_after r tells s (Take token (Err TakeNo.ReadFault)) may front within = within
within_after r tells s (Take token (Err (TakeNo.Damaged kept found))) may front within = within
within_after r tells s (Take token (Err TakeNo.NoMemory)) may front within = within
within_after r tells s (StagePut token (Ok given)) may front within = within_stage_put r s token may.0 within
within_after r tells s (StagePut token (Err cause)) may front within = within
within_after r tells s (StageTake token (Ok given)) may front within = within_stage_take r s token may.0 within
within_after r tells s (StageTake token (Err cause)) may front within = within
within_after r tells s (Flush (Ok done)) may front within = within_settle r s within
within_after r tells s (Flush (Err FlushNo.Broken)) may front within = within
within_after r tells s (Flush (Err FlushNo.DiskFault)) may front within = within_broken r s within
within_after r tells s (Flush (Err (FlushNo.Spent counter))) may front within = within
within_after r tells s (RollbackPut token true) may front within = within_close r token.number s within
within_after r tells s (RollbackPut token false) may front within = within
within_after r tells s (RollbackTake token true) may front within = within_close r token.number s within
within_after r tells s (RollbackTake token false) may front within = within
within_after r tells s (Checkpoint (Ok done)) may front within = within_settle r s within
within_after r tells s (Checkpoint (Err CheckNo.CheckFault)) may front within = within_settle r s within
within_after r tells s (Checkpoint (Err CheckNo.DiskFault)) may front within = within_broken r s within
within_after r tells s (Checkpoint (Err CheckNo.Broken)) may front within = within
within_after r tells s (Checkpoint (Err (CheckNo.Spent counter))) may front within = within
within_after r tells s (Prune reply) may front within = within
within_after r tells s (Reopen (Ok done)) may front within = within_reopen r s done.kept done.txn front within
within_after r tells s (Reopen (Err e)) may front within = within_broken r s within

-- and so does each run
pub within_run : (r : Rules) (tells : Bool) (s : State) (h : List Step) → IsWithin r s → IsRun tells s h → ReadsNone h → IsWithin r (state_after s h)
within_run r tells s [] within run none = within
within_run r tells s (step ∷ h) within run none = within_run r tells (after s step.call) h (within_after r tells s step.call run.0 none.0 within) run.1 none.1

-- a channel opens within its capacity where its base is
pub within_opening : (k : Kind) (o : Opening) → length o.base.items ≤ o.rules.limits.capacity → limited k (opening o) ≤ o.rules.limits.capacity
within_opening OnFile o fits = omega (arith, fits)
within_opening InMemory o fits = omega (arith, fits)
