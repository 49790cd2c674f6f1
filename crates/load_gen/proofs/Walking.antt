-- The states that a run of the generator leads through, on a file channel that has room for its events and that nobody else calls.
use Rattle.std.proofs.Common.{◌≡◌, ◌<◌, ◌≤◌, ◌+◌, ◌-◌, ◌*◌, ◌^◌, ◌++◌, ◌∷◌, [], ℕ, zero, suc, List, length, length-append, append_assoc, All, min, Option, Some, None, Ok, Bool, true, false, ◌==◌, nat_le, refl, sym, ◌∙◌, ap, subst, arith}
use Rattle.std.proofs.lemmas.List.{append-nil}
use Rattle.std.proofs.lemmas.Bool.Decides.{nat_tests}
use Rattle.std.proofs.lemmas.List.Elements.{All-cons, All-head, All-nil, All-tail}
use Rattle.event_core.specs.Content.{Content, size}
use Rattle.event_core.specs.Journal.{put_events}
use Rattle.event_core.specs.declared.journal.Entry.{Entry}
use Rattle.event_core.specs.declared.journal.Entry.TheVariants.{Puts, Takes}
use Rattle.channel_face.specs.Token.{Token}
use Rattle.channel_face.specs.Machine.{State, Call, Admits, AdmitsBegin, BeginPut, BeginTake, Checkpoint, Flush, Prune, Put, StagePut, StageTake, Take, RollbackTake, add_put, add_take, after, after_begin, after_take, base_of, close, count, entries, entry_of, free, put_refusal, puts_of, settle, settle_if, stage, take_refusal, takes_of, with_entry}
use Rattle.channel_face.specs.declared.replies.Kind.TheVariants.{File as OnFile}
use Rattle.channel_face.specs.declared.replies.Put.{Put as PutDone}
use Rattle.channel_face.specs.declared.replies.Taken.{Taken}
use Rattle.channel_face.specs.declared.replies.Ticket.{Ticket}
use Rattle.channel_face.proofs.Within.{left_size}
use Rattle.std.specs.Int.{to_be_bytes, w64}
use Rattle.std.specs.Prelude.{codes, decimal}
use Rattle.std.proofs.lemmas.Fmt.{length-decimal-le}
use Rattle.std.proofs.lemmas.List.FromFn.{length-map-range_with_len}
use Rattle.event_core.proofs.Sizes.{size-sum}
use Rattle.hex.specs.Hex.{encode_with, lower_digits}
use Rattle.load_gen.specs.Events.{batch, event, events_from, hex, seed}
use Rattle.load_gen.specs.Runs.{ArePut, AreRounds, AreTaken, EndsTakes, IsLoad, IsPut, IsTaken, IsUpkeep, goes_back, is_fiftieth}

-- in this state a call of the run is refused for no cause of the state, but a number at its end
abbrev pub IsReady : State → Call → Type 0
IsReady s (BeginPut reply) = (s.broken ≡ false) × (s.opened ≡ [])
IsReady s (BeginTake reply) = (s.broken ≡ false) × (s.opened ≡ [])
IsReady s (Put token e reply) = (events : List Content) × (puts_of s token ≡ Some events) × (put_refusal s (Some events) e ≡ None)
IsReady s (Take token reply) = (numbers : List ℕ) × (takes_of s token ≡ Some numbers) × (take_refusal s (Some numbers) ≡ None)
IsReady s (StagePut token reply) = (events : List Content) × (puts_of s token ≡ Some events) × (s.broken ≡ false) × (s.rules.kind ≡ OnFile)
IsReady s (StageTake token reply) = (numbers : List ℕ) × (takes_of s token ≡ Some numbers) × (s.broken ≡ false)
IsReady s (Flush reply) = s.broken ≡ false
IsReady s (Checkpoint reply) = s.broken ≡ false
IsReady s (Prune reply) = s.broken ≡ false
IsReady s (RollbackTake token ended) = (numbers : List ℕ) × (takes_of s token ≡ Some numbers)
IsReady s call = ⊥

-- The channel may give these replies to these calls, one after another.
abbrev pub AdmitsAll : Bool → State → List Call → Type 0
AdmitsAll tells s [] = Unit {0}
AdmitsAll tells s (call ∷ calls) = Admits tells s call × AdmitsAll tells (after s call) calls

abbrev pub after_all : State → List Call → State
after_all s [] = s
after_all s (call ∷ calls) = after_all (after s call) calls

-- While the channel gives these replies each of the calls finds it ready, and in the end P is true of its state.
abbrev pub Walks : Bool → State → List Call → (State → Type 0) → Type 0
Walks tells s [] P = P s
Walks tells s (call ∷ calls) P = IsReady s call × (Admits tells s call → Walks tells (after s call) calls P)

-- calls after others
pub walks_append : (tells : Bool) (s : State) (a b : List Call) (P Q : State → Type 0) → Walks tells s a P → ((t : State) → P t → Walks tells t b Q) → Walks tells s (a ++ b) Q
walks_append tells s [] b P Q walk on = on s walk
walks_append tells s (call ∷ a) b P Q walk on = (walk.0, λ admits. walks_append tells (after s call) a b P Q (walk.1 admits) on)

-- the state at the end
pub walk_end : (tells : Bool) (s : State) (calls : List Call) (P : State → Type 0) → Walks tells s calls P → AdmitsAll tells s calls → P (after_all s calls)
walk_end tells s [] P walk admits = walk
walk_end tells s (call ∷ calls) P walk admits = walk_end tells (after s call) calls P (walk.1 admits.0) admits.1

-- after a front of the calls, the channel is ready for the next one
pub walk_to : (tells : Bool) (s : State) (front rest : List Call) (next : Call) (P : State → Type 0) → Walks tells s ((front ++ next ∷ []) ++ rest) P → AdmitsAll tells s front → IsReady (after_all s front) next
walk_to tells s [] rest next P walk admits = walk.0
walk_to tells s (call ∷ front) rest next P walk admits = walk_to tells (after s call) front rest next P (walk.1 admits.0) admits.1

-- A file channel of this capacity, with at most so many events, that is not broken, on which these transactions are open and these staged.
pub record IsAt (capacity held : ℕ) (opened : List (ℕ × Entry)) (staged : List Entry) (s : State) : Type 0 where
  pub kind : s.rules.kind ≡ OnFile
  pub most : s.rules.limits.capacity ≡ capacity
  pub room : 100 ≤ s.rules.limits.txn_capacity
  pub opens : s.opened ≡ opened
  pub waits : s.staged ≡ staged
  pub whole : s.broken ≡ false
  pub items : length s.items ≤ held

itself : (n : ℕ) → (n == n) ≡ true
itself n = grind (arith, nat_tests)

-- with room for more
at_more : (capacity held held' : ℕ) (opened : List (ℕ × Entry)) (staged : List Entry) (s : State) → held ≤ held' → IsAt capacity held opened staged s → IsAt capacity held' opened staged s
at_more capacity held held' opened staged s le at = record { kind = at.kind; most = at.most; room = at.room; opens = at.opens; waits = at.waits; whole = at.whole; items = let i = at.items in omega (arith, i, le) }

-- what a flush settles
flushed : (capacity held : ℕ) (opened : List (ℕ × Entry)) (staged : List Entry) (s : State) → IsAt capacity held opened staged s → IsAt capacity (held + length (put_events staged)) opened [] (settle s)
flushed capacity held opened staged s at = record {
  kind = at.kind;
  most = at.most;
  room = at.room;
  opens = at.opens;
  waits = refl;
  whole = at.whole;
  items = let few = left_size (base_of s) s.staged in let i = at.items in let n = ap (λ (l : List Entry). length (put_events l)) at.waits in omega (arith, few, i, n);
}

spilled : (b : Bool) (capacity held : ℕ) (opened : List (ℕ × Entry)) (s : State) → IsAt capacity held opened [] s → IsAt capacity held opened [] (settle_if b s) × ((settle_if b s).life ≡ s.life)
spilled true capacity held opened s at = (at_more capacity (held + 0) held opened [] (settle s) (omega arith) (flushed capacity held opened [] s at), refl)
spilled false capacity held opened s at = (at, refl)

-- a transaction was begun
begun : (capacity held : ℕ) (entry : Entry) (token : Token) (s : State) → IsAt capacity held [] [] s → AdmitsBegin s (Ok token) → IsAt capacity held ((token.number, entry) ∷ []) [] (after_begin entry s (Ok token)) × (token.life ≡ s.life)
begun capacity held entry token s at admits = (
  record {
    kind = at.kind;
    most = at.most;
    room = at.room;
    opens = ap (λ (l : List (ℕ × Entry)). l ++ (s.txn, entry) ∷ []) at.opens ∙ ap (λ (t : Token). (t.number, entry) ∷ []) (sym admits.1);
    waits = at.waits;
    whole = at.whole;
    items = at.items;
  },
  ap (λ (t : Token). t.life) admits.1,
)

-- the open transaction of the token
open_entry : (capacity held : ℕ) (entry : Entry) (token : Token) (s : State) → IsAt capacity held ((token.number, entry) ∷ []) [] s → entry_of token.number s.opened ≡ Some entry
open_entry capacity held entry token s at = rw (at.opens, itself token.number) refl

open_puts : (capacity held : ℕ) (events : List Content) (token : Token) (s : State) → IsAt capacity held ((token.number, Puts events) ∷ []) [] s → token.life ≡ s.life → puts_of s token ≡ Some events
open_puts capacity held events token s at life = rw (ap (λ (n : ℕ). n == s.life) life ∙ itself s.life, at.opens, itself token.number) refl

open_takes : (capacity held : ℕ) (numbers : List ℕ) (token : Token) (s : State) → IsAt capacity held ((token.number, Takes numbers) ∷ []) [] s → token.life ≡ s.life → takes_of s token ≡ Some numbers
open_takes capacity held numbers token s at life = rw (ap (λ (n : ℕ). n == s.life) life ∙ itself s.life, at.opens, itself token.number) refl

-- it has another list
with_list : (capacity held : ℕ) (old new : Entry) (number : ℕ) (s : State) → IsAt capacity held ((number, old) ∷ []) [] s → IsAt capacity held ((number, new) ∷ []) [] (record s { opened = with_entry number new s.opened })
with_list capacity held old new number s at = record { kind = at.kind; most = at.most; room = at.room; opens = rw (at.opens, itself number) refl; waits = at.waits; whole = at.whole; items = at.items }

-- it is open no more
closed : (capacity held : ℕ) (entry : Entry) (number : ℕ) (s : State) → IsAt capacity held ((number, entry) ∷ []) [] s → IsAt capacity held [] [] (close number s)
closed capacity held entry number s at = record { kind = at.kind; most = at.most; room = at.room; opens = rw (at.opens, itself number) refl; waits = at.waits; whole = at.whole; items = at.items }

-- what is staged of a list; nothing of an empty one
abbrev staged_of : Entry → List Entry
staged_of (Puts []) = []
staged_of (Puts (e ∷ events)) = Puts (e ∷ events) ∷ []
staged_of (Takes []) = []
staged_of (Takes (x ∷ numbers)) = Takes (x ∷ numbers) ∷ []

staged_by : (capacity held : ℕ) (entry : Entry) (number : ℕ) (s : State) → IsAt capacity held ((number, entry) ∷ []) [] s → IsAt capacity held [] (staged_of entry) (stage number (Some entry) s)
staged_by capacity held (Puts []) number s at = closed capacity held (Puts []) number s at
staged_by capacity held (Takes []) number s at = closed capacity held (Takes []) number s at
staged_by capacity held (Puts (e ∷ events)) number s at = record { kind = at.kind; most = at.most; room = at.room; opens = rw (at.opens, itself number) refl; waits = ap (λ (l : List Entry). l ++ Puts (e ∷ events) ∷ []) at.waits; whole = at.whole; items = at.items }
staged_by capacity held (Takes (x ∷ numbers)) number s at = record { kind = at.kind; most = at.most; room = at.room; opens = rw (at.opens, itself number) refl; waits = ap (λ (l : List Entry). l ++ Takes (x ∷ numbers) ∷ []) at.waits; whole = at.whole; items = at.items }

staged_puts : (events : List Content) → length (put_events (staged_of (Puts events))) ≡ length events
staged_puts [] = refl
staged_puts (e ∷ events) = ap length (append-nil (e ∷ events))

staged_takes : (numbers : List ℕ) → length (put_events (staged_of (Takes numbers))) ≡ 0
staged_takes [] = refl
staged_takes (x ∷ numbers) = refl

-- a put that the state does not refuse
put_ready : (capacity held : ℕ) (events : List Content) (e : Content) (token : Token) (s : State) → IsAt capacity held ((token.number, Puts events) ∷ []) [] s → length events < 100 → held + length events < capacity → size e ≤ 1048576 → put_refusal s (Some events) e ≡ None
put_ready capacity held events e token s at few room small =
    let w = at.whole in
    let k = at.kind in
    let most = at.most in
    let many = at.room in
    let items = at.items in
    let puts : length (put_events (entries s.opened)) ≡ length events = ap (λ (l : List (ℕ × Entry)). length (put_events (entries l))) at.opens ∙ ap length (append-nil events) in
    let none : length (put_events s.staged) ≡ 0 = ap (λ (l : List Entry). length (put_events l)) at.waits in
    let below : count s < s.rules.limits.capacity = omega (arith, items, puts, none, room, most) in
    grind (arith, nat_tests, w, k, few, many, small, below)

take_ready : (capacity held : ℕ) (numbers : List ℕ) (token : Token) (s : State) → IsAt capacity held ((token.number, Takes numbers) ∷ []) [] s → length numbers < 100 → take_refusal s (Some numbers) ≡ None
take_ready capacity held numbers token s at few =
    let w = at.whole in
    let many = at.room in
    grind (arith, nat_tests, w, few, many)

module _ (tells : Bool) (capacity : ℕ) where
  -- a transaction of puts has this list
  abbrev HasPuts : ℕ → Token → List Content → State → Type 0
  HasPuts held token events s = IsAt capacity held ((token.number, Puts events) ∷ []) [] s × (token.life ≡ s.life)

  abbrev HasTakes : ℕ → Token → List ℕ → State → Type 0
  HasTakes held token numbers s = IsAt capacity held ((token.number, Takes numbers) ∷ []) [] s × (token.life ≡ s.life)

  one_put : (held : ℕ) (token : Token) (events : List Content) (e : Content) (done : PutDone) (s : State) → HasPuts held token events s → HasPuts held token (events ++ e ∷ []) (after s (Put token e (Ok done)))
  one_put held token events e done s has =
      let list = open_puts capacity held events token s has.0 has.1 in
      let n = settle_if done.spilled s in
      let same = spilled done.spilled capacity held ((token.number, Puts events) ∷ []) s has.0 in
      subst (λ (l : Option (List Content)). HasPuts held token (events ++ e ∷ []) (add_put n token.number l e)) (sym list) (with_list capacity held (Puts events) (Puts (events ++ e ∷ [])) token.number n same.0, has.1 ∙ sym same.1)

  one_take : (held : ℕ) (token : Token) (numbers : List ℕ) (taken : Taken) (s : State) → HasTakes held token numbers s → (numbers' : List ℕ) × (length numbers' ≤ length numbers + 1) × HasTakes held token numbers' (after s (Take token (Ok taken)))
  one_take held token numbers taken s has = by_items (free s)
    where
      same : IsAt capacity held ((token.number, Takes numbers) ∷ []) [] (settle_if taken.spilled s) × ((settle_if taken.spilled s).life ≡ s.life)
      same = spilled taken.spilled capacity held ((token.number, Takes numbers) ∷ []) s has.0

      list : takes_of s token ≡ Some numbers
      list = open_takes capacity held numbers token s has.0 has.1

      by_items : (items : List (ℕ × Content)) → (numbers' : List ℕ) × (length numbers' ≤ length numbers + 1) × HasTakes held token numbers' (after_take s token (takes_of s token) items (Ok taken))
      by_items [] = (numbers, omega arith, subst (λ (l : Option (List ℕ)). HasTakes held token numbers (add_take (settle_if taken.spilled s) token.number l [])) (sym list) (same.0, has.1 ∙ sym same.1))
      by_items (item ∷ items) = (
        numbers ++ item.0 ∷ [],
        omega (arith, length-append numbers (item.0 ∷ [])),
        subst (λ (l : Option (List ℕ)). HasTakes held token (numbers ++ item.0 ∷ []) (add_take (settle_if taken.spilled s) token.number l (item ∷ items))) (sym list)
            (with_list capacity held (Takes numbers) (Takes (numbers ++ item.0 ∷ [])) token.number (settle_if taken.spilled s) same.0, has.1 ∙ sym same.1),
      )

  -- puts of events, one after another
  walks_puts : (held : ℕ) (token : Token) (done events : List Content) (s : State) (puts : List Call) → HasPuts held token done s → ArePut token events puts → All (λ e. size e ≤ 1048576) events → length done + length events ≤ 100 → held + (length done + length events) ≤ capacity
      → Walks tells s puts (HasPuts held token (done ++ events))
  walks_puts held token done [] s puts has is small few room = subst (λ (p : List Call × List Content). Walks tells s p.0 (HasPuts held token p.1)) (λ i. (sym is i, sym (append-nil done) i)) has
  walks_puts held token done (e ∷ events) s puts has is small few room =
      let t = after s (Put token e (Ok is.0)) in
      let more = walks_puts held token (done ++ e ∷ []) events t is.1 (one_put held token done e is.0 s has) is.3 (All-tail (λ x. size x ≤ 1048576) e events small) (omega (arith, few, length-append done (e ∷ []))) (omega (arith, room, length-append done (e ∷ []))) in
      let on : Walks tells t is.1 (HasPuts held token (done ++ e ∷ events)) = subst (λ (l : List Content). Walks tells t is.1 (HasPuts held token l)) (append_assoc done (e ∷ []) events) more in
      subst (λ (l : List Call). Walks tells s l (HasPuts held token (done ++ e ∷ events))) (sym is.2)
      ((done, open_puts capacity held done token s has.0 has.1, put_ready capacity held done e token s has.0 (omega (arith, few)) (omega (arith, room)) (All-head (λ x. size x ≤ 1048576) e events small)), λ admits. on)

  -- the commit of a transaction
  walks_puts_end : (held : ℕ) (token : Token) (events : List Content) (ticket : Ticket) (s : State) → HasPuts held token events s → Walks tells s (StagePut token (Ok ticket) ∷ Flush (Ok tt) ∷ []) (IsAt capacity (held + length events) [] [])
  walks_puts_end held token events ticket s has =
      let staged : IsAt capacity held [] (staged_of (Puts events)) (after s (StagePut token (Ok ticket))) = subst (λ (o : Option Entry). IsAt capacity held [] (staged_of (Puts events)) (stage token.number o s)) (sym (open_entry capacity held (Puts events) token s has.0)) (staged_by capacity held (Puts events) token.number s has.0) in
      let settled = flushed capacity held [] (staged_of (Puts events)) (after s (StagePut token (Ok ticket))) staged in
      ((events, open_puts capacity held events token s has.0 has.1, has.0.whole, has.0.kind), λ admits. (staged.whole, λ flushes. subst (λ (n : ℕ). IsAt capacity (held + n) [] [] (settle (after s (StagePut token (Ok ticket))))) (staged_puts events) settled))

  walks_takes_end : (held : ℕ) (token : Token) (numbers : List ℕ) (ticket : Ticket) (s : State) → HasTakes held token numbers s → Walks tells s (StageTake token (Ok ticket) ∷ Flush (Ok tt) ∷ []) (IsAt capacity held [] [])
  walks_takes_end held token numbers ticket s has =
      let staged : IsAt capacity held [] (staged_of (Takes numbers)) (after s (StageTake token (Ok ticket))) = subst (λ (o : Option Entry). IsAt capacity held [] (staged_of (Takes numbers)) (stage token.number o s)) (sym (open_entry capacity held (Takes numbers) token s has.0)) (staged_by capacity held (Takes numbers) token.number s has.0) in
      let settled = flushed capacity held [] (staged_of (Takes numbers)) (after s (StageTake token (Ok ticket))) staged in
      ((numbers, open_takes capacity held numbers token s has.0 has.1, has.0.whole), λ admits. (staged.whole, λ flushes. at_more capacity (held + length (put_events (staged_of (Takes numbers)))) held [] [] (settle (after s (StageTake token (Ok ticket)))) (let n = staged_takes numbers in omega (arith, n)) settled))

  -- a batch
  pub walks_put : (held : ℕ) (events : List Content) (s : State) (made : List Call) → IsAt capacity held [] [] s → IsPut events made → All (λ e. size e ≤ 1048576) events → length events ≤ 100 → held + length events ≤ capacity → Walks tells s made (IsAt capacity (held + length events) [] [])
  walks_put held events s made at is small few room = subst (λ (l : List Call). Walks tells s l (IsAt capacity (held + length events) [] [])) (sym is.4) ((at.whole, at.opens), on)
    where
      on : AdmitsBegin s (Ok is.0) → Walks tells (after_begin (Puts []) s (Ok is.0)) (is.2 ++ (StagePut is.0 (Ok is.1) ∷ Flush (Ok tt) ∷ [])) (IsAt capacity (held + length events) [] [])
      on admits =
          walks_append tells (after_begin (Puts []) s (Ok is.0)) is.2 (StagePut is.0 (Ok is.1) ∷ Flush (Ok tt) ∷ []) (HasPuts held is.0 events) (IsAt capacity (held + length events) [] [])
          (walks_puts held is.0 [] events (after_begin (Puts []) s (Ok is.0)) is.2 (begun capacity held (Puts []) is.0 s at admits) is.3 small (omega (arith, few)) (omega (arith, room))) (λ u has. walks_puts_end held is.0 events is.1 u has)

  -- takes, one after another
  walks_takes : (held : ℕ) (token : Token) (numbers : List ℕ) (most : ℕ) (events : List Content) (s : State) (takes : List Call) → HasTakes held token numbers s → AreTaken token most events takes → length numbers + most ≤ 100 → Walks tells s takes (λ t. (all : List ℕ) × HasTakes held token all t)
  walks_takes held token numbers zero [] s takes has is few = subst (λ (l : List Call). Walks tells s l (λ t. (all : List ℕ) × HasTakes held token all t)) (sym is) (numbers, has)
  walks_takes held token numbers zero (e ∷ events) s takes has is few = absurd is
  walks_takes held token numbers (suc most) [] s takes has is few =
      let next = one_take held token numbers is.0 s has in
      subst (λ (l : List Call). Walks tells s l (λ t. (all : List ℕ) × HasTakes held token all t)) (sym is.2)
      ((numbers, open_takes capacity held numbers token s has.0 has.1, take_ready capacity held numbers token s has.0 (omega (arith, few))), λ admits. (next.0, next.2))
  walks_takes held token numbers (suc most) (e ∷ events) s takes has is few =
      let next = one_take held token numbers is.0 s has in
      let more = walks_takes held token next.0 most events (after s (Take token (Ok is.0))) is.2 next.2 is.4 (let n = next.1 in omega (arith, few, n)) in
      subst (λ (l : List Call). Walks tells s l (λ t. (all : List ℕ) × HasTakes held token all t)) (sym is.3)
      ((numbers, open_takes capacity held numbers token s has.0 has.1, take_ready capacity held numbers token s has.0 (omega (arith, few))), λ admits. more)

  walks_ending : (back : Bool) (held : ℕ) (token : Token) (numbers : List ℕ) (s : State) (ending : List Call) → HasTakes held token numbers s → EndsTakes back token ending → Walks tells s ending (IsAt capacity held [] [])
  walks_ending true held token numbers s ending has is = subst (λ (l : List Call). Walks tells s l (IsAt capacity held [] [])) (sym is) ((numbers, open_takes capacity held numbers token s has.0 has.1), λ admits. closed capacity held (Takes numbers) token.number s has.0)
  walks_ending false held token numbers s ending has is = subst (λ (l : List Call). Walks tells s l (IsAt capacity held [] [])) (sym is.1) (walks_takes_end held token numbers is.0 s has)

  -- the takes after a batch
  pub walks_took : (held k : ℕ) (events : List Content) (s : State) (made : List Call) → IsAt capacity held [] [] s → IsTaken k events made → Walks tells s made (IsAt capacity held [] [])
  walks_took held k events s made at is = subst (λ (l : List Call). Walks tells s l (IsAt capacity held [] [])) (sym is.5) ((at.whole, at.opens), on)
    where
      on : AdmitsBegin s (Ok is.0) → Walks tells (after_begin (Takes []) s (Ok is.0)) (is.1 ++ is.2) (IsAt capacity held [] [])
      on admits =
          walks_append tells (after_begin (Takes []) s (Ok is.0)) is.1 is.2 (λ t. (all : List ℕ) × HasTakes held is.0 all t) (IsAt capacity held [] [])
          (walks_takes held is.0 [] 50 events (after_begin (Takes []) s (Ok is.0)) is.1 (begun capacity held (Takes []) is.0 s at admits) is.3 (omega arith)) (λ u has. walks_ending (goes_back (k + 1)) held is.0 has.0 u is.2 has.1 is.4)

  -- a checkpoint, and a removal of old files
  pub walks_upkeep : (held : ℕ) (fiftieth : Bool) (s : State) (made : List Call) → IsAt capacity held [] [] s → IsUpkeep fiftieth made → Walks tells s made (IsAt capacity held [] [])
  walks_upkeep held true s made at is =
      let laid : IsAt capacity held [] [] (settle s) = at_more capacity (held + 0) held [] [] (settle s) (omega arith) (flushed capacity held [] [] s at) in
      subst (λ (l : List Call). Walks tells s l (IsAt capacity held [] [])) (sym is.1) (at.whole, λ admits. (laid.whole, λ prunes. laid))
  walks_upkeep held false s made at is = subst (λ (l : List Call). Walks tells s l (IsAt capacity held [] [])) (sym is) at

  -- rounds
  walks_rounds : (n k held : ℕ) (takes : List (List Content)) (s : State) (made : List Call) → ((j : ℕ) → All (λ e. size e ≤ 1048576) (batch n j)) → IsAt capacity held [] [] s → AreRounds n k takes made → held + (n - 100 * k) ≤ capacity → Walks tells s made (IsAt capacity capacity [] [])
  walks_rounds n k held [] s made small at is room = subst (λ (l : List Call). Walks tells s l (IsAt capacity capacity [] [])) (sym is) (at_more capacity held capacity [] [] s (omega (arith, room)) at)
  walks_rounds n k held (taken ∷ takes) s made small at is room =
      let m : ℕ = min 100 (n - 100 * k) in
      let count : length (batch n k) ≡ m = length-map-range_with_len (event n) (100 * k) m in
      let more : ℕ = held + length (batch n k) in
      let here : State → Type 0 = IsAt capacity more [] [] in
      let end : State → Type 0 = IsAt capacity capacity [] [] in
      let put = walks_put held (batch n k) s is.0 at is.5 (small k) (omega (arith, count)) (omega (arith, count, room)) in
      subst (λ (l : List Call). Walks tells s l end) (sym is.4)
      (walks_append tells s is.0 (is.1 ++ (is.2 ++ is.3)) here end put
      (λ t at1. walks_append tells t is.1 (is.2 ++ is.3) here end (walks_took more k taken t is.1 at1 is.6)
      (λ u at2. walks_append tells u is.2 is.3 here end (walks_upkeep more (is_fiftieth (k + 1)) u is.2 at2 is.7)
      (λ w at3. walks_rounds n (suc k) more takes w is.3 small at3 is.8 (omega (arith, count, room))))))

-- the size of each event
length_encode : (t bytes : List ℕ) → length (encode_with t bytes) ≡ 2 * length bytes
unfolding encode_with
length_encode t [] = refl
length_encode t (b ∷ bytes) = let n = length_encode t bytes in omega (arith, n)

small_event : (n i : ℕ) → i < 2 ^ 64 → size (event n i) ≤ 1048576
small_event n i fits =
    let digits = length-decimal-le 20 i (omega arith) (omega (arith, fits)) fits in
    let eight : length (to_be_bytes w64 (seed n i)) ≡ 8 = refl in
    let hexes = length_encode lower_digits (to_be_bytes w64 (seed n i)) in
    omega (arith, size-sum (event n i), digits, hexes, eight, length-append (codes "event " ++ (decimal i ++ codes " ")) (hex (seed n i)), length-append (decimal i) (codes " "))

small_events : (n i count : ℕ) → i + count ≤ 2 ^ 64 → All (λ e. size e ≤ 1048576) (events_from n i count)
small_events n i zero fits = All-nil (λ (e : Content). size e ≤ 1048576)
small_events n i (suc count) fits = All-cons (λ (e : Content). size e ≤ 1048576) (event n i) (events_from n (i + 1) count) (small_event n i (omega (arith, fits))) (small_events n (i + 1) count (omega (arith, fits)))

small_batch : (n : ℕ) → n < 2 ^ 32 → (k : ℕ) → All (λ e. size e ≤ 1048576) (batch n k)
small_batch n fits k = by_room (nat_le (100 * k) n) refl
  where
    by_room : (b : Bool) → nat_le (100 * k) n ≡ b → All (λ e. size e ≤ 1048576) (batch n k)
    by_room true is = small_events n (100 * k) (min 100 (n - 100 * k)) (let le : 100 * k ≤ n = grind (arith, nat_tests) in omega (arith, le, fits))
    by_room false is =
        let none : min 100 (n - 100 * k) ≡ 0 = (let le : n < 100 * k = grind (arith, nat_tests) in omega (arith, le)) in
        subst (λ (m : ℕ). All (λ e. size e ≤ 1048576) (events_from n (100 * k) m)) (sym none) (All-nil (λ (e : Content). size e ≤ 1048576))

-- a whole run finds the channel ready for each of its calls, and leaves nothing open or staged on it
pub walks_load : (tells : Bool) (capacity n held : ℕ) (s : State) (made : List Call) → n < 2 ^ 32 → IsAt capacity held [] [] s → held + n ≤ capacity → IsLoad n made → Walks tells s made (IsAt capacity capacity [] [])
walks_load tells capacity n held s made fits at room is = walks_rounds tells capacity n 0 held is.0 s made (small_batch n fits) at is.1.1 (omega (arith, room))
