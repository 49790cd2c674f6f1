-- Puts, takes and flushes as steps of the machine.
use Rattle.std.proofs.Common.{◌≡◌, ◌≤◌, ◌+◌, ◌==◌, ◌∷◌, [], ℕ, List, length, Option, Some, None, Ok, Err, Bool, true, false, cond, nat_le, nat_lt, refl, sym, ◌∙◌, ap, subst, arith}
use Rattle.std.specs.Prelude.{IsSome, if◌then◌else◌}
use Rattle.flume_host.specs.Told.{Told, WhereTold}
use Rattle.flume_host.specs.declared.names.FileName.TheVariants.{Log}
use Rattle.event_core.specs.Content.{Content, size}
use Rattle.record_form.specs.declared.record.Pointer.{Pointer}
use Rattle.channel_log.specs.Window.{Kept}
use Rattle.channel_log.specs.declared.pointers.ReadRefused.{ReadRefused}
use Rattle.channel_log.specs.declared.pointers.ReadRefused.TheVariants.{Damaged, NoMemory, ReadFault}
use Rattle.channel_log.specs.Writer.{Writer}
use Rattle.channel_face.specs.Token.{Token}
use Rattle.channel_face.specs.History.{Moves}
use Rattle.channel_face.specs.Machine.{State, Call, Flush, Put, Take, Admits, AdmitsPut, AdmitsTake, Gives, MaySpill, add_take, after, broken_state, count, first_event, free, is_some_of, put_refusal, puts_of, settle, size_refusal, take_refusal, takes_of}
use Rattle.channel_face.specs.declared.replies.Kind.{Kind}
use Rattle.channel_face.specs.declared.replies.Kind.TheVariants.{File as OnFile, Memory as InMemory}
use Rattle.channel_face.specs.declared.replies.Counter.{Counter}
use Rattle.channel_face.specs.declared.replies.Counter.TheVariants.{File}
use Rattle.channel_face.specs.declared.replies.FlushRefused.TheVariants as FlushNo
use Rattle.channel_face.specs.declared.replies.PutRefused.{PutRefused}
use Rattle.channel_face.specs.declared.replies.PutRefused.TheVariants as PutNo
use Rattle.channel_face.specs.declared.replies.TakeRefused.{TakeRefused}
use Rattle.channel_face.specs.declared.replies.TakeRefused.TheVariants as TakeNo
use Rattle.channel_places.specs.Looks.{IsFree, Known, StandsIn}
use Rattle.channel_writing.specs.Mirrors.{busy}
use Rattle.channel_writing.specs.Touches.{flushes, room_of}
use Rattle.channel_writing.specs.Waiting.{waiting_after}
use Rattle.channel_writing.specs.Whole.{IsWhole}
use Rattle.channel_writing.specs.Written.{IsLogged, kept}
use Rattle.channel_writing.proofs.Freeing.{take_in, take_moves, take_still, take_whole}
use Rattle.channel_writing.proofs.Putting.{put_fails, put_in, put_may, put_moves, put_whole}
use Rattle.channel_writing.proofs.Whole.{sound_then, still_not}
use Rattle.channel_writing.proofs.Writes.{disk_there}
use Rattle.file_channel.specs.Placed.{AreOwn, ArePlaced, Fits, IsStateOf, Logged}
use Rattle.file_channel.specs.Stepped.{ReadsAs, Steps, as_take}

differ : {A : Type 0} → true ≡ false → A
differ is = absurd (cc)

-- a put that may be made goes to puts
pub put_list : (s : State) (o : Option (List Content)) (event : Content) → put_refusal s o event ≡ None → (events : List Content) × (o ≡ Some events)
put_list s None event may = absurd (cc)
put_list s (Some events) event may = (events, refl)

-- a take that may be made goes to takes
pub take_list : (s : State) (o : Option (List ℕ)) → take_refusal s o ≡ None → (numbers : List ℕ) × (o ≡ Some numbers)
take_list s None may = absurd (cc)
take_list s (Some numbers) may = (numbers, refl)

-- A put that may be made.
pub record MayBePut (s : State) (token : Token) (event : Content) : Type 0 where
  pub events : List Content
  pub list : puts_of s token ≡ Some events
  pub allowed : put_refusal s (Some events) event ≡ None
  pub still : s.broken ≡ false
  pub small : size event ≤ 1048576

-- a put that nothing refuses may be made, and its event is small enough
pub may_be_put : (told : Option Told) (c : Logged) (token : Token) (event : Content) (s : State) → IsStateOf told c s → put_refusal s (puts_of s token) event ≡ None → MayBePut s token event
may_be_put told c token event s is may =
    let list = put_list s (puts_of s token) event may in
    let allowed : put_refusal s (Some list.0) event ≡ None = subst (λ (o : Option (List Content)). put_refusal s o event ≡ None) list.1 may in
    let both = put_may s list.0 event is.whole.kind allowed in
    record { events = list.0; list = list.1; allowed = allowed; still = both.0; small = both.1 }

-- A take that may be made.
pub record MayBeTaken (s : State) (token : Token) : Type 0 where
  pub numbers : List ℕ
  pub list : takes_of s token ≡ Some numbers
  pub allowed : take_refusal s (Some numbers) ≡ None
  pub still : s.broken ≡ false

-- a take that nothing refuses may be made in a channel that is not broken
pub may_be_taken : (s : State) (token : Token) → take_refusal s (takes_of s token) ≡ None → MayBeTaken s token
may_be_taken s token may =
    let list = take_list s (takes_of s token) may in
    let allowed : take_refusal s (Some list.0) ≡ None = subst (λ (o : Option (List ℕ)). take_refusal s o ≡ None) list.1 may in
    record { numbers = list.0; list = list.1; allowed = allowed; still = take_still s list.0 allowed }

-- the room that a record needs, by the places and by the state
pub room_is : (told : Option Told) (w : Writer) (b : ℕ) (s : State) (n count held : ℕ) → IsLogged told w b s → count ≡ held → n + kept b (count == 0) ≡ room_of s n held
room_is told w b s n count held log same = ap (λ (x : ℕ). n + kept x (count == 0)) log.busy_is ∙ ap (λ (h : ℕ). n + kept (busy s.opened) (h == 0)) same

-- a state that places and log fit
pub state_fits : (told : Option Told) (c : Logged) (s : State) (is : IsStateOf told c s) → s.broken ≡ false → Fits told c s
state_fits told c s is still = record { settled = is.settled; known = is.known; looks = is.looks; placed = is.placed still; owned = is.owned still; logged = is.whole.logged still }

-- a put that was made
pub put_steps : (told told' : Option Told) (old new : Logged) (token : Token) (event : Content) (events : List Content) (spilled : Bool) (s : State) → IsStateOf told old s → puts_of s token ≡ Some events → put_refusal s (Some events) event ≡ None → Fits told' new (put_in s spilled token.number events event)
    → length new.log.bytes ≡ (if spilled then 0 else length old.log.bytes) + (size event + 13) → Steps told told' old new (Put token event (Ok (record { spilled = spilled }))) s
put_steps told told' old new token event events spilled s is list may fits longer =
    let s' : State = put_in s spilled token.number events event in
    let moves : Moves true s (Put token event (Ok (record { spilled = spilled }))) s' = put_moves s s' token events event spilled list may is.whole.kind refl in
    let whole : IsWhole told' new.log new.busy s' = put_whole told' new.log new.busy s s' token token.number events event spilled is.whole.sound list may is.whole.kind refl refl fits.logged in
    let here : IsStateOf told' new s' = record { settled = fits.settled; known = fits.known; looks = fits.looks; placed = λ _. fits.placed; owned = λ _. fits.owned; whole = whole } in
    record {
      admitted = moves.admitted;
      stands = subst (λ (v : State). IsStateOf told' new v) moves.state here;
      waits = longer;
    }

-- one that was refused for a fault
pub put_faults : (told told' : Option Told) (old new : Logged) (token : Token) (event : Content) (events : List Content) (s : State) → IsStateOf told old s → puts_of s token ≡ Some events → put_refusal s (Some events) event ≡ None → IsStateOf told' new (broken_state s) → new.log.bytes ≡ old.log.bytes
    → Steps told told' old new (Put token event (Err PutNo.DiskFault)) s
put_faults told told' old new token event events s is list may failed same =
    let moves = put_fails s (broken_state s) token events event list may is.whole.kind refl in
    record { admitted = moves.admitted; stands = failed; waits = ap (λ (l : List ℕ). length l) same }

-- the refusals of a put by its state

-- causes that no state gives
abbrev IsOfCall : PutRefused → Type 0
IsOfCall PutNo.DiskFault = Unit {0}
IsOfCall (PutNo.Spent counter) = Unit {0}
IsOfCall PutNo.NoMemory = Unit {0}
IsOfCall e = ⊥

is_of_call : (x e : PutRefused) → x ≡ e → IsOfCall e → IsOfCall x
is_of_call x e same of_call = subst IsOfCall (sym same) of_call

first_not : (b : Bool) (x : PutRefused) (rest : Option PutRefused) (e : PutRefused) → (x ≡ e → ⊥) → (rest ≡ Some e → ⊥) → cond b (Some x) rest ≡ Some e → ⊥
first_not true x rest e not_x not_rest is = not_x (let same : x ≡ e = cc in same)
first_not false x rest e not_x not_rest is = not_rest is

none_not : (e : PutRefused) → None ≡ Some e → ⊥
none_not e is = absurd (cc)

size_not : (k : Kind) (s : State) (event : Content) (e : PutRefused) → IsOfCall e → size_refusal k s event ≡ Some e → ⊥
size_not OnFile s event e of_call is =
    let full : Option PutRefused = cond (nat_le s.rules.limits.capacity (count s)) (Some (PutNo.Full (count s))) None in
    first_not (nat_lt 1048576 (size event)) (PutNo.TooLarge (size event)) full e (λ same. is_of_call (PutNo.TooLarge (size event)) e same of_call)
    (λ rest. first_not (nat_le s.rules.limits.capacity (count s)) (PutNo.Full (count s)) None e (λ same. is_of_call (PutNo.Full (count s)) e same of_call) (none_not e) rest) is
size_not InMemory s event e of_call is = none_not e is

put_not : (s : State) (o : Option (List Content)) (event : Content) (e : PutRefused) → IsOfCall e → put_refusal s o event ≡ Some e → ⊥
put_not s None event e of_call is = is_of_call PutNo.Stale e (let same : PutNo.Stale ≡ e = cc in same) of_call
put_not s (Some events) event e of_call is =
    let sized : Option PutRefused = size_refusal s.rules.kind s event in
    let full : Option PutRefused = cond (nat_le s.rules.limits.txn_capacity (length events)) (Some (PutNo.TxnFull (length events))) sized in
    first_not s.broken PutNo.Broken full e (λ same. is_of_call PutNo.Broken e same of_call)
    (λ rest. first_not (nat_le s.rules.limits.txn_capacity (length events)) (PutNo.TxnFull (length events)) sized e (λ same. is_of_call (PutNo.TxnFull (length events)) e same of_call) (size_not s.rules.kind s event e of_call) rest) is

-- the machine admits a put's refusal that its state gives
pub put_refused : (s : State) (o : Option (List Content)) (event : Content) (e : PutRefused) → put_refusal s o event ≡ Some e → AdmitsPut s o event (Err e)
put_refused s o event PutNo.Stale is = is
put_refused s o event PutNo.Broken is = is
put_refused s o event (PutNo.TxnFull n) is = is
put_refused s o event (PutNo.TooLarge n) is = is
put_refused s o event (PutNo.Full n) is = is
put_refused s o event PutNo.NoMemory is = tt
put_refused s o event PutNo.DiskFault is = absurd (put_not s o event PutNo.DiskFault tt is)
put_refused s o event (PutNo.Spent counter) is = absurd (put_not s o event (PutNo.Spent counter) tt is)

-- a put that was refused by its state came to no flush, and did not lack memory
pub put_quietly : (s : State) (o : Option (List Content)) (event : Content) (e : PutRefused) → put_refusal s o event ≡ Some e → (e ≡ PutNo.DiskFault → ⊥) × ((counter : Counter) → e ≡ PutNo.Spent counter → ⊥) × (e ≡ PutNo.NoMemory → ⊥)
put_quietly s o event e is = (
  (λ same. put_not s o event PutNo.DiskFault tt (is ∙ ap (λ (x : PutRefused). Some x) same)),
  (λ counter same. put_not s o event (PutNo.Spent counter) tt (is ∙ ap (λ (x : PutRefused). Some x) same)),
  (λ same. put_not s o event PutNo.NoMemory tt (is ∙ ap (λ (x : PutRefused). Some x) same)),
)

-- a put that its state refuses leaves the channel as it was
pub put_refuses : (told : Option Told) (old : Logged) (token : Token) (event : Content) (e : PutRefused) (s : State) → IsStateOf told old s → put_refusal s (puts_of s token) event ≡ Some e → Steps told told old old (Put token event (Err e)) s
put_refuses told old token event e s is refused = record { admitted = put_refused s (puts_of s token) event e refused; stands = same e (put_refused s (puts_of s token) event e refused); waits = refl }
  where
    none : put_refusal s (puts_of s token) event ≡ None → ⊥
    none may = absurd (cc)

    same : (e : PutRefused) → AdmitsPut s (puts_of s token) event (Err e) → IsStateOf told old (after s (Put token event (Err e)))
    same PutNo.Stale may = is
    same PutNo.Broken may = is
    same (PutNo.TxnFull n) may = is
    same (PutNo.TooLarge n) may = is
    same (PutNo.Full n) may = is
    same PutNo.NoMemory may = is
    same PutNo.DiskFault may = absurd (none may.0)
    same (PutNo.Spent counter) may = is

-- a take that was made
pub take_steps : (told told' : Option Told) (old new : Logged) (token : Token) (numbers : List ℕ) (number : ℕ) (kept given : Content) (rest : List (ℕ × Content)) (spilled : Bool) (s : State) → IsStateOf told old s → takes_of s token ≡ Some numbers → take_refusal s (Some numbers) ≡ None → free s ≡ (number, kept) ∷ rest
    → Gives (is_some_of told) (Some kept) (Some given) → Fits told' new (take_in s spilled token.number numbers number) → length new.log.bytes ≡ (if spilled then 0 else length old.log.bytes) + 17 → Steps told told' old new (Take token (Ok (record { event = Some given; spilled = spilled }))) s
take_steps told told' old new token numbers number kept given rest spilled s is list may first gives fits longer =
    let s' : State = take_in s spilled token.number numbers number in
    let moves : Moves true s (Take token (Ok (record { event = Some kept; spilled = spilled }))) s' = take_moves s s' token numbers (number, kept) rest spilled list may is.whole.kind first refl in
    let whole : IsWhole told' new.log new.busy s' = take_whole told' new.log new.busy s s' token token.number numbers (number, kept) rest spilled is.whole.sound list may is.whole.kind first refl refl fits.logged in
    let here : IsStateOf told' new s' = record { settled = fits.settled; known = fits.known; looks = fits.looks; placed = λ _. fits.placed; owned = λ _. fits.owned; whole = whole } in
    let given_is : Gives (is_some_of told) (first_event (free s)) (Some given) = subst (λ (l : List (ℕ × Content)). Gives (is_some_of told) (first_event l) (Some given)) (sym first) gives in
    record {
      admitted = (moves.admitted.0, given_is, moves.admitted.2, tt);
      stands = subst (λ (v : State). IsStateOf told' new v) moves.state here;
      waits = longer;
    }

may_spill : (k : Kind) → k ≡ OnFile → (spilled : Bool) → MaySpill k spilled
may_spill OnFile is spilled = tt
may_spill InMemory is spilled = absurd (cc)

none_given : (tells : Bool) (items : List (ℕ × Content)) → items ≡ [] → Gives tells (first_event items) None
none_given true items is = sym (ap first_event is)
none_given false items is = subst (λ (l : List (ℕ × Content)). Gives false (first_event l) None) (sym is) tt

some_first : (s : State) (item : ℕ × Content) (rest : List (ℕ × Content)) → free s ≡ item ∷ rest → IsSome (first_event (free s))
some_first s item rest is = subst (λ (l : List (ℕ × Content)). IsSome (first_event l)) (sym is) refl

nothing_taken : (s : State) (number : ℕ) (o : Option (List ℕ)) (items : List (ℕ × Content)) → items ≡ [] → add_take s number o items ≡ s
nothing_taken s number None items is = refl
nothing_taken s number (Some numbers) items is = ap (λ (l : List (ℕ × Content)). add_take s number (Some numbers) l) is

-- one that found nothing
pub take_finds_none : (told : Option Told) (old : Logged) (token : Token) (s : State) → IsStateOf told old s → take_refusal s (takes_of s token) ≡ None → free s ≡ [] → Steps told told old old (Take token (Ok (record { event = None; spilled = false }))) s
take_finds_none told old token s is may nothing = record {
  admitted = (may, none_given (is_some_of told) (free s) nothing, may_spill s.rules.kind is.whole.kind false, refl);
  stands = subst (λ (v : State). IsStateOf told old v) (sym (nothing_taken s token.number (takes_of s token) (free s) nothing)) is;
  waits = omega arith;
}

-- takes that were refused
pub take_faults : (told told' : Option Told) (old new : Logged) (token : Token) (item : ℕ × Content) (rest : List (ℕ × Content)) (s : State) → IsStateOf told old s → take_refusal s (takes_of s token) ≡ None → free s ≡ item ∷ rest → IsStateOf told' new (broken_state s) → new.log.bytes ≡ old.log.bytes
    → Steps told told' old new (Take token (Err TakeNo.DiskFault)) s
take_faults told told' old new token item rest s is may first failed same = record { admitted = (may, is.whole.kind, some_first s item rest first); stands = failed; waits = ap (λ (l : List ℕ). length l) same }

-- a record was not read
pub take_unread : (told told' : Option Told) (old new : Logged) (token : Token) (item : ℕ × Content) (rest : List (ℕ × Content)) (s : State) → IsStateOf told old s → take_refusal s (takes_of s token) ≡ None → free s ≡ item ∷ rest → IsStateOf told' new s → new.log.bytes ≡ old.log.bytes
    → Steps told told' old new (Take token (Err TakeNo.ReadFault)) s
take_unread told told' old new token item rest s is may first after same = record { admitted = (may, is.whole.kind, some_first s item rest first); stands = after; waits = ap (λ (l : List ℕ). length l) same }

-- a record was read as damaged, over a disk that does not show its contents
pub take_damaged : (told told' : Option Told) (old new : Logged) (token : Token) (kept : ℕ) (found : Option ℕ) (item : ℕ × Content) (rest : List (ℕ × Content)) (s : State) → IsStateOf told old s → take_refusal s (takes_of s token) ≡ None → free s ≡ item ∷ rest → is_some_of told ≡ false → IsStateOf told' new s → new.log.bytes ≡ old.log.bytes
    → Steps told told' old new (Take token (Err (TakeNo.Damaged kept found))) s
take_damaged told told' old new token kept found item rest s is may first silent after same = record { admitted = (may, is.whole.kind, silent, some_first s item rest first); stands = after; waits = ap (λ (l : List ℕ). length l) same }

-- a take ran out of memory, and the channel stands for the same state
pub take_no_memory : (told told' : Option Told) (old new : Logged) (token : Token) (s : State) → IsStateOf told' new s → new.log.bytes ≡ old.log.bytes → Steps told told' old new (Take token (Err TakeNo.NoMemory)) s
take_no_memory told told' old new token s after same = record { admitted = tt; stands = after; waits = ap (λ (l : List ℕ). length l) same }

take_first_not : (b : Bool) (x : TakeRefused) (rest : Option TakeRefused) (e : TakeRefused) → (x ≡ e → ⊥) → (rest ≡ Some e → ⊥) → cond b (Some x) rest ≡ Some e → ⊥
take_first_not true x rest e not_x not_rest is = not_x (let same : x ≡ e = cc in same)
take_first_not false x rest e not_x not_rest is = not_rest is

take_none_not : (e : TakeRefused) → None ≡ Some e → ⊥
take_none_not e is = absurd (cc)

-- causes that no state gives
abbrev IsOfTake : TakeRefused → Type 0
IsOfTake TakeNo.Stale = ⊥
IsOfTake TakeNo.Broken = ⊥
IsOfTake (TakeNo.TxnFull n) = ⊥
IsOfTake e = Unit {0}

is_of_take : (x e : TakeRefused) → x ≡ e → IsOfTake e → IsOfTake x
is_of_take x e same of_call = subst IsOfTake (sym same) of_call

take_not : (s : State) (o : Option (List ℕ)) (e : TakeRefused) → IsOfTake e → take_refusal s o ≡ Some e → ⊥
take_not s None e of_call is = is_of_take TakeNo.Stale e (let same : TakeNo.Stale ≡ e = cc in same) of_call
take_not s (Some numbers) e of_call is =
    let full : Option TakeRefused = cond (nat_le s.rules.limits.txn_capacity (length numbers)) (Some (TakeNo.TxnFull (length numbers))) None in
    take_first_not s.broken TakeNo.Broken full e (λ same. is_of_take TakeNo.Broken e same of_call)
    (λ rest. take_first_not (nat_le s.rules.limits.txn_capacity (length numbers)) (TakeNo.TxnFull (length numbers)) None e (λ same. is_of_take (TakeNo.TxnFull (length numbers)) e same of_call) (take_none_not e) rest) is

-- a take that was refused by its state met no disk fault, and spent no counter
pub take_quietly : (s : State) (o : Option (List ℕ)) (e : TakeRefused) → take_refusal s o ≡ Some e → (e ≡ TakeNo.ReadFault → ⊥) × (e ≡ TakeNo.DiskFault → ⊥) × ((counter : Counter) → e ≡ TakeNo.Spent counter → ⊥)
take_quietly s o e is = (
  (λ same. take_not s o TakeNo.ReadFault tt (is ∙ ap (λ (x : TakeRefused). Some x) same)),
  (λ same. take_not s o TakeNo.DiskFault tt (is ∙ ap (λ (x : TakeRefused). Some x) same)),
  (λ counter same. take_not s o (TakeNo.Spent counter) tt (is ∙ ap (λ (x : TakeRefused). Some x) same)),
)

-- a take that its state refuses leaves the channel as it was
pub take_refuses : (told : Option Told) (old : Logged) (token : Token) (e : TakeRefused) (s : State) → IsStateOf told old s → take_refusal s (takes_of s token) ≡ Some e → Steps told told old old (Take token (Err e)) s
take_refuses told old token e s is refused = from e refused
  where
    from : (e : TakeRefused) → take_refusal s (takes_of s token) ≡ Some e → Steps told told old old (Take token (Err e)) s
    from TakeNo.Stale is_refused = record { admitted = is_refused; stands = is; waits = refl }
    from TakeNo.Broken is_refused = record { admitted = is_refused; stands = is; waits = refl }
    from (TakeNo.TxnFull n) is_refused = record { admitted = is_refused; stands = is; waits = refl }
    from TakeNo.NoMemory is_refused = record { admitted = tt; stands = is; waits = refl }
    from TakeNo.ReadFault is_refused = absurd (take_not s (takes_of s token) TakeNo.ReadFault tt is_refused)
    from (TakeNo.Damaged a b) is_refused = absurd (take_not s (takes_of s token) (TakeNo.Damaged a b) tt is_refused)
    from TakeNo.DiskFault is_refused = absurd (take_not s (takes_of s token) TakeNo.DiskFault tt is_refused)
    from (TakeNo.Spent counter) is_refused = absurd (take_not s (takes_of s token) (TakeNo.Spent counter) tt is_refused)

-- flushes

-- a flush that was made settles what was staged
pub flush_steps : (told told' : Option Told) (old new : Logged) (s : State) → IsStateOf told old s → s.broken ≡ false → Fits told' new (settle s) → new.log.bytes ≡ [] → Steps told told' old new (Flush (Ok tt)) s
flush_steps told told' old new s is still fits empty =
    let moves : Moves true s (Flush (Ok tt)) (settle s) = record { admitted = still; state = refl } in
    record {
      admitted = still;
      stands = record {
        settled = fits.settled;
        known = fits.known;
        looks = fits.looks;
        placed = λ _. fits.placed;
        owned = λ _. fits.owned;
        whole = record {
          logged = λ _. fits.logged;
          left = λ broken. absurd (still_not s (settle s) still refl broken);
          sound = sound_then s (Flush (Ok tt)) (settle s) moves is.whole.sound;
          kind = is.whole.kind;
        };
      };
      waits = ap (λ (l : List ℕ). length l) empty;
    }

-- a flush that failed leaves a broken channel
pub flush_faults : (told told' : Option Told) (old new : Logged) (s : State) → IsStateOf told old s → s.broken ≡ false → IsStateOf told' new (broken_state s) → new.log.bytes ≡ old.log.bytes → Steps told told' old new (Flush (Err FlushNo.DiskFault)) s
flush_faults told told' old new s is still failed same = record { admitted = (still, is.whole.kind); stands = failed; waits = ap (λ (l : List ℕ). length l) same }

-- a broken channel refuses a flush and stays as it was
pub flush_refuses : (told : Option Told) (old : Logged) (s : State) → IsStateOf told old s → s.broken ≡ true → Steps told told old old (Flush (Err FlushNo.Broken)) s
flush_refuses told old s is broken = record { admitted = broken; stands = is; waits = refl }

-- the writer's own file is there
pub own_file : (told : Option Told) (w : Writer) (b : ℕ) (s : State) → IsLogged told w b s → s.broken ≡ false → WhereTold told (λ t. IsSome (t.reads (Log w.file)))
own_file told w b s log still t is =
    let disk = (log.waits still).disk t is in
    subst (λ (o : Option (List ℕ)). IsSome o) (sym disk.rest.reads) refl

-- what is kept of a reading is no matter of the state
pub kept_whole : (told : Option Told) (w : Writer) (b : ℕ) (s : State) (k : Kept) → IsWhole told w b s → IsWhole told (record w { kept = k }) b s
kept_whole told w b s k whole = record { logged = λ still. kept_logged (whole.logged still); left = whole.left; sound = whole.sound; kind = whole.kind }
  where
    kept_logged : IsLogged told w b s → IsLogged told (record w { kept = k }) b s
    kept_logged log = record {
      busy_is = log.busy_is;
      few = log.few;
      room = log.room;
      limit = log.limit;
      waits = λ still. let waits = log.waits still in record {
        records = waits.records;
        pending = record { spelled = waits.pending.spelled; counted = waits.pending.counted; each = waits.pending.each };
        disk = λ t is. disk_there t w (record w { kept = k }) s waits.records (waits.disk t is) refl refl;
      };
    }

own_kept : (told told' : Option Told) (c : Logged) (w : Writer) → told' ≡ told → w ≡ record c.log { kept = w.kept } → AreOwn told c.log c.places.opened → AreOwn told' w c.places.opened
own_kept told told' c w same is own = rw same (subst (λ (v : Writer). AreOwn told v c.places.opened) (sym is) own)

-- the channel stands for the same state where its log keeps another reading
pub kept_state : (told told' : Option Told) (c : Logged) (w : Writer) (s : State) → told' ≡ told → w ≡ record c.log { kept = w.kept } → (state : IsStateOf told c s) → (s.broken ≡ false → ArePlaced told' w state.settled state.known) → IsStateOf told' (record c { log = w }) s
kept_state told told' c w s same is state placed = record {
  settled = state.settled;
  known = state.known;
  looks = state.looks;
  placed = placed;
  owned = λ still. own_kept told told' c w same is (state.owned still);
  whole = rw same (subst (λ (v : Writer). IsWhole told v c.busy s) (sym is) (kept_whole told c.log c.busy s w.kept state.whole));
}

-- which refusals came to a flush

-- a refused put came to a flush only where the disk failed in it
pub flushes_put : (token : Token) (event : Content) (e : PutRefused) → flushes (Put token event (Err e)) ≡ true → e ≡ PutNo.DiskFault
flushes_put token event PutNo.Stale is = absurd (cc)
flushes_put token event PutNo.Broken is = absurd (cc)
flushes_put token event (PutNo.Spent counter) is = absurd (cc)
flushes_put token event (PutNo.TxnFull n) is = absurd (cc)
flushes_put token event (PutNo.TooLarge n) is = absurd (cc)
flushes_put token event (PutNo.Full n) is = absurd (cc)
flushes_put token event PutNo.NoMemory is = absurd (cc)
flushes_put token event PutNo.DiskFault is = refl

-- a refused take came to a flush only where the disk failed in it
pub flushes_take : (token : Token) (e : TakeRefused) → flushes (Take token (Err e)) ≡ true → e ≡ TakeNo.DiskFault
flushes_take token TakeNo.Stale is = absurd (cc)
flushes_take token TakeNo.Broken is = absurd (cc)
flushes_take token (TakeNo.Spent counter) is = absurd (cc)
flushes_take token (TakeNo.TxnFull n) is = absurd (cc)
flushes_take token TakeNo.ReadFault is = absurd (cc)
flushes_take token (TakeNo.Damaged a b) is = absurd (cc)
flushes_take token TakeNo.NoMemory is = absurd (cc)
flushes_take token TakeNo.DiskFault is = refl

-- the first free event, with its pointer
pub free_first : (known : Known) (number : ℕ) (p : Pointer) (items : List (ℕ × Content)) → IsFree known (Some (number, p)) items → (event : Content) × (rest : List (ℕ × Content)) × (items ≡ (number, event) ∷ rest) × StandsIn known p event
free_first known number p [] is = absurd is
free_first known number p (item ∷ items) is = (item.1, items, ap (λ (n : ℕ). let one : ℕ × Content = (n, item.1) in one ∷ items) (sym is.0), is.1)

-- a call that was made after a reading
pub read_then : (told told1 told' : Option Told) (old mid new : Logged) (call : Call) (s : State) → told1 ≡ told → mid.log.bytes ≡ old.log.bytes → Steps told1 told' mid new call s → Steps told told' old new call s
read_then told told1 told' old mid new call s same bytes steps = record {
  admitted = subst (λ (v : Option Told). Admits (is_some_of v) s call) same steps.admitted;
  stands = steps.stands;
  waits = subst (λ (l : List ℕ). length new.log.bytes ≡ waiting_after s call (length l)) bytes steps.waits;
}

-- a take whose record was not read
pub unread_steps : (told told' : Option Told) (old new : Logged) (token : Token) (refused : ReadRefused) (number : ℕ) (kept : Content) (rest : List (ℕ × Content)) (s : State) → IsStateOf told old s → take_refusal s (takes_of s token) ≡ None → free s ≡ (number, kept) ∷ rest → ReadsAs (is_some_of told) kept (Err refused) → IsStateOf told' new s → new.log.bytes ≡ old.log.bytes
    → Steps told told' old new (Take token (Err (as_take refused))) s
unread_steps told told' old new token ReadFault number kept rest s is may first reads after_it same = take_unread told told' old new token (number, kept) rest s is may first after_it same
unread_steps told told' old new token (Damaged a b) number kept rest s is may first reads after_it same = take_damaged told told' old new token a b (number, kept) rest s is may first reads after_it same
unread_steps told told' old new token NoMemory number kept rest s is may first reads after_it same = take_no_memory told told' old new token s after_it same

-- where no log file is left

spent_puts : (s : State) (o : Option (List Content)) (event : Content) → true ≡ is_some_of o → s.broken ≡ false → s.rules.kind ≡ OnFile → AdmitsPut s o event (Err (PutNo.Spent File))
spent_puts s None event some still kind = absurd (cc)
spent_puts s (Some events) event some still kind = (still, refl, kind)

-- where no log file is left, a put is refused and nothing is changed
pub spent_put : (told : Option Told) (old : Logged) (token : Token) (event : Content) (s : State) → IsStateOf told old s → true ≡ is_some_of (puts_of s token) → s.broken ≡ false → Steps told told old old (Put token event (Err (PutNo.Spent File))) s
spent_put told old token event s is some still = record { admitted = spent_puts s (puts_of s token) event some still is.whole.kind; stands = is; waits = refl }

spent_takes : (tells : Bool) (s : State) (o : Option (List ℕ)) → true ≡ is_some_of o → s.broken ≡ false → s.rules.kind ≡ OnFile → AdmitsTake tells s o (Err (TakeNo.Spent File))
spent_takes tells s None some still kind = absurd (cc)
spent_takes tells s (Some numbers) some still kind = (still, refl, kind)

-- where no log file is left, a take is refused and nothing is changed
pub spent_take : (told : Option Told) (old : Logged) (token : Token) (s : State) → IsStateOf told old s → true ≡ is_some_of (takes_of s token) → s.broken ≡ false → Steps told told old old (Take token (Err (TakeNo.Spent File))) s
spent_take told old token s is some still = record { admitted = spent_takes (is_some_of told) s (takes_of s token) some still is.whole.kind; stands = is; waits = refl }
