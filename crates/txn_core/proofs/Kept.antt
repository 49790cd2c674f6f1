-- What is true of each plain machine stays true.
use Rattle.std.proofs.Common.{◌≡◌, ◌<◌, ◌≤◌, ◌+◌, ◌-◌, ◌^◌, ◌++◌, ◌∷◌, [], ℕ, zero, suc, List, length, take, drop, slice_set, Some, None, false, cond, refl, sym, ◌∙◌, ap, arith, length-append, length-set}
use Rattle.std.proofs.lemmas.Bool.Decides.{nat_tests}
use Rattle.event_core.specs.Content.{Content}
use Rattle.event_core.specs.Journal.{put_events}
use Rattle.event_core.specs.declared.journal.Entry.{Entry}
use Rattle.event_core.specs.declared.journal.Entry.TheVariants.{Puts, Takes}
use Rattle.channel_face.specs.Machine.{State, base_of, entries, begin_refusal, put_refusal, take_refusal, count}
use Rattle.txn_core.specs.Sound.{IsSound, size_of_entry}
use Rattle.txn_core.proofs.Counts.{puts_size, size_put, puts_size-cons, puts_size-append, puts_size-set, puts_size-remove, longer-push, longer-set, longer-remove, length-removed}
use Rattle.txn_core.specs.Places.{IsAt}
use Rattle.channel_face.specs.declared.replies.Kind.{Kind}
use Rattle.channel_face.specs.declared.replies.Kind.TheVariants.{File as OnFile, Memory as InMemory}
use Rattle.channel_face.specs.Machine.{size_refusal, next_number, settle, is_none_staged, stage, without_entry}
use Rattle.txn_core.specs.Sound.{one_if_staged}
use Rattle.event_core.specs.Journal.{left, next}
use Rattle.channel_face.proofs.Numbers.{put_events-append}
use Rattle.channel_face.proofs.Opened.{entries-append}
use Rattle.std.proofs.lemmas.List.{append-nil}
use Rattle.channel_face.proofs.Within.{left_size, front_size}
use Rattle.txn_core.specs.Sound.{AreHeld}
use Rattle.txn_core.proofs.Fronts.{held_begun, held_set, held_staged}

-- where a begin is not refused, one transaction more may be open, and a number is left for it
pub few_opened : (s : State) → begin_refusal s ≡ None → (s.broken ≡ false) × (length s.opened < 1024) × (s.txn < 2 ^ 64 - 1)
few_opened s allowed = grind (arith, nat_tests)

-- a transaction that did nothing puts no event
pub no_puts : (entry : Entry) → size_of_entry entry ≡ 0 → size_put entry ≡ 0
no_puts (Puts []) none = refl
no_puts (Puts (e ∷ events)) none = absurd (omega (arith, none))
no_puts (Takes numbers) none = refl

-- the lists stay sound where a transaction begins
pub begun : (s : State) (b : ℕ × Entry) (o p i r r' f : ℕ) → IsSound s o p i r f → begin_refusal s ≡ None → size_of_entry b.1 ≡ 0 → length s.staged + (length s.opened + 1) ≤ r' → IsSound (record s { opened = s.opened ++ b ∷ []; txn = s.txn + 1 }) o p i r' f
begun s b o p i r r' f sound allowed none room =
    let few = few_opened s allowed in
    let longer : length (s.opened ++ b ∷ []) ≡ length s.opened + 1 = length-append s.opened (b ∷ []) in
    let same : puts_size (s.opened ++ b ∷ []) ≡ puts_size s.opened = omega (arith, puts_size-append s.opened (b ∷ []), puts_size-cons b [], no_puts b.1 none) in
    record {
      open_puts_are = sound.open_puts_are ∙ sym same;
      staged_puts_are = sound.staged_puts_are;
      frames = omega (arith, sound.frames, longer);
      numbers = sound.numbers;
      begun = omega (arith, sound.begun);
      lists = longer-push s.rules.limits.txn_capacity s.opened b sound.lists (omega (arith, none));
      events = sound.events;
      places = omega (arith, room, longer);
      within = λ kind. omega (arith, sound.within kind, same);
      within_memory = sound.within_memory;
      opened_few = omega (arith, longer, few.1);
      front = held_begun s.opened b s.staged (take f s.items) sound.front;
    }

room_left : (k : Kind) (s : State) (event : Content) → size_refusal k s event ≡ None → k ≡ OnFile → count s < s.rules.limits.capacity
room_left OnFile s event none is = grind (arith, nat_tests)
room_left InMemory s event none is = absurd (cc)

-- where a put is not refused, the transaction has room and the event's size is allowed
pub put_allows : (s : State) (events : List Content) (event : Content) → put_refusal s (Some events) event ≡ None → (s.broken ≡ false) × (length events < s.rules.limits.txn_capacity) × (size_refusal s.rules.kind s event ≡ None)
put_allows s events event allowed = grind (arith, nat_tests)

-- the lists stay sound where an event is put
pub put_added : (s : State) (number place : ℕ) (events : List Content) (event : Content) (o p i r i' f : ℕ) → IsSound s o p i r f → IsAt s.opened number place (Puts events) → put_refusal s (Some events) event ≡ None → length s.items + (o + p + 1) ≤ i'
    → IsSound (record s { opened = slice_set s.opened place (number, Puts (events ++ event ∷ [])) }) (o + 1) p i' r f
put_added s number place events event o p i r i' f sound at allowed room =
    let may = put_allows s events event allowed in
    let new : Entry = Puts (events ++ event ∷ []) in
    let longer : length (events ++ event ∷ []) ≡ length events + 1 = length-append events (event ∷ []) in
    let same : length (slice_set s.opened place (number, new)) ≡ length s.opened = length-set s.opened place (number, new) in
    let more : puts_size (slice_set s.opened place (number, new)) ≡ puts_size s.opened + 1 = omega (arith, puts_size-set s.opened place (number, Puts events) (number, new) at.item, longer) in
    record {
      open_puts_are = omega (arith, sound.open_puts_are, more);
      staged_puts_are = sound.staged_puts_are;
      frames = omega (arith, sound.frames, same);
      numbers = sound.numbers;
      begun = sound.begun;
      lists = longer-set s.rules.limits.txn_capacity s.opened place (number, new) sound.lists (omega (arith, longer, may.1));
      events = omega (arith, room);
      places = omega (arith, sound.places, same);
      within = λ kind. omega (arith, room_left s.rules.kind s event may.2 kind, more);
      within_memory = sound.within_memory;
      opened_few = omega (arith, sound.opened_few, same);
      front = held_set s.opened place (number, Puts events) (number, new) s.staged (take f s.items) at.item (λ n h. h) sound.front;
    }

-- a transaction leaves the list of the open ones
pub closed : (s : State) (number place : ℕ) (entry : Entry) (o o' p i r f f' : ℕ) → IsSound s o p i r f → IsAt s.opened number place entry → o' + size_put entry ≡ o → AreHeld (take place s.opened ++ drop (place + 1) s.opened) s.staged (take f' s.items)
    → IsSound (record s { opened = take place s.opened ++ drop (place + 1) s.opened }) o' p i r f'
closed s number place entry o o' p i r f f' sound at fewer held =
    let rest : List (ℕ × Entry) = take place s.opened ++ drop (place + 1) s.opened in
    let size : puts_size rest + size_put entry ≡ puts_size s.opened = puts_size-remove s.opened place (number, entry) at.item in
    let one : length rest + 1 ≡ length s.opened = length-removed s.opened place at.in_range in
    record {
      open_puts_are = omega (arith, sound.open_puts_are, size, fewer);
      staged_puts_are = sound.staged_puts_are;
      frames = omega (arith, sound.frames, one);
      numbers = sound.numbers;
      begun = sound.begun;
      lists = longer-remove s.rules.limits.txn_capacity s.opened place at.in_range sound.lists;
      events = omega (arith, sound.events, fewer);
      places = omega (arith, sound.places, one);
      within = λ kind. omega (arith, sound.within kind, size);
      within_memory = sound.within_memory;
      opened_few = omega (arith, sound.opened_few, one);
      front = held;
    }

-- what one entry puts
pub size_one : (entry : Entry) → length (put_events (entry ∷ [])) ≡ size_put entry
size_one (Puts events) = ap (λ (l : List Content). length l) (append-nil events)
size_one (Takes numbers) = refl

staged_some : (staged : List Entry) (entry : Entry) → one_if_staged (staged ++ entry ∷ []) ≡ 1
staged_some [] entry = refl
staged_some (e ∷ staged) entry = refl

-- it becomes the last of those that are staged
pub staged_one : (s : State) (number place : ℕ) (entry : Entry) (o o' p p' i r r' f : ℕ) → IsSound s o p i r f → IsAt s.opened number place entry → o' + size_put entry ≡ o → p' ≡ p + size_put entry → r ≤ r'
    → next_number s + size_put entry < 2 ^ 64 → (s.rules.kind ≡ InMemory → length s.items + p + size_put entry ≤ s.rules.limits.capacity)
    → IsSound (record s { opened = take place s.opened ++ drop (place + 1) s.opened; staged = s.staged ++ entry ∷ [] }) o' p' i r' f
staged_one s number place entry o o' p p' i r r' f sound at fewer more room fits memory =
    let rest : List (ℕ × Entry) = take place s.opened ++ drop (place + 1) s.opened in
    let size : puts_size rest + size_put entry ≡ puts_size s.opened = puts_size-remove s.opened place (number, entry) at.item in
    let one : length rest + 1 ≡ length s.opened = length-removed s.opened place at.in_range in
    let puts : length (put_events (s.staged ++ entry ∷ [])) ≡ length (put_events s.staged) + size_put entry = ap (λ (l : List Content). length l) (put_events-append s.staged (entry ∷ [])) ∙ (length-append (put_events s.staged) (put_events (entry ∷ [])) ∙ ap (λ (n : ℕ). length (put_events s.staged) + n) (size_one entry)) in
    let longer : length (s.staged ++ entry ∷ []) ≡ length s.staged + 1 = length-append s.staged (entry ∷ []) in
    record {
      open_puts_are = omega (arith, sound.open_puts_are, size, fewer);
      staged_puts_are = omega (arith, sound.staged_puts_are, puts, more);
      frames = omega (arith, sound.frames, one, staged_some s.staged entry);
      numbers = omega (arith, fits, puts);
      begun = sound.begun;
      lists = longer-remove s.rules.limits.txn_capacity s.opened place at.in_range sound.lists;
      events = omega (arith, sound.events, fewer, more);
      places = omega (arith, sound.places, one, longer, room);
      within = λ kind. omega (arith, sound.within kind, size, puts);
      within_memory = λ kind. omega (arith, memory kind, more);
      opened_few = omega (arith, sound.opened_few, one);
      front = held_staged s.opened place (number, entry) s.staged (take f s.items) at.item sound.front;
    }

-- the frame's number rises by one where something was staged
pub frame_after : (staged : List Entry) (frame : ℕ) → (cond (is_none_staged staged) frame (frame + 1)) ≡ frame + one_if_staged staged
frame_after [] frame = omega arith
frame_after (e ∷ staged) frame = refl

-- the lists stay sound where all that was staged is settled
pub settled_all : (s : State) (o p i i' r f : ℕ) → IsSound s o p i r f → i ≤ i' → IsSound (settle s) o 0 i' r 0
settled_all s o p i i' r f sound room =
    let fewer : length (left (base_of s) s.staged) ≤ length s.items + length (put_events s.staged) = left_size (base_of s) s.staged in
    record {
      open_puts_are = sound.open_puts_are;
      staged_puts_are = refl;
      frames = omega (arith, sound.frames, frame_after s.staged s.frame);
      numbers = omega (arith, sound.numbers);
      begun = sound.begun;
      lists = sound.lists;
      events = omega (arith, sound.events, sound.staged_puts_are, fewer, room);
      places = omega (arith, sound.places);
      within = λ kind. omega (arith, sound.within kind, fewer);
      within_memory = λ kind. omega (arith, sound.within_memory kind, sound.staged_puts_are, fewer);
      opened_few = sound.opened_few;
      front = refl;
    }

-- one transaction's puts are not more than all open ones
pub puts_within : (s : State) (number place : ℕ) (entry : Entry) (o p i r f : ℕ) → IsSound s o p i r f → IsAt s.opened number place entry → size_put entry ≤ o
puts_within s number place entry o p i r f sound at = omega (arith, sound.open_puts_are, puts_size-remove s.opened place (number, entry) at.item)

-- who stages what a transaction did moves it from the open ones to the staged ones
pub stage_some : (s : State) (number : ℕ) (entry : Entry) → 0 < size_of_entry entry → stage number (Some entry) s ≡ record s { opened = without_entry number s.opened; staged = s.staged ++ entry ∷ [] }
stage_some s number (Puts []) some = absurd (omega (arith, some))
stage_some s number (Puts (e ∷ events)) some = refl
stage_some s number (Takes []) some = absurd (omega (arith, some))
stage_some s number (Takes (n ∷ numbers)) some = refl

-- where a take is not refused, the channel is not broken and the transaction has room
pub take_allows : (s : State) (numbers : List ℕ) → take_refusal s (Some numbers) ≡ None → (s.broken ≡ false) × (length numbers < s.rules.limits.txn_capacity)
take_allows s numbers allowed = grind (arith, nat_tests)

-- the lists stay sound where a number is taken
pub take_added : (s : State) (number place : ℕ) (numbers : List ℕ) (taken : ℕ) (o p i r f f' : ℕ) → IsSound s o p i r f → IsAt s.opened number place (Takes numbers) → take_refusal s (Some numbers) ≡ None
    → AreHeld (slice_set s.opened place (number, Takes (numbers ++ taken ∷ []))) s.staged (take f' s.items)
    → IsSound (record s { opened = slice_set s.opened place (number, Takes (numbers ++ taken ∷ [])) }) o p i r f'
take_added s number place numbers taken o p i r f f' sound at allowed held =
    let may = take_allows s numbers allowed in
    let new : Entry = Takes (numbers ++ taken ∷ []) in
    let longer : length (numbers ++ taken ∷ []) ≡ length numbers + 1 = length-append numbers (taken ∷ []) in
    let same : length (slice_set s.opened place (number, new)) ≡ length s.opened = length-set s.opened place (number, new) in
    let more : puts_size (slice_set s.opened place (number, new)) ≡ puts_size s.opened = omega (arith, puts_size-set s.opened place (number, Takes numbers) (number, new) at.item) in
    record {
      open_puts_are = omega (arith, sound.open_puts_are, more);
      staged_puts_are = sound.staged_puts_are;
      frames = omega (arith, sound.frames, same);
      numbers = sound.numbers;
      begun = sound.begun;
      lists = longer-set s.rules.limits.txn_capacity s.opened place (number, new) sound.lists (omega (arith, longer, may.1));
      events = sound.events;
      places = omega (arith, sound.places, same);
      within = λ kind. omega (arith, sound.within kind, more);
      within_memory = sound.within_memory;
      opened_few = omega (arith, sound.opened_few, same);
      front = held;
    }

-- all room is enough for a first part of what was staged
pub front_fits : (s : State) (k : ℕ) (o p i r f : ℕ) → IsSound s o p i r f → (length s.items + length (put_events (take k s.staged)) ≤ i) × (s.first + length (put_events (take k s.staged)) < 2 ^ 64)
front_fits s k o p i r f sound =
    let few : length (put_events (take k s.staged)) ≤ length (put_events s.staged) = front_size k s.staged in
    (omega (arith, sound.events, sound.staged_puts_are, few), omega (arith, sound.numbers, few))

-- the lists are sound after a reopening that keeps a first part of what was staged
pub restarted : (s new : State) (k : ℕ) (ends : List ℕ) (o p i i' r r' f : ℕ) → IsSound s o p i r f → i ≤ i'
    → new ≡ record { rules = s.rules; items = left (record { items = s.items; first = s.first }) (take k s.staged); first = next (record { items = s.items; first = s.first }) (take k s.staged); txn = s.txn; opened = []; staged = []; broken = false; life = s.life + 1; frame = 1; ends = ends }
    → IsSound new 0 0 i' r' 0
restarted s new k ends o p i i' r r' f sound room is =
    let front : List Entry = take k s.staged in
    let few : length (put_events front) ≤ length (put_events s.staged) = front_size k s.staged in
    let fewer : length (left (base_of s) front) ≤ length s.items + length (put_events front) = left_size (base_of s) front in
    rw is (record {
      open_puts_are = refl;
      staged_puts_are = refl;
      frames = omega (arith, sound.begun);
      numbers = omega (arith, sound.numbers, few);
      begun = sound.begun;
      lists = tt;
      events = omega (arith, sound.events, sound.staged_puts_are, fewer, few, room);
      places = omega arith;
      within = λ kind. omega (arith, sound.within kind, fewer, few);
      within_memory = λ kind. omega (arith, sound.within_memory kind, sound.staged_puts_are, fewer, few);
      opened_few = omega arith;
      front = refl;
    })

-- there are as many entries as open transactions
pub length-entries : (opened : List (ℕ × Entry)) → length (entries opened) ≡ length opened
length-entries [] = refl
length-entries (o ∷ opened) = omega (arith, length-entries opened)

-- the entries of a first part of the list are the first ones
pub take-entries : (k : ℕ) (opened : List (ℕ × Entry)) → entries (take k opened) ≡ take k (entries opened)
take-entries zero opened = refl
take-entries (suc k) [] = refl
take-entries (suc k) (o ∷ opened) = ap (λ (l : List Entry). o.1 ∷ l) (take-entries k opened)

-- the entries after one transaction more was staged
pub staged_last : (staged staged' : List (ℕ × Entry)) (last : ℕ × Entry) (number : ℕ) (entry : Entry) → staged' ≡ staged ++ last ∷ [] → last ≡ (number, entry) → entries staged' ≡ entries staged ++ entry ∷ []
staged_last staged staged' last number entry is same =
    ap (λ (l : List (ℕ × Entry)). entries l) is ∙ (entries-append staged (last ∷ []) ∙ ap (λ (o : ℕ × Entry). entries staged ++ o.1 ∷ []) same)
