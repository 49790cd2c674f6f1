-- How the events that are left are read.
use Rattle.std.specs.Prelude.{IfSome, IsSomeAnd, None, Option, Some, map, false}
use Rattle.std.specs.List.{AllByRecursion}
use Rattle.std.proofs.Common.{inl, inr, ◌≡◌, ◌<◌, ◌≤◌, ◌+◌, ◌-◌, ◌^◌, ◌++◌, ◌∷◌, [], ℕ, zero, suc, List, length, refl, sym, ap, subst, ◌∙◌, arith, length-append}
use Rattle.flume_host.specs.Folder.{Files}
use Rattle.flume_host.specs.Told.{Told, WhereTold}
use Rattle.flume_host.specs.declared.names.FileName.TheVariants.{Log}
use Rattle.event_core.proofs.Sizes.{length-u64_bytes}
use Rattle.event_core.specs.Content.{Content}
use Rattle.event_core.specs.Numbers.{u32_bytes, u64_bytes}
use Rattle.event_ring.specs.Slots.{Index, Left}
use Rattle.record_form.specs.declared.record.Pointer.{Pointer}
use Rattle.record_form.specs.Pointers.{PutAt}
use Rattle.checkpoint.specs.declared.place.Next.{Next}
use Rattle.checkpoint.specs.declared.place.Place.{Place}
use Rattle.checkpoint.specs.Right.{PutIn, PutOf}
use Rattle.checkpoint.specs.Says.{live_at}
use Rattle.checkpoint.specs.Text.{CheckText, Rise, live_bytes, pointer_bytes}
use Rattle.checkpoint_reading.specs.declared.draft.Draft.{Draft}
use Rattle.checkpoint_reading.specs.declared.logs.Logs.{Logs}
use Rattle.checkpoint_reading.specs.Draft.{HasLive, IsFresh, IsOf, OpenGive, live_text}
use Rattle.checkpoint_reading.specs.Fields.{Bad, FitsFields, Is64, IsLive, ListsGive, LiveGive, head_text, with_live}
use Rattle.checkpoint_reading.specs.Logs.{IsKnown, IsPutIn, IsSized}
use Rattle.checkpoint_reading.specs.Reader.{Goes, Holds, IsSameFile, Reader, Takes, rest}
use Rattle.checkpoint_reading.proofs.Sound.{all_more, rise_more, rise_within}
use Rattle.checkpoint_reading.proofs.Taking.{length_pointer}
use Rattle.checkpoint_reading.proofs.Unique.{one_live}

length_live : (l : ℕ × Pointer) → length (live_bytes l) ≡ 24
length_live l = omega (arith, length-append (u64_bytes l.0) (pointer_bytes l.1), length-u64_bytes l.0, length_pointer l.1)

-- where fewer bytes are left than an event that is left has, none stands there
pub short_live : (bytes : List ℕ) → length bytes < 24 → (l : ℕ × Pointer) (more : List ℕ) → bytes ≡ live_bytes l ++ more → ⊥
short_live bytes short l more is = omega (arith, short, ap (λ (b : List ℕ). length b) is, length-append (live_bytes l) more, length_live l)

-- where one stands that is not right, no other one does
pub other_live : (files : Files) (c : CheckText) (low : ℕ) (bytes behind : List ℕ) (l : ℕ × Pointer) → Is64 l.0 → FitsFields l.1 → bytes ≡ live_bytes l ++ behind → (IsLive files c low l → ⊥)
    → (a : ℕ × Pointer) (more : List ℕ) → bytes ≡ live_bytes a ++ more → IsLive files c low a → ⊥
other_live files c low bytes behind l fits pointer is wrong a more there right =
    wrong (subst (λ (m : ℕ × Pointer). IsLive files c low m) (sym (one_live l a behind more (sym is ∙ there) fits right.fits pointer right.pointer).0) right)

-- a PUT of a transaction is a PUT
pub put_of_in : (files : Files) (txn : ℕ) (p : Pointer) (event : Content) → PutOf files txn p event → PutIn files p event
put_of_in files txn p event put = from (files (Log p.file)) put
  where
    from : (file : Option (List ℕ)) → IsSomeAnd file (λ bytes. (at : PutAt bytes p event) × (at.txn ≡ txn)) → IsSomeAnd file (λ bytes. PutAt bytes p event)
    from None put' = absurd put'
    from (Some bytes) put' = put'.0

-- The state of a reader on its way, and what is known of the log files.
pub record OnWay (was told : Option Told) (faulty faults : ℕ) (start now : Reader) (Known : Type 0) : Type 0 where
  pub same : told ≡ was
  pub well : faults ≡ faulty
  pub held : Holds told now
  pub file : IsSameFile start now
  pub known_is : Known

-- What was read of the events that are left, of which so many are still to come.
pub record LiveLoop (was : Option Told) (start now : Reader) (place : Place) (next : Next) (d : Draft) (low more : ℕ) : Type 0 where
  pub of : IsOf place next d
  pub live : HasLive d low
  pub goes : Goes was start now (λ files o. ListsGive files o place next) (λ files o. LiveGive files o (live_text d) low more)

map_one : (live : List Left) (l : Left) → map live_at (live ++ l ∷ []) ≡ map live_at live ++ live_at l ∷ []
map_one [] l = refl
map_one (x ∷ live) l = ap (λ (r : List (ℕ × Pointer)). live_at x ∷ r) (map_one live l)

-- an event that was added
pub live_pushed : (place : Place) (next : Next) (d e : Draft) (low number : ℕ) (pointer : Pointer) → IsOf place next d → HasLive d low → low ≤ number → number < d.next.number
    → e ≡ record d { ring = e.ring; slots = e.slots } → e.ring ≡ record { slots = e.slots; top = number + 1; live = d.ring.live ++ record { number = number; pointer = pointer; held = false } ∷ [] } → length d.ring.live + 1 ≤ e.slots → IsSized pointer
    → IsOf place next e × HasLive e (number + 1) × (live_text e ≡ with_live (live_text d) (number, pointer))
live_pushed place next d e low number pointer of live above below rest ring room long =
    let place_same : e.place ≡ d.place = ap (λ (x : Draft). x.place) rest in
    let next_same : e.next ≡ d.next = ap (λ (x : Draft). x.next) rest in
    let table_same : e.table ≡ d.table = ap (λ (x : Draft). x.table) rest in
    let list : e.ring.live ≡ d.ring.live ++ record { number = number; pointer = pointer; held = false } ∷ [] = ap (λ (x : Index). x.live) ring in
    let events : map live_at e.ring.live ≡ map live_at d.ring.live ++ (number, pointer) ∷ [] = ap (λ (x : List Left). map live_at x) list ∙ map_one d.ring.live (record { number = number; pointer = pointer; held = false }) in (
      record { place_is = place_same ∙ of.place_is; next_is = next_same ∙ of.next_is },
      record {
        upto = omega (arith, below, ap (λ (n : Next). n.number) next_same);
        rise = subst (λ (x : List (ℕ × Pointer)). Rise 0 (number + 1) x) (sym events) (rise_more 0 low (map live_at d.ring.live) (number, pointer) live.rise (omega arith) above);
        top = omega (arith, ap (λ (x : Index). x.top) ring);
        free = subst (λ (x : List Left). AllByRecursion (λ l. l.held ≡ false) x) (sym list) (all_more (λ (l : Left). l.held ≡ false) d.ring.live (record { number = number; pointer = pointer; held = false }) live.free refl);
        slots = ap (λ (x : Index). x.slots) ring;
        within = omega (arith, room, ap (λ (x : List Left). length x) list, length-append d.ring.live ((record { number = number; pointer = pointer; held = false }) ∷ []));
        sized = subst (λ (x : List Left). AllByRecursion (λ l. IsSized l.pointer) x) (sym list) (all_more (λ (l : Left). IsSized l.pointer) d.ring.live (record { number = number; pointer = pointer; held = false }) live.sized long);
        closed = table_same ∙ live.closed;
      },
      texts e d place_same next_same events,
    )
  where
    texts : (e d : Draft) → e.place ≡ d.place → e.next ≡ d.next → map live_at e.ring.live ≡ map live_at d.ring.live ++ (number, pointer) ∷ [] → live_text e ≡ with_live (live_text d) (number, pointer)
    texts e d place_same next_same events =
        ap (λ (p : Place). record { place = p; next = e.next; live = map live_at e.ring.live; puts = []; takes = [] }) place_same
        ∙ (ap (λ (n : Next). record { place = d.place; next = n; live = map live_at e.ring.live; puts = []; takes = [] }) next_same
        ∙ ap (λ (x : List (ℕ × Pointer)). record { place = d.place; next = d.next; live = x; puts = []; takes = [] }) events)

some_more : (n : ℕ) → 1 ≤ n → n ≡ suc (n - 1)
some_more zero less = absurd (omega (arith, less))
some_more (suc n) less = omega arith

-- one more was read
pub live_step : (was later : Option Told) (start now then' : Reader) (place : Place) (next : Next) (d e : Draft) (low more : ℕ) (l : ℕ × Pointer) → later ≡ was → 1 ≤ more
    → Goes was start now (λ files o. ListsGive files o place next) (λ files o. LiveGive files o (live_text d) low more) → Takes later now then' (live_bytes l) → WhereTold later (λ t. IsLive t.reads (live_text d) low l)
    → live_text e ≡ with_live (live_text d) l → Goes was start then' (λ files o. ListsGive files o place next) (λ files o. LiveGive files o (live_text e) (l.0 + 1) (more - 1))
live_step was later start now then' place next d e low more l same some goes takes right text = λ t is o behind.
    goes t is o (subst (λ (n : ℕ). LiveGive t.reads o (live_text d) low n (rest t now)) (sym (some_more more some))
    (inl (l, rest t then', takes t (same ∙ is), right t (same ∙ is), subst (λ (c : CheckText). LiveGive t.reads o c (l.0 + 1) (more - 1) (rest t then')) text behind)))

-- none that is right stands here
pub live_stop : (was later : Option Told) (start now : Reader) (place : Place) (next : Next) (d : Draft) (low more : ℕ) → later ≡ was → 1 ≤ more
    → Goes was start now (λ files o. ListsGive files o place next) (λ files o. LiveGive files o (live_text d) low more)
    → WhereTold later (λ t. (l : ℕ × Pointer) (behind : List ℕ) → rest t now ≡ live_bytes l ++ behind → IsLive t.reads (live_text d) low l → ⊥)
    → WhereTold was (λ t. ListsGive t.reads (Bad (rest t now)) place next (rest t start))
live_stop was later start now place next d low more same some goes none = λ t is.
    goes t is (Bad (rest t now)) (subst (λ (n : ℕ). LiveGive t.reads (Bad (rest t now)) (live_text d) low n (rest t now)) (sym (some_more more some)) (inr (none t (same ∙ is), refl)))

-- what is said of what there may be, of what there is
pub if_some : {A : Type 0} (next : Option A) (a : A) (P : A → Type 0) → next ≡ Some a → IfSome next P → P a
if_some {A} next a P same is = subst (λ (o : Option A). IfSome o P) same is

-- where no PUT was found, none stands at the pointer
pub none_put : (files : Files) (p : Pointer) (txn : Option ℕ) → txn ≡ None → IsPutIn files p txn → (event : Content) → PutIn files p event → ⊥
none_put files p txn same is = subst (λ (o : Option ℕ). IsPutIn files p o) same is

-- The invariant of the loop.
pub record LiveOnWay (was told : Option Told) (faulty faults : ℕ) (start now : Reader) (known : Logs) (place : Place) (next : Next) (d : Draft) (low more : ℕ) : Type 0 where
  pub way : OnWay was told faulty faults start now (IsKnown told known)
  pub loop : LiveLoop was start now place next d low more

fresh_text : (d : Draft) → IsFresh d.place d.next d → live_text d ≡ head_text d.place d.next
fresh_text d fresh = ap (λ (x : List Left). record { place = d.place; next = d.next; live = map live_at x; puts = []; takes = [] }) fresh.empty

-- the loop begins after the count
pub live_begun : (was : Option Told) (start now : Reader) (d : Draft) (count : ℕ) → IsFresh d.place d.next d → count < 2 ^ 32 → Takes was start now (u32_bytes count) → LiveLoop was start now d.place d.next d 0 count
live_begun was start now d count fresh fits takes = record {
  of = fresh.of;
  live = fresh.live;
  goes = λ t is o behind. inl (count, rest t now, takes t is, fits, subst (λ (c : CheckText). LiveGive t.reads o c 0 count (rest t now)) (fresh_text d fresh) behind);
}

-- the loop goes on over an event that is right
pub live_more : (was later : Option Told) (start now then' : Reader) (place : Place) (next : Next) (d e : Draft) (low more number : ℕ) (pointer : Pointer) → LiveLoop was start now place next d low more → later ≡ was → 1 ≤ more
    → Takes later now then' (live_bytes (number, pointer)) → WhereTold later (λ t. IsLive t.reads (live_text d) low (number, pointer)) → low ≤ number → number < d.next.number
    → e ≡ record d { ring = e.ring; slots = e.slots } → e.ring ≡ record { slots = e.slots; top = number + 1; live = d.ring.live ++ record { number = number; pointer = pointer; held = false } ∷ [] } → length d.ring.live + 1 ≤ e.slots → IsSized pointer
    → LiveLoop was start then' place next e (number + 1) (more - 1)
live_more was later start now then' place next d e low more number pointer loop same some takes right above below rest ring room long =
    let p = live_pushed place next d e low number pointer loop.of loop.live above below rest ring room long in
    record { of = p.0; live = p.1; goes = live_step was later start now then' place next d e low more (number, pointer) same some loop.goes takes right p.2 }

-- where none is to come, the count of open puts is next
pub live_ended : (was : Option Told) (start now : Reader) (place : Place) (next : Next) (d : Draft) (low more : ℕ) → LiveLoop was start now place next d low more → more ≡ 0
    → Goes was start now (λ files o. ListsGive files o place next) (λ files o. OpenGive files o (live_text d))
live_ended was start now place next d low more loop none = λ t is o behind. loop.goes t is o (subst (λ (n : ℕ). LiveGive t.reads o (live_text d) low n (rest t now)) (sym none) behind)

-- all numbers are below the next one
pub live_all : (d : Draft) (low : ℕ) → HasLive d low → HasLive d d.next.number
live_all d low live = record {
  upto = omega arith;
  rise = rise_within 0 low d.next.number (map live_at d.ring.live) live.rise live.upto;
  top = omega (arith, live.top, live.upto);
  free = live.free;
  slots = live.slots;
  within = live.within;
  sized = live.sized;
  closed = live.closed;
}
