-- What the events so far leave.
use Rattle.std.proofs.Common.{◌≡◌, ℕ, ◌<◌, ◌≤◌, ◌+◌, ◌-◌, Bool, true, false, cond, ltb, List, [], ◌∷◌, ◌++◌, length, refl, sym, ap, subst, ◌∙◌, arith, inl, inr}
use Rattle.std.specs.Prelude.{Option, Some, None, is_some, fold, Err, pos, negsuc}
use Rattle.std.proofs.lemmas.Bool.{cases_lt, le-ltb, lt-ltb}
use Rattle.event_core.specs.Content.{Header, Content, content, size, headers_size, with_header}
use Rattle.event_core.specs.Refusals.{IsTooLarge}
use Rattle.event_core.specs.declared.refused.EventRefused.{EventRefused}
use Rattle.event_core.specs.declared.refused.EventRefused.TheVariants.{RepeatedKey}
use Rattle.event_core.specs.declared.refused.EventRefused.TheVariants as events
use Rattle.event_core.proofs.Sizes.{size-sum}
use Rattle.avro_binary.specs.declared.refused.ValueRefused.{ValueRefused}
use Rattle.avro_binary.specs.Value.{IsBytes, BytesFault, IsText}
use Rattle.avro_binary.specs.declared.refused.ValueRefused.TheVariants.{Short, Bad, TooLarge, NoMemory}
use Rattle.avro_binary.specs.Items.{IsMap, MapFault, IsCount, Plain, Sized, IsItems, Next, Open, Close, IsEntry}
use Rattle.avro_binary.specs.Number.{zigzag}
use Rattle.std.proofs.lemmas.List.{length-append}
use Rattle.avro_binary.proofs.Blocks.{some_groups}
use Rattle.avro_binary.specs.Reading.{part, IsPart, IsFault}
use Rattle.avro_binary.proofs.Lists.{join_parts, length-part}
use Rattle.avro_binary.proofs.Faults.{behind, moved, refusal_of, same_place_refusal}
use Rattle.avro_binary.specs.Event.{first_large, max_size, headers_of, IsEvent, EventFault, BatchFault, ReadsBatch}
use Rattle.avro_binary.specs.Found.{Collects, IsRefusal}
use Rattle.avro_binary.specs.Laws.{AreSmall}

-- one entry more
fold_more : (entries : List Header) (entry : Header) (start : List Header) → fold (λ (headers : List Header) (e : Header). with_header headers e.0 e.1) start (entries ++ entry ∷ []) ≡ with_header (fold (λ (headers : List Header) (e : Header). with_header headers e.0 e.1) start entries) entry.0 entry.1
fold_more [] entry start = refl
fold_more (e ∷ entries) entry start = fold_more entries entry (with_header start e.0 e.1)

-- an entry after the others is put into their headers
pub headers_more : (entries : List Header) (entry : Header) → headers_of (entries ++ entry ∷ []) ≡ with_header (headers_of entries) entry.0 entry.1
headers_more entries entry = fold_more entries entry []

abbrev choice : Bool → ℕ → Option ℕ → Option ℕ
choice b n rest = cond b (Some n) rest

large_choice : (b : Bool) (k n : ℕ) (rest more : Option ℕ) → choice b k rest ≡ Some n → (rest ≡ Some n → more ≡ Some n) → choice b k more ≡ Some n
large_choice true k n rest more e f = e
large_choice false k n rest more e f = f e

large_stays : (events more : List Content) (n : ℕ) → first_large events ≡ Some n → first_large (events ++ more) ≡ Some n
large_stays [] more n e = absurd cc
large_stays (x ∷ events) more n e = large_choice (ltb max_size (size x)) (size x) n (first_large events) (first_large (events ++ more)) e (λ h. large_stays events more n h)

none_choice : (b : Bool) (k : ℕ) (rest more other : Option ℕ) → choice b k rest ≡ None → (rest ≡ None → more ≡ other) → choice b k more ≡ other
none_choice true k rest more other e f = absurd cc
none_choice false k rest more other e f = f e

none_stays : (events more : List Content) → first_large events ≡ None → first_large (events ++ more) ≡ first_large more
none_stays [] more e = refl
none_stays (x ∷ events) more e = none_choice (ltb max_size (size x)) (size x) (first_large events) (first_large (events ++ more)) (first_large more) e (λ h. none_stays events more h)

-- once an event was too large, a further one changes nothing
pub keep_nothing : (events batch : List Content) (large : Option ℕ) (event : Content) → is_some large ≡ true → Collects events batch large → Collects (events ++ event ∷ []) batch large
keep_nothing events batch None event some c = absurd cc
keep_nothing events batch (Some n) event some c = record {
  large_is = sym (large_stays events (event ∷ []) n (sym c.large_is));
  all = λ h. absurd cc;
}

small_event : (event : Content) → size event ≤ max_size → first_large (event ∷ []) ≡ None
small_event event small = ap (λ (b : Bool). choice b (size event) None) (le-ltb max_size (size event) small)

large_event : (event : Content) → max_size < size event → first_large (event ∷ []) ≡ Some (size event)
large_event event large = ap (λ (b : Bool). choice b (size event) None) (lt-ltb max_size (size event) large)

-- an event that isn't too large joins those so far
pub keep_event : (events batch after : List Content) (large : Option ℕ) (found event : Content) → is_some large ≡ false → Collects events batch large → found ≡ event → size event ≤ max_size → after ≡ batch ++ found ∷ [] → Collects (events ++ event ∷ []) after large
keep_event events batch after None found event some c e small a = record {
  large_is = sym (none_stays events (event ∷ []) (sym c.large_is) ∙ small_event event small);
  all = λ h. a ∙ (let b = c.all refl in cc);
}
keep_event events batch after (Some n) found event some c e small a = absurd cc

-- the first event that is too large is known by its size
pub keep_large : (events batch : List Content) (large : Option ℕ) (event : Content) (n : ℕ) → is_some large ≡ false → Collects events batch large → n ≡ size event → max_size < n → Collects (events ++ event ∷ []) batch (Some n)
keep_large events batch None event n some c e large = record {
  large_is = sym (none_stays events (event ∷ []) (sym c.large_is) ∙ large_event event (subst (λ (k : ℕ). max_size < k) e large) ∙ ap Some (sym e));
  all = λ h. absurd cc;
}
keep_large events batch (Some m) event n some c e large = absurd cc

-- a refusal of a new event tells that it is too large
pub too_large : (event : Content) (e : EventRefused) → IsTooLarge event e → max_size < size event
too_large event (RepeatedKey key) t = absurd t
too_large event (events.TooLarge n) t = subst (λ (k : ℕ). max_size < k) t.0 t.1
too_large event events.NoMemory t = absurd t

-- the size of an event by its headers and the ends of its body
pub size_of : (bytes : List ℕ) (start end : ℕ) (headers : List Header) (body : List ℕ) → IsPart bytes start end → body ≡ part bytes start end → size (content headers body) ≡ headers_size headers + (end - start) + 8
size_of bytes start end headers body p e = omega (arith, size-sum (content headers body), ap length e, length-part bytes start end p)

-- headers, and after them a body
pub event_of : (bytes : List ℕ) (at mid start end : ℕ) (headers : List Header) (body : List ℕ) (entries : List (List ℕ × List ℕ)) → IsPart bytes at mid → IsPart bytes mid end → IsMap (part bytes at mid) entries → headers ≡ headers_of entries → IsBytes (part bytes mid end) (part bytes start end) → body ≡ part bytes start end → IsEvent (part bytes at end) (content headers body)
event_of bytes at mid start end headers body entries p q m h b e = record {
  front = part bytes at mid;
  back = part bytes mid end;
  entries = entries;
  whole = sym (join_parts bytes at mid end p q);
  map = m;
  headers = h;
  body = subst (λ (x : List ℕ). IsBytes (part bytes mid end) x) (sym e) b;
}

-- a fault of the body behind the headers is one of the event
pub body_fault : (bytes : List ℕ) (at mid : ℕ) (entries : List (List ℕ × List ℕ)) (e : ValueRefused) → IsPart bytes at mid → IsMap (part bytes at mid) entries → IsFault BytesFault bytes mid e → IsRefusal EventFault bytes at e
body_fault bytes at mid entries e p m f = refusal_of EventFault bytes at e (moved BytesFault EventFault bytes at mid e p (λ rest g h. inr (behind IsMap BytesFault (part bytes at mid) entries m rest g h)) f)

-- a refusal of the headers is one of the event
pub map_fault : (bytes : List ℕ) (at : ℕ) (e : ValueRefused) → IsRefusal MapFault bytes at e → IsRefusal EventFault bytes at e
map_fault bytes at e f = same_place_refusal MapFault EventFault bytes at e (λ g h. inl h) f

-- before the first event the batch is empty and nothing was too large
pub nothing_yet : (batch : List Content) → batch ≡ [] → Collects [] batch None
nothing_yet batch e = record { large_is = refl; all = λ h. e }

-- a refusal of the items is what the reader of a batch answers, out of memory too
pub batch_refusal : (bytes : List ℕ) (at : ℕ) (e : ValueRefused) → IsRefusal BatchFault bytes at e → ReadsBatch bytes at (Err e)
batch_refusal bytes at (Short field need) f = f
batch_refusal bytes at (Bad place) f = f
batch_refusal bytes at (TooLarge n end) f = absurd f
batch_refusal bytes at NoMemory f = tt

-- a fault of the items is what the reader of a batch answers
pub batch_fault : (bytes : List ℕ) (at : ℕ) (e : ValueRefused) → IsFault BatchFault bytes at e → ReadsBatch bytes at (Err e)
batch_fault bytes at e f = batch_refusal bytes at e (refusal_of BatchFault bytes at e f)

some_count : (bytes : List ℕ) (n : ℕ) → IsCount bytes n → 0 < length bytes
some_count bytes n (Plain long) = some_groups bytes (zigzag (pos n)) long.groups
some_count bytes n (Sized front back k size whole first second e) =
    let some = some_groups front (zigzag (negsuc k)) first.groups in
    omega (arith, ap length whole, length-append front back)

some_items : {V : Type 0} (Item : List ℕ → V → Type 0) (left : ℕ) (bytes : List ℕ) (values : List V) → IsItems Item left bytes values → left ≡ 0 → 0 < length bytes
some_items Item left bytes values (Next n all front rest value others whole i k) e = absurd (omega arith)
some_items Item left bytes values (Open n all front rest others whole count some k) e =
    let first = some_count front n count in
    omega (arith, ap length whole, length-append front rest)
some_items Item left bytes values (Close all count) e = some_count all 0 count

-- an event takes some bytes
pub some_event : (bytes : List ℕ) (item end : ℕ) (event : Content) → IsPart bytes item end → IsEvent (part bytes item end) event → item < end
some_event bytes item end event p i =
    let some = some_items (IsEntry IsText) 0 i.front i.entries i.map refl in
    let len = length-part bytes item end p in
    omega (arith, ap length i.whole, length-append i.front i.back)

-- ---- no event is too large

-- where all events are small there is no first large one
pub none_large : (events : List Content) → AreSmall events → first_large events ≡ None
none_large [] small = refl
none_large (e ∷ events) small = ap (λ (b : Bool). choice b (size e) (first_large events)) (le-ltb max_size (size e) small.0) ∙ none_large events small.1

some_or_none : {A : Type 0} (b : Bool) (n : ℕ) (rest : Option ℕ) → b ≡ true → choice b n rest ≡ None → A
some_or_none true n rest e f = absurd cc
some_or_none false n rest e f = absurd cc

rest_none : (b : Bool) (n : ℕ) (rest : Option ℕ) → choice b n rest ≡ None → rest ≡ None
rest_none true n rest e = absurd cc
rest_none false n rest e = e

-- where there is no first large event all are small
pub small_events : (events : List Content) → first_large events ≡ None → AreSmall events
small_events [] none = tt
small_events (e ∷ events) none =
    elim (cases_lt max_size (size e)) [
      | inl lt ↦ some_or_none (ltb max_size (size e)) (size e) (first_large events) (lt-ltb max_size (size e) lt) none
      | inr le ↦ (le, small_events events (rest_none (ltb max_size (size e)) (size e) (first_large events) none))
    ]
