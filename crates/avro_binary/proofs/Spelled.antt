-- What is written is spelled.
use Rattle.std.proofs.Common.{◌≡◌, ℕ, zero, suc, ◌+◌, ◌-◌, ◌*◌, ◌/◌, ◌%◌, ◌^◌, ◌<◌, ◌≤◌, true, false, List, [], ◌∷◌, ◌++◌, length, refl, sym, ap, subst, ◌∙◌, append_assoc, arith, inl, inr}
use Rattle.std.specs.Prelude.{ℤ, pos, negsuc, fold, FitsSigned}
use Rattle.std.specs.Int.{w32, w64}
use Rattle.std.specs.List.{flat_map, AllByRecursion}
use Rattle.std.specs.Map.{keys_of}
use Rattle.std.specs.List.Sorted.{IsStrictlySortedBy}
use Rattle.std.specs.Ordering.{match_ordering, ordering_reverse}
use Rattle.std.specs.declared.cmp.Ordering.{Ordering}
use Rattle.std.specs.declared.cmp.Ordering.TheVariants.{Less, Greater}
use Rattle.std.specs.Cmp.Lexicographic.{nat_list_cmp_total}
use Rattle.std.proofs.Math.Nat.{pow-suc}
use Rattle.std.proofs.lemmas.Bool.{cases_lt}
use Rattle.std.proofs.lemmas.Int.{ints}
use Rattle.std.proofs.lemmas.List.{append-nil}
use Rattle.event_core.specs.Content.{Header, Content, IsTextHeader, key_cmp, with_header}
use Rattle.avro_binary.specs.Number.{IsGroups, IsNumber, zigzag, IsLong, max_int, max_long}
use Rattle.avro_binary.specs.Value.{IsText}
use Rattle.avro_binary.specs.Items.{IsCount, Plain, IsItems, Next, Open, Close, IsEntry}
use Rattle.avro_binary.specs.Event.{IsEvent, headers_of}
use Rattle.avro_binary.specs.Written.{written_groups, written_number, written_bytes, written_items, written_entry, written_map, written_event}
use Rattle.avro_binary.specs.Laws.{IntsAreSpelled, LongsAreSpelled, BooleansAreSpelled, BytesAreSpelled, TextsAreSpelled, IsShortHeader, FitsMemory, EventsAreSpelled, BatchesAreSpelled}
use Rattle.avro_binary.proofs.Groups.{cons_groups}
use Rattle.avro_binary.proofs.Writing.{groups_last, groups_more}
use Rattle.avro_binary.proofs.Shortest.{shortest_groups}

pub record AreGroups (most n : ℕ) : Type 0 where
  pub groups : IsGroups (written_groups most n) n
  pub short : length (written_groups most n) ≤ most

spelled_last : (k n : ℕ) → n < 128 → AreGroups (suc k) n
spelled_last k n small =
    let e = groups_last k n small in
    let g : IsGroups (n ∷ []) n = (small, refl) in
    record { groups = subst (λ (t : List ℕ). IsGroups t n) (sym e) g; short = omega (arith, ap length e) }

spelled_more : (k n : ℕ) → 128 ≤ n → AreGroups k (n / 128) → AreGroups (suc k) n
spelled_more k n large a =
    let e = groups_more k n large in
    let value : n % 128 + 128 - 128 + 128 * (n / 128) ≡ n = omega arith in
    let g = cons_groups (n % 128 + 128) (n / 128) (written_groups k (n / 128)) (omega arith) (omega arith) a.groups in
    let s = a.short in
    record {
      groups = subst (λ (t : List ℕ). IsGroups t n) (sym e) (subst (λ (m : ℕ). IsGroups ((n % 128 + 128) ∷ written_groups k (n / 128)) m) value g);
      short = omega (arith, ap length e);
    }

spelled_groups : (k n : ℕ) → n < 128 ^ k → 0 < k → AreGroups k n
spelled_groups zero n small some = absurd (omega arith)
spelled_groups (suc zero) n small some = spelled_last 0 n small
spelled_groups (suc (suc k)) n small some =
    elim (cases_lt n 128) [
      | inl lt ↦ spelled_last (suc k) n lt
      | inr le ↦
          let bound : n < 128 ^ suc k * 128 = rw (pow-suc 128 (suc k)) at small in
          let less : n / 128 < 128 ^ suc k = omega arith in
          spelled_more (suc k) n le (spelled_groups (suc k) (n / 128) less (omega arith))
    ]

spelled_number : (n : ℕ) → n ≤ max_long → IsNumber 10 max_long (written_groups 10 n) n
spelled_number n small =
    let a = spelled_groups 10 n (omega arith) (omega arith) in
    record { groups = a.groups; short = a.short; fits = small }

long_fits : (z : ℤ) → FitsSigned w64 z → zigzag z ≤ max_long
long_fits (pos n) h = omega (arith, ints, h)
long_fits (negsuc n) h = omega (arith, ints, h)

int_fits : (z : ℤ) → FitsSigned w32 z → zigzag z ≤ max_int
int_fits (pos n) h = omega (arith, ints, h)
int_fits (negsuc n) h = omega (arith, ints, h)

-- each long within 64 bits is spelled as it is written
pub longs_spelled : LongsAreSpelled
longs_spelled z h = spelled_number (zigzag z) (long_fits z h)

-- each int within 32 bits is spelled as it is written
pub ints_spelled : IntsAreSpelled
ints_spelled z h =
    let fits = int_fits z h in
    let a = spelled_groups 5 (zigzag z) (omega arith) (omega arith) in
    let ten = spelled_number (zigzag z) (omega arith) in
    let least = shortest_groups 10 (zigzag z) (written_groups 5 (zigzag z)) a.groups in
    let s = a.short in
    record { groups = ten.groups; short = omega arith; fits = fits }

-- each boolean is spelled as it is written
pub booleans_spelled : BooleansAreSpelled
booleans_spelled true = refl
booleans_spelled false = refl

natural_spelled : (n : ℕ) → n < 2 ^ 63 → IsLong (written_number (pos n)) (pos n)
natural_spelled n small = spelled_number (2 * n) (omega arith)

-- bytes with their length are spelled as they are written
pub bytes_spelled : BytesAreSpelled
bytes_spelled content small = record { front = written_number (pos (length content)); whole = refl; counted = natural_spelled (length content) small }

-- a text is spelled as it is written
pub texts_spelled : TextsAreSpelled
texts_spelled text small utf8 = record { counted = bytes_spelled text small; utf8 = utf8 }

entry_spelled : (entry : Header) → IsTextHeader entry → IsShortHeader entry → IsEntry IsText (written_entry entry) entry
entry_spelled entry text short = record {
  front = written_bytes entry.0;
  back = written_bytes entry.1;
  whole = refl;
  key = texts_spelled entry.0 short.0 text.0;
  value = texts_spelled entry.1 short.1 text.1;
}

-- ---- items

end_spelled : IsCount (0 ∷ []) 0
end_spelled = Plain (record { groups = (omega arith, refl); short = omega arith; fits = omega arith })

block_spelled : {V : Type 0} (Item : List ℕ → V → Type 0) (written : V → List ℕ) (values : List V) → AllByRecursion (λ v. Item (written v) v) values → IsItems Item (length values) (flat_map written values ++ 0 ∷ []) values
block_spelled Item written [] all = Close (0 ∷ []) end_spelled
block_spelled Item written (value ∷ values) all =
    Next (length values) ((written value ++ flat_map written values) ++ 0 ∷ []) (written value) (flat_map written values ++ 0 ∷ []) value values (append_assoc (written value) (flat_map written values) (0 ∷ [])) all.0 (block_spelled Item written values all.1)

items_spelled : {V : Type 0} (Item : List ℕ → V → Type 0) (written : V → List ℕ) (values : List V) → length values < 2 ^ 63 → AllByRecursion (λ v. Item (written v) v) values → IsItems Item 0 (written_items written values) values
items_spelled Item written [] few all = Close (0 ∷ []) end_spelled
items_spelled Item written (value ∷ values) few all =
    Open (length (value ∷ values)) (written_items written (value ∷ values)) (written_number (pos (length (value ∷ values)))) (flat_map written (value ∷ values) ++ 0 ∷ []) (value ∷ values) refl (Plain (natural_spelled (length (value ∷ values)) few)) (omega arith) (block_spelled Item written (value ∷ values) all)

entries_spelled : (headers : List Header) → AllByRecursion IsTextHeader headers → AllByRecursion IsShortHeader headers → AllByRecursion (λ e. IsEntry IsText (written_entry e) e) headers
entries_spelled [] texts short = tt
entries_spelled (e ∷ headers) texts short = (entry_spelled e texts.0 short.0, entries_spelled headers texts.1 short.1)

-- ---- headers in their order are the headers that their entries make

abbrev IsBelow : List ℕ → List ℕ → Type 0
IsBelow key other = key_cmp other key ≡ Less

insert_last : (es : List Header) (key value : List ℕ) → AllByRecursion (IsBelow key) (keys_of es) → with_header es key value ≡ es ++ (key, value) ∷ []
insert_last [] key value below = refl
insert_last (e ∷ es) key value below =
    let greater : key_cmp key e.0 ≡ Greater = nat_list_cmp_total.antisymm key e.0 ∙ ap ordering_reverse below.0 in
    let more = insert_last es key value below.1 in
    ap (λ (o : Ordering). match_ordering o ((key, value) ∷ e ∷ es) ((e.0, value) ∷ es) (e ∷ with_header es key value)) greater ∙ ap (λ (hs : List Header). e ∷ hs) more

-- each of the first keys is below each of the others
abbrev AllBelow : List Header → List Header → Type 0
AllBelow acc [] = Unit {0}
AllBelow acc (e ∷ es) = AllByRecursion (IsBelow e.0) (keys_of acc) × AllBelow acc es

below_more : (key : List ℕ) (acc : List Header) (e : Header) → AllByRecursion (IsBelow key) (keys_of acc) → IsBelow key e.0 → AllByRecursion (IsBelow key) (keys_of (acc ++ e ∷ []))
below_more key [] e h b = (b, tt)
below_more key (a ∷ acc) e h b = (h.0, below_more key acc e h.1 b)

all_below_more : (acc es : List Header) (e : Header) → AllBelow acc es → AllByRecursion (λ k. key_cmp e.0 k ≡ Less) (keys_of es) → AllBelow (acc ++ e ∷ []) es
all_below_more acc [] e h b = tt
all_below_more acc (x ∷ es) e h b = (below_more x.0 acc e h.0 b.0, all_below_more acc es e h.1 b.1)

fold_headers : (acc es : List Header) → AllBelow acc es → IsStrictlySortedBy key_cmp (keys_of es) → fold (λ headers entry. with_header headers entry.0 entry.1) acc es ≡ acc ++ es
unfolding IsStrictlySortedBy
fold_headers acc [] below sorted = sym (append-nil acc)
fold_headers acc (e ∷ es) below sorted =
    let first : with_header acc e.0 e.1 ≡ acc ++ e ∷ [] = insert_last acc e.0 e.1 below.0 in
    ap (λ (h : List Header). fold (λ headers entry. with_header headers entry.0 entry.1) h es) first ∙ fold_headers (acc ++ e ∷ []) es (all_below_more acc es e below.1 sorted.0) sorted.1 ∙ append_assoc acc (e ∷ []) es

none_below : (es : List Header) → AllBelow [] es
none_below [] = tt
none_below (e ∷ es) = (tt, none_below es)

headers_again : (es : List Header) → IsStrictlySortedBy key_cmp (keys_of es) → headers_of es ≡ es
headers_again es sorted = fold_headers [] es (none_below es) sorted

-- an event that memory holds is spelled as it is written
pub events_spelled : EventsAreSpelled
events_spelled event fits = record {
  front = written_map event.headers;
  back = written_bytes event.body;
  entries = event.headers;
  whole = refl;
  map = items_spelled (IsEntry IsText) written_entry event.headers fits.few (entries_spelled event.headers fits.well_formed.texts fits.short);
  headers = sym (headers_again event.headers fits.well_formed.rising);
  body = bytes_spelled event.body fits.body;
}

each_spelled : (events : List Content) → AllByRecursion FitsMemory events → AllByRecursion (λ e. IsEvent (written_event e) e) events
each_spelled [] all = tt
each_spelled (e ∷ events) all = (events_spelled e all.0, each_spelled events all.1)

-- a batch of events that memory holds is spelled as it is written
pub batches_spelled : BatchesAreSpelled
batches_spelled events few all = items_spelled IsEvent written_event events few (each_spelled events all)
