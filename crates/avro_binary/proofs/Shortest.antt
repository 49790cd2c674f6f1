-- No spelling is shorter than what is written.
use Rattle.std.proofs.Common.{◌≡◌, ℕ, zero, suc, ◌+◌, ◌-◌, ◌*◌, ◌/◌, ◌^◌, ◌<◌, ◌≤◌, true, false, List, [], ◌∷◌, ◌++◌, length, refl, sym, ap, subst, arith, inl, inr}
use Rattle.std.specs.Prelude.{pos, negsuc, fold}
use Rattle.std.specs.List.{flat_map}
use Rattle.std.specs.Ordering.{match_ordering}
use Rattle.std.specs.declared.cmp.Ordering.{Ordering}
use Rattle.std.specs.declared.cmp.Ordering.TheVariants.{Less, Equal, Greater}
use Rattle.std.proofs.Math.Nat.{pow-suc}
use Rattle.std.proofs.lemmas.Nat.{pow-add}
use Rattle.std.proofs.lemmas.Bool.{cases_lt}
use Rattle.std.proofs.lemmas.List.{length-append}
use Rattle.event_core.specs.Content.{Header, Content, key_cmp, with_header}
use Rattle.avro_binary.specs.Number.{IsGroups, zigzag, IsInt, IsLong}
use Rattle.avro_binary.specs.Value.{IsBoolean, IsBytes, IsText, IsFixed}
use Rattle.avro_binary.specs.Items.{IsCount, Plain, Sized, IsItems, Next, Open, Close, IsEntry}
use Rattle.avro_binary.specs.Event.{IsEvent, IsBatch, headers_of}
use Rattle.avro_binary.specs.Written.{written_groups, written_number, written_boolean, written_bytes, written_items, written_entry, written_map, written_event, written_batch}
use Rattle.avro_binary.specs.Laws.{IsShortest}
use Rattle.avro_binary.proofs.Writing.{groups_none, groups_last, groups_more}
use Rattle.avro_binary.proofs.Blocks.{some_groups}

-- ---- numbers

longer : (k n : ℕ) (bytes : List ℕ) → 128 ≤ n → IsGroups bytes n → ((high : ℕ) (rest : List ℕ) → IsGroups rest high → n / 128 ≡ high → length (written_groups k (n / 128)) ≤ length rest) → length (written_groups (suc k) n) ≤ length bytes
longer k n [] large g more = absurd g
longer k n (b ∷ []) large g more = absurd (omega (arith, g.0, g.1))
longer k n (b ∷ c ∷ bytes) large g more =
    let high : n / 128 ≡ g.2 = omega (arith, g.0, g.1, g.3) in
    let rest = more g.2 (c ∷ bytes) g.4 high in
    omega (arith, ap length (groups_more k n large))

-- the groups that are written for a number are no more than any that stand for it
pub shortest_groups : (k n : ℕ) (bytes : List ℕ) → IsGroups bytes n → length (written_groups k n) ≤ length bytes
shortest_groups zero n bytes g = omega (arith, ap length (groups_none n))
shortest_groups (suc k) n bytes g =
    elim (cases_lt n 128) [
      | inl lt ↦ let some = some_groups bytes n g in omega (arith, ap length (groups_last k n lt))
      | inr le ↦ longer k n bytes le g (λ high rest h e. shortest_groups k (n / 128) rest (subst (λ (m : ℕ). IsGroups rest m) (sym e) h))
    ]

-- no int is shorter than the one written
pub shortest_int : IsShortest IsInt written_number
shortest_int bytes z p = shortest_groups 10 (zigzag z) bytes p.groups

-- no long is shorter than the one written
pub shortest_long : IsShortest IsLong written_number
shortest_long bytes z p = shortest_groups 10 (zigzag z) bytes p.groups

-- no boolean is shorter than the one written
pub shortest_boolean : IsShortest IsBoolean written_boolean
shortest_boolean bytes true p = omega (arith, ap length p)
shortest_boolean bytes false p = omega (arith, ap length p)

-- ---- how many groups a number takes

most_groups : (k n : ℕ) → length (written_groups k n) ≤ k
most_groups zero n = omega (arith, ap length (groups_none n))
most_groups (suc k) n =
    elim (cases_lt n 128) [
      | inl lt ↦ omega (arith, ap length (groups_last k n lt))
      | inr le ↦ omega (arith, ap length (groups_more k n le), most_groups k (n / 128))
    ]

some_written_groups : (k n : ℕ) → 0 < length (written_groups (suc k) n)
some_written_groups k n =
    elim (cases_lt n 128) [
      | inl lt ↦ omega (arith, ap length (groups_last k n lt))
      | inr le ↦ omega (arith, ap length (groups_more k n le))
    ]

-- a number below 128^p takes p groups at most
pub few_groups : (k p n : ℕ) → n < 128 ^ p → 0 < p → length (written_groups k n) ≤ p
few_groups zero p n small some = omega (arith, ap length (groups_none n))
few_groups (suc k) zero n small some = absurd (omega arith)
few_groups (suc k) (suc zero) n small some = omega (arith, ap length (groups_last k n (omega arith)))
few_groups (suc k) (suc (suc p)) n small some =
    elim (cases_lt n 128) [
      | inl lt ↦ omega (arith, ap length (groups_last k n lt))
      | inr le ↦
          let bound : n < 128 ^ suc p * 128 = rw (pow-suc 128 (suc p)) at small in
          let less : n / 128 < 128 ^ suc p = omega arith in
          omega (arith, ap length (groups_more k n le), few_groups k (suc p) (n / 128) less (omega arith))
    ]

-- a number that takes p groups, and not for want of more, is below 128^p
within_groups : (k n : ℕ) → length (written_groups k n) < k → n < 128 ^ length (written_groups k n)
within_groups zero n short = absurd (omega arith)
within_groups (suc k) n short =
    elim (cases_lt n 128) [
      | inl lt ↦ rw (groups_last k n lt) lt
      | inr le ↦
          let len = ap length (groups_more k n le) in
          let more = within_groups k (n / 128) (omega (arith, len)) in
          let less : n < 128 ^ length (written_groups k (n / 128)) * 128 = omega (arith, more) in
          rw (groups_more k n le, pow-suc 128 (length (written_groups k (n / 128)))) less
    ]

sum_below_product : (x y : ℕ) → 2 ≤ x → 2 ≤ y → x + y ≤ x * y
sum_below_product zero y p q = absurd (omega arith)
sum_below_product (suc zero) y p q = absurd (omega arith)
sum_below_product (suc (suc x)) zero p q = absurd (omega arith)
sum_below_product (suc (suc x)) (suc zero) p q = absurd (omega arith)
sum_below_product (suc (suc x)) (suc (suc y)) p q = omega arith

large_power : (p : ℕ) → 0 < p → 2 ≤ 128 ^ p
large_power zero some = absurd (omega arith)
large_power (suc zero) some = omega arith
large_power (suc (suc p)) some =
    let more = large_power (suc p) (omega arith) in
    rw (pow-suc 128 (suc p)) (omega arith)

-- the groups of a sum
sum_groups : (m n : ℕ) → length (written_groups 10 (m + n)) ≤ length (written_groups 10 m) + length (written_groups 10 n)
sum_groups m n =
    let p = length (written_groups 10 m) in
    let q = length (written_groups 10 n) in
    let most = most_groups 10 (m + n) in
    let some = some_written_groups 9 m in
    let other = some_written_groups 9 n in
    elim (cases_lt (p + q) 10) [
      | inl lt ↦
          let a : m < 128 ^ p = within_groups 10 m (omega arith) in
          let b : n < 128 ^ q = within_groups 10 n (omega arith) in
          let c = sum_below_product (128 ^ p) (128 ^ q) (large_power p some) (large_power q other) in
          let d : m + n < 128 ^ p * 128 ^ q = omega arith in
          few_groups 10 (p + q) (m + n) (rw (pow-add 128 p q) d) (omega arith)
      | inr le ↦ omega arith
    ]

-- a greater number takes no fewer
more_groups : (m n : ℕ) → m ≤ n → length (written_groups 10 m) ≤ length (written_groups 10 n)
more_groups m n le =
    let q = length (written_groups 10 n) in
    let most = most_groups 10 m in
    elim (cases_lt q 10) [
      | inl lt ↦
          let b : n < 128 ^ q = within_groups 10 n lt in
          few_groups 10 q m (omega arith) (some_written_groups 9 n)
      | inr past ↦ omega arith
    ]

-- ---- the count of a block, of which there is none where there are no items

abbrev count_len : ℕ → ℕ
count_len zero = 0
count_len (suc n) = length (written_number (pos (suc n)))

some_count_len : (n : ℕ) → 0 < n → count_len n ≡ length (written_groups 10 (2 * n))
some_count_len zero some = absurd (omega arith)
some_count_len (suc n) some = refl

sum_count : (m n : ℕ) → count_len (m + n) ≤ count_len m + count_len n
sum_count zero n = omega (arith, ap count_len (let e : 0 + n ≡ n = omega arith in e))
sum_count (suc m) zero = omega (arith, ap count_len (let e : suc m + 0 ≡ suc m = omega arith in e))
sum_count (suc m) (suc n) =
    let e : 2 * (suc m + suc n) ≡ 2 * suc m + 2 * suc n = omega arith in
    omega (arith, some_count_len (suc m + suc n) (omega arith), ap (λ (k : ℕ). length (written_groups 10 k)) e, sum_groups (2 * suc m) (2 * suc n), some_count_len (suc m) (omega arith), some_count_len (suc n) (omega arith))

more_count : (m n : ℕ) → m ≤ n → count_len m ≤ count_len n
more_count zero n le = omega arith
more_count (suc m) zero le = absurd (omega arith)
more_count (suc m) (suc n) le = omega (arith, some_count_len (suc m) (omega arith), some_count_len (suc n) (omega arith), more_groups (2 * suc m) (2 * suc n) (omega arith))

-- a count, written plain or with a size after it, is no shorter
shortest_count : (bytes : List ℕ) (n : ℕ) → IsCount bytes n → count_len n ≤ length bytes
shortest_count bytes zero c = omega arith
shortest_count bytes (suc n) (Plain long) = shortest_long bytes (pos (suc n)) long
shortest_count bytes (suc n) (Sized front back k size whole first second e) =
    let least = shortest_long front (negsuc k) first in
    let some = some_groups back (zigzag size) second.groups in
    let g : 2 * suc n ≡ (2 * k + 1) + 1 = omega (arith, e) in
    let step = sum_groups (2 * k + 1) 1 in
    let one = few_groups 10 1 1 (omega arith) (omega arith) in
    omega (arith, ap (λ (m : ℕ). length (written_groups 10 m)) g, ap length whole, length-append front back)

-- ---- items

some_count : (bytes : List ℕ) (n : ℕ) → IsCount bytes n → 0 < length bytes
some_count bytes n (Plain long) = some_groups bytes (zigzag (pos n)) long.groups
some_count bytes n (Sized front back k size whole first second e) =
    let some = some_groups front (zigzag (negsuc k)) first.groups in
    omega (arith, ap length whole, length-append front back)

-- how many bytes written items take, with their count and the end
pub items_len : {V : Type 0} (written : V → List ℕ) (values : List V) → length (written_items written values) ≡ length (flat_map written values) + count_len (length values) + 1
items_len written [] = refl
items_len written (value ∷ values) =
    omega (arith, length-append (written_number (pos (length (value ∷ values)))) (flat_map written (value ∷ values) ++ 0 ∷ []), length-append (flat_map written (value ∷ values)) (0 ∷ []))

-- after a block's count: its items, and the counts of the blocks after it
blocks_len : {V : Type 0} (Item : List ℕ → V → Type 0) (written : V → List ℕ) → IsShortest Item written → (left : ℕ) (bytes : List ℕ) (values : List V) → IsItems Item left bytes values → (left ≤ length values) × (length (flat_map written values) + count_len (length values - left) + 1 ≤ length bytes)
blocks_len {V} Item written shortest left bytes values (Next left' all front rest value others whole i more) =
    let r = blocks_len Item written shortest left' rest others more in
    let first = shortest front value i in
    let fits = r.0 in
    let same : length (value ∷ others) - suc left' ≡ length others - left' = omega arith in
    (omega arith, omega (arith, r.1, ap count_len same, length-append (written value) (flat_map written others), ap length whole, length-append front rest))
blocks_len {V} Item written shortest left bytes values (Open n all front rest others whole count some more) =
    let r = blocks_len Item written shortest n rest values more in
    let fits = r.0 in
    let parts : length values - 0 ≡ n + (length values - n) = omega arith in
    (omega arith, omega (arith, r.1, ap count_len parts, sum_count n (length values - n), shortest_count front n count, ap length whole, length-append front rest))
blocks_len {V} Item written shortest left bytes values (Close all count) = (omega arith, omega (arith, some_count all 0 count))

shortest_items : {V : Type 0} (Item : List ℕ → V → Type 0) (written : V → List ℕ) → IsShortest Item written → IsShortest (IsItems Item 0) (written_items written)
shortest_items Item written shortest bytes values i =
    let r = blocks_len Item written shortest 0 bytes values i in
    let same : length values - 0 ≡ length values = omega arith in
    omega (arith, r.1, ap count_len same, items_len written values)

-- ---- bytes, texts and events

-- no bytes with their length are shorter than those written
pub shortest_bytes : IsShortest IsBytes written_bytes
shortest_bytes bytes content p =
    omega (arith, shortest_long p.front (pos (length content)) p.counted, ap length p.whole, length-append p.front content, length-append (written_number (pos (length content))) content)

-- no text is shorter than the one written
pub shortest_text : IsShortest IsText written_bytes
shortest_text bytes text p = shortest_bytes bytes text p.counted

-- no fixed value is shorter than its content
pub shortest_fixed : IsShortest IsFixed (λ content. content)
shortest_fixed bytes content p = omega (arith, ap length p.0)

shortest_entry : IsShortest (IsEntry IsText) written_entry
shortest_entry bytes entry p =
    omega (arith, shortest_text p.front entry.0 p.key, shortest_text p.back entry.1 p.value, ap length p.whole, length-append p.front p.back, length-append (written_bytes entry.0) (written_bytes entry.1))

abbrev entries_len : List Header → ℕ
entries_len entries = length (flat_map written_entry entries)

-- headers are no more and no longer than the entries that make them
record IsWithin (made : List Header) (count len : ℕ) : Type 0 where
  pub few : length made ≤ count
  pub short : entries_len made ≤ len

entry_len : (key value : List ℕ) → length (written_entry (key, value)) ≡ length (written_bytes key) + length (written_bytes value)
entry_len key value = length-append (written_bytes key) (written_bytes value)

entries_more : (e : Header) (es : List Header) → entries_len (e ∷ es) ≡ length (written_bytes e.0) + length (written_bytes e.1) + entries_len es
entries_more e es = omega (arith, length-append (written_entry e) (flat_map written_entry es), length-append (written_bytes e.0) (written_bytes e.1))

one_header : (o : Ordering) (key value : List ℕ) (e : Header) (es more : List Header) → IsWithin more (length es + 1) (entries_len es + length (written_entry (key, value))) → IsWithin (match_ordering o ((key, value) ∷ e ∷ es) ((e.0, value) ∷ es) (e ∷ more)) (length (e ∷ es) + 1) (entries_len (e ∷ es) + length (written_entry (key, value)))
one_header Less key value e es more w = record {
  few = omega arith;
  short = omega (arith, entries_more (key, value) (e ∷ es), entry_len key value);
}
one_header Equal key value e es more w = record {
  few = omega arith;
  short = omega (arith, entries_more (e.0, value) es, entries_more e es, entry_len key value);
}
one_header Greater key value e es more w =
    let few = w.few in
    let short = w.short in
    record { few = omega arith; short = omega (arith, entries_more e more, entries_more e es) }

with_header_len : (es : List Header) (key value : List ℕ) → IsWithin (with_header es key value) (length es + 1) (entries_len es + length (written_entry (key, value)))
with_header_len [] key value = record { few = omega arith; short = omega (arith, entries_more (key, value) [], entry_len key value) }
with_header_len (e ∷ es) key value = one_header (key_cmp key e.0) key value e es (with_header es key value) (with_header_len es key value)

fold_len : (acc es : List Header) → IsWithin (fold (λ headers entry. with_header headers entry.0 entry.1) acc es) (length acc + length es) (entries_len acc + entries_len es)
fold_len acc [] = record { few = omega arith; short = omega arith }
fold_len acc (e ∷ es) =
    let one = with_header_len acc e.0 e.1 in
    let more = fold_len (with_header acc e.0 e.1) es in
    let few = one.few in
    let short = one.short in
    let few' = more.few in
    let short' = more.short in
    record { few = omega arith; short = omega (arith, entries_more e es, entry_len e.0 e.1) }

shortest_headers : (bytes : List ℕ) (entries : List Header) → IsItems (IsEntry IsText) 0 bytes entries → length (written_map (headers_of entries)) ≤ length bytes
shortest_headers bytes entries i =
    let all = shortest_items (IsEntry IsText) written_entry shortest_entry bytes entries i in
    let w = fold_len [] entries in
    let few = w.few in
    let short = w.short in
    let count = more_count (length (headers_of entries)) (length entries) (omega arith) in
    omega (arith, items_len written_entry entries, items_len written_entry (headers_of entries))

-- no event is shorter than the one written
pub shortest_event : IsShortest IsEvent written_event
shortest_event bytes event p =
    let headers = shortest_headers p.front p.entries p.map in
    let body = shortest_bytes p.back event.body p.body in
    omega (arith, ap (λ (h : List Header). length (written_map h)) p.headers, ap length p.whole, length-append p.front p.back, length-append (written_map event.headers) (written_bytes event.body))

-- no batch is shorter than the one written
pub shortest_batch : IsShortest IsBatch written_batch
shortest_batch bytes events i = shortest_items IsEvent written_event shortest_event bytes events i

-- ---- an event takes two bytes at least

-- an event takes two bytes at least
pub event_bytes : (bytes : List ℕ) (event : Content) → IsEvent bytes event → 2 ≤ length bytes
event_bytes bytes event p =
    let map = blocks_len (IsEntry IsText) written_entry shortest_entry 0 p.front p.entries p.map in
    let body = some_groups p.body.front (zigzag (pos (length event.body))) p.body.counted.groups in
    omega (arith, map.1, ap length p.body.whole, length-append p.body.front event.body, ap length p.whole, length-append p.front p.back)

-- the events of a batch take two bytes each at least, and its end one
pub batch_bytes : (left : ℕ) (bytes : List ℕ) (events : List Content) → IsItems IsEvent left bytes events → 2 * length events < length bytes
batch_bytes left bytes events (Next left' all front rest event others whole i more) =
    omega (arith, event_bytes front event i, batch_bytes left' rest others more, ap length whole, length-append front rest)
batch_bytes left bytes events (Open n all front rest others whole count some more) =
    omega (arith, batch_bytes n rest events more, ap length whole, length-append front rest)
batch_bytes left bytes events (Close all count) = omega (arith, some_count all 0 count)
