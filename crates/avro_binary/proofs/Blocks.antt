-- Items, block by block.
use Rattle.std.proofs.Common.{◌≡◌, ℕ, zero, suc, ◌+◌, ◌-◌, ◌<◌, ◌≤◌, List, [], ◌∷◌, ◌++◌, length, take, drop, refl, sym, ap, subst, append_assoc, arith, inl, inr}
use Rattle.std.proofs.lemmas.List.{append-nil, length-append}
use Rattle.avro_binary.specs.Fault.{Fault, Lacks, Wrong, shift}
use Rattle.avro_binary.specs.Items.{IsCount, CountFault, IsItems, Next, Open, Close, ItemsFault, AtItem, AfterItem, AtCount, AfterCount, IsEntry, EntryFault}
use Rattle.avro_binary.specs.Blocks.{OpensBlock}
use Rattle.avro_binary.specs.Reading.{Reads, part, IsPart, IsFault}
use Rattle.avro_binary.specs.Number.{IsGroups, zigzag}
use Rattle.avro_binary.specs.Value.{IsText, TextFault}
use Rattle.avro_binary.specs.Found.{IsRefusal}
use Rattle.avro_binary.proofs.Lists.{join_parts, length-part}
use Rattle.avro_binary.specs.declared.refused.ValueRefused.{ValueRefused}
use Rattle.std.specs.Prelude.{Result, Ok, Err, pos}
use Rattle.avro_binary.proofs.Faults.{Moves, moved, moved_refusal, same_place, behind}

-- a fault that is moved on twice is moved on by the sum
pub shift-shift : (m n : ℕ) (f : Fault) → shift m (shift n f) ≡ shift (m + n) f
shift-shift m n (Lacks at k) =
    let e : m + (n + at) ≡ m + n + at = omega arith in
    let g : m + (n + k) ≡ m + n + k = omega arith in
    cc
shift-shift m n (Wrong k) = ap Wrong (omega arith)

-- After this front so many items of a block are left, and these values came before.
pub record Continues {V : Type 0} (Item : List ℕ → V → Type 0) (Faults : List ℕ → Fault → Type 0) (front : List ℕ) (left : ℕ) (values : List V) : Type 0 where
  pub goes_on : (rest : List ℕ) (others : List V) → IsItems Item left rest others → IsItems Item 0 (front ++ rest) (values ++ others)
  pub faults : Moves (ItemsFault Item Faults left) (ItemsFault Item Faults 0) front

shift_zero : (f : Fault) → shift 0 f ≡ f
shift_zero (Lacks at k) =
    let e : 0 + at ≡ at = omega arith in
    let g : 0 + k ≡ k = omega arith in
    cc
shift_zero (Wrong k) = ap Wrong (omega arith)

-- before the first byte no value came and no item is left
pub starts : {V : Type 0} (Item : List ℕ → V → Type 0) (Faults : List ℕ → Fault → Type 0) → Continues Item Faults [] 0 []
starts Item Faults = record {
  goes_on = λ rest others i. i;
  faults = λ rest f h. subst (λ (g : Fault). ItemsFault Item Faults 0 rest g) (sym (shift_zero f)) h;
}

-- a block's count leaves as many items
pub opens : {V : Type 0} (Item : List ℕ → V → Type 0) (Faults : List ℕ → Fault → Type 0) (front head : List ℕ) (n : ℕ) (values : List V) → Continues Item Faults front 0 values → IsCount head n → 0 < n → Continues Item Faults (front ++ head) n values
opens {V} Item Faults front head n values c count some = record {
  goes_on = λ rest others i. subst (λ (x : List ℕ). IsItems Item 0 x (values ++ others)) (sym (append_assoc front head rest)) (c.goes_on (head ++ rest) others (Open n (head ++ rest) head rest others refl count some i));
  faults = λ rest f h. let k = c.faults (head ++ rest) (shift (length head) f) (AfterCount n (head ++ rest) head rest (shift (length head) f) f refl count some h refl) in
      rw (append_assoc front head rest, length-append front head, ← shift-shift) k;
}

-- an item that was spelled leaves one less of its block
pub goes : {V : Type 0} (Item : List ℕ → V → Type 0) (Faults : List ℕ → Fault → Type 0) (front item : List ℕ) (left : ℕ) (values : List V) (value : V) → Continues Item Faults front (suc left) values → Item item value → Continues Item Faults (front ++ item) left (values ++ value ∷ [])
goes {V} Item Faults front item left values value c i = record {
  goes_on = λ rest others k. rw (append_assoc front item rest, append_assoc values (value ∷ []) others) (c.goes_on (item ++ rest) (value ∷ others) (Next left (item ++ rest) item rest value others refl i k));
  faults = λ rest f h. let k = c.faults (item ++ rest) (shift (length item) f) (AfterItem left (item ++ rest) item rest value (shift (length item) f) f refl i h refl) in
      rw (append_assoc front item rest, length-append front item, ← shift-shift) k;
}

-- a count of 0 ends the items with the values so far
pub closes : {V : Type 0} (Item : List ℕ → V → Type 0) (Faults : List ℕ → Fault → Type 0) (front head : List ℕ) (values : List V) → Continues Item Faults front 0 values → IsCount head 0 → IsItems Item 0 (front ++ head) values
closes {V} Item Faults front head values c count = subst (λ (v : List V). IsItems Item 0 (front ++ head) v) (append-nil values) (c.goes_on head [] (Close head count))

-- a fault of the next count is one of all the items
pub count_moves : {V : Type 0} (Item : List ℕ → V → Type 0) (Faults : List ℕ → Fault → Type 0) (front : List ℕ) (values : List V) → Continues Item Faults front 0 values → Moves CountFault (ItemsFault Item Faults 0) front
count_moves Item Faults front values c rest f h = c.faults rest f (AtCount rest f h)

-- a fault of the next item is one of all the items
pub item_moves : {V : Type 0} (Item : List ℕ → V → Type 0) (Faults : List ℕ → Fault → Type 0) (front : List ℕ) (left : ℕ) (values : List V) → Continues Item Faults front (suc left) values → Moves Faults (ItemsFault Item Faults 0) front
item_moves Item Faults front left values c rest f h = c.faults rest f (AtItem left rest f h)

-- where no item of the block is left, a count is read
pub reads_count : (left : ℕ) (bytes : List ℕ) (at : ℕ) (result : Result (ℕ × ℕ) ValueRefused) → left ≤ 0 → Reads (λ (n : ℕ). n) IsCount CountFault bytes at result → OpensBlock left bytes at result
reads_count zero bytes at result none r = r
reads_count (suc left) bytes at result none r = absurd (omega arith)

-- ---- the loop over items of bytes

-- between an offset and itself there are no bytes
pub part_none : (bytes : List ℕ) (at : ℕ) → part bytes at at ≡ []
part_none bytes at = let e : at - at ≡ 0 = omega arith in ap (λ (n : ℕ). take n (drop at bytes)) e

-- the loop is at a place after these values
pub record Reached {V : Type 0} (Item : List ℕ → V → Type 0) (Faults : List ℕ → Fault → Type 0) (bytes : List ℕ) (at place left : ℕ) (values : List V) : Type 0 where
  pub within : IsPart bytes at place
  pub so_far : Continues Item Faults (part bytes at place) left values

-- the loop begins where its bytes do, with no values
pub begins : {V : Type 0} (Item : List ℕ → V → Type 0) (Faults : List ℕ → Fault → Type 0) (bytes : List ℕ) (at : ℕ) → at ≤ length bytes → Reached Item Faults bytes at at 0 []
begins {V} Item Faults bytes at within = record {
  within = (omega arith, within);
  so_far = subst (λ (x : List ℕ). Continues Item Faults x 0 []) (sym (part_none bytes at)) (starts Item Faults);
}

-- a place further on
pub further : (bytes : List ℕ) (at mid end : ℕ) → IsPart bytes at mid → IsPart bytes mid end → IsPart bytes at end
further bytes at mid end p q = (let l = p.0 in let m = q.0 in omega arith, q.1)

-- an open block, or a new one that isn't empty, brings the loop to an item
pub opened : {V : Type 0} (Item : List ℕ → V → Type 0) (Faults : List ℕ → Fault → Type 0) (bytes : List ℕ) (at place left todo item : ℕ) (values : List V) → Reached Item Faults bytes at place left values → OpensBlock left bytes place (Ok (todo, item)) → (todo ≡ 0 → ⊥) → Reached Item Faults bytes at item todo values × (place ≤ item)
opened {V} Item Faults bytes at place zero todo item values r b some = (
  record {
    within = further bytes at place item r.within b.0;
    so_far = subst (λ (x : List ℕ). Continues Item Faults x todo values) (join_parts bytes at place item r.within b.0) (opens Item Faults (part bytes at place) (part bytes place item) todo values r.so_far b.1 (omega arith));
  },
  b.0.0,
)
opened {V} Item Faults bytes at place (suc left) todo item values r b some =
    (rw (b.0, b.1) r, omega (arith, b.1))

-- a block of no items ends the loop, and the values so far are all
pub closed : {V : Type 0} (Item : List ℕ → V → Type 0) (Faults : List ℕ → Fault → Type 0) (bytes : List ℕ) (at place left todo item : ℕ) (values : List V) → Reached Item Faults bytes at place left values → OpensBlock left bytes place (Ok (todo, item)) → todo ≡ 0 → IsPart bytes at item × IsItems Item 0 (part bytes at item) values
closed {V} Item Faults bytes at place zero todo item values r b none =
    let count : IsCount (part bytes place item) 0 = subst (λ (n : ℕ). IsCount (part bytes place item) n) none b.1 in (
      further bytes at place item r.within b.0,
      subst (λ (x : List ℕ). IsItems Item 0 x values) (join_parts bytes at place item r.within b.0) (closes Item Faults (part bytes at place) (part bytes place item) values r.so_far count),
    )
closed {V} Item Faults bytes at place (suc left) todo item values r b none = absurd (omega (arith, b.0))

-- an item that was read brings the loop behind it
pub went : {V : Type 0} (Item : List ℕ → V → Type 0) (Faults : List ℕ → Fault → Type 0) (bytes : List ℕ) (at item end todo : ℕ) (values : List V) (value : V) → Reached Item Faults bytes at item todo values → (todo ≡ 0 → ⊥) → IsPart bytes item end → Item (part bytes item end) value → Reached Item Faults bytes at end (todo - 1) (values ++ value ∷ [])
went {V} Item Faults bytes at item end todo values value r some q i =
    let e : todo ≡ suc (todo - 1) = omega arith in
    record {
      within = further bytes at item end r.within q;
      so_far = subst (λ (x : List ℕ). Continues Item Faults x (todo - 1) (values ++ value ∷ [])) (join_parts bytes at item end r.within q) (goes Item Faults (part bytes at item) (part bytes item end) (todo - 1) values value (subst (λ (n : ℕ). Continues Item Faults (part bytes at item) n values) e r.so_far) i);
    }

-- a count that was refused is the fault of all the items
pub count_fault : {V : Type 0} (Item : List ℕ → V → Type 0) (Faults : List ℕ → Fault → Type 0) (bytes : List ℕ) (at place left : ℕ) (values : List V) (e : ValueRefused) → Reached Item Faults bytes at place left values → OpensBlock left bytes place (Err e) → IsFault (ItemsFault Item Faults 0) bytes at e
count_fault Item Faults bytes at place zero values e r b = moved CountFault (ItemsFault Item Faults 0) bytes at place e r.within (count_moves Item Faults (part bytes at place) values r.so_far) b
count_fault Item Faults bytes at place (suc left) values e r b = absurd b

-- what is at fault behind the bytes that the loop went over is at fault in the whole
pub moves_item : {V : Type 0} (Item : List ℕ → V → Type 0) (Faults : List ℕ → Fault → Type 0) (bytes : List ℕ) (at item todo : ℕ) (values : List V) → Reached Item Faults bytes at item todo values → (todo ≡ 0 → ⊥) → Moves Faults (ItemsFault Item Faults 0) (part bytes at item)
moves_item {V} Item Faults bytes at item todo values r some =
    let e : todo ≡ suc (todo - 1) = omega arith in
    item_moves Item Faults (part bytes at item) (todo - 1) values (subst (λ (n : ℕ). Continues Item Faults (part bytes at item) n values) e r.so_far)

-- the fault of an item at the loop's place is the fault of all the items
pub item_fault : {V : Type 0} (Item : List ℕ → V → Type 0) (Faults : List ℕ → Fault → Type 0) (bytes : List ℕ) (at item todo : ℕ) (values : List V) (e : ValueRefused) → Reached Item Faults bytes at item todo values → (todo ≡ 0 → ⊥) → IsFault Faults bytes item e → IsFault (ItemsFault Item Faults 0) bytes at e
item_fault Item Faults bytes at item todo values e r some f = moved Faults (ItemsFault Item Faults 0) bytes at item e r.within (moves_item Item Faults bytes at item todo values r some) f

-- an item that was refused at the loop's place refuses all the items, out of memory too
pub item_refusal : {V : Type 0} (Item : List ℕ → V → Type 0) (Faults : List ℕ → Fault → Type 0) (bytes : List ℕ) (at item todo : ℕ) (values : List V) (e : ValueRefused) → Reached Item Faults bytes at item todo values → (todo ≡ 0 → ⊥) → IsRefusal Faults bytes item e → IsRefusal (ItemsFault Item Faults 0) bytes at e
item_refusal Item Faults bytes at item todo values e r some f = moved_refusal Faults (ItemsFault Item Faults 0) bytes at item e r.within (moves_item Item Faults bytes at item todo values r some) f

-- ---- entries

-- a key and the value next to it are an entry
pub entry_at : (Spells : List ℕ → List ℕ → Type 0) (bytes : List ℕ) (item mid end : ℕ) (key value : List ℕ) → IsPart bytes item mid → IsPart bytes mid end → IsText (part bytes item mid) key → Spells (part bytes mid end) value → IsEntry Spells (part bytes item end) (key, value)
entry_at Spells bytes item mid end key value p q k v = record {
  front = part bytes item mid;
  back = part bytes mid end;
  whole = sym (join_parts bytes item mid end p q);
  key = k;
  value = v;
}

-- a fault of the key is one of the entry
pub key_fault : (Faults : List ℕ → Fault → Type 0) (bytes : List ℕ) (item : ℕ) (e : ValueRefused) → IsFault TextFault bytes item e → IsFault (EntryFault Faults) bytes item e
key_fault Faults bytes item e f = same_place TextFault (EntryFault Faults) bytes item e (λ g h. inl h) f

-- a fault of the value behind its key is one of the entry
pub value_fault : (Faults : List ℕ → Fault → Type 0) (bytes : List ℕ) (item mid : ℕ) (key : List ℕ) (e : ValueRefused) → IsPart bytes item mid → IsText (part bytes item mid) key → IsFault Faults bytes mid e → IsFault (EntryFault Faults) bytes item e
value_fault Faults bytes item mid key e p k f = moved Faults (EntryFault Faults) bytes item mid e p (λ rest g h. inr (behind IsText Faults (part bytes item mid) key k rest g h)) f

-- a number takes a byte at least
pub some_groups : (bytes : List ℕ) (n : ℕ) → IsGroups bytes n → 0 < length bytes
some_groups [] n g = absurd g
some_groups (b ∷ bytes) n g = omega arith

-- a text takes some bytes
pub some_text : (bytes : List ℕ) (item mid : ℕ) (key : List ℕ) → IsPart bytes item mid → IsText (part bytes item mid) key → item < mid
some_text bytes item mid key p k =
    let some = some_groups k.counted.front (zigzag (pos (length key))) k.counted.counted.groups in
    let len = length-part bytes item mid p in
    omega (arith, ap length k.counted.whole, length-append k.counted.front key)
