-- A piece has one outcome.
use Rattle.std.proofs.Common.{◌≡◌, ℕ, ◌+◌, ◌^◌, ◌<◌, ◌≤◌, List, ◌++◌, length, take, drop, refl, sym, ap, subst, ◌∙◌, append_assoc, arith, inl, inr}
use Rattle.std.specs.Prelude.{Option, Some, None, Result, Ok, Err}
use Rattle.std.specs.List.{flat_map}
use Rattle.std.proofs.lemmas.Bool.{cases_lt}
use Rattle.std.proofs.lemmas.List.{length-append, length-take, take-append-drop, append_cancel_left}
use Rattle.avro_frame.specs.declared.packs.Message.{Message}
use Rattle.avro_frame.specs.declared.packs.PackRefused.{PackRefused}
use Rattle.avro_frame.specs.declared.packs.PackRefused.TheVariants.{TooMany, TooLarge, NoMemory}
use Rattle.avro_frame.specs.Pack.{u32_bytes, head, buffer, joined, max_bytes, IsPack, Begins, IsPart, InHead, InLength, InBuffer, PassesCount, PassesSize}
use Rattle.avro_frame.specs.Feed.{Packing, Holds, Failed, FeedsBytes, SameFeed, OneFeed}
use Rattle.avro_frame.proofs.Bytes.{length-u32, same_number}
use Rattle.avro_frame.proofs.Walk.{length-head}
use Rattle.avro_frame.proofs.Laws.{same_head, same_buffers, lacked, same_len, one_pack_lem, no_part, no_count, no_size}

-- ---- limits

begins_count : {A : Type 0} (bytes : List ℕ) (serial count : ℕ) (bs : List (List ℕ)) (rest : List ℕ) (n : ℕ) → Begins bytes serial count bs rest → PassesCount bytes n → A
begins_count bytes serial count bs rest n g p =
    let h = same_head serial p.serial count n (flat_map buffer bs ++ rest) p.rest g.serial_fits p.serial_fits (omega (arith, g.few)) p.fits (sym g.whole ∙ p.whole) in
    absurd (omega (arith, h.1, g.few, p.many))

same_begin : (bytes : List ℕ) (m n j k : ℕ) (bs cs : List (List ℕ)) (x y : List ℕ) → Begins bytes m j bs x → Begins bytes n k cs y → flat_map buffer bs ++ x ≡ flat_map buffer cs ++ y
same_begin bytes m n j k bs cs x y g h = (same_head m n j k (flat_map buffer bs ++ x) (flat_map buffer cs ++ y) g.serial_fits h.serial_fits (omega (arith, g.few)) (omega (arith, h.few)) (sym g.whole ∙ h.whole)).2

rest_of : (bs cs : List (List ℕ)) (x y : List ℕ) → bs ≡ cs → flat_map buffer bs ++ x ≡ flat_map buffer cs ++ y → x ≡ y
rest_of bs cs x y p e = append_cancel_left (flat_map buffer cs) x y (ap (λ (t : List (List ℕ)). flat_map buffer t ++ x) (sym p) ∙ e)

-- whole buffers, and after them the bytes `x`, `y` or the next buffer of the other
data Ahead (bs cs : List (List ℕ)) (x y : List ℕ) : Type 0 where
  Same : bs ≡ cs → x ≡ y → Ahead bs cs x y
  First : (b more : List ℕ) → y ≡ buffer b ++ more → length (joined cs) + length b ≤ length (joined bs) → Ahead bs cs x y
  Second : (b more : List ℕ) → x ≡ buffer b ++ more → length (joined bs) + length b ≤ length (joined cs) → Ahead bs cs x y

ahead : (bs cs : List (List ℕ)) (x y : List ℕ) → length (joined bs) ≤ max_bytes → length (joined cs) ≤ max_bytes → flat_map buffer bs ++ x ≡ flat_map buffer cs ++ y → Ahead bs cs x y
ahead bs cs x y p q e =
    elim (cases_lt (length cs) (length bs)) [
      | inl lt ↦ let r = lacked bs cs x y lt (omega arith) (omega arith) e in First r.0 r.1 r.2 r.3
      | inr le ↦
          elim (cases_lt (length bs) (length cs)) [
            | inl lt ↦ let r = lacked cs bs y x lt (omega arith) (omega arith) (sym e) in Second r.0 r.1 r.2 r.3
            | inr ge ↦ let s = same_buffers bs cs x y (omega arith) (omega arith) (omega arith) e in Same s (rest_of bs cs x y s e)
          ]
    ]

meets : (bytes : List ℕ) (m n j k : ℕ) (bs cs : List (List ℕ)) (x y : List ℕ) → Begins bytes m j bs x → Begins bytes n k cs y → Ahead bs cs x y
meets bytes m n j k bs cs x y g h = ahead bs cs x y g.small h.small (same_begin bytes m n j k bs cs x y g h)

-- a buffer is no shorter than its length's bytes
buffer_len : (b more : List ℕ) → 4 ≤ length (buffer b ++ more)
buffer_len b more = omega (arith, length-append (buffer b) more, length-append (u32_bytes (length b)) b, length-u32 (length b))

-- a length whose buffer is there, within the limit, doesn't pass it
no_pass : {A : Type 0} (len : ℕ) (rest b more : List ℕ) (before sum all : ℕ) → len < 2 ^ 32 → u32_bytes len ++ rest ≡ buffer b ++ more → sum ≡ before + len → before + length b ≤ all → all ≤ max_bytes → max_bytes < sum → A
no_pass len rest b more before sum all fits e s within small large =
    let k = same_len b more rest len fits (omega arith) e in
    absurd (omega (arith, k.0))

length_size : {A : Type 0} (bytes : List ℕ) (serial count : ℕ) (bs : List (List ℕ)) (rest : List ℕ) (n : ℕ) (p : PassesSize bytes n) → length (joined bs) ≤ max_bytes → length rest < 4 → Ahead bs p.buffers rest (u32_bytes p.len ++ p.rest) → A
length_size bytes serial count bs rest n p small short (Same s e) = absurd (omega (arith, ap length e, length-append (u32_bytes p.len) p.rest, length-u32 p.len))
length_size bytes serial count bs rest n p small short (First b more e within) = no_pass p.len p.rest b more (length (joined p.buffers)) n (length (joined bs)) p.fits e p.sum within small p.large
length_size bytes serial count bs rest n p small short (Second b more e within) = absurd (omega (arith, ap length e, buffer_len b more))

same_u32 : (m n : ℕ) (x y : List ℕ) → m < 2 ^ 32 → n < 2 ^ 32 → u32_bytes m ++ x ≡ u32_bytes n ++ y → m ≡ n
same_u32 m n x y p q e = (same_number m n x y p q e).0

buffer_size : {A : Type 0} (bytes : List ℕ) (bs : List (List ℕ)) (len : ℕ) (rest : List ℕ) (n : ℕ) (p : PassesSize bytes n) → length (joined bs) ≤ max_bytes → len < 2 ^ 32 → length rest < len → length (joined bs) + len ≤ max_bytes → Ahead bs p.buffers (u32_bytes len ++ rest) (u32_bytes p.len ++ p.rest) → A
buffer_size bytes bs len rest n p small fits short sum (Same s e) =
    let k = same_u32 len p.len rest p.rest fits p.fits e in
    absurd (omega (arith, p.sum, p.large, ap (λ (t : List (List ℕ)). length (joined t)) s))
buffer_size bytes bs len rest n p small fits short sum (First b more e within) = no_pass p.len p.rest b more (length (joined p.buffers)) n (length (joined bs)) p.fits e p.sum within small p.large
buffer_size bytes bs len rest n p small fits short sum (Second b more e within) =
    let all = p.begun.small in
    let k = same_len b more rest len fits (omega arith) e in
    absurd (omega (arith, k.0, ap length k.1, length-append b more))

-- a part of a pack doesn't pass the limit of buffers
pub part_count : {A : Type 0} (bytes : List ℕ) (n : ℕ) → IsPart bytes → PassesCount bytes n → A
part_count bytes n (InHead short) p = absurd (omega (arith, ap length p.whole, length-append (head p.serial n) p.rest, length-head p.serial n))
part_count bytes n (InLength serial count bs rest g short) p = begins_count bytes serial count bs rest n g p
part_count bytes n (InBuffer serial count bs len rest g fits short sum) p = begins_count bytes serial count bs (u32_bytes len ++ rest) n g p

-- a part of a pack doesn't pass the limit of bytes
pub part_size : {A : Type 0} (bytes : List ℕ) (n : ℕ) → IsPart bytes → PassesSize bytes n → A
part_size bytes n (InHead short) p =
    absurd (omega (arith, ap length p.begun.whole, length-append (head p.serial p.count) (flat_map buffer p.buffers ++ (u32_bytes p.len ++ p.rest)), length-head p.serial p.count))
part_size bytes n (InLength serial count bs rest g short) p =
    length_size bytes serial count bs rest n p g.small short (meets bytes serial p.serial count p.count bs p.buffers rest (u32_bytes p.len ++ p.rest) g p.begun)
part_size bytes n (InBuffer serial count bs len rest g fits short sum) p =
    buffer_size bytes bs len rest n p g.small fits short sum (meets bytes serial p.serial count p.count bs p.buffers (u32_bytes len ++ rest) (u32_bytes p.len ++ p.rest) g p.begun)

-- the same bytes pass the limit of buffers with one count
pub same_count : (bytes : List ℕ) (m n : ℕ) → PassesCount bytes m → PassesCount bytes n → m ≡ n
same_count bytes m n p q = (same_head p.serial q.serial m n p.rest q.rest p.serial_fits q.serial_fits p.fits q.fits (sym p.whole ∙ q.whole)).1

-- what passes the limit of buffers doesn't pass that of bytes
pub count_size : {A : Type 0} (bytes : List ℕ) (m n : ℕ) → PassesCount bytes m → PassesSize bytes n → A
count_size bytes m n p q = begins_count bytes q.serial q.count q.buffers (u32_bytes q.len ++ q.rest) m q.begun p

same_sum : (bytes : List ℕ) (m n : ℕ) (p : PassesSize bytes m) (q : PassesSize bytes n) → Ahead p.buffers q.buffers (u32_bytes p.len ++ p.rest) (u32_bytes q.len ++ q.rest) → m ≡ n
same_sum bytes m n p q (Same s e) =
    let k = same_u32 p.len q.len p.rest q.rest p.fits q.fits e in
    omega (arith, p.sum, q.sum, ap (λ (t : List (List ℕ)). length (joined t)) s)
same_sum bytes m n p q (First b more e within) = no_pass q.len q.rest b more (length (joined q.buffers)) n (length (joined p.buffers)) q.fits e q.sum within p.begun.small q.large
same_sum bytes m n p q (Second b more e within) = no_pass p.len p.rest b more (length (joined p.buffers)) m (length (joined q.buffers)) p.fits e p.sum within q.begun.small p.large

-- the same bytes pass the limit of bytes with one sum
pub same_size : (bytes : List ℕ) (m n : ℕ) → PassesSize bytes m → PassesSize bytes n → m ≡ n
same_size bytes m n p q =
    same_sum bytes m n p q (meets bytes p.serial q.serial p.count q.count p.buffers q.buffers (u32_bytes p.len ++ p.rest) (u32_bytes q.len ++ q.rest) p.begun q.begun)

-- ---- pieces

-- the bytes up to a place, and those after it
cut_at : (old piece : List ℕ) (n : ℕ) → (old ++ take n piece) ++ drop n piece ≡ old ++ piece
cut_at old piece n = append_assoc old (take n piece) (drop n piece) ∙ ap (λ (t : List ℕ). old ++ t) (take-append-drop n piece)

part_pack : {A : Type 0} (old piece : List ℕ) (n m : ℕ) (p : List ℕ) → IsPack (old ++ take n piece) m p → IsPart (old ++ piece) → A
part_pack old piece n m p i part = absurd (no_part (old ++ take n piece) (drop n piece) m p i (subst (λ (t : List ℕ). IsPart t) (sym (cut_at old piece n)) part))

count_pack : {A : Type 0} (old piece : List ℕ) (n m k : ℕ) (p : List ℕ) → IsPack (old ++ take n piece) m p → PassesCount (old ++ piece) k → A
count_pack old piece n m k p i c = absurd (no_count (old ++ take n piece) (drop n piece) m k p i (subst (λ (t : List ℕ). PassesCount t k) (sym (cut_at old piece n)) c))

size_pack : {A : Type 0} (old piece : List ℕ) (n m k : ℕ) (p : List ℕ) → IsPack (old ++ take n piece) m p → PassesSize (old ++ piece) k → A
size_pack old piece n m k p i c = absurd (no_size (old ++ take n piece) (drop n piece) m k p i (subst (λ (t : List ℕ). PassesSize t k) (sym (cut_at old piece n)) c))

pack_pack : (old piece : List ℕ) (j k m n : ℕ) (p q : List ℕ) → j ≤ length piece → k ≤ length piece → IsPack (old ++ take j piece) m p → IsPack (old ++ take k piece) n q → (j ≡ k) × (m ≡ n) × (p ≡ q)
pack_pack old piece j k m n p q within within' a b =
    let s = one_pack_lem (old ++ take j piece) (old ++ take k piece) (drop j piece) (drop k piece) m n p q a b (cut_at old piece j ∙ sym (cut_at old piece k)) in
    (omega (arith, ap length s.0, length-append old (take j piece), length-append old (take k piece), length-take j piece, length-take k piece), s.1, s.2)

bytes_feed : (old piece : List ℕ) (r s : Result (ℕ × Option Message) PackRefused) (new new' : Packing) → FeedsBytes old piece r new → FeedsBytes old piece s new' → SameFeed r new s new'
bytes_feed old piece (Ok (j, None)) (Ok (k, None)) new new' p q = (p.0 ∙ sym q.0, p.2 ∙ sym q.2)
bytes_feed old piece (Ok (j, None)) (Ok (k, Some n)) new new' p q = part_pack old piece k n.serial n.payload.items q.1 p.1
bytes_feed old piece (Ok (j, Some m)) (Ok (k, None)) new new' p q = part_pack old piece j m.serial m.payload.items p.1 q.1
bytes_feed old piece (Ok (j, Some m)) (Ok (k, Some n)) new new' p q =
    let e = pack_pack old piece j k m.serial n.serial m.payload.items n.payload.items p.0 q.0 p.1 q.1 in
    (e.0, e.1, e.2, p.2 ∙ sym q.2)
bytes_feed old piece (Ok (j, None)) (Err (TooMany k)) new new' p q = part_count (old ++ piece) k p.1 q.0
bytes_feed old piece (Ok (j, None)) (Err (TooLarge k)) new new' p q = part_size (old ++ piece) k p.1 q.0
bytes_feed old piece (Ok (j, None)) (Err NoMemory) new new' p q = tt
bytes_feed old piece (Ok (j, Some m)) (Err (TooMany k)) new new' p q = count_pack old piece j m.serial k m.payload.items p.1 q.0
bytes_feed old piece (Ok (j, Some m)) (Err (TooLarge k)) new new' p q = size_pack old piece j m.serial k m.payload.items p.1 q.0
bytes_feed old piece (Ok (j, Some m)) (Err NoMemory) new new' p q = tt
bytes_feed old piece (Err (TooMany k)) (Ok (j, None)) new new' p q = part_count (old ++ piece) k q.1 p.0
bytes_feed old piece (Err (TooLarge k)) (Ok (j, None)) new new' p q = part_size (old ++ piece) k q.1 p.0
bytes_feed old piece (Err (TooMany k)) (Ok (j, Some m)) new new' p q = count_pack old piece j m.serial k m.payload.items q.1 p.0
bytes_feed old piece (Err (TooLarge k)) (Ok (j, Some m)) new new' p q = size_pack old piece j m.serial k m.payload.items q.1 p.0
bytes_feed old piece (Err (TooMany k)) (Err (TooMany l)) new new' p q =
    let e = same_count (old ++ piece) k l p.0 q.0 in
    (e, p.1 ∙ ap (λ (n : ℕ). Failed (TooMany n)) e ∙ sym q.1)
bytes_feed old piece (Err (TooMany k)) (Err (TooLarge l)) new new' p q = count_size (old ++ piece) k l p.0 q.0
bytes_feed old piece (Err (TooLarge k)) (Err (TooMany l)) new new' p q = count_size (old ++ piece) l k q.0 p.0
bytes_feed old piece (Err (TooLarge k)) (Err (TooLarge l)) new new' p q =
    let e = same_size (old ++ piece) k l p.0 q.0 in
    (e, p.1 ∙ ap (λ (n : ℕ). Failed (TooLarge n)) e ∙ sym q.1)
bytes_feed old piece (Err (TooMany k)) (Err NoMemory) new new' p q = tt
bytes_feed old piece (Err (TooLarge k)) (Err NoMemory) new new' p q = tt
bytes_feed old piece (Err NoMemory) s new new' p q = tt

failed_same : (e : PackRefused) → SameFeed (Err e) (Failed e) (Err e) (Failed e)
failed_same (TooMany k) = (refl, refl)
failed_same (TooLarge k) = (refl, refl)
failed_same NoMemory = tt

failed_feed : (e : PackRefused) (r s : Result (ℕ × Option Message) PackRefused) (new new' : Packing) → (r ≡ Err e) × (new ≡ Failed e) → (s ≡ Err e) × (new' ≡ Failed e) → SameFeed r new s new'
failed_feed e r s new new' p q = rw (p.0, p.1, q.0, q.1) (failed_same e)

-- the same piece after the same bytes is answered the same, but for out of memory
pub one_feed_lem : OneFeed
one_feed_lem (Holds old) piece r s new new' p q = bytes_feed old piece r s new new' p q
one_feed_lem (Failed e) piece r s new new' p q = failed_feed e r s new new' p q
