-- The walk over a pack's numbers keeps its place.
use Rattle.std.proofs.Common.{◌≡◌, ℕ, ◌+◌, ◌-◌, ◌^◌, ◌<◌, ◌≤◌, List, [], ◌∷◌, ◌++◌, length, take, drop, refl, sym, ap, subst, ◌∙◌, append_assoc, add-zero, zero-add, arith, inl, inr, Option, Some, None}
use Rattle.std.specs.Int.{w32, from_be_bytes}
use Rattle.std.specs.List.{flat_map}
use Rattle.std.proofs.lemmas.Bool.{cases_lt}
use Rattle.std.proofs.lemmas.Grind.{flat_map-append}
use Rattle.std.proofs.lemmas.List.{append-nil, take_at, drop_at, take_all, take-append-drop, length-append, length-take, length-drop, take_rest, take-take, drop-take}
use Rattle.avro_frame.specs.Pack.{u32_bytes, head, buffer, joined, max_buffers, max_bytes, IsPart, InHead, InLength, InBuffer, PassesSize, PassesCount}
use Rattle.avro_frame.specs.declared.pending.Due.TheVariants.{Head, Length, End}
use Rattle.avro_frame.specs.declared.pending.Due.{Due}
use Rattle.avro_frame.specs.declared.pending.Cursor.{Cursor}
use Rattle.avro_frame.specs.declared.pending.Step.TheVariants.{More, Ends, Passes}
use Rattle.avro_frame.specs.declared.pending.Step.{Step}
use Rattle.avro_frame.specs.Pending.{opening, opened_count, opened_len, InBuffers, IsDue, IsAt, IsEnded, IsBehind, Steps, Fills, PassesLimit}
use Rattle.avro_frame.specs.Feed.{Refuses, Failed}
use Rattle.avro_frame.specs.declared.packs.PackRefused.{PackRefused}
use Rattle.avro_frame.specs.declared.packs.PackRefused.TheVariants.{TooMany, TooLarge, NoMemory}
use Rattle.avro_frame.proofs.Bytes.{IsBytes, IsBytes-take, length-u32, u32_back, u32_same, u32_below}

-- eight bytes are a head
pub head_of : (held : List ℕ) (n : ℕ) → IsBytes held → length held ≡ 8 → u32_bytes n ≡ take 4 (drop 4 held) → (serial : ℕ) × (serial < 2 ^ 32) × (held ≡ head serial n)
head_of held n fits len e =
    let serial : ℕ = from_be_bytes w32 (take 4 held) in
    let front : u32_bytes serial ≡ take 4 held = u32_back (take 4 held) serial (omega (arith, length-take 4 held)) (IsBytes-take 4 held fits) refl in
    let back : u32_bytes n ≡ drop 4 held = e ∙ take_all 4 (drop 4 held) (omega (arith, length-drop 4 held)) in
    (serial, u32_below (take 4 held) (IsBytes-take 4 held fits), sym (rw (front, back) (take-append-drop 4 held)))

-- a head has eight bytes
pub length-head : (serial count : ℕ) → length (head serial count) ≡ 8
length-head serial count = length-append (u32_bytes serial) (u32_bytes count) ∙ omega (arith, length-u32 serial, length-u32 count)

-- after the head
pub behind_head : (held : List ℕ) (serial count : ℕ) → held ≡ head serial count → serial < 2 ^ 32 → count ≤ max_buffers → (ahead : ℕ) → InBuffers held (8 + ahead) 0 count ahead
behind_head held serial count e fits few ahead = record {
  serial = serial;
  buffers = [];
  opened = None;
  part = [];
  whole = rw (zero-add, append-nil) e;
  due = omega (arith, ap length e, length-head serial count);
  within = omega arith;
  sum_is = refl;
  serial_fits = fits;
  few = omega arith;
  small = omega arith;
}

-- whole buffers, and the rest
pub record Closed (held : List ℕ) (sum left : ℕ) (rest : List ℕ) : Type 0 where
  pub serial : ℕ
  pub buffers : List (List ℕ)
  pub whole : held ≡ head serial (length buffers + left) ++ (flat_map buffer buffers ++ rest)
  pub sum_is : sum ≡ length (joined buffers)
  pub serial_fits : serial < 2 ^ 32
  pub few : length buffers + left ≤ max_buffers

-- one buffer more
one_more : (buffers : List (List ℕ)) (b : List ℕ) → flat_map buffer (buffers ++ b ∷ []) ≡ flat_map buffer buffers ++ buffer b
one_more buffers b = flat_map-append buffer buffers (b ∷ []) ∙ ap (λ (x : List ℕ). flat_map buffer buffers ++ x) (append-nil (buffer b))

joined_more : (buffers : List (List ℕ)) (b : List ℕ) → length (joined (buffers ++ b ∷ [])) ≡ length (joined buffers) + length b
joined_more buffers b =
    ap length (flat_map-append (λ (bytes : List ℕ). bytes) buffers (b ∷ []) ∙ ap (λ (x : List ℕ). joined buffers ++ x) (append-nil b)) ∙ length-append (joined buffers) b

close_at : (held : List ℕ) (serial left sum : ℕ) (buffers : List (List ℕ)) (opened : Option ℕ) (part : List ℕ) → held ≡ head serial (length buffers + opened_count opened + left) ++ (flat_map buffer buffers ++ (opening opened ++ part)) → sum ≡ length (joined buffers) + opened_len opened → serial < 2 ^ 32 → length buffers + opened_count opened + left ≤ max_buffers → opened_len opened ≤ length part → Closed held sum left (drop (opened_len opened) part)
close_at held serial left sum buffers None part whole sum_is fits few long = record {
  serial = serial;
  buffers = buffers;
  whole = rw add-zero at whole;
  sum_is = sum_is ∙ add-zero _;
  serial_fits = fits;
  few = omega arith;
}
close_at held serial left sum buffers (Some len) part whole sum_is fits few long =
    let b : List ℕ = take len part in
    let b_len : length b ≡ len = omega (arith, length-take len part) in
    let more : length (buffers ++ b ∷ []) ≡ length buffers + 1 = length-append buffers (b ∷ []) in
    record {
      serial = serial;
      buffers = buffers ++ b ∷ [];
      whole = whole ∙ ap (λ (x : List ℕ). head serial (length buffers + 1 + left) ++ (flat_map buffer buffers ++ (u32_bytes len ++ x))) (sym (take-append-drop len part))
          ∙ rw (one_more buffers b, more, b_len, append_assoc (flat_map buffer buffers), append_assoc (u32_bytes len)) refl;
      sum_is = omega (arith, joined_more buffers b);
      serial_fits = fits;
      few = omega arith;
    }

-- the opened buffer is all there, so it is one of the whole ones
pub close : (held : List ℕ) (need sum left ahead : ℕ) → (i : InBuffers held need sum left ahead) → opened_len i.opened ≤ length i.part → Closed held sum left (drop (opened_len i.opened) i.part)
close held need sum left ahead i long = close_at held i.serial left sum i.buffers i.opened i.part i.whole i.sum_is i.serial_fits i.few long

-- where all of the opened buffer and what comes ahead of the next step is there
pub closed_here : (held : List ℕ) (need sum left ahead : ℕ) → InBuffers held need sum left ahead → length held ≡ need → (rest : List ℕ) × Closed held sum left rest × (length rest ≡ ahead)
closed_here held need sum left ahead i here =
    let d = i.due in (
      drop (opened_len i.opened) i.part,
      close held need sum left ahead i (omega arith),
      omega (arith, length-drop (opened_len i.opened) i.part),
    )

length-closed : (held rest : List ℕ) (sum left : ℕ) → (k : Closed held sum left rest) → held ≡ (head k.serial (length k.buffers + left) ++ flat_map buffer k.buffers) ++ rest
length-closed held rest sum left k = k.whole ∙ sym (append_assoc (head k.serial (length k.buffers + left)) (flat_map buffer k.buffers) rest)

-- the next length is the last number
pub last_number : (held rest : List ℕ) (need sum left n : ℕ) → Closed held sum left rest → length rest ≡ 4 → length held ≡ need → u32_bytes n ≡ take 4 (drop (need - 4) held) → u32_bytes n ≡ rest
last_number held rest need sum left n k len here e =
    let front : List ℕ = head k.serial (length k.buffers + left) ++ flat_map buffer k.buffers in
    let whole : held ≡ front ++ rest = length-closed held rest sum left k in
    let at : length front ≡ need - 4 = omega (arith, ap length whole, length-append front rest) in
    e ∙ ap (λ (x : List ℕ). take 4 (drop (need - 4) x)) whole ∙ ap (take 4) (drop_at front rest (need - 4) at) ∙ take_all 4 rest (omega arith)

-- the number that was read is the length of the next buffer
pub next_buffer : (held : List ℕ) (need sum left n : ℕ) → InBuffers held need sum left 4 → length held ≡ need → u32_bytes n ≡ take 4 (drop (need - 4) held) → (rest : List ℕ) × Closed held sum left rest × (u32_bytes n ≡ rest)
next_buffer held need sum left n i here e =
    let k = closed_here held need sum left 4 i here in
    (k.0, k.1, last_number held k.0 need sum left n k.1 k.2 here e)

-- the next buffer is opened
pub opens : (held rest : List ℕ) (need sum left more n ahead : ℕ) → Closed held sum left rest → left ≡ more + 1 → u32_bytes n ≡ rest → length held ≡ need → sum + n ≤ max_bytes → InBuffers held (need + (n + ahead)) (sum + n) more ahead
opens held rest need sum left more n ahead k more_is e here small = record {
  serial = k.serial;
  buffers = k.buffers;
  opened = Some n;
  part = [];
  whole = k.whole ∙ rw (← e, append-nil (u32_bytes n)) (ap (λ (c : ℕ). head k.serial c ++ (flat_map buffer k.buffers ++ u32_bytes n)) (omega arith));
  due = omega arith;
  within = omega arith;
  sum_is = ap (λ (s : ℕ). s + n) k.sum_is;
  serial_fits = k.serial_fits;
  few = let f = k.few in omega arith;
  small = small;
}

-- a length that makes the sum too large passes the limit of bytes
pub passes_size : (held rest : List ℕ) (sum left n : ℕ) → Closed held sum left rest → 0 < left → u32_bytes n ≡ rest → n < 2 ^ 32 → sum ≤ max_bytes → max_bytes < sum + n → PassesSize held (sum + n)
passes_size held rest sum left n k some e fits small large = record {
  serial = k.serial;
  count = length k.buffers + left;
  buffers = k.buffers;
  len = n;
  rest = [];
  begun = record {
    whole = rw (append-nil, e) k.whole;
    serial_fits = k.serial_fits;
    few = k.few;
    lacking = omega arith;
    small = let s = k.sum_is in omega arith;
  };
  fits = fits;
  sum = ap (λ (s : ℕ). s + n) k.sum_is;
  large = large;
}

-- a head that counts too many buffers passes the limit of buffers
pub head_passes : (held : List ℕ) (n : ℕ) → IsBytes held → length held ≡ 8 → u32_bytes n ≡ take 4 (drop 4 held) → n < 2 ^ 32 → max_buffers < n → PassesCount held n
head_passes held n fits len e below many =
    let h = head_of held n fits len e in
    record {
      serial = h.0;
      rest = [];
      whole = rw (append-nil (head h.0 n)) h.2;
      serial_fits = h.1;
      fits = below;
      many = many;
    }

-- a head that counts few enough leads on to the buffers
pub head_opens : (held : List ℕ) (n ahead : ℕ) → IsBytes held → length held ≡ 8 → u32_bytes n ≡ take 4 (drop 4 held) → n ≤ max_buffers → InBuffers held (8 + ahead) 0 n ahead
head_opens held n ahead fits len e few =
    let h = head_of held n fits len e in
    behind_head held h.0 n h.2 h.1 few ahead

-- the pack ends
ended : (held rest : List ℕ) (sum : ℕ) → Closed held sum 0 rest → length rest ≡ 0 → sum ≤ max_bytes → IsEnded held
ended held [] sum k none small = record {
  serial = k.serial;
  buffers = k.buffers;
  whole = rw (add-zero, append-nil (flat_map buffer k.buffers)) at k.whole;
  serial_fits = k.serial_fits;
  few = let f = k.few in omega arith;
  small = let s = k.sum_is in omega arith;
}
ended held (x ∷ rest) sum k none small = absurd (omega arith)

-- where no buffer is left and all bytes are there, the pack is whole
pub ends : (held : List ℕ) (need sum : ℕ) → InBuffers held need sum 0 0 → length held ≡ need → IsEnded held
ends held need sum i here =
    let k = closed_here held need sum 0 0 i here in
    ended held k.0 sum k.1 k.2 i.small

-- bytes before the next step are less than a pack
opened_part : (held : List ℕ) (serial left sum : ℕ) (buffers : List (List ℕ)) (opened : Option ℕ) (part : List ℕ) → held ≡ head serial (length buffers + opened_count opened + left) ++ (flat_map buffer buffers ++ (opening opened ++ part)) → sum ≡ length (joined buffers) + opened_len opened → serial < 2 ^ 32 → length buffers + opened_count opened + left ≤ max_buffers → sum ≤ max_bytes → length part < opened_len opened → IsPart held
opened_part held serial left sum buffers None part whole sum_is fits few small short = absurd (omega arith)
opened_part held serial left sum buffers (Some len) part whole sum_is fits few small short =
    InBuffer serial (length buffers + 1 + left) buffers len part (record {
      whole = whole;
      serial_fits = fits;
      few = few;
      lacking = omega arith;
      small = omega arith;
    }) (omega arith) short (omega arith)

length_part : (held rest : List ℕ) (sum left : ℕ) → Closed held sum left rest → 0 < left → length rest < 4 → sum ≤ max_bytes → IsPart held
length_part held rest sum left k some short small =
    let s = k.sum_is in
    InLength k.serial (length k.buffers + left) k.buffers rest (record {
      whole = k.whole;
      serial_fits = k.serial_fits;
      few = k.few;
      lacking = omega arith;
      small = omega arith;
    }) short

-- among buffers, bytes before the next step are a part of a pack
pub buffers_part : (held : List ℕ) (need sum left ahead : ℕ) → InBuffers held need sum left ahead → length held < need → ahead ≤ 4 → (0 < ahead → 0 < left) → IsPart held
buffers_part held need sum left ahead i behind four more =
    elim (cases_lt (length i.part) (opened_len i.opened)) [
      | inl lt ↦ opened_part held i.serial left sum i.buffers i.opened i.part i.whole i.sum_is i.serial_fits i.few i.small lt
      | inr le ↦
          let d = i.due in
          let some : 0 < ahead = omega arith in
          let short : length (drop (opened_len i.opened) i.part) < 4 = omega (arith, length-drop (opened_len i.opened) i.part) in
          length_part held (drop (opened_len i.opened) i.part) sum left (close held need sum left ahead i le) (more some) short i.small
    ]

-- wherever the next step is due, fewer bytes are a part of a pack
pub part_of : (held : List ℕ) (need sum : ℕ) (due : Due) → IsDue held need sum due → length held < need → IsPart held
part_of held need sum Head i behind = InHead (omega (arith, i.0))
part_of held need sum (Length left) i behind = buffers_part held need sum left 4 i.0 behind (omega arith) (λ _. i.1)
part_of held need sum End i behind = buffers_part held need sum 0 0 i behind (omega arith) (λ h. absurd (omega (arith, h)))

-- more bytes, up to the next step
more_bytes : (held more : List ℕ) (need sum left ahead : ℕ) → InBuffers held need sum left ahead → length held + length more ≤ need → InBuffers (held ++ more) need sum left ahead
more_bytes held more need sum left ahead i within =
    let d = i.due in
    let grown : length (held ++ more) ≡ length held + length more = length-append held more in
    let part : length (i.part ++ more) ≡ length i.part + length more = length-append i.part more in
    record {
      serial = i.serial;
      buffers = i.buffers;
      opened = i.opened;
      part = i.part ++ more;
      whole = ap (λ (x : List ℕ). x ++ more) i.whole ∙ simp append_assoc;
      due = omega arith;
      within = omega arith;
      sum_is = i.sum_is;
      serial_fits = i.serial_fits;
      few = i.few;
      small = i.small;
    }

-- bytes that do not pass the next step leave it due
pub advance : (held more : List ℕ) (need sum : ℕ) (due : Due) → IsDue held need sum due → length held + length more ≤ need → IsDue (held ++ more) need sum due
advance held more need sum Head i within = (i.0, i.1, omega (arith, i.0, length-append held more))
advance held more need sum (Length left) i within = (more_bytes held more need sum left 4 i.0 within, i.1)
advance held more need sum End i within = more_bytes held more need sum 0 0 i within

-- a step that goes on was due after more bytes
pub room_left : (held after : List ℕ) (need : ℕ) (due : Due) (new : Cursor) → IsBehind held need due → Steps after due More new → length held < need
room_left held after need Head new behind s = behind
room_left held after need (Length left) new behind s = behind
room_left held after need End new behind s = absurd s

-- no step is due yet where bytes are lacking
pub behind_of : (held : List ℕ) (need : ℕ) (due : Due) → length held < need → IsBehind held need due
behind_of held need Head lt = lt
behind_of held need (Length left) lt = lt
behind_of held need End lt = omega arith

-- after a step that goes on, the cursor is where the next one is due
pub goes_on : (held : List ℕ) (due : Due) (new : Cursor) → Steps held due More new → IsAt held new × IsBehind held new.need new.due
goes_on held Head new s = s
goes_on held (Length left) new s = s
goes_on held End new s = absurd s

-- what the last step of a piece brought
pub found_of : (old piece held : List ℕ) (n : ℕ) (due : Due) (found : Step) (new : Cursor) → Steps held due found new → (found ≡ More → ⊥) → Fills old piece n found held new
found_of old piece held n due More new s stops = absurd (stops refl)
found_of old piece held n Head Ends new s stops = s
found_of old piece held n (Length left) Ends new s stops = s
found_of old piece held n End Ends new s stops = s
found_of old piece held n Head (Passes e) new s stops = s
found_of old piece held n (Length left) (Passes e) new s stops = s
found_of old piece held n End (Passes e) new s stops = s

-- more of a piece
pub piece_more : (old held new piece : List ℕ) (taken room : ℕ) → taken + room ≤ length piece → held ≡ old ++ take taken piece → new ≡ held ++ take room (take (length piece - taken) (drop taken piece)) → new ≡ old ++ take (taken + room) piece
piece_more old held new piece taken room within e f =
    let whole : take (length piece - taken) (drop taken piece) ≡ drop taken piece = take_rest piece taken in
    let front : take taken (take (taken + room) piece) ≡ take taken piece = take-take taken (taken + room) piece (omega arith) in
    let back : drop taken (take (taken + room) piece) ≡ take room (drop taken piece) = drop-take taken room piece in
    let parts : take taken piece ++ take room (drop taken piece) ≡ take (taken + room) piece = rw (← front, ← back) (take-append-drop taken (take (taken + room) piece)) in
    rw (f, whole, e, append_assoc old, parts) refl

-- ---- the buffers again

-- a buffer takes four bytes more than it holds
pub length-buffer : (b : List ℕ) → length (buffer b) ≡ 4 + length b
length-buffer b = length-append (u32_bytes (length b)) b ∙ omega (arith, length-u32 (length b))

-- what the first four bytes say
pub first_of : (bytes first rest : List ℕ) (n : ℕ) → length first < 2 ^ 32 → n < 2 ^ 32 → u32_bytes n ≡ take 4 bytes → bytes ≡ buffer first ++ rest → (n ≡ length first) × (drop 4 bytes ≡ first ++ rest)
first_of bytes first rest n small fits e f =
    let g : bytes ≡ u32_bytes (length first) ++ (first ++ rest) = f ∙ append_assoc (u32_bytes (length first)) first rest in
    let front : take 4 bytes ≡ u32_bytes (length first) = ap (take 4) g ∙ take_at (u32_bytes (length first)) (first ++ rest) 4 (length-u32 (length first)) in
    (u32_same n (length first) fits small (e ∙ front), ap (drop 4) g ∙ drop_at (u32_bytes (length first)) (first ++ rest) 4 (length-u32 (length first)))

-- the loop over the buffers: what is left of them, and the payload so far
abbrev pub Joins : List ℕ → List ℕ → List ℕ → Type 0
Joins bytes rest payload = (buffers : List (List ℕ)) → length (joined buffers) < 2 ^ 32 → bytes ≡ flat_map buffer buffers → (left : List (List ℕ)) × (rest ≡ flat_map buffer left) × (joined buffers ≡ payload ++ joined left)

joins_left : (rest payload others first : List ℕ) (left : List (List ℕ)) (total : List ℕ) → length total < 2 ^ 32 → rest ≡ flat_map buffer left → total ≡ payload ++ joined left → length others < length rest → ((b : List ℕ) (r : List ℕ) → length b < 2 ^ 32 → rest ≡ buffer b ++ r → (first ≡ b) × (others ≡ r)) → (after : List (List ℕ)) × (others ≡ flat_map buffer after) × (total ≡ (payload ++ first) ++ joined after)
joins_left rest payload others first [] total fits e f shorter found = absurd (omega (arith, ap length e))
joins_left rest payload others first (b ∷ bs) total fits e f shorter found =
    let small : length b < 2 ^ 32 = omega (arith, ap length f, length-append payload (b ++ joined bs), length-append b (joined bs)) in
    let g = found b (flat_map buffer bs) small e in
    (bs, g.1, f ∙ rw (g.0, append_assoc payload b (joined bs)) refl)

-- the first buffer of what is left is joined to the payload
pub joins_more : (bytes rest payload others first : List ℕ) → Joins bytes rest payload → length others < length rest → ((b : List ℕ) (r : List ℕ) → length b < 2 ^ 32 → rest ≡ buffer b ++ r → (first ≡ b) × (others ≡ r)) → Joins bytes others (payload ++ first)
joins_more bytes rest payload others first so_far shorter found buffers fits e =
    let k = so_far buffers fits e in
    joins_left rest payload others first k.0 (joined buffers) fits k.1 k.2 shorter found

joins_none : (rest payload : List ℕ) (left : List (List ℕ)) (total : List ℕ) → length total < 2 ^ 32 → rest ≡ flat_map buffer left → total ≡ payload ++ joined left → ((b : List ℕ) (r : List ℕ) → length b < 2 ^ 32 → rest ≡ buffer b ++ r → ⊥) → payload ≡ total
joins_none rest payload [] total fits e f none = sym (f ∙ append-nil payload)
joins_none rest payload (b ∷ bs) total fits e f none =
    absurd (none b (flat_map buffer bs) (omega (arith, ap length f, length-append payload (b ++ joined bs), length-append b (joined bs))) e)

-- where no buffer is left, the payload is all of them joined
pub joins_all : (bytes rest payload : List ℕ) → Joins bytes rest payload → ((b : List ℕ) (r : List ℕ) → length b < 2 ^ 32 → rest ≡ buffer b ++ r → ⊥) → (buffers : List (List ℕ)) → length (joined buffers) < 2 ^ 32 → bytes ≡ flat_map buffer buffers → payload ≡ joined buffers
joins_all bytes rest payload so_far none buffers fits e =
    let k = so_far buffers fits e in
    joins_none rest payload k.0 (joined buffers) fits k.1 k.2 none

-- ---- the contract of a piece

-- a front as long as the piece is the piece
pub all_taken : (piece : List ℕ) (n : ℕ) → n ≡ length piece → take n piece ≡ piece
all_taken piece n e = take_all n piece (omega arith)

more_behind : (held rest more : List ℕ) (serial n : ℕ) → held ≡ head serial n ++ rest → held ++ more ≡ head serial n ++ (rest ++ more)
more_behind held rest more serial n e = ap (λ (x : List ℕ). x ++ more) e ∙ append_assoc (head serial n) rest more

count_more : (held more : List ℕ) (n : ℕ) → PassesCount held n → PassesCount (held ++ more) n
count_more held more n p = record {
  serial = p.serial;
  rest = p.rest ++ more;
  whole = more_behind held p.rest more p.serial n p.whole;
  serial_fits = p.serial_fits;
  fits = p.fits;
  many = p.many;
}

size_more : (held more : List ℕ) (n : ℕ) → PassesSize held n → PassesSize (held ++ more) n
size_more held more n p = record {
  serial = p.serial;
  count = p.count;
  buffers = p.buffers;
  len = p.len;
  rest = p.rest ++ more;
  begun = record {
    whole = ap (λ (x : List ℕ). x ++ more) p.begun.whole ∙ simp append_assoc;
    serial_fits = p.begun.serial_fits;
    few = p.begun.few;
    lacking = p.begun.lacking;
    small = p.begun.small;
  };
  fits = p.fits;
  sum = p.sum;
  large = p.large;
}

-- a front of the piece and the rest of it, after the old bytes, are the whole piece
pub whole_piece : (old piece : List ℕ) (n : ℕ) → (old ++ take n piece) ++ drop n piece ≡ old ++ piece
whole_piece old piece n = append_assoc old (take n piece) (drop n piece) ∙ ap (λ (x : List ℕ). old ++ x) (take-append-drop n piece)

-- bytes that pass a limit in a front of the piece refuse the piece
pub refused_of : (old piece : List ℕ) (n : ℕ) (e : PackRefused) → PassesLimit (old ++ take n piece) e → Refuses old piece e (Failed e)
refused_of old piece n (TooMany k) p = (subst (λ (x : List ℕ). PassesCount x k) (whole_piece old piece n) (count_more (old ++ take n piece) (drop n piece) k p), refl)
refused_of old piece n (TooLarge k) p = (subst (λ (x : List ℕ). PassesSize x k) (whole_piece old piece n) (size_more (old ++ take n piece) (drop n piece) k p), refl)
refused_of old piece n NoMemory p = absurd p
