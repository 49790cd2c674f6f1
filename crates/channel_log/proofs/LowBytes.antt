-- The bytes of a frame are bytes: each is below 256.
use Rattle.std.proofs.Common.{◌≡◌, ◌<◌, ◌≤◌, ℕ, List, [], ◌∷◌, ◌++◌, length, flat_map, ◌⊎◌, inl, inr, Bool, true, false, cond, nat_lt, refl, sym, ◌∙◌, ap, subst, arith, All}
use Rattle.std.specs.List.{AllByRecursion}
use Rattle.std.specs.Str.{IsUtf8, encode_utf8_all, all_scalars}
use Rattle.std.specs.Char.{IsScalar}
use lib.Utf8.{encode, scalar, scalar_cases}
use Rattle.std.proofs.lemmas.Bool.{and_parts}
use Rattle.std.proofs.lemmas.Bool.Decides.{Decides-ltb}
use Rattle.std.proofs.lemmas.List.Elements.{recursion_from_All}
use Rattle.event_core.specs.Numbers.{u32_bytes, u64_bytes}
use Rattle.event_core.specs.Content.{Content, IsTextHeader, counted_bytes, event_bytes, header_bytes, size}
use Rattle.record_form.specs.declared.record.Rec.{Rec}
use Rattle.record_form.specs.declared.record.Rec.TheVariants.{Put, Take, Rollback, CommitPut, CommitTake, End}
use Rattle.record_form.specs.Record.{HasFields, spelling}
use Rattle.channel_log.specs.Frames.{IsFrame, IsFramed, frame_bytes, record_bytes}

abbrev pub Low : ℕ → Type 0
Low b = b < 256

abbrev pub AreLow : List ℕ → Type 0
AreLow bytes = AllByRecursion Low bytes

-- low bytes and more low bytes after them are all low
pub low-append : (a b : List ℕ) → AreLow a → AreLow b → AreLow (a ++ b)
low-append [] b first later = later
low-append (x ∷ a) b first later = (first.0, low-append a b first.1 later)

low_u32 : (n : ℕ) → AreLow (u32_bytes n)
unfolding u32_bytes
low_u32 n = (omega arith, (omega arith, (omega arith, (omega arith, tt))))

low_u64 : (n : ℕ) → AreLow (u64_bytes n)
unfolding u64_bytes
low_u64 n = (omega arith, (omega arith, (omega arith, (omega arith, (omega arith, (omega arith, (omega arith, (omega arith, tt))))))))

-- texts

fits : (c : ℕ) → IsScalar c → c < 1114112
fits c scalar = from (scalar_cases c scalar)
  where
    from : (c < 55296) ⊎ ((57344 ≤ c) × (c < 1114112)) → c < 1114112
    from (inl low) = omega (arith, low)
    from (inr high) = high.1

either : (b : Bool) (x y : List ℕ) → (b ≡ true → AreLow x) → (b ≡ false → AreLow y) → AreLow (cond b x y)
either true x y first later = first refl
either false x y first later = later refl

below : (a b : ℕ) → nat_lt a b ≡ true → a < b
below a b is = (Decides-ltb a b).0 is

low_char : (c : ℕ) → IsScalar c → AreLow (encode c)
unfolding encode
low_char c scalar =
    let small : c < 1114112 = fits c scalar in
    either (nat_lt c 128) _ _ (λ is. let b : c < 128 = below c 128 is in (omega (arith, b), tt))
    (λ _. either (nat_lt c 2048) _ _ (λ is. let b : c < 2048 = below c 2048 is in (omega (arith, b), (omega arith, tt)))
    (λ _. either (nat_lt c 65536) _ _ (λ is. let b : c < 65536 = below c 65536 is in (omega (arith, b), (omega arith, (omega arith, tt))))
    (λ _. (omega (arith, small), (omega arith, (omega arith, (omega arith, tt)))))))

low_chars : (cs : List ℕ) → all_scalars cs ≡ true → AreLow (encode_utf8_all cs)
low_chars [] all = tt
low_chars (c ∷ cs) all =
    let parts = and_parts (scalar c) (all_scalars cs) all in
    low-append (encode c) (encode_utf8_all cs) (low_char c parts.0) (low_chars cs parts.1)

low_text : (text : List ℕ) → IsUtf8 text → AreLow text
low_text text utf8 = subst AreLow utf8.1.1 (low_chars utf8.0 utf8.1.0)

low_counted : (bytes : List ℕ) → AreLow bytes → AreLow (counted_bytes bytes)
low_counted bytes low = low-append (u32_bytes (length bytes)) bytes (low_u32 (length bytes)) low

low_headers : (headers : List (List ℕ × List ℕ)) → AllByRecursion IsTextHeader headers → AreLow (flat_map header_bytes headers)
low_headers [] texts = tt
low_headers (h ∷ headers) texts =
    low-append (header_bytes h) (flat_map header_bytes headers)
    (low-append (counted_bytes h.0) (counted_bytes h.1) (low_counted h.0 (low_text h.0 texts.0.0)) (low_counted h.1 (low_text h.1 texts.0.1)))
    (low_headers headers texts.1)

low_event : (event : Content) → AllByRecursion IsTextHeader event.headers → All (λ b. b < 256) event.body → AreLow (event_bytes event)
unfolding event_bytes
low_event event texts body =
    low-append (u32_bytes (length event.headers) ++ flat_map header_bytes event.headers) (counted_bytes event.body)
    (low-append (u32_bytes (length event.headers)) (flat_map header_bytes event.headers) (low_u32 (length event.headers)) (low_headers event.headers texts))
    (low_counted event.body (recursion_from_All Low event.body body))

-- a record is spelled in low bytes
pub low_record : (rec : Rec) → HasFields rec → AreLow (spelling rec)
low_record (Put txn event) has = (omega arith, low-append (u64_bytes txn) (u32_bytes (size event) ++ event_bytes event) (low_u64 txn) (low-append (u32_bytes (size event)) (event_bytes event) (low_u32 (size event)) (low_event event has.1.texts has.2)))
low_record (Take txn number) has = (omega arith, low-append (u64_bytes txn) (u64_bytes number) (low_u64 txn) (low_u64 number))
low_record (Rollback txn) has = (omega arith, low_u64 txn)
low_record (CommitPut txn first count) has = (omega arith, low-append (u64_bytes txn) (u64_bytes first ++ u32_bytes count) (low_u64 txn) (low-append (u64_bytes first) (u32_bytes count) (low_u64 first) (low_u32 count)))
low_record (CommitTake txn count) has = (omega arith, low-append (u64_bytes txn) (u32_bytes count) (low_u64 txn) (low_u32 count))
low_record (End count) has = (omega arith, low_u32 count)

low_records : (records : List Rec) → AllByRecursion IsFramed records → AreLow (record_bytes records)
low_records [] each = tt
low_records (rec ∷ records) each = low-append (spelling rec) (record_bytes records) (low_record rec each.0.fields) (low_records records each.1)

-- all bytes of a frame are low
pub low_frame : (frame : List Rec) → IsFrame frame → AreLow (frame_bytes frame)
unfolding frame_bytes
low_frame frame is = low-append (record_bytes frame) (spelling (End (length frame))) (low_records frame is.each) (low_record (End (length frame)) is.few)

-- bytes, and then something that is no byte or nothing
pub record IsLowFront (bytes front rest : List ℕ) : Type 0 where
  pub split : bytes ≡ front ++ rest
  pub low : AreLow front
  pub ends : (b : ℕ) (more : List ℕ) → rest ≡ b ∷ more → b < 256 → ⊥

-- low bytes in front are within it
pub within_front : (xs ys front rest : List ℕ) → AreLow xs → xs ++ ys ≡ front ++ rest → ((b : ℕ) (more : List ℕ) → rest ≡ b ∷ more → b < 256 → ⊥) → (more : List ℕ) × (front ≡ xs ++ more) × (ys ≡ more ++ rest)
within_front [] ys front rest low same ends = (front, refl, same)
within_front (x ∷ xs) ys [] rest low same ends = absurd (ends x (xs ++ ys) (sym same) low.0)
within_front (x ∷ xs) ys (f ∷ front) rest low same ends =
    let first : x ≡ f = head_of x f (xs ++ ys) (front ++ rest) same in
    let w = within_front xs ys front rest low.1 (tail_of x f (xs ++ ys) (front ++ rest) same) ends in
    (w.0, ap (λ (b : ℕ). b ∷ front) (sym first) ∙ ap (λ (l : List ℕ). x ∷ l) w.1, w.2)
  where
    head_of : (a b : ℕ) (u v : List ℕ) → a ∷ u ≡ b ∷ v → a ≡ b
    head_of a b u v same = cc

    tail_of : (a b : ℕ) (u v : List ℕ) → a ∷ u ≡ b ∷ v → u ≡ v
    tail_of a b u v same = cc

-- any bytes are split into a low front and what comes after it
pub low_front : (bytes : List ℕ) → (front : List ℕ) × (rest : List ℕ) × IsLowFront bytes front rest
low_front [] = ([], [], record { split = refl; low = tt; ends = λ b more is. absurd (nothing b more is) })
  where
    nothing : (b : ℕ) (more : List ℕ) → [] ≡ b ∷ more → ⊥
    nothing b more is = cc
low_front (x ∷ bytes) = from (which x) (low_front bytes)
  where
    which : (n : ℕ) → (n < 256) ⊎ (256 ≤ n)
    which n = grind arith

    from : ((x < 256) ⊎ (256 ≤ x)) → ((front : List ℕ) × (rest : List ℕ) × IsLowFront bytes front rest) → (front : List ℕ) × (rest : List ℕ) × IsLowFront (x ∷ bytes) front rest
    from (inl here) later = (x ∷ later.0, later.1, record { split = ap (λ (l : List ℕ). x ∷ l) later.2.split; low = (here, later.2.low); ends = later.2.ends })
    from (inr high) later = ([], x ∷ bytes, record { split = refl; low = tt; ends = λ b more is small. absurd (clash b more is small) })
      where
        clash : (b : ℕ) (more : List ℕ) → x ∷ bytes ≡ b ∷ more → b < 256 → ⊥
        clash b more is small = let same : x ≡ b = cc in omega (arith, same, small, high)
