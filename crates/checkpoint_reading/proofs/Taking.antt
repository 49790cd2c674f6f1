-- What a reader took of its file.
use Rattle.std.proofs.Common.{◌≡◌, ◌≤◌, ◌+◌, ◌-◌, ◌++◌, ℕ, List, length, take, drop, refl, sym, ap, ◌∙◌, subst, arith, Bool, true, false, append_assoc, length-append, length-drop}
use Rattle.std.proofs.lemmas.List.{drop-drop, drop-take, drop_at, length-take, take-append-drop, take_at}
use Rattle.std.specs.Prelude.{◌↔◌, IsSome, IsTrue, Option}
use Rattle.flume_host.specs.Told.{Told, WhereTold}
use Rattle.flume_host.specs.declared.names.FileName.TheVariants.{Check}
use Rattle.byteorder.specs.Endian.{big_number}
use Rattle.event_core.proofs.Sizes.{length-u32_bytes, length-u64_bytes}
use Rattle.event_core.specs.Numbers.{u32_bytes, u64_bytes}
use Rattle.record_form.proofs.Pointed.{take_take}
use Rattle.record_form.proofs.Spelled.{AreBytes, u32_part, u64_part}
use Rattle.record_form.proofs.Values.{u32_of-take, u64_of-take}
use Rattle.record_form.specs.declared.record.Pointer.{Pointer}
use Rattle.checkpoint.specs.Text.{pointer_bytes}
use Rattle.checkpoint_reading.specs.Fields.{check_file}
use Rattle.checkpoint_reading.specs.Reader.{Holds, IfTrue, IsHeld, IsSameFile, IsTaken, Reader, Takes, rest}

-- the number in front of bytes, and what is after it
pub front_u32 : (bytes : List ℕ) (n : ℕ) → AreBytes bytes → 4 ≤ length bytes → n ≡ big_number 4 bytes → bytes ≡ u32_bytes n ++ drop 4 bytes
front_u32 bytes n are long is =
    let spelled : u32_bytes n ≡ take 4 bytes = ap u32_bytes (is ∙ sym (u32_of-take bytes)) ∙ u32_part 0 bytes are long in
    sym (ap (λ (l : List ℕ). l ++ drop 4 bytes) spelled ∙ take-append-drop 4 bytes)

-- the same of eight bytes
pub front_u64 : (bytes : List ℕ) (n : ℕ) → AreBytes bytes → 8 ≤ length bytes → n ≡ big_number 8 bytes → bytes ≡ u64_bytes n ++ drop 8 bytes
front_u64 bytes n are long is =
    let spelled : u64_bytes n ≡ take 8 bytes = ap u64_bytes (is ∙ sym (u64_of-take bytes)) ∙ u64_part 0 bytes are long in
    sym (ap (λ (l : List ℕ). l ++ drop 8 bytes) spelled ∙ take-append-drop 8 bytes)

-- a piece without its first bytes
pub dropped : (n place filled : ℕ) (items : List ℕ) → place + n ≤ filled → drop n (take (filled - place) (drop place items)) ≡ take (filled - (place + n)) (drop (place + n) items)
dropped n place filled items room =
    ap (λ (k : ℕ). drop n (take k (drop place items))) (let e : filled - place ≡ n + (filled - (place + n)) = omega arith in e)
    ∙ (drop-take n (filled - (place + n)) (drop place items) ∙ ap (λ (l : List ℕ). take (filled - (place + n)) l) (drop-drop n place items))

-- how many bytes a piece has
pub held_long : (place filled : ℕ) (items : List ℕ) → length items ≡ 65_536 → filled ≤ 65_536 → length (take (filled - place) (drop place items)) ≡ filled - place
held_long place filled items whole some = omega (arith, length-take (filled - place) (drop place items), length-drop place items)

-- what a reader had in front is what its file has there, and it has the rest of that
pub took : (t : Told) (old new : Reader) (bytes : List ℕ) → IsHeld t old → old.held ≡ bytes ++ new.held → new.at ≡ old.at + length bytes → IsSameFile old new
    → (rest t old ≡ bytes ++ rest t new) × IsHeld t new
took t old new bytes held is at same =
    let file : List ℕ = check_file t.reads old.number in
    let n : ℕ = length bytes in
    let m : ℕ = length new.held in
    let long : length old.held ≡ n + m = ap length is ∙ length-append bytes new.held in
    let whole : rest t old ≡ (bytes ++ new.held) ++ drop (n + m) (rest t old) =
    sym (take-append-drop (n + m) (rest t old)) ∙ ap (λ (l : List ℕ). l ++ drop (n + m) (rest t old)) (ap (λ (k : ℕ). take k (rest t old)) (sym long) ∙ (sym held.held ∙ is)) in
    let split : rest t old ≡ bytes ++ (new.held ++ drop (n + m) (rest t old)) = whole ∙ append_assoc bytes new.held (drop (n + m) (rest t old)) in
    let behind : drop n (rest t old) ≡ new.held ++ drop (n + m) (rest t old) = ap (λ (l : List ℕ). drop n l) split ∙ drop_at bytes (new.held ++ drop (n + m) (rest t old)) n refl in
    let there : rest t new ≡ drop n (rest t old) =
    ap (λ (k : ℕ). drop new.at (check_file t.reads k)) same.number ∙ (ap (λ (k : ℕ). drop k file) at ∙ sym (drop-drop n old.at file)) in (
      sym (take-append-drop n (rest t old)) ∙ (ap (λ (l : List ℕ). l ++ drop n (rest t old)) (ap (λ (l : List ℕ). take n l) split ∙ front) ∙ ap (λ (l : List ℕ). bytes ++ l) (sym there)),
      record {
        there = subst (λ (k : ℕ). IsSome (t.reads (Check k))) (sym same.number) held.there;
        size = same.size ∙ (held.size ∙ ap (λ (k : ℕ). length (check_file t.reads k)) (sym same.number));
        held = sym (ap (λ (l : List ℕ). take m l) (there ∙ behind) ∙ take_at new.held (drop (n + m) (rest t old)) m refl);
      },
    )
  where
    front : take (length bytes) (bytes ++ (new.held ++ drop (length bytes + length new.held) (rest t old))) ≡ bytes
    front = take_at bytes (new.held ++ drop (length bytes + length new.held) (rest t old)) (length bytes) refl

-- a reader that has what it needs takes what comes next in the file
pub next_took : (told : Option Told) (start mid new : Reader) (bytes : List ℕ) → Holds told mid → IsSameFile start mid → mid.at ≡ start.at → IsTaken mid new bytes
    → Takes told start new bytes × Holds told new
next_took told start mid new bytes held same at taken = (λ t is. (begun t ∙ (took t mid new bytes (held t is) taken.held taken.at taken.same).0), λ t is. (took t mid new bytes (held t is) taken.held taken.at taken.same).1)
  where
    begun : (t : Told) → rest t start ≡ rest t mid
    begun t = ap (λ (k : ℕ). drop start.at (check_file t.reads k)) (sym same.number) ∙ ap (λ (k : ℕ). drop k (check_file t.reads mid.number)) (sym at)

-- two fields taken one after the other
pub taken_more : (a b c : Reader) (x y : List ℕ) → IsTaken a b x → IsTaken b c y → IsTaken a c (x ++ y)
taken_more a b c x y one two = record {
  held = one.held ∙ (ap (λ (l : List ℕ). x ++ l) two.held ∙ sym (append_assoc x y c.held));
  at = two.at ∙ (ap (λ (k : ℕ). k + length y) one.at ∙ omega (arith, length-append x y));
  same = record { number = two.same.number ∙ one.same.number; size = two.same.size ∙ one.same.size };
}

-- a pointer has sixteen bytes
pub length_pointer : (p : Pointer) → length (pointer_bytes p) ≡ 16
length_pointer p =
    omega (
      arith,
      length-append (u32_bytes p.file) (u64_bytes p.at ++ u32_bytes p.length),
      length-append (u64_bytes p.at) (u32_bytes p.length),
      length-u32_bytes p.file,
      length-u64_bytes p.at,
      length-u32_bytes p.length,
    )

-- whether a text came next
pub text_took : (told : Option Told) (start mid new : Reader) (text : List ℕ) (is : Bool) → Holds told mid → IsSameFile start mid → mid.at ≡ start.at → 8 ≤ length mid.held → length text ≡ 8
    → IfTrue is (IsTaken mid new text) → (is ≡ false → (take 8 mid.held ≡ text → ⊥) × (new ≡ mid))
    → Holds told new × (is ≡ true → Takes told start new text) × (is ≡ false → WhereTold told (λ t. (more : List ℕ) → rest t start ≡ text ++ more → ⊥))
text_took told start mid new text true held same at long eight taken other =
    let both = next_took told start mid new text held same at taken in
    (both.1, λ yes. both.0, λ no. absurd (cc))
text_took told start mid new text false held same at long eight taken other = (
  subst (λ (r : Reader). Holds told r) (sym (other refl).1) held,
  λ yes. absurd (cc),
  λ no t is more there. (other refl).0 (ap (λ (l : List ℕ). take 8 l) (held t is).held ∙ (take_take 8 (length mid.held) (rest t mid) long
      ∙ (ap (λ (l : List ℕ). take 8 l) (sym (begun t) ∙ there) ∙ take_at text more 8 eight))),
)
  where
    begun : (t : Told) → rest t start ≡ rest t mid
    begun t = ap (λ (k : ℕ). drop start.at (check_file t.reads k)) (sym same.number) ∙ ap (λ (k : ℕ). drop k (check_file t.reads mid.number)) (sym at)

-- a reader that went on over what it had in front
pub piece_taken : (old : Reader) (number size at place filled n : ℕ) (items read bytes : List ℕ) → (record { number = number; size = size; at = at; held = take (filled - place) (drop place items) }) ≡ old
    → length items ≡ 65_536 → filled ≤ 65_536 → place ≤ filled → read ≡ items → n ≤ length old.held → length bytes ≡ n
    → take (filled - place) (drop place read) ≡ bytes ++ drop n (take (filled - place) (drop place read))
    → IsTaken old (record { number = number; size = size; at = at + n; held = take (filled - (place + n)) (drop (place + n) items) }) bytes
piece_taken old number size at place filled n items read bytes view whole some before same room long split =
    let has : length old.held ≡ filled - place = ap (λ (r : Reader). length r.held) (sym view) ∙ held_long place filled items whole some in
    let there : take (filled - place) (drop place items) ≡ bytes ++ drop n (take (filled - place) (drop place items)) = subst (λ (l : List ℕ). take (filled - place) (drop place l) ≡ bytes ++ drop n (take (filled - place) (drop place l))) same split in
    record {
      held = ap (λ (r : Reader). r.held) (sym view) ∙ (there ∙ ap (λ (l : List ℕ). bytes ++ l) (dropped n place filled items (omega (arith, has, room, before))));
      at = ap (λ (k : ℕ). k + n) (ap (λ (r : Reader). r.at) view) ∙ ap (λ (k : ℕ). old.at + k) (sym long);
      same = record { number = ap (λ (r : Reader). r.number) view; size = ap (λ (r : Reader). r.size) view };
    }

-- how many bytes are left then
pub taken_length : (old new : Reader) (bytes : List ℕ) (n : ℕ) → IsTaken old new bytes → length bytes ≡ n → length old.held ≡ n + length new.held
taken_length old new bytes n taken long = omega (arith, ap (λ (l : List ℕ). length l) taken.held, length-append bytes new.held, long)

-- a text that is in front of what a reader has
pub text_front : (bytes text : List ℕ) → take 8 bytes ≡ text → bytes ≡ text ++ drop 8 bytes
text_front bytes text is = sym (ap (λ (l : List ℕ). l ++ drop 8 bytes) (sym is) ∙ take-append-drop 8 bytes)

-- what is not in front of a piece is not in front of what a reader has
pub text_other : (old : Reader) (number size at place filled : ℕ) (items read text : List ℕ) (is : Bool) → (record { number = number; size = size; at = at; held = take (filled - place) (drop place items) }) ≡ old
    → read ≡ items → (IsTrue is ↔ (take 8 (take (filled - place) (drop place read)) ≡ text)) → is ≡ false → take 8 old.held ≡ text → ⊥
text_other old number size at place filled items read text is view same tells not_so there =
    let yes : is ≡ true = tells.1 (ap (λ (l : List ℕ). take 8 (take (filled - place) (drop place l))) same ∙ (ap (λ (r : Reader). take 8 r.held) view ∙ there)) in
    absurd (cc)
