-- Numbers of four bytes, and fronts of lists.
use Rattle.std.proofs.Common.{◌≡◌, ℕ, ◌+◌, ◌^◌, ◌<◌, List, ◌++◌, length, get_or, take, drop, refl, sym, ap, ◌∙◌, arith, inl, inr}
use Rattle.std.specs.Int.{w32, from_be_bytes}
use Rattle.std.proofs.lemmas.Bool.{cases_lt}
use Rattle.std.proofs.lemmas.List.{take_at, drop_at, length-take, get_or-drop, get_or-take, get_or_past}
use Rattle.std.proofs.lemmas.Nat.{be_bytes_4, from_be_bytes-to_be_bytes_4}
use Rattle.avro_frame.specs.Pack.{u32_bytes}

abbrev pub IsBytes : List ℕ → Type 0
IsBytes bytes = (i : ℕ) → get_or bytes i 0 < 256

-- bytes that are left behind a place are bytes
pub IsBytes-drop : (n : ℕ) (bytes : List ℕ) → IsBytes bytes → IsBytes (drop n bytes)
IsBytes-drop n bytes h i = rw get_or-drop (h (n + i))

-- a front of bytes is bytes
pub IsBytes-take : (n : ℕ) (bytes : List ℕ) → IsBytes bytes → IsBytes (take n bytes)
IsBytes-take n bytes h i =
    elim (cases_lt i n) [
      | inl lt ↦ rw (get_or-take n bytes i 0 lt) (h i)
      | inr le ↦ rw (get_or_past (take n bytes) i 0 (omega (arith, length-take n bytes))) (omega arith)
    ]

-- a number is written as four bytes
pub length-u32 : (n : ℕ) → length (u32_bytes n) ≡ 4
unfolding u32_bytes
length-u32 n = refl

-- four bytes are those that the number they say is written as
pub u32_back : (bytes : List ℕ) (n : ℕ) → length bytes ≡ 4 → IsBytes bytes → n ≡ from_be_bytes w32 bytes → u32_bytes n ≡ bytes
unfolding u32_bytes
u32_back bytes n len fits e = be_bytes_4 bytes n len fits e

-- numbers that are written the same are the same
pub u32_same : (m n : ℕ) → m < 2 ^ 32 → n < 2 ^ 32 → u32_bytes m ≡ u32_bytes n → m ≡ n
unfolding u32_bytes
u32_same m n ml nl e =
    sym (from_be_bytes-to_be_bytes_4 m ml) ∙ ap (from_be_bytes w32) e ∙ from_be_bytes-to_be_bytes_4 n nl

-- fronts of the same length in the same list are the same, and so is the rest
pub same_front : (a b x y : List ℕ) → length a ≡ length b → a ++ x ≡ b ++ y → (a ≡ b) × (x ≡ y)
same_front a b x y len e = (
  sym (take_at a x (length a) refl) ∙ ap (take (length a)) e ∙ take_at b y (length a) (sym len),
  sym (drop_at a x (length a) refl) ∙ ap (drop (length a)) e ∙ drop_at b y (length a) (sym len),
)

-- a number in front of both
pub same_number : (m n : ℕ) (x y : List ℕ) → m < 2 ^ 32 → n < 2 ^ 32 → u32_bytes m ++ x ≡ u32_bytes n ++ y → (m ≡ n) × (x ≡ y)
same_number m n x y ml nl e =
    let s = same_front (u32_bytes m) (u32_bytes n) x y (length-u32 m ∙ sym (length-u32 n)) e in
    (u32_same m n ml nl s.0, s.1)

-- a number that is read from bytes is below 2^32
pub u32_below : (bytes : List ℕ) → IsBytes bytes → from_be_bytes w32 bytes < 2 ^ 32
u32_below bytes fits = omega (arith, fits 0, fits 1, fits 2, fits 3)
