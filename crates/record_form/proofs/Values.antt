-- Numbers as bytes, and back.
use Rattle.std.proofs.Common.{◌≡◌, ◌<◌, ◌^◌, ℕ, List, [], length, take, get_or, refl, arith}
use Rattle.std.proofs.lemmas.Nat.{be_bytes_4, be_bytes_8}
use Rattle.byteorder.specs.Numbers.{big_from-take, big_number-reads_back}
use Rattle.byteorder.specs.Endian.{big_number}
use Rattle.event_core.specs.Numbers.{u32_bytes, u64_bytes}
use Rattle.record_form.specs.Grammar.{u32_of, u64_of}

-- a number below 2^32 is read back from its four bytes
pub u32_of-u32_bytes : (n : ℕ) → n < 2 ^ 32 → u32_of (u32_bytes n) ≡ n
unfolding u32_bytes u32_of
u32_of-u32_bytes n h = big_number-reads_back 4 n [] h

-- a number below 2^64 is read back from its eight bytes
pub u64_of-u64_bytes : (n : ℕ) → n < 2 ^ 64 → u64_of (u64_bytes n) ≡ n
unfolding u64_bytes u64_of
u64_of-u64_bytes n h = big_number-reads_back 8 n [] h

-- four bytes are those of the number that they say
pub u32_bytes-u32_of : (bytes : List ℕ) → length bytes ≡ 4 → ((i : ℕ) → get_or bytes i 0 < 256) → u32_bytes (u32_of bytes) ≡ bytes
unfolding u32_bytes u32_of
u32_bytes-u32_of bytes len fits = be_bytes_4 bytes (big_number 4 bytes) len fits (omega arith)

-- eight bytes are those of the number that they say
pub u64_bytes-u64_of : (bytes : List ℕ) → length bytes ≡ 8 → ((i : ℕ) → get_or bytes i 0 < 256) → u64_bytes (u64_of bytes) ≡ bytes
unfolding u64_bytes u64_of
u64_bytes-u64_of bytes len fits = be_bytes_8 bytes (big_number 8 bytes) len fits (omega arith)

-- bytes say a number below 2^32 as a number of four
pub u32_of-fits : (bytes : List ℕ) → ((i : ℕ) → get_or bytes i 0 < 256) → u32_of bytes < 2 ^ 32
unfolding u32_of
u32_of-fits bytes fits = omega (arith, fits 0, fits 1, fits 2, fits 3)

-- bytes say a number below 2^64 as a number of eight
pub u64_of-fits : (bytes : List ℕ) → ((i : ℕ) → get_or bytes i 0 < 256) → u64_of bytes < 2 ^ 64
unfolding u64_of
u64_of-fits bytes fits = omega (arith, fits 0, fits 1, fits 2, fits 3, fits 4, fits 5, fits 6, fits 7)

-- a number is that of its own bytes alone
pub u32_of-take : (bytes : List ℕ) → u32_of (take 4 bytes) ≡ big_number 4 bytes
unfolding u32_of
u32_of-take bytes = big_from-take 0 4 4 bytes (omega arith)

-- a number of eight bytes is that of the first eight alone
pub u64_of-take : (bytes : List ℕ) → u64_of (take 8 bytes) ≡ big_number 8 bytes
unfolding u64_of
u64_of-take bytes = big_from-take 0 8 8 bytes (omega arith)

-- the first four bytes, read highest first, are a number of four bytes
pub big_4-take : (bytes : List ℕ) → big_number 4 (take 4 bytes) ≡ u32_of (take 4 bytes)
unfolding u32_of
big_4-take bytes = refl

-- the first eight bytes, read highest first, are a number of eight bytes
pub big_8-take : (bytes : List ℕ) → big_number 8 (take 8 bytes) ≡ u64_of (take 8 bytes)
unfolding u64_of
big_8-take bytes = refl
