-- The size of an event, and the bytes of numbers.
use Rattle.std.proofs.Common.{◌≡◌, ℕ, ◌+◌, List, [], ◌∷◌, ◌++◌, length, refl, ap, ◌∙◌, arith, length-append}
use Rattle.std.specs.List.{flat_map}
use Rattle.std.proofs.lemmas.List.Concat.{flat_map-cons}
use Rattle.std.proofs.lemmas.List.Sums.{sum_by-cons}
use Rattle.event_core.specs.Numbers.{u16_bytes, u32_bytes, u64_bytes}
use Rattle.event_core.specs.Content.{Header, Content, event_bytes, header_bytes, counted_bytes, header_size, headers_size, size}

-- a number of 16 bits takes two bytes
pub length-u16_bytes : (n : ℕ) → length (u16_bytes n) ≡ 2
unfolding u16_bytes
length-u16_bytes n = refl

-- a number of 32 bits takes four bytes
pub length-u32_bytes : (n : ℕ) → length (u32_bytes n) ≡ 4
unfolding u32_bytes
length-u32_bytes n = refl

-- a number of 64 bits takes eight bytes
pub length-u64_bytes : (n : ℕ) → length (u64_bytes n) ≡ 8
unfolding u64_bytes
length-u64_bytes n = refl

-- bytes after their count take four more
pub length-counted_bytes : (bytes : List ℕ) → length (counted_bytes bytes) ≡ 4 + length bytes
length-counted_bytes bytes = length-append (u32_bytes (length bytes)) bytes ∙ ap (λ n. n + length bytes) (length-u32_bytes (length bytes))

-- a header takes as many bytes as its size says
pub length-header_bytes : (header : Header) → length (header_bytes header) ≡ header_size header
length-header_bytes header = omega (arith, length-append (counted_bytes header.0) (counted_bytes header.1), length-counted_bytes header.0, length-counted_bytes header.1)

-- all headers together take as many bytes as their size says
pub length-all_header_bytes : (headers : List Header) → length (flat_map header_bytes headers) ≡ headers_size headers
length-all_header_bytes [] = refl
length-all_header_bytes (h ∷ hs) =
    omega (arith, ap length (flat_map-cons header_bytes h hs), length-append (header_bytes h) (flat_map header_bytes hs), length-header_bytes h, sum_by-cons header_size h hs, length-all_header_bytes hs)

-- the size is the sum of the lengths
pub size-sum : (event : Content) → size event ≡ headers_size event.headers + length event.body + 8
unfolding event_bytes
size-sum event =
    omega (
      arith,
      length-append (u32_bytes (length event.headers) ++ flat_map header_bytes event.headers) (counted_bytes event.body),
      length-append (u32_bytes (length event.headers)) (flat_map header_bytes event.headers),
      length-u32_bytes (length event.headers),
      length-counted_bytes event.body,
      length-all_header_bytes event.headers,
    )
