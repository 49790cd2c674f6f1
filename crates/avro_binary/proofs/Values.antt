-- Values of one or two fields.
use Rattle.std.proofs.Common.{◌≡◌, ℕ, ◌+◌, ◌-◌, ◌<◌, ◌≤◌, List, ◌++◌, length, drop, refl, sym, ap, subst, ◌∙◌, append_assoc, arith}
use Rattle.std.proofs.lemmas.List.{length-append, length-drop}
use Rattle.std.specs.Prelude.{pos, negsuc}
use Rattle.std.specs.Str.{IsUtf8}
use Rattle.avro_binary.specs.Number.{IsLong}
use Rattle.avro_binary.specs.Value.{IsBytes, BytesFault, Negative, Cut, TextFault, NotUtf8}
use Rattle.avro_binary.specs.Reading.{part, IsPart, LacksAt, WrongAt}
use Rattle.avro_binary.proofs.Lists.{rest_part, length-part, join_parts}

-- content after its length
pub counted : (bytes : List ℕ) (at start end n : ℕ) → IsPart bytes at start → IsPart bytes start end → IsLong (part bytes at start) (pos n) → end ≡ start + n → IsBytes (part bytes at end) (part bytes start end)
counted bytes at start end n p q long e =
    let len : length (part bytes start end) ≡ n = length-part bytes start end q ∙ omega arith in
    record {
      front = part bytes at start;
      whole = sym (join_parts bytes at start end p q);
      counted = subst (λ (k : ℕ). IsLong (part bytes at start) (pos k)) (sym len) long;
    }

-- a length below 0 is wrong where the value begins
pub negative : (bytes : List ℕ) (at start k : ℕ) → IsPart bytes at start → IsLong (part bytes at start) (negsuc k) → WrongAt BytesFault bytes at at
negative bytes at start k p long =
    (0, omega arith, Negative (part bytes at start) (drop start bytes) k (rest_part bytes at start p) long refl)

-- content that ends early lacks bytes where it begins
pub cut : (bytes : List ℕ) (at start n : ℕ) → IsPart bytes at start → IsLong (part bytes at start) (pos n) → length bytes - start < n → LacksAt BytesFault bytes at start (start + n)
cut bytes at start n p long short =
    let len = length-part bytes at start p in
    let front = p.0 in
    (length (part bytes at start), length (part bytes at start) + n, omega arith, omega arith, Cut (part bytes at start) (drop start bytes) n (rest_part bytes at start p) long (omega (arith, length-drop start bytes)) refl)

-- content that is no text
pub not_text : (bytes : List ℕ) (at start end : ℕ) → IsPart bytes start end → at ≤ start → IsBytes (part bytes at end) (part bytes start end) → (IsUtf8 (part bytes start end) → ⊥) → WrongAt TextFault bytes at start
not_text bytes at start end q before b other =
    let p : IsPart bytes at end = (let l = q.0 in omega arith, q.1) in
    let content = part bytes start end in
    let all = length-part bytes at end p in
    let len = length-part bytes start end q in
    let l = q.0 in
    let sum = ap length b.whole ∙ length-append b.front content in
    let whole : drop at bytes ≡ b.front ++ (content ++ drop end bytes) = rest_part bytes at end p ∙ ap (λ (x : List ℕ). x ++ drop end bytes) b.whole ∙ append_assoc b.front content (drop end bytes) in
    (length b.front, omega arith, NotUtf8 b.front content (drop end bytes) whole b.counted other refl)
