-- A PUT that is written part by part.
use Rattle.std.proofs.Common.{◌≡◌, ◌<◌, ◌≤◌, ◌+◌, ◌-◌, ◌++◌, ◌∷◌, [], ℕ, List, length, get_or, All, refl, ap, ◌∙◌, subst, arith, append_assoc, length-append}
use Rattle.std.specs.List.{flat_map}
use Rattle.std.proofs.lemmas.List.{get_or-append_right, get_or_default}
use Rattle.std.proofs.lemmas.List.Sums.{sum_by-cons}
use Rattle.event_core.specs.Numbers.{u32_bytes, u64_bytes}
use Rattle.event_core.specs.Content.{Content, Header, counted_bytes, event_bytes, header_bytes, header_size, headers_size, size}
use Rattle.record_form.specs.Record.{spelling}
use Rattle.record_form.specs.declared.record.Rec.TheVariants.{Put}

regroup : (start t s n hs b : List ℕ) → (((((start ++ 1 ∷ []) ++ t) ++ s) ++ n) ++ hs) ++ b ≡ start ++ (1 ∷ (t ++ (s ++ ((n ++ hs) ++ b))))
regroup start t s n hs b = simp append_assoc

-- the parts of a PUT, written one after another, spell it
pub put-spelled : (event : Content) (txn : ℕ) (start one two three four five six : List ℕ) (n m : ℕ) (hs : List Header) (body : List ℕ)
    → one ≡ start ++ 1 ∷ [] → two ≡ one ++ u64_bytes txn → three ≡ two ++ u32_bytes n → four ≡ three ++ u32_bytes m → five ≡ four ++ flat_map header_bytes hs → six ≡ five ++ counted_bytes body
    → n ≡ size event → m ≡ length hs → hs ≡ event.headers → body ≡ event.body → six ≡ start ++ spelling (Put txn event)
unfolding event_bytes
put-spelled event txn start one two three four five six n m hs body e1 e2 e3 e4 e5 e6 sized counted same whole =
    let t = u64_bytes txn in
    let count : u32_bytes m ≡ u32_bytes (length event.headers) = ap u32_bytes (counted ∙ ap length same) in
    let names : flat_map header_bytes hs ≡ flat_map header_bytes event.headers = ap (flat_map header_bytes) same in
    let tail : (u32_bytes m ++ flat_map header_bytes hs) ++ counted_bytes body ≡ event_bytes event =
    ap (λ b. (u32_bytes m ++ flat_map header_bytes hs) ++ counted_bytes b) whole ∙ ap (λ x. (x ++ flat_map header_bytes hs) ++ counted_bytes event.body) count ∙ ap (λ x. (u32_bytes (length event.headers) ++ x) ++ counted_bytes event.body) names in
    e6 ∙ ap (λ x. x ++ counted_bytes body) (e5 ∙ ap (λ x. x ++ flat_map header_bytes hs) (e4 ∙ ap (λ x. x ++ u32_bytes m) (e3 ∙ ap (λ x. x ++ u32_bytes n) (e2 ∙ ap (λ x. x ++ t) e1))))
    ∙ regroup start t (u32_bytes n) (u32_bytes m) (flat_map header_bytes hs) (counted_bytes body)
    ∙ ap (λ x. start ++ (1 ∷ (t ++ (u32_bytes n ++ x)))) tail
    ∙ ap (λ k. start ++ (1 ∷ (t ++ (u32_bytes k ++ event_bytes event)))) sized

-- there are no more headers than bytes of headers
pub length-headers : (hs : List Header) → length hs ≤ headers_size hs
length-headers [] = omega arith
length-headers (h ∷ hs) = omega (arith, sum_by-cons header_size h hs, length-headers hs)

-- what stands at the end of bytes is bytes
pub bytes_behind : (front bytes all : List ℕ) → all ≡ front ++ bytes → ((i : ℕ) → i < length all → get_or all i 0 < 256) → All (λ b. b < 256) bytes
bytes_behind front bytes all is fits k d within =
    let n = length front in
    let there : get_or all (n + k) 0 ≡ get_or bytes (n + k - n) 0 = ap (λ (x : List ℕ). get_or x (n + k) 0) is ∙ get_or-append_right front bytes n (n + k) 0 refl (omega arith) in
    let place : n + k - n ≡ k = omega arith in
    let low : get_or all (n + k) 0 < 256 = fits (n + k) (omega (arith, ap length is, length-append front bytes, within)) in
    subst (λ x. x < 256) (there ∙ ap (λ i. get_or bytes i 0) place ∙ get_or_default bytes k 0 d within) low
