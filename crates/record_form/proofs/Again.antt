-- What is written is read again, whatever follows.
use Rattle.std.proofs.Common.{◌≡◌, ◌<◌, ◌≤◌, ◌+◌, ◌^◌, ◌==◌, ◌++◌, ◌∷◌, [], ℕ, Bool, true, false, not, ◌&&◌, nat_lt, Option, Some, None, List, length, take, drop, refl, sym, ap, ◌∙◌, arith, append_assoc, length-append, add_comm}
use Rattle.std.specs.declared.cmp.Ordering.TheVariants.{Less}
use Rattle.std.specs.Ordering.{is_lt}
use Rattle.std.specs.List.{AllByRecursion, flat_map}
use Rattle.std.specs.List.Sorted.{IsStrictlySortedBy}
use Rattle.std.specs.Map.{keys_of}
use Rattle.std.specs.Str.{IsUtf8, is_utf8}
use Rattle.std.proofs.lemmas.Str.{is_utf8-from_IsUtf8}
use Rattle.std.proofs.lemmas.Bool.{false_from_ne_true, eqb-true, eq-eqb}
use Rattle.std.proofs.lemmas.List.{append-nil}
use Rattle.std.proofs.lemmas.List.Concat.{flat_map-cons}
use Rattle.std.proofs.lemmas.List.Sums.{sum_by-cons}
use Rattle.std.proofs.lemmas.Map.Keys.{sorted_head, sorted_tail}
use Rattle.std.proofs.Math.Seq.{take-append_seam, drop-append_seam}
use borrow.Author.Tests.{le-ltb}
use Rattle.event_core.specs.Numbers.{u32_bytes, u64_bytes}
use Rattle.event_core.specs.Content.{Content, Header, AreHeaders, IsTextHeader, content, counted_bytes, event_bytes, header_bytes, header_size, headers_size, key_cmp, size}
use Rattle.event_core.proofs.Sizes.{length-u32_bytes, length-u64_bytes, size-sum}
use Rattle.record_form.specs.Record.{HasFields, IsWithinLimits, record_length, spelling}
use Rattle.record_form.specs.declared.record.Rec.{Rec}
use Rattle.record_form.specs.declared.record.Rec.TheVariants.{Put, Take, Rollback, CommitPut, CommitTake, End}
use Rattle.record_form.specs.Grammar.{Grammar, Done, Field, Complete, reads, u32_of, u64_of, is_above, plain, count, text_grammar, body_grammar, headers_grammar, event_grammar, kind_grammar, outcome_of}
use Rattle.record_form.proofs.Steps.{after_key, reads-next, reads-done, headers-none, headers-more, is_kind-true, record-kind}
use Rattle.record_form.proofs.PutWrites.{length-headers}
use Rattle.record_form.proofs.Values.{u32_of-u32_bytes, u64_of-u64_bytes}

-- a field that stands in front is read
pub field-again : (width : ℕ) (fault : List ℕ → Bool) (next : List ℕ → Grammar) (bytes rest : List ℕ) (at : ℕ) → length bytes ≡ width → fault bytes ≡ false → reads (Field width fault next) (bytes ++ rest) at ≡ reads (next bytes) rest (at + width)
field-again width fault next bytes rest at size right =
    let front : take width (bytes ++ rest) ≡ bytes = ap (λ n. take n (bytes ++ rest)) (sym size) ∙ take-append_seam bytes rest in
    let back : drop width (bytes ++ rest) ≡ rest = ap (λ n. drop n (bytes ++ rest)) (sym size) ∙ drop-append_seam bytes rest in
    reads-next width fault next (bytes ++ rest) at (omega (arith, length-append bytes rest, size)) (ap fault front ∙ right)
    ∙ ap (λ b. reads (next b) (drop width (bytes ++ rest)) (at + width)) front ∙ ap (λ r. reads (next bytes) r (at + width)) back

-- a counted text that stands in front is read again
pub text-again : (end : ℕ) (last : Option (List ℕ)) (next : List ℕ → Grammar) (text rest : List ℕ) (at : ℕ) → length text < 2 ^ 32 → at + 4 + length text ≤ end → IsUtf8 text → is_above last text ≡ true
    → reads (text_grammar end at last next) (counted_bytes text ++ rest) at ≡ reads (next text) rest (at + 4 + length text)
unfolding text_grammar
text-again end last next text rest at short inside utf8 above =
    let n = length text in
    let size : u32_of (u32_bytes n) ≡ n = u32_of-u32_bytes n short in
    let fits : nat_lt end (at + 4 + u32_of (u32_bytes n)) ≡ false = ap (λ m. nat_lt end (at + 4 + m)) size ∙ le-ltb end (at + 4 + n) inside in
    let right : not (is_utf8 text && is_above last text) ≡ false = ap (λ b. not (b && is_above last text)) (is_utf8-from_IsUtf8 text utf8) ∙ ap (λ b. not (true && b)) above in
    ap (λ b. reads (Field 4 (λ size. nat_lt end (at + 4 + u32_of size)) (λ size. Field (u32_of size) (λ text. not (is_utf8 text && is_above last text)) next)) b at) (append_assoc (u32_bytes n) text rest)
    ∙ field-again 4 (λ size. nat_lt end (at + 4 + u32_of size)) (λ size. Field (u32_of size) (λ text. not (is_utf8 text && is_above last text)) next) (u32_bytes n) (text ++ rest) at (length-u32_bytes n) fits
    ∙ ap (λ m. reads (Field m (λ text. not (is_utf8 text && is_above last text)) next) (text ++ rest) (at + 4)) size
    ∙ field-again n (λ text. not (is_utf8 text && is_above last text)) next text rest (at + 4) refl right

-- a counted body that ends with the event is read, and the PUT with it
pub body-again : (txn end at : ℕ) (headers : List Header) (body rest : List ℕ) → length body < 2 ^ 32 → at + 4 + length body ≡ end → reads (body_grammar txn end at headers) (counted_bytes body ++ rest) at ≡ Complete (Put txn (content headers body)) end
unfolding body_grammar
body-again txn end at headers body rest short ends =
    let n = length body in
    let size : u32_of (u32_bytes n) ≡ n = u32_of-u32_bytes n short in
    let fits : not (at + 4 + u32_of (u32_bytes n) == end) ≡ false = ap (λ m. not (at + 4 + m == end)) size ∙ ap not (eq-eqb (at + 4 + n) end ends) in
    ap (λ b. reads (Field 4 (λ size. not (at + 4 + u32_of size == end)) (λ size. plain (u32_of size) (λ body. Done (Put txn (content headers body))))) b at) (append_assoc (u32_bytes n) body rest)
    ∙ field-again 4 (λ size. not (at + 4 + u32_of size == end)) (λ size. plain (u32_of size) (λ body. Done (Put txn (content headers body)))) (u32_bytes n) (body ++ rest) at (length-u32_bytes n) fits
    ∙ ap (λ m. reads (plain m (λ body. Done (Put txn (content headers body)))) (body ++ rest) (at + 4)) size
    ∙ field-again n (λ b. false) (λ body. Done (Put txn (content headers body))) body rest (at + 4) refl refl
    ∙ reads-done (Put txn (content headers body)) rest (at + 4 + n) ∙ ap (Complete (Put txn (content headers body))) ends

-- each key is above the one before, and the first above the last one
abbrev pub Rises : Option (List ℕ) → List Header → Type 0
Rises last [] = Unit {0}
Rises last (h ∷ hs) = (is_above last h.0 ≡ true) × Rises (Some h.0) hs

-- sorted keys that are all above a key rise from it on
pub rises_behind : (k : List ℕ) (hs : List Header) → AllByRecursion (λ y. key_cmp k y ≡ Less) (keys_of hs) → IsStrictlySortedBy key_cmp (keys_of hs) → Rises (Some k) hs
rises_behind k [] first sorted = tt
rises_behind k (h ∷ hs) first sorted = (ap is_lt first.0, rises_behind h.0 hs (sorted_head key_cmp h.0 (keys_of hs) sorted) (sorted_tail key_cmp h.0 (keys_of hs) sorted))

-- sorted keys rise from the first one on
pub rises_all : (hs : List Header) → IsStrictlySortedBy key_cmp (keys_of hs) → Rises None hs
rises_all [] sorted = tt
rises_all (h ∷ hs) sorted = (refl, rises_behind h.0 hs (sorted_head key_cmp h.0 (keys_of hs) sorted) (sorted_tail key_cmp h.0 (keys_of hs) sorted))

-- headers in order and the body behind them are read again
pub headers-again : (hs done : List Header) (txn end at : ℕ) (last : Option (List ℕ)) (body rest : List ℕ) → AllByRecursion IsTextHeader hs → Rises last hs → at + headers_size hs + 4 + length body ≡ end → end < 2 ^ 32
    → reads (headers_grammar (length hs) txn end at last done) (flat_map header_bytes hs ++ (counted_bytes body ++ rest)) at ≡ Complete (Put txn (content (done ++ hs) body)) end
headers-again [] done txn end at last body rest texts rises ends short =
    ap (λ g. reads g (counted_bytes body ++ rest) at) (headers-none txn end at last done) ∙ body-again txn end at done body rest (omega (arith, ends, short)) (omega (arith, ends))
    ∙ ap (λ hs. Complete (Put txn (content hs body)) end) (sym (append-nil done))
headers-again (h ∷ hs) done txn end at last body rest texts rises ends short =
    let total : headers_size (h ∷ hs) ≡ header_size h + headers_size hs = sum_by-cons header_size h hs in
    let tail = flat_map header_bytes hs ++ (counted_bytes body ++ rest) in
    let bytes : flat_map header_bytes (h ∷ hs) ++ (counted_bytes body ++ rest) ≡ counted_bytes h.0 ++ (counted_bytes h.1 ++ tail) =
    ap (λ b. b ++ (counted_bytes body ++ rest)) (flat_map-cons header_bytes h hs) ∙ append_assoc (header_bytes h) (flat_map header_bytes hs) (counted_bytes body ++ rest) ∙ append_assoc (counted_bytes h.0) (counted_bytes h.1) tail in
    let after = at + 4 + length h.0 + 4 + length h.1 in
    ap (λ b. reads (headers_grammar (length (h ∷ hs)) txn end at last done) b at) bytes
    ∙ ap (λ g. reads g (counted_bytes h.0 ++ (counted_bytes h.1 ++ tail)) at) (headers-more (length hs) (length (h ∷ hs)) txn end at last done refl)
    ∙ text-again end last (after_key (length hs) txn end at done) h.0 (counted_bytes h.1 ++ tail) at (omega (arith, ends, total, short)) (omega (arith, ends, total)) texts.0.0 rises.0
    ∙ text-again end None (λ value. headers_grammar (length hs) txn end (at + 4 + length h.0 + 4 + length value) (Some h.0) (done ++ (h.0, value) ∷ [])) h.1 tail (at + 4 + length h.0) (omega (arith, ends, total, short)) (omega (arith, ends, total)) texts.0.1 refl
    ∙ headers-again hs (done ++ h ∷ []) txn end after (Some h.0) body rest texts.1 rises.1 (omega (arith, ends, total)) short
    ∙ ap (λ hs. Complete (Put txn (content hs body)) end) (append_assoc done (h ∷ []) hs)

-- the kind stands in front
kind-again : (kind : ℕ) (bytes : List ℕ) → 1 ≤ kind → kind ≤ 6 → outcome_of (kind ∷ bytes) ≡ reads (kind_grammar kind) bytes 1
kind-again kind bytes low high = record-kind (kind ∷ bytes) (omega arith) (is_kind-true kind low high)

count-again : (next : List ℕ → Rec) (rec : Rec) (n : ℕ) (rest : List ℕ) (at : ℕ) → n < 2 ^ 32 → 1 ≤ n → next (u32_bytes n) ≡ rec → reads (count (λ b. Done (next b))) (u32_bytes n ++ rest) at ≡ Complete rec (at + 4)
count-again next rec n rest at short some same =
    let size : u32_of (u32_bytes n) ≡ n = u32_of-u32_bytes n short in
    let right : (u32_of (u32_bytes n) == 0) ≡ false = false_from_ne_true (u32_of (u32_bytes n) == 0) (λ h. let zero : u32_of (u32_bytes n) ≡ 0 = eqb-true (u32_of (u32_bytes n)) 0 h in omega (arith, size, zero, some)) in
    field-again 4 (λ b. u32_of b == 0) (λ b. Done (next b)) (u32_bytes n) rest at (length-u32_bytes n) right
    ∙ reads-done (next (u32_bytes n)) rest (at + 4) ∙ ap (λ r. Complete r (at + 4)) same

-- a number of eight bytes stands in front
number-again : (next : List ℕ → Grammar) (n : ℕ) (rest : List ℕ) (at : ℕ) → reads (plain 8 next) (u64_bytes n ++ rest) at ≡ reads (next (u64_bytes n)) rest (at + 8)
number-again next n rest at = field-again 8 (λ b. false) next (u64_bytes n) rest at (length-u64_bytes n) refl

event-again : (txn : ℕ) (event : Content) (rest : List ℕ) → AreHeaders event.headers → size event ≤ 1_048_576 → reads (event_grammar txn (13 + size event) 13) (event_bytes event ++ rest) 13 ≡ Complete (Put txn event) (13 + size event)
unfolding event_grammar event_bytes
event-again txn event rest are limit =
    let hs = event.headers in
    let n = length hs in
    let names = flat_map header_bytes hs in
    let total = size-sum event in
    let counted : u32_of (u32_bytes n) ≡ n = u32_of-u32_bytes n (omega (arith, total, limit, length-headers hs)) in
    let end = 13 + length ((u32_bytes n ++ names) ++ counted_bytes event.body) in
    ap (λ b. reads (plain 4 (λ number. headers_grammar (u32_of number) txn end 17 None [])) b 13) (append_assoc (u32_bytes n ++ names) (counted_bytes event.body) rest ∙ append_assoc (u32_bytes n) names (counted_bytes event.body ++ rest))
    ∙ field-again 4 (λ b. false) (λ number. headers_grammar (u32_of number) txn end 17 None []) (u32_bytes n) (names ++ (counted_bytes event.body ++ rest)) 13 (length-u32_bytes n) refl
    ∙ ap (λ m. reads (headers_grammar m txn end 17 None []) (names ++ (counted_bytes event.body ++ rest)) 17) counted
    ∙ headers-again hs [] txn end 17 None event.body rest are.texts (rises_all hs are.rising) (omega (arith, total)) (omega (arith, total, limit))

-- the bytes of a record, and whatever follows, are read as the record
pub record-again : (rec : Rec) (rest : List ℕ) → HasFields rec → IsWithinLimits rec → outcome_of (spelling rec ++ rest) ≡ Complete rec (record_length rec)
unfolding kind_grammar
record-again (Put txn event) rest fields limit =
    let n = size event in
    let sized : u32_of (u32_bytes n) ≡ n = u32_of-u32_bytes n (omega (arith, limit)) in
    let named : u64_of (u64_bytes txn) ≡ txn = u64_of-u64_bytes txn fields.0 in
    let fits : nat_lt 1_048_576 (u32_of (u32_bytes n)) ≡ false = ap (nat_lt 1_048_576) sized ∙ le-ltb 1_048_576 n limit in
    kind-again 1 ((u64_bytes txn ++ (u32_bytes n ++ event_bytes event)) ++ rest) (omega arith) (omega arith)
    ∙ ap (λ b. reads (kind_grammar 1) b 1) (append_assoc (u64_bytes txn) (u32_bytes n ++ event_bytes event) rest ∙ ap (λ b. u64_bytes txn ++ b) (append_assoc (u32_bytes n) (event_bytes event) rest))
    ∙ number-again (λ txn. Field 4 (λ size. nat_lt 1_048_576 (u32_of size)) (λ size. event_grammar (u64_of txn) (13 + u32_of size) 13)) txn (u32_bytes n ++ (event_bytes event ++ rest)) 1
    ∙ field-again 4 (λ size. nat_lt 1_048_576 (u32_of size)) (λ size. event_grammar (u64_of (u64_bytes txn)) (13 + u32_of size) 13) (u32_bytes n) (event_bytes event ++ rest) 9 (length-u32_bytes n) fits
    ∙ ap (λ t. reads (event_grammar t (13 + u32_of (u32_bytes n)) 13) (event_bytes event ++ rest) 13) named
    ∙ ap (λ m. reads (event_grammar txn (13 + m) 13) (event_bytes event ++ rest) 13) sized
    ∙ event-again txn event rest fields.1 limit ∙ ap (Complete (Put txn event)) (add_comm 13 n)
record-again (Take txn number) rest fields limit =
    kind-again 2 ((u64_bytes txn ++ u64_bytes number) ++ rest) (omega arith) (omega arith)
    ∙ ap (λ b. reads (kind_grammar 2) b 1) (append_assoc (u64_bytes txn) (u64_bytes number) rest)
    ∙ number-again (λ txn. plain 8 (λ number. Done (Take (u64_of txn) (u64_of number)))) txn (u64_bytes number ++ rest) 1
    ∙ number-again (λ number. Done (Take (u64_of (u64_bytes txn)) (u64_of number))) number rest 9
    ∙ reads-done (Take (u64_of (u64_bytes txn)) (u64_of (u64_bytes number))) rest 17
    ∙ ap (λ t. Complete (Take t (u64_of (u64_bytes number))) 17) (u64_of-u64_bytes txn fields.0) ∙ ap (λ n. Complete (Take txn n) 17) (u64_of-u64_bytes number fields.1)
record-again (Rollback txn) rest fields limit =
    kind-again 3 (u64_bytes txn ++ rest) (omega arith) (omega arith)
    ∙ number-again (λ txn. Done (Rollback (u64_of txn))) txn rest 1
    ∙ reads-done (Rollback (u64_of (u64_bytes txn))) rest 9 ∙ ap (λ t. Complete (Rollback t) 9) (u64_of-u64_bytes txn fields)
record-again (CommitPut txn first number) rest fields limit =
    kind-again 4 ((u64_bytes txn ++ (u64_bytes first ++ u32_bytes number)) ++ rest) (omega arith) (omega arith)
    ∙ ap (λ b. reads (kind_grammar 4) b 1) (append_assoc (u64_bytes txn) (u64_bytes first ++ u32_bytes number) rest ∙ ap (λ b. u64_bytes txn ++ b) (append_assoc (u64_bytes first) (u32_bytes number) rest))
    ∙ number-again (λ txn. plain 8 (λ first. count (λ number. Done (CommitPut (u64_of txn) (u64_of first) (u32_of number))))) txn (u64_bytes first ++ (u32_bytes number ++ rest)) 1
    ∙ number-again (λ first. count (λ number. Done (CommitPut (u64_of (u64_bytes txn)) (u64_of first) (u32_of number)))) first (u32_bytes number ++ rest) 9
    ∙ count-again (λ number. CommitPut (u64_of (u64_bytes txn)) (u64_of (u64_bytes first)) (u32_of number)) (CommitPut txn first number) number rest 17 fields.2 limit
    (ap (λ t. CommitPut t (u64_of (u64_bytes first)) (u32_of (u32_bytes number))) (u64_of-u64_bytes txn fields.0) ∙ ap (λ f. CommitPut txn f (u32_of (u32_bytes number))) (u64_of-u64_bytes first fields.1) ∙ ap (CommitPut txn first) (u32_of-u32_bytes number fields.2))
record-again (CommitTake txn number) rest fields limit =
    kind-again 5 ((u64_bytes txn ++ u32_bytes number) ++ rest) (omega arith) (omega arith)
    ∙ ap (λ b. reads (kind_grammar 5) b 1) (append_assoc (u64_bytes txn) (u32_bytes number) rest)
    ∙ number-again (λ txn. count (λ number. Done (CommitTake (u64_of txn) (u32_of number)))) txn (u32_bytes number ++ rest) 1
    ∙ count-again (λ number. CommitTake (u64_of (u64_bytes txn)) (u32_of number)) (CommitTake txn number) number rest 9 fields.1 limit
    (ap (λ t. CommitTake t (u32_of (u32_bytes number))) (u64_of-u64_bytes txn fields.0) ∙ ap (CommitTake txn) (u32_of-u32_bytes number fields.1))
record-again (End number) rest fields limit =
    kind-again 6 (u32_bytes number ++ rest) (omega arith) (omega arith)
    ∙ count-again (λ number. End (u32_of number)) (End number) number rest 1 fields limit (ap End (u32_of-u32_bytes number fields))

-- a record has as many bytes as its kind says
pub length-spelling : (rec : Rec) → length (spelling rec) ≡ record_length rec
length-spelling (Put txn event) = omega (arith, length-append (u64_bytes txn) (u32_bytes (size event) ++ event_bytes event), length-append (u32_bytes (size event)) (event_bytes event), length-u64_bytes txn, length-u32_bytes (size event))
length-spelling (Take txn number) = omega (arith, length-append (u64_bytes txn) (u64_bytes number), length-u64_bytes txn, length-u64_bytes number)
length-spelling (Rollback txn) = omega (arith, length-u64_bytes txn)
length-spelling (CommitPut txn first number) = omega (arith, length-append (u64_bytes txn) (u64_bytes first ++ u32_bytes number), length-append (u64_bytes first) (u32_bytes number), length-u64_bytes txn, length-u64_bytes first, length-u32_bytes number)
length-spelling (CommitTake txn number) = omega (arith, length-append (u64_bytes txn) (u32_bytes number), length-u64_bytes txn, length-u32_bytes number)
length-spelling (End number) = omega (arith, length-u32_bytes number)

-- no record's bytes begin those of another
pub one-spelling : (rec other : Rec) (rest more : List ℕ) → HasFields rec → IsWithinLimits rec → HasFields other → IsWithinLimits other → spelling rec ++ rest ≡ spelling other ++ more → rec ≡ other
one-spelling rec other rest more fields limit fields' limit' same =
    let e : Complete rec (record_length rec) ≡ Complete other (record_length other) = sym (record-again rec rest fields limit) ∙ ap outcome_of same ∙ record-again other more fields' limit' in
    cc
