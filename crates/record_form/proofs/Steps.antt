-- One step of reading: a field that is cut, at fault, or read.
use Rattle.std.proofs.Common.{◌≡◌, ◌≢◌, ◌<◌, ◌≤◌, ◌+◌, ◌==◌, ◌++◌, ◌∷◌, [], ℕ, suc, Some, None, Bool, true, false, not, slice_index, ◌&&◌, cond, nat_lt, Option, Result, Ok, Err, ⊎_elim, List, length, take, drop, refl, sym, ap, ◌∙◌, arith, length-drop}
use Rattle.std.proofs.lemmas.List.{drop-drop, get_or-take, length-take-le}
use Rattle.std.specs.List.{slice_get}
use Rattle.std.specs.Str.{is_utf8}
use Rattle.std.proofs.lemmas.Bool.{false_from_ne_true, eqb-true, eq-eqb, cases_lt}
use Rattle.std.proofs.lemmas.Bool.Decides.{nat_tests}
use Rattle.event_core.specs.Content.{Header, content}
use Rattle.record_form.specs.declared.record.Rec.TheVariants.{Put}
use borrow.Author.Tests.{lt-ltb, le-ltb}
use Rattle.record_form.specs.declared.record.Rec.{Rec}
use Rattle.record_form.specs.declared.fields.Stop.{Stop}
use Rattle.record_form.specs.Answers.{Answers, Takes, stopped}
use Rattle.record_form.specs.Grammar.{Grammar, Done, Field, Complete, Incomplete, Fault, reads, u32_of, is_above, u64_of, plain, text_grammar, body_grammar, headers_grammar, event_grammar, is_kind, kind_grammar, outcome_of, record_grammar}

-- where nothing more is to be read, the record is complete
pub reads-done : (rec : Rec) (bytes : List ℕ) (at : ℕ) → reads (Done rec) bytes at ≡ Complete rec at
unfolding reads
reads-done rec bytes at = refl

-- a field whose bytes are too few is incomplete
pub reads-cut : (width : ℕ) (fault : List ℕ → Bool) (next : List ℕ → Grammar) (bytes : List ℕ) (at : ℕ) → length bytes < width → reads (Field width fault next) bytes at ≡ Incomplete
unfolding reads
reads-cut width fault next bytes at short =
    ap (λ b. cond b Incomplete (cond (fault (take width bytes)) (Fault at) (reads (next (take width bytes)) (drop width bytes) (at + width)))) (lt-ltb (length bytes) width short)

-- a field that is there and wrong is at fault where it stands
pub reads-fault : (width : ℕ) (fault : List ℕ → Bool) (next : List ℕ → Grammar) (bytes : List ℕ) (at : ℕ) → width ≤ length bytes → fault (take width bytes) ≡ true → reads (Field width fault next) bytes at ≡ Fault at
unfolding reads
reads-fault width fault next bytes at long is =
    ap (λ b. cond b Incomplete (cond (fault (take width bytes)) (Fault at) (reads (next (take width bytes)) (drop width bytes) (at + width)))) (le-ltb (length bytes) width long)
    ∙ ap (λ b. cond b (Fault at) (reads (next (take width bytes)) (drop width bytes) (at + width))) is

-- a field that is there and right leads on to what follows it
pub reads-next : (width : ℕ) (fault : List ℕ → Bool) (next : List ℕ → Grammar) (bytes : List ℕ) (at : ℕ) → width ≤ length bytes → fault (take width bytes) ≡ false → reads (Field width fault next) bytes at ≡ reads (next (take width bytes)) (drop width bytes) (at + width)
unfolding reads
reads-next width fault next bytes at long is =
    ap (λ b. cond b Incomplete (cond (fault (take width bytes)) (Fault at) (reads (next (take width bytes)) (drop width bytes) (at + width)))) (le-ltb (length bytes) width long)
    ∙ ap (λ b. cond b (Fault at) (reads (next (take width bytes)) (drop width bytes) (at + width))) is

-- the same at a place among all the bytes

-- a field at a place is incomplete where the bytes end within it
pub at-cut : (width : ℕ) (fault : List ℕ → Bool) (next : List ℕ → Grammar) (bytes : List ℕ) (at : ℕ) → at ≤ length bytes → length bytes < at + width → reads (Field width fault next) (drop at bytes) at ≡ Incomplete
at-cut width fault next bytes at within short = reads-cut width fault next (drop at bytes) at (omega (arith, length-drop at bytes))

-- a field at a place is at fault where it is there and wrong
pub at-fault : (width : ℕ) (fault : List ℕ → Bool) (next : List ℕ → Grammar) (bytes : List ℕ) (at : ℕ) → at + width ≤ length bytes → fault (take width (drop at bytes)) ≡ true → reads (Field width fault next) (drop at bytes) at ≡ Fault at
at-fault width fault next bytes at long is = reads-fault width fault next (drop at bytes) at (omega (arith, length-drop at bytes)) is

-- a field at a place leads on where it is there and right
pub at-next : (width : ℕ) (fault : List ℕ → Bool) (next : List ℕ → Grammar) (bytes : List ℕ) (at : ℕ) → at + width ≤ length bytes → fault (take width (drop at bytes)) ≡ false
    → reads (Field width fault next) (drop at bytes) at ≡ reads (next (take width (drop at bytes))) (drop (at + width) bytes) (at + width)
at-next width fault next bytes at long is =
    reads-next width fault next (drop at bytes) at (omega (arith, length-drop at bytes)) is
    ∙ ap (λ rest. reads (next (take width (drop at bytes))) rest (at + width)) (drop-drop width at bytes)

-- how a text is read

-- the length of a text is cut
pub text-cut : (end : ℕ) (last : Option (List ℕ)) (next : List ℕ → Grammar) (bytes : List ℕ) (at : ℕ) → at ≤ length bytes → length bytes < at + 4 → reads (text_grammar end at last next) (drop at bytes) at ≡ Incomplete
unfolding text_grammar
text-cut end last next bytes at within short =
    at-cut 4 (λ size. nat_lt end (at + 4 + u32_of size)) (λ size. Field (u32_of size) (λ text. not (is_utf8 text && is_above last text)) next) bytes at within short

-- a text that would go past the event's end is at fault
pub text-long : (end : ℕ) (last : Option (List ℕ)) (next : List ℕ → Grammar) (bytes : List ℕ) (at n : ℕ) → at + 4 ≤ length bytes → n ≡ u32_of (take 4 (drop at bytes)) → end < at + 4 + n → reads (text_grammar end at last next) (drop at bytes) at ≡ Fault at
unfolding text_grammar
text-long end last next bytes at n within is long =
    at-fault 4 (λ size. nat_lt end (at + 4 + u32_of size)) (λ size. Field (u32_of size) (λ text. not (is_utf8 text && is_above last text)) next) bytes at within
    (lt-ltb end (at + 4 + u32_of (take 4 (drop at bytes))) (omega (arith, is)))

-- the length of a text is read, and its bytes come next
pub text-size : (end : ℕ) (last : Option (List ℕ)) (next : List ℕ → Grammar) (bytes : List ℕ) (at n : ℕ) → at + 4 ≤ length bytes → n ≡ u32_of (take 4 (drop at bytes)) → at + 4 + n ≤ end
    → reads (text_grammar end at last next) (drop at bytes) at ≡ reads (Field n (λ text. not (is_utf8 text && is_above last text)) next) (drop (at + 4) bytes) (at + 4)
unfolding text_grammar
text-size end last next bytes at n within is inside =
    at-next 4 (λ size. nat_lt end (at + 4 + u32_of size)) (λ size. Field (u32_of size) (λ text. not (is_utf8 text && is_above last text)) next) bytes at within
    (le-ltb end (at + 4 + u32_of (take 4 (drop at bytes))) (omega (arith, is, inside)))
    ∙ ap (λ m. reads (Field m (λ text. not (is_utf8 text && is_above last text)) next) (drop (at + 4) bytes) (at + 4)) (sym is)

-- the length of a text is there, and its bytes are cut
pub text-rest : (end : ℕ) (last : Option (List ℕ)) (next : List ℕ → Grammar) (bytes : List ℕ) (at n : ℕ) → at + 4 ≤ length bytes → n ≡ u32_of (take 4 (drop at bytes)) → at + 4 + n ≤ end → length bytes < at + 4 + n → reads (text_grammar end at last next) (drop at bytes) at ≡ Incomplete
text-rest end last next bytes at n within is inside short =
    text-size end last next bytes at n within is inside ∙ at-cut n (λ text. not (is_utf8 text && is_above last text)) next bytes (at + 4) within short

-- a text that isn't UTF-8 or not above the last one is at fault
pub text-fault : (end : ℕ) (last : Option (List ℕ)) (next : List ℕ → Grammar) (bytes : List ℕ) (at n : ℕ) → at + 4 ≤ length bytes → n ≡ u32_of (take 4 (drop at bytes)) → at + 4 + n ≤ end → at + 4 + n ≤ length bytes
    → (is_utf8 (take n (drop (at + 4) bytes)) && is_above last (take n (drop (at + 4) bytes))) ≡ false → reads (text_grammar end at last next) (drop at bytes) at ≡ Fault (at + 4)
text-fault end last next bytes at n within is inside long wrong =
    text-size end last next bytes at n within is inside ∙ at-fault n (λ text. not (is_utf8 text && is_above last text)) next bytes (at + 4) long (ap not wrong)

-- a text that is there, UTF-8 and above the last one is read
pub text-read : (end : ℕ) (last : Option (List ℕ)) (next : List ℕ → Grammar) (bytes : List ℕ) (at n : ℕ) (text : List ℕ) → at + 4 ≤ length bytes → n ≡ u32_of (take 4 (drop at bytes)) → at + 4 + n ≤ end → at + 4 + n ≤ length bytes
    → text ≡ take n (drop (at + 4) bytes) → is_utf8 text ≡ true → is_above last text ≡ true
    → reads (text_grammar end at last next) (drop at bytes) at ≡ reads (next text) (drop (at + 4 + length text) bytes) (at + 4 + length text)
text-read end last next bytes at n text within is inside long same utf8 above =
    let right : (is_utf8 (take n (drop (at + 4) bytes)) && is_above last (take n (drop (at + 4) bytes))) ≡ true = ap (λ t. is_utf8 t && is_above last t) (sym same) ∙ ap (λ b. b && is_above last text) utf8 ∙ ap (λ b. true && b) above in
    let size : length text ≡ n = ap length same ∙ length-take-le n (drop (at + 4) bytes) (omega (arith, length-drop (at + 4) bytes)) in
    text-size end last next bytes at n within is inside
    ∙ at-next n (λ text. not (is_utf8 text && is_above last text)) next bytes (at + 4) long (ap not right)
    ∙ ap (λ t. reads (next t) (drop (at + 4 + n) bytes) (at + 4 + n)) (sym same)
    ∙ ap (λ m. reads (next text) (drop (at + 4 + m) bytes) (at + 4 + m)) (sym size)

-- how a body is read

-- the length of a body is cut
pub body-cut : (txn end at : ℕ) (headers : List Header) (bytes : List ℕ) → at ≤ length bytes → length bytes < at + 4 → reads (body_grammar txn end at headers) (drop at bytes) at ≡ Incomplete
unfolding body_grammar
body-cut txn end at headers bytes within short =
    at-cut 4 (λ size. not (at + 4 + u32_of size == end)) (λ size. plain (u32_of size) (λ body. Done (Put txn (content headers body)))) bytes at within short

-- a body that does not end with the event is at fault
pub body-fault : (txn end at : ℕ) (headers : List Header) (bytes : List ℕ) (n : ℕ) → at + 4 ≤ length bytes → n ≡ u32_of (take 4 (drop at bytes)) → at + 4 + n ≢ end → reads (body_grammar txn end at headers) (drop at bytes) at ≡ Fault at
unfolding body_grammar
body-fault txn end at headers bytes n within is apart =
    at-fault 4 (λ size. not (at + 4 + u32_of size == end)) (λ size. plain (u32_of size) (λ body. Done (Put txn (content headers body)))) bytes at within
    (ap not (false_from_ne_true (at + 4 + u32_of (take 4 (drop at bytes)) == end) (λ h. apart (ap (λ m. at + 4 + m) is ∙ eqb-true (at + 4 + u32_of (take 4 (drop at bytes))) end h))))

body-size : (txn end at : ℕ) (headers : List Header) (bytes : List ℕ) (n : ℕ) → at + 4 ≤ length bytes → n ≡ u32_of (take 4 (drop at bytes)) → at + 4 + n ≡ end
    → reads (body_grammar txn end at headers) (drop at bytes) at ≡ reads (plain n (λ body. Done (Put txn (content headers body)))) (drop (at + 4) bytes) (at + 4)
unfolding body_grammar
body-size txn end at headers bytes n within is ends =
    at-next 4 (λ size. not (at + 4 + u32_of size == end)) (λ size. plain (u32_of size) (λ body. Done (Put txn (content headers body)))) bytes at within
    (ap not (eq-eqb (at + 4 + u32_of (take 4 (drop at bytes))) end (ap (λ m. at + 4 + m) (sym is) ∙ ends)))
    ∙ ap (λ m. reads (plain m (λ body. Done (Put txn (content headers body)))) (drop (at + 4) bytes) (at + 4)) (sym is)

-- the length of a body is there, and its bytes are cut
pub body-rest : (txn end at : ℕ) (headers : List Header) (bytes : List ℕ) (n : ℕ) → at + 4 ≤ length bytes → n ≡ u32_of (take 4 (drop at bytes)) → at + 4 + n ≡ end → length bytes < at + 4 + n → reads (body_grammar txn end at headers) (drop at bytes) at ≡ Incomplete
body-rest txn end at headers bytes n within is ends short =
    body-size txn end at headers bytes n within is ends ∙ at-cut n (λ body. false) (λ body. Done (Put txn (content headers body))) bytes (at + 4) within short

-- a body that ends with the event is read, and the record is whole
pub body-read : (txn end at : ℕ) (headers : List Header) (bytes : List ℕ) (n : ℕ) → at + 4 ≤ length bytes → n ≡ u32_of (take 4 (drop at bytes)) → at + 4 + n ≡ end → at + 4 + n ≤ length bytes
    → reads (body_grammar txn end at headers) (drop at bytes) at ≡ Complete (Put txn (content headers (take n (drop (at + 4) bytes)))) (at + 4 + n)
body-read txn end at headers bytes n within is ends long =
    body-size txn end at headers bytes n within is ends
    ∙ at-next n (λ body. false) (λ body. Done (Put txn (content headers body))) bytes (at + 4) long refl
    ∙ reads-done (Put txn (content headers (take n (drop (at + 4) bytes)))) (drop (at + 4 + n) bytes) (at + 4 + n)

-- headers, one after another

-- where no headers are to come, the body is read
pub headers-none : (txn end at : ℕ) (last : Option (List ℕ)) (headers : List Header) → headers_grammar 0 txn end at last headers ≡ body_grammar txn end at headers
unfolding headers_grammar
headers-none txn end at last headers = refl

-- what follows a key
abbrev pub after_key : ℕ → ℕ → ℕ → ℕ → List Header → List ℕ → Grammar
after_key n txn end at headers key =
    text_grammar end (at + 4 + length key) None
    (λ value. headers_grammar n txn end (at + 4 + length key + 4 + length value) (Some key) (headers ++ (key, value) ∷ []))

-- where a header is to come, its key is read, then its value
pub headers-more : (n m txn end at : ℕ) (last : Option (List ℕ)) (headers : List Header) → m ≡ suc n → headers_grammar m txn end at last headers ≡ text_grammar end at last (after_key n txn end at headers)
unfolding headers_grammar
headers-more n m txn end at last headers is = ap (λ k. headers_grammar k txn end at last headers) is

-- the body's bytes are there, or they are cut
pub body-answers : (txn end at : ℕ) (headers : List Header) (bytes : List ℕ) (n : ℕ) (r : Result ℕ Stop) → at + 4 ≤ length bytes → n ≡ u32_of (take 4 (drop at bytes)) → at + 4 + n ≡ end → Takes r bytes (at + 4) n (λ stop. stop ≡ at + 4 + n)
    → Answers r (reads (body_grammar txn end at headers) (drop at bytes) at) (λ stop. (body : List ℕ) × (reads (body_grammar txn end at headers) (drop at bytes) at ≡ Complete (Put txn (content headers body)) stop))
body-answers txn end at headers bytes n (Ok stop) within is ends takes =
    (take n (drop (at + 4) bytes), body-read txn end at headers bytes n within is ends takes.0 ∙ ap (λ m. Complete (Put txn (content headers (take n (drop (at + 4) bytes)))) m) (sym takes.1))
body-answers txn end at headers bytes n (Err stop) within is ends takes =
    body-rest txn end at headers bytes n within is ends takes.0 ∙ ap stopped (sym takes.1)

-- the fields after each kind

put_fields : List ℕ → Grammar
put_fields txn = Field 4 (λ size. nat_lt 1_048_576 (u32_of size)) (λ size. event_grammar (u64_of txn) (13 + u32_of size) 13)

put-grammar : kind_grammar 1 ≡ plain 8 put_fields
unfolding kind_grammar put_fields
put-grammar = refl

put-fields : (txn : List ℕ) → put_fields txn ≡ Field 4 (λ size. nat_lt 1_048_576 (u32_of size)) (λ size. event_grammar (u64_of txn) (13 + u32_of size) 13)
unfolding put_fields
put-fields txn = refl

-- the transaction's number is there
put-txn : (bytes : List ℕ) → 9 ≤ length bytes → reads (kind_grammar 1) (drop 1 bytes) 1 ≡ reads (Field 4 (λ size. nat_lt 1_048_576 (u32_of size)) (λ size. event_grammar (u64_of (take 8 (drop 1 bytes))) (13 + u32_of size) 13)) (drop 9 bytes) 9
put-txn bytes long =
    ap (λ g. reads g (drop 1 bytes) 1) put-grammar ∙ at-next 8 (λ b. false) put_fields bytes 1 long refl ∙ ap (λ g. reads g (drop 9 bytes) 9) (put-fields (take 8 (drop 1 bytes)))

-- a PUT is cut before its event begins
pub put-cut : (bytes : List ℕ) → 1 ≤ length bytes → length bytes < 13 → reads (kind_grammar 1) (drop 1 bytes) 1 ≡ Incomplete
put-cut bytes some short =
    ⊎_elim
    (λ less. ap (λ g. reads g (drop 1 bytes) 1) put-grammar ∙ at-cut 8 (λ b. false) put_fields bytes 1 some less)
    (λ more. put-txn bytes more ∙ at-cut 4 (λ size. nat_lt 1_048_576 (u32_of size)) (λ size. event_grammar (u64_of (take 8 (drop 1 bytes))) (13 + u32_of size) 13) bytes 9 more short)
    (cases_lt (length bytes) 9)

-- a PUT with an event above the greatest size is at fault
pub put-fault : (bytes : List ℕ) (size : ℕ) → 13 ≤ length bytes → size ≡ u32_of (take 4 (drop 9 bytes)) → 1_048_576 < size → reads (kind_grammar 1) (drop 1 bytes) 1 ≡ Fault 9
put-fault bytes size long is more =
    put-txn bytes (omega (arith, long)) ∙ at-fault 4 (λ size. nat_lt 1_048_576 (u32_of size)) (λ size. event_grammar (u64_of (take 8 (drop 1 bytes))) (13 + u32_of size) 13) bytes 9 long (lt-ltb 1_048_576 (u32_of (take 4 (drop 9 bytes))) (omega (arith, is, more)))

-- a PUT is read on at its event, where its size is allowed
pub put-event : (bytes : List ℕ) (size : ℕ) → 13 ≤ length bytes → size ≡ u32_of (take 4 (drop 9 bytes)) → size ≤ 1_048_576 → reads (kind_grammar 1) (drop 1 bytes) 1 ≡ reads (event_grammar (u64_of (take 8 (drop 1 bytes))) (13 + size) 13) (drop 13 bytes) 13
put-event bytes size long is less =
    put-txn bytes (omega (arith, long))
    ∙ at-next 4 (λ size. nat_lt 1_048_576 (u32_of size)) (λ size. event_grammar (u64_of (take 8 (drop 1 bytes))) (13 + u32_of size) 13) bytes 9 long (le-ltb 1_048_576 (u32_of (take 4 (drop 9 bytes))) (omega (arith, is, less)))
    ∙ ap (λ n. reads (event_grammar (u64_of (take 8 (drop 1 bytes))) (13 + n) 13) (drop 13 bytes) 13) (sym is)

event-grammar : (txn end at : ℕ) → event_grammar txn end at ≡ plain 4 (λ number. headers_grammar (u32_of number) txn end (at + 4) None [])
unfolding event_grammar
event-grammar txn end at = refl

-- a PUT is cut within the count of its headers
pub put-number-cut : (bytes : List ℕ) (size : ℕ) → 13 ≤ length bytes → size ≡ u32_of (take 4 (drop 9 bytes)) → size ≤ 1_048_576 → length bytes < 17 → reads (kind_grammar 1) (drop 1 bytes) 1 ≡ Incomplete
put-number-cut bytes size long is less short =
    put-event bytes size long is less ∙ ap (λ g. reads g (drop 13 bytes) 13) (event-grammar (u64_of (take 8 (drop 1 bytes))) (13 + size) 13)
    ∙ at-cut 4 (λ b. false) (λ number. headers_grammar (u32_of number) (u64_of (take 8 (drop 1 bytes))) (13 + size) 17 None []) bytes 13 long short

-- a PUT is read on at its headers, once their count is there
pub put-headers : (bytes : List ℕ) (size number : ℕ) → 17 ≤ length bytes → size ≡ u32_of (take 4 (drop 9 bytes)) → size ≤ 1_048_576 → number ≡ u32_of (take 4 (drop 13 bytes))
    → reads (kind_grammar 1) (drop 1 bytes) 1 ≡ reads (headers_grammar number (u64_of (take 8 (drop 1 bytes))) (13 + size) 17 None []) (drop 17 bytes) 17
put-headers bytes size number long is less counted =
    put-event bytes size (omega (arith, long)) is less ∙ ap (λ g. reads g (drop 13 bytes) 13) (event-grammar (u64_of (take 8 (drop 1 bytes))) (13 + size) 13)
    ∙ at-next 4 (λ b. false) (λ number. headers_grammar (u32_of number) (u64_of (take 8 (drop 1 bytes))) (13 + size) 17 None []) bytes 13 long refl
    ∙ ap (λ n. reads (headers_grammar n (u64_of (take 8 (drop 1 bytes))) (13 + size) 17 None []) (drop 17 bytes) 17) (sym counted)

-- the kind

record-grammar : record_grammar ≡ Field 1 (λ kind. not (is_kind (slice_index kind 0))) (λ kind. kind_grammar (slice_index kind 0))
unfolding record_grammar
record-grammar = refl

first_byte : (bytes : List ℕ) → slice_index (take 1 bytes) 0 ≡ slice_index bytes 0
first_byte bytes = get_or-take 1 bytes 0 0 (omega arith)

-- no bytes at all are read as an incomplete record
pub record-cut : (bytes : List ℕ) → length bytes < 1 → outcome_of bytes ≡ Incomplete
record-cut bytes short = ap (λ g. reads g bytes 0) record-grammar ∙ reads-cut 1 (λ kind. not (is_kind (slice_index kind 0))) (λ kind. kind_grammar (slice_index kind 0)) bytes 0 short

-- a record whose first byte is no kind is at fault
pub record-fault : (bytes : List ℕ) → 1 ≤ length bytes → is_kind (slice_index bytes 0) ≡ false → outcome_of bytes ≡ Fault 0
record-fault bytes some wrong =
    ap (λ g. reads g bytes 0) record-grammar ∙ reads-fault 1 (λ kind. not (is_kind (slice_index kind 0))) (λ kind. kind_grammar (slice_index kind 0)) bytes 0 some (ap (λ k. not (is_kind k)) (first_byte bytes) ∙ ap not wrong)

-- a record whose first byte is a kind is read on after it
pub record-kind : (bytes : List ℕ) → 1 ≤ length bytes → is_kind (slice_index bytes 0) ≡ true → outcome_of bytes ≡ reads (kind_grammar (slice_index bytes 0)) (drop 1 bytes) 1
record-kind bytes some right =
    ap (λ g. reads g bytes 0) record-grammar ∙ reads-next 1 (λ kind. not (is_kind (slice_index kind 0))) (λ kind. kind_grammar (slice_index kind 0)) bytes 0 some (ap (λ k. not (is_kind k)) (first_byte bytes) ∙ ap not right)
    ∙ ap (λ k. reads (kind_grammar k) (drop 1 bytes) 1) (first_byte bytes)

-- the numbers from 1 to 6 are kinds
pub is_kind-true : (kind : ℕ) → 1 ≤ kind → kind ≤ 6 → is_kind kind ≡ true
is_kind-true kind low high = ap (λ b. b && nat_lt kind 7) (lt-ltb 0 kind low) ∙ ap (λ b. true && b) (lt-ltb kind 7 (omega (arith, high)))

-- 0 is no kind
pub is_kind-zero : (kind : ℕ) → kind ≡ 0 → is_kind kind ≡ false
is_kind-zero kind is = ap is_kind is

-- numbers above 6 are no kinds
pub is_kind-high : (kind : ℕ) → 6 < kind → is_kind kind ≡ false
is_kind-high kind high = ap (λ b. nat_lt 0 kind && b) (le-ltb kind 7 (omega (arith, high))) ∙ false_from_ne_true (nat_lt 0 kind && false) (λ h. grind (arith, nat_tests))

-- where no first byte is got, there are no bytes
pub first_none : (bytes : List ℕ) → None ≡ slice_get bytes 0 → length bytes < 1
first_none [] h = omega arith
first_none (b ∷ bytes) h = cc

-- a first byte that was got is that of the bytes
pub first_some : (bytes : List ℕ) (k : ℕ) → Some k ≡ slice_get bytes 0 → (1 ≤ length bytes) × (k ≡ slice_index bytes 0)
first_some [] k h = cc
first_some (b ∷ bytes) k h = (omega arith, cc)

-- a record of a known kind is read after its kind
pub read-kind : (bytes : List ℕ) (kind : ℕ) → Some kind ≡ slice_get bytes 0 → 1 ≤ kind → kind ≤ 6 → outcome_of bytes ≡ reads (kind_grammar kind) (drop 1 bytes) 1
read-kind bytes kind first low high =
    let here = first_some bytes kind first in
    record-kind bytes here.0 (ap is_kind (sym here.1) ∙ is_kind-true kind low high) ∙ ap (λ k. reads (kind_grammar k) (drop 1 bytes) 1) (sym here.1)

-- a first byte that was got and is no kind makes a fault
pub read-wrong : (bytes : List ℕ) (kind : ℕ) → Some kind ≡ slice_get bytes 0 → is_kind kind ≡ false → outcome_of bytes ≡ Fault 0
read-wrong bytes kind first wrong =
    let here = first_some bytes kind first in
    record-fault bytes here.0 (ap is_kind (sym here.1) ∙ wrong)
