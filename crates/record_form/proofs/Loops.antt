-- Loops over headers.
use Rattle.std.proofs.Common.{◌≡◌, ◌≤◌, ◌<◌, ◌+◌, ◌-◌, ◌^◌, ◌++◌, ◌∷◌, ℕ, true, List, [], length, take, drop, slice_index, subst, ⊎_elim, Option, Some, None, refl, sym, ap, ◌∙◌, arith}
use Rattle.std.specs.declared.cmp.Ordering.{Ordering}
use Rattle.std.specs.declared.cmp.Ordering.TheVariants.{Less, Equal, Greater}
use Rattle.std.specs.Ordering.{is_lt, match_ordering, ordering_reverse}
use Rattle.std.specs.List.{AllByRecursion}
use Rattle.std.specs.Cmp.Lexicographic.{nat_list_cmp_total}
use Rattle.event_core.specs.Content.{Header, header_size, headers_size, key_cmp, with_header}
use Rattle.std.proofs.lemmas.List.Sums.{sum_by-append, sum_by-cons}
use Rattle.std.proofs.lemmas.Bool.{cases_lt}
use Rattle.record_form.specs.declared.record.Rec.{Rec}
use Rattle.record_form.specs.declared.fields.Stop.{Stop}
use Rattle.record_form.specs.declared.fields.Stop.TheVariants as stops
use Rattle.record_form.specs.Answers.{stopped}
use Rattle.record_form.specs.Grammar.{Grammar, Outcome, Complete, Incomplete, Fault, IsWhole, as_read, outcome_of, read_of, u32_of, u64_of, reads, is_above, kind_grammar, text_grammar, body_grammar, headers_grammar}
use Rattle.record_form.proofs.Steps.{after_key, headers-none, headers-more, put-headers, record-cut, record-fault, record-kind, is_kind-true, is_kind-zero, is_kind-high}

-- Of so many headers from the start on, some are read, and reading goes on at this place above this last key.
pub record ReadsOn (bytes : List ℕ) (end start number counter at : ℕ) (last : Option (List ℕ)) : Type 0 where
  pub within : at ≤ length bytes
  pub low : at < 2 ^ 30
  pub same : (txn : ℕ) → (headers : List Header) × (reads (headers_grammar number txn end start None []) (drop start bytes) start ≡ reads (headers_grammar (number - counter) txn end at last headers) (drop at bytes) at)

-- the key of the next header is read next
pub reads_key : (bytes : List ℕ) (end start number counter at : ℕ) (last : Option (List ℕ)) → ReadsOn bytes end start number counter at last → counter < number → (txn : ℕ)
    → (headers : List Header) × (reads (headers_grammar number txn end start None []) (drop start bytes) start ≡ reads (text_grammar end at last (after_key (number - (counter + 1)) txn end at headers)) (drop at bytes) at)
reads_key bytes end start number counter at last on more txn =
    let here = on.same txn in
    (here.0, here.1 ∙ ap (λ g. reads g (drop at bytes) at) (headers-more (number - (counter + 1)) (number - counter) txn end at last here.0 (omega arith)))

-- Of the headers of a PUT some are built, and reading goes on at this place above this last key.
pub record BuildsOn (bytes : List ℕ) (txn end number counter at : ℕ) (last : Option (List ℕ)) (headers : List (List ℕ × List ℕ)) : Type 0 where
  pub within : at ≤ length bytes
  pub low : at < 2 ^ 30
  pub same : reads (kind_grammar 1) (drop 1 bytes) 1 ≡ reads (headers_grammar (number - counter) txn end at last headers) (drop at bytes) at
  pub sizes : headers_size headers + 17 ≡ at
  pub above : (key : List ℕ) → is_above last key ≡ true → AllByRecursion (λ h. key_cmp key h.0 ≡ Greater) headers

-- a key above all others goes to the end
pub with_header-last : (hs : List Header) (k v : List ℕ) → AllByRecursion (λ h. key_cmp k h.0 ≡ Greater) hs → with_header hs k v ≡ hs ++ (k, v) ∷ []
with_header-last [] k v above = refl
with_header-last (e ∷ hs) k v above =
    ap (λ o. match_ordering o ((k, v) ∷ e ∷ hs) ((e.0, v) ∷ hs) (e ∷ with_header hs k v)) above.0 ∙ ap (λ hs. e ∷ hs) (with_header-last hs k v above.1)

is_lt-Less : (o : Ordering) → is_lt o ≡ true → o ≡ Less
is_lt-Less Less h = refl
is_lt-Less Equal h = cc
is_lt-Less Greater h = cc

-- a key above the last one is greater than it
pub key_above : (last key : List ℕ) → is_above (Some last) key ≡ true → key_cmp key last ≡ Greater
key_above last key h =
    let less : key_cmp last key ≡ Less = is_lt-Less (key_cmp last key) h in
    nat_list_cmp_total.antisymm key last ∙ ap ordering_reverse less

-- what is above a key is above all that it is above
above_all : (key next : List ℕ) (hs : List Header) → key_cmp key next ≡ Less → AllByRecursion (λ h. key_cmp key h.0 ≡ Greater) hs → AllByRecursion (λ h. key_cmp next h.0 ≡ Greater) hs
above_all key next [] less all = tt
above_all key next (h ∷ hs) less all =
    let lower : key_cmp h.0 key ≡ Less = nat_list_cmp_total.antisymm h.0 key ∙ ap ordering_reverse all.0 in
    (nat_list_cmp_total.antisymm next h.0 ∙ ap ordering_reverse (nat_list_cmp_total.trans h.0 key next lower less), above_all key next hs less all.1)

push_all : (next : List ℕ) (hs : List Header) (h : Header) → AllByRecursion (λ h. key_cmp next h.0 ≡ Greater) hs → key_cmp next h.0 ≡ Greater → AllByRecursion (λ h. key_cmp next h.0 ≡ Greater) (hs ++ h ∷ [])
push_all next [] h all one = (one, tt)
push_all next (x ∷ hs) h all one = (all.0, push_all next hs h all.1 one)

-- what is above the last of some headers is above all of them
pub still_above : (key value : List ℕ) (hs : List Header) → AllByRecursion (λ h. key_cmp key h.0 ≡ Greater) hs → (next : List ℕ) → is_above (Some key) next ≡ true → AllByRecursion (λ h. key_cmp next h.0 ≡ Greater) (hs ++ (key, value) ∷ [])
still_above key value hs all next h =
    push_all next hs (key, value) (above_all key next hs (is_lt-Less (key_cmp key next) h) all) (key_above key next h)

-- the key of the next header is read next
pub builds_key : (bytes : List ℕ) (txn end number counter at : ℕ) (last : Option (List ℕ)) (headers : List Header) → BuildsOn bytes txn end number counter at last headers → counter < number
    → reads (kind_grammar 1) (drop 1 bytes) 1 ≡ reads (text_grammar end at last (after_key (number - (counter + 1)) txn end at headers)) (drop at bytes) at
builds_key bytes txn end number counter at last headers on more =
    on.same ∙ ap (λ g. reads g (drop at bytes) at) (headers-more (number - (counter + 1)) (number - counter) txn end at last headers (omega arith))

-- before the first header none is built, and reading goes on at offset 17
pub builds_none : (bytes : List ℕ) (txn size number : ℕ) (headers : List Header) → 17 ≤ length bytes → size ≡ u32_of (take 4 (drop 9 bytes)) → size ≤ 1_048_576 → number ≡ u32_of (take 4 (drop 13 bytes)) → txn ≡ u64_of (take 8 (drop 1 bytes)) → headers ≡ []
    → BuildsOn bytes txn (13 + size) number 0 17 None headers
builds_none bytes txn size number headers long sized less counted named none =
    let all : number ≡ number - 0 = omega arith in
    record {
      within = long;
      low = omega arith;
      same = put-headers bytes size number long sized less counted
          ∙ ap (λ t. reads (headers_grammar number t (13 + size) 17 None []) (drop 17 bytes) 17) (sym named)
          ∙ ap (λ n. reads (headers_grammar n txn (13 + size) 17 None []) (drop 17 bytes) 17) all
          ∙ ap (λ hs. reads (headers_grammar (number - 0) txn (13 + size) 17 None hs) (drop 17 bytes) 17) (sym none);
      sizes = ap (λ hs. headers_size hs + 17) none;
      above = λ key high. subst (AllByRecursion (λ h. key_cmp key h.0 ≡ Greater)) (sym none) tt;
    }

-- one more header is built
pub builds_more : (bytes : List ℕ) (txn end number counter at : ℕ) (last : Option (List ℕ)) (headers built : List Header) (key value : List ℕ) → BuildsOn bytes txn end number counter at last headers → counter < number
    → ((next : List ℕ → Grammar) → reads (text_grammar end at last next) (drop at bytes) at ≡ reads (next key) (drop (at + 4 + length key) bytes) (at + 4 + length key))
    → ((next : List ℕ → Grammar) → reads (text_grammar end (at + 4 + length key) None next) (drop (at + 4 + length key) bytes) (at + 4 + length key) ≡ reads (next value) (drop (at + 4 + length key + 4 + length value) bytes) (at + 4 + length key + 4 + length value))
    → at + 4 + length key + 4 + length value ≤ length bytes → at + 4 + length key + 4 + length value < 2 ^ 30 → is_above last key ≡ true → built ≡ with_header headers key value
    → BuildsOn bytes txn end number (counter + 1) (at + 4 + length key + 4 + length value) (Some key) built
builds_more bytes txn end number counter at last headers built key value on more key_reads value_reads within low high set =
    let n = number - (counter + 1) in
    let after = at + 4 + length key + 4 + length value in
    let pushed : built ≡ headers ++ (key, value) ∷ [] = set ∙ with_header-last headers key value (on.above key high) in
    let size : headers_size (headers ++ (key, value) ∷ []) ≡ headers_size headers + headers_size ((key, value) ∷ []) = sum_by-append header_size headers ((key, value) ∷ []) in
    let one : headers_size ((key, value) ∷ []) ≡ length key + length value + 8 = omega (arith, sum_by-cons header_size (key, value) []) in
    record {
      within = within;
      low = low;
      same = builds_key bytes txn end number counter at last headers on more ∙ key_reads (after_key n txn end at headers)
          ∙ value_reads (λ value. headers_grammar n txn end (at + 4 + length key + 4 + length value) (Some key) (headers ++ (key, value) ∷ []))
          ∙ ap (λ hs. reads (headers_grammar n txn end after (Some key) hs) (drop after bytes) after) (sym pushed);
      sizes = omega (arith, on.sizes, size, one, ap headers_size pushed);
      above = λ next above. subst (AllByRecursion (λ h. key_cmp next h.0 ≡ Greater)) (sym pushed) (still_above key value headers (on.above key high) next above);
    }

-- all headers are built, and the body is read next
pub builds_body : (bytes : List ℕ) (txn end number counter at : ℕ) (last : Option (List ℕ)) (headers : List Header) → BuildsOn bytes txn end number counter at last headers → number ≤ counter
    → reads (kind_grammar 1) (drop 1 bytes) 1 ≡ reads (body_grammar txn end at headers) (drop at bytes) at
builds_body bytes txn end number counter at last headers on all =
    let none : number - counter ≡ 0 = omega arith in
    on.same ∙ ap (λ n. reads (headers_grammar n txn end at last headers) (drop at bytes) at) none ∙ ap (λ g. reads g (drop at bytes) at) (headers-none txn end at last headers)

-- a reader does not stop at a whole record
pub no_stop : (o : Outcome) (stop : Stop) → o ≡ stopped stop → IsWhole (as_read o) → ⊥
no_stop o stops.Part same whole = subst (λ o. IsWhole (as_read o)) same whole
no_stop o (stops.Bad at) same whole = subst (λ o. IsWhole (as_read o)) same whole

-- what is whole was read as a complete record
pub whole_outcome : (o : Outcome) → IsWhole (as_read o) → (rec : Rec) × ((end : ℕ) × (o ≡ Complete rec end))
whole_outcome (Complete rec end) whole = (rec, (end, refl))
whole_outcome Incomplete whole = absurd whole
whole_outcome (Fault at) whole = absurd whole

-- a whole record has a known kind
pub record WholeRecord (bytes : List ℕ) : Type 0 where
  pub some : 1 ≤ length bytes
  pub low : 1 ≤ slice_index bytes 0
  pub high : slice_index bytes 0 ≤ 6
  pub same : outcome_of bytes ≡ reads (kind_grammar (slice_index bytes 0)) (drop 1 bytes) 1

-- bytes with a whole record in front begin with a known kind
pub whole_record : (bytes : List ℕ) → IsWhole (read_of bytes) → WholeRecord bytes
whole_record bytes whole =
    let found = whole_outcome (outcome_of bytes) whole in
    let kind = slice_index bytes 0 in
    ⊎_elim
    (λ short. let none : Incomplete ≡ Complete found.0 found.1.0 = sym (record-cut bytes short) ∙ found.1.1 in cc)
    (λ some. ⊎_elim
    (λ zero. let none : Fault 0 ≡ Complete found.0 found.1.0 = sym (record-fault bytes some (is_kind-zero kind (omega arith))) ∙ found.1.1 in cc)
    (λ low. ⊎_elim
    (λ beyond. let none : Fault 0 ≡ Complete found.0 found.1.0 = sym (record-fault bytes some (is_kind-high kind beyond)) ∙ found.1.1 in cc)
    (λ high. record { some = some; low = low; high = high; same = record-kind bytes some (is_kind-true kind low high) })
    (cases_lt 6 kind))
    (cases_lt kind 1))
    (cases_lt (length bytes) 1)

-- the record that a whole front spells, of this kind
pub record KindWhole (bytes : List ℕ) (kind : ℕ) : Type 0 where
  pub some : 1 ≤ length bytes
  pub rec : Rec
  pub end : ℕ
  pub whole : outcome_of bytes ≡ Complete rec end
  pub inner : reads (kind_grammar kind) (drop 1 bytes) 1 ≡ Complete rec end

-- bytes that begin with this kind and are whole spell a record of it
pub kind_whole : (bytes : List ℕ) (kind : ℕ) → IsWhole (read_of bytes) → slice_index bytes 0 ≡ kind → KindWhole bytes kind
kind_whole bytes kind whole is =
    let r = whole_record bytes whole in
    let found = whole_outcome (outcome_of bytes) whole in
    record {
      some = r.some;
      rec = found.0;
      end = found.1.0;
      whole = found.1.1;
      inner = ap (λ k. reads (kind_grammar k) (drop 1 bytes) 1) (sym is) ∙ sym r.same ∙ found.1.1;
    }

-- a complete record is whole
pub whole_here : (o : Outcome) (rec : Rec) (end : ℕ) → o ≡ Complete rec end → IsWhole (as_read o)
whole_here o rec end same = subst (λ o. IsWhole (as_read o)) (sym same) tt
