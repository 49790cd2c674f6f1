-- What is read as a whole PUT is spelled so.
use Rattle.std.proofs.Common.{◌≡◌, ◌<◌, ◌≤◌, ◌+◌, ◌++◌, ◌∷◌, [], ℕ, zero, suc, Bool, true, false, not, ◌&&◌, nat_lt, Option, Some, None, List, All, length, take, drop, slice_index, ⊎_elim, refl, sym, ap, ◌∙◌, arith, append_assoc, length-drop}
use Rattle.std.specs.declared.cmp.Ordering.{Ordering}
use Rattle.std.specs.declared.cmp.Ordering.TheVariants.{Less, Equal, Greater}
use Rattle.std.specs.Ordering.{is_lt}
use Rattle.std.specs.Cmp.Lexicographic.{nat_list_cmp_total}
use Rattle.std.specs.List.{AllByRecursion, flat_map}
use Rattle.std.specs.List.Sorted.{IsStrictlySortedBy}
use Rattle.std.specs.Map.{keys_of}
use Rattle.std.specs.Str.{IsUtf8, is_utf8}
use Rattle.std.proofs.lemmas.Str.{IsUtf8-from_is_utf8}
use Rattle.std.proofs.lemmas.Bool.{cases_lt}
use Rattle.std.proofs.Math.Seq.{take-add}
use Rattle.std.proofs.lemmas.List.{append-nil, length-take-le}
use Rattle.std.proofs.lemmas.List.Concat.{flat_map-cons}
use Rattle.std.proofs.lemmas.List.Sums.{sum_by-cons}
use borrow.Author.Tests.{ltb-false}
use Rattle.event_core.specs.Numbers.{u32_bytes, u64_bytes}
use Rattle.event_core.specs.Content.{Header, IsTextHeader, content, counted_bytes, event_bytes, header_bytes, header_size, headers_size, key_cmp, size}
use Rattle.event_core.proofs.Sizes.{size-sum}
use Rattle.record_form.specs.declared.record.Rec.{Rec}
use Rattle.record_form.specs.declared.record.Rec.TheVariants.{Put}
use Rattle.record_form.specs.Grammar.{Grammar, Field, Complete, reads, u32_of, u64_of, is_above, text_grammar, headers_grammar, kind_grammar, outcome_of}
use Rattle.record_form.proofs.Steps.{after_key, headers-none, headers-more}
use Rattle.record_form.proofs.Inversions.{whole_field, whole_body, whole_put}
use Rattle.record_form.proofs.Again.{Rises}
use Rattle.record_form.proofs.Loops.{whole_here, whole_record}
use Rattle.record_form.proofs.Spelled.{AreBytes, IsSpelledBy, all_bytes, bytes_at, spelled_take, spelled_rollback, spelled_commit_put, spelled_commit_take, spelled_end, first_one, part_bytes, parts, spelled_as, u32_part, u64_fits, u64_part}

-- a text of a whole record
pub record WholeText (end at : ℕ) (last : Option (List ℕ)) (next : List ℕ → Grammar) (bytes : List ℕ) (rec : Rec) (stop : ℕ) : Type 0 where
  pub text : List ℕ
  pub there : at + 4 + length text ≤ length bytes
  pub inside : at + 4 + length text ≤ end
  pub utf8 : IsUtf8 text
  pub above : is_above last text ≡ true
  pub is : take (4 + length text) (drop at bytes) ≡ counted_bytes text
  pub rest : reads (next text) (drop (at + 4 + length text) bytes) (at + 4 + length text) ≡ Complete rec stop

both_true : (a b : Bool) → not (a && b) ≡ false → (a ≡ true) × (b ≡ true)
both_true true true h = (refl, refl)
both_true true false h = cc
both_true false true h = cc
both_true false false h = cc

whole_text : (end at : ℕ) (last : Option (List ℕ)) (next : List ℕ → Grammar) (bytes : List ℕ) (rec : Rec) (stop : ℕ) → AreBytes bytes → at ≤ length bytes → reads (text_grammar end at last next) (drop at bytes) at ≡ Complete rec stop → WholeText end at last next bytes rec stop
unfolding text_grammar
whole_text end at last next bytes rec stop are within whole =
    let n = u32_of (take 4 (drop at bytes)) in
    let text = take n (drop (at + 4) bytes) in
    let size = whole_field 4 (λ size. nat_lt end (at + 4 + u32_of size)) (λ size. Field (u32_of size) (λ text. not (is_utf8 text && is_above last text)) next) bytes at rec stop within whole in
    let inner = whole_field n (λ text. not (is_utf8 text && is_above last text)) next bytes (at + 4) rec stop size.there size.rest in
    let long : length text ≡ n = length-take-le n (drop (at + 4) bytes) (omega (arith, length-drop (at + 4) bytes, inner.there)) in
    let both = both_true (is_utf8 text) (is_above last text) inner.right in
    let inside : at + 4 + n ≤ end = ltb-false end (at + 4 + n) size.right in
    record {
      text = text;
      there = omega (arith, long, inner.there);
      inside = omega (arith, long, inside);
      utf8 = IsUtf8-from_is_utf8 text both.0;
      above = both.1;
      is = ap (λ m. take (4 + m) (drop at bytes)) long ∙ parts 4 n at bytes ∙ ap (λ x. x ++ text) (sym (u32_part at bytes are size.there)) ∙ ap (λ m. u32_bytes m ++ text) (sym long);
      rest = ap (λ m. reads (next text) (drop (at + 4 + m) bytes) (at + 4 + m)) long ∙ inner.rest;
    }

-- the headers and the body of a whole record
pub record WholeHeaders (n txn end at : ℕ) (last : Option (List ℕ)) (done : List (List ℕ × List ℕ)) (bytes : List ℕ) (rec : Rec) (stop : ℕ) : Type 0 where
  pub headers : List (List ℕ × List ℕ)
  pub body : List ℕ
  pub count : length headers ≡ n
  pub rises : Rises last headers
  pub texts : AllByRecursion IsTextHeader headers
  pub are : AreBytes body
  pub rec_is : rec ≡ Put txn (content (done ++ headers) body)
  pub stops : stop ≡ end
  pub ends : at + (headers_size headers + (4 + length body)) ≡ end
  pub long : end ≤ length bytes
  pub is : take (headers_size headers + (4 + length body)) (drop at bytes) ≡ flat_map header_bytes headers ++ counted_bytes body

-- the headers and the body that were read as a whole are spelled so
pub whole_headers : (n txn end at : ℕ) (last : Option (List ℕ)) (done : List Header) (bytes : List ℕ) (rec : Rec) (stop : ℕ) → AreBytes bytes → at ≤ length bytes → reads (headers_grammar n txn end at last done) (drop at bytes) at ≡ Complete rec stop → WholeHeaders n txn end at last done bytes rec stop
whole_headers zero txn end at last done bytes rec stop are within whole =
    let b = whole_body txn end at done bytes rec stop within (ap (λ g. reads g (drop at bytes) at) (sym (headers-none txn end at last done)) ∙ whole) in
    let n = u32_of (take 4 (drop at bytes)) in
    let body = take n (drop (at + 4) bytes) in
    let long : length body ≡ n = length-take-le n (drop (at + 4) bytes) (omega (arith, length-drop (at + 4) bytes, b.ends, b.long)) in
    record {
      headers = [];
      body = body;
      count = refl;
      rises = tt;
      texts = tt;
      are = part_bytes n (at + 4) bytes are;
      rec_is = b.is ∙ ap (λ hs. Put txn (content hs body)) (sym (append-nil done));
      stops = b.stops;
      ends = omega (arith, b.ends, long);
      long = b.long;
      is = ap (λ m. take m (drop at bytes)) (omega (arith, long)) ∙ parts 4 n at bytes ∙ ap (λ x. x ++ body) (sym (u32_part at bytes are b.there)) ∙ ap (λ m. u32_bytes m ++ body) (sym long);
    }
whole_headers (suc n) txn end at last done bytes rec stop are within whole =
    let key = whole_text end at last (after_key n txn end at done) bytes rec stop are within (ap (λ g. reads g (drop at bytes) at) (sym (headers-more n (suc n) txn end at last done refl)) ∙ whole) in
    let k = key.text in
    let value_at = at + 4 + length k in
    let value = whole_text end value_at None (λ value. headers_grammar n txn end (at + 4 + length k + 4 + length value) (Some k) (done ++ (k, value) ∷ [])) bytes rec stop are key.there key.rest in
    let v = value.text in
    let after = at + 4 + length k + 4 + length v in
    let rest = whole_headers n txn end after (Some k) (done ++ (k, v) ∷ []) bytes rec stop are value.there value.rest in
    let hs = rest.headers in
    let total : headers_size ((k, v) ∷ hs) ≡ header_size (k, v) + headers_size hs = sum_by-cons header_size (k, v) hs in
    let width = headers_size hs + (4 + length rest.body) in
    let front : take ((4 + length k) + ((4 + length v) + width)) (drop at bytes) ≡ counted_bytes k ++ (counted_bytes v ++ (flat_map header_bytes hs ++ counted_bytes rest.body)) =
    parts (4 + length k) ((4 + length v) + width) at bytes
    ∙ ap (λ x. x ++ take ((4 + length v) + width) (drop (at + (4 + length k)) bytes)) key.is
    ∙ ap (λ m. counted_bytes k ++ take ((4 + length v) + width) (drop m bytes)) (omega arith)
    ∙ ap (λ x. counted_bytes k ++ x) (parts (4 + length v) width value_at bytes
    ∙ ap (λ x. x ++ take width (drop (value_at + (4 + length v)) bytes)) value.is
    ∙ ap (λ m. counted_bytes v ++ take width (drop m bytes)) (omega arith)
    ∙ ap (λ x. counted_bytes v ++ x) rest.is) in
    record {
      headers = (k, v) ∷ hs;
      body = rest.body;
      count = ap suc rest.count;
      rises = (key.above, rest.rises);
      texts = ((key.utf8, value.utf8), rest.texts);
      are = rest.are;
      rec_is = rest.rec_is ∙ ap (λ x. Put txn (content x rest.body)) (append_assoc done ((k, v) ∷ []) hs);
      stops = rest.stops;
      ends = omega (arith, rest.ends, total);
      long = rest.long;
      is = ap (λ m. take m (drop at bytes)) (omega (arith, total)) ∙ front
          ∙ sym (append_assoc (counted_bytes k) (counted_bytes v) (flat_map header_bytes hs ++ counted_bytes rest.body))
          ∙ sym (append_assoc (header_bytes (k, v)) (flat_map header_bytes hs) (counted_bytes rest.body))
          ∙ ap (λ x. x ++ counted_bytes rest.body) (sym (flat_map-cons header_bytes (k, v) hs));
    }

less_of : (o : Ordering) → is_lt o ≡ true → o ≡ Less
less_of Less h = refl
less_of Equal h = cc
less_of Greater h = cc

raise : (k l : List ℕ) (ks : List (List ℕ)) → key_cmp k l ≡ Less → AllByRecursion (λ y. key_cmp l y ≡ Less) ks → AllByRecursion (λ y. key_cmp k y ≡ Less) ks
raise k l [] less all = tt
raise k l (y ∷ ks) less all = (nat_list_cmp_total.trans k l y less all.0, raise k l ks less all.1)

-- all are above what the first is above
all_above : (k : List ℕ) (hs : List Header) → Rises (Some k) hs → AllByRecursion (λ y. key_cmp k y ≡ Less) (keys_of hs)
all_above k [] rises = tt
all_above k (h ∷ hs) rises =
    let first : key_cmp k h.0 ≡ Less = less_of (key_cmp k h.0) rises.0 in
    (first, raise k h.0 (keys_of hs) first (all_above h.0 hs rises.1))

sorted_of : (last : Option (List ℕ)) (hs : List Header) → Rises last hs → IsStrictlySortedBy key_cmp (keys_of hs)
unfolding IsStrictlySortedBy
sorted_of last [] rises = tt
sorted_of last (h ∷ hs) rises = (all_above h.0 hs rises.1, sorted_of (Some h.0) hs rises.1)

-- the bytes of a PUT that was read spell it
pub spelled_put : (bytes : List ℕ) (rec : Rec) (end : ℕ) → AreBytes bytes → 1 ≤ length bytes → slice_index bytes 0 ≡ 1 → reads (kind_grammar 1) (drop 1 bytes) 1 ≡ Complete rec end → IsSpelledBy bytes rec end
unfolding event_bytes
spelled_put bytes rec end are some is whole =
    let p = whole_put bytes rec end some whole in
    let txn = u64_of (take 8 (drop 1 bytes)) in
    let n = u32_of (take 4 (drop 9 bytes)) in
    let count = u32_of (take 4 (drop 13 bytes)) in
    let h = whole_headers count txn (13 + n) 17 None [] bytes rec end are p.there p.rest in
    let hs = h.headers in
    let event = content hs h.body in
    let total = size-sum event in
    let sized : n ≡ size event = omega (arith, total, h.ends) in
    let width = headers_size hs + (4 + length h.body) in
    let inner : take (4 + width) (drop 13 bytes) ≡ (u32_bytes (length hs) ++ flat_map header_bytes hs) ++ counted_bytes h.body =
    parts 4 width 13 bytes
    ∙ ap (λ x. x ++ take width (drop 17 bytes)) (sym (u32_part 13 bytes are p.there)) ∙ ap (λ m. u32_bytes m ++ take width (drop 17 bytes)) (sym h.count)
    ∙ ap (λ x. u32_bytes (length hs) ++ x) h.is ∙ sym (append_assoc (u32_bytes (length hs)) (flat_map header_bytes hs) (counted_bytes h.body)) in
    spelled_as bytes (Put txn event) rec (size event + 13) end h.rec_is (omega (arith, h.stops, sized)) (
      record {
        fields = (u64_fits 1 bytes are, record { rising = sorted_of None hs h.rises; texts = h.texts }, all_bytes h.body h.are);
        limits = omega (arith, sized, p.size);
        is = ap (λ m. take m bytes) (omega (arith, total)) ∙ take-add 1 (8 + (4 + (4 + width))) bytes ∙ ap (λ x. x ++ take (8 + (4 + (4 + width))) (drop 1 bytes)) (first_one bytes 1 some is)
            ∙ ap (λ x. 1 ∷ x) (parts 8 (4 + (4 + width)) 1 bytes ∙ ap (λ x. x ++ take (4 + (4 + width)) (drop 9 bytes)) (sym (u64_part 1 bytes are (omega (arith, p.there))))
            ∙ ap (λ x. u64_bytes txn ++ x) (parts 4 (4 + width) 9 bytes ∙ ap (λ x. x ++ take (4 + width) (drop 13 bytes)) (sym (u32_part 9 bytes are (omega (arith, p.there))))
            ∙ ap (λ m. u32_bytes m ++ take (4 + width) (drop 13 bytes)) sized ∙ ap (λ x. u32_bytes (size event) ++ x) inner));
      },
      refl,
    )

-- whatever its kind
pub all_spelled : (bytes : List ℕ) (rec : Rec) (end : ℕ) → All (λ b. b < 256) bytes → outcome_of bytes ≡ Complete rec end → IsSpelledBy bytes rec end
all_spelled bytes rec end all whole =
    let are = bytes_at bytes all in
    let r = whole_record bytes (whole_here (outcome_of bytes) rec end whole) in
    let kind = slice_index bytes 0 in
    let inner : reads (kind_grammar kind) (drop 1 bytes) 1 ≡ Complete rec end = sym r.same ∙ whole in
    let as_kind : (k : ℕ) → kind ≡ k → reads (kind_grammar k) (drop 1 bytes) 1 ≡ Complete rec end = λ k same. ap (λ k. reads (kind_grammar k) (drop 1 bytes) 1) (sym same) ∙ inner in
    ⊎_elim (λ below2. let k : kind ≡ 1 = omega (arith, r.low, below2) in spelled_put bytes rec end are r.some k (as_kind 1 k)) (λ from2.
    ⊎_elim (λ below3. let k : kind ≡ 2 = omega (arith, from2, below3) in spelled_take bytes rec end are r.some k (as_kind 2 k)) (λ from3.
    ⊎_elim (λ below4. let k : kind ≡ 3 = omega (arith, from3, below4) in spelled_rollback bytes rec end are r.some k (as_kind 3 k)) (λ from4.
    ⊎_elim (λ below5. let k : kind ≡ 4 = omega (arith, from4, below5) in spelled_commit_put bytes rec end are r.some k (as_kind 4 k)) (λ from5.
    ⊎_elim (λ below6. let k : kind ≡ 5 = omega (arith, from5, below6) in spelled_commit_take bytes rec end are r.some k (as_kind 5 k)) (λ from6.
    let k : kind ≡ 6 = omega (arith, from6, r.high) in spelled_end bytes rec end are r.some k (as_kind 6 k))
    (cases_lt kind 6)) (cases_lt kind 5)) (cases_lt kind 4)) (cases_lt kind 3)) (cases_lt kind 2)
