-- What is known of bytes that are read as a whole record.
use Rattle.std.proofs.Common.{◌≡◌, ◌≢◌, ◌≤◌, ◌+◌, ◌==◌, [], ℕ, Bool, true, false, not, None, List, length, take, drop, ⊎_elim, refl, sym, ap, ◌∙◌, arith, length-drop}
use Rattle.std.proofs.lemmas.Bool.{eqb-true, eq-eqb, cases_lt}
use Rattle.std.proofs.lemmas.List.{drop-drop}
use Rattle.event_core.specs.Content.{Header, content}
use Rattle.record_form.specs.declared.record.Rec.{Rec}
use Rattle.record_form.specs.declared.record.Rec.TheVariants.{Put, Take, Rollback, CommitPut, CommitTake, End}
use Rattle.record_form.specs.Grammar.{Grammar, Done, Field, Complete, Incomplete, Fault, reads, u32_of, u64_of, plain, count, body_grammar, headers_grammar, kind_grammar}
use Rattle.record_form.proofs.Steps.{reads-cut, reads-fault, reads-next, reads-done, put-cut, put-fault, put-number-cut, put-headers}

-- a field of a whole record is there and right, and what follows it is whole
pub record WholeField (width : ℕ) (fault : List ℕ → Bool) (next : List ℕ → Grammar) (bytes : List ℕ) (at : ℕ) (rec : Rec) (end : ℕ) : Type 0 where
  pub there : at + width ≤ length bytes
  pub right : fault (take width (drop at bytes)) ≡ false
  pub rest : reads (next (take width (drop at bytes))) (drop (at + width) bytes) (at + width) ≡ Complete rec end

-- where a record was read whole, its next field is there and right
pub whole_field : (width : ℕ) (fault : List ℕ → Bool) (next : List ℕ → Grammar) (bytes : List ℕ) (at : ℕ) (rec : Rec) (end : ℕ) → at ≤ length bytes → reads (Field width fault next) (drop at bytes) at ≡ Complete rec end → WholeField width fault next bytes at rec end
whole_field width fault next bytes at rec end within whole =
    let rest = drop at bytes in
    let P : Bool → Type 0 = λ b. fault (take width rest) ≡ b → WholeField width fault next bytes at rec end in
    ⊎_elim
    (λ short. let none : Incomplete ≡ Complete rec end = sym (reads-cut width fault next rest at short) ∙ whole in cc)
    (λ long.
    let cases : P (fault (take width rest)) = elim (fault (take width rest)) as P [
      | true ↦ λ wrong. let none : Fault at ≡ Complete rec end = sym (reads-fault width fault next rest at long wrong) ∙ whole in cc
      | false ↦ λ right. record {
        there = omega (arith, long, length-drop at bytes);
        right = right;
        rest = ap (λ x. reads (next (take width rest)) x (at + width)) (sym (drop-drop width at bytes)) ∙ sym (reads-next width fault next rest at long right) ∙ whole;
      }
    ] in
    cases refl)
    (cases_lt (length rest) width)

whole_done : (rec found : Rec) (bytes : List ℕ) (at end : ℕ) → reads (Done rec) bytes at ≡ Complete found end → (found ≡ rec) × (end ≡ at)
whole_done rec found bytes at end whole =
    let e : Complete rec at ≡ Complete found end = sym (reads-done rec bytes at) ∙ whole in
    (cc, cc)

pub record WholeCount (bytes : List ℕ) (at : ℕ) : Type 0 where
  pub there : at + 4 ≤ length bytes
  pub some : u32_of (take 4 (drop at bytes)) ≢ 0

whole_count : (next : List ℕ → Rec) (bytes : List ℕ) (at : ℕ) (rec : Rec) (end : ℕ) → at ≤ length bytes → reads (count (λ n. Done (next n))) (drop at bytes) at ≡ Complete rec end
    → WholeCount bytes at × (rec ≡ next (take 4 (drop at bytes))) × (end ≡ at + 4)
whole_count next bytes at rec end within whole =
    let f = whole_field 4 (λ b. u32_of b == 0) (λ n. Done (next n)) bytes at rec end within whole in
    let d = whole_done (next (take 4 (drop at bytes))) rec (drop (at + 4) bytes) (at + 4) end f.rest in
    (record { there = f.there; some = λ zero. let yes : (u32_of (take 4 (drop at bytes)) == 0) ≡ true = eq-eqb (u32_of (take 4 (drop at bytes))) 0 zero in let no = f.right in cc }, d.0, d.1)

-- the fields of each kind

-- the bytes that were read as a whole TAKE, and its numbers
pub whole_take : (bytes : List ℕ) (rec : Rec) (end : ℕ) → 1 ≤ length bytes → reads (kind_grammar 2) (drop 1 bytes) 1 ≡ Complete rec end
    → (17 ≤ length bytes) × (rec ≡ Take (u64_of (take 8 (drop 1 bytes))) (u64_of (take 8 (drop 9 bytes)))) × (end ≡ 17)
unfolding kind_grammar
whole_take bytes rec end some whole =
    let txn = whole_field 8 (λ b. false) (λ txn. plain 8 (λ number. Done (Take (u64_of txn) (u64_of number)))) bytes 1 rec end some whole in
    let number = whole_field 8 (λ b. false) (λ number. Done (Take (u64_of (take 8 (drop 1 bytes))) (u64_of number))) bytes 9 rec end txn.there txn.rest in
    let d = whole_done (Take (u64_of (take 8 (drop 1 bytes))) (u64_of (take 8 (drop 9 bytes)))) rec (drop 17 bytes) 17 end number.rest in
    (number.there, d.0, d.1)

-- the bytes that were read as a whole ROLLBACK, and its number
pub whole_rollback : (bytes : List ℕ) (rec : Rec) (end : ℕ) → 1 ≤ length bytes → reads (kind_grammar 3) (drop 1 bytes) 1 ≡ Complete rec end
    → (9 ≤ length bytes) × (rec ≡ Rollback (u64_of (take 8 (drop 1 bytes)))) × (end ≡ 9)
unfolding kind_grammar
whole_rollback bytes rec end some whole =
    let txn = whole_field 8 (λ b. false) (λ txn. Done (Rollback (u64_of txn))) bytes 1 rec end some whole in
    let d = whole_done (Rollback (u64_of (take 8 (drop 1 bytes)))) rec (drop 9 bytes) 9 end txn.rest in
    (txn.there, d.0, d.1)

-- the bytes that were read as a whole COMMIT_PUT, whose count isn't 0
pub whole_commit_put : (bytes : List ℕ) (rec : Rec) (end : ℕ) → 1 ≤ length bytes → reads (kind_grammar 4) (drop 1 bytes) 1 ≡ Complete rec end
    → WholeCount bytes 17 × (rec ≡ CommitPut (u64_of (take 8 (drop 1 bytes))) (u64_of (take 8 (drop 9 bytes))) (u32_of (take 4 (drop 17 bytes)))) × (end ≡ 21)
unfolding kind_grammar
whole_commit_put bytes rec end some whole =
    let txn = whole_field 8 (λ b. false) (λ txn. plain 8 (λ first. count (λ number. Done (CommitPut (u64_of txn) (u64_of first) (u32_of number))))) bytes 1 rec end some whole in
    let first = whole_field 8 (λ b. false) (λ first. count (λ number. Done (CommitPut (u64_of (take 8 (drop 1 bytes))) (u64_of first) (u32_of number)))) bytes 9 rec end txn.there txn.rest in
    whole_count (λ number. CommitPut (u64_of (take 8 (drop 1 bytes))) (u64_of (take 8 (drop 9 bytes))) (u32_of number)) bytes 17 rec end first.there first.rest

-- the bytes that were read as a whole COMMIT_TAKE, whose count isn't 0
pub whole_commit_take : (bytes : List ℕ) (rec : Rec) (end : ℕ) → 1 ≤ length bytes → reads (kind_grammar 5) (drop 1 bytes) 1 ≡ Complete rec end
    → WholeCount bytes 9 × (rec ≡ CommitTake (u64_of (take 8 (drop 1 bytes))) (u32_of (take 4 (drop 9 bytes)))) × (end ≡ 13)
unfolding kind_grammar
whole_commit_take bytes rec end some whole =
    let txn = whole_field 8 (λ b. false) (λ txn. count (λ number. Done (CommitTake (u64_of txn) (u32_of number)))) bytes 1 rec end some whole in
    whole_count (λ number. CommitTake (u64_of (take 8 (drop 1 bytes))) (u32_of number)) bytes 9 rec end txn.there txn.rest

-- the bytes that were read as a whole END, whose count isn't 0
pub whole_end : (bytes : List ℕ) (rec : Rec) (end : ℕ) → 1 ≤ length bytes → reads (kind_grammar 6) (drop 1 bytes) 1 ≡ Complete rec end
    → WholeCount bytes 1 × (rec ≡ End (u32_of (take 4 (drop 1 bytes)))) × (end ≡ 5)
unfolding kind_grammar
whole_end bytes rec end some whole = whole_count (λ number. End (u32_of number)) bytes 1 rec end some whole

pub record WholePut (bytes : List ℕ) (rec : Rec) (end : ℕ) : Type 0 where
  pub there : 17 ≤ length bytes
  pub size : u32_of (take 4 (drop 9 bytes)) ≤ 1_048_576
  pub rest : reads (headers_grammar (u32_of (take 4 (drop 13 bytes))) (u64_of (take 8 (drop 1 bytes))) (13 + u32_of (take 4 (drop 9 bytes))) 17 None []) (drop 17 bytes) 17 ≡ Complete rec end

-- the front of a whole PUT is there and its event isn't too large, and its headers follow
pub whole_put : (bytes : List ℕ) (rec : Rec) (end : ℕ) → 1 ≤ length bytes → reads (kind_grammar 1) (drop 1 bytes) 1 ≡ Complete rec end → WholePut bytes rec end
whole_put bytes rec end some whole =
    let size = u32_of (take 4 (drop 9 bytes)) in
    ⊎_elim
    (λ short. let none : Incomplete ≡ Complete rec end = sym (put-cut bytes some short) ∙ whole in cc)
    (λ sized. ⊎_elim
    (λ high. let none : Fault 9 ≡ Complete rec end = sym (put-fault bytes size sized refl high) ∙ whole in cc)
    (λ low. ⊎_elim
    (λ short. let none : Incomplete ≡ Complete rec end = sym (put-number-cut bytes size sized refl low short) ∙ whole in cc)
    (λ long. record { there = long; size = low; rest = sym (put-headers bytes size (u32_of (take 4 (drop 13 bytes))) long refl low refl) ∙ whole })
    (cases_lt (length bytes) 17))
    (cases_lt 1_048_576 size))
    (cases_lt (length bytes) 13)

-- what is not false is true
pub not_not : (b : Bool) → not b ≡ false → b ≡ true
not_not true h = refl
not_not false h = cc

pub record WholeBody (txn end at : ℕ) (headers : List (List ℕ × List ℕ)) (bytes : List ℕ) (rec : Rec) (stop : ℕ) : Type 0 where
  pub there : at + 4 ≤ length bytes
  pub ends : at + 4 + u32_of (take 4 (drop at bytes)) ≡ end
  pub long : end ≤ length bytes
  pub is : rec ≡ Put txn (content headers (take (u32_of (take 4 (drop at bytes))) (drop (at + 4) bytes)))
  pub stops : stop ≡ end

-- a body that was read ends where the event does, and the record is a PUT of it
pub whole_body : (txn end at : ℕ) (headers : List Header) (bytes : List ℕ) (rec : Rec) (stop : ℕ) → at ≤ length bytes → reads (body_grammar txn end at headers) (drop at bytes) at ≡ Complete rec stop → WholeBody txn end at headers bytes rec stop
unfolding body_grammar
whole_body txn end at headers bytes rec stop within whole =
    let n = u32_of (take 4 (drop at bytes)) in
    let size = whole_field 4 (λ size. not (at + 4 + u32_of size == end)) (λ size. plain (u32_of size) (λ body. Done (Put txn (content headers body)))) bytes at rec stop within whole in
    let ends : at + 4 + n ≡ end = eqb-true (at + 4 + n) end (not_not (at + 4 + n == end) size.right) in
    let body = whole_field n (λ b. false) (λ body. Done (Put txn (content headers body))) bytes (at + 4) rec stop size.there size.rest in
    let d = whole_done (Put txn (content headers (take n (drop (at + 4) bytes)))) rec (drop (at + 4 + n) bytes) (at + 4 + n) stop body.rest in
    record { there = size.there; ends = ends; long = omega (arith, ends, body.there); is = d.0; stops = d.1 ∙ ends }
