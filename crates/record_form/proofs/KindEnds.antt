-- How the records of each kind end.
use Rattle.std.proofs.Common.{◌≡◌, ◌<◌, ◌≤◌, ◌+◌, ◌==◌, ℕ, false, List, length, take, drop, Result, Ok, Err, ⊎_elim, refl, sym, ap, ◌∙◌, arith}
use Rattle.std.proofs.lemmas.Bool.{false_from_ne_true, eqb-true, eq-eqb, cases_lt}
use Rattle.record_form.specs.Record.{record_kind}
use Rattle.record_form.specs.declared.record.Rec.{Rec}
use Rattle.record_form.specs.declared.record.Rec.TheVariants.{Take, Rollback, CommitPut, CommitTake, End}
use Rattle.record_form.specs.declared.fields.Stop.{Stop}
use Rattle.record_form.specs.declared.fields.Stop.TheVariants as stops
use Rattle.record_form.specs.Answers.{Answers, CountsAt, Takes, stopped}
use Rattle.record_form.specs.Grammar.{Grammar, Done, Outcome, Complete, Incomplete, Fault, reads, u32_of, u64_of, plain, count, kind_grammar}
use Rattle.record_form.proofs.Steps.{reads-done, at-cut, at-fault, at-next}

-- a record of this kind ends here
abbrev pub Ends : ℕ → List ℕ → ℕ → Type 0
Ends kind bytes end = (rec : Rec) × (reads (kind_grammar kind) (drop 1 bytes) 1 ≡ Complete rec end) × (record_kind rec ≡ kind)

plain-two : (next : List ℕ → List ℕ → Grammar) (bytes : List ℕ) → 17 ≤ length bytes → reads (plain 8 (λ a. plain 8 (next a))) (drop 1 bytes) 1 ≡ reads (next (take 8 (drop 1 bytes)) (take 8 (drop 9 bytes))) (drop 17 bytes) 17
plain-two next bytes long =
    at-next 8 (λ b. false) (λ a. plain 8 (next a)) bytes 1 (omega (arith, long)) refl ∙ at-next 8 (λ b. false) (next (take 8 (drop 1 bytes))) bytes 9 long refl

plain-two-cut : (next : List ℕ → List ℕ → Grammar) (bytes : List ℕ) → 1 ≤ length bytes → length bytes < 17 → reads (plain 8 (λ a. plain 8 (next a))) (drop 1 bytes) 1 ≡ Incomplete
plain-two-cut next bytes some short =
    ⊎_elim
    (λ less. at-cut 8 (λ b. false) (λ a. plain 8 (next a)) bytes 1 some less)
    (λ more. at-next 8 (λ b. false) (λ a. plain 8 (next a)) bytes 1 more refl ∙ at-cut 8 (λ b. false) (next (take 8 (drop 1 bytes))) bytes 9 more short)
    (cases_lt (length bytes) 9)

-- a count is read, and then what follows it
count-answers : (next : List ℕ → Grammar) (rec : List ℕ → Rec) (bytes : List ℕ) (at : ℕ) (r : Result ℕ Stop) → ((number : List ℕ) → next number ≡ Done (rec number)) → at ≤ length bytes → CountsAt r bytes at
    → Answers r (reads (count next) (drop at bytes) at) (λ end. reads (count next) (drop at bytes) at ≡ Complete (rec (take 4 (drop at bytes))) end)
count-answers next rec bytes at (Ok end) done within counts =
    at-next 4 (λ b. u32_of b == 0) next bytes at counts.0 (false_from_ne_true (u32_of (take 4 (drop at bytes)) == 0) (λ h. counts.1 (eqb-true (u32_of (take 4 (drop at bytes))) 0 h)))
    ∙ ap (λ g. reads g (drop (at + 4) bytes) (at + 4)) (done (take 4 (drop at bytes)))
    ∙ reads-done (rec (take 4 (drop at bytes))) (drop (at + 4) bytes) (at + 4)
    ∙ ap (Complete (rec (take 4 (drop at bytes)))) (sym counts.2)
count-answers next rec bytes at (Err stops.Part) done within counts = at-cut 4 (λ b. u32_of b == 0) next bytes at within counts
count-answers next rec bytes at (Err (stops.Bad fault)) done within counts =
    at-fault 4 (λ b. u32_of b == 0) next bytes at counts.0 (eq-eqb (u32_of (take 4 (drop at bytes))) 0 counts.1) ∙ ap Fault (sym counts.2)

-- a count that is cut
count-short : (P : ℕ → Type 0) (bytes : List ℕ) (at : ℕ) (r : Result ℕ Stop) (o : Outcome) → length bytes < at + 4 → o ≡ Incomplete → CountsAt r bytes at → Answers r o P
count-short P bytes at (Ok end) o short cut counts = absurd (omega (arith, short, counts.0))
count-short P bytes at (Err stops.Part) o short cut counts = cut
count-short P bytes at (Err (stops.Bad fault)) o short cut counts = absurd (omega (arith, short, counts.0))

-- an answer also fits an equal outcome, and what follows from what held of it
pub answers-through : {X : Type 0} (P Q : X → Type 0) (r : Result X Stop) (o p : Outcome) → o ≡ p → ((x : X) → P x → Q x) → Answers r p P → Answers r o Q
answers-through P Q (Ok x) o p same goes holds = goes x holds
answers-through P Q (Err stop) o p same goes holds = same ∙ holds

-- TAKE

take-grammar : kind_grammar 2 ≡ plain 8 (λ txn. plain 8 (λ number. Done (Take (u64_of txn) (u64_of number))))
unfolding kind_grammar
take-grammar = refl

-- a reader of two numbers answers as a TAKE is read
pub take-answers : (bytes : List ℕ) (r : Result ℕ Stop) → 1 ≤ length bytes → Takes r bytes 1 16 (λ end. end ≡ 17) → Answers r (reads (kind_grammar 2) (drop 1 bytes) 1) (Ends 2 bytes)
take-answers bytes (Ok end) some takes =
    let rec : Rec = Take (u64_of (take 8 (drop 1 bytes))) (u64_of (take 8 (drop 9 bytes))) in
    (rec, ap (λ g. reads g (drop 1 bytes) 1) take-grammar ∙ plain-two (λ txn number. Done (Take (u64_of txn) (u64_of number))) bytes takes.0 ∙ reads-done rec (drop 17 bytes) 17 ∙ ap (Complete rec) (sym takes.1), refl)
take-answers bytes (Err stop) some takes =
    ap (λ g. reads g (drop 1 bytes) 1) take-grammar ∙ plain-two-cut (λ txn number. Done (Take (u64_of txn) (u64_of number))) bytes some takes.0 ∙ ap stopped (sym takes.1)

-- ROLLBACK

rollback-grammar : kind_grammar 3 ≡ plain 8 (λ txn. Done (Rollback (u64_of txn)))
unfolding kind_grammar
rollback-grammar = refl

-- a reader of one number answers as a ROLLBACK is read
pub rollback-answers : (bytes : List ℕ) (r : Result ℕ Stop) → 1 ≤ length bytes → Takes r bytes 1 8 (λ end. end ≡ 9) → Answers r (reads (kind_grammar 3) (drop 1 bytes) 1) (Ends 3 bytes)
rollback-answers bytes (Ok end) some takes =
    let rec : Rec = Rollback (u64_of (take 8 (drop 1 bytes))) in
    (rec, ap (λ g. reads g (drop 1 bytes) 1) rollback-grammar ∙ at-next 8 (λ b. false) (λ txn. Done (Rollback (u64_of txn))) bytes 1 takes.0 refl ∙ reads-done rec (drop 9 bytes) 9 ∙ ap (Complete rec) (sym takes.1), refl)
rollback-answers bytes (Err stop) some takes =
    ap (λ g. reads g (drop 1 bytes) 1) rollback-grammar ∙ at-cut 8 (λ b. false) (λ txn. Done (Rollback (u64_of txn))) bytes 1 some takes.0 ∙ ap stopped (sym takes.1)

-- COMMIT_PUT

commit_put_count : List ℕ → List ℕ → Grammar
commit_put_count txn first = count (λ number. Done (CommitPut (u64_of txn) (u64_of first) (u32_of number)))

commit_put-grammar : kind_grammar 4 ≡ plain 8 (λ txn. plain 8 (commit_put_count txn))
unfolding kind_grammar commit_put_count
commit_put-grammar = refl

commit_put-count : (txn first : List ℕ) → commit_put_count txn first ≡ count (λ number. Done (CommitPut (u64_of txn) (u64_of first) (u32_of number)))
unfolding commit_put_count
commit_put-count txn first = refl

-- a reader of the count after two numbers answers as a COMMIT_PUT is read
pub commit_put-answers : (bytes : List ℕ) (r : Result ℕ Stop) → 1 ≤ length bytes → CountsAt r bytes 17 → Answers r (reads (kind_grammar 4) (drop 1 bytes) 1) (Ends 4 bytes)
commit_put-answers bytes r some counts =
    let txn = take 8 (drop 1 bytes) in
    let first = take 8 (drop 9 bytes) in
    let rec : List ℕ → Rec = λ number. CommitPut (u64_of txn) (u64_of first) (u32_of number) in
    let here : reads (kind_grammar 4) (drop 1 bytes) 1 ≡ reads (plain 8 (λ txn. plain 8 (commit_put_count txn))) (drop 1 bytes) 1 = ap (λ g. reads g (drop 1 bytes) 1) commit_put-grammar in
    ⊎_elim
    (λ less. count-short (Ends 4 bytes) bytes 17 r (reads (kind_grammar 4) (drop 1 bytes) 1) (omega (arith, less)) (here ∙ plain-two-cut commit_put_count bytes some less) counts)
    (λ more.
    let path : reads (kind_grammar 4) (drop 1 bytes) 1 ≡ reads (count (λ number. Done (rec number))) (drop 17 bytes) 17 = here ∙ plain-two commit_put_count bytes more ∙ ap (λ g. reads g (drop 17 bytes) 17) (commit_put-count txn first) in
    answers-through (λ end. reads (count (λ number. Done (rec number))) (drop 17 bytes) 17 ≡ Complete (rec (take 4 (drop 17 bytes))) end) (Ends 4 bytes) r (reads (kind_grammar 4) (drop 1 bytes) 1) (reads (count (λ number. Done (rec number))) (drop 17 bytes) 17) path
    (λ end found. (rec (take 4 (drop 17 bytes)), path ∙ found, refl))
    (count-answers (λ number. Done (rec number)) rec bytes 17 r (λ number. refl) more counts))
    (cases_lt (length bytes) 17)

-- COMMIT_TAKE

commit_take_count : List ℕ → Grammar
commit_take_count txn = count (λ number. Done (CommitTake (u64_of txn) (u32_of number)))

commit_take-grammar : kind_grammar 5 ≡ plain 8 commit_take_count
unfolding kind_grammar commit_take_count
commit_take-grammar = refl

commit_take-count : (txn : List ℕ) → commit_take_count txn ≡ count (λ number. Done (CommitTake (u64_of txn) (u32_of number)))
unfolding commit_take_count
commit_take-count txn = refl

-- a reader of the count after one number answers as a COMMIT_TAKE is read
pub commit_take-answers : (bytes : List ℕ) (r : Result ℕ Stop) → 1 ≤ length bytes → CountsAt r bytes 9 → Answers r (reads (kind_grammar 5) (drop 1 bytes) 1) (Ends 5 bytes)
commit_take-answers bytes r some counts =
    let txn = take 8 (drop 1 bytes) in
    let rec : List ℕ → Rec = λ number. CommitTake (u64_of txn) (u32_of number) in
    let here : reads (kind_grammar 5) (drop 1 bytes) 1 ≡ reads (plain 8 commit_take_count) (drop 1 bytes) 1 = ap (λ g. reads g (drop 1 bytes) 1) commit_take-grammar in
    ⊎_elim
    (λ less. count-short (Ends 5 bytes) bytes 9 r (reads (kind_grammar 5) (drop 1 bytes) 1) (omega (arith, less)) (here ∙ at-cut 8 (λ b. false) commit_take_count bytes 1 some less) counts)
    (λ more.
    let path : reads (kind_grammar 5) (drop 1 bytes) 1 ≡ reads (count (λ number. Done (rec number))) (drop 9 bytes) 9 = here ∙ at-next 8 (λ b. false) commit_take_count bytes 1 more refl ∙ ap (λ g. reads g (drop 9 bytes) 9) (commit_take-count txn) in
    answers-through (λ end. reads (count (λ number. Done (rec number))) (drop 9 bytes) 9 ≡ Complete (rec (take 4 (drop 9 bytes))) end) (Ends 5 bytes) r (reads (kind_grammar 5) (drop 1 bytes) 1) (reads (count (λ number. Done (rec number))) (drop 9 bytes) 9) path
    (λ end found. (rec (take 4 (drop 9 bytes)), path ∙ found, refl))
    (count-answers (λ number. Done (rec number)) rec bytes 9 r (λ number. refl) more counts))
    (cases_lt (length bytes) 9)

-- END

end-grammar : kind_grammar 6 ≡ count (λ number. Done (End (u32_of number)))
unfolding kind_grammar
end-grammar = refl

-- a reader of the count after the kind answers as an END is read
pub end-answers : (bytes : List ℕ) (r : Result ℕ Stop) → 1 ≤ length bytes → CountsAt r bytes 1 → Answers r (reads (kind_grammar 6) (drop 1 bytes) 1) (Ends 6 bytes)
end-answers bytes r some counts =
    let path : reads (kind_grammar 6) (drop 1 bytes) 1 ≡ reads (count (λ number. Done (End (u32_of number)))) (drop 1 bytes) 1 = ap (λ g. reads g (drop 1 bytes) 1) end-grammar in
    answers-through (λ end. reads (count (λ number. Done (End (u32_of number)))) (drop 1 bytes) 1 ≡ Complete (End (u32_of (take 4 (drop 1 bytes)))) end) (Ends 6 bytes) r (reads (kind_grammar 6) (drop 1 bytes) 1) (reads (count (λ number. Done (End (u32_of number)))) (drop 1 bytes) 1) path
    (λ end found. (End (u32_of (take 4 (drop 1 bytes))), path ∙ found, refl))
    (count-answers (λ number. Done (End (u32_of number))) (λ number. End (u32_of number)) bytes 1 r (λ number. refl) some counts)
