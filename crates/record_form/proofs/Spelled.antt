-- What is read as a whole record is spelled so.
use Rattle.std.proofs.Common.{◌≡◌, ◌≢◌, ◌<◌, ◌≤◌, ◌+◌, ◌^◌, ◌++◌, ◌∷◌, [], ℕ, List, All, length, take, drop, get_or, slice_index, ⊎_elim, refl, sym, ap, ◌∙◌, subst, arith, length-drop}
use Rattle.std.proofs.Math.Seq.{take-add, drop-drop}
use Rattle.std.proofs.lemmas.Bool.{cases_lt}
use Rattle.std.proofs.lemmas.List.{length-take, length-take-le, get_or-take, get_or-drop, get_or_default, get_or_past}
use Rattle.event_core.specs.Numbers.{u32_bytes, u64_bytes}
use Rattle.record_form.specs.Record.{Spells, record_length}
use Rattle.record_form.specs.declared.record.Rec.{Rec}
use Rattle.record_form.specs.declared.record.Rec.TheVariants.{Take, Rollback, CommitPut, CommitTake, End}
use Rattle.record_form.specs.Grammar.{Complete, reads, u32_of, u64_of, kind_grammar}
use Rattle.record_form.proofs.Values.{u32_bytes-u32_of, u64_bytes-u64_of, u32_of-fits, u64_of-fits}
use Rattle.record_form.proofs.Inversions.{whole_take, whole_rollback, whole_commit_put, whole_commit_take, whole_end}

-- each place of the bytes is a byte
abbrev pub AreBytes : List ℕ → Type 0
AreBytes bytes = (i : ℕ) → get_or bytes i 0 < 256

-- where all are bytes, each place holds one
pub bytes_at : (bytes : List ℕ) → All (λ b. b < 256) bytes → AreBytes bytes
bytes_at bytes all i = ⊎_elim (λ within. all i 0 within) (λ past. subst (λ b. b < 256) (sym (get_or_past bytes i 0 past)) (omega arith)) (cases_lt i (length bytes))

-- so are those of a part
pub part_bytes : (width at : ℕ) (bytes : List ℕ) → AreBytes bytes → AreBytes (take width (drop at bytes))
part_bytes width at bytes are i =
    ⊎_elim
    (λ within. subst (λ b. b < 256) (sym (get_or-take width (drop at bytes) i 0 within ∙ get_or-drop at bytes i 0)) (are (at + i)))
    (λ past. subst (λ b. b < 256) (sym (get_or_past (take width (drop at bytes)) i 0 (omega (arith, length-take width (drop at bytes), past)))) (omega arith))
    (cases_lt i width)

-- where each place holds a byte, all are bytes
pub all_bytes : (bytes : List ℕ) → AreBytes bytes → All (λ b. b < 256) bytes
all_bytes bytes are k d within = subst (λ b. b < 256) (get_or_default bytes k 0 d within) (are k)

-- the eight bytes of a number are those that it is written as
pub u64_part : (at : ℕ) (bytes : List ℕ) → AreBytes bytes → at + 8 ≤ length bytes → u64_bytes (u64_of (take 8 (drop at bytes))) ≡ take 8 (drop at bytes)
u64_part at bytes are long = u64_bytes-u64_of (take 8 (drop at bytes)) (length-take-le 8 (drop at bytes) (omega (arith, length-drop at bytes, long))) (part_bytes 8 at bytes are)

-- the four bytes of a number are those that it is written as
pub u32_part : (at : ℕ) (bytes : List ℕ) → AreBytes bytes → at + 4 ≤ length bytes → u32_bytes (u32_of (take 4 (drop at bytes))) ≡ take 4 (drop at bytes)
u32_part at bytes are long = u32_bytes-u32_of (take 4 (drop at bytes)) (length-take-le 4 (drop at bytes) (omega (arith, length-drop at bytes, long))) (part_bytes 4 at bytes are)

-- a number read from eight bytes fits into 64 bits
pub u64_fits : (at : ℕ) (bytes : List ℕ) → AreBytes bytes → u64_of (take 8 (drop at bytes)) < 2 ^ 64
u64_fits at bytes are = u64_of-fits (take 8 (drop at bytes)) (part_bytes 8 at bytes are)

-- a number read from four bytes fits into 32 bits
pub u32_fits : (at : ℕ) (bytes : List ℕ) → AreBytes bytes → u32_of (take 4 (drop at bytes)) < 2 ^ 32
u32_fits at bytes are = u32_of-fits (take 4 (drop at bytes)) (part_bytes 4 at bytes are)

-- the kind stands in front
pub first_one : (bytes : List ℕ) (kind : ℕ) → 1 ≤ length bytes → slice_index bytes 0 ≡ kind → take 1 bytes ≡ kind ∷ []
first_one [] kind some is = absurd (omega (arith, some))
first_one (b ∷ bytes) kind some is = ap (λ k. k ∷ []) is

-- the parts of bytes
pub parts : (a b at : ℕ) (bytes : List ℕ) → take (a + b) (drop at bytes) ≡ take a (drop at bytes) ++ take b (drop (at + a) bytes)
parts a b at bytes = take-add a b (drop at bytes) ∙ ap (λ x. take a (drop at bytes) ++ take b x) (drop-drop a at bytes)

-- the record is spelled by the bytes up to its end
abbrev pub IsSpelledBy : List ℕ → Rec → ℕ → Type 0
IsSpelledBy bytes rec end = Spells (take end bytes) rec × (end ≡ record_length rec)

-- an equal record with an equal end is spelled by the same bytes
pub spelled_as : (bytes : List ℕ) (rec found : Rec) (end stop : ℕ) → found ≡ rec → stop ≡ end → IsSpelledBy bytes rec end → IsSpelledBy bytes found stop
spelled_as bytes rec found end stop same ends spelled = subst (λ r. IsSpelledBy bytes r stop) (sym same) (subst (IsSpelledBy bytes rec) (sym ends) spelled)

-- the bytes of a TAKE that was read spell it
pub spelled_take : (bytes : List ℕ) (rec : Rec) (end : ℕ) → AreBytes bytes → 1 ≤ length bytes → slice_index bytes 0 ≡ 2 → reads (kind_grammar 2) (drop 1 bytes) 1 ≡ Complete rec end → IsSpelledBy bytes rec end
spelled_take bytes rec end are some is whole =
    let t = whole_take bytes rec end some whole in
    spelled_as bytes (Take (u64_of (take 8 (drop 1 bytes))) (u64_of (take 8 (drop 9 bytes)))) rec 17 end t.1 t.2 (
      record {
        fields = (u64_fits 1 bytes are, u64_fits 9 bytes are);
        limits = tt;
        is = take-add 1 16 bytes ∙ ap (λ x. x ++ take 16 (drop 1 bytes)) (first_one bytes 2 some is) ∙ ap (λ x. 2 ∷ x) (parts 8 8 1 bytes
            ∙ ap (λ x. x ++ take 8 (drop 9 bytes)) (sym (u64_part 1 bytes are (omega (arith, t.0)))) ∙ ap (λ x. u64_bytes (u64_of (take 8 (drop 1 bytes))) ++ x) (sym (u64_part 9 bytes are (omega (arith, t.0)))));
      },
      refl,
    )

-- the bytes of a ROLLBACK that was read spell it
pub spelled_rollback : (bytes : List ℕ) (rec : Rec) (end : ℕ) → AreBytes bytes → 1 ≤ length bytes → slice_index bytes 0 ≡ 3 → reads (kind_grammar 3) (drop 1 bytes) 1 ≡ Complete rec end → IsSpelledBy bytes rec end
spelled_rollback bytes rec end are some is whole =
    let t = whole_rollback bytes rec end some whole in
    spelled_as bytes (Rollback (u64_of (take 8 (drop 1 bytes)))) rec 9 end t.1 t.2 (
      record {
        fields = u64_fits 1 bytes are;
        limits = tt;
        is = take-add 1 8 bytes ∙ ap (λ x. x ++ take 8 (drop 1 bytes)) (first_one bytes 3 some is) ∙ ap (λ x. 3 ∷ x) (sym (u64_part 1 bytes are (omega (arith, t.0))));
      },
      refl,
    )

some_count : (n : ℕ) → n ≢ 0 → 1 ≤ n
some_count n some = omega (arith, some)

-- the bytes of a COMMIT_PUT that was read spell it
pub spelled_commit_put : (bytes : List ℕ) (rec : Rec) (end : ℕ) → AreBytes bytes → 1 ≤ length bytes → slice_index bytes 0 ≡ 4 → reads (kind_grammar 4) (drop 1 bytes) 1 ≡ Complete rec end → IsSpelledBy bytes rec end
spelled_commit_put bytes rec end are some is whole =
    let t = whole_commit_put bytes rec end some whole in
    spelled_as bytes (CommitPut (u64_of (take 8 (drop 1 bytes))) (u64_of (take 8 (drop 9 bytes))) (u32_of (take 4 (drop 17 bytes)))) rec 21 end t.1 t.2 (
      record {
        fields = (u64_fits 1 bytes are, u64_fits 9 bytes are, u32_fits 17 bytes are);
        limits = some_count (u32_of (take 4 (drop 17 bytes))) t.0.some;
        is = take-add 1 20 bytes ∙ ap (λ x. x ++ take 20 (drop 1 bytes)) (first_one bytes 4 some is) ∙ ap (λ x. 4 ∷ x) (parts 8 12 1 bytes
            ∙ ap (λ x. x ++ take 12 (drop 9 bytes)) (sym (u64_part 1 bytes are (omega (arith, t.0.there))))
            ∙ ap (λ x. u64_bytes (u64_of (take 8 (drop 1 bytes))) ++ x) (parts 8 4 9 bytes
            ∙ ap (λ x. x ++ take 4 (drop 17 bytes)) (sym (u64_part 9 bytes are (omega (arith, t.0.there))))
            ∙ ap (λ x. u64_bytes (u64_of (take 8 (drop 9 bytes))) ++ x) (sym (u32_part 17 bytes are t.0.there))));
      },
      refl,
    )

-- the bytes of a COMMIT_TAKE that was read spell it
pub spelled_commit_take : (bytes : List ℕ) (rec : Rec) (end : ℕ) → AreBytes bytes → 1 ≤ length bytes → slice_index bytes 0 ≡ 5 → reads (kind_grammar 5) (drop 1 bytes) 1 ≡ Complete rec end → IsSpelledBy bytes rec end
spelled_commit_take bytes rec end are some is whole =
    let t = whole_commit_take bytes rec end some whole in
    spelled_as bytes (CommitTake (u64_of (take 8 (drop 1 bytes))) (u32_of (take 4 (drop 9 bytes)))) rec 13 end t.1 t.2 (
      record {
        fields = (u64_fits 1 bytes are, u32_fits 9 bytes are);
        limits = some_count (u32_of (take 4 (drop 9 bytes))) t.0.some;
        is = take-add 1 12 bytes ∙ ap (λ x. x ++ take 12 (drop 1 bytes)) (first_one bytes 5 some is) ∙ ap (λ x. 5 ∷ x) (parts 8 4 1 bytes
            ∙ ap (λ x. x ++ take 4 (drop 9 bytes)) (sym (u64_part 1 bytes are (omega (arith, t.0.there)))) ∙ ap (λ x. u64_bytes (u64_of (take 8 (drop 1 bytes))) ++ x) (sym (u32_part 9 bytes are t.0.there)));
      },
      refl,
    )

-- the bytes of an END that was read spell it
pub spelled_end : (bytes : List ℕ) (rec : Rec) (end : ℕ) → AreBytes bytes → 1 ≤ length bytes → slice_index bytes 0 ≡ 6 → reads (kind_grammar 6) (drop 1 bytes) 1 ≡ Complete rec end → IsSpelledBy bytes rec end
spelled_end bytes rec end are some is whole =
    let t = whole_end bytes rec end some whole in
    spelled_as bytes (End (u32_of (take 4 (drop 1 bytes)))) rec 5 end t.1 t.2 (
      record {
        fields = u32_fits 1 bytes are;
        limits = some_count (u32_of (take 4 (drop 1 bytes))) t.0.some;
        is = take-add 1 4 bytes ∙ ap (λ x. x ++ take 4 (drop 1 bytes)) (first_one bytes 6 some is) ∙ ap (λ x. 6 ∷ x) (sym (u32_part 1 bytes are t.0.there));
      },
      refl,
    )
