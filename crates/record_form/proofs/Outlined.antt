-- The outline of the record that bytes begin with.
use Rattle.std.proofs.Common.{◌≡◌, ◌≢◌, ◌<◌, ◌≤◌, ◌+◌, ℕ, None, [], ◌∷◌, List, All, length, take, drop, get_or, slice_index, refl, sym, ap, ◌∙◌, arith}
use Rattle.std.proofs.lemmas.List.{get_or-take}
use Rattle.event_core.specs.Content.{content}
use Rattle.event_core.proofs.Sizes.{size-sum}
use Rattle.record_form.specs.declared.record.Outline.{Outline}
use Rattle.record_form.specs.declared.record.Outline.TheVariants as outlines
use Rattle.record_form.specs.declared.record.Rec.{Rec}
use Rattle.record_form.specs.declared.record.Rec.TheVariants.{Put, Take, Rollback, CommitPut, CommitTake, End}
use Rattle.record_form.specs.Grammar.{Complete, IsWhole, kind_grammar, outcome_of, read_of, reads, u32_of, u64_of}
use Rattle.record_form.specs.Outlines.{IsOutlined, outline_of}
use Rattle.record_form.specs.Record.{record_kind, record_length, spelling}
use Rattle.record_form.proofs.Inversions.{whole_put}
use Rattle.record_form.proofs.Loops.{whole_outcome, whole_record}
use Rattle.record_form.proofs.Spelled.{bytes_at}
use Rattle.record_form.proofs.SpelledPut.{all_spelled, whole_headers}

-- the bytes begin with no other record
pub outlined_by : (bytes : List ℕ) (outline : Outline) (end : ℕ) (found : Rec) (stop : ℕ) → outcome_of bytes ≡ Complete found stop → outline ≡ outline_of found → end ≡ stop → IsOutlined bytes outline end
outlined_by bytes outline end found stop whole same ends = λ rec at other.
    let e : Complete found stop ≡ Complete rec at = sym whole ∙ other in
    let r : found ≡ rec = cc in
    let s : stop ≡ at = cc in
    (same ∙ ap outline_of r, ends ∙ s)

-- a PUT's event has the length that stands before it, and the PUT ends with the event
pub put_outline : (bytes : List ℕ) (rec : Rec) (end : ℕ) → All (λ b. b < 256) bytes → 1 ≤ length bytes → reads (kind_grammar 1) (drop 1 bytes) 1 ≡ Complete rec end
    → (outline_of rec ≡ outlines.Put (u64_of (take 8 (drop 1 bytes))) (u32_of (take 4 (drop 9 bytes)))) × (13 + u32_of (take 4 (drop 9 bytes)) ≡ end)
put_outline bytes rec end all some whole =
    let p = whole_put bytes rec end some whole in
    let txn = u64_of (take 8 (drop 1 bytes)) in
    let n = u32_of (take 4 (drop 9 bytes)) in
    let h = whole_headers (u32_of (take 4 (drop 13 bytes))) txn (13 + n) 17 None [] bytes rec end (bytes_at bytes all) p.there p.rest in
    let event = content h.headers h.body in
    (ap outline_of h.rec_is ∙ ap (outlines.Put txn) (omega (arith, size-sum event, h.ends)), sym h.stops)

-- what an outline says of a record that is no PUT is all of it
abbrev pub filled_in : Outline → Rec
filled_in (outlines.Put txn size) = Rollback txn
filled_in (outlines.Take txn number) = Take txn number
filled_in (outlines.Rollback txn) = Rollback txn
filled_in (outlines.CommitPut txn first count) = CommitPut txn first count
filled_in (outlines.CommitTake txn count) = CommitTake txn count
filled_in (outlines.End count) = End count

filled_in_is : (rec : Rec) → record_kind rec ≢ 1 → filled_in (outline_of rec) ≡ rec
filled_in_is (Put txn event) other = absurd (other refl)
filled_in_is (Take txn number) other = refl
filled_in_is (Rollback txn) other = refl
filled_in_is (CommitPut txn first count) other = refl
filled_in_is (CommitTake txn count) other = refl
filled_in_is (End count) other = refl

first_kind : (rec : Rec) → get_or (spelling rec) 0 0 ≡ record_kind rec
first_kind (Put txn event) = refl
first_kind (Take txn number) = refl
first_kind (Rollback txn) = refl
first_kind (CommitPut txn first count) = refl
first_kind (CommitTake txn count) = refl
first_kind (End count) = refl

some_length : (rec : Rec) → 1 ≤ record_length rec
some_length (Put txn event) = omega arith
some_length (Take txn number) = omega arith
some_length (Rollback txn) = omega arith
some_length (CommitPut txn first count) = omega arith
some_length (CommitTake txn count) = omega arith
some_length (End count) = omega arith

first_here : (bytes : List ℕ) → 1 ≤ length bytes → slice_index bytes 0 ≡ get_or bytes 0 0
first_here [] some = absurd (omega (arith, some))
first_here (b ∷ bytes) some = refl

-- the first byte is the kind
pub kind_here : (bytes : List ℕ) (rec : Rec) (end : ℕ) → All (λ b. b < 256) bytes → 1 ≤ length bytes → outcome_of bytes ≡ Complete rec end → slice_index bytes 0 ≡ record_kind rec
kind_here bytes rec end all some whole =
    let spelled = all_spelled bytes rec end all whole in
    let within : 0 < end = omega (arith, spelled.1, some_length rec) in
    first_here bytes some ∙ sym (get_or-take end bytes 0 0 within) ∙ ap (λ (l : List ℕ). get_or l 0 0) spelled.0.is ∙ first_kind rec

-- the record that an outline is of, where the bytes begin with no PUT
pub named : (bytes : List ℕ) (outline : Outline) (end : ℕ) (rec : Rec) → All (λ b. b < 256) bytes → IsWhole (read_of bytes) → slice_index bytes 0 ≢ 1 → IsOutlined bytes outline end → filled_in outline ≡ rec → (stop : ℕ) × (outcome_of bytes ≡ Complete rec stop)
named bytes outline end rec all whole other outlined is =
    let o = whole_outcome (outcome_of bytes) whole in
    let kind = kind_here bytes o.0 o.1.0 all (whole_record bytes whole).some o.1.1 in
    let found : o.0 ≡ rec = sym (filled_in_is o.0 (λ h. other (kind ∙ h))) ∙ ap filled_in (sym (outlined o.0 o.1.0 o.1.1).0) ∙ is in
    (o.1.0, o.1.1 ∙ ap (λ (r : Rec). Complete r o.1.0) found)

of_put : (rec : Rec) → record_kind rec ≢ 1 → (txn size : ℕ) → outlines.Put txn size ≡ outline_of rec → ⊥
of_put (Put t event) other txn size same = other refl
of_put (Take t number) other txn size same = cc
of_put (Rollback t) other txn size same = cc
of_put (CommitPut t first count) other txn size same = cc
of_put (CommitTake t count) other txn size same = cc
of_put (End count) other txn size same = cc

-- and an outline of no PUT is not that of one
pub no_put : (bytes : List ℕ) (txn size end : ℕ) → All (λ b. b < 256) bytes → IsWhole (read_of bytes) → slice_index bytes 0 ≢ 1 → IsOutlined bytes (outlines.Put txn size) end → ⊥
no_put bytes txn size end all whole other outlined =
    let o = whole_outcome (outcome_of bytes) whole in
    let kind = kind_here bytes o.0 o.1.0 all (whole_record bytes whole).some o.1.1 in
    of_put o.0 (λ h. other (kind ∙ h)) txn size (outlined o.0 o.1.0 o.1.1).0
