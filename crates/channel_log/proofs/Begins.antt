-- A reader begins.
use Rattle.std.proofs.Common.{◌≡◌, ◌<◌, ◌≤◌, inl, inr, ℕ, ◌+◌, ◌-◌, ◌==◌, IsTrue, min, Bool, true, false, List, [], ◌∷◌, ◌++◌, length, take, drop, Option, Some, None, refl, sym, ◌∙◌, ap, subst, arith, take-append-drop}
use Rattle.std.proofs.Math.Seq.{drop-append_seam, take-append_seam}
use Rattle.std.proofs.lemmas.List.{append-nil}
use Rattle.std.proofs.lemmas.Bool.{eqb-true, eq-eqb}
use Rattle.flume_host.specs.declared.names.FileName.TheVariants.{Log}
use Rattle.flume_host.specs.Told.{Told, WhereTold}
use Rattle.record_form.specs.declared.record.Rec.{Rec}
use Rattle.channel_log.specs.declared.loading.FrameRefused.{FrameRefused}
use Rattle.channel_log.specs.declared.loading.FrameRefused.TheVariants as refusals
use Rattle.channel_log.proofs.Contents.{one_header}
use Rattle.channel_log.proofs.Opening.{length-header}
use Rattle.channel_log.specs.Frames.{Commits, Breaks, Content, Blank, BadHeader, Whole, BadFrame, Holds, IsBirth, fault_of, header}
use Rattle.channel_log.specs.Reader.{Goes, HasFile, IsAhead, IsBegun, IsFront, WhereBad, Reader, Remains, content_items, frame_items}

split16 : (birth number : ℕ) (bytes : List ℕ) → take 16 bytes ≡ header birth number → bytes ≡ header birth number ++ drop 16 bytes
split16 birth number bytes same = sym (take-append-drop 16 bytes) ∙ ap (λ (l : List ℕ). l ++ drop 16 bytes) same

-- the first 16 bytes of a file with a header are that header
pub front16 : (birth number : ℕ) (bytes rest : List ℕ) → bytes ≡ header birth number ++ rest → take 16 bytes ≡ header birth number
front16 birth number bytes rest same = ap (λ (n : ℕ). take n bytes) (sym (length-header birth number)) ∙ ap (take (length (header birth number))) same ∙ take-append_seam (header birth number) rest

rest16 : (birth number : ℕ) (bytes rest : List ℕ) → bytes ≡ header birth number ++ rest → drop 16 bytes ≡ rest
rest16 birth number bytes rest same = ap (λ (n : ℕ). drop n bytes) (sym (length-header birth number)) ∙ ap (drop (length (header birth number))) same ∙ drop-append_seam (header birth number) rest

-- nothing was read ahead
none_ahead : (r : Reader) (bytes : List ℕ) → r.ahead ≡ [] → IsAhead r bytes
none_ahead r bytes ahead = subst (λ (l : List ℕ). IsFront l (r.at + length r.held) bytes) (sym ahead) refl

-- the file counts as empty
pub begins_blank : (r : Reader) (number : ℕ) (bytes : List ℕ) (content : Content) → length bytes ≤ 17 → r.blank ≡ true → r.held ≡ [] → r.ahead ≡ [] → length bytes ≡ r.size → Holds number bytes content → Remains r bytes (content_items content) (fault_of content)
begins_blank r number bytes Blank short blank held ahead long holds = record { long = long; ahead = none_ahead r bytes ahead; stands = inl (blank, held, refl, refl) }
begins_blank r number bytes BadHeader short blank held ahead long holds = absurd (omega (arith, short, holds.0))
begins_blank r number bytes (Whole birth frames) short blank held ahead long holds = absurd (omega (arith, short, holds.0))
begins_blank r number bytes (BadFrame birth frames) short blank held ahead long holds = absurd (omega (arith, short, holds.0))

-- before a commit byte, with nothing held or read ahead, the frames from there on remain
pub begins_at : (r : Reader) (bytes : List ℕ) (frames : List (List Rec)) (fault : Option ℕ) → r.blank ≡ false → r.held ≡ [] → r.ahead ≡ [] → length bytes ≡ r.size → Goes (drop r.at bytes) r.at frames fault → Remains r bytes (frame_items r.at frames) fault
begins_at r bytes frames fault full held ahead long goes = record { long = long; ahead = none_ahead r bytes ahead; stands = inr (full, inl (record { held = held; frames = frames; goes = goes; items_are = refl })) }

begins_16 : (r : Reader) (bytes : List ℕ) (frames : List (List Rec)) (fault : Option ℕ) → r.blank ≡ false → r.held ≡ [] → r.ahead ≡ [] → r.at ≡ 16 → length bytes ≡ r.size → Goes (drop 16 bytes) 16 frames fault → Remains r bytes (frame_items 16 frames) fault
begins_16 r bytes frames fault full held ahead at long goes =
    subst (λ (n : ℕ). Remains r bytes (frame_items n frames) fault) at (begins_at r bytes frames fault full held ahead long (subst (λ (n : ℕ). Goes (drop n bytes) n frames fault) (sym at) goes))

-- behind a good header all records of the file's content remain
pub begins_full : (r : Reader) (number birth : ℕ) (bytes : List ℕ) (content : Content) → (17 < length bytes) × IsBirth birth × (take 16 bytes ≡ header birth number) → r.blank ≡ false → r.held ≡ [] → r.ahead ≡ [] → r.at ≡ 16 → length bytes ≡ r.size → Holds number bytes content → Remains r bytes (content_items content) (fault_of content)
begins_full r number birth bytes Blank is full held ahead at long holds = absurd (omega (arith, is.0, holds))
begins_full r number birth bytes BadHeader is full held ahead at long holds = absurd (holds.1 birth (is.1, (drop 16 bytes, split16 birth number bytes is.2, tt)))
begins_full r number birth bytes (Whole other frames) is full held ahead at long holds =
    let h = holds.1.1 in
    begins_16 r bytes frames None full held ahead at long (inl (subst (λ (l : List ℕ). Commits l frames) (sym (rest16 other number bytes h.0 h.1)) h.2, refl))
begins_full r number birth bytes (BadFrame other frames) is full held ahead at long holds =
    let h = holds.1.1 in
    begins_16 r bytes frames (fault_of (BadFrame other frames)) full held ahead at long (inr (subst (λ (l : List ℕ). Breaks l frames) (sym (rest16 other number bytes h.0 h.1)) h.2, refl))

-- a file that counts as empty has no birth
pub not_begun : (number : ℕ) (bytes : List ℕ) (content : Content) → length bytes ≤ 17 → Holds number bytes content → IsBegun content → ⊥
not_begun number bytes Blank short holds is = is
not_begun number bytes BadHeader short holds is = is
not_begun number bytes (Whole birth frames) short holds is = omega (arith, short, holds.0)
not_begun number bytes (BadFrame birth frames) short holds is = omega (arith, short, holds.0)

-- a file that does not count as empty has birth 1 where its header names that
pub begun_is : (number birth : ℕ) (bytes : List ℕ) (content : Content) → (17 < length bytes) × IsBirth birth × (take 16 bytes ≡ header birth number) → Holds number bytes content → (birth ≡ 1 → IsBegun content) × (IsBegun content → birth ≡ 1)
begun_is number birth bytes Blank is holds = absurd (omega (arith, is.0, holds))
begun_is number birth bytes BadHeader is holds = absurd (holds.1 birth (is.1, (drop 16 bytes, split16 birth number bytes is.2, tt)))
begun_is number birth bytes (Whole other frames) is holds =
    let same = (one_header birth other number bytes (drop 16 bytes) holds.1.1.0 is.1 holds.1.0 (split16 birth number bytes is.2) holds.1.1.1).0 in
    (λ one. sym same ∙ one, λ one. same ∙ one)
begun_is number birth bytes (BadFrame other frames) is holds =
    let same = (one_header birth other number bytes (drop 16 bytes) holds.1.1.0 is.1 holds.1.0 (split16 birth number bytes is.2) holds.1.1.1).0 in
    (λ one. sym same ∙ one, λ one. same ∙ one)

-- the header of a new file, read back from its first bytes
pub take_header : (birth number : ℕ) → take 16 (header birth number ++ 0 ∷ []) ≡ header birth number
take_header birth number = front16 birth number (header birth number ++ 0 ∷ []) (0 ∷ []) refl

-- bytes that are neither of the two headers of a number name no birth
pub no_birth : (number : ℕ) (head : List ℕ) → (head ≡ header 1 number → ⊥) → (head ≡ header 2 number → ⊥) → (birth : ℕ) → IsBirth birth → head ≡ header birth number → ⊥
no_birth number head not_one not_two birth (inl one) same = not_one (same ∙ ap (λ (b : ℕ). header b number) one)
no_birth number head not_one not_two birth (inr two) same = not_two (same ∙ ap (λ (b : ℕ). header b number) two)

-- what a read gave of the file's head
pub head_is : (told : Option Told) (number : ℕ) (bytes head : List ℕ) (n : ℕ) → HasFile told number bytes → 16 ≤ length bytes
    → WhereTold told (λ t. (b : List ℕ) × (t.reads (Log number) ≡ Some b) × (n ≡ min 16 (length b - 0)) × (head ≡ take n (drop 0 b) ++ drop n (0 ∷ 0 ∷ 0 ∷ 0 ∷ 0 ∷ 0 ∷ 0 ∷ 0 ∷ 0 ∷ 0 ∷ 0 ∷ 0 ∷ 0 ∷ 0 ∷ 0 ∷ 0 ∷ [])))
    → head ≡ take 16 bytes
head_is told number bytes head n has long told_of =
    let r = told_of has.tells has.is in
    let both : Some r.0 ≡ Some bytes = sym r.1 ∙ has.reads in
    let same : r.0 ≡ bytes = cc in
    let all : n ≡ 16 = omega (arith, r.2, ap length same, long) in
    r.3 ∙ ap (λ (k : ℕ). take k r.0 ++ drop k (0 ∷ 0 ∷ 0 ∷ 0 ∷ 0 ∷ 0 ∷ 0 ∷ 0 ∷ 0 ∷ 0 ∷ 0 ∷ 0 ∷ 0 ∷ 0 ∷ 0 ∷ 0 ∷ [])) all ∙ append-nil (take 16 r.0) ∙ ap (take 16) same

-- the length that the disk tells is that of the file
pub size_is : (told : Option Told) (number n : ℕ) (bytes : List ℕ) → HasFile told number bytes → WhereTold told (λ t. (b : List ℕ) × (t.reads (Log number) ≡ Some b) × (n ≡ length b)) → length bytes ≡ n
size_is told number n bytes has told_of =
    let r = told_of has.tells has.is in
    let both : Some r.0 ≡ Some bytes = sym r.1 ∙ has.reads in
    let same : r.0 ≡ bytes = cc in
    sym (r.2 ∙ ap length same)

-- a file whose first 16 bytes are no header of its number has a bad header
pub bad_header : (number : ℕ) (bytes head : List ℕ) → 17 < length bytes → head ≡ take 16 bytes → ((birth : ℕ) → IsBirth birth → head ≡ header birth number → ⊥) → Holds number bytes BadHeader
bad_header number bytes head long same none = (long, λ birth h. none birth h.0 (same ∙ front16 birth number bytes h.1.0 h.1.1))

-- a bad header that was found later was bad before, where the disk shows the same
pub begin_bad : (told later : Option Told) (number size : ℕ) (e : FrameRefused) → later ≡ told → ((bytes : List ℕ) → HasFile told number bytes → length bytes ≡ size)
    → WhereBad e (λ f at. (f ≡ number) × (at ≡ 0) × ((bytes : List ℕ) → HasFile later number bytes → length bytes ≡ size → Holds number bytes BadHeader))
    → WhereBad e (λ f at. (f ≡ number) × (at ≡ 0) × ((bytes : List ℕ) → HasFile told number bytes → Holds number bytes BadHeader))
begin_bad told later number size refusals.DiskFault same long bad = tt
begin_bad told later number size (refusals.BadLog file at) same long bad = (bad.0, bad.1, λ bytes has. bad.2 bytes (subst (λ (o : Option Told). HasFile o number bytes) (sym same) has) (long bytes has))
begin_bad told later number size refusals.NoMemory same long bad = tt

-- where the birth is 1, the reader drops if it stands right behind the header
pub drops_then : (r : Bool) (at birth : ℕ) (content : Content) → r ≡ (at == 16) → birth ≡ 1 → (birth ≡ 1 → IsBegun content) × (IsBegun content → birth ≡ 1) → (IsTrue r → (at ≡ 16) × IsBegun content) × ((at ≡ 16) × IsBegun content → IsTrue r)
drops_then r at birth content is one begun = (λ h. (eqb-true at 16 (sym is ∙ h), begun.0 one), λ h. is ∙ eq-eqb at 16 h.0)

-- where the birth is not 1, the reader does not drop
pub drops_else : (r : Bool) (at birth : ℕ) (content : Content) → r ≡ (birth == 1) → (birth ≡ 1 → ⊥) → (birth ≡ 1 → IsBegun content) × (IsBegun content → birth ≡ 1) → (IsTrue r → (at ≡ 16) × IsBegun content) × ((at ≡ 16) × IsBegun content → IsTrue r)
drops_else r at birth content is other begun = (λ h. absurd (other (eqb-true birth 1 (sym is ∙ h))), λ h. absurd (other (begun.1 h.1)))

-- a file with a good header has no bad one
pub not_bad : (number birth : ℕ) (bytes : List ℕ) → (17 < length bytes) × IsBirth birth × (take 16 bytes ≡ header birth number) → Holds number bytes BadHeader → ⊥
not_bad number birth bytes is holds = holds.1 birth (is.1, (drop 16 bytes, split16 birth number bytes is.2, tt))
