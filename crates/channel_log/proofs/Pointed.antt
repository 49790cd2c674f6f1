-- What stands at a pointer, in what is kept.
use Rattle.std.specs.Prelude.{◌↔◌, IsTrue, Bool, true, false}
use Rattle.std.proofs.Common.{◌⊎◌, inl, inr, ◌≡◌, ◌≤◌, ◌<◌, ◌+◌, ◌-◌, ◌++◌, ◌∷◌, ℕ, List, [], length, take, drop, Option, Some, None, Result, Ok, Err, refl, sym, ap, subst, ◌∙◌, arith}
use Rattle.std.proofs.lemmas.Bool.{cases_lt}
use Rattle.std.proofs.lemmas.List.{drop-drop, drop-take, drop_at, length-drop, take-append-drop, take-append-le, take_all, take_at}
use Rattle.event_core.specs.Content.{Content, size}
use Rattle.record_form.specs.declared.record.Pointer.{Pointer}
use Rattle.record_form.specs.declared.record.Rec.{Rec}
use Rattle.record_form.specs.declared.record.Rec.TheVariants.{Put}
use Rattle.record_form.specs.declared.record.Read.TheVariants.{Part}
use Rattle.record_form.specs.Grammar.{Complete, outcome_of, read_of}
use Rattle.record_form.specs.Record.{Spells, record_length, spelling}
use Rattle.record_form.proofs.Cuts.{cut-part}
use Rattle.record_form.proofs.Pointed.{front, no_put, put_back, put_dropped, put_here, seen_long, spelled_length, within}
use Rattle.record_form.specs.Pointers.{PutAt}
use Rattle.channel_log.specs.Pointers.{FoundAt, IsEventOf, IsLengthOf, IsOfLength, IsSeen, LengthAt, in_frame}
use Rattle.channel_log.specs.Writer.{Writer}
use Rattle.channel_log.specs.declared.pointers.ReadRefused.{ReadRefused}
use Rattle.channel_log.specs.declared.pointers.ReadRefused.TheVariants.{Damaged, NoMemory, ReadFault}
use Rattle.channel_log.specs.Window.{HasThere, IsPieceOf, Kept}

-- a PUT that stands at a pointer of the part stands in what is kept of it
pub put_there : (k : Kept) (place : ℕ) (part : List ℕ) (p : Pointer) (event : Content) → PutAt part p event → HasThere k place part p.at (p.length + 13)
    → PutAt (drop place k.bytes) (front p) event
put_there k place part p event at there =
    let want : ℕ = p.length + 13 in
    let spelt : List ℕ = spelling (Put at.txn event) in
    let here : drop p.at part ≡ spelt ++ at.behind = ap (λ (l : List ℕ). drop p.at l) at.split ∙ drop_at at.before (spelt ++ at.behind) p.at at.place in
    let first : take want (drop place k.bytes) ≡ spelt = there.same ∙ (ap (λ (l : List ℕ). take want l) here ∙ take_at spelt at.behind want (spelled_length part p event at)) in
    record {
      txn = at.txn;
      before = [];
      behind = drop want (drop place k.bytes);
      split = sym (take-append-drop want (drop place k.bytes)) ∙ ap (λ (l : List ℕ). l ++ drop want (drop place k.bytes)) first;
      place = refl;
      long = at.long;
      fields = at.fields;
      limits = at.limits;
    }

-- no bytes are a piece of any part
pub empty_piece : (k : Kept) (part : ℕ → List ℕ) → k.bytes ≡ [] → IsPieceOf k part
empty_piece k part none = none ∙ sym (ap (λ (l : List ℕ). take (length l) (drop k.from (part k.file))) none)

-- an option that is none has nothing
pub none_some : {A : Type 0} (o : Option A) (a : A) → o ≡ None → o ≡ Some a → ⊥
none_some o a none some = cc

-- the length of a record that a front of the bytes spells, if that is a PUT
length_in : (bytes : List ℕ) (rec : Rec) (p : Pointer) (found : Option ℕ) → outcome_of bytes ≡ Complete rec (record_length rec) → Spells (take (record_length rec) bytes) rec → p.at ≡ 0 → IsLengthOf rec found → LengthAt bytes p found
length_in bytes rec p None read spells zero none = λ event at. no_put bytes rec (record p { length = size event }) event read (λ txn e is long. none txn e is) zero at
length_in bytes rec p (Some n) read spells zero is = (is.1, (put_here bytes rec is.0 is.1 (record p { length = n }) spells is.2 zero is.3).0)

-- what was found in a record that a front of the bytes spells
pub found_in : (bytes : List ℕ) (rec : Rec) (p : Pointer) (r : Result Content ReadRefused) → outcome_of bytes ≡ Complete rec (record_length rec) → Spells (take (record_length rec) bytes) rec → p.at ≡ 0 → IsEventOf rec p.length r → FoundAt bytes p r
found_in bytes rec p (Ok event) read spells zero is = (put_here bytes rec is.0.0 event p spells is.0.1 zero is.1).0
found_in bytes rec p (Err ReadFault) read spells zero is = absurd is
found_in bytes rec p (Err (Damaged kept found)) read spells zero is = (λ event at. no_put bytes rec p event read is.2 zero at, length_in bytes rec p found read spells zero is.3)
found_in bytes rec p (Err NoMemory) read spells zero is = absurd is

-- what a record gives for a pointer has the pointer's length, or is damage that names it
pub length_of : (rec : Rec) (length' : ℕ) (r : Result Content ReadRefused) → IsEventOf rec length' r → IsOfLength length' r
length_of rec length' (Ok event) is = is.1
length_of rec length' (Err ReadFault) is = absurd is
length_of rec length' (Err (Damaged kept found)) is = (is.0, is.1)
length_of rec length' (Err NoMemory) is = absurd is

-- a reader who looked at a piece of the bytes from the pointer's place on, which has all of a PUT that stands there, found what is at the pointer
pub found_back : (bytes piece : List ℕ) (m : ℕ) (p : Pointer) (r : Result Content ReadRefused) → piece ≡ take m (drop p.at bytes) → IsSeen bytes p piece → FoundAt piece (front p) r → FoundAt bytes p r
found_back bytes piece m p (Ok event) is there at = (put_back bytes m p event (subst (λ (l : List ℕ). PutAt l (front p) event) is at)).0
found_back bytes piece m p (Err ReadFault) is there at = tt
found_back bytes piece m p (Err (Damaged kept found)) is there at = (λ event stands. at.0 event (there p.length event stands), length_back found at.1)
  where
    length_back : (found : Option ℕ) → LengthAt piece (front p) found → LengthAt bytes p found
    length_back None none = λ event stands. none event (there (size event) event stands)
    length_back (Some n) here = (here.0, (put_back bytes m (record p { length = n }) here.0 (subst (λ (l : List ℕ). PutAt l (front (record p { length = n })) here.0) is here.1)).0)
found_back bytes piece m p (Err NoMemory) is there at = tt

-- where a test says that no record is cut, none is
pub uncut : {P : Type 0} (cut : Bool) → cut ≡ false → (IsTrue cut ↔ P) → P → ⊥
uncut cut none is at = differ cut none (is.1 at)
  where
    differ : (b : Bool) → b ≡ false → b ≡ true → ⊥
    differ true one two = cc
    differ false one two = cc

-- where what was read is not cut short, what is kept of it is not either
pub uncut_kept : (read kept : List ℕ) → read ≡ kept → (read_of read ≡ Part → ⊥) → read_of kept ≡ Part → ⊥
uncut_kept read kept same none cut = none (ap read_of same ∙ cut)

-- so one that is as long as the PUT of the greatest event has any
pub seen_greatest : (bytes piece : List ℕ) (m : ℕ) (p : Pointer) → piece ≡ take m (drop p.at bytes) → 1_048_589 ≤ m → IsSeen bytes p piece
seen_greatest bytes piece m p is room n event at = seen_long bytes piece m (record p { length = n }) event is (omega (arith, at.long, at.limits, room)) at

-- and one whose front is no cut record has any that stands there
pub seen_uncut : (bytes piece : List ℕ) (m : ℕ) (p : Pointer) → piece ≡ take m (drop p.at bytes) → (read_of piece ≡ Part → ⊥) → IsSeen bytes p piece
seen_uncut bytes piece m p is uncut n event at = by_size (cases_lt m (n + 13))
  where
    q : Pointer
    q = record p { length = n }

    spelt : List ℕ
    spelt = spelling (Put at.txn event)

    here : drop p.at bytes ≡ spelt ++ at.behind
    here = ap (λ (l : List ℕ). drop p.at l) at.split ∙ drop_at at.before (spelt ++ at.behind) p.at at.place

    by_size : ((m < n + 13) ⊎ (n + 13 ≤ m)) → PutAt piece (front q) event
    by_size (inl short) =
        let cut : piece ≡ take m spelt =
        is ∙ (ap (λ (l : List ℕ). take m l) here ∙ take-append-le m spelt at.behind (omega (arith, short, spelled_length bytes q event at))) in
        absurd (uncut (ap read_of cut ∙ cut-part (Put at.txn event) m at.fields at.limits (omega (arith, short, at.long))))
    by_size (inr room) = seen_long bytes piece m q event is room at

-- damage is not a fault of a read
pub not_fault : (r : Result Content ReadRefused) (kept : ℕ) (found : Option ℕ) → r ≡ Err (Damaged kept found) → r ≡ Err ReadFault → ⊥
not_fault r kept found one two = cc

-- a reader who looked at all bytes from the pointer's place on found what is there
pub found_from : (bytes : List ℕ) (p : Pointer) (r : Result Content ReadRefused) → FoundAt (drop p.at bytes) (front p) r → FoundAt bytes p r
found_from bytes p r found =
    let rest : List ℕ = drop p.at bytes in
    found_back bytes rest (length rest) p r (sym (take_all (length rest) rest (omega arith))) (λ n event at. put_dropped bytes (record p { length = n }) event at) found

-- what is kept from a place on is a piece of the file's part
pub piece_from : (k : Kept) (part : ℕ → List ℕ) (file place at : ℕ) → IsPieceOf k part → k.file ≡ file → k.from + place ≡ at → place ≤ length k.bytes → drop place k.bytes ≡ take (length k.bytes - place) (drop at (part file))
piece_from k part file place at piece same there low =
    ap (λ (l : List ℕ). drop place l) piece
    ∙ (ap (λ (n : ℕ). drop place (take n (drop k.from (part k.file)))) split
    ∙ (drop-take place (length k.bytes - place) (drop k.from (part k.file))
    ∙ (ap (λ (l : List ℕ). take (length k.bytes - place) l) (drop-drop place k.from (part k.file))
    ∙ (ap (λ (n : ℕ). take (length k.bytes - place) (drop n (part k.file))) there
    ∙ ap (λ (f : ℕ). take (length k.bytes - place) (drop at (part f))) same))))
  where
    split : length k.bytes ≡ place + (length k.bytes - place)
    split = omega (arith, low)

-- a reader found in what is kept what stands at the pointer
pub found_kept : (k : Kept) (part : ℕ → List ℕ) (place : ℕ) (p : Pointer) (r : Result Content ReadRefused) → IsPieceOf k part → k.file ≡ p.file → k.from + place ≡ p.at → place ≤ length k.bytes
    → IsSeen (part p.file) p (drop place k.bytes) → FoundAt (drop place k.bytes) (front p) r → FoundAt (part p.file) p r
found_kept k part place p r piece same there low seen found =
    found_back (part p.file) (drop place k.bytes) (length k.bytes - place) p r (piece_from k part p.file place p.at piece same there low) seen found

-- what is kept from the pointer's place on has each PUT that stands there: its front is no cut record
pub kept_uncut : (k : Kept) (part : ℕ → List ℕ) (place : ℕ) (p : Pointer) → IsPieceOf k part → k.file ≡ p.file → k.from + place ≡ p.at → place ≤ length k.bytes
    → (read_of (drop place k.bytes) ≡ Part → ⊥) → IsSeen (part p.file) p (drop place k.bytes)
kept_uncut k part place p piece same there low uncut = seen_uncut (part p.file) (drop place k.bytes) (length k.bytes - place) p (piece_from k part p.file place p.at piece same there low) uncut

-- or it has as much of the part as a PUT may have
pub kept_greatest : (k : Kept) (part : ℕ → List ℕ) (place : ℕ) (p : Pointer)
    → ((n : ℕ) → n ≤ 1_048_589 → p.at + n ≤ length (part p.file) → HasThere k place (part p.file) p.at n) → IsSeen (part p.file) p (drop place k.bytes)
kept_greatest k part place p has n event at =
    let q : Pointer = record p { length = n } in
    put_there k place (part p.file) q event at (has (n + 13) (omega (arith, at.long, at.limits)) (within (part p.file) q event at))

-- a reader who looked at the bytes that wait, from the pointer's place on, found what waits there
pub found_waiting : (frame : List ℕ) (gate : ℕ) (w : Writer) (p : Pointer) (r : Result Content ReadRefused) → frame ≡ w.bytes → gate ≡ w.gate
    → FoundAt (take (length frame - (p.at - (gate + 1))) (drop (p.at - (gate + 1)) frame)) (front p) r → FoundAt w.bytes (in_frame w p) r
found_waiting frame gate w p r same there found =
    let k : ℕ = p.at - (gate + 1) in
    let all : take (length frame - k) (drop k frame) ≡ drop k frame = take_all (length frame - k) (drop k frame) (omega (arith, length-drop k frame)) in
    let at : k ≡ p.at - (w.gate + 1) = ap (λ (n : ℕ). p.at - (n + 1)) there in
    found_from w.bytes (in_frame w p) r
    (subst (λ (n : ℕ). FoundAt (drop n w.bytes) (front p) r) at
    (subst (λ (l : List ℕ). FoundAt (drop k l) (front p) r) same
    (subst (λ (l : List ℕ). FoundAt l (front p) r) all found)))
