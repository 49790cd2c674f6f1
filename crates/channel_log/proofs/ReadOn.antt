-- Records read one after another, against the records of a frame.
use Rattle.std.proofs.Common.{◌≡◌, ◌≢◌, ◌<◌, ◌≤◌, ◌^◌, get_or, ℕ, ◌+◌, ◌-◌, List, [], ◌∷◌, ◌++◌, length, take, drop, All, ⊎_elim, refl, sym, ◌∙◌, ap, subst, arith, append_assoc, length-append, length-drop, take-append-drop}
use Rattle.std.specs.List.{AllByRecursion}
use Rattle.std.proofs.lemmas.Bool.{cases_lt}
use Rattle.std.proofs.lemmas.List.{append_cancel_left, append-nil, length-take, take-append-le, take_all, get_or_default, drop-drop}
use Rattle.std.proofs.lemmas.List.Elements.{All-drop}
use Rattle.std.proofs.Math.Seq.{take-append_seam, take-add}
use Rattle.record_form.specs.declared.record.Rec.{Rec}
use Rattle.record_form.specs.declared.record.Rec.TheVariants.{Put, Take, Rollback, CommitPut, CommitTake, End}
use Rattle.record_form.specs.declared.record.Read.{Read}
use Rattle.record_form.specs.declared.record.Read.TheVariants.{Whole, Part, Bad}
use Rattle.record_form.specs.Grammar.{Outcome, Complete, Incomplete, Fault, as_read, outcome_of, read_of, u32_of}
use Rattle.record_form.specs.Record.{HasFields, IsWithinLimits, record_kind, record_length, spelling}
use Rattle.record_form.proofs.Again.{length-spelling, one-spelling, record-again}
use Rattle.record_form.proofs.Cuts.{cut-part}
use Rattle.record_form.proofs.SpelledPut.{all_spelled}
use Rattle.record_form.proofs.Values.{u32_of-u32_bytes}
use Rattle.event_core.specs.Numbers.{u32_bytes}
use Rattle.event_core.proofs.Sizes.{length-u32_bytes}
use Rattle.channel_log.proofs.Bytes.{all-push}
use Rattle.channel_log.specs.Frames.{IsFrame, IsFramed, IsNoEnd, frame_bytes, record_bytes}
use Rattle.channel_log.specs.Scan.{BeginsFrame, IsScan}
use Rattle.channel_log.specs.declared.scan.Scan.TheVariants as scans

-- a record with a spelling
pub record IsSound (rec : Rec) : Type 0 where
  pub fields : HasFields rec
  pub limits : IsWithinLimits rec

-- a record that may stand in a frame has a spelling
pub sound : (rec : Rec) → IsFramed rec → IsSound rec
sound rec framed = record { fields = framed.fields; limits = framed.limits }

-- what begins with a record is read as it
pub read-again : (rec : Rec) (rest : List ℕ) → IsSound rec → read_of (spelling rec ++ rest) ≡ Whole (record_kind rec) (record_length rec)
read-again rec rest is = ap as_read (record-again rec rest is.fields is.limits)

-- where a reader finds a fault, no record begins, whatever follows
pub not_bad : (tail more rest : List ℕ) (rec : Rec) (at : ℕ) → IsSound rec → read_of tail ≡ Bad at → tail ++ more ≡ spelling rec ++ rest → ⊥
not_bad tail more rest rec at is bad same =
    ⊎_elim
    (λ short.
    let n = length tail in
    let front : tail ≡ take n (spelling rec) = sym (take-append_seam tail more) ∙ ap (take n) same ∙ take-append-le n (spelling rec) rest (omega (arith, short, length-spelling rec)) in
    let part : read_of tail ≡ Part = ap read_of front ∙ cut-part rec n is.fields is.limits short in
    let none : Bad at ≡ Part = sym bad ∙ part in cc)
    (λ long.
    let n = record_length rec in
    let whole : take n tail ≡ spelling rec = sym (take-append-le n tail more long) ∙ ap (take n) same ∙ ap (λ k. take k (spelling rec ++ rest)) (sym (length-spelling rec)) ∙ take-append_seam (spelling rec) rest in
    let split : tail ≡ spelling rec ++ drop n tail = sym (take-append-drop n tail) ∙ ap (λ l. l ++ drop n tail) whole in
    let read : read_of tail ≡ Whole (record_kind rec) n = ap read_of split ∙ read-again rec (drop n tail) is in
    let none : Bad at ≡ Whole (record_kind rec) n = sym bad ∙ read in cc)
    (cases_lt (length tail) (record_length rec))

-- what is read as a part begins with no record
pub not_part : (tail rest : List ℕ) (rec : Rec) → IsSound rec → read_of tail ≡ Part → tail ≡ spelling rec ++ rest → ⊥
not_part tail rest rec is part same =
    let none : Part ≡ Whole (record_kind rec) (record_length rec) = sym part ∙ ap read_of same ∙ read-again rec rest is in cc

-- the records of a frame from some place on, and its END
abbrev pub closing : List Rec → ℕ → List ℕ
closing more n = record_bytes more ++ spelling (End n)

closing-split : (m : Rec) (ms : List Rec) (n : ℕ) (rest : List ℕ) → closing (m ∷ ms) n ++ rest ≡ spelling m ++ (closing ms n ++ rest)
closing-split m ms n rest = ap (λ (l : List ℕ). l ++ rest) (append_assoc (spelling m) (record_bytes ms) (spelling (End n))) ∙ append_assoc (spelling m) (closing ms n) rest

-- the first of them
pub record Leads (more : List Rec) (n : ℕ) (rest : List ℕ) : Type 0 where
  pub rec : Rec
  pub is : IsSound rec
  pub behind : List ℕ
  pub split : closing more n ++ rest ≡ spelling rec ++ behind

-- the rest of a frame begins with a record, be it its END
pub leads : (more : List Rec) (n : ℕ) (rest : List ℕ) → AllByRecursion IsFramed more → 1 ≤ n → n < 2 ^ 32 → Leads more n rest
leads [] n rest each some few = record { rec = End n; is = record { fields = few; limits = some }; behind = rest; split = refl }
leads (m ∷ ms) n rest each some few = record {
  rec = m;
  is = sound m each.0;
  behind = closing ms n ++ rest;
  split = closing-split m ms n rest;
}

-- records that stand in front of a frame's bytes are its first ones
pub record Agrees (records : List Rec) (frame : List Rec) (n : ℕ) (tail rest : List ℕ) : Type 0 where
  pub more : List Rec
  pub is : frame ≡ records ++ more
  pub each : AllByRecursion IsFramed more
  pub left : tail ≡ closing more n ++ rest

no_end : (rec : Rec) (n : ℕ) → IsNoEnd rec → rec ≡ End n → ⊥
no_end (Put txn event) n is same = let e = same in cc
no_end (Take txn number) n is same = let e = same in cc
no_end (Rollback txn) n is same = let e = same in cc
no_end (CommitPut txn first count) n is same = let e = same in cc
no_end (CommitTake txn count) n is same = let e = same in cc
no_end (End count) n is same = is

-- where records stand in front of a frame's bytes, the frame has them and then more
pub agrees : (records frame : List Rec) (n : ℕ) (tail rest : List ℕ) → AllByRecursion IsFramed records → AllByRecursion IsFramed frame → 1 ≤ n → n < 2 ^ 32
    → record_bytes records ++ tail ≡ closing frame n ++ rest → Agrees records frame n tail rest
agrees [] frame n tail rest each each' some few same = record { more = frame; is = refl; each = each'; left = same }
agrees (r ∷ rs) [] n tail rest each each' some few same =
    let first : spelling r ++ (record_bytes rs ++ tail) ≡ spelling (End n) ++ rest = sym (append_assoc (spelling r) (record_bytes rs) tail) ∙ same in
    absurd (no_end r n each.0.no_end (one-spelling r (End n) (record_bytes rs ++ tail) rest each.0.fields each.0.limits few some first))
agrees (r ∷ rs) (f ∷ fs) n tail rest each each' some few same =
    let more = closing fs n ++ rest in
    let first : spelling r ++ (record_bytes rs ++ tail) ≡ spelling f ++ more =
    sym (append_assoc (spelling r) (record_bytes rs) tail) ∙ same ∙ closing-split f fs n rest in
    let one : r ≡ f = one-spelling r f (record_bytes rs ++ tail) more each.0.fields each.0.limits each'.0.fields each'.0.limits first in
    let behind : record_bytes rs ++ tail ≡ more = append_cancel_left (spelling r) (record_bytes rs ++ tail) more (first ∙ ap (λ (x : Rec). spelling x ++ more) (sym one)) in
    let a = agrees rs fs n tail rest each.1 each'.1 some few behind in
    record { more = a.more; is = ap (λ (x : Rec). x ∷ fs) (sym one) ∙ ap (λ (l : List Rec). r ∷ l) a.is; each = a.each; left = a.left }

-- Records were read up to this place.
pub record ReadOn (bytes : List ℕ) (at count : ℕ) : Type 0 where
  pub records : List Rec
  pub each : AllByRecursion IsFramed records
  pub counted : length records ≡ count
  pub within : at ≤ length bytes
  pub is : take at bytes ≡ record_bytes records

-- at the start no record was read
pub read_none : (bytes : List ℕ) → ReadOn bytes 0 0
read_none bytes = record { records = []; each = tt; counted = refl; within = omega arith; is = refl }

whole_of : (o : Outcome) (kind n : ℕ) → as_read o ≡ Whole kind n → (rec : Rec) × (o ≡ Complete rec n) × (kind ≡ record_kind rec)
whole_of (Complete rec end) kind n is = let e = is in (rec, (cc), (cc))
whole_of Incomplete kind n is = let e = is in cc
whole_of (Fault at) kind n is = let e = is in cc

-- a record that was read at this place
pub record Stands (bytes : List ℕ) (at kind n : ℕ) : Type 0 where
  pub rec : Rec
  pub kind_is : kind ≡ record_kind rec
  pub sound : IsSound rec
  pub within : at + n ≤ length bytes
  pub long : n ≡ record_length rec
  pub is : take n (drop at bytes) ≡ spelling rec

-- a whole record that was read stands at its place
pub stands : (bytes : List ℕ) (at kind n : ℕ) → at ≤ length bytes → All (λ b. b < 256) bytes → read_of (drop at bytes) ≡ Whole kind n → Stands bytes at kind n
stands bytes at kind n within all read =
    let w = whole_of (outcome_of (drop at bytes)) kind n read in
    let s = all_spelled (drop at bytes) w.0 n (All-drop (λ (b : ℕ). b < 256) at bytes all) w.1 in
    let size : length (take n (drop at bytes)) ≡ n = ap length s.0.is ∙ length-spelling w.0 ∙ sym s.1 in
    record { rec = w.0; kind_is = w.2; sound = record { fields = s.0.fields; limits = s.0.limits }; within = omega (arith, size, length-take n (drop at bytes), length-drop at bytes, within); long = s.1; is = s.0.is }

is_no_end : (rec : Rec) → record_kind rec ≢ 6 → IsNoEnd rec
is_no_end (Put txn event) h = tt
is_no_end (Take txn number) h = tt
is_no_end (Rollback txn) h = tt
is_no_end (CommitPut txn first count) h = tt
is_no_end (CommitTake txn count) h = tt
is_no_end (End count) h = h refl

is_end : (rec : Rec) → record_kind rec ≡ 6 → (n : ℕ) × (rec ≡ End n)
is_end (Put txn event) h = absurd (omega (arith, h))
is_end (Take txn number) h = absurd (omega (arith, h))
is_end (Rollback txn) h = absurd (omega (arith, h))
is_end (CommitPut txn first count) h = absurd (omega (arith, h))
is_end (CommitTake txn count) h = absurd (omega (arith, h))
is_end (End count) h = (count, refl)

bytes-push : (records : List Rec) (rec : Rec) → record_bytes (records ++ rec ∷ []) ≡ record_bytes records ++ spelling rec
bytes-push [] rec = append-nil (spelling rec)
bytes-push (r ∷ records) rec = ap (λ (l : List ℕ). spelling r ++ l) (bytes-push records rec) ∙ sym (append_assoc (spelling r) (record_bytes records) (spelling rec))

-- a record more was read
pub read_more : (bytes : List ℕ) (at count kind n : ℕ) → ReadOn bytes at count → Stands bytes at kind n → kind ≢ 6 → ReadOn bytes (at + n) (count + 1)
read_more bytes at count kind n on here not_end = record {
  records = on.records ++ here.rec ∷ [];
  each = all-push IsFramed on.records here.rec on.each (record { fields = here.sound.fields; limits = here.sound.limits; no_end = is_no_end here.rec (λ end. not_end (here.kind_is ∙ end)) });
  counted = length-append on.records (here.rec ∷ []) ∙ ap (λ (k : ℕ). k + 1) on.counted;
  within = here.within;
  is = take-add at n bytes ∙ ap (λ (l : List ℕ). l ++ take n (drop at bytes)) on.is ∙ ap (λ (l : List ℕ). record_bytes on.records ++ l) here.is ∙ sym (bytes-push on.records here.rec);
}

-- the END that was read at this place, and its count
pub record EndsAt (bytes : List ℕ) (at n told : ℕ) : Type 0 where
  pub sound : IsSound (End told)
  pub five : n ≡ 5
  pub within : at + 5 ≤ length bytes
  pub is : take 5 (drop at bytes) ≡ spelling (End told)
  pub split : drop at bytes ≡ spelling (End told) ++ drop 5 (drop at bytes)

told_is : (bytes : List ℕ) (at m told : ℕ) → m < 2 ^ 32 → drop at bytes ≡ spelling (End m) ++ drop 5 (drop at bytes) → told ≡ u32_of (take 4 (drop (at + 1) bytes)) → told ≡ m
told_is bytes at m told few split is =
    is ∙ ap (λ (l : List ℕ). u32_of (take 4 l)) (sym (drop-drop 1 at bytes) ∙ ap (drop 1) split)
    ∙ ap (λ (k : ℕ). u32_of (take k (u32_bytes m ++ drop 5 (drop at bytes)))) (sym (length-u32_bytes m))
    ∙ ap u32_of (take-append_seam (u32_bytes m) (drop 5 (drop at bytes))) ∙ u32_of-u32_bytes m few

-- a record of END's kind is the frame's END, with the count that was read there
pub ends_at : (bytes : List ℕ) (at kind n told : ℕ) → Stands bytes at kind n → kind ≡ 6 → told ≡ u32_of (take 4 (drop (at + 1) bytes)) → EndsAt bytes at n told
ends_at bytes at kind n told here six is =
    let e = is_end here.rec (sym here.kind_is ∙ six) in
    let sound : IsSound (End e.0) = subst IsSound e.1 here.sound in
    let five : n ≡ 5 = here.long ∙ ap record_length e.1 in
    let front : take 5 (drop at bytes) ≡ spelling (End e.0) = ap (λ (k : ℕ). take k (drop at bytes)) (sym five) ∙ here.is ∙ ap spelling e.1 in
    let split : drop at bytes ≡ spelling (End e.0) ++ drop 5 (drop at bytes) = sym (take-append-drop 5 (drop at bytes)) ∙ ap (λ (l : List ℕ). l ++ drop 5 (drop at bytes)) front in
    let same : e.0 ≡ told = sym (told_is bytes at e.0 told sound.fields split is) in
    subst (λ (m : ℕ). EndsAt bytes at n m) same (record { sound = sound; five = five; within = omega (arith, here.within, five); is = front; split = split })

-- the count of END is that of the records before it
pub found_frame : (bytes : List ℕ) (at count n told : ℕ) → ReadOn bytes at count → EndsAt bytes at n told → told ≡ count → IsScan (scans.Frame told (at + n)) bytes
unfolding frame_bytes
found_frame bytes at count n told on end same =
    let counted : length on.records ≡ told = on.counted ∙ sym same in (
      on.records,
      record { each = on.each; some = omega (arith, counted, end.sound.limits); few = omega (arith, counted, end.sound.fields) },
      counted,
      omega (arith, end.within, end.five),
      take-add at n bytes ∙ ap (λ (l : List ℕ). l ++ take n (drop at bytes)) on.is
          ∙ ap (λ (l : List ℕ). record_bytes on.records ++ l) (ap (λ (k : ℕ). take k (drop at bytes)) end.five ∙ end.is ∙ ap (λ (m : ℕ). spelling (End m)) (sym counted)),
    )

-- a frame begins in front: its records go on where reading stands
pub goes_on : (bytes more : List ℕ) (at count : ℕ) (frame : List Rec) (rest : List ℕ) (on : ReadOn bytes at count) → IsFrame frame → bytes ++ more ≡ frame_bytes frame ++ rest → Agrees on.records frame (length frame) (drop at bytes ++ more) rest
unfolding frame_bytes
goes_on bytes more at count frame rest on is same =
    agrees on.records frame (length frame) (drop at bytes ++ more) rest on.each is.each is.some is.few
    (sym (append_assoc (record_bytes on.records) (drop at bytes) more)
    ∙ ap (λ (l : List ℕ). (l ++ drop at bytes) ++ more) (sym on.is) ∙ ap (λ (l : List ℕ). l ++ more) (take-append-drop at bytes) ∙ same)

-- END stands where the frame has its END, with its count
pub end_agrees : (more : List Rec) (n m : ℕ) (behind rest : List ℕ) → AllByRecursion IsFramed more → 1 ≤ n → n < 2 ^ 32 → IsSound (End m) → spelling (End m) ++ behind ≡ closing more n ++ rest → (more ≡ []) × (m ≡ n)
end_agrees [] n m behind rest each some few is same =
    let e : End m ≡ End n = one-spelling (End m) (End n) behind rest is.fields is.limits few some same in
    (refl, cc)
end_agrees (x ∷ xs) n m behind rest each some few is same =
    let e : End m ≡ x = one-spelling (End m) x behind (closing xs n ++ rest) is.fields is.limits each.0.fields each.0.limits (same ∙ closing-split x xs n rest) in
    absurd (no_end x m each.0.no_end (sym e))

-- where END tells another count than that of the records before it, no frame begins
pub wrong_count : (bytes : List ℕ) (at count n told : ℕ) → ReadOn bytes at count → EndsAt bytes at n told → told ≢ count → (more : List ℕ) → BeginsFrame (bytes ++ more) → ⊥
wrong_count bytes at count n told on end other more b =
    let a = goes_on bytes more at count b.0 b.1 on b.2 b.3 in
    let behind = drop 5 (drop at bytes) in
    let first : spelling (End told) ++ (behind ++ more) ≡ closing a.more (length b.0) ++ b.1 = sym (append_assoc (spelling (End told)) behind more) ∙ ap (λ (l : List ℕ). l ++ more) (sym end.split) ∙ a.left in
    let e = end_agrees a.more (length b.0) told (behind ++ more) b.1 a.each b.2.some b.2.few end.sound first in
    let all : length b.0 ≡ length on.records = ap length (a.is ∙ ap (λ (l : List Rec). on.records ++ l) e.0 ∙ append-nil on.records) in
    other (e.1 ∙ all ∙ on.counted)

none_cut : (bytes : List ℕ) (at count : ℕ) → ReadOn bytes at count → read_of (drop at bytes) ≡ Part → BeginsFrame bytes → ⊥
none_cut bytes at count on part b =
    let a = goes_on bytes [] at count b.0 b.1 on b.2 (append-nil bytes ∙ b.3) in
    let l = leads a.more (length b.0) b.1 a.each b.2.some b.2.few in
    not_part (drop at bytes) l.behind l.rec l.is part (sym (append-nil (drop at bytes)) ∙ a.left ∙ l.split)

-- the record that stands here is cut short
pub cut_short : (bytes : List ℕ) (at count : ℕ) → ReadOn bytes at count → read_of (drop at bytes) ≡ Part → IsScan scans.Part bytes
cut_short bytes at count on part = (
  none_cut bytes at count on part,
  record {
    records = on.records;
    rest = drop at bytes;
    each = on.each;
    split = sym (take-append-drop at bytes) ∙ ap (λ (l : List ℕ). l ++ drop at bytes) on.is;
    part = part;
  },
)

-- where a record is at fault, no frame begins, whatever follows
pub at_fault : (bytes : List ℕ) (at count fault : ℕ) → ReadOn bytes at count → read_of (drop at bytes) ≡ Bad fault → (more : List ℕ) → BeginsFrame (bytes ++ more) → ⊥
at_fault bytes at count fault on bad more b =
    let a = goes_on bytes more at count b.0 b.1 on b.2 b.3 in
    let l = leads a.more (length b.0) b.1 a.each b.2.some b.2.few in
    not_bad (drop at bytes) more l.behind l.rec fault l.is bad (a.left ∙ l.split)

-- a record has at least 5 bytes
pub some_length : (rec : Rec) → 5 ≤ record_length rec
some_length (Put txn event) = omega arith
some_length (Take txn number) = omega arith
some_length (Rollback txn) = omega arith
some_length (CommitPut txn first count) = omega arith
some_length (CommitTake txn count) = omega arith
some_length (End count) = omega arith

-- there are no more records than bytes of theirs
pub length-records : (records : List Rec) → length records ≤ length (record_bytes records)
length-records [] = omega arith
length-records (r ∷ records) = omega (arith, length-records records, length-append (spelling r) (record_bytes records), length-spelling r, some_length r)

-- no more records were read than bytes
pub few_read : (bytes : List ℕ) (at count : ℕ) → ReadOn bytes at count → count ≤ at
few_read bytes at count on = omega (arith, length-records on.records, on.counted, ap length on.is, length-take at bytes)

-- what is read of the bytes from a place on
pub read_at : (bytes : List ℕ) (at : ℕ) (read : Read) → read ≡ read_of (take (length bytes - at) (drop at bytes)) → read_of (drop at bytes) ≡ read
read_at bytes at read is = sym (is ∙ ap read_of (take_all (length bytes - at) (drop at bytes) (omega (arith, length-drop at bytes))))

-- where the byte at each place is below 256, all bytes are
pub all_bytes : (bytes : List ℕ) → ((i : ℕ) → get_or bytes i 0 < 256) → All (λ b. b < 256) bytes
all_bytes bytes are k d below = subst (λ (b : ℕ). b < 256) (get_or_default bytes k 0 d below) (are k)
