-- A stream that is fed is cut, in one way.
use Rattle.std.proofs.Common.{◌≡◌, ℕ, List, [], ◌∷◌, ◌++◌, length, take, drop, refl, sym, ap, subst, ◌∙◌, append_assoc, arith}
use Rattle.std.specs.Prelude.{Option, Some, None, Ok, Err}
use Rattle.std.proofs.lemmas.List.{append-nil, take-append-drop}
use Rattle.std.proofs.Math.Seq.{drop-length}
use Rattle.avro_frame.specs.declared.packs.Message.{Message}
use Rattle.avro_frame.specs.declared.packs.PackRefused.{PackRefused}
use Rattle.avro_frame.specs.declared.packs.PackRefused.TheVariants.{TooMany, TooLarge, NoMemory}
use Rattle.avro_frame.specs.Pack.{u32_bytes, head, Begins, IsPart, InHead, PassesCount, PassesSize}
use Rattle.avro_frame.specs.Feed.{Packing, Holds, Failed, Feeds}
use Rattle.avro_frame.specs.Stream.{IsCut, InPack, OverCount, OverSize, Pack, given, IsFed, Done, Takes, Lacks, Refused, FeedingCuts, OneCut, WrittenIsPack}
use Rattle.avro_frame.proofs.Bytes.{same_front}
use Rattle.avro_frame.proofs.Laws.{one_pack_lem, no_part, no_count, no_size}
use Rattle.avro_frame.proofs.OneFeed.{part_count, part_size, same_count, same_size, count_size}

-- ---- bytes after a limit

count_goes_on : (bytes more : List ℕ) (n : ℕ) → PassesCount bytes n → PassesCount (bytes ++ more) n
count_goes_on bytes more n p = record {
  serial = p.serial;
  rest = p.rest ++ more;
  whole = ap (λ (t : List ℕ). t ++ more) p.whole ∙ append_assoc (head p.serial n) p.rest more;
  serial_fits = p.serial_fits;
  fits = p.fits;
  many = p.many;
}

begins_goes_on : (bytes more : List ℕ) (serial count : ℕ) (buffers : List (List ℕ)) (rest : List ℕ) → Begins bytes serial count buffers rest → Begins (bytes ++ more) serial count buffers (rest ++ more)
begins_goes_on bytes more serial count buffers rest b = record {
  whole = ap (λ (t : List ℕ). t ++ more) b.whole ∙ simp append_assoc;
  serial_fits = b.serial_fits;
  few = b.few;
  lacking = b.lacking;
  small = b.small;
}

size_goes_on : (bytes more : List ℕ) (n : ℕ) → PassesSize bytes n → PassesSize (bytes ++ more) n
size_goes_on bytes more n p = record {
  serial = p.serial;
  count = p.count;
  buffers = p.buffers;
  len = p.len;
  rest = p.rest ++ more;
  begun = rw (← append_assoc (u32_bytes p.len) p.rest more) (begins_goes_on bytes more p.serial p.count p.buffers (u32_bytes p.len ++ p.rest) p.begun);
  fits = p.fits;
  sum = p.sum;
  large = p.large;
}

-- ---- feeding

-- what is held is less than a pack
abbrev IsOpen : Packing → Type 0
IsOpen (Holds old) = IsPart old
IsOpen (Failed e) = Unit {0}

-- the cut of what is held with a stream after it
abbrev CutsBehind : Packing → List ℕ → List (ℕ × List ℕ) → Packing → Type 0
CutsBehind (Holds old) stream messages end = IsCut (old ++ stream) messages end
CutsBehind (Failed e) stream messages end = (messages ≡ []) × (end ≡ Failed e)

done : (now : Packing) → IsOpen now → CutsBehind now [] [] now
done (Holds old) kept = rw (append-nil old) (InPack old kept)
done (Failed e) kept = (refl, refl)

-- what a call leaves is less than a pack
opened : (before after : Packing) (piece : List ℕ) (n : ℕ) (found : Option Message) → Feeds before piece (Ok (n, found)) after → IsOpen after
opened (Holds old) after piece n None f = rw f.2 f.1
opened (Holds old) after piece n (Some m) f = rw f.2 (InHead (omega arith))
opened (Failed e) after piece n found f = absurd (let g = f.0 in cc)

-- a front of the piece, and the rest of it with all that follows
around : (old piece rest : List ℕ) (n : ℕ) → (old ++ take n piece) ++ (drop n piece ++ rest) ≡ old ++ (piece ++ rest)
around old piece rest n =
    append_assoc old (take n piece) (drop n piece ++ rest) ∙ ap (λ (t : List ℕ). old ++ t) (sym (append_assoc (take n piece) (drop n piece) rest) ∙ ap (λ (t : List ℕ). t ++ rest) (take-append-drop n piece))

takes : (before after end : Packing) (piece rest : List ℕ) (n : ℕ) (found : Option Message) (messages : List (ℕ × List ℕ)) → Feeds before piece (Ok (n, found)) after → CutsBehind after (drop n piece ++ rest) messages end → CutsBehind before (piece ++ rest) (given found ++ messages) end
takes (Holds old) after end piece rest n None messages f cut =
    let none : drop n piece ≡ [] = ap (λ (k : ℕ). drop k piece) f.0 ∙ drop-length piece in
    rw (← append_assoc old piece rest) (rw none at (rw f.2 at cut))
takes (Holds old) after end piece rest n (Some m) messages f cut =
    let c = rw f.2 at cut in
    rw (← around old piece rest n) (Pack (old ++ take n piece) (drop n piece ++ rest) m.payload.items m.serial messages end f.1 c)
takes (Failed e) after end piece rest n found messages f cut = absurd (let g = f.0 in cc)

-- out of memory changes nothing
same_behind : (before after : Packing) (piece : List ℕ) → Feeds before piece (Err NoMemory) after → before ≡ after
same_behind (Holds old) after piece f = sym f
same_behind (Failed e) after piece f = sym f.1

-- no more is given after a limit
refused : (before after : Packing) (piece rest : List ℕ) (e : PackRefused) → (e ≡ NoMemory → ⊥) → Feeds before piece (Err e) after → CutsBehind before (piece ++ rest) [] after
refused (Holds old) after piece rest (TooMany n) some f = rw (f.1, ← append_assoc old piece rest) (OverCount ((old ++ piece) ++ rest) n (count_goes_on (old ++ piece) rest n f.0))
refused (Holds old) after piece rest (TooLarge n) some f = rw (f.1, ← append_assoc old piece rest) (OverSize ((old ++ piece) ++ rest) n (size_goes_on (old ++ piece) rest n f.0))
refused (Holds old) after piece rest NoMemory some f = absurd (some refl)
refused (Failed e) after piece rest g some f = (refl, f.1)

fed_cuts : (before : Packing) (stream : List ℕ) (messages : List (ℕ × List ℕ)) (end : Packing) → IsFed before stream messages end → IsOpen before → CutsBehind before stream messages end
fed_cuts before stream messages end (Done now) kept = done now kept
fed_cuts before stream messages end (Takes old after last piece rest n found more f fed) kept =
    takes old after last piece rest n found more f (fed_cuts after (drop n piece ++ rest) more last fed (opened old after piece n found f))
fed_cuts before stream messages end (Lacks old after last piece rest more f fed) kept =
    let e = same_behind old after piece f in
    rw e (fed_cuts after (piece ++ rest) more last fed (rw e at kept))
fed_cuts before stream messages end (Refused old after piece rest e some f) kept = refused old after piece rest e some f

-- a stream that is fed piece by piece is cut into its packs
pub feeding_cuts : FeedingCuts
feeding_cuts stream messages end fed = fed_cuts (Holds []) stream messages end fed (InHead (omega arith))

-- ---- one cut

cut_same : (a b : List ℕ) (m n : List (ℕ × List ℕ)) (end other : Packing) → a ≡ b → IsCut a m end → IsCut b n other → (m ≡ n) × (end ≡ other)
cut_same a b m n end other e (InPack s p) (InPack t q) = (refl, ap (λ (x : List ℕ). Holds x) e)
cut_same a b m n end other e (InPack s p) (OverCount t k c) = part_count t k (subst (λ (x : List ℕ). IsPart x) e p) c
cut_same a b m n end other e (InPack s p) (OverSize t k c) = part_size t k (subst (λ (x : List ℕ). IsPart x) e p) c
cut_same a b m n end other e (InPack s p) (Pack first rest payload serial more last i cut) = absurd (no_part first rest serial payload i (subst (λ (x : List ℕ). IsPart x) e p))
cut_same a b m n end other e (OverCount s j c) (InPack t q) = part_count s j (subst (λ (x : List ℕ). IsPart x) (sym e) q) c
cut_same a b m n end other e (OverCount s j c) (OverCount t k d) = (refl, ap (λ (x : ℕ). Failed (TooMany x)) (same_count t j k (subst (λ (x : List ℕ). PassesCount x j) e c) d))
cut_same a b m n end other e (OverCount s j c) (OverSize t k d) = count_size t j k (subst (λ (x : List ℕ). PassesCount x j) e c) d
cut_same a b m n end other e (OverCount s j c) (Pack first rest payload serial more last i cut) = absurd (no_count first rest serial j payload i (subst (λ (x : List ℕ). PassesCount x j) e c))
cut_same a b m n end other e (OverSize s j c) (InPack t q) = part_size s j (subst (λ (x : List ℕ). IsPart x) (sym e) q) c
cut_same a b m n end other e (OverSize s j c) (OverCount t k d) = count_size s k j (subst (λ (x : List ℕ). PassesCount x k) (sym e) d) c
cut_same a b m n end other e (OverSize s j c) (OverSize t k d) = (refl, ap (λ (x : ℕ). Failed (TooLarge x)) (same_size t j k (subst (λ (x : List ℕ). PassesSize x j) e c) d))
cut_same a b m n end other e (OverSize s j c) (Pack first rest payload serial more last i cut) = absurd (no_size first rest serial j payload i (subst (λ (x : List ℕ). PassesSize x j) e c))
cut_same a b m n end other e (Pack first rest payload serial more last i cut) (InPack t q) = absurd (no_part first rest serial payload i (subst (λ (x : List ℕ). IsPart x) (sym e) q))
cut_same a b m n end other e (Pack first rest payload serial more last i cut) (OverCount t k d) = absurd (no_count first rest serial k payload i (subst (λ (x : List ℕ). PassesCount x k) (sym e) d))
cut_same a b m n end other e (Pack first rest payload serial more last i cut) (OverSize t k d) = absurd (no_size first rest serial k payload i (subst (λ (x : List ℕ). PassesSize x k) (sym e) d))
cut_same a b m n end other e (Pack first rest payload serial more last i cut) (Pack first' rest' payload' serial' more' last' i' cut') =
    let s = one_pack_lem first first' rest rest' serial serial' payload payload' i i' e in
    let behind = same_front first first' rest rest' (ap length s.0) e in
    let r = cut_same rest rest' more more' last last' behind.1 cut cut' in
    let number = s.1 in
    let bytes = s.2 in
    let tail = r.0 in
    (cc, r.1)

-- a stream is cut in no other way
pub one_cut_lem : OneCut
one_cut_lem stream messages others end other c d = cut_same stream stream messages others end other refl c d

-- ---- writing

-- what is written is a pack with one buffer
pub written_is_pack : WrittenIsPack
written_is_pack serial payload fits small = record {
  buffers = payload ∷ [];
  whole = refl;
  joins = sym (append-nil payload);
  serial_fits = fits;
  few = omega arith;
  small = small;
}
