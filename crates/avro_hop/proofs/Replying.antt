-- From the parts of a reply to the reply.
use Rattle.std.proofs.Common.{◌≡◌, ℕ, ◌++◌, ◌<◌, ◌≤◌, true, false, List, [], length, drop, refl, sym, ap, subst, ◌∙◌, arith, inl, inr}
use Rattle.std.specs.Prelude.{Bool, Option, ℤ, pos, Result, Ok, Err}
use Rattle.avro_binary.specs.declared.refused.ValueRefused.{ValueRefused}
use Rattle.avro_binary.specs.declared.refused.ValueRefused.TheVariants.{Short, Bad, TooLarge, NoMemory}
use Rattle.avro_binary.specs.Fault.{Fault, Lacks, Wrong}
use Rattle.avro_binary.specs.Number.{IsInt, IntFault}
use Rattle.avro_binary.specs.Value.{IsBoolean, IsText, TextFault, IsFixed, FixedFault}
use Rattle.avro_binary.specs.Items.{IsMeta, MetaFault}
use Rattle.avro_binary.specs.Reading.{part, IsPart, IsFault, WrongAt, Reads, ReadsOver}
use Rattle.avro_binary.proofs.Lists.{join_parts, rest_part}
use Rattle.avro_binary.proofs.Blocks.{further}
use Rattle.avro_binary.proofs.Faults.{same_place}
use Rattle.avro_binary.proofs.PrefixFree.{same_int}
use Rattle.avro_hop.specs.declared.handshake.Match.{Match}
use Rattle.avro_hop.specs.declared.handshake.Match.TheVariants.{Both, Client, Stranger}
use Rattle.avro_hop.specs.declared.respond.Status.{Status}
use Rattle.avro_hop.specs.declared.respond.Status.TheVariants as status
use Rattle.avro_hop.specs.Parts.{IsOption, OptionFault, PairFault}
use Rattle.avro_hop.specs.Calls.{status_index}
use Rattle.avro_hop.specs.Dialogue.{IsPlace}
use Rattle.avro_hop.specs.Refusal.{IsPlaceOf}
use Rattle.avro_hop.specs.Responses.{Greeting, Told, IsOutcome}
use Rattle.avro_hop.specs.Replies.{EnumFault, InIndex, OtherIndex, IsAgreed, IsStatus, IsAccord, AccordFault, IsNoError, FlagFault, IsTold, ToldFault, IsReply, SpelledFault, ReplyFault}
use Rattle.avro_hop.proofs.Sequences.{pair_at, first_fault, second_fault}
use Rattle.avro_hop.proofs.Whole.{part_all, trailing}

-- ---- enums

-- an int that is not whole
pub enum_int : {E : Type 0} (Is : List ℕ → E → Type 0) (bytes : List ℕ) (at : ℕ) (e : ValueRefused) → IsFault IntFault bytes at e → IsFault (EnumFault Is) bytes at e
enum_int Is bytes at e f = same_place IntFault (EnumFault Is) bytes at e (λ g h. InIndex h) f

-- an int that is none of them
pub enum_other : {E : Type 0} (Is : List ℕ → E → Type 0) (bytes : List ℕ) (at end : ℕ) (z : ℤ) → IsPart bytes at end → IsInt (part bytes at end) z → ((v : E) → Is (part bytes at end) v → ⊥) → WrongAt (EnumFault Is) bytes at at
enum_other Is bytes at end z p i none = (0, omega arith, OtherIndex (part bytes at end) (drop end bytes) z (rest_part bytes at end p) i none refl)

same_number : (bytes : List ℕ) (z w : ℤ) → IsInt bytes z → IsInt bytes w → z ≡ w
same_number bytes z w p q = (same_int bytes bytes [] [] z w p q refl).1

-- an int that is neither 0 nor 1 tells no match after which a client goes on
pub no_match : (bytes : List ℕ) (z : ℤ) → IsInt bytes z → (z ≡ pos 0 → ⊥) → (z ≡ pos 1 → ⊥) → (found : Match) → IsAgreed bytes found → ⊥
no_match bytes z i zero one Both a = zero (same_number bytes z (pos 0) i a.0)
no_match bytes z i zero one Client a = one (same_number bytes z (pos 1) i a.0)
no_match bytes z i zero one Stranger a = a.1 refl

-- an int that is none of 0, 1 and 2 is no status
pub no_status : (bytes : List ℕ) (z : ℤ) → IsInt bytes z → (z ≡ pos 0 → ⊥) → (z ≡ pos 1 → ⊥) → (z ≡ pos 2 → ⊥) → (s : Status) → IsStatus bytes s → ⊥
no_status bytes z i zero one two status.Ok a = zero (same_number bytes z (pos 0) i a)
no_status bytes z i zero one two status.Failed a = one (same_number bytes z (pos 1) i a)
no_status bytes z i zero one two status.Unknown a = two (same_number bytes z (pos 2) i a)

-- ---- the answer to a handshake

abbrev HashFault : List ℕ → Fault → Type 0
HashFault bytes f = PairFault (IsOption IsFixed) (OptionFault FixedFault) (OptionFault MetaFault) bytes f

abbrev TextFaults : List ℕ → Fault → Type 0
TextFaults bytes f = PairFault (IsOption IsText) (OptionFault TextFault) HashFault bytes f

-- the answer to a handshake is at fault in how the hashes match
pub agreed_refused : (bytes : List ℕ) (e : ValueRefused) → IsFault (EnumFault IsAgreed) bytes 0 e → IsFault AccordFault bytes 0 e
agreed_refused bytes e f = first_fault IsAgreed (EnumFault IsAgreed) TextFaults bytes 0 e f

-- it is at fault in the server's text
pub text_refused : (bytes : List ℕ) (a : ℕ) (found : Match) (e : ValueRefused) → IsPart bytes 0 a → IsAgreed (part bytes 0 a) found → IsFault (OptionFault TextFault) bytes a e → IsFault AccordFault bytes 0 e
text_refused bytes a found e p i f =
    second_fault IsAgreed (EnumFault IsAgreed) TextFaults bytes 0 a found e p i (first_fault (IsOption IsText) (OptionFault TextFault) HashFault bytes a e f)

behind_text : (bytes : List ℕ) (a b : ℕ) (found : Match) (text : Option (List ℕ)) (e : ValueRefused) → IsPart bytes 0 a → IsAgreed (part bytes 0 a) found → IsPart bytes a b → IsOption IsText (part bytes a b) text → IsFault HashFault bytes b e → IsFault AccordFault bytes 0 e
behind_text bytes a b found text e p i q t f =
    second_fault IsAgreed (EnumFault IsAgreed) TextFaults bytes 0 a found e p i (second_fault (IsOption IsText) (OptionFault TextFault) HashFault bytes a b text e q t f)

-- it is at fault in the server's hash
pub hash_refused : (bytes : List ℕ) (a b : ℕ) (found : Match) (text : Option (List ℕ)) (e : ValueRefused) → IsPart bytes 0 a → IsAgreed (part bytes 0 a) found → IsPart bytes a b → IsOption IsText (part bytes a b) text → IsFault (OptionFault FixedFault) bytes b e → IsFault AccordFault bytes 0 e
hash_refused bytes a b found text e p i q t f =
    behind_text bytes a b found text e p i q t (first_fault (IsOption IsFixed) (OptionFault FixedFault) (OptionFault MetaFault) bytes b e f)

-- it is read from its parts, or at fault in its metadata
pub accord_of : (bytes : List ℕ) (a b c : ℕ) (found : Match) (text hash : Option (List ℕ)) (result : Result ℕ ValueRefused) → IsPart bytes 0 a → IsAgreed (part bytes 0 a) found → IsPart bytes a b → IsOption IsText (part bytes a b) text → IsPart bytes b c → IsOption IsFixed (part bytes b c) hash → ReadsOver (IsOption IsMeta) (OptionFault MetaFault) bytes c result → ReadsOver IsAccord AccordFault bytes 0 result
accord_of bytes a b c found text hash (Ok end) p i q t s h m =
    let behind_hash = further bytes b c end s m.0 in
    let behind = further bytes a b end q behind_hash in (
      further bytes 0 a end p behind,
      (
        record { found = found; text = text; hash = hash },
        (
          record {
            index_bytes = part bytes 0 a;
            text_bytes = part bytes a b;
            hash_bytes = part bytes b c;
            meta_bytes = part bytes c end;
            meta = m.1.0;
            whole = sym (join_parts bytes 0 a end p behind) ∙ ap (λ (x : List ℕ). part bytes 0 a ++ x) (sym (join_parts bytes a b end q behind_hash) ∙ ap (λ (x : List ℕ). part bytes a b ++ x) (sym (join_parts bytes b c end s m.0)));
            index = i.0;
            text_at = t;
            hash_at = h;
            meta_at = m.1.1;
          },
          i.1,
        ),
      ),
    )
accord_of bytes a b c found text hash (Err e) p i q t s h m =
    behind_text bytes a b found text e p i q t (second_fault (IsOption IsFixed) (OptionFault FixedFault) (OptionFault MetaFault) bytes b c hash e s h m)

-- ---- responses

-- an error flag that is set is a fault
pub flag_error : (bytes : List ℕ) (at end : ℕ) → IsPart bytes at end → IsBoolean (part bytes at end) true → WrongAt FlagFault bytes at at
flag_error bytes at end p b =
    (0, omega arith, inr (drop end bytes, rest_part bytes at end p ∙ ap (λ (x : List ℕ). x ++ drop end bytes) b, refl))

-- a response is at fault in its error flag
pub flag_refused : (bytes : List ℕ) (at a : ℕ) (meta : List (List ℕ × List ℕ)) (e : ValueRefused) → IsPart bytes at a → IsMeta (part bytes at a) meta → IsFault FlagFault bytes a e → IsFault ToldFault bytes at e
flag_refused bytes at a meta e p m f =
    second_fault IsMeta MetaFault (PairFault IsNoError FlagFault (EnumFault IsStatus)) bytes at a meta e p m (first_fault IsNoError FlagFault (EnumFault IsStatus) bytes a e f)

-- a response tells its status, or is at fault there
pub told_of : (bytes : List ℕ) (at a b : ℕ) (meta : List (List ℕ × List ℕ)) (flag : Bool) (result : Result (Status × ℕ) ValueRefused) → IsPart bytes at a → IsMeta (part bytes at a) meta → IsPart bytes a b → IsNoError (part bytes a b) flag → Reads (λ (s : Status). s) IsStatus (EnumFault IsStatus) bytes b result → Reads (λ (s : Status). s) IsTold ToldFault bytes at result
told_of bytes at a b meta flag (Ok found) p m q n r =
    let behind = further bytes a b found.1 q r.0 in
    let right = subst (λ (x : Bool). IsBoolean (part bytes a b) x) n.1 n.0 in (
      further bytes at a found.1 p behind,
      (meta, pair_at IsMeta IsOutcome bytes at a found.1 meta (Told found.0) p behind m (pair_at IsBoolean IsInt bytes a b found.1 false (pos (status_index found.0)) q r.0 right r.1)),
    )
told_of bytes at a b meta flag (Err e) p m q n r =
    second_fault IsMeta MetaFault (PairFault IsNoError FlagFault (EnumFault IsStatus)) bytes at a meta e p m (second_fault IsNoError FlagFault (EnumFault IsStatus) bytes a b flag e q n r)

-- ---- the reply

-- the first reply, from the response after the handshake's answer
pub first_told : (bytes : List ℕ) (a : ℕ) (told : Greeting) (result : Result (Status × ℕ) ValueRefused) → IsPart bytes 0 a → IsAccord (part bytes 0 a) told → Reads (λ (s : Status). s) IsTold ToldFault bytes a result → Reads (λ (s : Status). s) (IsReply true) (SpelledFault true) bytes 0 result
first_told bytes a told (Ok found) p i r =
    (further bytes 0 a found.1 p r.0, (told, pair_at IsAccord IsTold bytes 0 a found.1 told found.0 p r.0 i r.1))
first_told bytes a told (Err e) p i r = second_fault IsAccord AccordFault ToldFault bytes 0 a told e p i r

-- a later reply is a response alone
pub later_told : (bytes : List ℕ) (result : Result (Status × ℕ) ValueRefused) → Reads (λ (s : Status). s) IsTold ToldFault bytes 0 result → Reads (λ (s : Status). s) (IsReply false) (SpelledFault false) bytes 0 result
later_told bytes (Ok found) r = r
later_told bytes (Err (Short field need)) r = r
later_told bytes (Err (Bad field)) r = r
later_told bytes (Err (TooLarge n end)) r = r
later_told bytes (Err NoMemory) r = r

-- a byte after a reply is at fault
pub reply_trails : (first : Bool) (bytes : List ℕ) (end : ℕ) (s : Status) → IsPart bytes 0 end → end < length bytes → IsReply first (part bytes 0 end) s → IsPlace (ReplyFault first) bytes end
reply_trails first bytes end s p before i =
    let t = trailing (IsReply first) (SpelledFault first) bytes 0 end s p before i in
    (t.0, t.1, omega (arith, t.2))

-- a reply after which no byte is left is all of the bytes
pub reply_whole : (first : Bool) (bytes : List ℕ) (end : ℕ) (s : Status) → length bytes ≤ end → IsReply first (part bytes 0 end) s → IsReply first bytes s
reply_whole first bytes end s past i = subst (λ (x : List ℕ). IsReply first x s) (part_all bytes 0 end past) i

-- a reply that is refused is at fault at the place that the refusal names
pub reply_refused : (first : Bool) (bytes : List ℕ) (at : ℕ) (e : ValueRefused) → IsFault (SpelledFault first) bytes 0 e → IsPlaceOf e at → IsPlace (ReplyFault first) bytes at
reply_refused first bytes at (Short field need) f p = (Lacks f.0 f.1, inl f.4, omega (arith, f.2, p))
reply_refused first bytes at (Bad field) f p = (Wrong f.0, inl f.2, omega (arith, f.1, p))
reply_refused first bytes at (TooLarge n end) f p = absurd f
reply_refused first bytes at NoMemory f p = absurd f
