-- What stands at a pointer stays there.
use Rattle.std.proofs.Common.{◌⊎◌, inl, inr, ◌≡◌, ◌+◌, ◌++◌, ◌∷◌, [], ℕ, List, length, length-append, Option, Some, None, refl, sym, ◌∙◌, ap, subst, append_assoc, arith}
use Rattle.std.specs.Prelude.{IsSomeAnd}
use Rattle.std.proofs.lemmas.List.{append-nil}
use Rattle.std.proofs.lemmas.Grind.{flat_map-append}
use Rattle.flume_host.specs.declared.names.FileName.TheVariants.{Log}
use Rattle.flume_host.specs.Folder.{Allows, There, stable}
use Rattle.flume_host.proofs.Images.{stable_only}
use Rattle.event_core.specs.Content.{Content, size}
use Rattle.record_form.specs.declared.record.Pointer.{Pointer}
use Rattle.record_form.specs.declared.record.Rec.{Rec}
use Rattle.record_form.specs.declared.record.Rec.TheVariants.{Put, End}
use Rattle.record_form.specs.Grammar.{Complete}
use Rattle.record_form.specs.Record.{HasFields, IsWithinLimits, spelling}
use Rattle.record_form.proofs.Pointed.{put_read}
use Rattle.channel_log.specs.Frames.{frame_bytes, header, opened, record_bytes}
use Rattle.channel_log.specs.Writer.{HasFrames, LacksOrHas}
use Rattle.record_form.specs.Pointers.{PutAt}
use Rattle.channel_log.specs.Pointers.{pending_at, settled_part}
use Rattle.channel_log.specs.PointerLaws.{OneEventStands, PendingStands, PutStays, StandsInEachImage}

-- whatever stands after
pub put_grows : (bytes more : List ℕ) (p : Pointer) (event : Content) → PutAt bytes p event → PutAt (bytes ++ more) p event
put_grows bytes more p event at = record {
  txn = at.txn;
  before = at.before;
  behind = at.behind ++ more;
  split =
      ap (λ (l : List ℕ). l ++ more) at.split
      ∙ (append_assoc at.before (spelling (Put at.txn event) ++ at.behind) more
      ∙ ap (λ (l : List ℕ). at.before ++ l) (append_assoc (spelling (Put at.txn event)) at.behind more));
  place = at.place;
  long = at.long;
  fields = at.fields;
  limits = at.limits;
}

same_event : (t u : ℕ) (a b : Content) (m n : ℕ) → Complete (Put t a) m ≡ Complete (Put u b) n → a ≡ b
same_event t u a b m n same = cc

-- no two events stand at one pointer
pub one_event : OneEventStands
one_event bytes p event other at at' =
    let one = put_read bytes p event at in
    let two = put_read bytes p other at' in
    same_event one.0 two.0 event other (p.length + 13) (p.length + 13) (sym one.1 ∙ two.1)

-- frames after frames

opened-append : (a b : List (List Rec)) → opened (a ++ b) ≡ opened a ++ opened b
opened-append [] b = refl
opened-append (frame ∷ a) b =
    ap (λ (l : List ℕ). 1 ∷ frame_bytes frame ++ l) (opened-append a b) ∙ ap (λ (l : List ℕ). 1 ∷ l) (sym (append_assoc (frame_bytes frame) (opened a) (opened b)))

-- the settled part of a file with more frames goes on with their bytes
pub part-append : (birth number : ℕ) (a b : List (List Rec)) → settled_part birth number (a ++ b) ≡ settled_part birth number a ++ opened b
part-append birth number a b = ap (λ (l : List ℕ). header birth number ++ l) (opened-append a b) ∙ sym (append_assoc (header birth number) (opened a) (opened b))

-- in a file with these frames
put_in_frames : (birth number : ℕ) (frames : List (List Rec)) (bytes : List ℕ) (p : Pointer) (event : Content) → HasFrames birth number frames bytes → PutAt (settled_part birth number frames) p event → PutAt bytes p event
put_in_frames birth number frames bytes p event has at =
    let whole : bytes ≡ settled_part birth number frames ++ (has.2.gate ∷ has.2.rest) =
    has.1 ∙ (ap (λ (l : List ℕ). header birth number ++ l) has.2.split ∙ sym (append_assoc (header birth number) (opened frames) (has.2.gate ∷ has.2.rest))) in
    subst (λ (l : List ℕ). PutAt l p event) (sym whole) (put_grows (settled_part birth number frames) (has.2.gate ∷ has.2.rest) p event at)

put_behind : (birth number : ℕ) (frames : List (List Rec)) (frame : List Rec) (p : Pointer) (event : Content) → PutAt (settled_part birth number frames) p event → PutAt (settled_part birth number (frames ++ frame ∷ [])) p event
put_behind birth number frames frame p event at =
    subst (λ (l : List ℕ). PutAt l p event) (sym (part-append birth number frames (frame ∷ []))) (put_grows (settled_part birth number frames) (opened (frame ∷ [])) p event at)

-- a PUT in the settled part stays while a frame is added, and with that frame
pub put_stays : PutStays
put_stays birth number frames frame p event at = (by_file, put_behind birth number frames frame p event at)
  where
    by_bytes : (bytes : List ℕ) → HasFrames birth number frames bytes ⊎ HasFrames birth number (frames ++ frame ∷ []) bytes → PutAt bytes p event
    by_bytes bytes (inl lacks) = put_in_frames birth number frames bytes p event lacks at
    by_bytes bytes (inr has) = put_in_frames birth number (frames ++ frame ∷ []) bytes p event has (put_behind birth number frames frame p event at)

    by_file : (file : Option (List ℕ)) → LacksOrHas birth number frames frame file → IsSomeAnd file (λ bytes. PutAt bytes p event)
    by_file None is = absurd is
    by_file (Some bytes) is = by_bytes bytes is

-- records of a frame

records-split : (before behind : List Rec) (rec : Rec) → record_bytes (before ++ rec ∷ behind) ≡ record_bytes before ++ (spelling rec ++ record_bytes behind)
records-split before behind rec = flat_map-append spelling before (rec ∷ behind)

frame-split : (before behind : List Rec) (rec : Rec) → frame_bytes (before ++ rec ∷ behind) ≡ record_bytes before ++ (spelling rec ++ (record_bytes behind ++ spelling (End (length (before ++ rec ∷ behind)))))
unfolding frame_bytes
frame-split before behind rec =
    let end : List ℕ = spelling (End (length (before ++ rec ∷ behind))) in
    ap (λ (l : List ℕ). l ++ end) (records-split before behind rec)
    ∙ (append_assoc (record_bytes before) (spelling rec ++ record_bytes behind) end
    ∙ ap (λ (l : List ℕ). record_bytes before ++ l) (append_assoc (spelling rec) (record_bytes behind) end))

-- a front, an open commit byte and a frame
opened_put : (front : List ℕ) (number at : ℕ) (before behind : List Rec) (txn : ℕ) (event : Content) → HasFields (Put txn event) → IsWithinLimits (Put txn event) → at ≡ pending_at (length front) before
    → PutAt (front ++ opened ((before ++ Put txn event ∷ behind) ∷ [])) (record { file = number; at = at; length = size event }) event
opened_put front number at before behind txn event fields limits is =
    let rec : Rec = Put txn event in
    let end : List ℕ = record_bytes behind ++ spelling (End (length (before ++ rec ∷ behind))) in
    let one : opened ((before ++ rec ∷ behind) ∷ []) ≡ 1 ∷ (record_bytes before ++ (spelling rec ++ end)) =
    ap (λ (l : List ℕ). 1 ∷ l) (append-nil (frame_bytes (before ++ rec ∷ behind)) ∙ frame-split before behind rec) in
    record {
      txn = txn;
      before = front ++ (1 ∷ record_bytes before);
      behind = end;
      split = ap (λ (l : List ℕ). front ++ l) one ∙ sym (append_assoc front (1 ∷ record_bytes before) (spelling rec ++ end));
      place = length-append front (1 ∷ record_bytes before) ∙ omega (arith, is);
      long = refl;
      fields = fields;
      limits = limits;
    }

-- a PUT that waits stands at its pointer once its frame is there
pub pending_stands : PendingStands
pending_stands birth number frames before behind txn event fields limits =
    let front : List ℕ = settled_part birth number frames in
    subst (λ (l : List ℕ). PutAt l (record { file = number; at = pending_at (length front) before; length = size event }) event) (sym (part-append birth number frames ((before ++ Put txn event ∷ behind) ∷ [])))
    (opened_put front number (pending_at (length front) before) before behind txn event fields limits refl)

-- over all images

still_file : (file : Option (List ℕ)) (bytes : List ℕ) (p : Pointer) (event : Content) → Allows (There (stable bytes)) file → PutAt bytes p event → IsSomeAnd file (λ b. PutAt b p event)
still_file None bytes p event may at = absurd may
still_file (Some b) bytes p event may at = subst (λ (l : List ℕ). PutAt l p event) (sym (stable_only bytes b may)) at

-- what stands at a pointer stands there in each image that a crash leaves
pub each_image : StandsInEachImage
each_image t birth number frames frame p event image (inl here) is own =
    subst (λ (n : ℕ). IsSomeAnd (image (Log n)) (λ bytes. PutAt bytes p event)) (sym here.0) ((put_stays birth number frames frame p event here.1).0 (image (Log number)) own)
each_image t birth number frames frame p event image (inr there) is own =
    still_file (image (Log p.file)) there.1 p event (subst (λ (e : _). Allows e (image (Log p.file))) there.2 (is (Log p.file))) there.3
