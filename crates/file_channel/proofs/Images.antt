-- A channel's events stand at their pointers in whatever a crash leaves.
use Rattle.std.proofs.Common.{◌⊎◌, inl, inr, ◌≡◌, ◌≢◌, ◌==◌, ℕ, List, [], drop, take, Option, Some, None, true, false, sym, ◌∙◌, subst, arith}
use Rattle.std.specs.Prelude.{IsSomeAnd}
use Rattle.std.proofs.lemmas.Bool.Decides.{eqb_tells}
use Rattle.std.proofs.lemmas.List.{length-take, take-append-drop}
use Rattle.flume_host.specs.Folder.{Allows, Entry, Files, IsImage, settle_entry}
use Rattle.flume_host.specs.Told.{Told}
use Rattle.flume_host.specs.declared.names.FileName.TheVariants.{Log}
use Rattle.event_core.specs.Content.{Content}
use Rattle.record_form.specs.declared.record.Pointer.{Pointer}
use Rattle.record_form.specs.declared.record.Rec.{Rec}
use Rattle.record_form.specs.Pointers.{PutAt}
use Rattle.channel_log.specs.Pointers.{IsWaiting, end_of}
use Rattle.channel_log.specs.Writer.{Writer, file_of}
use Rattle.record_form.proofs.Pointed.{within}
use Rattle.channel_log.proofs.Pointing.{put_grows}
use Rattle.channel_face.specs.Machine.{State}
use Rattle.channel_writing.specs.Written.{OnDisk}
use Rattle.channel_writing.proofs.Flushing.{as_read}
use Rattle.file_channel.specs.Images.{StandsInImages}
use Rattle.file_channel.specs.Placed.{IsStill, IsThere, bytes_of}

-- between calls a crash leaves each log file as reads give it
image_is : (t : Told) (w : Writer) (s : State) (records : List Rec) (image : Files) (n : ℕ) → OnDisk t w s records → (n ≢ w.file → IsStill t n) → IsImage t.now image → image (Log n) ≡ t.reads (Log n)
image_is t w s records image n disk still are = from (eqb_tells n w.file)
  where
    bytes : List ℕ
    bytes = file_of disk.birth w.file disk.frames

    own : image (Log w.file) ≡ t.reads (Log w.file)
    own =
        let may : Allows (settle_entry (Some bytes)) (image (Log w.file)) = subst (λ (e : Entry). Allows e (image (Log w.file))) disk.rest.durable (are (Log w.file)) in
        as_read (Some bytes) (image (Log w.file)) may ∙ sym disk.rest.reads

    from : ((n == w.file) ≡ true) × (n ≡ w.file) ⊎ ((n == w.file) ≡ false) × (n ≢ w.file) → image (Log n) ≡ t.reads (Log n)
    from (inl same) = subst (λ (m : ℕ). image (Log m) ≡ t.reads (Log m)) (sym same.1) own
    from (inr other) = as_read (t.reads (Log n)) (image (Log n)) (subst (λ (e : Entry). Allows e (image (Log n))) (still other.1) (are (Log n)))

-- a PUT in a front of a file's bytes shows that the file is there and has it
pub whole_file : (o : Option (List ℕ)) (n : ℕ) (p : Pointer) (event : Content) → PutAt (take n (bytes_of o)) p event → IsSomeAnd o (λ bytes. PutAt bytes p event)
whole_file None n p event at = let none : List ℕ = [] in absurd (omega (arith, within (take n none) p event at, length-take n none))
whole_file (Some bytes) n p event at = subst (λ (l : List ℕ). PutAt l p event) (take-append-drop n bytes) (put_grows (take n bytes) (drop n bytes) p event at)

stands_or_waits : (t : Told) (w : Writer) (image : Files) (p : Pointer) (event : Content) → image (Log p.file) ≡ t.reads (Log p.file) → IsThere t w p event → IsWaiting w p ⊎ IsSomeAnd (image (Log p.file)) (λ bytes. PutAt bytes p event)
stands_or_waits t w image p event same (inl at) = inr (subst (λ (o : Option (List ℕ)). IsSomeAnd o (λ bytes. PutAt bytes p event)) (sym same) (whole_file (t.reads (Log p.file)) (end_of w p.file) p event at))
stands_or_waits t w image p event same (inr waits) = inl waits.0

-- unless it waits for a flush, the event of a channel that is not broken stands in every image
pub in_each_image : StandsInImages
in_each_image told c s is t image p event still told_is are in_known =
    let waits = (is.whole.logged still).waits still in
    stands_or_waits t c.log image p event (image_is t c.log s waits.records image p.file (waits.disk t told_is) ((is.placed still).still t told_is p event in_known) are) ((is.placed still).there t told_is p event in_known)
