-- What a crash leaves of a checkpoint, also where its own file failed.
use Rattle.std.proofs.Common.{◌⊎◌, inl, inr, ◌≡◌, ◌≢◌, ◌<◌, ◌≤◌, ◌^◌, ◌++◌, ◌∷◌, [], ℕ, List, Option, Some, None, false, refl, sym, ◌∙◌, subst, arith}
use Rattle.std.specs.Prelude.{IsSome}
use Rattle.std.proofs.lemmas.Bool.{cases_lt}
use Rattle.std.proofs.lemmas.Bool.Decides.{nat_tests}
use Rattle.std.proofs.lemmas.List.{get_or_past}
use Rattle.flume_host.specs.Folder.{Allows, Entry, Files, Folder, IsImage, same_name}
use Rattle.flume_host.specs.Told.{Changes, OneFile, Tells, Told, WhereTold, clock}
use Rattle.flume_host.specs.declared.names.FileName.TheVariants.{Check, Log}
use Rattle.flume_host.proofs.Moments.{clock_rises}
use Rattle.flume_host.proofs.Telling.{back}
use Rattle.event_ring.specs.Slots.{Index}
use Rattle.open_table.specs.Tables.{Table}
use Rattle.channel_log.specs.Frames.{header, opened}
use Rattle.channel_log.specs.Writer.{Writer, file_of}
use Rattle.channel_face.specs.Machine.{State}
use Rattle.channel_replay.specs.Start.{Start}
use Rattle.channel_writing.specs.Written.{OnDisk, Waits}
use Rattle.channel_writing.proofs.Flushing.{as_read}
use Rattle.checkpoint.specs.declared.place.Next.{Next}
use Rattle.checkpoint.specs.Newest.{IsPassedFile}
use Rattle.checkpoint.specs.Right.{IsRight}
use Rattle.checkpoint.specs.Text.{CheckText, check_bytes}
use Rattle.checkpoint_recovery.specs.Recovers.{IsCheck}
use Rattle.checkpoint_recovery.proofs.Elsewhere.{open_is_newest}
use Rattle.channel_laying.specs.Laying.{HasLog, IsLaying, MayLay}
use Rattle.channel_laying.proofs.Naming.{AreNumbered}
use Rattle.file_channel.specs.Laid.{IsNewestOf, MayStand, end_of_log}

-- two names of files
other_log : (n file : ℕ) → n ≢ file → same_name (Log n) (Log file) ≡ false
other_log n file other = grind (arith, nat_tests)

above_check : (n number : ℕ) → number < n → same_name (Check n) (Check number) ≡ false
above_check n number less = grind (arith, nat_tests)

module _ (t u : Told) (w : Writer) (busy number : ℕ) (next : Next) (ring : Index) (table : Table) (s : State) (c : CheckText) (start : Start) (may : MayLay (Some t) w busy number next ring table s c start) (changes : Changes (Check number) (IsLaying c) 3 t u) (image : Files) (left : IsImage u.now image) where
  abbrev waits : Waits (Some t) w s
  waits = may.logged.waits may.whole

  abbrev disk : OnDisk t w s waits.records
  disk = waits.disk t refl

  abbrev own : Option (List ℕ)
  own = Some (file_of disk.birth w.file disk.frames)

  -- the log's own file is as it was
  own_is : image (Log w.file) ≡ own
  own_is = as_read own (image (Log w.file)) (subst (λ (e : Entry). Allows e (image (Log w.file))) ((changes.others (Log w.file) refl).0 ∙ disk.rest.durable) (left (Log w.file)))

  has_log : HasLog t w image
  has_log = record {
    others = λ n other. subst (λ (e : Entry). Allows e (image (Log n))) (changes.others (Log n) refl).0 (left (Log n));
    front = header disk.birth w.file ++ opened disk.frames;
    rest = 0 ∷ [];
    long = sym disk.rest.offset;
    some = omega arith;
    reads = disk.rest.reads;
    has = own_is;
  }

  none_above : (n : ℕ) → number < n → image (Check n) ≡ None
  none_above n high =
      let unused = may.unused t refl n (omega (arith, high)) in
      as_read None (image (Check n)) (subst (λ (e : Entry). Allows e (image (Check n))) ((changes.others (Check n) (above_check n number high)).0 ∙ unused.1) (left (Check n)))

  file_is : IsLaying c (image (Check number))
  file_is =
      (changes.images.each (clock u) image (clock_rises t u (OneFile t.now (Check number) (IsLaying c)) changes.images)
      (subst (λ (f : Folder). IsImage f image) (sym (get_or_past u.past (clock u) u.now (omega arith))) left)).file

  -- the text is right for it, and stands there if it has those bytes
  pub text_right : IsRight image c start.base.items start.opened
  text_right = (may.text t refl).right image has_log

  -- where its file has all its bytes, the checkpoint stands for the start
  pub text_stands : image (Check number) ≡ Some (1 ∷ check_bytes c) → IsCheck image number c start
  text_stands spelled = record { spelled = spelled; means = record { right = text_right; number = (may.text t refl).number; txn = (may.text t refl).txn } }

  -- its log files have numbers of 32 bits
  pub image_numbered : AreNumbered image
  image_numbered n there = from (image (Log n)) refl there (cases_lt w.file n)
    where
      gone : w.file < n → image (Log n) ≡ None
      gone high = as_read None (image (Log n)) (subst (λ (e : Entry). Allows e (image (Log n))) ((changes.others (Log n) refl).0 ∙ disk.gone n high) (left (Log n)))

      none_some : (o : Option (List ℕ)) → o ≡ None → IsSome o → ⊥
      none_some o none some = cc

      from : (o : Option (List ℕ)) → image (Log n) ≡ o → IsSome (image (Log n)) → ((w.file < n) ⊎ (n ≤ w.file)) → n < 2 ^ 32
      from o is some (inl high) = absurd (none_some (image (Log n)) (gone high) some)
      from o is some (inr low) = omega (arith, low, disk.small)

  -- a crash leaves its file passed over, or the newest checkpoint with the end of the log
  pub may_stand : MayStand number (end_of_log w) s image
  may_stand = from file_is
    where
      from : IsLaying c (image (Check number)) → IsPassedFile (image (Check number)) ⊎ IsNewestOf image number (end_of_log w) s
      from (inl passed) = inl passed
      from (inr spelled) =
          inr (record {
            text = c;
            start = start;
            newest = open_is_newest image number c spelled (λ n high. subst IsPassedFile (sym (none_above n high)) tt);
            is = text_stands spelled;
            place_is = may.says.place_is;
            of = (may.text t refl).start_of;
          })

-- over what a disk shows
pub may_stand_after : (told told' : Option Told) (w : Writer) (busy number : ℕ) (next : Next) (ring : Index) (table : Table) (s : State) (c : CheckText) (start : Start) → MayLay told w busy number next ring table s c start → Tells told told' (Changes (Check number) (IsLaying c) 3)
    → WhereTold told' (λ t. (image : Files) → IsImage t.now image → MayStand number (end_of_log w) s image)
may_stand_after told told' w busy number next ring table s c start may tells u now image left =
    let was = back told told' (Changes (Check number) (IsLaying c) 3) tells u now in
    let here : MayLay (Some was.0) w busy number next ring table s c start = subst (λ (o : Option Told). MayLay o w busy number next ring table s c start) was.1 may in
    may_stand was.0 u w busy number next ring table s c start here was.2 image left
