-- The events that a disk shows at the pointers of a channel.
use Rattle.std.proofs.Common.{inl, inr, ◌≡◌, ◌≤◌, ◌-◌, ◌++◌, ◌∷◌, [], ℕ, List, drop, take, Option, Some, None, refl, ◌∙◌, ap, subst, arith}
use Rattle.std.proofs.lemmas.List.{length-replicate, take-append-drop}
use Rattle.flume_host.specs.Told.{Told}
use Rattle.flume_host.specs.declared.names.FileName.TheVariants.{Log}
use Rattle.event_core.specs.Content.{Content, size}
use Rattle.event_core.proofs.Sizes.{size-sum}
use Rattle.record_form.specs.Grammar.{Outcome}
use Rattle.record_form.specs.Record.{spelling}
use Rattle.record_form.specs.declared.record.Pointer.{Pointer}
use Rattle.record_form.specs.declared.record.Rec.TheVariants.{Put}
use Rattle.event_ring.specs.Slots.{Left}
use Rattle.record_form.specs.Pointers.{PutAt}
use Rattle.channel_log.specs.Pointers.{end_of, in_frame}
use Rattle.channel_log.specs.Writer.{Writer}
use Rattle.record_form.proofs.Pointed.{put_read}
use Rattle.channel_log.proofs.Pointing.{put_grows}
use Rattle.channel_places.specs.Looks.{Known, LookLeft}
use Rattle.ring_replay.specs.Indexing.{AreSized, HasItems, IsPlaced}
use Rattle.file_channel.specs.Opened.{AreSeen}
use Rattle.file_channel.specs.Placed.{ArePlaced, IsThere, bytes_of}
use Rattle.file_channel.specs.Stands.{blank, event_at, event_of, items_at}
use Rattle.file_channel.proofs.Replaying.{are_long, has_more, placed_known}

-- over a disk that does not show its contents

-- the pointers of a ring, each with an event of its size
abbrev pub blanks : List Left → Known
blanks [] = []
blanks (l ∷ live) = (l.pointer, blank l.pointer.length) ∷ blanks live

-- each event that is left has its blank one at its pointer
pub has_blanks : (live : List Left) → HasItems (blanks live) live (items_at None live)
has_blanks [] = tt
has_blanks (l ∷ live) = (refl, inl (refl, refl), has_more (l.pointer, blank l.pointer.length) (blanks live) live (items_at None live) (has_blanks live))

size_blank : (n : ℕ) → 8 ≤ n → size (blank n) ≡ n
size_blank n least = omega (arith, least, size-sum (blank n), length-replicate {A = ℕ} (n - 8) 0)

-- an event has no fewer bytes than those that count its headers and its body
least_size : (places : Known) (p : Pointer) (event : Content) → AreSized places → IsPlaced places p event → 8 ≤ p.length
least_size places p event sized is = omega (arith, size-sum event, are_long places sized p event (placed_known places p event is))

-- the blank events have their sizes where the real ones do
pub blanks_sized : (places : Known) (live : List Left) (items : List (ℕ × Content)) → HasItems places live items → AreSized places → AreSized (blanks live)
blanks_sized places [] items has sized = tt
blanks_sized places (l ∷ live) [] has sized = absurd has
blanks_sized places (l ∷ live) (item ∷ items) has sized = (size_blank l.pointer.length (least_size places l.pointer item.1 sized has.1), blanks_sized places live items has.2 sized)

-- such a disk shows a blank event at each of these pointers
pub blanks_seen : (live : List Left) → AreSeen None (blanks live)
blanks_seen [] p event is = absurd is
blanks_seen (l ∷ live) p event (inl same) = subst (λ (k : Pointer × Content). event_at None k.0 ≡ k.1) same refl
blanks_seen (l ∷ live) p event (inr older) = blanks_seen live p event older

-- over a disk that shows its contents

put_front : (n : ℕ) (bytes : List ℕ) (p : Pointer) (event : Content) → PutAt (take n bytes) p event → PutAt bytes p event
put_front n bytes p event at = subst (λ (l : List ℕ). PutAt l p event) (take-append-drop n bytes) (put_grows (take n bytes) (drop n bytes) p event at)

no_put : (p : Pointer) (event : Content) → PutAt [] p event → ⊥
no_put p event at = from at.before at.split
  where
    from : (l : List ℕ) → [] ≡ l ++ (spelling (Put at.txn event) ++ at.behind) → ⊥
    from [] is = cc
    from (b ∷ l) is = cc

-- where nothing waits, each event that is known is read at its pointer
pub placed_seen : (told : Option Told) (w : Writer) (known : Known) (t : Told) → told ≡ Some t → w.bytes ≡ [] → ArePlaced told w known known → AreSeen told known
placed_seen told w known t is empty placed p event in_known = ap (λ (v : Option Told). event_at v p) is ∙ from (placed.there t is p event in_known)
  where
    bytes : List ℕ
    bytes = bytes_of (t.reads (Log p.file))

    from : IsThere t w p event → event_at (Some t) p ≡ event
    from (inl at) = ap (λ (o : Outcome). event_of p.length o) (put_read bytes p event (put_front (end_of w p.file) bytes p event at)).1
    from (inr waits) = absurd (no_put (in_frame w p) event (subst (λ (l : List ℕ). PutAt l (in_frame w p) event) empty waits.1))

-- the events that are left are those that the disk shows
pub items_seen : (told : Option Told) (known : Known) (held : List ℕ) (live : List Left) (items : List (ℕ × Content)) → AreSeen told known → LookLeft known held live items → items_at told live ≡ items
items_seen told known held [] [] seen look = refl
items_seen told known held [] (item ∷ items) seen look = absurd look
items_seen told known held (l ∷ live) [] seen look = absurd look
items_seen told known held (l ∷ live) (item ∷ items) seen look =
    let number : l.number ≡ item.0 = look.0.0 in
    let event : event_at told l.pointer ≡ item.1 = seen l.pointer item.1 look.0.2 in
    let rest : items_at told live ≡ items = items_seen told known held live items seen look.1 in
    λ i. (number i, event i) ∷ rest i
