-- The records that wait, as a frame.
use Rattle.std.proofs.Common.{◌≡◌, ◌<◌, ◌≤◌, ◌^◌, ℕ, ◌+◌, List, [], ◌∷◌, ◌++◌, length, ap, ◌∙◌, arith, length-append}
use Rattle.event_core.proofs.Sizes.{length-u32_bytes}
use Rattle.event_core.specs.Numbers.{u32_bytes}
use Rattle.record_form.specs.declared.record.Rec.{Rec}
use Rattle.record_form.specs.declared.record.Rec.TheVariants.{End}
use Rattle.record_form.specs.Record.{spelling}
use Rattle.channel_log.specs.Frames.{IsFrame, frame_bytes, record_bytes}
use Rattle.channel_log.specs.Writer.{IsPending, Writer}

-- the records that wait make a frame, where there are some and not too many
pub is_frame : (w : Writer) (records : List Rec) → IsPending w records → 1 ≤ length records → w.count < 2 ^ 32 → IsFrame records
is_frame w records pending some few = record { each = pending.each; some = some; few = let counted = pending.counted in omega arith }

-- what a flush writes is the frame of the records that wait, and a closed commit byte
pub sealed : (w : Writer) (records : List Rec) (frame piece : List ℕ) (count : ℕ) → IsPending w records → frame ≡ w.bytes → count ≡ w.count → piece ≡ (frame ++ spelling (End count)) ++ 0 ∷ [] → piece ≡ frame_bytes records ++ 0 ∷ []
unfolding frame_bytes
sealed w records frame piece count pending same same_count is =
    is ∙ ap (λ (f : List ℕ). (f ++ spelling (End count)) ++ 0 ∷ []) (same ∙ pending.spelled) ∙ ap (λ (n : ℕ). (record_bytes records ++ spelling (End n)) ++ 0 ∷ []) (same_count ∙ pending.counted)

-- END and a closed commit byte make the bytes that wait longer by 6
pub length-sealed : (frame piece : List ℕ) (count : ℕ) → piece ≡ (frame ++ spelling (End count)) ++ 0 ∷ [] → length piece ≡ length frame + 6
length-sealed frame piece count is = omega (arith, ap length is, length-append (frame ++ spelling (End count)) (0 ∷ []), length-append frame (6 ∷ u32_bytes count), length-u32_bytes count)
