-- Two records that wait for a flush.
use Rattle.std.proofs.Common.{refl, ◌≡◌, ◌≤◌, ◌+◌, ◌++◌, ◌∷◌, [], ◌∙◌, ℕ, List, length, Option, ap, sym, subst, arith}
use Rattle.std.proofs.lemmas.List.{append-nil}
use Rattle.std.specs.Prelude.{IsSome}
use Rattle.flume_host.specs.declared.names.FileName.TheVariants.{Log}
use Rattle.flume_host.specs.Told.{Told, WhereTold}
use Rattle.record_form.specs.declared.record.Rec.{Rec}
use Rattle.record_form.specs.Record.{record_length, spelling}
use Rattle.record_form.proofs.Again.{length-spelling}
use Rattle.channel_log.specs.Writer.{Appends, HasRoom, IsPending, IsReady, Writer}

first_bytes : (old new : Writer) (rec : Rec) → old.bytes ≡ [] → Appends old new rec → new.bytes ≡ spelling rec
first_bytes old new rec empty adds = ap (λ (w : Writer). w.bytes) adds.is ∙ ap (λ (l : List ℕ). l ++ spelling rec) empty

-- where nothing waited and both records fit one frame, there is room for the second behind the first
pub room_behind : (old new : Writer) (rec : Rec) (size : ℕ) → old.bytes ≡ [] → Appends old new rec → record_length rec + size + 6 ≤ 2_097_152 → HasRoom new size
room_behind old new rec size empty adds fits = omega (arith, fits, ap length (first_bytes old new rec empty adds), length-spelling rec)

-- two records that were appended to an empty frame wait, in order
pub two_pending : (w0 w1 w2 : Writer) (a b : Rec) → w0.bytes ≡ [] → w0.count ≡ 0 → Appends w0 w1 a → Appends w1 w2 b → IsPending w2 (a ∷ b ∷ [])
two_pending w0 w1 w2 a b empty none one two = record {
  spelled = ap (λ (w : Writer). w.bytes) two.is ∙ ap (λ (l : List ℕ). l ++ spelling b) (first_bytes w0 w1 a empty one) ∙ ap (λ (l : List ℕ). spelling a ++ l) (sym (append-nil (spelling b)));
  counted = omega (arith, ap (λ (w : Writer). w.count) two.is, ap (λ (w : Writer). w.count) one.is, none);
  each = (one.framed, (two.framed, tt));
}

-- a log that was ready for a flush is so after two records were appended
pub still_ready : (told : Option Told) (w0 w1 w2 : Writer) (a b : Rec) (birth file gate : ℕ) → w0.file ≡ file → w0.gate ≡ gate → Appends w0 w1 a → Appends w1 w2 b → IsReady told birth file gate [] → IsReady told birth w2.file w2.gate []
still_ready told w0 w1 w2 a b birth file gate file_is gate_is one two ready =
    let same_file : file ≡ w2.file = sym (ap (λ (w : Writer). w.file) two.is ∙ ap (λ (w : Writer). w.file) one.is ∙ file_is) in
    let same_gate : gate ≡ w2.gate = sym (ap (λ (w : Writer). w.gate) two.is ∙ ap (λ (w : Writer). w.gate) one.is ∙ gate_is) in
    subst (λ (n : ℕ). IsReady told birth w2.file n []) same_gate (subst (λ (n : ℕ). IsReady told birth n gate []) same_file ready)

-- the file of a log that is ready for a flush is there
pub is_there : (told : Option Told) (birth number gate : ℕ) (frames : List (List Rec)) → IsReady told birth number gate frames → WhereTold told (λ t. IsSome (t.reads (Log number)))
is_there told birth number gate frames ready = λ t is. subst (λ (file : Option (List ℕ)). IsSome file) (sym (ready t is).reads) refl
