-- Files that get bytes at their end.
use Rattle.std.proofs.Common.{◌≡◌, ◌∙◌, ap, sym, refl, subst, ℕ, zero, suc, List, [], ◌∷◌, ◌++◌, take, drop, Option, Some, Result, Ok, Err, IsErr, MatchResult, slice_get, true, false, append-nil, append_assoc}
use Rattle.flume_host.specs.declared.names.Failed.{Failed}
use Rattle.flume_host.specs.Told.{Tells}
use Rattle.flume_host.specs.Rolled.{Rolled, RollFile, GrewBy, Added, HandsOn, refused_roll}
use Rattle.flume_host.proofs.Telling.{follows, tells_same, tells_more, some_same}
use Rattle.event_core.specs.Content.{Content}
use Rattle.roll_sink.specs.Parts.{HandedOn}
use Rattle.roll_sink.specs.Rolls.{grow, roll_text, Grew, Stopped, Writes}

-- no bytes at the end change nothing
pub grow-nil : (files : List RollFile) → grow [] files ≡ files
grow-nil [] = refl
grow-nil (file ∷ []) = ap (λ (b : List ℕ). record { name = file.name; bytes = b } ∷ []) (append-nil file.bytes)
grow-nil (file ∷ next ∷ files) = ap (λ (l : List RollFile). file ∷ l) (grow-nil (next ∷ files))

grow_front : (file : RollFile) (a b : List ℕ) (files : List RollFile) → grow b (grow a files) ≡ grow (a ++ b) files → (next : RollFile) (rest : List RollFile) → grow a files ≡ next ∷ rest → grow b (file ∷ grow a files) ≡ file ∷ grow (a ++ b) files
grow_front file a b files is next rest shape = let P : List RollFile → Type 0 = λ l. (grow b l ≡ grow (a ++ b) files → grow b (file ∷ l) ≡ file ∷ grow (a ++ b) files) in subst P (sym shape) (λ same. ap (λ (l : List RollFile). file ∷ l) same) is

grow_some : (a : List ℕ) (file : RollFile) (files : List RollFile) → (next : RollFile) × (rest : List RollFile) × (grow a (file ∷ files) ≡ next ∷ rest)
grow_some a file [] = (record { name = file.name; bytes = file.bytes ++ a }, [], refl)
grow_some a file (next ∷ files) = (file, grow a (next ∷ files), refl)

-- bytes at the end and then more are all of them at once
pub grow-append : (a b : List ℕ) (files : List RollFile) → grow b (grow a files) ≡ grow (a ++ b) files
grow-append a b [] = refl
grow-append a b (file ∷ []) = ap (λ (x : List ℕ). record { name = file.name; bytes = x } ∷ []) (append_assoc file.bytes a b)
grow-append a b (file ∷ next ∷ files) =
    let some = grow_some a next files in
    grow_front file a b (next ∷ files) (grow-append a b (next ∷ files)) some.0 some.1 some.2

-- only the last file gets the bytes
pub grow_last : (front : List RollFile) (last : RollFile) (bytes : List ℕ) → grow bytes (front ++ last ∷ []) ≡ front ++ record last { bytes = last.bytes ++ bytes } ∷ []
grow_last [] last bytes = refl
grow_last (file ∷ []) last bytes = refl
grow_last (file ∷ next ∷ front) last bytes = ap (λ (l : List RollFile). file ∷ l) (grow_last (next ∷ front) last bytes)

-- the last file got these bytes
pub grew_is : (bytes : List ℕ) (old new : List RollFile) → GrewBy bytes old new → new ≡ grow bytes old
grew_is bytes old new g = g.is ∙ sym (grow_last g.front g.last bytes) ∙ ap (λ (l : List RollFile). grow bytes l) (sym g.was)

-- bytes, and then more
pub grew_more : (a b : List ℕ) (r s t : Rolled) → Grew a r s → Grew b s t → Grew (a ++ b) r t
grew_more a b r s t first second = second ∙ ap (λ (l : List RollFile). grow b l) first ∙ grow-append a b r.files

-- bytes, and then a front of more
pub grew_then_stopped : (a b : List ℕ) (r s t : Rolled) → Grew a r s → Stopped b s t → Stopped (a ++ b) r t
grew_then_stopped a b r s t first second = record {
  failed = second.failed;
  front = a ++ second.front;
  rest = second.rest;
  split = ap (λ (l : List ℕ). a ++ l) second.split ∙ sym (append_assoc a second.front second.rest);
  files = second.files ∙ ap (λ (l : List RollFile). grow second.front l) first ∙ grow-append a second.front r.files;
}

-- nothing was written after a front
pub stopped_early : (a b : List ℕ) (r s : Rolled) → Stopped a r s → Stopped (a ++ b) r s
stopped_early a b r s stopped = record {
  failed = stopped.failed;
  front = stopped.front;
  rest = stopped.rest ++ b;
  split = ap (λ (l : List ℕ). l ++ b) stopped.split ∙ append_assoc stopped.front stopped.rest b;
  files = stopped.files;
}

-- no call, which wrote nothing
pub grew_nothing : (r : Rolled) → Grew [] r r
grew_nothing r = sym (grow-nil r.files)

-- a call failed before it wrote anything
pub stopped_at_once : (bytes : List ℕ) (r s : Rolled) → s.files ≡ r.files → s.failed ≡ true → Stopped bytes r s
stopped_at_once bytes r s same failed = record { failed = failed; front = []; rest = bytes; split = refl; files = same ∙ sym (grow-nil r.files) }

-- where nothing happened, nothing was written
pub nothing_written : (told : Option Rolled) → Tells told told (Grew [])
nothing_written told = tells_same told (Grew []) (λ r _. grew_nothing r)

-- bytes were written, and then more of them
pub more_written : (a b : List ℕ) (x y z : Option Rolled) → Tells x y (Grew a) → Tells y z (Grew b) → Tells x z (Grew (a ++ b))
more_written a b x y z = follows x y z (Grew a) (Grew b) (Grew (a ++ b)) (λ r s t _ _ _ first second. grew_more a b r s t first second)

-- bytes were written, and then a front of more before a failure
pub then_stopped : (a b : List ℕ) (x y z : Option Rolled) → Tells x y (Grew a) → Tells y z (Stopped b) → Tells x z (Stopped (a ++ b))
then_stopped a b x y z = follows x y z (Grew a) (Stopped b) (Stopped (a ++ b)) (λ r s t _ _ _ first second. grew_then_stopped a b r s t first second)

-- after bytes that were written, a call that may fail writes more
pub then_writes : (a b : List ℕ) (result : Result (Unit {0}) Failed) (x y z : Option Rolled) → Tells x y (Grew a) → Writes b result y z → Writes (a ++ b) result x z
then_writes a b (Ok done) x y z first second = more_written a b x y z first second
then_writes a b (Err failed) x y z first second = then_stopped a b x y z first second

-- a failure within the first bytes is one within all of them
pub fails_early : (a b : List ℕ) (x y : Option Rolled) → Tells x y (Stopped a) → Tells x y (Stopped (a ++ b))
fails_early a b x y = tells_more x y (Stopped a) (Stopped (a ++ b)) (λ r s _ _ stopped. stopped_early a b r s stopped)

-- bytes that were added are written
pub added_written : (bytes : List ℕ) (x y : Option Rolled) → Tells x y (Added bytes) → Tells x y (Grew bytes)
added_written bytes x y = tells_more x y (Added bytes) (Grew bytes) (λ r s _ _ added. grew_is bytes r.files s.files added.grew)

-- a call that failed after a front
pub failed_behind : (a b : List ℕ) (x y z : Option Rolled) → Tells x y (Grew a) → Tells y z (λ r s. s ≡ refused_roll r.begun r) → Tells x z (Stopped (a ++ b))
failed_behind a b x y z first failed = then_stopped a b x y z first (tells_more y z (λ r s. s ≡ refused_roll r.begun r) (Stopped b) (λ r s _ _ is. stopped_at_once b r s (ap (λ (t : Rolled). t.files) is) (ap (λ (t : Rolled). t.failed) is)) failed)

-- the text of the first batch, and of one event more
pub text-more : (batch : List Content) (i : ℕ) (event : Content) → slice_get batch i ≡ Some event → roll_text (take (suc i) batch) ≡ roll_text (take i batch) ++ (event.body ++ 10 ∷ [])
text-more [] i event is = cc
text-more (x ∷ xs) zero event is = ap (λ (e : Content). e.body ++ 10 ∷ []) (some_same x event is)
text-more (x ∷ xs) (suc i) event is = ap (λ (l : List ℕ). x.body ++ 10 ∷ l) (text-more xs i event is) ∙ sym (append_assoc x.body (10 ∷ roll_text (take i xs)) (event.body ++ 10 ∷ []))

-- the text of a batch begins with that of its first events
pub text-split : (batch : List Content) (i : ℕ) → roll_text batch ≡ roll_text (take i batch) ++ roll_text (drop i batch)
text-split batch zero = refl
text-split [] (suc i) = refl
text-split (x ∷ xs) (suc i) = ap (λ (l : List ℕ). x.body ++ 10 ∷ l) (text-split xs i) ∙ sym (append_assoc x.body (10 ∷ roll_text (take i xs)) (roll_text (drop i xs)))

-- a call that answers an error stopped after a front
pub writes_not : (bytes : List ℕ) (result : Result (Unit {0}) Failed) (x y : Option Rolled) → IsErr result → Tells x y (Stopped bytes) → Writes bytes result x y
writes_not bytes (Ok done) x y is stopped = cc
writes_not bytes (Err failed) x y is stopped = stopped

-- bytes that were written are handed on, or the last call failed
pub handed_on : (bytes : List ℕ) (result : Result (Unit {0}) Failed) (x y z : Option Rolled) → Tells x y (Grew bytes) → HandsOn result y z → MatchResult result (λ done. Tells x z (HandedOn bytes)) (λ failed. Tells x z (Stopped bytes))
handed_on bytes (Ok done) x y z grew flushed = follows x y z (Grew bytes) (λ r s. s ≡ record r { flushed = true; failed = false }) (HandedOn bytes) (λ r s t _ _ _ first is. record { files = ap (λ (u : Rolled). u.files) is ∙ first; flushed = ap (λ (u : Rolled). u.flushed) is }) grew flushed
handed_on bytes (Err failed) x y z grew refused = let P : List ℕ → Type 0 = λ l. Tells x z (Stopped l) in subst P (append-nil bytes) (failed_behind bytes [] x y z grew refused)
