-- What a copy and a reopening have.
use Rattle.std.proofs.Common.{◌≡◌, ◌≤◌, ◌+◌, ◌++◌, [], ℕ, List, length, take, drop, sym, ◌∙◌, ap, arith, length-drop}
use Rattle.std.proofs.lemmas.List.{length-take-le, take_all, drop_all}
use Rattle.std.proofs.Math.Seq.{take-add}
use Rattle.event_core.specs.declared.journal.Entry.{Entry}
use Rattle.channel_face.specs.Machine.{State}
use Rattle.txn_core.specs.Sound.{IsSound}
use Rattle.txn_core.specs.Shadow.{IsShadow}

-- the same lists in other rooms
pub roomier : (s : State) (o p i i' r r' f : ℕ) → IsSound s o p i r f → length s.items + o + p ≤ i' → length s.staged + length s.opened ≤ r' → IsSound s o p i' r' f
roomier s o p i i' r r' f sound events places = record {
  open_puts_are = sound.open_puts_are;
  staged_puts_are = sound.staged_puts_are;
  frames = sound.frames;
  numbers = sound.numbers;
  begun = sound.begun;
  lists = sound.lists;
  events = events;
  places = places;
  within = sound.within;
  within_memory = sound.within_memory;
  opened_few = sound.opened_few;
  front = sound.front;
}

-- what is staged stands after what is settled
pub enough : (s : State) (copies : List (ℕ × Entry)) (all : List Entry) (settled room kept : ℕ) → IsShadow s copies all settled room → kept ≤ length s.staged → settled + kept ≤ length all
enough s copies all settled room kept shadow few =
    let staged : length s.staged ≡ length (drop settled all) = ap (λ (l : List Entry). length l) (sym shadow.staged) in
    omega (arith, few, staged, length-drop settled all, shadow.within)

-- after a reopening nothing is open or staged, and the journal has what was settled and what was kept
pub shadow_reopened : (s s' : State) (copies : List (ℕ × Entry)) (all : List Entry) (settled room kept : ℕ) → IsShadow s copies all settled room → kept ≤ length s.staged → s'.opened ≡ [] → s'.staged ≡ [] → IsShadow s' [] (take (settled + kept) all) (settled + kept) room
shadow_reopened s s' copies all settled room kept shadow few opened staged =
    let within : settled + kept ≤ length all = enough s copies all settled room kept shadow few in
    let long : length (take (settled + kept) all) ≡ settled + kept = length-take-le (settled + kept) all within in
    record {
      opened = sym opened;
      staged = drop_all (settled + kept) (take (settled + kept) all) (omega (arith, long)) ∙ sym staged;
      within = omega (arith, long);
      fits = omega (arith, long, within, shadow.fits);
      few = omega arith;
    }

-- the journal goes on by a first part of what was staged
pub journal_reopened : (s : State) (copies : List (ℕ × Entry)) (all : List Entry) (settled room kept : ℕ) → IsShadow s copies all settled room → kept ≤ length s.staged → take (settled + kept) (take (settled + kept) all) ≡ take settled all ++ take kept s.staged
journal_reopened s copies all settled room kept shadow few =
    let long : length (take (settled + kept) all) ≡ settled + kept = length-take-le (settled + kept) all (enough s copies all settled room kept shadow few) in
    take_all (settled + kept) (take (settled + kept) all) (omega (arith, long))
    ∙ (take-add settled kept all ∙ ap (λ (l : List Entry). take settled all ++ take kept l) shadow.staged)
