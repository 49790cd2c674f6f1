-- Events that are freed, taken out or added one after another.
use Rattle.std.proofs.Common.{drop, get_or, map, inl, inr, ◌≡◌, ◌<◌, ◌≤◌, ◌+◌, ◌++◌, ◌∷◌, [], ℕ, List, length, Bool, true, false, ◌==◌, cond, refl, sym, ◌∙◌, ap, subst, append_assoc, arith, length-append}
use Rattle.std.proofs.lemmas.List.{append-nil, drop_more}
use Rattle.open_table.specs.Tables.{listed_of}
use Rattle.open_table.specs.declared.table.Ended.{Ended}
use Rattle.record_form.specs.declared.record.Pointer.{Pointer}
use Rattle.event_ring.specs.Slots.{Index, IsLive, Left, lasting, marked}
use Rattle.channel_places.specs.Ends.{AreApart, AreLive, IsAppended, lacking, placed}

live_marked : (n m : ℕ) (live : List Left) → IsLive live m → IsLive (marked n false live) m
live_marked n m [] is = is
live_marked n m (l ∷ live) (inl here) = inl (by_test (l.number == n) ∙ here)
  where
    by_test : (t : Bool) → (cond t (record l { held = false }) l).number ≡ l.number
    by_test true = refl
    by_test false = refl
live_marked n m (l ∷ live) (inr there) = inr (live_marked n m live there)

-- events that are left are still left when one is held no longer
pub all_marked : (n : ℕ) (live : List Left) (numbers : List ℕ) → AreLive live numbers → AreLive (marked n false live) numbers
all_marked n live [] all = tt
all_marked n live (m ∷ numbers) all = (live_marked n m live all.0, all_marked n live numbers all.1)

-- taking out two lists of events is taking out one and then the other
pub lacking-append : (a b : List ℕ) (live : List Left) → lacking (a ++ b) live ≡ lacking b (lacking a live)
lacking-append [] b live = refl
lacking-append (n ∷ a) b live = lacking-append a b (lasting n live)

-- numbers none of which is named twice, in two parts: the second stands in what the first leaves
pub apart-append : (a b : List ℕ) (live : List Left) → AreApart live (a ++ b) → AreApart live a × AreApart (lacking a live) b
apart-append [] b live apart = (tt, apart)
apart-append (n ∷ a) b live apart =
    let rest = apart-append a b (lasting n live) apart.1 in
    ((apart.0, rest.0), rest.1)

-- Of the events that are to be added to the old ring, these are still to come.
pub record IsPart (first : ℕ) (pointers : List Pointer) (old : Index) (next : ℕ) (rest : List Pointer) (ring : Index) : Type 0 where
  pub slots : ring.slots ≡ old.slots
  pub top : ring.top ≤ next
  pub number : next + length rest ≡ first + length pointers
  pub live : ring.live ++ placed next rest ≡ old.live ++ placed first pointers
  pub room : length ring.live + length rest ≡ length old.live + length pointers

-- before any event is added, all are still to come
pub part_all : (first : ℕ) (pointers : List Pointer) (old : Index) → old.top ≤ first → IsPart first pointers old first pointers old
part_all first pointers old above = record { slots = refl; top = above; number = refl; live = refl; room = refl }

-- when none is still to come, all are added
pub part_none : (first : ℕ) (pointers : List Pointer) (old : Index) (next : ℕ) (rest : List Pointer) (ring : Index) → rest ≡ [] → IsPart first pointers old next rest ring → IsAppended first pointers old ring
part_none first pointers old next rest ring none part =
    let done : IsPart first pointers old next [] ring = subst (λ (l : List Pointer). IsPart first pointers old next l ring) none part in
    record { slots = done.slots; top = omega (arith, done.top, done.number); live = sym (append-nil ring.live) ∙ done.live }

placed-append : (first : ℕ) (a b : List Pointer) → placed first (a ++ b) ≡ placed first a ++ placed (first + length a) b
placed-append first [] b = ap (λ (n : ℕ). placed n b) (omega arith)
placed-append first (p ∷ a) b = ap (λ (l : List Left). record { number = first; pointer = p; held = false } ∷ l) (placed-append (first + 1) a b ∙ ap (λ (n : ℕ). placed (first + 1) a ++ placed n b) (omega arith))

-- there are as many placed events as pointers
pub length_placed : (first : ℕ) (pointers : List Pointer) → length (placed first pointers) ≡ length pointers
length_placed first [] = refl
length_placed first (p ∷ pointers) = omega (arith, length_placed (first + 1) pointers)

-- some of them are added
pub part_more : (first : ℕ) (pointers : List Pointer) (old : Index) (next : ℕ) (rest some more : List Pointer) (ring new : Index) (then : ℕ) → IsPart first pointers old next rest ring → rest ≡ some ++ more → IsAppended next some ring new → then ≡ next + length some
    → IsPart first pointers old then more new
part_more first pointers old next rest some more ring new then part is on then_is = record {
  slots = on.slots ∙ part.slots;
  top = omega (arith, on.top, then_is);
  number = omega (arith, part.number, then_is, ap (λ (l : List Pointer). length l) is, length-append some more);
  live =
      ap (λ (l : List Left). l ++ placed then more) on.live
      ∙ (append_assoc ring.live (placed next some) (placed then more)
      ∙ (ap (λ (l : List Left). ring.live ++ l) (ap (λ (n : ℕ). placed next some ++ placed n more) then_is ∙ (sym (placed-append next some more) ∙ ap (λ (l : List Pointer). placed next l) (sym is)))
      ∙ part.live));
  room = omega (arith, part.room, ap (λ (l : List Left). length l) on.live, length-append ring.live (placed next some), length_placed next some, ap (λ (l : List Pointer). length l) is, length-append some more);
}

-- one is added
pub appended_one : (number : ℕ) (p : Pointer) (old new : Index) → new ≡ record old { top = number + 1; live = old.live ++ record { number = number; pointer = p; held = false } ∷ [] } → IsAppended number (p ∷ []) old new
appended_one number p old new is = record { slots = ap (λ (r : Index). r.slots) is; top = omega (arith, ap (λ (r : Index). r.top) is); live = ap (λ (r : Index). r.live) is }

-- the transactions from this place on are the one there and those after it
pub staged_from : (staged : List Ended) (k : ℕ) (ended : Ended) → k < length staged → ended ≡ get_or staged k ended → map listed_of (drop k staged) ≡ listed_of ended ∷ map listed_of (drop (k + 1) staged)
staged_from staged k ended less is =
    ap (λ (l : List Ended). map listed_of l) (drop_more staged k ended less) ∙ ap (λ (e : Ended). listed_of e ∷ map listed_of (drop (k + 1) staged)) (sym is)
