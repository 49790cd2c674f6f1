-- Numbers among those that transactions take, and what is left without them.
use Rattle.std.proofs.Common.{◌≡◌, ◌<◌, ◌≤◌, ◌+◌, ◌-◌, ◌^◌, ◌++◌, ◌∷◌, [], ℕ, zero, suc, List, length, length-append, drop, slice_get, slice_set, Some, filter, Bool, true, false, not, ◌||◌, cond, min, refl, sym, ◌∙◌, ap, append_assoc, arith}
use Rattle.event_core.specs.Content.{Content}
use Rattle.event_core.specs.Journal.{put_events, taken_numbers, without, is_among, numbered}
use Rattle.event_core.specs.declared.journal.Entry.{Entry}
use Rattle.event_core.specs.declared.journal.Entry.TheVariants.{Puts, Takes}
use Rattle.channel_face.specs.Counters.{capped}
use Rattle.channel_face.specs.Machine.{entries}
use Rattle.channel_face.proofs.Numbers.{numbered-append, or_among, without_none}
use Rattle.txn_core.specs.Sound.{puts_in, takes_in, without_puts, one_if_staged}

abbrev pub Opened : Type 0
Opened = List (ℕ × Entry)

-- the numbers taken by the first entry and the others
pub taken-cons : (e : Entry) (rest : List Entry) → taken_numbers (e ∷ rest) ≡ takes_in e ++ taken_numbers rest
taken-cons (Puts events) rest = refl
taken-cons (Takes numbers) rest = refl

-- the events put by the first entry and the others
pub put-cons : (e : Entry) (rest : List Entry) → put_events (e ∷ rest) ≡ puts_in e ++ put_events rest
put-cons (Puts events) rest = refl
put-cons (Takes numbers) rest = refl

-- a number is taken by the first entry or by the others
pub among_entry : (e : Entry) (rest : List Entry) (n : ℕ) → is_among (taken_numbers (e ∷ rest)) n ≡ (is_among (takes_in e) n || is_among (taken_numbers rest) n)
among_entry e rest n = ap (λ (l : List ℕ). is_among l n) (taken-cons e rest) ∙ or_among (takes_in e) (taken_numbers rest) n

-- what the first transaction took is among what all took
pub among_here : (o : ℕ × Entry) (rest : Opened) (n : ℕ) → is_among (takes_in o.1) n ≡ true → is_among (taken_numbers (entries (o ∷ rest))) n ≡ true
among_here o rest n here = rw (among_entry o.1 (entries rest) n, here) refl

-- what the first transaction did not take is sought among the others
pub among_later : (o : ℕ × Entry) (rest : Opened) (n : ℕ) → is_among (takes_in o.1) n ≡ false → is_among (taken_numbers (entries (o ∷ rest))) n ≡ is_among (taken_numbers (entries rest)) n
among_later o rest n here = rw (among_entry o.1 (entries rest) n, here) refl

-- where the list of the staged ones has one, something is staged
pub some_staged : (staged : Opened) → 0 < length staged → one_if_staged (entries staged) ≡ 1
some_staged [] some = absurd (omega (arith, some))
some_staged (o ∷ staged) some = refl

by_test : (b : Bool) (item : ℕ × Content) (xs ys : List (ℕ × Content)) → xs ≡ ys → cond (not b) (item ∷ xs) xs ≡ cond b ys (item ∷ ys)
by_test true item xs ys same = same
by_test false item xs ys same = ap (λ (l : List (ℕ × Content)). item ∷ l) same

-- keeping the items that were not taken leaves what is left
pub without_filter : (numbers : List ℕ) (items : List (ℕ × Content)) → filter (λ item. not (is_among numbers item.0)) items ≡ without numbers items
without_filter numbers [] = refl
without_filter numbers (item ∷ items) = by_test (is_among numbers item.0) item (filter (λ item. not (is_among numbers item.0)) items) (without numbers items) (without_filter numbers items)

-- where no number was taken, all items are left
pub none_taken : (numbers : List ℕ) (items : List (ℕ × Content)) → capped (length numbers) ≡ 0 → without numbers items ≡ items
none_taken [] items none = without_none items
none_taken (number ∷ numbers) items none = absurd (omega (arith, none))

-- from a place on stands what is at the place, then the rest
pub drop_at : {A : Type 0} (es : List A) (place : ℕ) (e : A) → slice_get es place ≡ Some e → drop place es ≡ e ∷ drop (place + 1) es
drop_at [] place e is = absurd (cc)
drop_at (x ∷ es) zero e is = (let same : x ≡ e = cc in ap (λ (y : _). y ∷ es) same)
drop_at (x ∷ es) (suc place) e is = let further : suc (place + 1) ≡ suc place + 1 = omega arith in drop_at es place e is ∙ ap (λ (i : ℕ). e ∷ drop i (x ∷ es)) further

drop_set : (es : Opened) (place : ℕ) (e : ℕ × Entry) → drop (place + 1) (slice_set es place e) ≡ drop (place + 1) es
drop_set [] place e = refl
drop_set (x ∷ es) zero e = refl
drop_set (x ∷ es) (suc place) e =
    let further : suc (place + 1) ≡ suc place + 1 = omega arith in
    sym (ap (λ (i : ℕ). drop i (x ∷ slice_set es place e)) further) ∙ (drop_set es place e ∙ ap (λ (i : ℕ). drop i (x ∷ es)) further)

no_puts : (e : Entry) → takes_in (without_puts e) ≡ takes_in e
no_puts (Puts events) = refl
no_puts (Takes numbers) = refl

-- a transaction without its puts takes what it took
pub takes_stay : (es : Opened) (place : ℕ) (o : ℕ × Entry) → slice_get es place ≡ Some o → taken_numbers (entries (slice_set es place (o.0, without_puts o.1))) ≡ taken_numbers (entries es)
takes_stay [] place o is = absurd (cc)
takes_stay (x ∷ es) zero o is =
    let same : x ≡ o = cc in
    taken-cons (without_puts o.1) (entries es) ∙ (ap (λ (l : List ℕ). l ++ taken_numbers (entries es)) (no_puts o.1 ∙ ap (λ (y : ℕ × Entry). takes_in y.1) (sym same)) ∙ sym (taken-cons x.1 (entries es)))
takes_stay (x ∷ es) (suc place) o is =
    taken-cons x.1 (entries (slice_set es place (o.0, without_puts o.1))) ∙ (ap (λ (l : List ℕ). takes_in x.1 ++ l) (takes_stay es place o is) ∙ sym (taken-cons x.1 (entries es)))

-- the puts from a place on
pub puts_from : (es : Opened) (place : ℕ) (o : ℕ × Entry) → slice_get es place ≡ Some o → put_events (entries (drop place es)) ≡ puts_in o.1 ++ put_events (entries (drop (place + 1) es))
puts_from es place o is = ap (λ (l : Opened). put_events (entries l)) (drop_at es place o is) ∙ put-cons o.1 (entries (drop (place + 1) es))

-- how many puts there are from a place on
pub puts_from_length : (es : Opened) (place : ℕ) (o : ℕ × Entry) → slice_get es place ≡ Some o → length (put_events (entries (drop place es))) ≡ length (puts_in o.1) + length (put_events (entries (drop (place + 1) es)))
puts_from_length es place o is = ap (λ (l : List Content). length l) (puts_from es place o is) ∙ length-append (puts_in o.1) (put_events (entries (drop (place + 1) es)))

-- the later transactions keep their puts where one place's were moved out
pub rest_same : (es es' : Opened) (place : ℕ) (o : ℕ × Entry) → es' ≡ slice_set es place (o.0, without_puts o.1) → put_events (entries (drop (place + 1) es')) ≡ put_events (entries (drop (place + 1) es))
rest_same es es' place o is = ap (λ (l : Opened). put_events (entries (drop (place + 1) l))) is ∙ ap (λ (l : Opened). put_events (entries l)) (drop_set es place (o.0, without_puts o.1))

-- one transaction's puts are moved
pub moved_one : (es es' : Opened) (items items' : List (ℕ × Content)) (number number' place : ℕ) (o : ℕ × Entry) → slice_get es place ≡ Some o → items' ≡ items ++ numbered number (puts_in o.1) → number' ≡ number + length (puts_in o.1) → es' ≡ slice_set es place (o.0, without_puts o.1)
    → items' ++ numbered number' (put_events (entries (drop (place + 1) es'))) ≡ items ++ numbered number (put_events (entries (drop place es)))
moved_one es es' items items' number number' place o is items_are number_is es_are =
    let here : List Content = puts_in o.1 in
    let rest : List Content = put_events (entries (drop (place + 1) es)) in
    rw (items_are, number_is, rest_same es es' place o es_are) (append_assoc items (numbered number here) (numbered (number + length here) rest) ∙ ap (λ (l : List (ℕ × Content)). items ++ l) (sym (numbered-append number here rest) ∙ ap (λ (l : List Content). numbered number l) (sym (puts_from es place o is))))

-- an item that was not taken is the next one that is left
pub without_next : (numbers : List ℕ) (items : List (ℕ × Content)) (place : ℕ) (item : ℕ × Content) → slice_get items place ≡ Some item → is_among numbers item.0 ≡ false → without numbers (drop place items) ≡ item ∷ without numbers (drop (place + 1) items)
without_next numbers items place item at not_taken = rw (drop_at items place item at, not_taken) refl

capped_small : (n most : ℕ) → n ≤ most → min (n + 0) most ≡ n
capped_small n most le = omega (arith, le)

none_behind : (es : Opened) (place : ℕ) → place ≡ length es → length (taken_numbers (entries (drop place es))) ≡ 0
none_behind [] zero is = refl
none_behind [] (suc place) is = absurd (omega (arith, is))
none_behind (x ∷ es) zero is = absurd (omega (arith, is))
none_behind (x ∷ es) (suc place) is = none_behind es place (omega (arith, is))

-- after the last transaction no more takes are counted
pub takes_ended : (es : Opened) (place count : ℕ) → place ≡ length es → count < 2 ^ 64 → capped (count + length (taken_numbers (entries (drop place es)))) ≡ count
takes_ended es place count is within = ap (λ (n : ℕ). capped (count + n)) (none_behind es place is) ∙ capped_small count (2 ^ 64 - 1) (omega (arith, within))
