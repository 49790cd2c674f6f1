-- Puts that go from one file to another.
use Rattle.std.proofs.Common.{inl, inr, ◌≡◌, ◌<◌, ◌≤◌, ◌+◌, ◌++◌, ◌∷◌, [], ℕ, zero, suc, List, length, take, drop, map, get_or, set, Option, Some, None, refl, sym, ◌∙◌, ap, subst, arith}
use Rattle.std.specs.Prelude.{MatchOption, option_map}
use Rattle.std.specs.List.{AllByRecursion}
use Rattle.std.proofs.lemmas.List.{take_more, take_more_set, map-append, get_or-drop, drop-set-lt}
use Rattle.std.proofs.lemmas.Grind.{drop_more_same}
use Rattle.event_core.specs.Content.{Content}
use Rattle.event_core.specs.declared.journal.Entry.{Entry}
use Rattle.event_core.specs.declared.journal.Entry.TheVariants as entry
use Rattle.record_form.specs.declared.record.Pointer.{Pointer}
use Rattle.open_table.specs.Tables.{IsOf, Listed, MayAdd, MayMove, Open, Puts, Table, Takes, listed_of, moved, moved_open, moved_pointer, open_at, puts_of, size}
use Rattle.open_table.specs.declared.table.Item.{Item}
use Rattle.open_table.specs.declared.table.Item.TheVariants.{Put, Take}
use Rattle.open_table.specs.declared.table.Ended.{Ended}
use Rattle.channel_face.specs.Machine.{State, entry_of}
use Rattle.channel_places.specs.Ends.{one_if_staged}
use Rattle.channel_places.specs.Looks.{IsWithinRoom, Known, LookPuts, LookStaged, Looks, LooksListed, LooksOpen, Moves, Places, StandsIn, puts_in}

-- staged transactions, one after another

-- lists that are the same from a place on have the same there
pub same_here : (xs ys : List Ended) (i : ℕ) (d : Ended) → drop i xs ≡ drop i ys → get_or xs i d ≡ get_or ys i d
same_here xs ys i d same =
    let at : i + 0 ≡ i = omega arith in
    sym (ap (λ (k : ℕ). get_or xs k d) at) ∙ (sym (get_or-drop i xs 0 d) ∙ (ap (λ (l : List Ended). get_or l 0 d) same ∙ (get_or-drop i ys 0 d ∙ ap (λ (k : ℕ). get_or ys k d) at)))

-- one staged transaction more is moved in front
pub front_more : (f : Listed → Listed) (xs ys : List Ended) (i : ℕ) (d y : Ended) → i < length xs → i < length ys → map listed_of (take i xs) ≡ map f (map listed_of (take i ys)) → drop i xs ≡ drop i ys → listed_of y ≡ f (listed_of (get_or xs i d))
    → map listed_of (take (i + 1) (set xs i y)) ≡ map f (map listed_of (take (i + 1) ys))
front_more f xs ys i d y below other front rest is =
    let last : listed_of y ≡ f (listed_of (get_or ys i d)) = is ∙ ap (λ (e : Ended). f (listed_of e)) (same_here xs ys i d rest) in
    ap (λ (l : List Ended). map listed_of l) (take_more_set xs i y below)
    ∙ (map-append listed_of (take i xs) (y ∷ [])
    ∙ (ap (λ (l : List Listed). l ++ listed_of y ∷ []) front
    ∙ (ap (λ (l : Listed). map f (map listed_of (take i ys)) ++ l ∷ []) last
    ∙ (sym (map-append f (map listed_of (take i ys)) (listed_of (get_or ys i d) ∷ []))
    ∙ (ap (λ (l : List Listed). map f l) (sym (map-append listed_of (take i ys) (get_or ys i d ∷ [])))
    ∙ sym (ap (λ (l : List Ended). map f (map listed_of l)) (take_more ys i d other)))))))

-- what is behind the one that was moved stays the same
pub rest_more : (xs ys : List Ended) (i : ℕ) (y : Ended) → drop i xs ≡ drop i ys → drop (i + 1) (set xs i y) ≡ drop (i + 1) ys
rest_more xs ys i y rest = drop-set-lt (i + 1) xs i y (omega arith) ∙ drop_more_same xs ys i rest

-- what holds of all staged transactions holds of the one at this place
pub all_here : (P : Listed → Type 0) (ys : List Ended) (i : ℕ) (d : Ended) → AllByRecursion P (map listed_of ys) → i < length ys → P (listed_of (get_or ys i d))
all_here P [] i d all less = absurd (omega (arith, less))
all_here P (y ∷ ys) zero d all less = all.0
all_here P (y ∷ ys) (suc i) d all less = all_here P ys i d all.1 (omega (arith, less))

-- what looks like a state still does

puts_moved : (known more : Known) (f : Pointer → Pointer) (pointers : List Pointer) (events : List Content) → ((p : Pointer) (event : Content) → StandsIn known p event → StandsIn more (f p) event) → LookPuts known pointers events → LookPuts more (map f pointers) events
puts_moved known more f [] [] moves look = tt
puts_moved known more f [] (e ∷ events) moves look = absurd look
puts_moved known more f (p ∷ pointers) [] moves look = absurd look
puts_moved known more f (p ∷ pointers) (e ∷ events) moves look = (moves p e look.0, puts_moved known more f pointers events moves look.1)

listed_moved : (known more : Known) (file at to_file to_at : ℕ) (l : Listed) (e : Entry) → Moves file at to_file to_at known more → LooksListed known l e → LooksListed more (moved file at to_file to_at l) e
listed_moved known more file at to_file to_at (Puts pointers) (entry.Puts events) moves look = puts_moved known more (moved_pointer file at to_file to_at) pointers events moves look
listed_moved known more file at to_file to_at (Puts pointers) (entry.Takes numbers) moves look = absurd look
listed_moved known more file at to_file to_at (Takes numbers) (entry.Puts events) moves look = absurd look
listed_moved known more file at to_file to_at (Takes numbers) (entry.Takes taken) moves look = look

open_moved : (known more : Known) (file at to_file to_at room : ℕ) (o : Option Open) (e : Option Entry) → Moves file at to_file to_at known more → LooksOpen known room o e → LooksOpen more room (option_map (moved_open file at to_file to_at) o) e
open_moved known more file at to_file to_at room None None moves look = tt
open_moved known more file at to_file to_at room None (Some e) moves look = absurd look
open_moved known more file at to_file to_at room (Some o) None moves look = absurd look
open_moved known more file at to_file to_at room (Some o) (Some e) moves look = (listed_moved known more file at to_file to_at o.listed e moves look.0, look.1)

staged_moved : (known more : Known) (file at to_file to_at : ℕ) (listed : List Listed) (staged : List Entry) → Moves file at to_file to_at known more → LookStaged known listed staged → LookStaged more (map (moved file at to_file to_at) listed) staged
staged_moved known more file at to_file to_at [] [] moves look = tt
staged_moved known more file at to_file to_at [] (e ∷ staged) moves look = absurd look
staged_moved known more file at to_file to_at (l ∷ listed) [] moves look = absurd look
staged_moved known more file at to_file to_at (l ∷ listed) (e ∷ staged) moves look =
    (listed_moved known more file at to_file to_at l e moves look.0, staged_moved known more file at to_file to_at listed staged moves look.1)

-- places whose pointers are moved look like the same state
pub moved_looks : (settled known more : Known) (file at to_file to_at : ℕ) (p : Places) (s : State) (t : Table) (staged : List Listed) → Looks settled known p s → Moves file at to_file to_at known more
    → ((n : ℕ) → open_at t n ≡ option_map (moved_open file at to_file to_at) (open_at p.opened n)) → length t ≡ length p.opened → staged ≡ map (moved file at to_file to_at) p.staged → Looks settled more (record p { opened = t; staged = staged }) s
moved_looks settled known more file at to_file to_at p s t staged looks moves opened many staged_is = record {
  sound = looks.sound;
  left = looks.left;
  opened = λ n. subst (λ (o : Option Open). LooksOpen more s.rules.limits.txn_capacity o (entry_of n s.opened)) (sym (opened n)) (open_moved known more file at to_file to_at s.rules.limits.txn_capacity (open_at p.opened n) (entry_of n s.opened) moves (looks.opened n));
  as_many = many ∙ looks.as_many;
  open_puts = looks.open_puts;
  staged = subst (λ (l : List Listed). LookStaged more l s.staged) (sym staged_is) (staged_moved known more file at to_file to_at p.staged s.staged moves looks.staged);
  numbers = looks.numbers;
}

-- each may be moved to where no offset grows

listed_may : (file at to_at : ℕ) (l : Listed) → to_at ≤ at → MayMove file at to_at l
listed_may file at to_at (Puts pointers) low = λ k d less. inl low
listed_may file at to_at (Takes numbers) low = tt

-- an open transaction may be moved where no offset grows
pub open_may : (file at to_at : ℕ) (o : Option Open) → to_at ≤ at → MatchOption o (Unit {0}) (λ o. MayMove file at to_at o.listed)
open_may file at to_at None low = tt
open_may file at to_at (Some o) low = listed_may file at to_at o.listed low

-- all staged transactions may be moved where no offset grows
pub staged_may : (file at to_at : ℕ) (listed : List Listed) → to_at ≤ at → AllByRecursion (λ l. MayMove file at to_at l) listed
staged_may file at to_at [] low = tt
staged_may file at to_at (l ∷ listed) low = (listed_may file at to_at l low, staged_may file at to_at listed low)

-- what is known, where each pointer was moved
abbrev pub known_moved : ℕ → ℕ → ℕ → ℕ → Known → Known
known_moved file at to_file to_at known = map (λ (k : Pointer × Content). (moved_pointer file at to_file to_at k.0, k.1)) known

stands_moved : (f : Pointer → Pointer) (known : Known) (p : Pointer) (event : Content) → StandsIn known p event → StandsIn (map (λ (k : Pointer × Content). (f k.0, k.1)) known) (f p) event
stands_moved f [] p event stands = absurd stands
stands_moved f (k ∷ known) p event (inl here) = inl (ap (λ (k : Pointer × Content). (f k.0, k.1)) here)
stands_moved f (k ∷ known) p event (inr there) = inr (stands_moved f known p event there)

-- each event that is known stands where its pointer was moved
pub all_moved : (file at to_file to_at : ℕ) (known : Known) → Moves file at to_file to_at known (known_moved file at to_file to_at known)
all_moved file at to_file to_at known p event stands = stands_moved (moved_pointer file at to_file to_at) known p event stands

-- counts stay

map_length : (f : Pointer → Pointer) (pointers : List Pointer) → length (map f pointers) ≡ length pointers
map_length f [] = refl
map_length f (p ∷ pointers) = omega (arith, map_length f pointers)

moved_size : (file at to_file to_at : ℕ) (l : Listed) → size (moved file at to_file to_at l) ≡ size l
moved_size file at to_file to_at (Puts pointers) = map_length (moved_pointer file at to_file to_at) pointers
moved_size file at to_file to_at (Takes numbers) = refl

moved_puts : (file at to_file to_at : ℕ) (l : Listed) → length (puts_of (moved file at to_file to_at l)) ≡ length (puts_of l)
moved_puts file at to_file to_at (Puts pointers) = map_length (moved_pointer file at to_file to_at) pointers
moved_puts file at to_file to_at (Takes numbers) = refl

-- a transaction whose pointers are moved is still within its room
pub moved_within : (file at to_file to_at : ℕ) (o : Option Open) → IsWithinRoom o → IsWithinRoom (option_map (moved_open file at to_file to_at) o)
moved_within file at to_file to_at None within = tt
moved_within file at to_file to_at (Some o) within = omega (arith, within, moved_size file at to_file to_at o.listed)

-- as many puts are staged after a move
pub puts_in-moved : (file at to_file to_at : ℕ) (staged : List Listed) → puts_in (map (moved file at to_file to_at) staged) ≡ puts_in staged
puts_in-moved file at to_file to_at [] = refl
puts_in-moved file at to_file to_at (l ∷ staged) = omega (arith, moved_puts file at to_file to_at l, puts_in-moved file at to_file to_at staged)

-- whether something is staged stays the same after a move
pub one_if-moved : (file at to_file to_at : ℕ) (staged : List Listed) → one_if_staged (map (moved file at to_file to_at) staged) ≡ one_if_staged staged
one_if-moved file at to_file to_at [] = refl
one_if-moved file at to_file to_at (l ∷ staged) = refl

-- as many transactions are staged after a move
pub length-moved : (file at to_file to_at : ℕ) (staged : List Listed) → length (map (moved file at to_file to_at) staged) ≡ length staged
length-moved file at to_file to_at [] = refl
length-moved file at to_file to_at (l ∷ staged) = omega (arith, length-moved file at to_file to_at staged)

-- a transaction has room for one more as before

is_of_moved : (file at to_file to_at : ℕ) (item : Item) (l : Listed) → IsOf item l → IsOf item (moved file at to_file to_at l)
is_of_moved file at to_file to_at (Put pointer) (Puts pointers) is = tt
is_of_moved file at to_file to_at (Put pointer) (Takes numbers) is = absurd is
is_of_moved file at to_file to_at (Take number) (Puts pointers) is = absurd is
is_of_moved file at to_file to_at (Take number) (Takes numbers) is = tt

-- a move takes away none of a transaction's room
pub may_moved : (file at to_file to_at : ℕ) (item : Item) (o : Option Open) → MayAdd item o → MayAdd item (option_map (moved_open file at to_file to_at) o)
may_moved file at to_file to_at item None may = absurd may
may_moved file at to_file to_at item (Some o) may = (is_of_moved file at to_file to_at item o.listed may.0, omega (arith, may.1, moved_size file at to_file to_at o.listed))
