-- Rolled files over a whole list of deliveries.
use Rattle.std.proofs.Common.{◌⊎◌, inl, inr, ◌≡◌, ◌∙◌, ap, sym, refl, subst, ℕ, zero, suc, List, [], ◌∷◌, ◌++◌, map, slice_get, Option, Some, None, Result, Ok, Err, Bool, true, false, append-nil, append_assoc}
use Rattle.std.specs.List.{flat_map, AllByRecursion}
use Rattle.std.proofs.lemmas.List.{map-append}
use Rattle.std.proofs.lemmas.Grind.{flat_map-append}
use Rattle.event_core.specs.Content.{Content}
use Rattle.flume_host.specs.Told.{Tells}
use Rattle.flume_host.specs.Rolled.{Rolled, RollFile}
use Rattle.roll_sink.specs.declared.sink.RollRefused.{RollRefused}
use Rattle.roll_sink.specs.declared.sink.RollRefused.TheVariants.{RollFault, NoMemory}
use Rattle.roll_sink.specs.Rolls.{RollState, Rolls, RollsBy, Delivered, Faulted, Stopped, grow, roll_text, starts_file, with_file, file_name, start_of}
use Rattle.roll_sink.specs.Runs.{Delivery, AllRoll, new_sink, if_ok, delivered, Filled, file_of, IsFrontOf, Fills}
use Rattle.roll_sink.proofs.Growing.{grow_last}

abbrev batches_of : List Filled → List (List Content)
batches_of filled = flat_map (λ (f : Filled). f.batches) filled

-- the last of these files takes the next batch
record IsOpen (filled : List Filled) : Type 0 where
  front : List Filled
  last : Filled
  is : filled ≡ front ++ last ∷ []
  open_end : last.front ≡ []

-- where the sink says that its file takes the next batch, the last one does
abbrev Fits : RollState → List Filled → Type 0
Fits s filled = (begun : ℕ) → s.begun ≡ Some begun → IsOpen filled

-- files and bytes

files_of_last : (base : List RollFile) (front : List Filled) (last : Filled) → base ++ map file_of (front ++ last ∷ []) ≡ (base ++ map file_of front) ++ file_of last ∷ []
files_of_last base front last =
    ap (λ (l : List RollFile). base ++ l) (map-append file_of front (last ∷ []))
    ∙ sym (append_assoc base (map file_of front) (file_of last ∷ []))

-- the last file grows
grows : (base : List RollFile) (front : List Filled) (last next : Filled) (bytes : List ℕ) → next.name ≡ last.name
    → flat_map roll_text next.batches ++ next.front ≡ (flat_map roll_text last.batches ++ last.front) ++ bytes
    → grow bytes (base ++ map file_of (front ++ last ∷ [])) ≡ base ++ map file_of (front ++ next ∷ [])
grows base front last next bytes name more =
    ap (λ (l : List RollFile). grow bytes l) (files_of_last base front last)
    ∙ (grow_last (base ++ map file_of front) (file_of last) bytes
    ∙ (ap (λ (f : RollFile). (base ++ map file_of front) ++ f ∷ []) same
    ∙ sym (files_of_last base front next)))
  where
    same : (let f : RollFile = record { name = last.name; bytes = (flat_map roll_text last.batches ++ last.front) ++ bytes } in f) ≡ file_of next
    same = rw (name, more) refl

-- by a whole batch
whole_bytes : (last : Filled) (batch : List Content) → last.front ≡ []
    → flat_map roll_text (last.batches ++ batch ∷ []) ++ [] ≡ (flat_map roll_text last.batches ++ last.front) ++ roll_text batch
whole_bytes last batch none =
    append-nil (flat_map roll_text (last.batches ++ batch ∷ []))
    ∙ (flat_map-append roll_text last.batches (batch ∷ [])
    ∙ (ap (λ (l : List ℕ). flat_map roll_text last.batches ++ l) (append-nil (roll_text batch))
    ∙ ap (λ (l : List ℕ). l ++ roll_text batch) (sym (ap (λ (l : List ℕ). flat_map roll_text last.batches ++ l) none ∙ append-nil (flat_map roll_text last.batches)))))

-- by a front
front_bytes : (last : Filled) (front : List ℕ) → last.front ≡ [] → flat_map roll_text last.batches ++ front ≡ (flat_map roll_text last.batches ++ last.front) ++ front
front_bytes last front none = ap (λ (l : List ℕ). l ++ front) (sym (ap (λ (l : List ℕ). flat_map roll_text last.batches ++ l) none ∙ append-nil (flat_map roll_text last.batches)))

batches_last : (front : List Filled) (last : Filled) → batches_of (front ++ last ∷ []) ≡ batches_of front ++ last.batches
batches_last front last = flat_map-append (λ (f : Filled). f.batches) front (last ∷ []) ∙ ap (λ (l : List (List Content)). batches_of front ++ l) (append-nil last.batches)

-- fronts

get_more : {A : Type 0} (xs ys : List A) (place : ℕ) (x : A) → slice_get xs place ≡ Some x → slice_get (xs ++ ys) place ≡ Some x
get_more [] ys place x is = absurd (cc)
get_more (y ∷ xs) ys zero x is = is
get_more (y ∷ xs) ys (suc place) x is = get_more xs ys place x is

get_last : {A : Type 0} (xs : List A) (x : A) → (place : ℕ) × (slice_get (xs ++ x ∷ []) place ≡ Some x)
get_last [] x = (zero, refl)
get_last (y ∷ xs) x = let rest = get_last xs x in (suc rest.0, rest.1)

front_later : (done more : List Delivery) (front : List ℕ) → IsFrontOf done front → IsFrontOf (done ++ more) front
front_later done more front (inl none) = inl none
front_later done more front (inr is) = inr (is.0, is.1, is.2, get_more done more is.0 is.1 is.3, is.4, is.5)

each_later : (done more : List Delivery) (filled : List Filled) → AllByRecursion (λ (f : Filled). IsFrontOf done f.front) filled → AllByRecursion (λ (f : Filled). IsFrontOf (done ++ more) f.front) filled
each_later done more [] all = tt
each_later done more (f ∷ filled) all = (front_later done more f.front all.0, each_later done more filled all.1)

all_and : (P : Filled → Type 0) (xs : List Filled) (x : Filled) → AllByRecursion P xs → P x → AllByRecursion P (xs ++ x ∷ [])
all_and P [] x all one = (one, tt)
all_and P (y ∷ xs) x all one = (all.0, all_and P xs x all.1 one)

all_front : (P : Filled → Type 0) (xs : List Filled) (x : Filled) → AllByRecursion P (xs ++ x ∷ []) → AllByRecursion P xs
all_front P [] x all = tt
all_front P (y ∷ xs) x all = (all.0, all_front P xs x all.1)

-- one delivery

delivered_more : (done : List Delivery) (d : Delivery) → delivered (done ++ d ∷ []) ≡ delivered done ++ delivered (d ∷ [])
delivered_more [] d = refl
delivered_more (x ∷ done) d =
    ap (λ (l : List (List Content)). if_ok x.answer x.batch ++ l) (delivered_more done d)
    ∙ sym (append_assoc (if_ok x.answer x.batch) (delivered done) (delivered (d ∷ [])))

-- what a delivery goes to: the last file, or a new one
record Opened (done : List Delivery) (base files : List RollFile) (filled : List Filled) : Type 0 where
  now : List Filled
  is_open : IsOpen now
  files_now : files ≡ base ++ map file_of now
  same : batches_of now ≡ batches_of filled
  fronts : AllByRecursion (λ (f : Filled). IsFrontOf done f.front) now

opens : (done : List Delivery) (base old : List RollFile) (filled : List Filled) (s : RollState) (moment : ℕ) (name : List ℕ) → Fills done filled base old → Fits s filled
    → Opened done base (with_file (starts_file s.interval s.begun moment) name old) filled
opens done base old filled s moment name fills fits = from s.begun refl
  where
    anew : Opened done base (with_file true name old) filled
    anew = let next : Filled = record { name = name; batches = []; front = [] } in record {
      now = filled ++ next ∷ [];
      is_open = record { front = filled; last = next; is = refl; open_end = refl };
      files_now = ap (λ (l : List RollFile). l ++ file_of next ∷ []) fills.files ∙ sym (files_of_last base filled next);
      same = batches_last filled next ∙ append-nil (batches_of filled);
      fronts = all_and (λ (f : Filled). IsFrontOf done f.front) filled next fills.fronts (inl refl);
    }

    by_age : (b : Bool) → IsOpen filled → Opened done base (with_file b name old) filled
    by_age true at = anew
    by_age false at = record { now = filled; is_open = at; files_now = fills.files; same = refl; fronts = fills.fronts }

    from : (begun : Option ℕ) → s.begun ≡ begun → Opened done base (with_file (starts_file s.interval begun moment) name old) filled
    from None is = anew
    from (Some at) is = by_age (starts_file s.interval (Some at) moment) (fits at is)

-- the files after a delivery, and the sink's word of the last one
record Goes (done : List Delivery) (base new : List RollFile) (t : RollState) : Type 0 where
  filled : List Filled
  fills : Fills done filled base new
  fits : Fits t filled

-- a sink over a folder that shows its contents leaves one that shows its contents
told_on : (starts : Bool) (s t : RollState) (batch : List Content) (moment : ℕ) (answer : Result (Unit {0}) RollRefused) (r : Rolled) (told : Option Rolled)
    → RollsBy starts s batch moment answer t (Some r) told → (u : Rolled) × (told ≡ Some u)
told_on starts s t batch moment answer r (Some u) rolls = (u, refl)
told_on starts s t batch moment (Ok tt) r None rolls = absurd rolls.1
told_on starts s t batch moment (Err RollFault) r None rolls = absurd rolls.1
told_on starts s t batch moment (Err NoMemory) r None rolls = absurd (let lost : None ≡ Some r = rolls.2 in cc)

module _ (done : List Delivery) (d : Delivery) (base : List RollFile) (s t : RollState) (filled : List Filled) (r u : Rolled) (fills : Fills done filled base r.files) (fits : Fits s filled) where
  abbrev starts : Bool
  starts = starts_file s.interval s.begun d.moment

  abbrev name : List ℕ
  name = file_name (start_of s.start d.moment) s.next

  abbrev every : List Delivery
  every = done ++ d ∷ []

  -- where it goes, and the batches that are there
  o : Opened done base (with_file starts name r.files) filled
  o = opens done base r.files filled s d.moment name fills fits

  were : batches_of o.is_open.front ++ o.is_open.last.batches ≡ delivered done
  were = sym (batches_last o.is_open.front o.is_open.last) ∙ (ap batches_of (sym o.is_open.is) ∙ (o.same ∙ fills.batches))

  none_more : delivered (d ∷ []) ≡ [] → delivered every ≡ delivered done
  none_more none = delivered_more done d ∙ (ap (λ (l : List (List Content)). delivered done ++ l) none ∙ append-nil (delivered done))

  fronts_were : AllByRecursion (λ (f : Filled). IsFrontOf every f.front) o.is_open.front
  fronts_were = all_front (λ (f : Filled). IsFrontOf every f.front) o.is_open.front o.is_open.last
      (subst (λ (l : List Filled). AllByRecursion (λ (f : Filled). IsFrontOf every f.front) l) o.is_open.is (each_later done (d ∷ []) o.now o.fronts))

  -- the last file becomes this one
  filled_to : (next : Filled) (bytes : List ℕ) → next.name ≡ o.is_open.last.name
      → flat_map roll_text next.batches ++ next.front ≡ (flat_map roll_text o.is_open.last.batches ++ o.is_open.last.front) ++ bytes
      → u.files ≡ grow bytes (with_file starts name r.files) → batches_of o.is_open.front ++ next.batches ≡ delivered every → IsFrontOf every next.front
      → Fills every (o.is_open.front ++ next ∷ []) base u.files
  filled_to next bytes same more files batches front = record {
    files = files ∙ (ap (λ (l : List RollFile). grow bytes l) (o.files_now ∙ ap (λ (l : List Filled). base ++ map file_of l) o.is_open.is)
        ∙ grows base o.is_open.front o.is_open.last next bytes same more);
    batches = batches_last o.is_open.front next ∙ batches;
    fronts = all_and (λ (f : Filled). IsFrontOf every f.front) o.is_open.front next fronts_were front;
  }

  -- nothing was done to the files
  left_alone : delivered (d ∷ []) ≡ [] → u.files ≡ r.files → Fills every filled base u.files
  left_alone none same = record {
    files = same ∙ fills.files;
    batches = fills.batches ∙ sym (none_more none);
    fronts = each_later done (d ∷ []) filled fills.fronts;
  }

  whole : d.answer ≡ Ok tt → Delivered starts name (roll_text d.batch) r u → Goes every base u.files t
  whole is delivers =
      let next : Filled = record { name = o.is_open.last.name; batches = o.is_open.last.batches ++ d.batch ∷ []; front = [] } in
      let one : delivered (d ∷ []) ≡ d.batch ∷ [] = ap (λ (x : Result (Unit {0}) RollRefused). if_ok x d.batch ++ []) is in
      record {
        filled = o.is_open.front ++ next ∷ [];
        fills = filled_to next (roll_text d.batch) refl (whole_bytes o.is_open.last d.batch o.is_open.open_end) delivers.files
            (sym (append_assoc (batches_of o.is_open.front) o.is_open.last.batches (d.batch ∷ []))
            ∙ (ap (λ (l : List (List Content)). l ++ d.batch ∷ []) were
            ∙ (ap (λ (l : List (List Content)). delivered done ++ l) (sym one) ∙ sym (delivered_more done d)))) (inl refl);
        fits = λ begun has. record { front = o.is_open.front; last = next; is = refl; open_end = refl };
      }

  refused : d.answer ≡ Err RollFault → t.begun ≡ None → Faulted starts name (roll_text d.batch) r u → Goes every base u.files t
  refused is closed faulted = from faulted.fault
    where
      none : delivered (d ∷ []) ≡ []
      none = ap (λ (x : Result (Unit {0}) RollRefused). if_ok x d.batch ++ []) is

      shut : (now : List Filled) → Fits t now
      shut now begun has = absurd (let lost : None ≡ Some begun = sym closed ∙ has in cc)

      from : ((starts ≡ true) × (u.files ≡ r.files)) ⊎ Stopped (roll_text d.batch) (record r { files = with_file starts name r.files }) u → Goes every base u.files t
      from (inl early) = record { filled = filled; fills = left_alone none early.1; fits = shut filled }
      from (inr stopped) =
          let next : Filled = record { name = o.is_open.last.name; batches = o.is_open.last.batches; front = stopped.front } in
          let place = get_last done d in
          record {
            filled = o.is_open.front ++ next ∷ [];
            fills = filled_to next stopped.front refl (front_bytes o.is_open.last stopped.front o.is_open.open_end) stopped.files
                (were ∙ sym (none_more none)) (inr (place.0, d, stopped.rest, place.1, is, stopped.split));
            fits = shut (o.is_open.front ++ next ∷ []);
          }

  -- one delivery more
  goes : Rolls s d.batch d.moment d.answer t (Some r) (Some u) → Goes every base u.files t
  goes rolls = from d.answer refl rolls
    where
      from : (x : Result (Unit {0}) RollRefused) → d.answer ≡ x → RollsBy starts s d.batch d.moment x t (Some r) (Some u) → Goes every base u.files t
      from (Ok tt) is rolls = whole is rolls.1
      from (Err RollFault) is rolls = refused is (ap (λ (x : RollState). x.begun) rolls.0) rolls.1
      from (Err NoMemory) is rolls =
          let same : u ≡ r = (let it : Some u ≡ Some r = rolls.2 in cc) in
          let none : delivered (d ∷ []) ≡ [] = ap (λ (x : Result (Unit {0}) RollRefused). if_ok x d.batch ++ []) is in
          record { filled = filled; fills = left_alone none (ap (λ (x : Rolled). x.files) same); fits = subst (λ (x : RollState). Fits x filled) (sym rolls.1) fits }

-- a list of deliveries more
runs : (past done : List Delivery) (base : List RollFile) (s t : RollState) (filled : List Filled) (r : Rolled) (new : Option Rolled) → Fills past filled base r.files → Fits s filled
    → AllRoll done s t (Some r) new → (u : Rolled) × (new ≡ Some u) × (now : List Filled) × Fills (past ++ done) now base u.files
runs past [] base s t filled r new fills fits all = (r, all.1, filled, subst (λ (l : List Delivery). Fills l filled base r.files) (sym (append-nil past)) fills)
runs past (d ∷ done) base s t filled r new fills fits all =
    let on = told_on (starts_file s.interval s.begun d.moment) s all.0 d.batch d.moment d.answer r all.1 all.2 in
    let g = goes past d base s all.0 filled r on.0 fills fits (subst (λ (x : Option Rolled). Rolls s d.batch d.moment d.answer all.0 (Some r) x) on.1 all.2) in
    let rest = runs (past ++ d ∷ []) done base all.0 t g.filled on.0 new g.fills g.fits (subst (λ (x : Option Rolled). AllRoll done all.0 t x new) on.1 all.3) in
    (rest.0, rest.1, rest.2, subst (λ (l : List Delivery). Fills l rest.2 base rest.0.files) (append_assoc past (d ∷ []) done) rest.3)

silent : (s t : RollState) (done : List Delivery) (new : Option Rolled) → AllRoll done s t None new → new ≡ None
silent s t [] new all = all.1
silent s t (d ∷ done) new all = silent all.0 t done new (subst (λ (x : Option Rolled). AllRoll done all.0 t x new) (from d.answer all.1 all.2) all.3)
  where
    from : (x : Result (Unit {0}) RollRefused) (told : Option Rolled) → RollsBy (starts_file s.interval s.begun d.moment) s d.batch d.moment x all.0 None told → told ≡ None
    from x None rolls = refl
    from (Ok tt) (Some u) rolls = absurd rolls.1
    from (Err RollFault) (Some u) rolls = absurd rolls.1
    from (Err NoMemory) (Some u) rolls = absurd (let lost : Some u ≡ None = rolls.2 in cc)

-- The files that a new sink leaves.
pub runs_fill : (interval : ℕ) (done : List Delivery) (t : RollState) (old new : Option Rolled) → AllRoll done (new_sink interval) t old new
    → Tells old new (λ r s. (filled : List Filled) × Fills done filled r.files s.files)
runs_fill interval done t None new all = subst (λ (x : Option Rolled). Tells None x (λ (r s : Rolled). (filled : List Filled) × Fills done filled r.files s.files)) (sym (silent (new_sink interval) t done new all)) tt
runs_fill interval done t (Some r) new all =
    let first : Fills [] [] r.files r.files = record { files = sym (append-nil r.files); batches = refl; fronts = tt } in
    let last = runs [] done r.files (new_sink interval) t [] r new first (λ begun has. absurd (let lost : None ≡ Some begun = has in cc)) all in
    subst (λ (x : Option Rolled). Tells (Some r) x (λ (r s : Rolled). (filled : List Filled) × Fills done filled r.files s.files)) (sym last.1) (last.2, last.3)
