-- The text of a checkpoint, transaction by transaction.
use Rattle.std.specs.Prelude.{Bool, None, Option, false, map, true}
use Rattle.std.specs.List.{AllByRecursion}
use Rattle.std.proofs.Common.{inl, inr, ◌≡◌, ◌≢◌, ◌<◌, ◌≤◌, ◌+◌, ◌-◌, ◌^◌, ◌++◌, ◌∷◌, [], ℕ, zero, suc, List, length, refl, sym, ap, subst, ◌∙◌, arith, length-append}
use Rattle.flume_host.specs.Told.{Told, WhereTold}
use Rattle.event_core.specs.Journal.{is_among}
use Rattle.event_core.specs.Numbers.{u32_bytes, u64_bytes}
use Rattle.event_ring.specs.Slots.{Index, Left}
use Rattle.open_table.specs.Tables.{Open, Puts, Table, Takes, is_open, open_at}
use Rattle.record_form.specs.declared.record.Pointer.{Pointer}
use Rattle.checkpoint.specs.declared.place.Next.{Next}
use Rattle.checkpoint.specs.Right.{AreApartFrom, AreOnceAmong, HasSome, all_of, number_of}
use Rattle.checkpoint.specs.Says.{Says, live_at, puts_at, puts_in, takes_at, takes_in}
use Rattle.checkpoint.specs.Stands.{Keeps}
use Rattle.checkpoint.specs.Text.{CheckText, Rise, pointer_bytes}
use Rattle.checkpoint_reading.specs.declared.logs.Logs.{Logs}
use Rattle.checkpoint_reading.specs.declared.draft.Draft.{Draft}
use Rattle.checkpoint_reading.specs.Draft.{HasLive, IsOf, OpenGive, live_text}
use Rattle.checkpoint_reading.specs.Fields.{Bad, End, IsPut, PutsGive, TakesGive, with_put, with_take}
use Rattle.checkpoint_reading.specs.Logs.{IsKnown, IsSized}
use Rattle.checkpoint_reading.specs.Opens.{HasPut, HasRead, HasReadPuts, HasTake, HasTaken, Lists, MayOpen, MayTake, NoEntry, TakenGive, check_of}
use Rattle.checkpoint_reading.specs.Reader.{Goes, Reader, Takes as Reads, rest}
use Rattle.checkpoint_reading.proofs.Living.{OnWay}
use Rattle.checkpoint_reading.proofs.Sound.{all_more, all_of_more, map_more, rise_more, rise_within}
use Rattle.checkpoint_reading.proofs.Tabled.{above_all, closed_none, listed_more, listed_same, open_more, open_same, rise_from}

sized_live : (live : List Left) → AllByRecursion (λ l. IsSized l.pointer) live → AllByRecursion (λ (l : ℕ × Pointer). IsSized l.1) (map live_at live)
sized_live [] all = tt
sized_live (l ∷ live) all = (all.0, sized_live live all.1)

many_live : (live : List Left) → length (map live_at live) ≡ length live
many_live [] = refl
many_live (l ∷ live) = omega (arith, many_live live)

none_open : (d : Draft) → d.table ≡ [] → (kind : Bool) (t : ℕ) → is_open kind (open_at d.table t) ≡ false
none_open d closed kind t = ap (λ (x : Table). is_open kind (open_at x t)) closed

-- before the first open transaction
pub live_read : (d : Draft) → HasLive d d.next.number → 1 ≤ d.next.txn → d.slots < 2 ^ 32 → HasReadPuts d (live_text d)
live_read d live some few = record {
  read = record {
    keeps = λ number. record {
      says = record {
        place_is = refl;
        next_is = refl;
        live = refl;
        puts = record { rise = tt; some = tt; each = λ t. sym (ap (λ (x : Table). puts_at x t) live.closed) };
        takes = record { rise = tt; some = tt; each = λ t. sym (ap (λ (x : Table). takes_at x t) live.closed) };
      };
      held = live.free;
      top = live.top;
      many = ap (λ (x : Table). length x) live.closed;
    };
    ordered = record {
      numbers = live.rise;
      next = some;
      put_txns = tt;
      take_txns = tt;
      apart = tt;
      few = omega arith;
      some_puts = tt;
      some_takes = tt;
      held = tt;
      few_live = omega (arith, few, live.within, many_live d.ring.live);
      puts_fit = (omega arith, tt);
      takes_fit = (omega arith, tt);
    };
    events = record { live = sized_live d.ring.live live.sized; puts = tt };
    puts = λ t. none_open d live.closed true t;
    takes = λ t. none_open d live.closed false t;
  };
  none = refl;
}

-- the table has something else at this transaction alone
at_others : (of : Option Open → List ℕ) (txn : ℕ) (old new : Table) → ((t : ℕ) → t ≢ txn → open_at new t ≡ open_at old t) → (t : ℕ) → t ≢ txn → of (open_at new t) ≡ of (open_at old t)
at_others of txn old new others t ne = ap of (others t ne)

few_more : (many puts takes : ℕ) → many ≡ puts + takes → many < 1024 → puts + takes < 1024
few_more many puts takes is few = omega (arith, is, few)

-- one more open put
pub put_read : (c : CheckText) (d e : Draft) (low txn : ℕ) (pointers : List Pointer) → HasReadPuts d c → Rise 1 low c.puts → 1 ≤ low → MayOpen low d.next.txn txn (length pointers) → d.next.txn < 2 ^ 64 → length d.table < 1024
    → AllByRecursion IsSized pointers → Lists txn (Puts pointers) d.table e.table → e ≡ record d { table = e.table } → HasReadPuts e (with_put c (txn, pointers))
put_read c d e low txn pointers has rise from may fits few sized lists kept = record {
  read = record {
    keeps = λ number. record {
      says = record {
        place_is = says.place_is ∙ sym place;
        next_is = says.next_is ∙ sym next;
        live = says.live ∙ ap (λ (x : Index). map live_at x.live) (sym ring);
        puts = listed_more (puts_at d.table) (puts_at e.table) c.puts txn pointers says.puts none
            (rise_within 0 (txn + 1) (2 ^ 64) (c.puts ++ (txn, pointers) ∷ []) (rise_from 0 1 (txn + 1) (c.puts ++ (txn, pointers) ∷ []) (omega arith) risen) (omega (arith, may.below, fits))) may.some
            (ap puts_in lists.here.1) (λ t ne. ap puts_in (lists.others t ne));
        takes = listed_same (takes_at d.table) (takes_at e.table) c.takes txn says.takes no_take (ap takes_in lists.here.1) (λ t ne. ap takes_in (lists.others t ne));
      };
      held = subst (λ (x : Index). AllByRecursion (λ l. l.held ≡ is_among (all_of c.takes) l.number) x.live) (sym ring) keeps.held;
      top = omega (arith, keeps.top, ap (λ (x : Index). x.top) ring, ap (λ (x : Next). x.number) next);
      many = omega (arith, lists.count, keeps.many, length-append c.puts ((txn, pointers) ∷ []));
    };
    ordered = record {
      numbers = has.read.ordered.numbers;
      next = has.read.ordered.next;
      put_txns = rise_within 1 (txn + 1) c.next.txn (c.puts ++ (txn, pointers) ∷ []) risen (omega (arith, may.below, ap (λ (x : Next). x.txn) says.next_is));
      take_txns = has.read.ordered.take_txns;
      apart = subst (λ (l : List (ℕ × List ℕ)). AreApartFrom (map number_of (c.puts ++ (txn, pointers) ∷ [])) (map number_of l)) (sym has.none) tt;
      few = omega (arith, few, keeps.many, length-append c.puts ((txn, pointers) ∷ []));
      some_puts = all_more HasSome c.puts (txn, pointers) has.read.ordered.some_puts may.some;
      some_takes = has.read.ordered.some_takes;
      held = has.read.ordered.held;
      few_live = has.read.ordered.few_live;
      puts_fit = (omega (arith, few, keeps.many, length-append c.puts ((txn, pointers) ∷ [])), all_more (λ o. length o.1 < 2 ^ 32) c.puts (txn, pointers) has.read.ordered.puts_fit.1 may.few);
      takes_fit = has.read.ordered.takes_fit;
    };
    events = record { live = has.read.events.live; puts = all_more (λ o. AllByRecursion IsSized o.1) c.puts (txn, pointers) has.read.events.puts sized };
    puts = open_more true txn (Puts pointers) d.table e.table c.puts pointers lists (λ room. refl) has.read.puts;
    takes = open_same false txn (Puts pointers) d.table e.table c.takes lists (λ room. refl) no_take has.read.takes;
  };
  none = has.none;
}
  where
    keeps : Keeps (check_of 0 d) c
    keeps = has.read.keeps 0

    says : Says d.place d.next d.ring d.table c
    says = keeps.says

    place : e.place ≡ d.place
    place = ap (λ (x : Draft). x.place) kept

    next : e.next ≡ d.next
    next = ap (λ (x : Draft). x.next) kept

    ring : e.ring ≡ d.ring
    ring = ap (λ (x : Draft). x.ring) kept

    none : is_among (map number_of c.puts) txn ≡ false
    none = above_all 1 low txn c.puts rise may.above

    no_take : is_among (map number_of c.takes) txn ≡ false
    no_take = ap (λ (l : List (ℕ × List ℕ)). is_among (map number_of l) txn) has.none

    risen : Rise 1 (txn + 1) (c.puts ++ (txn, pointers) ∷ [])
    risen = rise_more 1 low c.puts (txn, pointers) rise from may.above

-- one more open take
pub take_read : (c : CheckText) (d e : Draft) (low txn : ℕ) (numbers : List ℕ) → HasRead d c → Rise 1 low c.takes → 1 ≤ low → MayOpen low d.next.txn txn (length numbers) → d.next.txn < 2 ^ 64 → length d.table < 1024
    → is_open true (open_at d.table txn) ≡ false → Lists txn (Takes numbers) d.table e.table → HasTaken (all_of c.takes ++ numbers) e.ring.live → map live_at e.ring.live ≡ map live_at d.ring.live
    → e ≡ record d { ring = record d.ring { live = e.ring.live }; table = e.table } → HasRead e (with_take c (txn, numbers))
take_read c d e low txn numbers has rise from may fits few apart lists taken events kept = record {
  keeps = λ number. record {
    says = record {
      place_is = says.place_is ∙ sym place;
      next_is = says.next_is ∙ sym next;
      live = says.live ∙ sym events;
      puts = listed_same (puts_at d.table) (puts_at e.table) c.puts txn says.puts no_put (ap puts_in lists.here.1) (λ t ne. ap puts_in (lists.others t ne));
      takes = listed_more (takes_at d.table) (takes_at e.table) c.takes txn numbers says.takes none
          (rise_within 0 (txn + 1) (2 ^ 64) (c.takes ++ (txn, numbers) ∷ []) (rise_from 0 1 (txn + 1) (c.takes ++ (txn, numbers) ∷ []) (omega arith) risen) (omega (arith, may.below, fits))) may.some
          (ap takes_in lists.here.1) (λ t ne. ap takes_in (lists.others t ne));
    };
    held = subst (λ (l : List ℕ). AllByRecursion (λ x. x.held ≡ is_among l x.number) e.ring.live) (sym all) taken.held;
    top = omega (arith, keeps.top, ap (λ (x : Draft). x.ring.top) kept, ap (λ (x : Next). x.number) next);
    many = omega (arith, lists.count, keeps.many, length-append c.takes ((txn, numbers) ∷ []));
  };
  ordered = record {
    numbers = has.ordered.numbers;
    next = has.ordered.next;
    put_txns = has.ordered.put_txns;
    take_txns = rise_within 1 (txn + 1) c.next.txn (c.takes ++ (txn, numbers) ∷ []) risen (omega (arith, may.below, ap (λ (x : Next). x.txn) says.next_is));
    apart = subst (λ (l : List ℕ). AreApartFrom (map number_of c.puts) l) (sym (map_more c.takes (txn, numbers))) (all_more (λ n. is_among (map number_of c.puts) n ≡ false) (map number_of c.takes) txn has.ordered.apart no_put);
    few = omega (arith, few, keeps.many, length-append c.takes ((txn, numbers) ∷ []));
    some_puts = has.ordered.some_puts;
    some_takes = all_more HasSome c.takes (txn, numbers) has.ordered.some_takes may.some;
    held = subst (λ (l : List ℕ). AreOnceAmong (map number_of c.live) l) (sym all) (subst (λ (l : List (ℕ × Pointer)). AreOnceAmong (map number_of l) (all_of c.takes ++ numbers)) (events ∙ sym says.live) taken.once);
    few_live = has.ordered.few_live;
    puts_fit = has.ordered.puts_fit;
    takes_fit = (omega (arith, few, keeps.many, length-append c.takes ((txn, numbers) ∷ [])), all_more (λ o. length o.1 < 2 ^ 32) c.takes (txn, numbers) has.ordered.takes_fit.1 may.few);
  };
  events = record { live = has.events.live; puts = has.events.puts };
  puts = open_same true txn (Takes numbers) d.table e.table c.puts lists (λ room. refl) no_put has.puts;
  takes = open_more false txn (Takes numbers) d.table e.table c.takes numbers lists (λ room. refl) has.takes;
}
  where
    keeps : Keeps (check_of 0 d) c
    keeps = has.keeps 0

    says : Says d.place d.next d.ring d.table c
    says = keeps.says

    place : e.place ≡ d.place
    place = ap (λ (x : Draft). x.place) kept

    next : e.next ≡ d.next
    next = ap (λ (x : Draft). x.next) kept

    none : is_among (map number_of c.takes) txn ≡ false
    none = above_all 1 low txn c.takes rise may.above

    no_put : is_among (map number_of c.puts) txn ≡ false
    no_put = sym (has.puts txn) ∙ apart

    all : all_of (c.takes ++ (txn, numbers) ∷ []) ≡ all_of c.takes ++ numbers
    all = all_of_more c.takes (txn, numbers)

    risen : Rise 1 (txn + 1) (c.takes ++ (txn, numbers) ∷ [])
    risen = rise_more 1 low c.takes (txn, numbers) rise from may.above

-- Open puts were read up to here, of which so many are still to come.
pub record PutsLoop (was : Option Told) (start now : Reader) (first d : Draft) (low more : ℕ) : Type 0 where
  pub c : CheckText
  pub read : HasReadPuts d c
  pub from : 1 ≤ low
  pub rise : Rise 1 low c.puts
  pub of : IsOf first.place first.next d
  pub goes : Goes was start now (λ files o. OpenGive files o (live_text first)) (λ files o. PutsGive files o c low more)

-- The invariant of the loop over open puts.
pub record PutsOnWay (was told : Option Told) (faulty faults : ℕ) (start now : Reader) (known : Logs) (first d : Draft) (low more : ℕ) : Type 0 where
  pub way : OnWay was told faulty faults start now (IsKnown told known)
  pub loop : PutsLoop was start now first d low more

some_more : (n : ℕ) → 1 ≤ n → n ≡ suc (n - 1)
some_more zero less = absurd (omega (arith, less))
some_more (suc n) less = omega arith

-- after the count
pub puts_begun : (was : Option Told) (start now : Reader) (d : Draft) (count : ℕ) → HasReadPuts d (live_text d) → count < 2 ^ 32 → Reads was start now (u32_bytes count) → PutsLoop was start now d d 1 count
puts_begun was start now d count has fits reads = record {
  c = live_text d;
  read = has;
  from = omega arith;
  rise = tt;
  of = record { place_is = refl; next_is = refl };
  goes = λ t is o behind. inl (count, rest t now, reads t is, fits, behind);
}

few_of : (d : Draft) (c : CheckText) → Keeps (check_of 0 d) c → length d.table < 1024 → length c.puts + length c.takes < 1024
few_of d c keeps few = omega (arith, keeps.many, few)

-- over an open put
pub puts_over : (was later : Option Told) (start now then' : Reader) (first d e : Draft) (low more txn : ℕ) → PutsLoop was start now first d low more → later ≡ was → 1 ≤ more → HasPut later now then' low txn d e → d.next.txn < 2 ^ 64
    → PutsLoop was start then' first e (txn + 1) (more - 1)
puts_over was later start now then' first d e low more txn loop same some has fits = record {
  c = with_put c o;
  read = put_read c d e low txn has.pointers loop.read loop.rise loop.from has.may fits has.few has.sized has.lists has.rest;
  from = omega arith;
  rise = rise_more 1 low c.puts o loop.rise loop.from has.may.above;
  of = record { place_is = ap (λ (x : Draft). x.place) has.rest ∙ loop.of.place_is; next_is = ap (λ (x : Draft). x.next) has.rest ∙ loop.of.next_is };
  goes = λ t is out behind.
      loop.goes t is out (subst (λ (n : ℕ). PutsGive t.reads out c low n (rest t now)) (sym (some_more more some))
      (inl (
        o,
        rest t then',
        has.read t (same ∙ is),
        record {
          entry = record {
            above = has.may.above;
            below = subst (λ (n : Next). txn < n.txn) (sym (loop.read.read.keeps 0).says.next_is) has.may.below;
            fits = has.may.fits;
            few = few_of d c (loop.read.read.keeps 0) has.few;
            some = has.may.some;
            count = has.may.few;
          };
          puts = has.stand t (same ∙ is);
        },
        behind,
      )));
}
  where
    c : CheckText
    c = loop.c

    o : ℕ × List Pointer
    o = (txn, has.pointers)

-- where no open put that is right comes next
pub puts_stuck : (was later : Option Told) (start now : Reader) (first d : Draft) (low more : ℕ) → PutsLoop was start now first d low more → later ≡ was → 1 ≤ more
    → WhereTold later (λ t. NoEntry pointer_bytes (λ txn puts. AllByRecursion (IsPut t.reads txn) puts) low d.next.txn (length d.table) (rest t now))
    → WhereTold was (λ t. OpenGive t.reads (Bad (rest t now)) (live_text first) (rest t start))
puts_stuck was later start now first d low more loop same some none = λ t is.
    loop.goes t is (Bad (rest t now)) (subst (λ (n : ℕ). PutsGive t.reads (Bad (rest t now)) loop.c low n (rest t now)) (sym (some_more more some))
    (inr (
      λ o behind there right. none t (same ∙ is) o behind there
          (record { above = right.entry.above; below = subst (λ (n : Next). o.0 < n.txn) (loop.read.read.keeps 0).says.next_is right.entry.below; fits = right.entry.fits; some = right.entry.some; few = right.entry.count })
          (omega (arith, (loop.read.read.keeps 0).many, right.entry.few)) right.puts,
      refl,
    )))

-- where none is to come, the count of open takes is next
pub puts_ended : (was : Option Told) (start now : Reader) (first d : Draft) (low more : ℕ) → (loop : PutsLoop was start now first d low more) → more ≡ 0
    → Goes was start now (λ files o. OpenGive files o (live_text first)) (λ files o. TakenGive files o loop.c)
puts_ended was start now first d low more loop none = λ t is o behind. loop.goes t is o (subst (λ (n : ℕ). PutsGive t.reads o loop.c low n (rest t now)) (sym none) behind)

-- what is from the next number on is not open
pub puts_closed : (was : Option Told) (start now : Reader) (first d : Draft) (low more : ℕ) → PutsLoop was start now first d low more → (txn : ℕ) → low ≤ txn → open_at d.table txn ≡ None
puts_closed was start now first d low more loop txn above =
    closed_none (open_at d.table txn) (loop.read.read.puts txn ∙ above_all 1 low txn loop.c.puts loop.rise above) (loop.read.read.takes txn ∙ ap (λ (l : List (ℕ × List ℕ)). is_among (map number_of l) txn) loop.read.none)

-- Open takes were read up to here after a text, of which so many are still to come.
pub record TakesOf (was : Option Told) (start now : Reader) (before : CheckText) (d : Draft) (low more : ℕ) : Type 0 where
  pub c : CheckText
  pub read : HasRead d c
  pub rise : Rise 1 low c.takes
  pub goes : Goes was start now (λ files o. TakenGive files o before) (λ files o. TakesGive o c low more)

-- after whatever text it was
pub record TakesLoop (was : Option Told) (start now : Reader) (first d : Draft) (low more : ℕ) : Type 0 where
  pub each : (before : CheckText) → HasReadPuts first before → TakesOf was start now before d low more
  pub from : 1 ≤ low
  pub of : IsOf first.place first.next d

-- The state of a reader on its way over the open takes, and the invariant of the loop.
pub record TakesOnWay (was told : Option Told) (faulty faults : ℕ) (start now : Reader) (first d : Draft) (low more : ℕ) : Type 0 where
  pub way : OnWay was told faulty faults start now (Unit {0})
  pub loop : TakesLoop was start now first d low more

-- after the count
pub takes_begun : (was : Option Told) (start now : Reader) (d : Draft) (count : ℕ) → count < 2 ^ 32 → Reads was start now (u32_bytes count) → TakesLoop was start now d d 1 count
takes_begun was start now d count fits reads = record {
  each = λ before has. record {
    c = before;
    read = has.read;
    rise = subst (λ (l : List (ℕ × List ℕ)). Rise 1 1 l) (sym has.none) tt;
    goes = λ t is o behind. inl (count, rest t now, reads t is, fits, behind);
  };
  from = omega arith;
  of = record { place_is = refl; next_is = refl };
}

-- the events that open takes take
taken_of : (d : Draft) (c : CheckText) → HasRead d c → HasTaken (all_of c.takes) d.ring.live
taken_of d c has = record { held = (has.keeps 0).held; once = subst (λ (l : List (ℕ × Pointer)). AreOnceAmong (map number_of l) (all_of c.takes)) (has.keeps 0).says.live has.ordered.held }

-- over an open take
pub takes_over : (was later : Option Told) (start now then' : Reader) (first d e : Draft) (low more txn : ℕ) → TakesLoop was start now first d low more → later ≡ was → 1 ≤ more → HasTake later now then' low txn d e → d.next.txn < 2 ^ 64
    → TakesLoop was start then' first e (txn + 1) (more - 1)
takes_over was later start now then' first d e low more txn loop same some has fits = record {
  each = λ before puts. over before (loop.each before puts);
  from = omega arith;
  of = record { place_is = ap (λ (x : Draft). x.place) has.rest ∙ loop.of.place_is; next_is = ap (λ (x : Draft). x.next) has.rest ∙ loop.of.next_is };
}
  where
    o : ℕ × List ℕ
    o = (txn, has.numbers)

    over : (before : CheckText) → TakesOf was start now before d low more → TakesOf was start then' before e (txn + 1) (more - 1)
    over before of =
        let taken = has.taken (all_of of.c.takes) (taken_of d of.c of.read) in
        record {
          c = with_take of.c o;
          read = take_read of.c d e low txn has.numbers of.read of.rise loop.from has.may fits has.few has.apart has.lists taken has.events has.rest;
          rise = rise_more 1 low of.c.takes o of.rise loop.from has.may.above;
          goes = λ t is out behind.
              of.goes t is out (subst (λ (n : ℕ). TakesGive out of.c low n (rest t now)) (sym (some_more more some))
              (inl (
                o,
                rest t then',
                has.read t (same ∙ is),
                record {
                  entry = record {
                    above = has.may.above;
                    below = subst (λ (n : Next). txn < n.txn) (sym (of.read.keeps 0).says.next_is) has.may.below;
                    fits = has.may.fits;
                    few = few_of d of.c (of.read.keeps 0) has.few;
                    some = has.may.some;
                    count = has.may.few;
                  };
                  apart = sym (of.read.puts txn) ∙ has.apart;
                  numbers = has.fits;
                  held = subst (λ (l : List (ℕ × Pointer)). AreOnceAmong (map number_of l) (all_of of.c.takes ++ has.numbers)) (has.events ∙ sym (of.read.keeps 0).says.live) taken.once;
                },
                behind,
              )));
        }

-- where no open take that is right comes next
pub takes_stuck : (was later : Option Told) (start now : Reader) (first d : Draft) (low more : ℕ) → TakesLoop was start now first d low more → later ≡ was → 1 ≤ more
    → WhereTold later (λ t. (taken : List ℕ) → HasTaken taken d.ring.live → NoEntry u64_bytes (λ txn numbers. (is_open true (open_at d.table txn) ≡ false) × MayTake d.ring.live taken numbers) low d.next.txn (length d.table) (rest t now))
    → (before : CheckText) → HasReadPuts first before → WhereTold was (λ t. TakenGive t.reads (Bad (rest t now)) before (rest t start))
takes_stuck was later start now first d low more loop same some none before puts = λ t is.
    of.goes t is (Bad (rest t now)) (subst (λ (n : ℕ). TakesGive (Bad (rest t now)) of.c low n (rest t now)) (sym (some_more more some))
    (inr (
      λ o behind there right. none t (same ∙ is) (all_of of.c.takes) (taken_of d of.c of.read) o behind there
          (record { above = right.entry.above; below = subst (λ (n : Next). o.0 < n.txn) (of.read.keeps 0).says.next_is right.entry.below; fits = right.entry.fits; some = right.entry.some; few = right.entry.count })
          (omega (arith, (of.read.keeps 0).many, right.entry.few))
          (of.read.puts o.0 ∙ right.apart, (right.numbers, subst (λ (l : List (ℕ × Pointer)). AreOnceAmong (map number_of l) (all_of of.c.takes ++ o.1)) (of.read.keeps 0).says.live right.held)),
      refl,
    )))
  where
    of : TakesOf was start now before d low more
    of = loop.each before puts

-- where none is to come, the end is next
pub takes_ended : (was : Option Told) (start now : Reader) (first d : Draft) (low more : ℕ) → TakesLoop was start now first d low more → more ≡ 0 → (before : CheckText) → HasReadPuts first before
    → (c : CheckText) × HasRead d c × Goes was start now (λ files o. TakenGive files o before) (λ files o. End c o)
takes_ended was start now first d low more loop none before puts =
    let of = loop.each before puts in
    (of.c, of.read, λ t is o behind. of.goes t is o (subst (λ (n : ℕ). TakesGive o of.c low n (rest t now)) (sym none) behind))

-- what is from the next number on and is no open put is not open
pub takes_closed : (was : Option Told) (start now : Reader) (first d : Draft) (low more : ℕ) → TakesLoop was start now first d low more → (before : CheckText) → HasReadPuts first before → (txn : ℕ) → low ≤ txn
    → is_open true (open_at d.table txn) ≡ false → open_at d.table txn ≡ None
takes_closed was start now first d low more loop before puts txn above apart =
    let of = loop.each before puts in
    closed_none (open_at d.table txn) apart (of.read.takes txn ∙ above_all 1 low txn of.c.takes of.rise above)
