-- What the table has of a transaction.
use Rattle.std.proofs.Common.{◌≡◌, ◌<◌, ◌+◌, ◌*◌, ℕ, length, Option, Some, None, Bool, true, false, not, nat_lt, cond, refl, sym, ◌∙◌, arith}
use Rattle.std.specs.Option.{option_map}
use Rattle.std.proofs.lemmas.Bool.{ltb-true}
use Rattle.open_table.specs.Tables.{HasAt, Open, Table, is_open, is_puts, open_at, size, wider}
use Rattle.ring_replay.specs.Indexing.{IsOpened}

kind_of : (puts : Bool) (o : Open) → is_open puts (Some o) ≡ true → is_puts o.listed ≡ puts
kind_of true o is = is
kind_of false o is = by_list (is_puts o.listed) is
  where
    by_list : (b : Bool) → not b ≡ true → b ≡ false
    by_list true is' = absurd (cc)
    by_list false is' = refl

wider_listed : (o : Open) → (wider o).listed ≡ o.listed
wider_listed o = by_test (nat_lt (size o.listed) o.room)
  where
    by_test : (b : Bool) → (cond b o (record o { room = 2 * size o.listed + 1 })).listed ≡ o.listed
    by_test true = refl
    by_test false = refl

wider_room : (o : Open) → size (wider o).listed < (wider o).room
wider_room o = by_test (nat_lt (size o.listed) o.room) refl
  where
    by_test : (b : Bool) → nat_lt (size o.listed) o.room ≡ b → size (cond b o (record o { room = 2 * size o.listed + 1 })).listed < (cond b o (record o { room = 2 * size o.listed + 1 })).room
    by_test true is = ltb-true (size o.listed) o.room is
    by_test false is = omega arith

-- a transaction that is open is given room for one more
pub opens_wider : (puts : Bool) (txn : ℕ) (old new : Table) → is_open puts (open_at old txn) ≡ true → HasAt txn (option_map wider (open_at old txn)) old new → length new ≡ length old → IsOpened puts txn old new
opens_wider puts txn old new is_one has count = from (open_at old txn) refl is_one has
  where
    closed : (puts : Bool) → is_open puts None ≡ false
    closed true = refl
    closed false = refl

    from : (o : Option Open) → open_at old txn ≡ o → is_open puts o ≡ true → HasAt txn (option_map wider o) old new → IsOpened puts txn old new
    from None is open' has' = absurd (let e : false ≡ true = sym (closed puts) ∙ open' in cc)
    from (Some o) is open' has' = record {
      kind = rw is (kind_of puts o open');
      may = λ none. absurd (let e : Some o ≡ None = sym is ∙ none in cc);
      opened = wider o;
      listed = rw is (wider_listed o);
      room = wider_room o;
      here = has';
      count = rw is (omega (arith, count));
    }
