-- What a piece brings to the present pack.
use Rattle.std.proofs.Common.{◌≡◌, ℕ, suc, zero, ◌≤◌, List, [], ◌++◌, length, take, Some, None, Ok, Err, sym, ap, subst, arith, append-nil}
use Rattle.avro_frame.specs.declared.packs.Message.{Message}
use Rattle.avro_frame.specs.declared.packs.PackRefused.TheVariants as refused
use Rattle.avro_frame.specs.Pack.{IsPack, IsPart, PassesCount, PassesSize, NoPackInPart}
use Rattle.avro_frame.specs.Feed.{Packing, Holds, Failed, Feeds}
use Rattle.avro_ends.specs.Sessions.{IsOpen, held_in}

-- the pack goes on
pub record FeedsOn (p p' : Packing) (piece : List ℕ) (n : ℕ) : Type 0 where
  pub len : n ≡ length piece
  pub opened : IsOpen p'
  pub held : held_in p ++ piece ≡ held_in p'

-- a piece that ends no pack is held whole
pub feeds_on : (p p' : Packing) (piece : List ℕ) (n : ℕ) → IsOpen p → Feeds p piece (Ok (n, None)) p' → FeedsOn p p' piece n
feeds_on (Holds old) p' piece n is (len, part, now) = record { len = len; opened = subst IsOpen (sym now) part; held = sym (ap held_in now) }
feeds_on (Failed e) p' piece n is feeds = absurd is

-- the pack ends
pub record FeedsAll (p p' : Packing) (piece : List ℕ) (n : ℕ) (m : Message) : Type 0 where
  pub some : 1 ≤ n
  pub within : n ≤ length piece
  pub pack : IsPack (held_in p ++ take n piece) m.serial m.payload.items
  pub opened : IsOpen p'
  pub held : held_in p' ≡ []

some_bytes : (old piece : List ℕ) (n serial : ℕ) (payload : List ℕ) → IsPart old → NoPackInPart → IsPack (old ++ take n piece) serial payload → 1 ≤ n
some_bytes old piece zero serial payload part none pack = absurd (none (old ++ take 0 piece) [] serial payload pack (rw (append-nil, append-nil) part))
some_bytes old piece (suc n) serial payload part none pack = omega arith

-- a piece that ends a pack gives its message, and nothing is held
pub feeds_all : (p p' : Packing) (piece : List ℕ) (n : ℕ) (m : Message) → NoPackInPart → IsPart [] → IsOpen p → Feeds p piece (Ok (n, Some m)) p' → FeedsAll p p' piece n m
feeds_all (Holds old) p' piece n m none first is (len, pack, now) = record { some = some_bytes old piece n m.serial m.payload.items is none pack; within = len; pack = pack; opened = subst IsOpen (sym now) first; held = ap held_in now }
feeds_all (Failed e) p' piece n m none first is feeds = absurd is

-- a limit is passed
pub passes_count : (p p' : Packing) (piece : List ℕ) (n : ℕ) → IsOpen p → Feeds p piece (Err (refused.TooMany n)) p' → PassesCount (held_in p ++ piece) n
passes_count (Holds old) p' piece n is feeds = feeds.0
passes_count (Failed e) p' piece n is feeds = absurd is

-- a pack whose size passes the limit does so in all that was held and read
pub passes_size : (p p' : Packing) (piece : List ℕ) (n : ℕ) → IsOpen p → Feeds p piece (Err (refused.TooLarge n)) p' → PassesSize (held_in p ++ piece) n
passes_size (Holds old) p' piece n is feeds = feeds.0
passes_size (Failed e) p' piece n is feeds = absurd is
