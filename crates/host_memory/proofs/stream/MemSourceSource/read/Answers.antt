use Rattle.std.proofs.Common.{◌≡◌, ℕ, ◌+◌, ◌-◌, ◌≤◌, Bool, true, false, List, ◌++◌, length, take, drop, arith, length-take, length-drop, length-append, refl}
use Rattle.std.specs.Io.KnownBytes.{Consumes, IsAtEnd}
use Rattle.std.proofs.lemmas.List.{take_at, drop-drop, drop_all, take-append-drop}
use Rattle.host_memory.specs.Stream.{left_of}
use Rattle.host_memory.proofs.stream.MemSourceSource.read.Goals as goal

given : (tells : Bool) (xs : List ℕ) (at n : ℕ) (copied rest : List ℕ) → copied ≡ take n (drop at xs) → length copied ≡ n → Consumes (left_of tells xs at) (left_of tells xs (at + n)) (take n (copied ++ rest))
given false xs at n copied rest e len = tt
given true xs at n copied rest e len = rw (take_at copied rest n len, e, ← drop-drop n at xs, take-append-drop n (drop at xs)) refl

none_left : (tells : Bool) (xs : List ℕ) (at : ℕ) → length xs ≤ at → IsAtEnd (left_of tells xs at)
none_left false xs at h = tt
none_left true xs at h = drop_all at xs h

pub returns-clause-bytes : goal.returns-clause-bytes
returns-clause-bytes c =
    let n : ℕ = c.min-n.result in
    let at : ℕ = c.args.self.now.at in
    let items : List ℕ = c.args.self.now.bytes.items in
    let k : at + n - at ≡ n = omega arith in
    let e : c.copy_from_slice.new.self ≡ take n (drop at items) = rw (c.deref-2.ensures.value, k) at c.copy_from_slice.ensures.after in
    let room : n ≤ length c.args.into.now = omega (arith, c.min-n.ensures, c.min.ensures) in
    let len : length c.copy_from_slice.new.self ≡ n = omega (arith, c.copy_from_slice.ensures.len, length-take n c.args.into.now, room) in (
      given c.args.self.now.tells items at n c.copy_from_slice.new.self (drop n c.args.into.now) e len,
      λ zero more. none_left c.args.self.now.tells items (at + n) (omega (arith, zero, more, len, room, length-append c.copy_from_slice.new.self (drop n c.args.into.now), length-drop n c.args.into.now, c.min-n.ensures, c.min.ensures, c.len.ensures, c.piece_at-most.ensures.some, c.args.self.now.bytes.ok.0)),
    )
