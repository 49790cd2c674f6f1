-- What a window keeps.
use Rattle.std.proofs.Common.{inl, inr, ◌⊎◌, ◌≡◌, ◌≤◌, ◌<◌, ◌+◌, ◌-◌, ◌++◌, min, ℕ, List, [], ◌∷◌, length, take, drop, sym, ap, subst, ◌∙◌, arith}
use Rattle.std.proofs.lemmas.Bool.{cases_lt}
use Rattle.std.proofs.lemmas.List.{append_assoc, take-append-drop, drop-append-le, drop-drop, drop-take, drop_all, length-drop, length-take, take-append-le, take_all, take_min}
use Rattle.record_form.proofs.Pointed.{take_take}
use Rattle.channel_log.specs.PointerLaws.{PieceGrows}
use Rattle.channel_log.specs.Window.{Covers, HasThere, IsPieceOf, Kept}

-- a front of a list is as much of it as it is long
own_length : (n : ℕ) (xs : List ℕ) → take n xs ≡ take (length (take n xs)) xs
own_length n xs = sym (take_min n xs) ∙ ap (λ (k : ℕ). take k xs) (sym (length-take n xs))

-- what was read over the front of a block
pub front_read : (block into found : List ℕ) (size n have : ℕ) → size ≤ length block → n ≡ min (length (take size block)) have → into ≡ take n found ++ drop n (take size block)
    → (n ≡ min size have) × (into ++ drop size block ≡ take n found ++ drop n block)
front_read block into found size n have room is read =
    let long : length (take size block) ≡ size = omega (arith, room, length-take size block) in
    let short : n ≤ length (take size block) = omega (arith, is) in (
      omega (arith, is, long),
      ap (λ (l : List ℕ). l ++ drop size block) read
          ∙ (append_assoc (take n found) (drop n (take size block)) (drop size block)
          ∙ ap (λ (l : List ℕ). take n found ++ l) (sym (drop-append-le n (take size block) (drop size block) short) ∙ ap (λ (l : List ℕ). drop n l) (take-append-drop size block))),
    )

-- what was read, cut at the end
pub loads : (size : ℕ) (block found : List ℕ) (n end : ℕ) → n ≡ min size (length found) → take (min n end) (take n found ++ drop n block) ≡ take end (take size found)
loads size block found n end is =
    let long : length (take n found) ≡ n = omega (arith, is, length-take n found) in
    let all : take n found ≡ take size found = ap (λ (k : ℕ). take k found) is ∙ take_min size found in
    let less : min n end ≤ length (take n found) = omega (arith, long) in
    let turned : min n end ≡ min end (length (take n found)) = omega (arith, long) in
    take-append-le (min n end) (take n found) (drop n block) less
    ∙ (ap (λ (k : ℕ). take k (take n found)) turned
    ∙ (take_min end (take n found)
    ∙ ap (λ (l : List ℕ). take end l) all))

abbrev kept_at : ℕ → ℕ → List ℕ → Kept
kept_at file at bytes = record { file = file; from = at; bytes = bytes }

-- from the same block the same is kept
pub from_items : (file at filled : ℕ) (a b : List ℕ) → a ≡ b → kept_at file at (take filled a) ≡ kept_at file at (take filled b)
from_items file at filled a b same = ap (λ (l : List ℕ). kept_at file at (take filled l)) same

-- what is kept of a filled block is what was found, as far as its size and the end allow
pub load_is : (size file at : ℕ) (block into found : List ℕ) (n end filled : ℕ) → n ≡ min size (length found) → into ≡ take n found ++ drop n block → filled ≡ min n (end - at)
    → kept_at file at (take filled into) ≡ kept_at file at (take (end - at) (take size found))
load_is size file at block into found n end filled is read few =
    ap (λ (l : List ℕ). kept_at file at (take filled l)) read
    ∙ (ap (λ (m : ℕ). kept_at file at (take m (take n found ++ drop n block))) few ∙ ap (λ (l : List ℕ). kept_at file at l) (loads size block found n (end - at) is))

-- of two fronts of a list it does not matter which is taken first
pub takes_turned : (n m : ℕ) (xs : List ℕ) → take n (take m xs) ≡ take m (take n xs)
takes_turned n m xs = by_size (cases_lt n m)
  where
    by_size : ((n < m) ⊎ (m ≤ n)) → take n (take m xs) ≡ take m (take n xs)
    by_size (inl less) = take_take n m xs (omega (arith, less)) ∙ sym (take_all m (take n xs) (omega (arith, less, length-take n xs)))
    by_size (inr more) = take_all n (take m xs) (omega (arith, more, length-take m xs)) ∙ sym (take_take m n xs more)

-- what was read of a file, cut at an end, is read of what stands below that
pub piece_loaded : (size at end : ℕ) (bytes part : List ℕ) → take end bytes ≡ part → take (end - at) (take size (drop at bytes)) ≡ take size (drop at part)
piece_loaded size at end bytes part is = by_place (cases_lt end at) ∙ ap (λ (l : List ℕ). take size (drop at l)) is
  where
    by_place : ((end < at) ⊎ (at ≤ end)) → take (end - at) (take size (drop at bytes)) ≡ take size (drop at (take end bytes))
    by_place (inl past) =
        let none : end - at ≡ 0 = omega (arith, past) in
        ap (λ (k : ℕ). take k (take size (drop at bytes))) none
        ∙ sym (ap (λ (l : List ℕ). take size l) (drop_all at (take end bytes) (omega (arith, past, length-take end bytes))) ∙ take_all size [] (omega arith))
    by_place (inr within) =
        let whole : at + (end - at) ≡ end = omega (arith, within) in
        takes_turned (end - at) size (drop at bytes)
        ∙ ap (λ (l : List ℕ). take size l) (sym (drop-take at (end - at) bytes) ∙ ap (λ (n : ℕ). drop at (take n bytes)) whole)

-- what is kept of a file's bytes below an end is a block of that part
pub block_is : (size : ℕ) (k : Kept) (file at : ℕ) (part : ℕ → List ℕ) (bytes : List ℕ) (end : ℕ) → take end bytes ≡ part file → k ≡ kept_at file at (take (end - at) (take size (drop at bytes)))
    → k ≡ kept_at file at (take size (drop at (part file)))
block_is size k file at part bytes end below is = is ∙ ap (λ (l : List ℕ). kept_at file at l) (piece_loaded size at end bytes (part file) below)

-- a block of a part
module _ (size : ℕ) (k : Kept) (file at : ℕ) (part : ℕ → List ℕ) (is : k ≡ record { file = file; from = at; bytes = take size (drop at (part file)) }) where
  -- a block of a part is a piece of it
  pub block_piece : IsPieceOf k part
  block_piece = subst (λ (kept : Kept). IsPieceOf kept part) (sym is) (own_length size (drop at (part file)))

  -- a block has as much of the part from its start on as the part does
  pub block_has : (want : ℕ) → want ≤ size → at + want ≤ length (part file) → HasThere k 0 (part file) at want
  block_has want few within = subst (λ (kept : Kept). HasThere kept 0 (part file) at want) (sym is) (record {
    long = omega (arith, within, few, length-take size (drop at (part file)), length-drop at (part file));
    same = take_take want size (drop at (part file)) few;
  })

-- what is kept already
pub kept_has : (k : Kept) (file at want : ℕ) (part : ℕ → List ℕ) → Covers k file at want → IsPieceOf k part → HasThere k (at - k.from) (part file) at want
kept_has k file at want part covers piece = record {
  long = omega (arith, covers.low, covers.high);
  same =
      ap (λ (l : List ℕ). take want (drop (at - k.from) l)) piece
      ∙ (ap (λ (n : ℕ). take want (drop (at - k.from) (take n (drop k.from (part k.file))))) split
      ∙ (ap (λ (l : List ℕ). take want l) (drop-take (at - k.from) (length k.bytes - (at - k.from)) (drop k.from (part k.file)))
      ∙ (take_take want (length k.bytes - (at - k.from)) (drop (at - k.from) (drop k.from (part k.file))) (omega (arith, covers.low, covers.high))
      ∙ (ap (λ (l : List ℕ). take want l) (drop-drop (at - k.from) k.from (part k.file))
      ∙ (ap (λ (n : ℕ). take want (drop n (part k.file))) there
      ∙ ap (λ (f : ℕ). take want (drop at (part f))) covers.same)))));
}
  where
    split : length k.bytes ≡ (at - k.from) + (length k.bytes - (at - k.from))
    split = omega (arith, covers.low, covers.high)

    there : k.from + (at - k.from) ≡ at
    there = omega (arith, covers.low)

-- what is kept of parts of files is kept of longer parts
pub piece_grows : PieceGrows
piece_grows k part longer grows piece =
    let more : List ℕ = (grows k.file).0 in
    let long : length k.bytes ≡ min (length k.bytes) (length (part k.file) - k.from) = ap (λ (l : List ℕ). length l) piece ∙ (length-take (length k.bytes) (drop k.from (part k.file)) ∙ ap (λ (n : ℕ). min (length k.bytes) n) (length-drop k.from (part k.file))) in
    by_place more (grows k.file).1 long (cases_lt (length (part k.file)) k.from)
  where
    by_place : (more : List ℕ) → longer k.file ≡ part k.file ++ more → length k.bytes ≡ min (length k.bytes) (length (part k.file) - k.from) → ((length (part k.file) < k.from) ⊎ (k.from ≤ length (part k.file))) → IsPieceOf k longer
    by_place more is long (inl past) =
        let none : length k.bytes ≡ 0 = omega (arith, past, long) in
        piece ∙ (ap (λ (n : ℕ). take n (drop k.from (part k.file))) none ∙ ap (λ (n : ℕ). take n (drop k.from (longer k.file))) (sym none))
    by_place more is long (inr within) =
        piece
        ∙ sym (ap (λ (l : List ℕ). take (length k.bytes) (drop k.from l)) is
        ∙ (ap (λ (l : List ℕ). take (length k.bytes) l) (drop-append-le k.from (part k.file) more within)
        ∙ take-append-le (length k.bytes) (drop k.from (part k.file)) more (omega (arith, long, length-drop k.from (part k.file)))))

-- all of a range is kept, so each front of it is
pub fewer : (k : Kept) (file at want n : ℕ) → Covers k file at want → n ≤ want → Covers k file at n
fewer k file at want n covers less = record { same = covers.same; low = covers.low; high = omega (arith, less, covers.high) }
