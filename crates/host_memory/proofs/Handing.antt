-- What a host in memory shows of its listeners and dialers, before and after one is handed out or comes back.
use Rattle.std.proofs.Common.{◌≡◌, ◌∙◌, ◌==◌, ap, sym, refl, ℕ, ◌+◌, ◌<◌, List, [], ◌∷◌, ◌++◌, length, take, drop, get_or, map, Option, Bool, true, false, cond, count_by, arith, bytes_eq, string_bytes}
use Rattle.std.proofs.lemmas.List.{take-append-drop, map-append, drop_more, append_assoc}
use Rattle.std.proofs.lemmas.List.Sums.{sum_by-append}
use Rattle.std.proofs.lemmas.Bool.Decides.{Decides-and, Decides-eqb}
use Rattle.std.proofs.lemmas.Slice.Eq.{bytes_eq-Decides}
use Rattle.std.specs.Bool.{Decides}
use Rattle.flume_host.specs.Listens.{LinksTold}
use Rattle.flume_host.specs.HandedOut.{CameBack, GoesOut, ComesBack}
use Rattle.host_memory.specs.declared.address.Address.{Address}
use Rattle.host_memory.specs.declared.address.Placed.{Placed}
use Rattle.host_memory.specs.Ends.{is_at, came_back, ends_of}

abbrev IsAt : List ℕ → ℕ → Address → Type 0
IsAt host port at = (at.port ≡ port) × (string_bytes at.host ≡ host)

-- the test of an address
at_decides : (host : List ℕ) (port : ℕ) (at : Address) → Decides (is_at host port at) (IsAt host port at)
at_decides host port at = Decides-and (at.port == port) (bytes_eq (string_bytes at.host) host) (Decides-eqb at.port port) (bytes_eq-Decides (string_bytes at.host) host)

-- another address is not there
at_other : (host h : List ℕ) (port p : ℕ) (at : Address) → IsAt host port at → ((h ≡ host) × (p ≡ port) → ⊥) → is_at h p at ≡ false
at_other host h port p at is differ = by_cases (is_at h p at) refl
  where
    by_cases : (t : Bool) → is_at h p at ≡ t → is_at h p at ≡ false
    by_cases true same = let both = (at_decides h p at).0 same in absurd (differ (sym both.1 ∙ is.1, sym both.0 ∙ is.0))
    by_cases false same = same

one_yes : (p : Address → Bool) (at : Address) → p at ≡ true → count_by p (at ∷ []) ≡ 1
one_yes p at is = rw is refl

one_no : (p : Address → Bool) (at : Address) → p at ≡ false → count_by p (at ∷ []) ≡ 0
one_no p at is = rw is refl

-- one more counts where it is asked for
count_more : (p : Address → Bool) (old new : List Address) (at : Address) → new ≡ old ++ at ∷ [] → p at ≡ true → count_by p new ≡ count_by p old + 1
count_more p old new at is there = ap (λ (l : List Address). count_by p l) is ∙ sum_by-append (λ (a : Address). cond (p a) 1 0) old (at ∷ []) ∙ ap (λ (n : ℕ). count_by p old + n) (one_yes p at there)

count_same : (p : Address → Bool) (old new : List Address) (at : Address) → new ≡ old ++ at ∷ [] → p at ≡ false → count_by p new ≡ count_by p old
count_same p old new at is absent = ap (λ (l : List Address). count_by p l) is ∙ sum_by-append (λ (a : Address). cond (p a) 1 0) old (at ∷ []) ∙ ap (λ (n : ℕ). count_by p old + n) (one_no p at absent) ∙ omega arith

-- the list with one taken out of its middle, and back
with_one : (old : List Address) (i : ℕ) (d : Address) → i < length old → old ≡ (take i old ++ get_or old i d ∷ []) ++ drop (i + 1) old
with_one old i d below = sym (take-append-drop i old) ∙ ap (λ (l : List Address). take i old ++ l) (drop_more old i d below) ∙ sym (append_assoc (take i old) (get_or old i d ∷ []) (drop (i + 1) old))

-- how many there are around the one that is taken out
count_parts : (p : Address → Bool) (old new : List Address) (i : ℕ) (d : Address) → i < length old → new ≡ take i old ++ drop (i + 1) old → count_by p old ≡ count_by p new + count_by p (get_or old i d ∷ [])
count_parts p old new i d below is =
    let f : Address → ℕ = λ a. cond (p a) 1 0 in
    let front = take i old in
    let back = drop (i + 1) old in
    let one = get_or old i d ∷ [] in
    let whole : count_by p old ≡ count_by p front + count_by p one + count_by p back = ap (λ (l : List Address). count_by p l) (with_one old i d below) ∙ sum_by-append f (front ++ one) back ∙ ap (λ (n : ℕ). n + count_by p back) (sum_by-append f front one) in
    let rest : count_by p new ≡ count_by p front + count_by p back = ap (λ (l : List Address). count_by p l) is ∙ sum_by-append f front back in
    omega (arith, whole, rest)

module _ {T : Type 0} (told : T → Option LinksTold) (waits faults : T → ℕ) where
  -- one more of an address is out
  pub gone_out : (host : List ℕ) (port : ℕ) (old new : List Address) (was is : List (Placed T)) (at : Address) → string_bytes at.host ≡ host → at.port ≡ port → new ≡ old ++ at ∷ [] → is ≡ was → GoesOut host port (ends_of told waits faults old was) (ends_of told waits faults new is)
  gone_out host port old new was is at is_host is_port more same = record {
    more = count_more (is_at host port) old new at more ((at_decides host port at).1 (is_port, is_host));
    others = λ h p differ. count_same (is_at h p) old new at more (at_other host h port p at (is_port, is_host) differ);
    back = ap (λ (l : List (Placed T)). map (came_back told waits faults) l) same;
  }

  -- one of an address came back
  pub come_back : (host : List ℕ) (port : ℕ) (object : T) (old new : List Address) (was now : List (Placed T)) (i : ℕ) (at : Address) → i < length old → is_at host port (get_or old i at) ≡ true → new ≡ take i old ++ drop (i + 1) old → is_at host port at ≡ true → now ≡ was ++ record { at = at; object = object } ∷ [] → ComesBack (record { host = host; port = port; told = told object; waits = waits object; faults = faults object }) (ends_of told waits faults old was) (ends_of told waits faults new now)
  come_back host port object old new was now i at below found fewer is more =
      let one = get_or old i at in
      let there = (at_decides host port one).0 found in
      let here = (at_decides host port at).0 is in record {
        fewer = count_parts (is_at host port) old new i at below fewer ∙ ap (λ (n : ℕ). count_by (is_at host port) new + n) (one_yes (is_at host port) one found);
        others = λ h p differ. omega (arith, count_parts (is_at h p) old new i at below fewer, one_no (is_at h p) one (at_other host h port p one there differ));
        back = ap (λ (l : List (Placed T)). map (came_back told waits faults) l) more ∙ map-append (came_back told waits faults) was (record { at = at; object = object } ∷ [])
            ∙ ap (λ (c : CameBack). map (came_back told waits faults) was ++ c ∷ []) (came_at here.1 here.0);
      }
    where
      came_at : string_bytes at.host ≡ host → at.port ≡ port → came_back told waits faults (record { at = at; object = object }) ≡ record { host = host; port = port; told = told object; waits = waits object; faults = faults object }
      came_at is_host is_port = cc
