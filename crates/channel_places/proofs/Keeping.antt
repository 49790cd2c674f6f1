-- Which puts a transaction has after a call.
use Rattle.std.proofs.Common.{◌⊎◌, inl, inr, ◌≡◌, ◌≢◌, ◌<◌, ◌^◌, ◌==◌, [], ℕ, Option, Some, None, Bool, true, false, refl, sym, ◌∙◌, ap, arith}
use Rattle.std.proofs.lemmas.Bool.Decides.{eqb_tells}
use Rattle.open_table.specs.Tables.{HasAt, Listed, Open, Puts, Table, Takes, added, begun, open_at, puts_of, with_item}
use Rattle.open_table.specs.declared.table.Item.TheVariants.{Take}
use Rattle.event_core.specs.declared.journal.Entry.{Entry}
use Rattle.channel_places.specs.Looks.{IsFewOpen, IsWithinRoom, KeepsPuts, Known, LooksOpen, pointers_at, pointers_of}

-- a table that stays as it was keeps its puts
pub keeps_same : (old new : Table) → new ≡ old → KeepsPuts old new
keeps_same old new is txn = inl (ap (λ (t : Table). pointers_at t txn) is)

-- one transaction has what it had, or none
keeps_at : (txn : ℕ) (here : Option Open) (old new : Table) → HasAt txn here old new → (pointers_of here ≡ pointers_at old txn) ⊎ (pointers_of here ≡ []) → KeepsPuts old new
keeps_at txn here old new has one n = from (eqb_tells n txn) one
  where
    from : ((n == txn) ≡ true) × (n ≡ txn) ⊎ ((n == txn) ≡ false) × (n ≢ txn) → (pointers_of here ≡ pointers_at old txn) ⊎ (pointers_of here ≡ []) → (pointers_at new n ≡ pointers_at old n) ⊎ (pointers_at new n ≡ [])
    from (inl same) (inl kept) = inl (ap (λ (m : ℕ). pointers_at new m) same.1 ∙ (ap pointers_of has.here_is ∙ (kept ∙ ap (λ (m : ℕ). pointers_at old m) (sym same.1))))
    from (inl same) (inr none) = inr (ap (λ (m : ℕ). pointers_at new m) same.1 ∙ (ap pointers_of has.here_is ∙ none))
    from (inr other) one = inl (ap pointers_of (has.others n other.1))

-- a transaction ended
pub keeps_ended : (txn : ℕ) (old new : Table) → HasAt txn None old new → KeepsPuts old new
keeps_ended txn old new has = keeps_at txn None old new has (inr refl)

-- one begins
pub keeps_begun : (txn room : ℕ) (puts : Bool) (old new : Table) → HasAt txn (Some (begun puts room)) old new → KeepsPuts old new
keeps_begun txn room puts old new has = keeps_at txn (Some (begun puts room)) old new has (inr (none puts))
  where
    none : (b : Bool) → pointers_of (Some (begun b room)) ≡ []
    none true = refl
    none false = refl

-- one takes an event
pub keeps_taken : (txn number : ℕ) (old new : Table) → HasAt txn (added (Take number) (open_at old txn)) old new → KeepsPuts old new
keeps_taken txn number old new has = keeps_at txn (added (Take number) (open_at old txn)) old new has (inl (same (open_at old txn)))
  where
    same : (o : Option Open) → pointers_of (added (Take number) o) ≡ pointers_of o
    same None = refl
    same (Some o) = of_list o.listed
      where
        of_list : (listed : Listed) → puts_of (with_item (Take number) listed) ≡ puts_of listed
        of_list (Puts pointers) = refl
        of_list (Takes numbers) = refl

-- what is within its room is few
pub few_open : (known : Known) (room : ℕ) (o : Option Open) (e : Option Entry) → LooksOpen known room o e → IsWithinRoom o → room < 2 ^ 32 → IsFewOpen o
few_open known room None e look within low = tt
few_open known room (Some o) None look within low = absurd look
few_open known room (Some o) (Some e) look within low = omega (arith, within, look.1, low)
