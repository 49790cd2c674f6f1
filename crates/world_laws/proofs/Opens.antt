-- Open transactions, by their numbers.
use Rattle.std.proofs.Common.{◌⊎◌, inl, inr, ◌≡◌, ◌≢◌, ◌<◌, ◌++◌, ◌∷◌, [], ℕ, List, Option, Some, None, Bool, true, false, ◌==◌, cond, refl, sym, ◌∙◌, ap, arith}
use Rattle.std.proofs.lemmas.Bool.Decides.{eqb_tells}
use Rattle.event_core.specs.declared.journal.Entry.{Entry}
use Rattle.event_core.specs.declared.journal.Entry.TheVariants.{Puts, Takes}
use Rattle.channel_face.specs.Token.{Token}
use Rattle.channel_face.specs.Machine.{State, entry_of, with_entry, without_entry, stage, takes_of}
use Rattle.channel_face.specs.Sound.{Opened, AreNumbered}
use Rattle.world_laws.proofs.Lists.{no_some}

-- the other transactions as one of them changes
pub other_with : (m number : ℕ) (e : Entry) (opened : Opened) → m ≢ number → entry_of m (with_entry number e opened) ≡ entry_of m opened
other_with m number e [] other = refl
other_with m number e (o ∷ opened) other = from (eqb_tells o.0 number) (other_with m number e opened other)
  where
    from : ((o.0 == number) ≡ true) × (o.0 ≡ number) ⊎ ((o.0 == number) ≡ false) × (o.0 ≢ number) → entry_of m (with_entry number e opened) ≡ entry_of m opened → entry_of m (cond (o.0 == number) ((o.0, e) ∷ opened) (o ∷ with_entry number e opened)) ≡ entry_of m (o ∷ opened)
    from (inl here) more = rw here.0 (by (eqb_tells o.0 m))
      where
        by : ((o.0 == m) ≡ true) × (o.0 ≡ m) ⊎ ((o.0 == m) ≡ false) × (o.0 ≢ m) → (cond (o.0 == m) (Some e) (entry_of m opened)) ≡ cond (o.0 == m) (Some o.1) (entry_of m opened)
        by (inl same) = absurd (other (sym same.1 ∙ here.1))
        by (inr isnt) = rw isnt.0 refl
    from (inr there) more = rw there.0 (ap (λ (x : Option Entry). cond (o.0 == m) (Some o.1) x) more)

-- the other transactions as one of them ends
pub other_without : (m number : ℕ) (opened : Opened) → m ≢ number → entry_of m (without_entry number opened) ≡ entry_of m opened
other_without m number [] other = refl
other_without m number (o ∷ opened) other = from (eqb_tells o.0 number) (other_without m number opened other)
  where
    from : ((o.0 == number) ≡ true) × (o.0 ≡ number) ⊎ ((o.0 == number) ≡ false) × (o.0 ≢ number) → entry_of m (without_entry number opened) ≡ entry_of m opened → entry_of m (cond (o.0 == number) opened (o ∷ without_entry number opened)) ≡ entry_of m (o ∷ opened)
    from (inl here) more = rw here.0 (by (eqb_tells o.0 m))
      where
        by : ((o.0 == m) ≡ true) × (o.0 ≡ m) ⊎ ((o.0 == m) ≡ false) × (o.0 ≢ m) → entry_of m opened ≡ cond (o.0 == m) (Some o.1) (entry_of m opened)
        by (inl same) = absurd (other (sym same.1 ∙ here.1))
        by (inr isnt) = rw isnt.0 refl
    from (inr there) more = rw there.0 (ap (λ (x : Option Entry). cond (o.0 == m) (Some o.1) x) more)

-- an open transaction is found also where more have begun
pub entry_front : (m : ℕ) (e : Entry) (opened more : Opened) → entry_of m opened ≡ Some e → entry_of m (opened ++ more) ≡ Some e
entry_front m e [] more is = absurd (no_some e is)
entry_front m e (o ∷ opened) more is = from (o.0 == m) is (entry_front m e opened more)
  where
    from : (b : Bool) → cond b (Some o.1) (entry_of m opened) ≡ Some e → (entry_of m opened ≡ Some e → entry_of m (opened ++ more) ≡ Some e) → cond b (Some o.1) (entry_of m (opened ++ more)) ≡ Some e
    from true is more = is
    from false is more = more is

-- a transaction that is open has a number below the next one
pub numbered_below : (txn m : ℕ) (e : Entry) (opened : Opened) → AreNumbered txn opened → entry_of m opened ≡ Some e → m < txn
numbered_below txn m e [] all is = absurd (no_some e is)
numbered_below txn m e (o ∷ opened) all is = from (eqb_tells o.0 m) (numbered_below txn m e opened all.1)
  where
    from : ((o.0 == m) ≡ true) × (o.0 ≡ m) ⊎ ((o.0 == m) ≡ false) × (o.0 ≢ m) → (entry_of m opened ≡ Some e → m < txn) → m < txn
    from (inl here) more = omega (arith, here.1, all.0)
    from (inr there) more = more (rw there.0 at is)

-- what a stage leaves: the other open transactions, the life and the rules
pub record Staged (number : ℕ) (s s' : State) : Type 0 where
  pub others : (m : ℕ) → m ≢ number → entry_of m s'.opened ≡ entry_of m s.opened
  pub life : s'.life ≡ s.life
  pub rules : s'.rules ≡ s.rules

-- a stage leaves the other open transactions, the life and the rules
pub staged_leaves : (number : ℕ) (entry : Option Entry) (s : State) → Staged number s (stage number entry s)
staged_leaves number None s = record { others = λ m other. refl; life = refl; rules = refl }
staged_leaves number (Some (Puts [])) s = record { others = λ m other. other_without m number s.opened other; life = refl; rules = refl }
staged_leaves number (Some (Takes [])) s = record { others = λ m other. other_without m number s.opened other; life = refl; rules = refl }
staged_leaves number (Some (Puts (e ∷ events))) s = record { others = λ m other. other_without m number s.opened other; life = refl; rules = refl }
staged_leaves number (Some (Takes (n ∷ numbers))) s = record { others = λ m other. other_without m number s.opened other; life = refl; rules = refl }

-- a token of this life gives the numbers that its open take has
pub takes_of-from : (s : State) (token : Token) (numbers : List ℕ) → token.life ≡ s.life → entry_of token.number s.opened ≡ Some (Takes numbers) → takes_of s token ≡ Some numbers
takes_of-from s token numbers life is = from (eqb_tells token.life s.life)
  where
    from : ((token.life == s.life) ≡ true) × (token.life ≡ s.life) ⊎ ((token.life == s.life) ≡ false) × (token.life ≢ s.life) → takes_of s token ≡ Some numbers
    from (inl alive) = rw (alive.0, is) refl
    from (inr stale) = absurd (stale.1 life)
