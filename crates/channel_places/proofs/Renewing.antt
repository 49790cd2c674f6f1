-- A new life of a channel.
use Rattle.std.proofs.Common.{◌≡◌, ◌+◌, ◌++◌, ◌∷◌, [], ℕ, List, length, Some, None, Ok, true, false, refl, sym, ◌∙◌, ap, subst, arith}
use Rattle.std.proofs.lemmas.Bool.Decides.{nat_tests}
use Rattle.std.specs.Ordering.{is_eq, nat_cmp}
use Rattle.std.specs.Cmp.{unsigned_tied}
use Rattle.event_core.specs.Journal.{IsBase}
use Rattle.event_ring.specs.Slots.{Left}
use Rattle.open_table.specs.Tables.{Listed, Table, open_at}
use Rattle.channel_face.specs.Machine.{Reopened, State, after_reopen, kept_base}
use Rattle.channel_places.specs.Looks.{Known, LookLeft, LookStaged, Looks, LooksOpen, Numbers, Places}

same_number : (n : ℕ) → is_eq (nat_cmp n n) ≡ true
same_number n = unsigned_tied n n ∙ grind (arith, nat_tests)

-- a table in which no number is open is empty
pub none_at_all : (t : Table) → ((n : ℕ) → open_at t n ≡ None) → t ≡ []
none_at_all [] none = refl
none_at_all (o ∷ t) none = absurd (differ (sym here ∙ none o.0))
  where
    here : open_at (o ∷ t) o.0 ≡ Some o.1
    here = rw (same_number o.0) refl

    differ : Some o.1 ≡ None → ⊥
    differ is = cc

-- what the places are in a new life
abbrev pub renewed : Places → List Left → Table → List Listed → ℕ → ℕ → List ℕ → Places
renewed p live t staged first txn ends = record {
  live = live;
  opened = t;
  staged = staged;
  open_puts = 0;
  numbers = record { rules = p.numbers.rules; first = first; txn = txn; broken = false; life = p.numbers.life + 1; frame = 1; ends = ends };
}

-- the places of a new life look like the state after the reopening
pub renew_looks : (before old settled known : Known) (p : Places) (s : State) (r : Reopened) (live : List Left) (t : Table) (staged : List Listed) (first txn : ℕ) (ends : List ℕ) → Looks before old p s → t ≡ [] → staged ≡ [] → (kept_base s r.kept).first ≡ first → r.txn ≡ txn
    → ends ≡ p.numbers.ends ++ p.numbers.frame ∷ [] → LookLeft settled [] live (kept_base s r.kept).items → IsBase (kept_base s r.kept) → Looks settled known (renewed p live t staged first txn ends) (after_reopen s (Ok r))
renew_looks before old settled known p s r live t staged first txn ends looks none_open none_staged first_is txn_is ends_are left base = record {
  sound = record { base = base; held = tt; opened = omega arith; staged = tt };
  left = left;
  opened = λ n. subst (λ (u : Table). LooksOpen known s.rules.limits.txn_capacity (open_at u n) None) (sym none_open) tt;
  as_many = ap (λ (u : Table). length u) none_open;
  open_puts = refl;
  staged = subst (λ (l : List Listed). LookStaged known l []) (sym none_staged) tt;
  numbers =
      ap (λ (l : List ℕ). anew p.numbers first txn l) ends_are
      ∙ (ap (λ (n : Numbers). anew n first txn (n.ends ++ n.frame ∷ [])) looks.numbers
      ∙ (ap (λ (k : ℕ). record { rules = s.rules; first = k; txn = txn; broken = false; life = s.life + 1; frame = 1; ends = s.ends ++ s.frame ∷ [] }) (sym first_is)
      ∙ ap (λ (k : ℕ). record { rules = s.rules; first = (kept_base s r.kept).first; txn = k; broken = false; life = s.life + 1; frame = 1; ends = s.ends ++ s.frame ∷ [] }) (sym txn_is)));
}
  where
    anew : Numbers → ℕ → ℕ → List ℕ → Numbers
    anew n k m l = record { rules = n.rules; first = k; txn = m; broken = false; life = n.life + 1; frame = 1; ends = l }
