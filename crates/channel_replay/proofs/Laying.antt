-- What a checkpoint of a state stands for.
use Rattle.std.proofs.Common.{◌⊎◌, inl, inr, ◌≡◌, ◌∷◌, [], ℕ, List, Some, None, Bool, true, false, ◌==◌, ◌||◌, cond, refl, sym, ◌∙◌, ap}
use Rattle.std.proofs.lemmas.Bool.Decides.{eqb_tells}
use Rattle.event_core.specs.Journal.{is_among}
use Rattle.event_core.specs.declared.journal.Entry.{Entry}
use Rattle.event_core.specs.declared.journal.Entry.TheVariants.{Puts, Takes}
use Rattle.channel_face.specs.Machine.{entry_of}
use Rattle.channel_replay.specs.Open.{keys}
use Rattle.channel_replay.proofs.Keys.{Tells}
use Rattle.channel_replay.specs.Start.{AreApart}
use Rattle.channel_replay.specs.StartLaws.{LaidFollows, busy_ones, done_of, or_not}

not_there : (b c : Bool) → (b || c) ≡ false → (b ≡ false) × (c ≡ false)
not_there true c is = absurd (cc)
not_there false c is = (refl, is)

none_of : (os : List (ℕ × Entry)) (t : ℕ) → is_among (keys os) t ≡ false → entry_of t os ≡ None
none_of [] t isnt = refl
none_of (o ∷ os) t isnt =
    let apart = not_there (o.0 == t) (is_among (keys os) t) isnt in
    rw apart.0 (none_of os t apart.1)

-- what did something is done, or nothing of it is
done_tells : (entry : Entry) → (done_of (Some entry) ≡ Some entry) ⊎ (done_of (Some entry) ≡ None)
done_tells (Puts []) = inr refl
done_tells (Puts (e ∷ events)) = inl refl
done_tells (Takes []) = inr refl
done_tells (Takes (n ∷ numbers)) = inl refl

-- what a transaction has in a checkpoint is what it did, if it did anything
pub busy_entry : (os : List (ℕ × Entry)) (t : ℕ) → AreApart (keys os) → entry_of t (busy_ones os) ≡ done_of (entry_of t os)
busy_entry [] t apart = refl
busy_entry (o ∷ os) t apart = from (done_tells o.1) (eqb_tells o.0 t) (busy_entry os t apart.1)
  where
    from : (done_of (Some o.1) ≡ Some o.1) ⊎ (done_of (Some o.1) ≡ None) → Tells o.0 t → entry_of t (busy_ones os) ≡ done_of (entry_of t os)
        → entry_of t (or_not (done_of (Some o.1)) o.0 (busy_ones os)) ≡ done_of (cond (o.0 == t) (Some o.1) (entry_of t os))
    from (inl busy) (inl same) rest = rw (busy, same.0) (sym busy)
    from (inl busy) (inr other) rest = rw (busy, other.0) rest
    from (inr idle) (inl same) rest =
        let none : entry_of t os ≡ None = none_of os t (ap (is_among (keys os)) (sym same.1) ∙ apart.0) in
        rw (idle, same.0) (rest ∙ (ap done_of none ∙ sym idle))
    from (inr idle) (inr other) rest = rw (idle, other.0) rest

-- the start that is laid of a settled state follows the one it came from
pub laid_follows : LaidFollows
laid_follows c lines s apart settled = record {
  base = settled.base;
  each = λ t. busy_entry s.opened t apart ∙ sym (settled.each t);
  as_many = sym settled.as_many;
}
