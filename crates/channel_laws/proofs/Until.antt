-- The counted calls of a shared channel, up to a moment.
use Rattle.std.proofs.Common.{◌≡◌, ℕ, List, [], ◌∷◌, ◌++◌, take, Bool, true, false, nat_le, refl, sym, ◌∙◌, ap}
use Rattle.event_core.specs.Journal.{after_journal}
use Rattle.channel_face.specs.History.{Step}
use Rattle.channel_writing.specs.Stands.{until}
use Rattle.shared_channel.specs.Counting.{counted_calls, is_counted}
use Rattle.shared_channel.proofs.Keeping.{agrees}
use Rattle.channel_laws.specs.Images.{CountedCallsLeave}

until_in : (m : ℕ) (x : Step) (h : List Step) → nat_le x.moment m ≡ true → until m (x ∷ h) ≡ x ∷ until m h
until_in m x h is = rw is refl

until_out : (m : ℕ) (x : Step) (h : List Step) → nat_le x.moment m ≡ false → until m (x ∷ h) ≡ until m h
until_out m x h is = rw is refl

counted_in : (x : Step) (h : List Step) → is_counted x.call ≡ true → counted_calls (x ∷ h) ≡ x ∷ counted_calls h
counted_in x h is = rw is refl

counted_out : (x : Step) (h : List Step) → is_counted x.call ≡ false → counted_calls (x ∷ h) ≡ counted_calls h
counted_out x h is = rw is refl

-- counting the calls up to a moment takes up to that moment those that are counted
counted_until : (m : ℕ) (h : List Step) → counted_calls (until m h) ≡ until m (counted_calls h)
counted_until m [] = refl
counted_until m (x ∷ h) = by (nat_le x.moment m) refl (is_counted x.call) refl (counted_until m h)
  where
    by : (a : Bool) → nat_le x.moment m ≡ a → (b : Bool) → is_counted x.call ≡ b → counted_calls (until m h) ≡ until m (counted_calls h) → counted_calls (until m (x ∷ h)) ≡ until m (counted_calls (x ∷ h))
    by true a true b more = ap counted_calls (until_in m x h a) ∙ counted_in x (until m h) b ∙ ap (λ (l : List Step). x ∷ l) more ∙ sym (until_in m x (counted_calls h) a) ∙ sym (ap (until m) (counted_in x h b))
    by true a false b more = ap counted_calls (until_in m x h a) ∙ counted_out x (until m h) b ∙ more ∙ sym (ap (until m) (counted_out x h b))
    by false a true b more = ap counted_calls (until_out m x h a) ∙ more ∙ sym (until_out m x (counted_calls h) a) ∙ sym (ap (until m) (counted_in x h b))
    by false a false b more = ap counted_calls (until_out m x h a) ∙ more ∙ sym (ap (until m) (counted_out x h b))

-- at each moment a crash leaves of a shared channel's folder what the counted calls may leave
pub counted_calls_leave : CountedCallsLeave
counted_calls_leave told faults c start h k t is m image since left =
    let found = k.1.images t is m image since left in
    let same = agrees start (until m k.0) (until m h) (counted_until m k.0 ∙ ap (until m) k.2) in
    (found.0, found.1, found.2, (found.3.0, found.3.1 ∙ (λ i. after_journal start.base (same.journal i ++ take found.3.0 (same.state i).staged))))
