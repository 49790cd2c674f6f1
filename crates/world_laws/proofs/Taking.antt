-- The event that a take gives is that of its number.
use Rattle.std.proofs.Common.{◌≡◌, ◌+◌, ◌++◌, ◌∷◌, [], ℕ, zero, suc, List, slice_get, Option, Some, Ok, Bool, true, false, cond, refl, sym, ◌∙◌, ap, subst, arith}
use Rattle.event_core.specs.Content.{Content}
use Rattle.event_core.specs.Journal.{Base, put_events, taken_numbers, without, is_among, numbered}
use Rattle.event_core.specs.declared.journal.Entry.TheVariants.{Takes}
use Rattle.channel_face.specs.Token.{Token}
use Rattle.channel_face.specs.Machine.{State, take_refusal, takes_of, free, first_event, entries, entry_of, after_take}
use Rattle.channel_face.proofs.Opened.{entry_of-with}
use Rattle.world_laws.specs.World.{Channel}
use Rattle.world_laws.specs.Channels.{unless, taken}
use Rattle.world_laws.specs.Held.{Balances}
use Rattle.world_laws.proofs.Lists.{same_some, no_some, and_then-some, unless-some}
use Rattle.world_laws.proofs.Opens.{takes_of-from}

-- what is left after takes was there before
pub without_get : (xs : List ℕ) (items : List (ℕ × Content)) (k : ℕ) (x : ℕ × Content) → slice_get (without xs items) k ≡ Some x → (j : ℕ) × (slice_get items j ≡ Some x)
without_get xs [] k x is = absurd (no_some x is)
without_get xs (i ∷ items) k x is = from (is_among xs i.0) k is (λ j at. without_get xs items j x at)
  where
    from : (b : Bool) (k : ℕ) → slice_get (cond b (without xs items) (i ∷ without xs items)) k ≡ Some x → ((j : ℕ) → slice_get (without xs items) j ≡ Some x → (l : ℕ) × (slice_get items l ≡ Some x)) → (j : ℕ) × (slice_get (i ∷ items) j ≡ Some x)
    from true k is rest = let r = rest k is in (suc r.0, r.1)
    from false zero is rest = (zero, is)
    from false (suc k) is rest = let r = rest k is in (suc r.0, r.1)

-- an item at a place has the number and the event of that place
pub numbered_get : (first : ℕ) (events : List Content) (j : ℕ) (x : ℕ × Content) → slice_get (numbered first events) j ≡ Some x → (x.0 ≡ first + j) × (slice_get events j ≡ Some x.1)
numbered_get first [] j x is = absurd (no_some x is)
numbered_get first (e ∷ events) zero x is =
    let same = same_some (first, e) x is in
    let number : first ≡ x.0 = ap (λ (p : ℕ × Content). p.0) same in
    (omega (arith, number), ap (λ (p : ℕ × Content). Some p.1) same)
numbered_get first (e ∷ events) (suc j) x is =
    let r = numbered_get (first + 1) events j x is in
    (omega (arith, r.0), r.1)

first_some : (items : List (ℕ × Content)) (e : Content) → first_event items ≡ Some e → (item : ℕ × Content) × (rest : List (ℕ × Content)) × (items ≡ item ∷ rest) × (item.1 ≡ e)
first_some [] e is = absurd (no_some e is)
first_some (item ∷ rest) e is = (item, rest, refl, same_some item.1 e is)

event_of : (put : List Content) (k j : ℕ) (x e : Content) → k ≡ j → slice_get put j ≡ Some x → x ≡ e → slice_get put k ≡ Some e
event_of put k j x e number has same = ap (λ (i : ℕ). slice_get put i) number ∙ (has ∙ ap (λ (y : Content). Some y) same)

-- the open take of this token, which had these numbers, has one more, and the event is that of this number
pub record Took (c : Channel) (token : Token) (numbers : List ℕ) (got : Channel × Content) : Type 0 where
  pub number : ℕ
  pub opened : entry_of token.number got.0.state.opened ≡ Some (Takes (numbers ++ number ∷ []))
  pub event : slice_get (put_events got.0.journal) number ≡ Some got.1
  pub journal : got.0.journal ≡ c.journal
  pub named : got.0.named ≡ c.named

-- what a take from an open transaction gave is the event of the number that it added
pub took : (c : Channel) (token : Token) (numbers : List ℕ) (got : Channel × Content) → Balances c → token.life ≡ c.state.life → entry_of token.number c.state.opened ≡ Some (Takes numbers) → taken token c ≡ Some got → Took c token numbers got
took c token numbers got right life opened is =
    let s : State = c.state in
    let make : Option (List ℕ) → List (ℕ × Content) → Content → Channel × Content = λ takes items e. (record c { state = after_take s token takes items (Ok (record { event = Some e; spilled = false })) }, e) in
    let e = and_then-some (first_event (free s)) (λ e. unless (take_refusal s (takes_of s token)) (make (takes_of s token) (free s) e)) got is in
    let u = unless-some (take_refusal s (takes_of s token)) (make (takes_of s token) (free s) e.0) got e.2 in
    let f = first_some (free s) e.0 e.1 in
    let it : make (Some numbers) (f.0 ∷ f.1) e.0 ≡ got = ap (λ (l : List (ℕ × Content)). make (Some numbers) l e.0) (sym f.2) ∙ (ap (λ (t : Option (List ℕ)). make t (free s) e.0) (sym (takes_of-from s token numbers life opened)) ∙ u.1) in
    let there = without_get (taken_numbers (entries s.opened) ++ taken_numbers s.staged) s.items 0 f.0 (ap (λ (l : List (ℕ × Content)). slice_get l 0) f.2) in
    let items : s.items ≡ without (taken_numbers c.journal) (numbered 0 (put_events c.journal)) = ap (λ (b : Base). b.items) right.left in
    let put = without_get (taken_numbers c.journal) (numbered 0 (put_events c.journal)) there.0 f.0 (ap (λ (l : List (ℕ × Content)). slice_get l there.0) (sym items) ∙ there.1) in
    let which = numbered_get 0 (put_events c.journal) put.0 f.0 put.1 in
    let number : f.0.0 ≡ put.0 = omega (arith, which.0) in
    subst (Took c token numbers) it (record {
      number = f.0.0;
      opened = entry_of-with token.number s.opened (Takes numbers) (Takes (numbers ++ f.0.0 ∷ [])) opened;
      event = event_of (put_events c.journal) f.0.0 put.0 f.0.1 e.0 number which.1 f.3;
      journal = refl;
      named = refl;
    })
