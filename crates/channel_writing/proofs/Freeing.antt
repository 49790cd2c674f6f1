-- The first event that is free stays the first as others are settled, and a take leaves a channel whole.
use Rattle.std.proofs.Common.{◌≡◌, ◌≤◌, ◌+◌, ◌++◌, ◌∷◌, [], ℕ, List, Option, Some, None, Ok, Bool, true, false, ◌||◌, cond, refl, sym, ◌∙◌, ap, subst, arith}
use Rattle.std.proofs.lemmas.List.{append-nil}
use Rattle.flume_host.specs.Told.{Told}
use Rattle.event_core.specs.Content.{Content}
use Rattle.event_core.specs.Journal.{is_among, numbered, put_events, taken_numbers, without}
use Rattle.event_core.specs.declared.journal.Entry.TheVariants.{Takes}
use Rattle.channel_log.specs.Writer.{HasRoom, Writer}
use Rattle.channel_face.specs.Token.{Token}
use Rattle.channel_face.specs.History.{Moves}
use Rattle.channel_face.specs.Machine.{State, Take, MaySpill, add_take, entries, first_event, free, settle, settle_if, take_refusal, takes_of, with_entry}
use Rattle.channel_face.specs.declared.replies.Kind.{Kind}
use Rattle.channel_face.specs.declared.replies.Kind.TheVariants.{File as OnFile}
use Rattle.channel_face.specs.Sound.{Items, IsSoundState}
use Rattle.channel_face.proofs.Numbers.{without-append, without-both}
use Rattle.channel_replay.proofs.Numbers.{or_among}
use Rattle.txn_core.proofs.Kept.{take_allows}
use Rattle.channel_writing.specs.Written.{IsLogged, kept}
use Rattle.channel_writing.specs.Whole.{IsWhole}
use Rattle.channel_writing.proofs.Whole.{sound_then, still_not}

without_same : (xs ys : List ℕ) (items : Items) → ((n : ℕ) → is_among xs n ≡ is_among ys n) → without xs items ≡ without ys items
without_same xs ys [] same = refl
without_same xs ys (item ∷ items) same = by_test (is_among xs item.0) (is_among ys item.0) (same item.0) (without_same xs ys items same)
  where
    by_test : (b c : Bool) → b ≡ c → without xs items ≡ without ys items → cond b (without xs items) (item ∷ without xs items) ≡ cond c (without ys items) (item ∷ without ys items)
    by_test b c is rest = rw (is, rest) refl

or_turned : (b c : Bool) → (b || c) ≡ (c || b)
or_turned true true = refl
or_turned true false = refl
or_turned false true = refl
or_turned false false = refl

-- the first free event is still the first once what is staged is settled
pub free_after : (s : State) (item : ℕ × Content) (rest : Items) → free s ≡ item ∷ rest → (more : Items) × (free (settle s) ≡ item ∷ more)
free_after s item rest first =
    let tO : List ℕ = taken_numbers (entries s.opened) in
    let tS : List ℕ = taken_numbers s.staged in
    let more : Items = numbered s.first (put_events s.staged) in
    let behind : Items = without tO (without tS more) in
    let turned : (n : ℕ) → is_among (tS ++ tO) n ≡ is_among (tO ++ tS) n = λ n. or_among tS tO n ∙ (or_turned (is_among tS n) (is_among tO n) ∙ sym (or_among tO tS n)) in
    let front : without tO (without tS s.items) ≡ item ∷ rest = sym (without-both tS tO s.items) ∙ (without_same (tS ++ tO) (tO ++ tS) s.items turned ∙ first) in
    (rest ++ behind, ap (λ (l : List ℕ). without l (without tS (s.items ++ more))) (append-nil tO) ∙ (ap (λ (l : Items). without tO l) (without-append tS s.items more) ∙ (without-append tO (without tS s.items) (without tS more) ∙ ap (λ (l : Items). l ++ behind) front)))

-- a channel that does not refuse a take is not broken
pub take_still : (s : State) (numbers : List ℕ) → take_refusal s (Some numbers) ≡ None → s.broken ≡ false
take_still s numbers allowed = (take_allows s numbers allowed).0

-- an empty frame has room for a take
pub take_room : (w : Writer) (b : ℕ) (first : Bool) → w.bytes ≡ [] → b ≤ 1024 → HasRoom w (17 + kept b first)
take_room w b first empty most = rw empty (from first)
  where
    from : (first : Bool) → 0 + (17 + kept b first) + 6 ≤ 2097152
    from true = omega (arith, most)
    from false = omega (arith, most)

-- the state after a take, with or without a spill
abbrev pub take_in : State → Bool → ℕ → List ℕ → ℕ → State
take_in s spilled number numbers taken = record (settle_if spilled s) { opened = with_entry number (Takes (numbers ++ taken ∷ [])) (settle_if spilled s).opened }

-- a take that gave the first free event is a call of the channel
pub take_moves : (s s' : State) (token : Token) (numbers : List ℕ) (item : ℕ × Content) (rest : Items) (spilled : Bool) → takes_of s token ≡ Some numbers → take_refusal s (Some numbers) ≡ None → s.rules.kind ≡ OnFile → free s ≡ item ∷ rest → s' ≡ take_in s spilled token.number numbers item.0
    → Moves true s (Take token (Ok (record { event = Some item.1; spilled = spilled }))) s'
take_moves s s' token numbers item rest spilled list allowed kind first is = record {
  admitted = (rw list allowed, sym (ap first_event first), subst (λ (k : Kind). MaySpill k spilled) (sym kind) tt, tt);
  state = is ∙ (ap (λ (l : Items). add_take (settle_if spilled s) token.number (Some numbers) l) (sym first) ∙ ap (λ (l : Option (List ℕ)). add_take (settle_if spilled s) token.number l (free s)) (sym list));
}

-- a take that its log has leaves the channel whole
pub take_whole : (told : Option Told) (w : Writer) (b : ℕ) (s s' : State) (token : Token) (number : ℕ) (numbers : List ℕ) (item : ℕ × Content) (rest : Items) (spilled : Bool) → IsSoundState s → takes_of s token ≡ Some numbers → take_refusal s (Some numbers) ≡ None → s.rules.kind ≡ OnFile → free s ≡ item ∷ rest
    → number ≡ token.number → s' ≡ take_in s spilled number numbers item.0 → IsLogged told w b (take_in s spilled number numbers item.0) → IsWhole told w b s'
take_whole told w b s s' token number numbers item rest spilled sound list allowed kind first same is log =
    let to : s' ≡ take_in s spilled token.number numbers item.0 = is ∙ ap (λ (n : ℕ). take_in s spilled n numbers item.0) same in
    record {
      logged = λ still. subst (λ (v : State). IsLogged told w b v) (sym is) log;
      left = λ broken. absurd (still_not s s' (take_still s numbers allowed) (ap (λ (v : State). v.broken) is ∙ same_broken spilled) broken);
      sound = sound_then s (Take token (Ok (record { event = Some item.1; spilled = spilled }))) s' (take_moves s s' token numbers item rest spilled list allowed kind first to) sound;
      kind = ap (λ (v : State). v.rules.kind) is ∙ (same_kind spilled ∙ kind);
    }
  where
    same_kind : (b : Bool) → (settle_if b s).rules.kind ≡ s.rules.kind
    same_kind true = refl
    same_kind false = refl

    same_broken : (b : Bool) → (settle_if b s).broken ≡ s.broken
    same_broken true = refl
    same_broken false = refl
