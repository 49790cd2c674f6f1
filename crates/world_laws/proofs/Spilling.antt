-- A call that came to a flush is a flush and then a call that came to none; and what a call leads to is reached.
use Rattle.std.proofs.Common.{◌≡◌, ◌<◌, ◌++◌, ◌∷◌, [], ℕ, List, Option, Some, None, Ok, true, false, refl, sym, ◌∙◌, ap, subst, arith}
use Rattle.std.proofs.lemmas.List.{append-nil}
use Rattle.std.proofs.lemmas.Bool.Decides.{nat_tests}
use Rattle.event_core.specs.Content.{Content}
use Rattle.event_core.specs.Journal.{put_events, taken_numbers, without, numbered}
use Rattle.channel_face.specs.Token.{Token}
use Rattle.channel_face.specs.Machine.{State, Call, Put, Take, Flush, Admits, MaySpill, after, base_of, settle, count, put_refusal, size_refusal, puts_of, takes_of, entries, free, first_event, add_take}
use Rattle.channel_face.specs.History.{Step as Made, opening}
use Rattle.channel_face.specs.Laws.{KeepsFront}
use Rattle.channel_face.specs.declared.replies.Kind.{Kind}
use Rattle.channel_face.specs.declared.replies.Kind.TheVariants.{File as OnFile}
use Rattle.channel_face.proofs.Adding.{run-push, state-push}
use Rattle.channel_face.proofs.Numbers.{times-append, without-append, without-both}
use Rattle.channel_face.proofs.Within.{left_size}
use Rattle.world_laws.specs.Agrees.{IsReached, SpillsAreFlushes}
use Rattle.world_laws.proofs.Histories.{all_push}
use Rattle.world_laws.proofs.Fitting.{put_allows}
use Rattle.world_laws.proofs.Agreeing.{put_whole, take_whole, put_free, without_same}

no_spill : (kind : Kind) → kind ≡ OnFile → MaySpill kind false
no_spill kind is = subst (λ (k : Kind). MaySpill k false) (sym is) tt

-- a put that is not refused finds room
room_of : (k : Kind) (s : State) (e : Content) → k ≡ OnFile → size_refusal k s e ≡ None → count s < s.rules.limits.capacity
room_of OnFile s e is none = grind (arith, nat_tests)
room_of other s e is none = absurd (cc)

put_room : (s : State) (events : List Content) (e : Content) → s.rules.kind ≡ OnFile → put_refusal s (Some events) e ≡ None → count s < s.rules.limits.capacity
put_room s events e kind none = room_of s.rules.kind s e kind (grind (arith, nat_tests))

module _ (s : State) (kind : s.rules.kind ≡ OnFile) where
  put_spills :
      (token : Token) (e : Content) → Admits true s (Put token e (Ok (record { spilled = true })))
      → Admits true s (Flush (Ok tt)) × Admits true (settle s) (Put token e (Ok (record { spilled = false })))
      × (after s (Put token e (Ok (record { spilled = true }))) ≡ after (settle s) (Put token e (Ok (record { spilled = false }))))
  put_spills token e may =
      let a = put_allows s (puts_of s token) e kind may.0 in
      let room = put_room s a.0 e kind (ap (λ (p : Option (List Content)). put_refusal s p e) (sym a.1) ∙ may.0) in
      let whole = put_whole s (puts_of s token) e may.0 in
      let size = left_size (base_of s) s.staged in
      let free_one : put_refusal (settle s) (Some a.0) e ≡ None = put_free (settle s) a.0 e whole a.2 kind a.3 (omega (arith, room, size)) in
      (whole, (ap (λ (p : Option (List Content)). put_refusal (settle s) p e) a.1 ∙ free_one, no_spill s.rules.kind kind), refl)

  -- what is free stays so, and stands first
  free_settled : (more : List (ℕ × Content)) × (free (settle s) ≡ free s ++ more)
  free_settled =
      let held : List ℕ = taken_numbers (entries s.opened) in
      let staged : List ℕ = taken_numbers s.staged in
      let new : List (ℕ × Content) = numbered s.first (put_events s.staged) in
      let all : List (ℕ × Content) = s.items ++ new in
      let a : free (settle s) ≡ without held (without staged all) = ap (λ (l : List ℕ). without l (without staged all)) (append-nil held) in
      let b : without held (without staged all) ≡ without (staged ++ held) all = sym (without-both staged held all) in
      let c : without (staged ++ held) all ≡ without (staged ++ held) s.items ++ without (staged ++ held) new = without-append (staged ++ held) s.items new in
      let d : without (staged ++ held) s.items ≡ free s = without_same (staged ++ held) (held ++ staged) s.items (λ n. let x = times-append n staged held in let y = times-append n held staged in omega (arith, x, y)) in
      (without (staged ++ held) new, a ∙ (b ∙ (c ∙ ap (λ (l : List (ℕ × Content)). l ++ without (staged ++ held) new) d)))

  one_taken : (number : ℕ) (takes : Option (List ℕ)) (item : ℕ × Content) (xs ys : List (ℕ × Content)) → add_take (settle s) number takes (item ∷ xs) ≡ add_take (settle s) number takes (item ∷ ys)
  one_taken number None item xs ys = refl
  one_taken number (Some numbers) item xs ys = refl

  take_spills :
      (token : Token) (e : Content) → Admits true s (Take token (Ok (record { event = Some e; spilled = true })))
      → Admits true s (Flush (Ok tt)) × Admits true (settle s) (Take token (Ok (record { event = Some e; spilled = false })))
      × (after s (Take token (Ok (record { event = Some e; spilled = true }))) ≡ after (settle s) (Take token (Ok (record { event = Some e; spilled = false }))))
  take_spills token e may = from (free s) refl may.1
    where
      from : (items : List (ℕ × Content)) → free s ≡ items → Some e ≡ first_event (free s)
          → Admits true s (Flush (Ok tt)) × Admits true (settle s) (Take token (Ok (record { event = Some e; spilled = false })))
          × (after s (Take token (Ok (record { event = Some e; spilled = true }))) ≡ after (settle s) (Take token (Ok (record { event = Some e; spilled = false }))))
      from [] is gives = let bad : Some e ≡ None = gives ∙ ap first_event is in absurd (cc)
      from (item ∷ items) is gives =
          let behind = free_settled in
          let later : free (settle s) ≡ item ∷ (items ++ behind.0) = behind.1 ∙ ap (λ (l : List (ℕ × Content)). l ++ behind.0) is in
          let first : Some e ≡ first_event (free (settle s)) = gives ∙ (ap first_event is ∙ sym (ap first_event later)) in
          let same : add_take (settle s) token.number (takes_of s token) (free s) ≡ add_take (settle s) token.number (takes_of s token) (free (settle s)) =
          ap (λ (l : List (ℕ × Content)). add_take (settle s) token.number (takes_of s token) l) is
          ∙ (one_taken token.number (takes_of s token) item items (items ++ behind.0) ∙ ap (λ (l : List (ℕ × Content)). add_take (settle s) token.number (takes_of s token) l) (sym later)) in
          (take_whole s (takes_of s token) may.0, (may.0, first, no_spill s.rules.kind kind, tt), same)

  -- a put or a take that came to a flush is that flush and one that came to none
  pub spills : SpillsAreFlushes s
  spills = record { put = put_spills; take = take_spills }

-- one more call from a reached state leads to a reached one
pub reached_on : (s : State) (call : Call) → IsReached s → Admits true s call → KeepsFront call → IsReached (after s call)
reached_on s call r may front =
    let m : Made = record { pass = 0; call = call; moment = 0 } in
    record {
      start = r.start;
      calls = r.calls ++ m ∷ [];
      base = r.base;
      within = r.within;
      kind = r.kind;
      run = run-push true (opening r.start) r.calls m r.run (subst (λ (x : State). Admits true x call) (sym r.state) may);
      fronts = all_push r.calls m r.fronts front;
      state = state-push (opening r.start) r.calls m ∙ ap (λ (x : State). after x call) r.state;
    }
