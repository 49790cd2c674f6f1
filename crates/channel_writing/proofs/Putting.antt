-- A put leaves a channel whole, with or without a spill.
use Rattle.std.proofs.Common.{◌≡◌, ◌≤◌, ◌+◌, ◌++◌, ◌∷◌, [], ℕ, List, Option, Some, None, Ok, Err, Result, Bool, true, false, refl, sym, ◌∙◌, ap, subst, arith}
use Rattle.std.specs.Prelude.{IfErr}
use Rattle.std.proofs.lemmas.Bool.Decides.{nat_tests}
use Rattle.flume_host.specs.Told.{Told}
use Rattle.event_core.specs.Content.{Content, size}
use Rattle.event_core.specs.declared.journal.Entry.TheVariants.{Puts}
use Rattle.channel_log.specs.Writer.{HasRoom, Writer}
use Rattle.channel_face.specs.Token.{Token}
use Rattle.channel_face.specs.History.{Moves}
use Rattle.channel_face.specs.Machine.{State, Flush, Put, Admits, MaySpill, add_put, broken_state, puts_of, put_refusal, settle, settle_if, size_refusal, with_entry}
use Rattle.channel_face.specs.declared.replies.Kind.{Kind}
use Rattle.channel_face.specs.declared.replies.Kind.TheVariants.{File as OnFile, Memory as InMemory}
use Rattle.channel_face.specs.declared.replies.FlushRefused.{FlushRefused}
use Rattle.channel_face.specs.declared.replies.FlushRefused.TheVariants as FlushNo
use Rattle.channel_face.specs.declared.replies.PutRefused.TheVariants as PutNo
use Rattle.channel_face.specs.Sound.{IsSoundState}
use Rattle.txn_core.proofs.Kept.{put_allows}
use Rattle.channel_writing.specs.Written.{IsLogged, kept}
use Rattle.channel_writing.specs.Whole.{IsWhole}
use Rattle.channel_writing.proofs.Opens.{busy_most}
use Rattle.channel_writing.proofs.Whole.{sound_then, still_not}

-- at most 1024 transactions have records in the log
pub busy_few : (told : Option Told) (w : Writer) (b : ℕ) (s : State) → IsLogged told w b s → b ≤ 1024
busy_few told w b s log = omega (arith, log.busy_is, busy_most s.opened, log.few)

small : (k : Kind) (s : State) (event : Content) → k ≡ OnFile → size_refusal k s event ≡ None → size event ≤ 1048576
small OnFile s event kind none = grind (arith, nat_tests)
small InMemory s event kind none = absurd (cc)

-- a put that is not refused
pub put_may : (s : State) (events : List Content) (event : Content) → s.rules.kind ≡ OnFile → put_refusal s (Some events) event ≡ None → (s.broken ≡ false) × (size event ≤ 1048576)
put_may s events event kind allowed = let may = put_allows s events event allowed in (may.0, small s.rules.kind s event kind may.2)

-- an empty frame has room for each put
pub room_enough : (w : Writer) (b n : ℕ) (first : Bool) → w.bytes ≡ [] → n ≤ 1048576 → b ≤ 1024 → HasRoom w (n + 13 + kept b first)
room_enough w b n first empty few most = rw empty (from first)
  where
    from : (first : Bool) → 0 + (n + 13 + kept b first) + 6 ≤ 2097152
    from true = omega (arith, few, most)
    from false = omega (arith, few, most)

-- the state after a put, with or without a spill
abbrev pub put_in : State → Bool → ℕ → List Content → Content → State
put_in s spilled number events event = record (settle_if spilled s) { opened = with_entry number (Puts (events ++ event ∷ [])) (settle_if spilled s).opened }

-- a put that succeeded is a call of the channel
pub put_moves : (s s' : State) (token : Token) (events : List Content) (event : Content) (spilled : Bool) → puts_of s token ≡ Some events → put_refusal s (Some events) event ≡ None → s.rules.kind ≡ OnFile → s' ≡ put_in s spilled token.number events event → Moves true s (Put token event (Ok (record { spilled = spilled }))) s'
put_moves s s' token events event spilled list allowed kind is = record {
  admitted = (rw list allowed, subst (λ (k : Kind). MaySpill k spilled) (sym kind) tt);
  state = is ∙ ap (λ (l : Option (List Content)). add_put (settle_if spilled s) token.number l event) (sym list);
}

-- a put that failed for the disk is a call that breaks the channel
pub put_fails : (s s' : State) (token : Token) (events : List Content) (event : Content) → puts_of s token ≡ Some events → put_refusal s (Some events) event ≡ None → s.rules.kind ≡ OnFile → s' ≡ broken_state s → Moves true s (Put token event (Err PutNo.DiskFault)) s'
put_fails s s' token events event list allowed kind is = record { admitted = (rw list allowed, kind); state = is }

-- a put that its log has leaves the channel whole
pub put_whole : (told : Option Told) (w : Writer) (b : ℕ) (s s' : State) (token : Token) (number : ℕ) (events : List Content) (event : Content) (spilled : Bool) → IsSoundState s → puts_of s token ≡ Some events → put_refusal s (Some events) event ≡ None → s.rules.kind ≡ OnFile
    → number ≡ token.number → s' ≡ put_in s spilled number events event → IsLogged told w b (put_in s spilled number events event) → IsWhole told w b s'
put_whole told w b s s' token number events event spilled sound list allowed kind same is log =
    let to : s' ≡ put_in s spilled token.number events event = is ∙ ap (λ (n : ℕ). put_in s spilled n events event) same in
    record {
      logged = λ still. subst (λ (v : State). IsLogged told w b v) (sym is) log;
      left = λ broken. absurd (still_not s s' (put_may s events event kind allowed).0 (ap (λ (v : State). v.broken) is ∙ same_broken spilled) broken);
      sound = sound_then s (Put token event (Ok (record { spilled = spilled }))) s' (put_moves s s' token events event spilled list allowed kind to) sound;
      kind = ap (λ (v : State). v.rules.kind) is ∙ (same_kind spilled ∙ kind);
    }
  where
    same_kind : (b : Bool) → (settle_if b s).rules.kind ≡ s.rules.kind
    same_kind true = refl
    same_kind false = refl

    same_broken : (b : Bool) → (settle_if b s).broken ≡ s.broken
    same_broken true = refl
    same_broken false = refl

-- what the lists' flush leads to
pub flushed_state : (s s' : State) (reply : Result (Unit {0}) FlushRefused) → s.broken ≡ false → Moves true s (Flush reply) s' → IfErr reply (λ e. e ≡ FlushNo.Broken) → s' ≡ settle s
flushed_state s s' (Ok done) still moves refused = moves.state
flushed_state s s' (Err e) still moves refused =
    let broken : Admits true s (Flush (Err FlushNo.Broken)) = subst (λ (x : FlushRefused). Admits true s (Flush (Err x))) refused moves.admitted in
    absurd (differ (sym broken ∙ still))
  where
    differ : true ≡ false → ⊥
    differ is = absurd (cc)
