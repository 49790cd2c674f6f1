-- A session is one dialogue, and its bytes are cut in one way.
use Rattle.std.proofs.Common.{◌≡◌, ◌∙◌, ℕ, Bool, List, [], ◌∷◌, ◌++◌, Option, refl, sym, ap, subst, append_assoc}
use Rattle.event_core.specs.Content.{Content}
use Rattle.source_put.specs.declared.intake.Verdict.{Verdict}
use Rattle.avro_frame.specs.Pack.{pack}
use Rattle.avro_frame.specs.Feed.{Holds}
use Rattle.avro_frame.specs.Stream.{IsCut, InPack, Pack}
use Rattle.avro_hop.specs.declared.hop.Asked.{Asked}
use Rattle.avro_hop.specs.declared.hop.Asked.TheVariants.{Reply, Events}
use Rattle.avro_hop.specs.Connection.{IsDialogue, Silent, Answered, Waits, Sends}
use Rattle.avro_ends.specs.Exchanges.{Exchange, Exchanges, Replies}
use Rattle.avro_ends.specs.Laws.{messages_of, replies_of, statuses_of, told_of, one_of, SendsReplies, CutsIntoMessages}

module _ {S : Type 0} (Takes : S → List Content → Verdict → S → Type 0) where
  sends : (asked : Asked) (old new : S) (verdict : Option Verdict) (reply : List ℕ) → Replies Takes asked old verdict reply new → Sends asked (told_of verdict) reply
  sends (Reply bytes) old new verdict reply (none, is, same) = (ap told_of none, is)
  sends (Events front batch) old new verdict reply (v, status, some, takes, answered, is) = (status, ap told_of some ∙ ap one_of answered, is)

  waits : (greeted after : Bool) → after ≡ greeted → IsDialogue greeted [] [] [] (Waits after)
  waits greeted after same = let P : Bool → Type 0 = λ b. IsDialogue greeted [] [] [] (Waits b) in subst P (sym same) (Silent greeted)

  -- the messages that were answered, with their verdicts and replies, are one dialogue
  pub one_dialogue : (greeted after : Bool) (old new : S) (done : List Exchange) → Exchanges Takes greeted old done after new → IsDialogue greeted (messages_of done) (statuses_of done) (replies_of done) (Waits after)
  one_dialogue greeted after old new [] (same, still) = waits greeted after same
  one_dialogue greeted after old new (x ∷ done) (next, state, (asked, answers, replies), more) =
      Answered greeted next x.serial x.payload x.reply asked (told_of x.verdict) (statuses_of done) (messages_of done) (replies_of done) (Waits after) answers (sends asked old state x.verdict x.reply replies) (one_dialogue next after state new done more)

-- what a link gave is cut into the messages that were answered and the part behind them
pub cuts_into : CutsIntoMessages
cuts_into front rest [] none part = let P : List ℕ → Type 0 = λ l. IsCut (l ++ rest) [] (Holds rest) in subst P (sym none) (InPack rest part)
cuts_into front rest (x ∷ done) (first, behind, split, is, more) part =
    let P : List ℕ → Type 0 = λ l. IsCut l (messages_of (x ∷ done)) (Holds rest) in
    subst P (sym (ap (λ (l : List ℕ). l ++ rest) split ∙ append_assoc first behind rest)) (Pack first (behind ++ rest) x.payload x.serial (messages_of done) (Holds rest) is (cuts_into behind rest done more part))

-- what a link took are the packs of the dialogue's replies
pub sends_replies : SendsReplies
sends_replies [] = refl
sends_replies (x ∷ done) = ap (λ (l : List ℕ). pack x.serial (x.reply ∷ []) ++ l) (sends_replies done)
