-- What a read of a link in memory does by its script.
use Rattle.std.proofs.Common.{◌≡◌, ◌≤◌, ℕ, List, length, get_or, inl, inr, refl, Result, Ok, Err, IfOk, OnErr, arith}
use Rattle.flume_host.specs.declared.names.Failed.{Failed}
use Rattle.flume_host.specs.declared.link.LinkRead.{LinkRead}
use Rattle.flume_host.specs.declared.link.LinkRead.TheVariants.{Got, End, Quiet}
use Rattle.flume_host.specs.Links.{FitsIn}
use Rattle.host_memory.specs.declared.mem_link.MemLink.{MemLink}
use Rattle.host_memory.specs.declared.mem_link.LinkStep.{LinkStep}
use Rattle.host_memory.specs.declared.mem_link.LinkStep.TheVariants as Step
use Rattle.host_memory.specs.Links.{Place, Reads, ReadsStep, IsPiece, FollowsScript, MayFail, link_place}

-- where bytes are given, a piece has some left
step_gives : (s : LinkStep) (p q : Place) (into : List ℕ) (n : ℕ) → 1 ≤ n → ReadsStep s p q into (Ok (Got n)) → IsPiece s p
step_gives (Step.Piece bytes) p q into n some reads = omega (arith, some, reads.0)
step_gives Step.Quiet p q into n some reads = cc
step_gives Step.Fail p q into n some reads = cc
step_gives (Step.Hold flag) p q into n some reads = cc

-- a read that answers what is due, or may fail, follows the script
pub follows_note : (old new : MemLink) (into : List ℕ) (read : LinkRead) (result : Result LinkRead Failed) → FitsIn read (length into) → Reads old.steps.items (link_place old) (link_place new) into (Ok read) → IfOk result (λ r. r ≡ read) → OnErr result (MayFail read old.quiets old.ends) → FollowsScript old new into result
follows_note old new into read (Ok r) fits reads is may = inl (rw is reads)
follows_note old new into (Got n) (Err failed) fits (inl reads) is may = cc
follows_note old new into (Got n) (Err failed) fits (inr reads) is may = inr (refl, inl (λ d. step_gives (get_or old.steps.items old.step d) (link_place old) (link_place new) into n fits.0 (reads.1 d)))
follows_note old new into Quiet (Err failed) fits reads is may = inr (refl, inr (inl may))
follows_note old new into End (Err failed) fits reads is may = inr (refl, inr (inr may))
