-- The turns of a worker of lines: a line that is taken, and mends of its channels.
use Rattle.std.specs.Prelude.{◌≡◌, ◌||◌, ℕ, List, [], Bool, true, false}
use Rattle.channel_face.specs.declared.replies.BeginRefused.TheVariants as begin
use Rattle.channel_face.specs.declared.replies.PutRefused.TheVariants as put
use Rattle.channel_face.specs.declared.replies.TakeRefused.TheVariants as take
use Rattle.channel_face.specs.declared.replies.StageCause.TheVariants as stage
use Rattle.channel_face.specs.declared.replies.FaceRefused.{FaceRefused}
use Rattle.channel_face.specs.declared.replies.FaceRefused.TheVariants.{Begin, Put, Take, Stage, InDoubt}
use Rattle.source_put.specs.declared.intake.Verdict.{Verdict}
use Rattle.source_put.specs.declared.intake.Verdict.TheVariants.{Refused}
use Rattle.netcat_source.specs.Judged.{said_of}
use Rattle.netcat_source.specs.declared.lines.LineVerdict.{LineVerdict}
use Rattle.source_worker.specs.Rounds.{Answer, any_refused}

-- a call found the channel broken
abbrev pub is_broken : FaceRefused → Bool
is_broken (Begin begin.Broken) = true
is_broken (Put put.Broken) = true
is_broken (Take take.Broken) = true
is_broken (Stage stage.Broken) = true
is_broken refused = false

-- a channel was broken, or a commit was left in doubt
abbrev pub needs_mend : Verdict → Bool
needs_mend (Refused channel InDoubt) = true
needs_mend (Refused channel cause) = is_broken cause
needs_mend verdict = false

-- Whether mends follow a line: where its verdict asks for them, and none was refused just before it.
abbrev pub is_due : Bool → Verdict → Bool
is_due true verdict = false
is_due false verdict = needs_mend verdict

-- a worker between two lines: where its lines go, and whether a mend was refused that is to be tried again
pub record Feeding (S : Type 0) : Type 0 where
  pub into : S
  pub due : Bool

-- mends exactly where they are due
abbrev pub MendsWhere : {S : Type 0} → (S → List Answer → S → Type 0) → Bool → S → List Answer → S → Type 0
MendsWhere Mends true old answers new = Mends old answers new
MendsWhere Mends false old answers new = (answers ≡ []) × (new ≡ old)

module _ {S : Type 0} (Takes : S → List ℕ → Verdict → S → Type 0) (Mends : S → List Answer → S → Type 0) where
  -- One line: mends before it where one was refused earlier, then the line, and mends after it where its verdict asks for
  -- them. Where a mend before it was refused, none follows it.
  pub record TakesTurn (old : Feeding S) (line : List ℕ) (said : LineVerdict) (new : Feeding S) : Type 0 where
    pub first : List Answer
    pub last : List Answer
    pub verdict : Verdict
    pub before : S
    pub behind : S
    pub again : MendsWhere Mends old.due old.into first before
    pub takes : Takes before line verdict behind
    pub mends : MendsWhere Mends (is_due (any_refused first) verdict) behind last new.into
    pub due : new.due ≡ (any_refused first || any_refused last)
    pub answered : said ≡ said_of verdict
