-- What a folder follows once its channel is opened.
use Rattle.std.proofs.Common.{◌≡◌, ◌≤◌, ◌+◌, ◌∷◌, [], ℕ, zero, suc, List, take, Option, Some, None, refl, sym, ◌∙◌, ap, subst, arith, append-nil, length-append}
use Rattle.std.proofs.lemmas.List.{get_or_past}
use Rattle.std.proofs.lemmas.List.Elements.{All-nil}
use Rattle.flume_host.specs.Folder.{Files, Folder, IsImage}
use Rattle.flume_host.specs.Told.{EachMoment, Settle, Tells, Told, clock, done, moment_of, under_way}
use Rattle.flume_host.proofs.Moments.{clock_rises}
use Rattle.flume_host.proofs.Telling.{back, tells_more}
use Rattle.event_core.specs.Journal.{Base, after_journal}
use Rattle.event_core.specs.declared.journal.Entry.{Entry}
use Rattle.channel_face.specs.History.{Opening, Shows, opening}
use Rattle.channel_face.specs.Machine.{Rules, is_some_of}
use Rattle.channel_face.proofs.LawLemmas.{after_none}
use Rattle.channel_writing.specs.Folders.{IsAsBefore, Opens, OpensFrom, OpensTo}
use Rattle.channel_writing.specs.Touches.{Rests}
use Rattle.channel_writing.specs.Stands.{MayFind}
use Rattle.file_channel.specs.Stands.{FileState, StandsOver}
use Rattle.line_session.specs.Handled.{Handled}
use Rattle.agent_commands.specs.Handled.{GoesOn}
use Rattle.agent_commands.specs.Puts.{BeginsOver}
use Rattle.agent_commands.specs.Stored.{GivesFront, GivesLines, Holds, behind, default_limits}
use Rattle.agent_commands.specs.Trails.{Began}
use Rattle.agent_commands.proofs.Idle.{Follows, IsIdle, Stands}

behind_none : (base : Base) → behind base [] ≡ base
behind_none base = λ i. record { items = append-nil base.items i; first = first i }
  where
    first : base.first + 0 ≡ base.first
    first = omega arith

abbrev pub no_entries : List Entry
no_entries = []

none_taken : (k : ℕ) → take k no_entries ≡ no_entries
none_taken zero = refl
none_taken (suc k) = refl

-- a channel that was opened and made no call is idle
pub idle_at_first : (before : Option Told) (o : Opening) → BeginsOver before o → IsIdle (opening o)
idle_at_first before o b = record { kind = ap (λ (r : Rules). r.kind) b.rules; limits = ap (λ (r : Rules). r.limits) b.rules; opened = refl; staged = refl; whole = refl }

-- what the calls of no line may leave is the base
found_none : (start : Opening) (image : Files) → MayFind start [] image → GivesLines start.base [] image
found_none start image may =
    let found : may.0 ≡ start.base = may.3.1 ∙ ap (λ (l : List Entry). after_journal start.base l) (none_taken may.3.0) ∙ after_none start.base in
    (may.1, subst (λ (b : Base). OpensTo image b may.1) (found ∙ sym (behind_none start.base)) may.2)

no_front : (base : Base) (image : Files) → GivesLines base [] image → GivesFront base [] [] image
no_front base image gives = record { more = []; rest = []; first = refl; one = omega arith; gives = gives }

-- the channel was opened as this, and made no call
begins : (told : Option Told) (faults : ℕ) (c : FileState) (o : Opening) (stands : StandsOver told faults c o []) (t u : Told) → told ≡ Some u → o.from ≡ clock t + 1 → o.from ≤ clock u → Opens t.reads default_limits.capacity o.base o.txn
    → Follows [] [] (opening o) t u
begins told faults c o stands t u is_u from later opens =
    let since : EachMoment (clock t + 1) (λ m image. GivesFront o.base [] [] image) u = λ m image low left. no_front o.base image (found_none o image (stands.images u is_u m image (omega (arith, from, low)) left)) in
    record {
      holds = record {
        base = o.base;
        txn = o.txn;
        opens = opens;
        acks = [];
        refused = [];
        split = refl;
        since = since;
        now = λ image left. since (clock u) image (omega (arith, from, later)) (subst (λ (x : Folder). IsImage x image) (sym (get_or_past u.past (clock u) u.now (omega arith))) left);
        room = λ n below. absurd (omega (arith, below));
        ends = λ some. absurd (omega (arith, some));
      };
      base = sym (behind_none o.base);
      txn = omega arith;
      exact = λ _. omega arith;
      moments = tt;
    }

-- a channel that was opened had been settled
pub began : (before told : Option Told) (faults : ℕ) (c : FileState) (o : Opening) → StandsOver told faults c o [] → Shows (StandsOver told faults c) (Rests told) → o.from ≡ moment_of before + 1 → Tells before told OpensFrom → Began told o
began before told faults c o stands rests from settled = record {
  faults = faults;
  channel = c;
  stands = stands;
  rests = rests o [] stands;
  settled = λ u is_u.
      let was = back before told OpensFrom settled u is_u in
      let t : Told = was.0 in
      let rises = clock_rises (done Settle t) u (IsAsBefore t.reads) was.2 in
      let one = length-append t.past (under_way Settle t.now ∷ []) in
      let here : moment_of before ≡ clock t = ap moment_of was.1 in
      omega (arith, rises, one, from, here);
}

-- a disk shows its contents afterwards where it did before
pub tells_as : (before told : Option Told) (P : Told → Told → Type 0) → Tells before told P → is_some_of told ≡ is_some_of before
tells_as None None P tells = refl
tells_as None (Some u) P tells = absurd tells
tells_as (Some t) None P tells = absurd tells
tells_as (Some t) (Some u) P tells = refl

-- what tells where another does
tells_by : (before told : Option Told) (P : Told → Told → Type 0) → is_some_of before ≡ is_some_of told → ((t u : Told) → before ≡ Some t → told ≡ Some u → P t u) → Tells before told P
tells_by None None P same each = tt
tells_by None (Some u) P same each = absurd (cc)
tells_by (Some t) None P same each = absurd (cc)
tells_by (Some t) (Some u) P same each = each t u refl refl

follows_at_first : (before told : Option Told) (o : Opening) → BeginsOver before o → Began told o → Tells before told (Follows [] [] (opening o))
follows_at_first before told o b began =
    tells_by before told (Follows [] [] (opening o)) (sym b.tells ∙ began.stands.tells)
    (λ t u is_t is_u. begins told began.faults began.channel o began.stands t u is_u (b.from ∙ ap (λ (v : Option Told). moment_of v + 1) is_t) (began.settled u is_u) (b.opens t is_t))

-- a folder that was opened holds no lines yet, and none is in doubt
pub holds_at_first : (before told : Option Told) (o : Opening) → BeginsOver before o → Began told o → Tells before told (Holds [] [])
holds_at_first before told o b began = tells_more before told (Follows [] [] (opening o)) (Holds [] []) (λ t u _ _ f. f.holds) (follows_at_first before told o b began)

-- before the first line a store stands for what its folder opened to
pub stands_at_first : (before told : Option Told) (o : Opening) → BeginsOver before o → Began told o → Stands before told [] (opening o)
stands_at_first before told o b began = record {
  first = [];
  last = [];
  split = refl;
  going = All-nil GoesOn;
  one = omega arith;
  stops = All-nil (λ (h : Handled). GoesOn h.verdict → ⊥);
  holds = holds_at_first before told o b began;
  goes_on = λ _. follows_at_first before told o b began;
}
