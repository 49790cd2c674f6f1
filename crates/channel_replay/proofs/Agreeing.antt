-- Replays that start at two places agree after the later one.
use Rattle.std.proofs.Common.{inl, inr, ◌≡◌, ◌++◌, ◌∷◌, [], List, length, refl, sym, ◌∙◌, ap, subst}
use Rattle.event_core.specs.Journal.{Base, after_journal}
use Rattle.event_core.specs.declared.journal.Entry.{Entry}
use Rattle.channel_face.proofs.LawLemmas.{after_none}
use Rattle.channel_replay.specs.Marks.{Dropped, Past, journal, open_txns, opened}
use Rattle.channel_replay.specs.Recover.{AreSound, past_line, past_lines, replayed}
use Rattle.channel_replay.specs.declared.line.Line.{Line}
use Rattle.channel_replay.specs.declared.line.Line.TheVariants.{Begins}
use Rattle.channel_replay.proofs.Lines.{fault_append, past_lines-append, sound_append}
use Rattle.channel_replay.specs.Start.{IsStart, Start, start_past}
use Rattle.channel_replay.specs.StartLaws.{BeginsLife, Follows, FaultIsOneForBoth, FollowingGoesOn, NewLifeAgrees, StartsAgree}
use Rattle.channel_replay.proofs.Alike.{Alike, alike_back, alike_fault, alike_lines}
use Rattle.channel_replay.proofs.Ordered.{IsOrdered, ordered_lines}
use Rattle.channel_replay.proofs.Starts.{open_commits_none, start_as_many, start_each, start_ordered}

-- what a start has left, by its marks
start_leaves : (s : Start) → after_journal s.base (journal (start_past s)) ≡ s.base
start_leaves s = ap (λ (j : List Entry). after_journal s.base j) (open_commits_none s.opened []) ∙ after_none s.base

-- where a start follows another, its place is like the one that the earlier start and the lines lead to
pub alike_starts : (s later : Start) (between : List Line) → IsStart s → IsStart later → AreSound s.base (start_past s) between → Follows s between later
    → Alike s.base (past_lines (start_past s) between) later.base (start_past later)
alike_starts s later between is is_later sound follows = record {
  leaves = sym follows.base ∙ sym (start_leaves later);
  each = λ t. sym (follows.each t) ∙ sym (start_each later t is_later);
  as_many = sym follows.as_many ∙ sym (start_as_many later is_later);
  first = ordered_lines s.base (start_past s) between sound (start_ordered s is);
  second = start_ordered later is_later;
}

sound_behind : (base : Base) (past : Past) (a b : List Line) → AreSound base past (a ++ b) → AreSound base (past_lines past a) b
sound_behind base past [] b sound = sound
sound_behind base past (line ∷ a) b sound = sound_behind base (past_line past line) a b sound.1

-- what lines leave after others
replayed_behind : (s : Start) (a b : List Line) → replayed s (a ++ b) ≡ after_journal s.base (journal (past_lines (past_lines (start_past s) a) b))
replayed_behind s a b = ap (λ (p : Past). after_journal s.base (journal p)) (past_lines-append (start_past s) a b)

-- replays from an earlier and from a following start are sound together, and leave the same
pub starts_agree : StartsAgree
starts_agree s later between rest is is_later sound follows =
    let al = alike_starts s later between is is_later sound follows in
    let p : Past = past_lines (start_past s) between in
    let back = alike_back s.base p later.base (start_past later) al in (
      (
        λ all. (alike_lines s.base p later.base (start_past later) rest al (sound_behind s.base (start_past s) between rest all)).0,
        λ behind. sound_append s.base (start_past s) between rest sound (alike_lines later.base (start_past later) s.base p rest back behind).0,
      ),
      λ behind. replayed_behind s between rest ∙ sym (alike_lines later.base (start_past later) s.base p rest back behind).1.leaves,
    )

-- a first fault after the later start is the first one after the earlier start too
pub one_fault : FaultIsOneForBoth
one_fault s later between rest file at is is_later sound follows fault =
    let al = alike_starts s later between is is_later sound follows in
    let p : Past = past_lines (start_past s) between in
    fault_append s.base (start_past s) between rest file at sound (alike_fault later.base (start_past later) s.base p rest file at (alike_back s.base p later.base (start_past later) al) fault)

-- after the begin of a life nothing is open
alike_begun : (s later : Start) (between : List Line) → IsStart s → IsStart later → AreSound s.base (start_past s) between → later.base ≡ replayed s between
    → Alike later.base (Dropped ∷ start_past later) s.base (Dropped ∷ past_lines (start_past s) between)
alike_begun s later between is is_later sound same =
    let p : IsOrdered s.base (past_lines (start_past s) between) = ordered_lines s.base (start_past s) between sound (start_ordered s is) in
    let q : IsOrdered later.base (start_past later) = start_ordered later is_later in
    record {
      leaves = start_leaves later ∙ same;
      each = λ t. refl;
      as_many = refl;
      first = record { rising = q.rising; held = λ t n more. refl; taken = q.taken };
      second = record { rising = p.rising; held = λ t n more. refl; taken = p.taken };
    }

-- where a new life begins after a later start, that start needs only to have what is left
pub new_life_agrees : NewLifeAgrees
new_life_agrees s later between rest is is_later sound same begins behind = from begins
  where
    Agrees : List Line → Type 0
    Agrees lines = AreSound s.base (start_past s) (between ++ lines) × (replayed s (between ++ lines) ≡ replayed later lines)

    none : Agrees []
    none = (sound_append s.base (start_past s) between [] sound tt, replayed_behind s between [] ∙ (sym same ∙ sym (start_leaves later)))

    some : (more : List Line) → AreSound later.base (start_past later) (Begins ∷ more) → Agrees (Begins ∷ more)
    some more behind =
        let p : Past = past_lines (start_past s) between in
        let both = alike_lines later.base (Dropped ∷ start_past later) s.base (Dropped ∷ p) more (alike_begun s later between is is_later sound same) behind.1 in
        (sound_append s.base (start_past s) between (Begins ∷ more) sound (tt, both.0), replayed_behind s between (Begins ∷ more) ∙ sym both.1.leaves)

    from : BeginsLife rest → Agrees rest
    from (inl is) = subst Agrees (sym is) none
    from (inr is) = subst Agrees (sym is.1) (some is.0 (subst (λ (l : List Line). AreSound later.base (start_past later) l) is.1 behind))

-- a start that follows one that follows a first start follows the first one too
pub goes_on : FollowingGoesOn
goes_on s mid later between more is is_mid sound first sound_more second =
    let al = alike_starts s mid between is is_mid sound first in
    let p : Past = past_lines (start_past s) between in
    let both = alike_lines mid.base (start_past mid) s.base p more (alike_back s.base p mid.base (start_past mid) al) sound_more in
    let there : past_lines (start_past s) (between ++ more) ≡ past_lines p more = past_lines-append (start_past s) between more in
    record {
      base = second.base ∙ (both.1.leaves ∙ sym (replayed_behind s between more));
      each = λ t. second.each t ∙ (both.1.each t ∙ sym (ap (opened t) there));
      as_many = second.as_many ∙ (both.1.as_many ∙ sym (ap (λ (q : Past). length (open_txns q)) there));
    }
