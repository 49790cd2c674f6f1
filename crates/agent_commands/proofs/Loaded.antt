-- What a run of `load` comes to, on its folder and at its host.
use Rattle.std.proofs.Common.{◌≡◌, ◌≢◌, ◌⊎◌, inl, inr, ◌≤◌, ℕ, [], Option, Some, None, Result, Ok, Err, Bool, true, false, refl, sym, ◌∙◌, ap, subst, arith}
use Rattle.std.specs.Prelude.{String}
use Rattle.std.specs.Global.{Global}
use Rattle.flume_host.specs.Causes.{Counts, RisesWhere, Rose}
use Rattle.flume_host.specs.HostState.{HostState}
use Rattle.flume_host.specs.Told.{Tells, Told}
use Rattle.flume_host.proofs.Telling.{tells_more}
use Rattle.channel_face.specs.History.{Opening, opening}
use Rattle.channel_face.specs.declared.replies.OpenCause.{OpenCause}
use Rattle.channel_face.specs.declared.replies.OpenCause.TheVariants as causes
use Rattle.channel_writing.specs.Folders.{IsRefused, OpensFrom, OpensOver, StaysAs}
use Rattle.file_channel.specs.Stands.{FileState}
use Rattle.channel_laws.proofs.Until.{counted_calls_leave}
use Rattle.load_gen.specs.declared.refused.LoadRefused.{LoadRefused}
use Rattle.shared_channel.specs.Passes.{Known}
use Rattle.agent_words.specs.Statuses.{cause_status}
use Rattle.agent_commands.specs.Loads.{IsClosedAtOnce, IsLeftClosed, Ran, RanOn, as_cause, load_status, refused_status}
use Rattle.agent_commands.specs.Puts.{BeginsOver}
use Rattle.agent_commands.specs.Stored.{IsOfFolder, IsRefusedFolder, IsUnopened, default_limits}
use Rattle.agent_commands.specs.Trails.{StandsTraced}
use Rattle.agent_commands.specs.declared.load.LoadCause.{LoadCause}
use Rattle.agent_commands.specs.declared.load.LoadCause.TheVariants.{Unopened}
use Rattle.agent_commands.proofs.Loading.{Closing, cause_three, faulty_cause, trail_rests}
use Rattle.agent_commands.proofs.Outcomes.{same_files, stays, tells_both, untouched}

-- the folder's part, by the generator's answer
pub ran_on : (n : ℕ) (before told : Option Told) (faults : ℕ) (start : Opening) (w : Known) (answer : Result (String Global) LoadRefused) → Closing n before told faults start w answer → RanOn n before told (Some w) (as_cause answer)
ran_on n before told faults start w (Ok text) c = (w, refl, c.loads)
ran_on n before told faults start w (Err why) c = (w, refl, c.loads)

-- what a status says of the disk's faults
by_three : (b : Bool) (status before now : ℕ) → ((b ≡ true) × (status ≡ 3)) ⊎ ((b ≡ false) × (status ≢ 3)) → before ≤ now → (b ≡ true → Rose before now) → (b ≡ false → now ≡ before) → RisesWhere (status ≡ 3) before now
by_three b status before now (inl both) later rose same = record { later = later; rose = λ _. rose both.0; same = λ other. absurd (other both.1) }
by_three b status before now (inr both) later rose same = record { later = later; rose = λ is. absurd (both.1 is); same = λ _. same both.0 }

-- the disk's faults, by the generator's answer
pub ran_faults : (n : ℕ) (before told : Option Told) (faults : ℕ) (start : Opening) (w : Known) (answer : Result (String Global) LoadRefused) → Closing n before told faults start w answer → RisesWhere (load_status (as_cause answer) ≡ 3) start.faults faults
ran_faults n before told faults start w (Ok text) c = by_three false 0 start.faults faults (inr (refl, λ is. omega (arith, is))) c.later c.rose c.same
ran_faults n before told faults start w (Err why) c = by_three (faulty_cause why) (refused_status why) start.faults faults which c.later c.rose c.same
  where
    which : ((faulty_cause why ≡ true) × (refused_status why ≡ 3)) ⊎ ((faulty_cause why ≡ false) × (refused_status why ≢ 3))
    which = elim (cause_three why c.own) [
      | inl both ↦ inl both
      | inr both ↦ inr (both.0, λ is. elim both.1 [ inl four ↦ omega (arith, is, four) | inr five ↦ omega (arith, is, five) ])
    ]

-- a channel that was closed before any call
pub closed_once : (before told : Option Told) (faults : ℕ) (c : FileState) (start : Opening) (P : Opening → Type 0) → StandsTraced told faults c start [] → BeginsOver before start → P start → IsClosedAtOnce before told P
closed_once before told faults c start P st begins p = (start, begins, counted_calls_leave told faults c start [] ([], st.stands, refl), trail_rests (opening start) st.first told [] st.began.rests st.trail, p)

-- a folder that was not opened
pub left_closed : (before after : Option Told) (a b : ℕ) (cause : OpenCause) → IsRefused before after a b default_limits.capacity cause → (cause ≡ causes.DiskFault) ⊎ Tells before after OpensFrom → IsLeftClosed before after cause
left_closed before after a b cause r settled = record {
  unopened = tells_more before after (λ t u. StaysAs cause t.reads u.reads × OpensOver t u) IsUnopened (λ t u _ _ p. record { reads = stays cause t.reads u.reads p.0; images = p.1 }) (tells_both before after (λ t u. StaysAs cause t.reads u.reads) OpensOver r.stays r.images);
  refused = λ of. elim settled [
    | inl disk ↦ absurd (subst IsOfFolder disk of)
    | inr from ↦ tells_more before after (λ t u. StaysAs cause t.reads u.reads × OpensFrom t u) IsRefusedFolder
        (λ t u is_t _ p. record { cause = cause; folder = of; why = r.why t is_t; reads = same_files cause t.reads u.reads of p.0; images = p.1 }) (tells_both before after (λ t u. StaysAs cause t.reads u.reads) OpensFrom r.stays from)
  ];
}

-- its faults
pub left_faults : (before after : Option Told) (a b : ℕ) (cause : OpenCause) → IsRefused before after a b default_limits.capacity cause → RisesWhere (cause_status cause ≡ 3) a b
left_faults before after a b causes.DiskFault r = record { later = r.later; rose = λ _. r.fault refl; same = λ other. absurd (other refl) }
left_faults before after a b (causes.BadCheck file at) r = record { later = r.later; rose = λ is. absurd (omega (arith, is)); same = λ _. r.well (λ e. cc) }
left_faults before after a b (causes.BadLog file at) r = record { later = r.later; rose = λ is. absurd (omega (arith, is)); same = λ _. r.well (λ e. cc) }
left_faults before after a b (causes.OverCapacity count) r = record { later = r.later; rose = λ is. absurd (omega (arith, is)); same = λ _. r.well (λ e. cc) }
left_faults before after a b (causes.Spent counter) r = record { later = r.later; rose = λ is. absurd (omega (arith, is)); same = λ _. r.well (λ e. cc) }
left_faults before after a b causes.NoMemory r = record { later = r.later; rose = λ is. absurd (omega (arith, is)); same = λ _. r.well (λ e. cc) }

-- a folder whose disk was not handed out
pub not_handed : (told told' : Option Told) (cause : OpenCause) → (IsOfFolder cause → ⊥) → told' ≡ told → IsLeftClosed told told' cause
not_handed told told' cause none same = subst (λ (o : Option Told). IsLeftClosed told o cause) (sym same) (record { unopened = untouched told; refused = λ of. absurd (none of) })

-- the disk is handed out before, and given back after
pub ran_back : (n : ℕ) (s0 s1 s3 : HostState) (before before' after after' : Option Told) (pass : Option Known) (answer : Result (String Global) LoadCause) (m k a own : ℕ) → s1 ≡ record s0 { faults = m } → m ≡ s0.faults → before' ≡ before → a ≡ 0 → s3 ≡ record s1 { disk_faults = k } → Counts s1.disk_faults k own
    → after ≡ after' → RanOn n before' after' pass answer → RisesWhere (load_status answer ≡ 3) a own → Ran n s0 s3 before after pass answer
ran_back n s0 s1 s3 before before' after after' pass answer m k a own opened same is_before zero kept counts is_after ran rises =
    let faults : s3.faults ≡ s0.faults = ap (λ (s : HostState). s.faults) kept ∙ ap (λ (s : HostState). s.faults) opened ∙ same in
    let disk0 : s1.disk_faults ≡ s0.disk_faults = ap (λ (s : HostState). s.disk_faults) opened in
    let disk3 : s3.disk_faults ≡ k = ap (λ (s : HostState). s.disk_faults) kept in
    record {
      folder = subst (λ (p : Option Told × Option Told). RanOn n p.0 p.1 pass answer) (λ i. (is_before i, sym is_after i)) ran;
      fault = λ three. inr (let r = rises.rose three in let up = counts.raised (omega (arith, r, zero)) in omega (arith, up, disk0, disk3));
      host = λ _. faults;
      disks = λ other. disk3 ∙ counts.clean (rises.same other ∙ zero) ∙ disk0;
      later = (omega (arith, faults), (let l = counts.later in omega (arith, l, disk0, disk3)));
      state = kept ∙ ap (λ (s : HostState). record s { disk_faults = k }) opened ∙ (λ i. record s0 { faults = (same ∙ sym faults) i; disk_faults = sym disk3 i });
    }

-- the disk was not handed out
pub ran_none : (n : ℕ) (s0 s1 : HostState) (before after : Option Told) (pass : Option Known) (answer : Result (String Global) LoadCause) (m : ℕ) (cause : OpenCause) → s1 ≡ record s0 { faults = m } → pass ≡ None → answer ≡ Err (Unopened cause) → (IsOfFolder cause → ⊥) → after ≡ before → s0.faults ≤ m
    → (cause_status cause ≡ 3 → Rose s0.faults m) → ((cause_status cause ≡ 0) ⊎ (cause_status cause ≡ 4) → ⊥) → Ran n s0 s1 before after pass answer
ran_none n s0 s1 before after pass answer m cause is none answers of same later rose others =
    let faults : s1.faults ≡ m = ap (λ (s : HostState). s.faults) is in
    let disks : s1.disk_faults ≡ s0.disk_faults = ap (λ (s : HostState). s.disk_faults) is in
    let status : load_status answer ≡ cause_status cause = ap load_status answers in
    record {
      folder = subst (λ (a : Result (String Global) LoadCause). RanOn n before after pass a) (sym answers) (none, inl (not_handed before after cause of same));
      fault = λ three. inl (subst (Rose s0.faults) (sym faults) (rose (sym status ∙ three)));
      host = λ either. absurd (others (elim either [ inl zero ↦ inl (sym status ∙ zero) | inr four ↦ inr (sym status ∙ four) ]));
      disks = λ _. disks;
      later = (omega (arith, faults, later), omega (arith, disks));
      state = is ∙ (λ i. record s0 { faults = sym faults i; disk_faults = sym disks i });
    }
