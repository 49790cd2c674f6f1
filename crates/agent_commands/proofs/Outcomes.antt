-- What a session over a host amounts to for `pipe`.
use Rattle.std.proofs.Common.{◌≢◌, Some, ◌≡◌, ◌⊎◌, inl, inr, ℕ, ◌<◌, ◌≤◌, ◌^◌, List, [], ◌∷◌, ◌++◌, length, All, Option, None, Bool, true, false, true≢false, refl, sym, ap, subst, ◌∙◌, arith, append-nil}
use Rattle.std.specs.Prelude.{◌||◌}
use Rattle.std.proofs.KnownBytes.{Consumes-nil, Appends-nil}
use Rattle.std.proofs.lemmas.List.{map-append}
use Rattle.std.proofs.lemmas.List.Elements.{All-cons, All-nil}
use Rattle.std.specs.Io.KnownBytes.{IsAtEnd}
use Rattle.flume_host.specs.Causes.{Counts, Rose}
use Rattle.flume_host.specs.HostState.{HostState}
use Rattle.flume_host.specs.Folder.{Files, IsImage}
use Rattle.flume_host.specs.Told.{Told, Tells}
use Rattle.flume_host.proofs.Moments.{started}
use Rattle.flume_host.proofs.Telling.{tells_more, tells_same}
use Rattle.channel_face.specs.History.{Opening}
use Rattle.channel_face.specs.Machine.{State, is_some_of}
use Rattle.channel_face.specs.declared.replies.OpenCause.{OpenCause}
use Rattle.channel_face.specs.declared.replies.OpenCause.TheVariants as causes
use Rattle.channel_writing.specs.Folders.{AreSame, IsAsBefore, IsRefused, OpensFrom, OpensOver, StaysAs}
use Rattle.netcat_source.specs.Lines.{IsLine, LinesEnd, Rest, TooLong}
use Rattle.netcat_source.specs.declared.lines.LineVerdict.{LineVerdict}
use Rattle.netcat_source.specs.declared.lines.LineVerdict.TheVariants as verdict
use Rattle.line_session.specs.Handled.{Handled, verdicts_of}
use Rattle.line_session.specs.Sessions.{Ends, HasCauseOf, Served as ServedLines, ends_of}
use Rattle.line_session.specs.declared.session.SessionEnd.{SessionEnd}
use Rattle.line_session.specs.declared.session.SessionEnd.TheVariants.{End, TooLongLine, Full, Line, NoMemory, ReadFault, WriteFault}
use Rattle.line_session.proofs.Carrying.{served_forward}
use Rattle.atomic_table.specs.Seated.{TableId}
use Rattle.file_channel.specs.Stands.{FileState}
use Rattle.shared_channel.specs.Calls.{Left}
use Rattle.shared_channel.specs.Counting.{StandsAgreeing}
use Rattle.shared_channel.specs.Passes.{Known, new_pass}
use Rattle.channel_lock.specs.Turns.{HasAll}
use Rattle.agent_words.specs.Statuses.{cause_status}
use Rattle.agent_commands.specs.Handled.{GoesOn, doubted, ends_run, has_doubt, is_in_doubt}
use Rattle.agent_commands.specs.Session.{Served, Stopped}
use Rattle.agent_commands.specs.Stored.{Holds, IsOfFolder, IsRefusedFolder, IsUnopened, default_limits}
use Rattle.agent_commands.specs.Piped.{HostCause, Stored, Interrupted, Piped, IsWellStatus, end_status}
use Rattle.agent_commands.proofs.Ends.{all_go, doubt-append, first_go, last_in_doubt, lines_few, none_in_doubt, served_end, served_full, served_long, stopped}
use Rattle.agent_commands.proofs.Idle.{Stands}
use Rattle.agent_commands.specs.Puts.{BeginsOver, PutsLine}
use Rattle.agent_commands.specs.Trails.{StandsTraced}
use Rattle.agent_commands.proofs.Beginning.{holds_at_first}
use Rattle.agent_commands.proofs.Passing.{Passed, passed, traced}
use Rattle.agent_commands.proofs.Standing.{none_stops}

-- two things at once
pub tells_both : {T : Type 0} (old new : Option T) (P Q : T → T → Type 0) → Tells old new P → Tells old new Q → Tells old new (λ t u. P t u × Q t u)
tells_both None None P Q p q = tt
tells_both None (Some u) P Q p q = p
tells_both (Some t) None P Q p q = p
tells_both (Some t) (Some u) P Q p q = (p, q)

-- a session through a store is one through what is seen of the store
module _ {S T : Type 0} (view : S → T) (Takes : T → List ℕ → LineVerdict → T → Type 0) where
  abbrev pub Viewed : S → List ℕ → LineVerdict → S → Type 0
  Viewed a line said b = Takes (view a) line said (view b)

  -- a session through a store is also one through what is seen of the store
  pub viewed : (max : ℕ) (ack : Bool) (stops : LineVerdict → Bool) (old new : Ends S) (end : SessionEnd) → ServedLines max ack stops Viewed old new end
      → ServedLines max ack stops Takes (ends_of old.left (view old.store) old.took) (ends_of new.left (view new.store) new.took) end
  viewed max ack stops old new end s =
      let made = served_forward Viewed Takes (λ (a : S) (x : T). x ≡ view a) max ack stops old new end
      (λ a b line said x one is. (view b, subst (λ (y : T). Takes y line said (view b)) (sym is) one, refl)) (view old.store) s refl in
      subst (λ (y : T). ServedLines max ack stops Takes (ends_of old.left (view old.store) old.took) (ends_of new.left y new.took) end) made.2 made.1

-- the input and the output were taken before, and kept after
module _ (s0 s1 s2 s3 s4 : HostState) (left left' took took' handed' : Option (List ℕ)) (n m own_in own_out : ℕ)
    (e1 : left ≡ s0.input) (e2 : s1 ≡ record s0 { input = None }) (e3 : took ≡ s1.output) (e4 : s2 ≡ record s1 { output = None; handed = None })
    (e5 : s3 ≡ record s2 { input = left'; faults = n }) (c5 : Counts s2.faults n own_in) (e6 : s4 ≡ record s3 { output = took'; handed = handed'; faults = m }) (c6 : Counts s3.faults m own_out) where
  took_is : took ≡ s0.output
  took_is = e3 ∙ ap (λ (s : HostState). s.output) e2

  input_is : s4.input ≡ left'
  input_is = ap (λ (s : HostState). s.input) e6 ∙ ap (λ (s : HostState). s.input) e5

  handed_is : s4.handed ≡ handed'
  handed_is = ap (λ (s : HostState). s.handed) e6

  output_is : s4.output ≡ took'
  output_is = ap (λ (s : HostState). s.output) e6

  faults2 : s2.faults ≡ s0.faults
  faults2 = ap (λ (s : HostState). s.faults) e4 ∙ ap (λ (s : HostState). s.faults) e2

  faults3 : s3.faults ≡ n
  faults3 = ap (λ (s : HostState). s.faults) e5

  faults4 : s4.faults ≡ m
  faults4 = ap (λ (s : HostState). s.faults) e6

  read_rose : Rose 0 own_in → Rose s0.faults s4.faults
  read_rose rose = let up = c5.raised (omega (arith, rose)) in omega (arith, up, faults2, faults3, faults4, c6.later)

  write_rose : Rose 0 own_out → Rose s0.faults s4.faults
  write_rose rose = let up = c6.raised (omega (arith, rose)) in omega (arith, up, c5.later, faults2, faults3, faults4)

  unread : own_in ≡ 0 → own_out ≡ 0 → s4.faults ≡ s0.faults
  unread none_in none_out = faults4 ∙ c6.clean none_out ∙ faults3 ∙ c5.clean none_in ∙ faults2

  -- the host's count of faults rose exactly where its input or output ended the session
  pub host_cause : (e : SessionEnd) (before_in before_out : ℕ) → before_in ≡ 0 → before_out ≡ 0 → HasCauseOf e before_in own_in before_out own_out → HostCause e s0.faults s4.faults
  host_cause End a b none_in none_out c = unread (c.0 ∙ none_in) (c.1 ∙ none_out)
  host_cause TooLongLine a b none_in none_out c = unread (c.0 ∙ none_in) (c.1 ∙ none_out)
  host_cause Full a b none_in none_out c = unread (c.0 ∙ none_in) (c.1 ∙ none_out)
  host_cause (Line said) a b none_in none_out c = unread (c.0 ∙ none_in) (c.1 ∙ none_out)
  host_cause NoMemory a b none_in none_out c = unread (c.0 ∙ none_in) (c.1 ∙ none_out)
  host_cause ReadFault a b none_in none_out c = read_rose (subst (λ (k : ℕ). Rose k own_in) none_in c.0.1)
  host_cause WriteFault a b none_in none_out c = write_rose (subst (λ (k : ℕ). Rose k own_out) none_out c.1.1)

  -- the host's count of faults is no less after the session
  pub host_later : s0.faults ≤ s4.faults
  host_later = let a = c5.later in let b = c6.later in omega (arith, a, b, faults2, faults3, faults4)

  -- where the output was flushed, the host handed on all that was written
  pub host_handed : handed' ≡ took' → s4.handed ≡ s4.output
  host_handed all = handed_is ∙ all ∙ sym output_is

  -- a session over the ends that a host lent is one over the host's own
  pub host_served : {T : Type 0} (Takes : T → List ℕ → LineVerdict → T → Type 0) (e : SessionEnd) (x y : T) → ServedLines 512 true ends_run Takes (ends_of left x took) (ends_of left' y took') e
      → ServedLines 512 true ends_run Takes (ends_of s0.input x s0.output) (ends_of s4.input y s4.output) e
  host_served {T} Takes e x y served =
      subst (λ (k : Option (List ℕ) × Option (List ℕ) × Option (List ℕ) × Option (List ℕ)). ServedLines 512 true ends_run Takes (ends_of k.0 x k.1) (ends_of k.2 y k.3) e) (λ i. (e1 i, took_is i, sym input_is i, sym output_is i)) served

-- nothing stopped those that went on
stored : (before after : Option Told) (done : List Handled) (s : State) → All GoesOn (verdicts_of done) → Stands before after done s → Tells before after (Holds done [])
stored before after done s going st =
    let none : st.last ≡ [] = none_stops st.first st.last (let P : List Handled → Type 0 = λ d. All GoesOn (verdicts_of d) in subst P st.split going) st.stops in
    let first : st.first ≡ done = sym (st.split ∙ ap (λ (l : List Handled). st.first ++ l) none ∙ append-nil st.first) in
    let doubt : doubted st.last ≡ [] = ap doubted none in
    subst (λ (d : List Handled). Tells before after (Holds d [])) first (subst (λ (l : List (List ℕ)). Tells before after (Holds st.first l)) doubt st.holds)

or_true : (b : Bool) → b || true ≡ true
or_true true = refl
or_true false = refl

-- where the last line is in doubt the disk's count rose
cause_of : (first last done : List Handled) (a b : ℕ) → done ≡ first ++ last → length last ≤ 1 → (has_doubt (verdicts_of done) ≡ true → Rose a b) → All (λ h. h.verdict ≡ verdict.InDoubt → Rose a b) last
cause_of first [] done a b split one rose = All-nil (λ (h : Handled). h.verdict ≡ verdict.InDoubt → Rose a b)
cause_of first (x ∷ []) done a b split one rose = All-cons (λ (h : Handled). h.verdict ≡ verdict.InDoubt → Rose a b) x []
    (λ is. rose (ap (λ (d : List Handled). has_doubt (verdicts_of d)) split ∙ ap has_doubt (map-append (λ (h : Handled). h.verdict) first (x ∷ [])) ∙ doubt-append (verdicts_of first) (x.verdict ∷ [])
    ∙ ap (λ (v : LineVerdict). has_doubt (verdicts_of first) || (is_in_doubt v || false)) is ∙ or_true (has_doubt (verdicts_of first))))
    (All-nil (λ (h : Handled). h.verdict ≡ verdict.InDoubt → Rose a b))
cause_of first (x ∷ y ∷ l) done a b split one rose = absurd (omega (arith, one))

module _ (s0 s4 : HostState) (before after : Option Told) (f f' : ℕ) (pass : Option Known) where
  done_well : IsAtEnd s4.input × Served 512 (λ size. size < 2 ^ 40) Rest s0.input s4.input s0.output s4.output (Stored before after pass) → s4.handed ≡ s4.output → s4.faults ≡ s0.faults → f' ≡ f → Piped s0 s4 before after f f' 0 pass
  done_well done handed same disk = record {
    done = λ _. done;
    full = λ is. absurd (omega (arith, is));
    long = λ is. absurd (omega (arith, is));
    stopped = λ is. absurd (elim is [ inl a ↦ omega (arith, a) | inr b ↦ omega (arith, b) ]);
    held = λ is. absurd (omega (arith, is));
    handed = λ _. handed;
    well = λ _. (same, disk);
    memory = λ is. absurd (omega (arith, is));
    fault = λ is. absurd (omega (arith, is));
  }

  full_well : Served 512 (λ size. size ≡ 2 ^ 40) Rest s0.input s4.input s0.output s4.output (Stored before after pass) → s4.handed ≡ s4.output → s4.faults ≡ s0.faults → f' ≡ f → Piped s0 s4 before after f f' 6 pass
  full_well full handed same disk = record {
    done = λ is. absurd (omega (arith, is));
    full = λ _. full;
    long = λ is. absurd (omega (arith, is));
    stopped = λ is. absurd (elim is [ inl a ↦ omega (arith, a) | inr b ↦ omega (arith, b) ]);
    held = λ is. absurd (omega (arith, is));
    handed = λ _. handed;
    well = λ _. (same, disk);
    memory = λ is. absurd (omega (arith, is));
    fault = λ is. absurd (omega (arith, is));
  }

  long_well : Served 512 (λ size. size ≤ 2 ^ 40) TooLong s0.input s4.input s0.output s4.output (Stored before after pass) → s4.handed ≡ s4.output → s4.faults ≡ s0.faults → f' ≡ f → Piped s0 s4 before after f f' 7 pass
  long_well long handed same disk = record {
    done = λ is. absurd (omega (arith, is));
    full = λ is. absurd (omega (arith, is));
    long = λ _. long;
    stopped = λ is. absurd (elim is [ inl a ↦ omega (arith, a) | inr b ↦ omega (arith, b) ]);
    held = λ is. absurd (omega (arith, is));
    handed = λ _. handed;
    well = λ _. (same, disk);
    memory = λ is. absurd (omega (arith, is));
    fault = λ is. absurd (omega (arith, is));
  }

  by_fault : Stopped 512 s0.input s4.input s0.output s4.output s0.faults s4.faults (Interrupted before after f f' pass) → Rose s0.faults s4.faults ⊎ Rose f f' → Piped s0 s4 before after f f' 3 pass
  by_fault stopped rose = record {
    done = λ is. absurd (omega (arith, is));
    full = λ is. absurd (omega (arith, is));
    long = λ is. absurd (omega (arith, is));
    stopped = λ _. stopped;
    held = λ is. absurd (omega (arith, is));
    handed = λ is. absurd (not_three is);
    well = λ is. absurd (not_three is);
    memory = λ is. absurd (omega (arith, is));
    fault = λ _. rose;
  }
    where
      not_three : IsWellStatus 3 → ⊥
      not_three is = elim is [ inl a ↦ omega (arith, a) | inr b ↦ elim b [ inl c ↦ omega (arith, c) | inr d ↦ omega (arith, d) ] ]

  by_memory : Stopped 512 s0.input s4.input s0.output s4.output s0.faults s4.faults (Interrupted before after f f' pass) → f' ≡ f → Piped s0 s4 before after f f' 5 pass
  by_memory stopped disk = record {
    done = λ is. absurd (omega (arith, is));
    full = λ is. absurd (omega (arith, is));
    long = λ is. absurd (omega (arith, is));
    stopped = λ _. stopped;
    held = λ is. absurd (omega (arith, is));
    handed = λ is. absurd (not_five is);
    well = λ is. absurd (not_five is);
    memory = λ _. disk;
    fault = λ is. absurd (omega (arith, is));
  }
    where
      not_five : IsWellStatus 5 → ⊥
      not_five is = elim is [ inl a ↦ omega (arith, a) | inr b ↦ elim b [ inl c ↦ omega (arith, c) | inr d ↦ omega (arith, d) ] ]

-- the session was served through the channel's pass, and the channel closed
module _ {T : Type 0} (Takes : T → List ℕ → LineVerdict → T → Type 0) (s0 s4 : HostState) (before after : Option Told) (f' : ℕ) (start : Opening) (w : Known) (x y : T) where
  abbrev Lines : SessionEnd → Type 0
  Lines e = ServedLines 512 true ends_run Takes (ends_of s0.input x s0.output) (ends_of s4.input y s4.output) e

  all_stored : (done : List Handled) → Passed before after f' start w done → All GoesOn (verdicts_of done) → Stored before after (Some w) done
  all_stored done p going = (stored before after done p.last going p.stands, p.puts)

  some_stored : (done : List Handled) → Passed before after f' start w done → Interrupted before after start.faults f' (Some w) done
  some_stored done p = record {
    first = p.stands.first;
    last = p.stands.last;
    split = p.stands.split;
    going = p.stands.going;
    one = p.stands.one;
    stops = p.stands.stops;
    cause = cause_of p.stands.first p.stands.last done start.faults f' p.stands.split p.stands.one p.rose;
    folder = inl p.stands.holds;
    calls = p.puts;
  }

  -- what a session through the channel's only pass comes to, with the status of its end
  pub piped : (e : SessionEnd) (s : Lines e) → Passed before after f' start w s.done → HostCause e s0.faults s4.faults → (e ≢ WriteFault → s4.handed ≡ s4.output) → Piped s0 s4 before after start.faults f' (end_status e) (Some w)
  piped End s p cause handed =
      let going = all_go (verdicts_of s.done) s.ends.0.going in
      done_well s0 s4 before after start.faults f' (Some w) (served_end Takes _ _ End s (Stored before after (Some w)) (all_stored s.done p going) refl) (handed (λ is. absurd cc)) cause (p.well (none_in_doubt (verdicts_of s.done) going))
  piped TooLongLine s p cause handed =
      let going = all_go (verdicts_of s.done) s.ends.0.going in
      long_well s0 s4 before after start.faults f' (Some w) (served_long Takes _ _ TooLongLine s (Stored before after (Some w)) (all_stored s.done p going) refl) (handed (λ is. absurd cc)) cause (p.well (none_in_doubt (verdicts_of s.done) going))
  piped Full s p cause handed =
      let going = all_go (verdicts_of s.done) s.ends.0.going in
      full_well s0 s4 before after start.faults f' (Some w) (served_full Takes _ _ Full s (Stored before after (Some w)) (all_stored s.done p going) refl) (handed (λ is. absurd cc)) cause (p.well (none_in_doubt (verdicts_of s.done) going))
  piped (Line verdict.Accepted) s p cause handed = absurd (true≢false (sym s.ends.stopped))
  piped (Line verdict.Refused) s p cause handed = absurd (true≢false (sym s.ends.stopped))
  piped (Line verdict.InDoubt) s p cause handed =
      by_fault s0 s4 before after start.faults f' (Some w)
      (stopped Takes _ _ (Line verdict.InDoubt) s (Interrupted before after start.faults f' (Some w)) (some_stored s.done p) s0.faults s4.faults (λ is. absurd cc) (λ is. absurd cc) (λ is. absurd cc) (λ is. absurd cc))
      (inr (p.rose (last_in_doubt (verdicts_of s.done) s.ends.first verdict.InDoubt s.ends.split (all_go s.ends.first s.ends.going))))
  piped (Line verdict.NoMemory) s p cause handed =
      by_memory s0 s4 before after start.faults f' (Some w)
      (stopped Takes _ _ (Line verdict.NoMemory) s (Interrupted before after start.faults f' (Some w)) (some_stored s.done p) s0.faults s4.faults (λ is. absurd cc) (λ is. absurd cc) (λ is. absurd cc) (λ is. absurd cc))
      (p.well (last_in_doubt (verdicts_of s.done) s.ends.first verdict.NoMemory s.ends.split (all_go s.ends.first s.ends.going)))
  piped NoMemory s p cause handed =
      by_memory s0 s4 before after start.faults f' (Some w)
      (stopped Takes _ _ NoMemory s (Interrupted before after start.faults f' (Some w)) (some_stored s.done p) s0.faults s4.faults (λ is. absurd cc) (λ is. absurd cc) (λ is. absurd cc) (λ is. absurd cc))
      (p.well (ap has_doubt s.ends.0))
  piped ReadFault s p cause handed =
      by_fault s0 s4 before after start.faults f' (Some w)
      (stopped Takes _ _ ReadFault s (Interrupted before after start.faults f' (Some w)) (some_stored s.done p) s0.faults s4.faults (λ is. absurd cc) (λ is. absurd cc) (λ is. absurd cc) (λ is. absurd cc)) (inl cause)
  piped WriteFault s p cause handed =
      by_fault s0 s4 before after start.faults f' (Some w)
      (stopped Takes _ _ WriteFault s (Interrupted before after start.faults f' (Some w)) (some_stored s.done p) s0.faults s4.faults (λ _. cause) (λ is. absurd cc) (λ is. absurd cc) (λ is. absurd cc)) (inl cause)

-- all of that, by the pass before, after the session and after the close
pub piped_by : {C : Type 0} (told_by : C → Option Told) (faults_by : C → ℕ) (state_by : C → FileState) (s0 s4 : HostState) (before after : Option Told) (f f' : ℕ) (start : Opening) (table : TableId) (p q w : Known) (c : C) (e : SessionEnd) → p ≡ new_pass table start 1 0
    → ServedLines 512 true ends_run (PutsLine (traced told_by faults_by state_by)) (ends_of s0.input p s0.output) (ends_of s4.input q s4.output) e → Left (traced told_by faults_by state_by) (λ x. is_some_of (told_by x)) q.view [] w.view c
    → StandsAgreeing (traced told_by faults_by state_by) c q.view.base w.view.seen → (HasAll q.view → w.view.seen ≡ q.view.seen) → BeginsOver before start → start.faults ≡ f → HostCause e s0.faults s4.faults → (e ≢ WriteFault → s4.handed ≡ s4.output)
    → after ≡ told_by c → f' ≡ faults_by c → Piped s0 s4 before after f f' (end_status e) (Some w) × (f ≤ f')
piped_by told_by faults_by state_by s0 s4 before after f f' start table p q w c e fresh served left agrees whole begins same cause handed is_after is_now =
    let Takes = PutsLine (traced told_by faults_by state_by) in
    let s : ServedLines 512 true ends_run Takes (ends_of s0.input (new_pass table start 1 0) s0.output) (ends_of s4.input q s4.output) e = subst (λ (k : Known). ServedLines 512 true ends_run Takes (ends_of s0.input k s0.output) (ends_of s4.input q s4.output) e) fresh served in
    let d : Passed before (told_by c) (faults_by c) start w s.done = passed told_by faults_by state_by before start table s.done q w c s.takes left agrees whole begins (first_go e 512 s.done s.rest s.sent s.ends) s.each (lines_few e s.done s.rest s4.input s.at) in (
      subst (λ (k : Option Told × ℕ × ℕ). Piped s0 s4 before k.0 k.1 k.2 (end_status e) (Some w)) (λ i. (sym is_after i, same i, sym is_now i)) (piped Takes s0 s4 before (told_by c) (faults_by c) start w (new_pass table start 1 0) q e s d cause handed),
      let l = d.later in omega (arith, l, same, is_now),
    )

nothing : (max a b c d : ℕ) (before after : Option Told) (input left output took : Option (List ℕ)) → left ≡ input → took ≡ output → (folder : Tells before after (Holds [] []) ⊎ Tells before after IsUnopened) → Stopped max input left output took a b (Interrupted before after c d None)
nothing max a b c d before after input left output took same_input same_output folder = record {
  bytes = [];
  read = rw same_input (Consumes-nil input);
  done = [];
  rest = [];
  first = refl;
  each = All-nil (IsLine max);
  end = Rest;
  ends = λ is. absurd cc;
  sent = 0;
  wrote = rw same_output (Appends-nil output);
  whole = inl (omega arith);
  stands = record {
    first = [];
    last = [];
    split = refl;
    going = All-nil GoesOn;
    one = omega arith;
    stops = All-nil (λ (h : Handled). GoesOn h.verdict → ⊥);
    cause = All-nil (λ (h : Handled). h.verdict ≡ verdict.InDoubt → Rose c d);
    folder = elim folder [ inl holds ↦ inl holds | inr unopened ↦ inr (refl, unopened) ];
    calls = refl;
  };
}

-- an end before any line, without a channel
ended_early : (old new : HostState) (before after : Option Told) (a b status : ℕ) → new.input ≡ old.input → new.output ≡ old.output → (status ≡ 3) ⊎ ((status ≡ 4) ⊎ (status ≡ 5)) → Tells before after (Holds [] []) ⊎ Tells before after IsUnopened
    → (status ≡ 3 → Rose old.faults new.faults ⊎ Rose a b) → (status ≡ 4 → Tells before after IsRefusedFolder) → (status ≡ 5 → b ≡ a) → Piped old new before after a b status None
ended_early old new before after a b status same_input same_output which folder fault held memory = record {
  done = λ is. absurd (other is which);
  full = λ is. absurd (other6 is which);
  long = λ is. absurd (other7 is which);
  stopped = λ _. nothing 512 old.faults new.faults a b before after old.input new.input old.output new.output same_input same_output folder;
  held = λ is. (held is, same_input, same_output, refl);
  handed = λ is. absurd (not_well is);
  well = λ is. absurd (not_well is);
  memory = memory;
  fault = fault;
}
  where
    other : status ≡ 0 → (status ≡ 3) ⊎ ((status ≡ 4) ⊎ (status ≡ 5)) → ⊥
    other is (inl a) = omega (arith, is, a)
    other is (inr (inl b)) = omega (arith, is, b)
    other is (inr (inr c)) = omega (arith, is, c)

    other6 : status ≡ 6 → (status ≡ 3) ⊎ ((status ≡ 4) ⊎ (status ≡ 5)) → ⊥
    other6 is (inl a) = omega (arith, is, a)
    other6 is (inr (inl b)) = omega (arith, is, b)
    other6 is (inr (inr c)) = omega (arith, is, c)

    other7 : status ≡ 7 → (status ≡ 3) ⊎ ((status ≡ 4) ⊎ (status ≡ 5)) → ⊥
    other7 is (inl a) = omega (arith, is, a)
    other7 is (inr (inl b)) = omega (arith, is, b)
    other7 is (inr (inr c)) = omega (arith, is, c)

    not_well : IsWellStatus status → ⊥
    not_well is = elim is [ inl zero ↦ other zero which | inr more ↦ elim more [ inl six ↦ other6 six which | inr seven ↦ other7 seven which ] ]

-- what a run comes to that ended before any line, as no channel was opened
pub early : (old new : HostState) (before after : Option Told) (a b status : ℕ) → new.input ≡ old.input → new.output ≡ old.output → (status ≡ 3) ⊎ ((status ≡ 4) ⊎ (status ≡ 5)) → Tells before after IsUnopened
    → (status ≡ 3 → Rose old.faults new.faults ⊎ Rose a b) → (status ≡ 4 → Tells before after IsRefusedFolder) → (status ≡ 5 → b ≡ a) → Piped old new before after a b status None
early old new before after a b status same_input same_output which unopened fault held memory = ended_early old new before after a b status same_input same_output which (inr unopened) fault held memory

-- there was no memory to share a channel
pub unshared : (s : HostState) (before after : Option Told) (a b : ℕ) → Tells before after (Holds [] []) → b ≡ a → Piped s s before after a b 5 None
unshared s before after a b holds same = ended_early s s before after a b 5 refl refl (inr (inr refl)) (inl holds) (λ three. absurd (omega (arith, three))) (λ four. absurd (omega (arith, four))) (λ _. same)

-- a channel that had made no call was closed at once
pub closed_at_once : (s : HostState) (before told : Option Told) (a b faults : ℕ) (c : FileState) (start : Opening) → StandsTraced told faults c start [] → BeginsOver before start → start.faults ≡ a → b ≡ faults → Piped s s before told a b 5 None
closed_at_once s before told a b faults c start st begins same is =
    let holds : Tells before st.first (Holds [] []) = holds_at_first before st.first start begins st.began in
    unshared s before told a b (subst (λ (o : Option Told). Tells before o (Holds [] [])) (sym st.trail) holds) (is ∙ st.stands.clean refl ∙ same)

-- nothing was done to a folder
pub untouched : (told : Option Told) → Tells told told IsUnopened
untouched told = tells_same told IsUnopened (λ t _. record { reads = inl (λ name. refl); images = started t (λ image. IsImage t.now image ⊎ IsAsBefore t.reads image) (λ image left. inl left) })

-- a folder that stays as it is for a cause reads as before
pub stays : (cause : OpenCause) (files folder : Files) → StaysAs cause files folder → IsAsBefore files folder
stays causes.DiskFault files folder is = is
stays (causes.BadCheck file at) files folder is = inl is
stays (causes.BadLog file at) files folder is = inl is
stays (causes.OverCapacity count) files folder is = inl is
stays (causes.Spent counter) files folder is = inl is
stays causes.NoMemory files folder is = inl is

-- a folder that was refused for what it holds has the same files as before
pub same_files : (cause : OpenCause) (files folder : Files) → IsOfFolder cause → StaysAs cause files folder → AreSame files folder
same_files causes.DiskFault files folder of is = absurd of
same_files (causes.BadCheck file at) files folder of is = is
same_files (causes.BadLog file at) files folder of is = is
same_files (causes.OverCapacity count) files folder of is = is
same_files (causes.Spent counter) files folder of is = is
same_files causes.NoMemory files folder of is = absurd of

cause_kind : (cause : OpenCause) → ((cause ≡ causes.DiskFault) × (cause_status cause ≡ 3)) ⊎ ((IsOfFolder cause × (cause_status cause ≡ 4) × (cause ≢ causes.DiskFault)) ⊎ ((cause_status cause ≡ 5) × (cause ≢ causes.DiskFault)))
cause_kind causes.DiskFault = inl (refl, refl)
cause_kind (causes.BadCheck file at) = inr (inl (tt, refl, λ is. absurd cc))
cause_kind (causes.BadLog file at) = inr (inl (tt, refl, λ is. absurd cc))
cause_kind (causes.OverCapacity count) = inr (inl (tt, refl, λ is. absurd cc))
cause_kind (causes.Spent counter) = inr (inl (tt, refl, λ is. absurd cc))
cause_kind causes.NoMemory = inr (inr (refl, λ is. absurd cc))

-- a folder that was not opened
pub refused : (s : HostState) (before after : Option Told) (a b : ℕ) (cause : OpenCause) → IsRefused before after a b default_limits.capacity cause → (cause ≡ causes.DiskFault) ⊎ Tells before after OpensFrom → Piped s s before after a b (cause_status cause) None
refused s before after a b cause r settled = elim (cause_kind cause) [
  | inl disk ↦ early s s before after a b (cause_status cause) refl refl (inl disk.1) unopened (λ _. inr (r.fault disk.0)) (λ four. absurd (let is = disk.1 in omega (arith, four, is))) (λ five. absurd (let is = disk.1 in omega (arith, five, is)))
  | inr other ↦ elim other [
    | inl folder ↦ early s s before after a b (cause_status cause) refl refl (inr (inl folder.1)) unopened (λ three. absurd (let is = folder.1 in omega (arith, three, is))) (λ _. held folder.0 folder.2) (λ five. absurd (let is = folder.1 in omega (arith, five, is)))
    | inr memory ↦ early s s before after a b (cause_status cause) refl refl (inr (inr memory.0)) unopened (λ three. absurd (let is = memory.0 in omega (arith, three, is))) (λ four. absurd (let is = memory.0 in omega (arith, four, is))) (λ _. r.well memory.1)
  ]
]
  where
    both : Tells before after (λ t u. StaysAs cause t.reads u.reads × OpensOver t u)
    both = tells_both before after (λ t u. StaysAs cause t.reads u.reads) OpensOver r.stays r.images

    unopened : Tells before after IsUnopened
    unopened = tells_more before after (λ t u. StaysAs cause t.reads u.reads × OpensOver t u) IsUnopened (λ t u _ _ p. record { reads = stays cause t.reads u.reads p.0; images = p.1 }) both

    held : IsOfFolder cause → (cause ≢ causes.DiskFault) → Tells before after IsRefusedFolder
    held of other = elim settled [
      | inl disk ↦ absurd (other disk)
      | inr from ↦ tells_more before after (λ t u. StaysAs cause t.reads u.reads × OpensFrom t u) IsRefusedFolder
          (λ t u is_t _ p. record { cause = cause; folder = of; why = r.why t is_t; reads = same_files cause t.reads u.reads of p.0; images = p.1 }) (tells_both before after (λ t u. StaysAs cause t.reads u.reads) OpensFrom r.stays from)
    ]

served_as : {max : ℕ} {P : ℕ → Type 0} {end : LinesEnd} {input left output took : Option (List ℕ)} {Was Is : List Handled → Type 0} → ((done : List Handled) → Was done → Is done) → Served max P end input left output took Was → Served max P end input left output took Is
served_as more s = record { bytes = s.bytes; read = s.read; size = s.size; done = s.done; cut = s.cut; going = s.going; wrote = s.wrote; stands = more s.done s.stands }

interrupted_as : {t u : Option Told} {a b c d : ℕ} {pass : Option Known} → (Rose a b → Rose c d) → (done : List Handled) → Interrupted t u a b pass done → Interrupted t u c d pass done
interrupted_as rose done i = record {
  first = i.first;
  last = i.last;
  split = i.split;
  going = i.going;
  one = i.one;
  stops = i.stops;
  cause = λ k d below is. rose (i.cause k d below is);
  folder = i.folder;
  calls = i.calls;
}

stopped_as : {max : ℕ} {input left output took : Option (List ℕ)} {a b c d : ℕ} {Was Is : List Handled → Type 0} → ((done : List Handled) → Was done → Is done) → (Rose a b → Rose c d) → Stopped max input left output took a b Was → Stopped max input left output took c d Is
stopped_as more rose s = record {
  bytes = s.bytes;
  read = s.read;
  done = s.done;
  rest = s.rest;
  first = s.first;
  each = s.each;
  end = s.end;
  ends = s.ends;
  sent = s.sent;
  wrote = s.wrote;
  whole = elim s.whole [ inl all ↦ inl all | inr up ↦ inr (rose up) ];
  stands = more s.done s.stands;
}

-- the disk is handed out before, and given back after
pub given_back : (s0 s1 s2 s3 : HostState) (before before' after after' : Option Told) (n m a own status : ℕ) (pass : Option Known) → s1 ≡ record s0 { faults = n } → n ≡ s0.faults → before' ≡ before → a ≡ 0
    → s2.disk_faults ≡ s1.disk_faults → s3 ≡ record s2 { disk_faults = m } → Counts s2.disk_faults m own → after ≡ after' → Piped s1 s2 before' after' a own status pass → Piped s0 s3 before after s0.disk_faults s3.disk_faults status pass
given_back s0 s1 s2 s3 before before' after after' n m a own status pass opened same is_before clean disks kept counts is_after p =
    let input0 : s1.input ≡ s0.input = ap (λ (s : HostState). s.input) opened in
    let output0 : s1.output ≡ s0.output = ap (λ (s : HostState). s.output) opened in
    let faults0 : s1.faults ≡ s0.faults = ap (λ (s : HostState). s.faults) opened ∙ same in
    let disk0 : s1.disk_faults ≡ s0.disk_faults = ap (λ (s : HostState). s.disk_faults) opened in
    let input3 : s3.input ≡ s2.input = ap (λ (s : HostState). s.input) kept in
    let output3 : s3.output ≡ s2.output = ap (λ (s : HostState). s.output) kept in
    let handed3 : s3.handed ≡ s2.handed = ap (λ (s : HostState). s.handed) kept in
    let faults3 : s3.faults ≡ s2.faults = ap (λ (s : HostState). s.faults) kept in
    let disk3 : s3.disk_faults ≡ m = ap (λ (s : HostState). s.disk_faults) kept in
    let rose : Rose a own → Rose s0.disk_faults s3.disk_faults = λ (r : Rose a own). let up = counts.raised (omega (arith, r)) in omega (arith, up, disks, disk0, disk3) in
    record {
      done = λ is. rw (input3, output3, ← input0, ← output0, is_after, ← is_before) (p.done is);
      full = λ is. rw (input3, output3, ← input0, ← output0, is_after, ← is_before) (p.full is);
      long = λ is. rw (input3, output3, ← input0, ← output0, is_after, ← is_before) (p.long is);
      stopped = λ is. rw (input3, output3, ← input0, ← output0, is_after, ← is_before) (stopped_as (interrupted_as rose) (λ r. rw (faults3, ← faults0) r) (p.stopped is));
      held = λ is. let h = p.held is in (rw (is_after, ← is_before) h.0, input3 ∙ h.1 ∙ input0, output3 ∙ h.2 ∙ output0, h.3);
      handed = λ is. handed3 ∙ p.handed is ∙ sym output3;
      well = λ is. let none = p.well is in (faults3 ∙ none.0 ∙ faults0, disk3 ∙ counts.clean (none.1 ∙ clean) ∙ disks ∙ disk0);
      memory = λ is. disk3 ∙ counts.clean (p.memory is ∙ clean) ∙ disks ∙ disk0;
      fault = λ is. elim (p.fault is) [ inl r ↦ inl (rw (faults3, ← faults0) r) | inr r ↦ inr (rose r) ];
    }
