-- What a link gave and took over several calls.
use Rattle.std.proofs.Common.{◌≡◌, ℕ, ◌+◌, true, List, [], ◌++◌, take, Option, Ok, sym, ap, ◌∙◌, arith, append_assoc, append-nil}
use Rattle.flume_host.specs.Told.{Tells}
use Rattle.flume_host.proofs.Telling.{follows, tells_more, tells_same}
use Rattle.flume_host.specs.declared.link.LinkRead.TheVariants.{Got, End, Quiet}
use Rattle.flume_host.specs.Links.{LinkTold, TalksTo, Talks, Waited, FailedLast, Hears, Sends, heard, wrote, broke}

talks_both : (found : ℕ) (given taken given' taken' : List ℕ) (n m : ℕ) (t u v : LinkTold) → Talks given taken n t u → TalksTo found given' taken' m u v → TalksTo found (given ++ given') (taken ++ taken') (n + m) t v
talks_both found given taken given' taken' n m t u v first second = record {
  gave = second.gave ∙ ap (λ (l : List ℕ). l ++ given') first.gave ∙ append_assoc t.gave given given';
  took = second.took ∙ ap (λ (l : List ℕ). l ++ taken') first.took ∙ append_assoc t.took taken taken';
  count = omega (arith, first.count, second.count);
  ends = omega (arith, first.ends, second.ends);
}

-- nothing was asked of it
pub talks_none : (told : Option LinkTold) → Tells told told (Talks [] [] 0)
talks_none told = tells_same told (Talks [] [] 0) (λ t _. record { gave = sym (append-nil t.gave); took = sym (append-nil t.took); count = omega arith; ends = omega arith })

-- one talk after another, where the link shows its contents, and the second may find the end
pub talks_to : (found : ℕ) (a b c : Option LinkTold) (given taken given' taken' : List ℕ) (n m : ℕ) → Tells a b (Talks given taken n) → Tells b c (TalksTo found given' taken' m) → Tells a c (TalksTo found (given ++ given') (taken ++ taken') (n + m))
talks_to found a b c given taken given' taken' n m = follows a b c (Talks given taken n) (TalksTo found given' taken' m) (TalksTo found (given ++ given') (taken ++ taken') (n + m)) (λ t u v _ _ _ first second. talks_both found given taken given' taken' n m t u v first second)

-- what was given and taken over two talks, one after the other
pub talks_then : (a b c : Option LinkTold) (given taken given' taken' : List ℕ) (n m : ℕ) → Tells a b (Talks given taken n) → Tells b c (Talks given' taken' m) → Tells a c (Talks (given ++ given') (taken ++ taken') (n + m))
talks_then = talks_to 0

-- a read gave bytes
pub talks_got : (n : ℕ) (into : List ℕ) (a b : Option LinkTold) → Hears (Ok (Got n)) into a b → Tells a b (Talks (take n into) [] 1)
talks_got n into a b = tells_more a b (λ t u. u ≡ heard (Got n) into t) (Talks (take n into) [] 1) (λ t u _ _ is. record { gave = ap (λ (l : LinkTold). l.gave) is; took = ap (λ (l : LinkTold). l.took) is ∙ sym (append-nil t.took); count = omega (arith, ap (λ (l : LinkTold). l.pieces) is, ap (λ (l : LinkTold). l.quiets) is); ends = omega (arith, ap (λ (l : LinkTold). l.ends) is) })

-- a read waited in vain
pub talks_quiet : (into : List ℕ) (a b : Option LinkTold) → Hears (Ok Quiet) into a b → Tells a b (Talks [] [] 1)
talks_quiet into a b = tells_more a b (λ t u. u ≡ heard Quiet into t) (Talks [] [] 1) (λ t u _ _ is. record { gave = ap (λ (l : LinkTold). l.gave) is ∙ sym (append-nil t.gave); took = ap (λ (l : LinkTold). l.took) is ∙ sym (append-nil t.took); count = omega (arith, ap (λ (l : LinkTold). l.pieces) is, ap (λ (l : LinkTold). l.quiets) is); ends = omega (arith, ap (λ (l : LinkTold). l.ends) is) })

-- a read found the end
pub talks_end : (into : List ℕ) (a b : Option LinkTold) → Hears (Ok End) into a b → Tells a b (TalksTo 1 [] [] 0)
talks_end into a b = tells_more a b (λ t u. u ≡ heard End into t) (TalksTo 1 [] [] 0) (λ t u _ _ is. record { gave = ap (λ (l : LinkTold). l.gave) is ∙ sym (append-nil t.gave); took = ap (λ (l : LinkTold). l.took) is ∙ sym (append-nil t.took); count = omega (arith, ap (λ (l : LinkTold). l.pieces) is, ap (λ (l : LinkTold). l.quiets) is); ends = omega (arith, ap (λ (l : LinkTold). l.ends) is) })

-- a call failed
pub talks_broke : (a b : Option LinkTold) → Tells a b (λ t u. u ≡ broke t) → Tells a b (Talks [] [] 0)
talks_broke a b = tells_more a b (λ t u. u ≡ broke t) (Talks [] [] 0) (λ t u _ _ is. record { gave = ap (λ (l : LinkTold). l.gave) is ∙ sym (append-nil t.gave); took = ap (λ (l : LinkTold). l.took) is ∙ sym (append-nil t.took); count = omega (arith, ap (λ (l : LinkTold). l.pieces) is, ap (λ (l : LinkTold). l.quiets) is); ends = omega (arith, ap (λ (l : LinkTold). l.ends) is) })

-- a write took bytes
pub talks_wrote : (n : ℕ) (bytes : List ℕ) (a b : Option LinkTold) → Sends (Ok n) bytes a b → Tells a b (Talks [] (take n bytes) 0)
talks_wrote n bytes a b = tells_more a b (λ t u. u ≡ wrote (take n bytes) t) (Talks [] (take n bytes) 0) (λ t u _ _ is. record { gave = ap (λ (l : LinkTold). l.gave) is ∙ sym (append-nil t.gave); took = ap (λ (l : LinkTold). l.took) is; count = omega (arith, ap (λ (l : LinkTold). l.pieces) is, ap (λ (l : LinkTold). l.quiets) is); ends = omega (arith, ap (λ (l : LinkTold). l.ends) is) })

-- after it the link was not used
pub talks_still : (a b c : Option LinkTold) (given taken : List ℕ) (n : ℕ) → Tells a b (Talks given taken n) → Tells b c (Talks [] [] 0) → Tells a c (Talks given taken n)
talks_still a b c given taken n = follows a b c (Talks given taken n) (Talks [] [] 0) (Talks given taken n) (λ t u v _ _ _ first second. record {
  gave = second.gave ∙ append-nil u.gave ∙ first.gave;
  took = second.took ∙ append-nil u.took ∙ first.took;
  count = omega (arith, first.count, second.count);
  ends = omega (arith, first.ends, second.ends);
})

-- ---- quiet reads

-- without a call no read waited
pub waited_none : (told : Option LinkTold) → Tells told told (Waited 0)
waited_none told = tells_same told (Waited 0) (λ t _. omega arith)

-- the reads that waited in some calls, and then in further ones
pub waited_then : (a b c : Option LinkTold) (n m : ℕ) → Tells a b (Waited n) → Tells b c (Waited m) → Tells a c (Waited (n + m))
waited_then a b c n m = follows a b c (Waited n) (Waited m) (Waited (n + m)) (λ t u v _ _ _ first second. omega (arith, first, second))

-- a write that took bytes is no read that waited
pub waited_wrote : (a b : Option LinkTold) (n : ℕ) (bytes : List ℕ) → Sends (Ok n) bytes a b → Tells a b (Waited 0)
waited_wrote a b n bytes = tells_more a b (λ t u. u ≡ wrote (take n bytes) t) (Waited 0) (λ t u _ _ is. omega (arith, ap (λ (l : LinkTold). l.quiets) is))

-- a call that failed is no read that waited
pub waited_broke : (a b : Option LinkTold) → Tells a b (λ t u. u ≡ broke t) → Tells a b (Waited 0)
waited_broke a b = tells_more a b (λ t u. u ≡ broke t) (Waited 0) (λ t u _ _ is. omega (arith, ap (λ (l : LinkTold). l.quiets) is))

-- ---- the last call

-- a call that failed is told
pub failed_broke : (a b : Option LinkTold) → Tells a b (λ t u. u ≡ broke t) → FailedLast a b
failed_broke a b = tells_more a b (λ t u. u ≡ broke t) (λ t u. u.failed ≡ true) (λ t u _ _ is. ap (λ (l : LinkTold). l.failed) is)

-- also after others
pub failed_behind : (a b c : Option LinkTold) (given taken : List ℕ) (n : ℕ) → Tells a b (Talks given taken n) → FailedLast b c → FailedLast a c
failed_behind a b c given taken n = follows a b c (Talks given taken n) (λ t u. u.failed ≡ true) (λ t u. u.failed ≡ true) (λ t u v _ _ _ _ is. is)
