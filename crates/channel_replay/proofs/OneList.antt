-- A folder has one list of log files.
use Rattle.std.proofs.Common.{◌⊎◌, inl, inr, ◌≡◌, ◌<◌, ◌≤◌, ◌+◌, ◌^◌, ◌∷◌, [], ℕ, zero, suc, List, Option, Some, None, refl, sym, ◌∙◌, ap, subst, arith}
use Rattle.std.specs.Prelude.{IsSomeAnd}
use Rattle.flume_host.specs.Folder.{Files}
use Rattle.flume_host.specs.declared.names.FileName.TheVariants.{Log}
use Rattle.channel_log.specs.Frames.{Content, Holds}
use Rattle.channel_log.proofs.Contents.{one-content}
use Rattle.channel_log.proofs.Every.{some_content}
use Rattle.channel_replay.specs.Laws.{HasOneList, RecoversOnce}
use Rattle.channel_replay.specs.Recover.{AreLogs, LogFile}

some_none : (file : Option (List ℕ)) (P : List ℕ → Type 0) → IsSomeAnd file P → file ≡ None → ⊥
some_none None P some none = some
some_none (Some bytes) P some none = absurd (cc)

one_held : (number : ℕ) (file : Option (List ℕ)) (a b : Content) → IsSomeAnd file (λ bytes. Holds number bytes a) → IsSomeAnd file (λ bytes. Holds number bytes b) → a ≡ b
one_held number None a b x y = absurd x
one_held number (Some bytes) a b x y = one-content number bytes a b x y

which : (m n : ℕ) → (m < n) ⊎ (m ≡ n) ⊎ (n < m)
which m n = grind arith

same_log : (a b : LogFile) → a.number ≡ b.number → a.content ≡ b.content → a ≡ b
same_log a b number content = rw (number, content) refl

-- two lists of a folder's log files between the same numbers are one
pub one_list : (files : Files) (from to : ℕ) (a b : List LogFile) → AreLogs files from to a → AreLogs files from to b → a ≡ b
one_list files from to [] [] x y = refl
one_list files from to [] (log ∷ b) x y = absurd (some_none (files (Log log.number)) (λ bytes. Holds log.number bytes log.content) y.3 (x log.number y.0 y.1))
one_list files from to (log ∷ a) [] x y = absurd (some_none (files (Log log.number)) (λ bytes. Holds log.number bytes log.content) x.3 (y log.number x.0 x.1))
one_list files from to (log ∷ a) (log' ∷ b) x y = by_number (which log.number log'.number) (λ y'. one_list files (log.number + 1) to a b x.4 y')
  where
    by_number : (log.number < log'.number) ⊎ (log.number ≡ log'.number) ⊎ (log'.number < log.number) → (AreLogs files (log.number + 1) to b → a ≡ b) → log ∷ a ≡ log' ∷ b
    by_number (inl lower) rest = absurd (some_none (files (Log log.number)) (λ bytes. Holds log.number bytes log.content) x.3 (y.2 log.number x.0 lower))
    by_number (inr (inr higher)) rest = absurd (some_none (files (Log log'.number)) (λ bytes. Holds log'.number bytes log'.content) y.3 (x.2 log'.number y.0 higher))
    by_number (inr (inl same)) rest =
        let there : IsSomeAnd (files (Log log.number)) (λ bytes. Holds log.number bytes log'.content) = subst (λ (n : ℕ). IsSomeAnd (files (Log n)) (λ bytes. Holds n bytes log'.content)) (sym same) y.3 in
        let one : log ≡ log' = same_log log log' same (one_held log.number (files (Log log.number)) log.content log'.content x.3 there) in
        let others : a ≡ b = rest (subst (λ (n : ℕ). AreLogs files (n + 1) to b) (sym same) y.4) in
        ap (λ (l : LogFile). l ∷ a) one ∙ ap (λ (l : List LogFile). log' ∷ l) others

first_or_later : (from k : ℕ) → from ≤ k → (k ≡ from) ⊎ (from + 1 ≤ k)
first_or_later from k low = grind arith

-- the first number has no file
wider : (files : Files) (from to : ℕ) (logs : List LogFile) → files (Log from) ≡ None → AreLogs files (from + 1) to logs → AreLogs files from to logs
wider files from to [] none are = λ k low high. by_place k high (first_or_later from k low)
  where
    by_place : (k : ℕ) → k < to → (k ≡ from) ⊎ (from + 1 ≤ k) → files (Log k) ≡ None
    by_place k high (inl same) = subst (λ (n : ℕ). files (Log n) ≡ None) (sym same) none
    by_place k high (inr later) = are k later high
wider files from to (log ∷ logs) none are = (omega (arith, are.0), are.1, (λ k low high. by_place k high (first_or_later from k low)), are.3, are.4)
  where
    by_place : (k : ℕ) → k < log.number → (k ≡ from) ⊎ (from + 1 ≤ k) → files (Log k) ≡ None
    by_place k high (inl same) = subst (λ (n : ℕ). files (Log n) ≡ None) (sym same) none
    by_place k high (inr later) = are.2 k later high

-- there is a list of the log files in any range of numbers
pub logs_from : (n : ℕ) (files : Files) (from to : ℕ) → from + n ≡ to → (logs : List LogFile) × AreLogs files from to logs
logs_from zero files from to is = ([], λ k low high. absurd (omega (arith, is, low, high)))
logs_from (suc n) files from to is = by_file (files (Log from)) refl (logs_from n files (from + 1) to (omega (arith, is)))
  where
    by_file : (file : Option (List ℕ)) → files (Log from) ≡ file → ((logs : List LogFile) × AreLogs files (from + 1) to logs) → (logs : List LogFile) × AreLogs files from to logs
    by_file None none rest = (rest.0, wider files from to rest.0 none rest.1)
    by_file (Some bytes) some rest =
        let held = some_content from bytes in
        let log : LogFile = record { number = from; content = held.0 } in
        let here : IsSomeAnd (files (Log from)) (λ bytes. Holds from bytes held.0) = subst (λ (f : Option (List ℕ)). IsSomeAnd f (λ bytes. Holds from bytes held.0)) (sym some) held.1 in
        (log ∷ rest.0, (omega arith, omega (arith, is), (λ k low high. absurd (omega (arith, low, high))), here, rest.1))

-- a folder has one list of log files, and no other
pub has_one_list : HasOneList
has_one_list files =
    let some = logs_from (2 ^ 32) files 0 (2 ^ 32) (omega arith) in
    (some.0, some.1, λ others are. one_list files 0 (2 ^ 32) others some.0 are some.1)

-- a folder recovers to one list and to one transaction number
pub recovers_once : RecoversOnce
recovers_once files a b x y first second =
    let some = logs_from (2 ^ 32) files 0 (2 ^ 32) (omega arith) in
    let one = first some.0 some.1 in
    let other = second some.0 some.1 in
    (one.left_is ∙ sym other.left_is, one.txn_is ∙ sym other.txn_is)
