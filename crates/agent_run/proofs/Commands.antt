-- Words that are one command are no other.
use Rattle.std.proofs.Common.{◌≡◌, ℕ, List, [], ◌∷◌, codes, get_or, ap, sym, ◌∙◌, subst, arith, inl, inr, Option, Some, None, MatchOption}
use Rattle.agent_words.specs.Commands.{IsPipe, IsLoad, IsAgent, IsCheck, IsNone, IsCommand}
use Rattle.agent_words.specs.declared.command.Command.{Command}
use Rattle.std.specs.Str.Parse.{digits_value}
use Rattle.agent_commands.specs.Checked.{Checked, IsCheckStatus, Lacking}
use Rattle.agent_commands.specs.Loads.{IsLoadStatus}
use Rattle.agent_commands.specs.Piped.{IsPipeStatus}
use Rattle.flume_host.specs.HostState.{HostState}
use Rattle.agent_run.specs.Words.{IsNoCommand}

-- the second letter of the first word
abbrev second : List (List ℕ) → ℕ
second [] = 0
second (w ∷ ws) = get_or w 1 0

pipe_letter : (words : List (List ℕ)) (dir : List ℕ) → IsPipe words dir → second words ≡ get_or (codes "pipe") 1 0
pipe_letter words dir is = ap second is.0

check_letter : (words : List (List ℕ)) (name file : List ℕ) → IsCheck words name file → second words ≡ get_or (codes "check") 1 0
check_letter words name file is = ap second is.1

agent_letter : (words : List (List ℕ)) (name file : List ℕ) → IsAgent words name file → second words ≡ get_or (codes "agent") 1 0
agent_letter words name file is = ap second is.1

load_letter : (words : List (List ℕ)) (n : ℕ) (dir : List ℕ) → IsLoad words n dir → second words ≡ get_or (codes "load") 1 0
load_letter words n dir is = ap second is.1

abbrev second_word : List (List ℕ) → List ℕ
second_word [] = []
second_word (w ∷ []) = []
second_word (w ∷ v ∷ ws) = v

-- the words of `pipe` have one folder
pub one_folder : (words : List (List ℕ)) (dir other : List ℕ) → IsPipe words dir → IsPipe words other → dir ≡ other
one_folder words dir other is also = ap second_word (sym is.0 ∙ also.0)

-- words of a run are no other command
pub agent_is_no_pipe : (words : List (List ℕ)) (name file dir : List ℕ) → IsAgent words name file → IsPipe words dir → ⊥
agent_is_no_pipe words name file dir is p = let a = agent_letter words name file is in let b = pipe_letter words dir p in omega (arith, a, b)

-- nor are they those of `check`
pub agent_is_no_check : (words : List (List ℕ)) (name file name' file' : List ℕ) → IsAgent words name file → IsCheck words name' file' → ⊥
agent_is_no_check words name file name' file' is c = let a = agent_letter words name file is in let b = check_letter words name' file' c in omega (arith, a, b)

-- nor those of `load`
pub agent_is_no_load : (words : List (List ℕ)) (name file : List ℕ) (n : ℕ) (dir : List ℕ) → IsAgent words name file → IsLoad words n dir → ⊥
agent_is_no_load words name file n dir is l = let a = agent_letter words name file is in let b = load_letter words n dir l in omega (arith, a, b)

-- words of `pipe` are not those of `check`
pub pipe_is_no_check : (words : List (List ℕ)) (dir name file : List ℕ) → IsPipe words dir → IsCheck words name file → ⊥
pipe_is_no_check words dir name file is c = let a = pipe_letter words dir is in let b = check_letter words name file c in omega (arith, a, b)

-- nor are they those of `load`
pub pipe_is_no_load : (words : List (List ℕ)) (dir : List ℕ) (n : ℕ) (other : List ℕ) → IsPipe words dir → IsLoad words n other → ⊥
pipe_is_no_load words dir n other is l = let a = pipe_letter words dir is in let b = load_letter words n other l in omega (arith, a, b)

-- words of `load` are not those of `check`
pub load_is_no_check : (words : List (List ℕ)) (n : ℕ) (dir name file : List ℕ) → IsLoad words n dir → IsCheck words name file → ⊥
load_is_no_check words n dir name file is c = let a = load_letter words n dir is in let b = check_letter words name file c in omega (arith, a, b)

abbrev third_word : List (List ℕ) → List ℕ
third_word [] = []
third_word (w ∷ []) = []
third_word (w ∷ v ∷ []) = []
third_word (w ∷ v ∷ u ∷ ws) = u

-- the words of `load` have one number and one folder
pub one_load : (words : List (List ℕ)) (n m : ℕ) (dir other : List ℕ) → IsLoad words n dir → IsLoad words m other → (n ≡ m) × (dir ≡ other)
one_load words n m dir other is also = (
  is.2.value ∙ ap (digits_value 10) (ap second_word (sym is.1 ∙ also.1)) ∙ sym also.2.value,
  ap third_word (sym is.1 ∙ also.1),
)

-- words that are no command are none of those that run
pub none_runs : (words : List (List ℕ)) → IsNone words → IsNoCommand words
none_runs words is = record { no_pipe = is.pipe; no_check = is.check; no_agent = is.agent; no_load = is.load }

-- what was read of the words
pub read_some : (words : List (List ℕ)) (found : Option Command) (first command : Command) → MatchOption found (IsNone words) (λ c. IsCommand words c) → found ≡ Some first → first ≡ command → IsCommand words command
read_some words found first command read is same = subst (IsCommand words) same (subst (λ (o : Option Command). MatchOption o (IsNone words) (λ c. IsCommand words c)) is read)

-- where no command was read of the words, they are no command
pub read_none : (words : List (List ℕ)) (found : Option Command) → MatchOption found (IsNone words) (λ c. IsCommand words c) → found ≡ None → IsNone words
read_none words found read is = subst (λ (o : Option Command). MatchOption o (IsNone words) (λ c. IsCommand words c)) is read

-- a run of `pipe` never ends with status 1
pub pipe_never_one : (n : ℕ) → IsPipeStatus n → n ≡ 1 → ⊥
pipe_never_one n (inl a) one = omega (arith, a, one)
pipe_never_one n (inr (inl a)) one = omega (arith, a, one)
pipe_never_one n (inr (inr (inl a))) one = omega (arith, a, one)
pipe_never_one n (inr (inr (inr (inl a)))) one = omega (arith, a, one)
pipe_never_one n (inr (inr (inr (inr (inl a))))) one = omega (arith, a, one)
pipe_never_one n (inr (inr (inr (inr (inr a))))) one = omega (arith, a, one)

-- nor does `check`
pub check_never_one : (n : ℕ) → IsCheckStatus n → n ≡ 1 → ⊥
check_never_one n (inl a) one = omega (arith, a, one)
check_never_one n (inr (inl a)) one = omega (arith, a, one)
check_never_one n (inr (inr (inl a))) one = omega (arith, a, one)
check_never_one n (inr (inr (inr a))) one = omega (arith, a, one)

-- nor does `load`
pub load_never_one : (n : ℕ) → IsLoadStatus n → n ≡ 1 → ⊥
load_never_one n (inl a) one = omega (arith, a, one)
load_never_one n (inr (inl a)) one = omega (arith, a, one)
load_never_one n (inr (inr (inl a))) one = omega (arith, a, one)
load_never_one n (inr (inr (inr a))) one = omega (arith, a, one)

-- what a run of `check` comes to that ends for want of memory before it begins
pub not_checked : (lacks : Lacking) (file : Option (List ℕ)) (agent : List ℕ) (old new : HostState) (status : ℕ) → status ≡ 5 → new ≡ old → Checked lacks file agent old new status
not_checked lacks file agent old new status five same = record {
  done = λ zero. absurd (omega (arith, zero, five));
  fault = λ two. absurd (omega (arith, two, five));
  quiet = λ _. ap (λ (s : HostState). s.output) same;
  stopped = λ three. absurd (omega (arith, three, five));
  front = λ three. absurd (omega (arith, three, five));
  handed = λ zero. absurd (omega (arith, zero, five));
  well = λ _. ap (λ (s : HostState). s.faults) same;
  rest = record {
    input = ap (λ (s : HostState). s.input) same;
    files = ap (λ (s : HostState). s.files) same;
    disks = ap (λ (s : HostState). s.disk_faults) same;
  };
}
