-- The run of the generator: which calls it makes, of which events, and what it then says.
use Rattle.std.specs.Prelude.{◌≡◌, ◌⊎◌, ◌==◌, ◌%◌, ◌+◌, ℕ, zero, suc, List, [], ◌∷◌, ◌++◌, length, flat_map, codes, decimal, string_bytes, Some, None, Result, Ok, Err, Bool, true, false, if◌then◌else◌, String}
use Rattle.std.specs.List.{sum_by}
use Rattle.std.specs.Global.{Global}
use Rattle.event_core.specs.Content.{Content}
use Rattle.channel_face.specs.Token.{Token}
use Rattle.channel_face.specs.Machine.{State, Call, BeginPut, BeginTake, Put, Take, StagePut, StageTake, Flush, Checkpoint, Prune, RollbackTake}
use Rattle.channel_face.specs.declared.replies.Put.{Put as PutDone}
use Rattle.channel_face.specs.declared.replies.Taken.{Taken}
use Rattle.channel_face.specs.declared.replies.Ticket.{Ticket}
use Rattle.hex.specs.Hex.{encode_lower}
use Rattle.md5.specs.Md5.{md5}
use Rattle.load_gen.specs.Events.{batch, batches}
use Rattle.load_gen.specs.Calls.{IsCutOff, IsStopped}
use Rattle.load_gen.specs.declared.refused.LoadRefused.{LoadRefused}
use Rattle.load_gen.specs.declared.refused.LoadRefused.TheVariants.{NoMemory}

-- a put of each event, in order
abbrev pub ArePut : Token → List Content → List Call → Type 0
ArePut token [] calls = calls ≡ []
ArePut token (event ∷ events) calls = (done : PutDone) × (rest : List Call) × (calls ≡ Put token event (Ok done) ∷ rest) × ArePut token events rest

-- a transaction that puts these events and is committed
abbrev pub IsPut : List Content → List Call → Type 0
IsPut events calls =
    (token : Token) × (ticket : Ticket) × (puts : List Call) × ArePut token events puts
    × (calls ≡ BeginPut (Ok token) ∷ puts ++ (StagePut token (Ok ticket) ∷ Flush (Ok tt) ∷ []))

-- takes that gave these events, in order, until there were so many or none was left
abbrev pub AreTaken : Token → ℕ → List Content → List Call → Type 0
AreTaken token zero [] calls = calls ≡ []
AreTaken token zero (event ∷ events) calls = ⊥
AreTaken token (suc most) [] calls = (last : Taken) × (last.event ≡ None) × (calls ≡ Take token (Ok last) ∷ [])
AreTaken token (suc most) (event ∷ events) calls =
    (taken : Taken) × (taken.event ≡ Some event) × (rest : List Call) × (calls ≡ Take token (Ok taken) ∷ rest) × AreTaken token most events rest

-- whether what is taken after the batch of this number, counted from 1, is rolled back
abbrev pub goes_back : ℕ → Bool
goes_back number = (number % 7) == 0

-- what ends a transaction of takes: a rollback, or else a commit
abbrev pub EndsTakes : Bool → Token → List Call → Type 0
EndsTakes true token calls = calls ≡ RollbackTake token true ∷ []
EndsTakes false token calls = (ticket : Ticket) × (calls ≡ StageTake token (Ok ticket) ∷ Flush (Ok tt) ∷ [])

-- the transaction after batch k that takes these events, up to 50
abbrev pub IsTaken : ℕ → List Content → List Call → Type 0
IsTaken k events calls =
    (token : Token) × (takes ending : List Call) × AreTaken token 50 events takes × EndsTakes (goes_back (k + 1)) token ending
    × (calls ≡ BeginTake (Ok token) ∷ takes ++ ending)

-- whether the batch of this number, counted from 1, is one after which the channel is kept
abbrev pub is_fiftieth : ℕ → Bool
is_fiftieth number = (number % 50) == 0

-- what keeps the channel after a fiftieth batch: a checkpoint, and then a removal of old files; after any other batch nothing
abbrev pub IsUpkeep : Bool → List Call → Type 0
IsUpkeep true calls = (count : ℕ) × (calls ≡ Checkpoint (Ok tt) ∷ Prune (Ok count) ∷ [])
IsUpkeep false calls = calls ≡ []

-- From batch k on each batch is put, then these events are taken, and then the channel is kept.
abbrev pub AreRounds : ℕ → ℕ → List (List Content) → List Call → Type 0
AreRounds n k [] calls = calls ≡ []
AreRounds n k (taken ∷ takes) calls =
    (puts took upkeep rest : List Call) × (calls ≡ puts ++ (took ++ (upkeep ++ rest))) × IsPut (batch n k) puts × IsTaken k taken took
    × IsUpkeep (is_fiftieth (k + 1)) upkeep × AreRounds n (suc k) takes rest

-- the run of n events that takes these after its batches
abbrev pub IsRunOf : ℕ → List (List Content) → List Call → Type 0
IsRunOf n takes calls = (length takes ≡ batches n) × AreRounds n 0 takes calls

-- a run of n events
abbrev pub IsLoad : ℕ → List Call → Type 0
IsLoad n calls = (takes : List (List Content)) × IsRunOf n takes calls

-- what is taken after batch k and those after it, but for what is rolled back
abbrev pub kept_from : ℕ → List (List Content) → List (List Content)
kept_from k [] = []
kept_from k (taken ∷ takes) = if goes_back (k + 1) then kept_from (suc k) takes else taken ∷ kept_from (suc k) takes

-- the bodies, each as a line
abbrev pub lines : List Content → List ℕ
lines events = flat_map (λ e. e.body ++ 10 ∷ []) events

-- a summary, by its numbers and its digest
abbrev pub said : ℕ → ℕ → ℕ → ℕ → ℕ → List ℕ → List ℕ
said n batches committed taken left digest =
    (codes "events " ++ (decimal n ++ (codes "\nbatches " ++ (decimal batches ++ (codes "\ncommitted takes " ++ (decimal committed ++ codes "\n"))))))
    ++ (codes "taken " ++ (decimal taken ++ (codes "\nleft " ++ (decimal left ++ (codes "\ndigest " ++ (digest ++ codes "\n"))))))

-- What is said of a run of n events that took these and left so many. The digest is of what was committed, each body as a line.
abbrev pub summary : ℕ → List (List Content) → ℕ → List ℕ
summary n takes left =
    let kept = kept_from 0 takes in
    said n (length takes) (length kept) (sum_by length kept) left (encode_lower (md5 (flat_map lines kept)))

-- A run of n events was answered so, when so many calls and this state were seen: it was whole, and this says what it did; or one of its calls was
-- refused; or there was no memory, for an event or for what is said.
abbrev pub Generates : ℕ → ℕ → State → Result (String Global) LoadRefused → List Call → Type 0
Generates n seen s (Ok text) calls = (takes : List (List Content)) × IsRunOf n takes calls × (string_bytes text ≡ summary n takes (length s.items))
Generates n seen s (Err NoMemory) calls = IsLoad n calls ⊎ IsStopped (IsLoad n) s calls
Generates n seen s (Err cause) calls = IsCutOff (IsLoad n) seen s cause calls
