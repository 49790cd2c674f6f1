-- What a link in memory shows, and what each read does by its script.
use Rattle.std.specs.Prelude.{◌≡◌, ◌⊎◌, ◌<◌, ◌≤◌, ℕ, ◌+◌, ◌-◌, ◌^◌, length, take, drop, min, get_or}
use Rattle.std.specs.Prelude.{List, Bool, if◌then◌else◌, Option, Some, None, Result, Ok, Err, IsErr, OnOk}
use Rattle.flume_host.specs.Links.{LinkTold}
use Rattle.flume_host.specs.declared.names.Failed.{Failed}
use Rattle.flume_host.specs.declared.link.LinkRead.{LinkRead}
use Rattle.flume_host.specs.declared.link.LinkRead.TheVariants.{Got, End, Quiet}
use Rattle.host_memory.specs.declared.mem_link.MemLink.{MemLink}
use Rattle.host_memory.specs.declared.mem_link.LinkStep.{LinkStep}
use Rattle.host_memory.specs.declared.mem_link.LinkStep.TheVariants as Step

-- what an object shows that would show this
abbrev pub where_tells : {T : Type 0} → Bool → T → Option T
where_tells tells told = if tells then Some told else None

-- what a link would show, also where it shows nothing
abbrev pub link_record : MemLink → LinkTold
link_record l = record {
  gave = l.gave.items;
  took = l.took.items;
  pieces = l.pieces;
  quiets = l.quiets;
  ends = l.ends;
  failed = l.failed;
}

abbrev pub link_told : MemLink → Option LinkTold
link_told l = where_tells l.tells (link_record l)

-- the script of its reads
abbrev pub link_steps : MemLink → List LinkStep
link_steps l = l.steps.items

-- the numbers of the writes that fail, and of the next one; and the most that each takes
abbrev pub send_fails : MemLink → List ℕ
send_fails l = l.script.fails.items

abbrev pub send_calls : MemLink → ℕ
send_calls l = l.script.calls

abbrev pub send_pieces : MemLink → List ℕ
send_pieces l = l.most.items

-- A place in a script: so many steps were done, and so many bytes of the next one were given.
pub record Place : Type 0 where
  pub step : ℕ
  pub at : ℕ

abbrev pub start_place : Place
start_place = record { step = 0; at = 0 }

abbrev pub link_place : MemLink → Place
link_place l = record { step = l.step; at = l.at }

-- no read was made, and the script is as it was
abbrev pub IsUnread : MemLink → MemLink → Type 0
IsUnread old new = (new.steps ≡ old.steps) × (link_place new ≡ link_place old)

-- after the step of this place
abbrev pub behind : Place → Place
behind p = record { step = p.step + 1; at = 0 }

-- this place comes after so many bytes more of a piece
abbrev pub BehindBytes : ℕ → List ℕ → Place → Place → Type 0
BehindBytes n bytes p q = ((p.at + n < length bytes) × (q ≡ record p { at = p.at + n }))
    ⊎ ((p.at + n ≡ length bytes) × (q ≡ behind p))

-- A read of a piece from here on gives as much as there is room for; where nothing is left, it is quiet.
abbrev pub ReadsPiece : List ℕ → Place → Place → List ℕ → LinkRead → Type 0
ReadsPiece bytes p q into (Got n) = (n ≡ min (length into) (length bytes - p.at))
    × (take n into ≡ take n (drop p.at bytes)) × BehindBytes n bytes p q
ReadsPiece bytes p q into Quiet = (length bytes ≤ p.at) × (q ≡ behind p)
ReadsPiece bytes p q into End = ⊥

-- what a read answers at a step, from the one place to the other
abbrev pub ReadsStep : LinkStep → Place → Place → List ℕ → Result LinkRead Failed → Type 0
ReadsStep (Step.Piece bytes) p q into (Ok read) = ReadsPiece bytes.items p q into read
ReadsStep (Step.Piece bytes) p q into (Err failed) = ⊥
ReadsStep Step.Quiet p q into result = (result ≡ Ok Quiet) × (q ≡ behind p)
ReadsStep Step.Fail p q into result = IsErr result × (q ≡ behind p)
ReadsStep (Step.Hold flag) p q into result = OnOk result (result ≡ Ok Quiet) × (q ≡ behind p)

-- what a read answers: that of the step of its place, or the end after them all
abbrev pub Reads : List LinkStep → Place → Place → List ℕ → Result LinkRead Failed → Type 0
Reads steps p q into result = ((length steps ≤ p.step) × (result ≡ Ok End) × (q ≡ p))
    ⊎ ((p.step < length steps) × ((d : LinkStep) → ReadsStep (get_or steps p.step d) p q into result))

-- the piece of this place has bytes left
abbrev pub IsPiece : LinkStep → Place → Type 0
IsPiece (Step.Piece bytes) p = p.at < length bytes.items
IsPiece Step.Quiet p = ⊥
IsPiece Step.Fail p = ⊥
IsPiece (Step.Hold flag) p = ⊥

-- a count of the link stands at its last value
abbrev pub IsFull : MemLink → Type 0
IsFull link = (2 ^ 64 - 1 ≤ link.quiets) ⊎ (2 ^ 64 - 1 ≤ link.ends)

-- a read that is to bring this may fail: of bytes when out of memory, and another one at the last value of its count
abbrev pub MayFail : LinkRead → ℕ → ℕ → Type 0
MayFail (Got n) quiets ends = Unit {0}
MayFail Quiet quiets ends = 2 ^ 64 - 1 ≤ quiets
MayFail End quiets ends = 2 ^ 64 - 1 ≤ ends

-- A read answers by its script. Else it failed: it had no memory for the bytes of a piece, or a count of the link stands
-- at its last value.
abbrev pub FollowsScript : MemLink → MemLink → List ℕ → Result LinkRead Failed → Type 0
FollowsScript old new into result = Reads old.steps.items (link_place old) (link_place new) into result
    ⊎ (IsErr result × (((d : LinkStep) → IsPiece (get_or old.steps.items old.step d) (link_place old)) ⊎ IsFull old))
