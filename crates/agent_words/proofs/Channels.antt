-- Channels that are added to a report one after another.
use Rattle.std.proofs.Common.{◌≡◌, ℕ, ◌+◌, ◌<◌, ◌≤◌, Bool, false, true, ◌||◌, List, [], ◌∷◌, length, get_or, drop, fold, String, Ordering, Less, Equal, Greater, refl, sym, ap, ◌∙◌, arith}
use Rattle.std.proofs.lemmas.List.{drop_more, drop_all}
use Rattle.std.specs.declared.alloc.Global.{Global}
use Rattle.std.specs.Cmp.Lexicographic.{slice_cmp}
use Rattle.std.specs.Ordering.{nat_cmp, match_ordering}
use Rattle.channel_face.specs.declared.replies.Counts.{Counts}
use Rattle.serde_json.specs.Data.{Data, Members, no_members, member, put}
use Rattle.serde_json.specs.Written.{has_float, members_have_float}
use Rattle.agent_words.specs.Report.{counters, with_channel, channel_members}

float_by : (o : Ordering) (a b c : Members) → members_have_float a ≡ false → members_have_float b ≡ false → members_have_float c ≡ false → members_have_float (match_ordering o a b c) ≡ false
float_by Less a b c x y z = x
float_by Equal a b c x y z = y
float_by Greater a b c x y z = z

left : (a b : Bool) → a || b ≡ false → a ≡ false
left false b h = refl
left true b h = h

right : (a b : Bool) → a || b ≡ false → b ≡ false
right false b h = h
right true b h = absurd (cc)

neither : (a b : Bool) → a ≡ false → b ≡ false → a || b ≡ false
neither false b x y = y
neither true b x y = x

-- what is put into an object that has no float has none
put_plain : (k : List ℕ) (d : Data) (ms : Members) → has_float d ≡ false → members_have_float ms ≡ false → members_have_float (put k d ms) ≡ false
put_plain k d no_members x h = neither (has_float d) false x refl
put_plain k d (member l e ms) x h =
    let first = left (has_float e) (members_have_float ms) h in
    let rest = right (has_float e) (members_have_float ms) h in
    float_by (slice_cmp nat_cmp k l) _ _ _ (neither (has_float d) _ x h) (neither (has_float d) _ x rest) (neither (has_float e) _ first (put_plain k d ms x rest))

-- The first n channels are added: the others complete the members, and none has a float.
pub record Added (n : ℕ) (channels : List (String Global × Counts)) (members : Members) : Type 0 where
  pub rest : fold with_channel members (drop n channels) ≡ channel_members channels
  pub plain : members_have_float members ≡ false

-- before the first channel there are no members
pub none_added : (channels : List (String Global × Counts)) → Added 0 channels no_members
none_added channels = record { rest = refl; plain = refl }

-- one channel more is added
pub one_added : {n : ℕ} {channels : List (String Global × Counts)} {members next : Members} (d : String Global × Counts) → n < length channels → Added n channels members → next ≡ with_channel members (get_or channels n d) → Added (n + 1) channels next
one_added {n} {channels} {members} {next} d lt before is = record {
  rest =
      ap (λ (m : Members). fold with_channel m (drop (n + 1) channels)) is
      ∙ sym (ap (λ (l : List (String Global × Counts)). fold with_channel members l) (drop_more channels n d lt))
      ∙ before.rest;
  plain = ap members_have_float is ∙ put_plain _ _ members refl before.plain;
}

-- after the last channel the members are those of all channels
pub all_added : {n : ℕ} {channels : List (String Global × Counts)} {members : Members} → length channels ≤ n → Added n channels members → members ≡ channel_members channels
all_added {n} {channels} {members} past before = sym (ap (λ (l : List (String Global × Counts)). fold with_channel members l) (drop_all n channels past)) ∙ before.rest
