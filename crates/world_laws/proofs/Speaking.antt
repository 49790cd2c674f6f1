-- Packets agree after each move, and works were asked for.
use Rattle.std.proofs.Common.{◌⊎◌, inl, inr, ◌≡◌, ◌≢◌, ◌++◌, ◌∷◌, [], ℕ, List, length, slice_get, slice_set, Some, refl, sym, ◌∙◌, ap, subst}
use Rattle.std.proofs.lemmas.List.{append-nil}
use Rattle.event_core.specs.Content.{Content}
use Rattle.world_laws.specs.World.{Tag, Work, Node, Packet, Request, Reply, World, live}
use Rattle.world_laws.specs.Held.{AtNode, IsWork, IsAck, IsRequest, PacketsAgree}
use Rattle.world_laws.proofs.Lists.{same_some, get_front, get_last, get_one, set_here, live_one, live_set, live_none, none_ended}
use Rattle.world_laws.proofs.Moving.{Moved, Asked, Began, Stored, WorkEnded, Acknowledged, Sent, Mended, Restarted, Unused, node_after, sent_by, stepped, work_of, passed}
use Rattle.world_laws.proofs.Staying.{acks_stay, acks_were, left_works, node_cases, node_goes}

abbrev pub WorksAreAsked : World → Type 0
WorksAreAsked w = (n number : ℕ) (work : Work) → IsWork w n number work → IsRequest w n work.tag work.batch

-- what a move sends: nothing, a request of an unused tag, or a reply that names an acknowledgement
data Sends (w : World) (n : ℕ) (new : Node) (more : List Packet) : Type 0 where
  Nothing : more ≡ [] → Sends w n new more
  Asks : (to : ℕ) (tag : Tag) (batch : List Content) → more ≡ Request to tag batch ∷ [] → Unused w tag → Sends w n new more
  Replies : (place : ℕ) (ack : Work) → more ≡ Reply ack.tag n place ∷ [] → slice_get new.acks place ≡ Some ack → Sends w n new more

sends : (w : World) (n : ℕ) (old : Node) (m : Moved w n old) → Sends w n (node_after m) (sent_by m)
sends w n old (Asked tag batch unused) = Asks n tag batch refl unused
sends w n old (Acknowledged number work is all settled) = Replies (length old.acks) work refl (get_last old.acks work)
sends w n old (Sent number a c to tag is there none among unused) = Asks to tag a.events refl unused
sends w n old m = Nothing refl

-- a request that was sent stays so
pub still_asked : (w : World) (nodes : List Node) (more : List Packet) (n : ℕ) (tag : Tag) (batch : List Content) → IsRequest w n tag batch → IsRequest (record { nodes = nodes; sent = w.sent ++ more }) n tag batch
still_asked w nodes more n tag batch asked = (asked.0, get_front w.sent more asked.0 (Request n tag batch) asked.1)

-- a packet was sent, or is the one that the move sends
one_more : (k : ℕ) (p : Packet) (w : World) (n : ℕ) (new : Node) (more : List Packet) → Sends w n new more → slice_get (w.sent ++ more) k ≡ Some p
    → (slice_get w.sent k ≡ Some p) ⊎ ((k ≡ length w.sent) × (more ≡ p ∷ []))
one_more k p w n new more (Nothing none) is = inl (sym (ap (λ (l : List Packet). slice_get l k) (ap (λ (l : List Packet). w.sent ++ l) none ∙ append-nil w.sent)) ∙ is)
one_more k p w n new more (Asks to tag batch one unused) is = from (get_one w.sent (Request to tag batch) k p (ap (λ (l : List Packet). slice_get (w.sent ++ l) k) (sym one) ∙ is))
  where
    from : (slice_get w.sent k ≡ Some p) ⊎ ((k ≡ length w.sent) × (Request to tag batch ≡ p)) → (slice_get w.sent k ≡ Some p) ⊎ ((k ≡ length w.sent) × (more ≡ p ∷ []))
    from (inl was) = inl was
    from (inr last) = inr (last.0, one ∙ ap (λ (q : Packet). q ∷ []) last.1)
one_more k p w n new more (Replies place ack one there) is = from (get_one w.sent (Reply ack.tag n place) k p (ap (λ (l : List Packet). slice_get (w.sent ++ l) k) (sym one) ∙ is))
  where
    from : (slice_get w.sent k ≡ Some p) ⊎ ((k ≡ length w.sent) × (Reply ack.tag n place ≡ p)) → (slice_get w.sent k ≡ Some p) ⊎ ((k ≡ length w.sent) × (more ≡ p ∷ []))
    from (inl was) = inl was
    from (inr last) = inr (last.0, one ∙ ap (λ (q : Packet). q ∷ []) last.1)

new_request : (w : World) (n : ℕ) (new : Node) (more : List Packet) (to : ℕ) (tag : Tag) (batch : List Content) → Sends w n new more → more ≡ Request to tag batch ∷ [] → Unused w tag
new_request w n new more to tag batch (Nothing none) is = absurd (cc)
new_request w n new more to tag batch (Asks to' tag' batch' one unused) is = let same : tag' ≡ tag = cc in subst (Unused w) same unused
new_request w n new more to tag batch (Replies place ack one there) is = absurd (cc)

new_reply : (w : World) (n : ℕ) (new : Node) (more : List Packet) (m place : ℕ) (tag : Tag) → Sends w n new more → more ≡ Reply tag m place ∷ [] → (m ≡ n) × ((ack : Work) × (slice_get new.acks place ≡ Some ack) × (ack.tag ≡ tag))
new_reply w n new more m place tag (Nothing none) is = absurd (cc)
new_reply w n new more m place tag (Asks to' tag' batch' one unused) is = absurd (cc)
new_reply w n new more m place tag (Replies place' ack one there) is =
    let node : m ≡ n = cc in
    let at_place : place' ≡ place = cc in
    let of_tag : ack.tag ≡ tag = cc in
    (node, (ack, ap (λ (k : ℕ). slice_get new.acks k) (sym at_place) ∙ there, of_tag))

-- each work after the move was asked for
works_asked : (w : World) (n : ℕ) (old : Node) (m : Moved w n old) → ((number : ℕ) (work : Work) → live old.works number ≡ Some work → IsRequest w n work.tag work.batch) → (number : ℕ) (work : Work) → live (node_after m).works number ≡ Some work → IsRequest w n work.tag work.batch
works_asked w n old (Began k tag batch made sent) asked number work has = from (live_one old.works (work_of tag batch made) number work has)
  where
    from : (live old.works number ≡ Some work) ⊎ ((number ≡ length old.works) × (work_of tag batch made ≡ work)) → IsRequest w n work.tag work.batch
    from (inl was) = asked number work was
    from (inr last) = subst (λ (x : Work). IsRequest w n x.tag x.batch) last.1 (k, sent)
works_asked w n old (Stored k one place c d is there fresh becomes keeps) asked number work has = from (live_set old.works k (Some (passed one place c)) number work has)
  where
    from : ((number ≢ k) × (live old.works number ≡ Some work)) ⊎ ((number ≡ k) × (Some (passed one place c) ≡ Some work)) → IsRequest w n work.tag work.batch
    from (inl was) = asked number work was.1
    from (inr it) = subst (λ (x : Work). IsRequest w n x.tag x.batch) (same_some (passed one place c) work it.1) (asked k one is)
works_asked w n old (WorkEnded k) asked number work has = asked number work (live_none old.works k number work has)
works_asked w n old (Acknowledged k one is all settled) asked number work has = asked number work (live_none old.works k number work has)
works_asked w n old (Mended place cut c d there reopens) asked number work has = asked number work (left_works place (length c.journal) old.works number work has).0
works_asked w n old (Restarted ds all) asked number work has = absurd (none_ended old.works number work has)
works_asked w n old m asked number work has = asked number work has

module _ (w : World) (n : ℕ) (old : Node) (move : Moved w n old) (here : AtNode w n old) (right : PacketsAgree w) (asked : WorksAreAsked w) where
  abbrev new : Node
  new = node_after move

  abbrev more : List Packet
  more = sent_by move

  abbrev w' : World
  w' = stepped w n new more

  sent : Sends w n new more
  sent = sends w n old move

  still : (m : ℕ) (tag : Tag) (batch : List Content) → IsRequest w m tag batch → IsRequest w' m tag batch
  still m tag batch is = still_asked w (slice_set w.nodes n new) more m tag batch is

  own_asked : (number : ℕ) (work : Work) → live old.works number ≡ Some work → IsRequest w n work.tag work.batch
  own_asked number work is = asked n number work (old, here, is)

  differ : (j k m l : ℕ) (tag : Tag) (a b : List Content) → slice_get w'.sent j ≡ Some (Request m tag a) → slice_get w'.sent k ≡ Some (Request l tag b) → j ≡ k
  differ j k m l tag a b x y = from (one_more j (Request m tag a) w n new more sent x) (one_more k (Request l tag b) w n new more sent y)
    where
      from : (slice_get w.sent j ≡ Some (Request m tag a)) ⊎ ((j ≡ length w.sent) × (more ≡ Request m tag a ∷ [])) → (slice_get w.sent k ≡ Some (Request l tag b)) ⊎ ((k ≡ length w.sent) × (more ≡ Request l tag b ∷ [])) → j ≡ k
      from (inl x') (inl y') = right.differ j k m l tag a b x' y'
      from (inl x') (inr y') = absurd (new_request w n new more l tag b sent y'.1 j m a x')
      from (inr x') (inl y') = absurd (new_request w n new more m tag a sent x'.1 k l b y')
      from (inr x') (inr y') = x'.0 ∙ sym y'.0

  all_asked : (m place : ℕ) (ack : Work) → IsAck w' m place ack → IsRequest w' m ack.tag ack.batch
  all_asked m place ack is = from (node_cases w n old new m is.0 here is.1)
    where
      from : ((m ≢ n) × AtNode w m is.0) ⊎ ((m ≡ n) × (new ≡ is.0)) → IsRequest w' m ack.tag ack.batch
      from (inl was) = still m ack.tag ack.batch (right.asked m place ack (is.0, was.1, is.2))
      from (inr same) = subst (λ (k : ℕ). IsRequest w' k ack.tag ack.batch) (sym same.0) (still n ack.tag ack.batch (at_new (acks_were w n old move place ack (ap (λ (x : Node). slice_get x.acks place) same.1 ∙ is.2))))
        where
          at_new : (slice_get old.acks place ≡ Some ack) ⊎ ((number : ℕ) × (live old.works number ≡ Some ack)) → IsRequest w n ack.tag ack.batch
          at_new (inl was) = right.asked n place ack (old, here, was)
          at_new (inr work) = own_asked work.0 ack work.1

  -- an acknowledgement stays
  still_acked : (m place : ℕ) (ack : Work) → IsAck w m place ack → IsAck w' m place ack
  still_acked m place ack is = node_goes (λ node. slice_get node.acks place ≡ Some ack) w n old new here (acks_stay w n old move place ack) m is.0 is.1 is.2

  all_replied : (k m place : ℕ) (tag : Tag) → slice_get w'.sent k ≡ Some (Reply tag m place) → (ack : Work) × IsAck w' m place ack × (ack.tag ≡ tag)
  all_replied k m place tag is = from (one_more k (Reply tag m place) w n new more sent is)
    where
      from : (slice_get w.sent k ≡ Some (Reply tag m place)) ⊎ ((k ≡ length w.sent) × (more ≡ Reply tag m place ∷ [])) → (ack : Work) × IsAck w' m place ack × (ack.tag ≡ tag)
      from (inl was) = let r = right.replied k m place tag was in (r.0, still_acked m place r.0 r.1, r.2)
      from (inr last) =
          let r = new_reply w n new more m place tag sent last.1 in
          (r.1.0, (new, ap (λ (i : ℕ). slice_get (slice_set w.nodes n new) i) r.0 ∙ set_here w.nodes n old new here, r.1.1), r.1.2)

  works_are_asked : WorksAreAsked w'
  works_are_asked m number work is = from (node_cases w n old new m is.0 here is.1)
    where
      from : ((m ≢ n) × AtNode w m is.0) ⊎ ((m ≡ n) × (new ≡ is.0)) → IsRequest w' m work.tag work.batch
      from (inl was) = still m work.tag work.batch (asked m number work (is.0, was.1, is.2))
      from (inr same) = subst (λ (k : ℕ). IsRequest w' k work.tag work.batch) (sym same.0) (still n work.tag work.batch (works_asked w n old move own_asked number work (ap (λ (x : Node). live x.works number) same.1 ∙ is.2)))

  -- packets agree after the move, and its works were asked for
  pub speaks : PacketsAgree w' × WorksAreAsked w'
  speaks = (record { differ = differ; asked = all_asked; replied = all_replied }, works_are_asked)
