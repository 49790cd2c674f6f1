-- What links carry, delivery by delivery.
use Rattle.std.proofs.Common.{◌≡◌, ◌∙◌, ◌+◌, ◌==◌, inl, inr, ℕ, zero, suc, List, [], ◌∷◌, ◌++◌, append-nil, append_assoc, flat_map, length, length-append, take, Bool, true, false, Option, Some, None, Result, Ok, Err, refl, sym, ap, subst, arith}
use Rattle.std.specs.List.{AllZip}
use Rattle.std.specs.Prelude.{nat_lt, slice_get}
use Rattle.std.proofs.lemmas.List.{take_all}
use Rattle.event_core.specs.Content.{Content}
use Rattle.flume_host.specs.Links.{LinkTold, TalksTo, unused}
use Rattle.flume_host.specs.Listens.{LinksTold, fresh_from, gave_one, kept_in, no_links, refused_link}
use Rattle.flume_host.proofs.Telling.{forth}
use Rattle.avro_frame.specs.Pack.{IsPack}
use Rattle.avro_hop.specs.Replies.{IsReply}
use Rattle.avro_hop.specs.declared.respond.Status.TheVariants as says
use Rattle.avro_ends.specs.Deliveries.{Connects, Delivers, Ends, Exchanged, OpenWentBack, SinkLinks, StaysOrWentBack, found_by, last_of, last_serial, request_pack, said, stays}
use Rattle.avro_ends.specs.Dialing.{closed_links}
use Rattle.avro_ends.specs.Hearing.{IsRest}
use Rattle.avro_ends.specs.declared.open.Open.{Open}
use Rattle.avro_ends.specs.declared.refused.DeliverRefused.{DeliverRefused}
use Rattle.avro_ends.specs.declared.refused.DeliverRefused.TheVariants.{LinkFault, Ended, Silent, Refused, WrongSerial, BadReply, Turns, NoMemory}
use Rattle.avro_requests.specs.Requests.{AllDeliver, AreReplies, Carries, Delivery, IsFrontOf, Requested, Talk, delivered, if_ok, requests}

-- ---- lists

zip_push : {A B : Type 0} (R : A → B → Type 0) (xs : List A) (ys : List B) (x : A) (y : B) → AllZip R xs ys → R x y → AllZip R (xs ++ x ∷ []) (ys ++ y ∷ [])
zip_push R [] [] x y all one = (one, tt)
zip_push R [] (b ∷ ys) x y all one = absurd all
zip_push R (a ∷ xs) [] x y all one = absurd all
zip_push R (a ∷ xs) (b ∷ ys) x y all one = (all.0, zip_push R xs ys x y all.1 one)

zip_more : {A B : Type 0} (R S : A → B → Type 0) → ((a : A) (b : B) → R a b → S a b) → (xs : List A) (ys : List B) → AllZip R xs ys → AllZip S xs ys
zip_more R S f [] [] all = tt
zip_more R S f [] (b ∷ ys) all = absurd all
zip_more R S f (a ∷ xs) [] all = absurd all
zip_more R S f (a ∷ xs) (b ∷ ys) all = (f a b all.0, zip_more R S f xs ys all.1)

-- the batches of all of these
abbrev batches_of : List Talk → List (List Content)
batches_of talks = flat_map (λ (t : Talk). t.batches) talks

batches_push : (talks : List Talk) (t : Talk) → batches_of (talks ++ t ∷ []) ≡ batches_of talks ++ t.batches
batches_push [] t = append-nil t.batches
batches_push (x ∷ talks) t = ap (λ (l : List (List Content)). x.batches ++ l) (batches_push talks t) ∙ sym (append_assoc x.batches (batches_of talks) t.batches)

delivered_push : (done : List Delivery) (d : Delivery) → delivered (done ++ d ∷ []) ≡ delivered done ++ if_ok d.answer d.batch
delivered_push [] d = append-nil (if_ok d.answer d.batch)
delivered_push (x ∷ done) d = ap (λ (l : List (List Content)). if_ok x.answer x.batch ++ l) (delivered_push done d) ∙ sym (append_assoc (if_ok x.answer x.batch) (delivered done) (if_ok d.answer d.batch))

get_front : (done : List Delivery) (d e : Delivery) (place : ℕ) → slice_get done place ≡ Some e → slice_get (done ++ d ∷ []) place ≡ Some e
get_front [] d e place is = absurd (cc)
get_front (x ∷ done) d e zero is = is
get_front (x ∷ done) d e (suc place) is = get_front done d e place is

get_last : (done : List Delivery) (d : Delivery) → slice_get (done ++ d ∷ []) (length done) ≡ Some d
get_last [] d = refl
get_last (x ∷ done) d = get_last done d

-- ---- requests and replies

requests_push : (serial : ℕ) (batches : List (List Content)) (batch : List Content) → requests serial (batches ++ batch ∷ []) ≡ requests serial batches ++ request_pack (serial + length batches) batch
requests_push serial [] batch = append-nil (request_pack serial batch) ∙ ap (λ (n : ℕ). request_pack n batch) (let e : serial ≡ serial + 0 = omega arith in e)
requests_push serial (b ∷ batches) batch =
    let e : (serial + 1) + length batches ≡ serial + length (b ∷ batches) = omega arith in
    ap (λ (l : List ℕ). request_pack serial b ++ l) (requests_push (serial + 1) batches batch ∙ ap (λ (n : ℕ). requests (serial + 1) batches ++ request_pack n batch) e)
    ∙ sym (append_assoc (request_pack serial b) (requests (serial + 1) batches) (request_pack (serial + length (b ∷ batches)) batch))

-- further bytes stand after them
replies_behind : (serial : ℕ) (batches : List (List Content)) (gave given : List ℕ) → AreReplies serial batches gave [] → AreReplies serial batches (gave ++ given) given
replies_behind serial [] gave given is = ap (λ (l : List ℕ). l ++ given) is
replies_behind serial (b ∷ batches) gave given (first, rest, payload, split, pack, reply, others) =
    (first, rest ++ given, payload, ap (λ (l : List ℕ). l ++ given) split ∙ append_assoc first rest given, pack, reply, replies_behind (serial + 1) batches rest given others)

-- one reply more
replies_push : (serial : ℕ) (batches : List (List Content)) (batch : List Content) (gave first payload behind : List ℕ) → AreReplies serial batches gave [] → IsPack first (serial + length batches) payload
    → IsReply ((serial + length batches) == 1) payload says.Ok → AreReplies serial (batches ++ batch ∷ []) (gave ++ (first ++ behind)) behind
replies_push serial [] batch gave first payload behind is pack reply =
    let e : serial + 0 ≡ serial = omega arith in
    (first, behind, payload, ap (λ (l : List ℕ). l ++ (first ++ behind)) is, subst (λ (n : ℕ). IsPack first n payload) e pack, subst (λ (n : ℕ). IsReply (n == 1) payload says.Ok) e reply, refl)
replies_push serial (b ∷ batches) batch gave first payload behind (head, rest, body, split, one, answer, others) pack reply =
    let e : serial + length (b ∷ batches) ≡ (serial + 1) + length batches = omega arith in (
      head,
      rest ++ (first ++ behind),
      body,
      ap (λ (l : List ℕ). l ++ (first ++ behind)) split ∙ append_assoc head rest (first ++ behind),
      one,
      answer,
      replies_push (serial + 1) batches batch rest first payload behind others (subst (λ (n : ℕ). IsPack first n payload) e pack) (subst (λ (n : ℕ). IsReply (n == 1) payload says.Ok) e reply),
    )

-- ---- a further delivery

module _ (done : List Delivery) (d : Delivery) where
  front_later : (serial : ℕ) (front : List ℕ) → IsFrontOf done serial front → IsFrontOf (done ++ d ∷ []) serial front
  front_later serial front (inl none) = inl none
  front_later serial front (inr (place, count, e, at, refused, is)) = inr (place, count, e, get_front done d e place at, refused, is)

  carries_later : (t : Talk) (l : LinkTold) → Carries done t l → Carries (done ++ d ∷ []) t l
  carries_later t l c = record { took = c.took; gave = c.gave; rest = front_later (length t.batches + 1) t.front c.rest }

-- ---- where a sink stands

module _ {D L : Type 0} (links : D → Option LinksTold) (troubles : D → ℕ) (told : L → Option LinkTold) (faults : L → ℕ) where
  -- the open link carries whole requests, each answered OK
  record Going (open_link : Open L) : Type 0 where
    pub link : LinkTold
    pub is : told open_link.link ≡ Some link
    pub batches : List (List Content)
    pub took : link.took ≡ requests 1 batches
    pub gave : AreReplies 1 batches link.gave []
    pub serial : open_link.serial ≡ length batches

  abbrev Opened : List Delivery → List Talk → LinksTold → Option (Open L) → Type 0
  Opened done talks all None = (all.given ≡ length all.kept) × (batches_of talks ≡ delivered done)
  Opened done talks all (Some open_link) = (g : Going open_link) × (all.given ≡ length all.kept + 1) × (batches_of talks ++ g.batches ≡ delivered done)

  record Standing (done : List Delivery) (s : SinkLinks D L) : Type 0 where
    pub all : LinksTold
    pub is : links s.dialer ≡ Some all
    pub talks : List Talk
    pub each : AllZip (Carries done) talks all.kept
    pub opened : Opened done talks all s.opened

  -- the sink has no open link
  idle : (done : List Delivery) (s : SinkLinks D L) → s.opened ≡ None → (all : LinksTold) → links s.dialer ≡ Some all → (talks : List Talk) → AllZip (Carries done) talks all.kept
      → all.given ≡ length all.kept → batches_of talks ≡ delivered done → Standing done s
  idle done s none all is talks each given batches = record {
    all = all;
    is = is;
    talks = talks;
    each = each;
    opened = subst (λ (o : Option (Open L)). Opened done talks all o) (sym none) (given, batches);
  }

  -- what it stands on when a link goes back
  module _ (done : List Delivery) (d : Delivery) (talks : List Talk) (all : LinksTold) (each : AllZip (Carries done) talks all.kept) where
    each_later : AllZip (Carries (done ++ d ∷ [])) talks all.kept
    each_later = zip_more (Carries done) (Carries (done ++ d ∷ [])) (carries_later done d) talks all.kept each

    went_back : (dialer : D) (link : L) (l : LinkTold) (t : Talk) (next : SinkLinks D L) → links dialer ≡ Some all → told link ≡ Some l → all.given ≡ length all.kept + 1
        → links next.dialer ≡ kept_in (links dialer) (told link) → next.opened ≡ None → Carries (done ++ d ∷ []) t l
        → batches_of talks ++ t.batches ≡ delivered (done ++ d ∷ []) → Standing (done ++ d ∷ []) next
    went_back dialer link l t next is tells given back none carries batches =
        let kept : List LinkTold = all.kept ++ l ∷ [] in
        idle (done ++ d ∷ []) next none (record all { kept = kept }) (back ∙ (λ i. kept_in (is i) (tells i))) (talks ++ t ∷ []) (zip_push (Carries (done ++ d ∷ [])) talks all.kept t l each_later carries)
        (let e = length-append all.kept (l ∷ []) in omega (arith, e, given)) (batches_push talks t ∙ batches)

  -- ---- one request on a link

  -- the link before it: requests that were answered OK, as many as the last serial
  record Before (link : L) (serial : ℕ) : Type 0 where
    pub now : LinkTold
    pub is : told link ≡ Some now
    pub batches : List (List Content)
    pub took : now.took ≡ requests 1 batches
    pub gave : AreReplies 1 batches now.gave []
    pub serial_is : serial ≡ 1 + length batches

  refused_front : (done : List Delivery) (batch : List Content) (e : DeliverRefused) (serial : ℕ) (sent given : List ℕ) (a b : Option LinkTold) → Ends (serial == 1) serial (request_pack serial batch) (Err e) sent given a b
      → IsFrontOf (done ++ record { batch = batch; answer = Err e } ∷ []) serial sent
  refused_front done batch e serial sent given a b ends = inr (length done, (cut e ends).0, record { batch = batch; answer = Err e }, get_last done (record { batch = batch; answer = Err e }), tt, (cut e ends).1)
    where
      request : List ℕ
      request = request_pack serial batch

      cut : (e : DeliverRefused) → Ends (serial == 1) serial request (Err e) sent given a b → (count : ℕ) × (sent ≡ take count request)
      cut LinkFault is = is.0
      cut Ended is = (length request, is.0 ∙ sym (take_all (length request) request (omega arith)))
      cut Silent is = (length request, is.0 ∙ sym (take_all (length request) request (omega arith)))
      cut Turns is = (length request, is.0 ∙ sym (take_all (length request) request (omega arith)))
      cut NoMemory is = (length request, is.0 ∙ sym (take_all (length request) request (omega arith)))
      cut (Refused status) is = (length request, is.0 ∙ sym (take_all (length request) request (omega arith)))
      cut (WrongSerial got want) is = (length request, is.0 ∙ sym (take_all (length request) request (omega arith)))
      cut (BadReply at) is = (length request, is.0 ∙ sym (take_all (length request) request (omega arith)))

  module _ (done : List Delivery) (batch : List Content) (talks : List Talk) (all : LinksTold) (each : AllZip (Carries done) talks all.kept) (dialer : D) (is : links dialer ≡ Some all)
      (given : all.given ≡ length all.kept + 1) (link now : L) (serial : ℕ) (before : Before link serial) (batches : batches_of talks ++ before.batches ≡ delivered done) where
    -- the link that was asked, by what it shows then
    asked : (answer : Result Bool DeliverRefused) → Exchanged (request_pack serial batch) (serial == 1) serial answer (told link) (told now) → (next : SinkLinks D L)
        → StaysOrWentBack links troubles told faults (stays answer serial) serial dialer now next → Standing (done ++ record { batch = batch; answer = said answer } ∷ []) next
    asked (Err e) x next leaves =
        let d : Delivery = record { batch = batch; answer = Err e } in
        let tells = forth (told link) (told now) (TalksTo (found_by (Err e)) x.given x.sent x.turns) x.talk before.now before.is in
        let l = tells.0 in
        let t : Talk = record { batches = before.batches; front = x.sent; behind = x.given } in
        went_back done d talks all each dialer now l t next is tells.1 given leaves.1 leaves.0
        (record {
          took = tells.2.took ∙ ap (λ (b : List ℕ). b ++ x.sent) before.took;
          gave = subst (λ (b : List ℕ). AreReplies 1 before.batches b x.given) (sym tells.2.gave) (replies_behind 1 before.batches before.now.gave x.given before.gave);
          rest = subst (λ (n : ℕ). IsFrontOf (done ++ d ∷ []) n x.sent) (let e = before.serial_is in omega (arith, e)) (refused_front done batch e serial x.sent x.given (told link) (told now) x.ends);
        })
        (batches ∙ sym (delivered_push done d ∙ append-nil (delivered done)))
    asked (Ok more) x next leaves = kept more (x.ends.1.cut.rest) leaves
      where
        d : Delivery
        d = record { batch = batch; answer = Ok tt }

        told_then : (l : LinkTold) × (told now ≡ Some l) × TalksTo (found_by (Ok more)) x.given x.sent x.turns before.now l
        told_then = forth (told link) (told now) (TalksTo (found_by (Ok more)) x.given x.sent x.turns) x.talk before.now before.is

        more_batches : List (List Content)
        more_batches = before.batches ++ batch ∷ []

        -- the reply is that of the request's own serial, which is the next one
        same : x.ends.1.serial ≡ 1 + length before.batches
        same = x.ends.1.judged.0 ∙ before.serial_is

        took : told_then.0.took ≡ requests 1 more_batches
        took = told_then.2.took ∙ (λ i. before.took i ++ x.ends.0 i) ∙ ap (λ (n : ℕ). requests 1 before.batches ++ request_pack n batch) before.serial_is ∙ sym (requests_push 1 before.batches batch)

        gave : AreReplies 1 more_batches told_then.0.gave x.ends.1.cut.behind
        gave = subst (λ (b : List ℕ). AreReplies 1 more_batches b x.ends.1.cut.behind) (sym (told_then.2.gave ∙ ap (λ (b : List ℕ). before.now.gave ++ b) x.ends.1.cut.cut))
            (replies_push 1 before.batches batch before.now.gave x.ends.1.cut.front x.ends.1.payload x.ends.1.cut.behind before.gave (subst (λ (n : ℕ). IsPack x.ends.1.cut.front n x.ends.1.payload) same x.ends.1.cut.pack)
            (subst (λ (n : ℕ). IsReply (n == 1) x.ends.1.payload says.Ok) before.serial_is x.ends.1.judged.1))

        all_batches : batches_of talks ++ more_batches ≡ delivered (done ++ d ∷ [])
        all_batches = sym (append_assoc (batches_of talks) before.batches (batch ∷ [])) ∙ ap (λ (l : List (List Content)). l ++ batch ∷ []) batches ∙ sym (delivered_push done d)

        goes_back : links next.dialer ≡ kept_in (links dialer) (told now) → next.opened ≡ None → Standing (done ++ d ∷ []) next
        goes_back back none =
            went_back done d talks all each dialer now told_then.0 (record { batches = more_batches; front = []; behind = x.ends.1.cut.behind }) next is told_then.1 given back none
            (record { took = took ∙ sym (append-nil (requests 1 more_batches)); gave = gave; rest = inl refl }) all_batches

        stays_open : x.ends.1.cut.behind ≡ [] → next ≡ record { dialer = dialer; opened = Some (record { link = now; serial = serial }) } → Standing (done ++ d ∷ []) next
        stays_open whole same_next = subst (Standing (done ++ d ∷ [])) (sym same_next) (record {
          all = all;
          is = is;
          talks = talks;
          each = each_later done d talks all each;
          opened = (
            record {
              link = told_then.0;
              is = told_then.1;
              batches = more_batches;
              took = took;
              gave = subst (λ (b : List ℕ). AreReplies 1 more_batches told_then.0.gave b) whole gave;
              serial = before.serial_is ∙ (let e = length-append before.batches (batch ∷ []) in omega (arith, e));
            },
            given,
            all_batches,
          );
        })

        kept : (m : Bool) → IsRest m x.ends.1.cut.behind → StaysOrWentBack links troubles told faults (stays (Ok m) serial) serial dialer now next → Standing (done ++ d ∷ []) next
        kept true rest leaves = goes_back leaves.1 leaves.0
        kept false rest leaves = by (nat_lt serial last_serial) leaves
          where
            by : (b : Bool) → StaysOrWentBack links troubles told faults b serial dialer now next → Standing (done ++ d ∷ []) next
            by true leaves = stays_open rest leaves
            by false leaves = goes_back leaves.1 leaves.0

  -- ---- one delivery

  step : (done : List Delivery) (s : SinkLinks D L) (batch : List Content) (answer : Result (Unit {0}) DeliverRefused) (next : SinkLinks D L) → Standing done s
      → Delivers links troubles told faults s batch answer next → Standing (done ++ record { batch = batch; answer = answer } ∷ []) next
  step done s batch answer next st (inl r) = subst (λ (a : Result (Unit {0}) DeliverRefused). Standing (done ++ record { batch = batch; answer = a } ∷ []) next) (sym r.says) (by s.opened st.opened r.connects r.exchanged r.leaves)
    where
      by : (o : Option (Open L)) → Opened done st.talks st.all o → Connects links troubles told faults s.dialer o r.link r.dialer
          → Exchanged (request_pack (last_of o + 1) batch) ((last_of o + 1) == 1) (last_of o + 1) r.answer (told r.link) (told r.now)
          → StaysOrWentBack links troubles told faults (stays r.answer (last_of o + 1)) (last_of o + 1) r.dialer r.now next
          → Standing (done ++ record { batch = batch; answer = said r.answer } ∷ []) next
      by None opened connects exchanged leaves =
          let all : LinksTold = record st.all { given = st.all.given + 1; failed = false } in
          asked done batch st.talks all st.each r.dialer (connects.1 ∙ ap gave_one st.is) (let e = opened.0 in omega (arith, e)) r.link r.now (0 + 1)
          (record { now = unused; is = connects.0 ∙ ap fresh_from st.is; batches = []; took = refl; gave = refl; serial_is = refl }) (append-nil (batches_of st.talks) ∙ opened.1) r.answer exchanged next leaves
      by (Some o) opened connects exchanged leaves =
          let g = opened.0 in
          asked done batch st.talks st.all st.each r.dialer (ap links connects.1 ∙ st.is) opened.1 r.link r.now (o.serial + 1)
          (record { now = g.link; is = ap told connects.0 ∙ g.is; batches = g.batches; took = g.took; gave = g.gave; serial_is = let e = g.serial in omega (arith, e) }) opened.2 r.answer exchanged next leaves
  step done s batch answer next st (inr (inl (is, none))) =
      let d : Delivery = record { batch = batch; answer = answer } in
      let opened = subst (λ (o : Option (Open L)). Opened done st.talks st.all o) none.none st.opened in
      idle (done ++ d ∷ []) next none.still (record st.all { failed = true }) (none.refused ∙ ap refused_link st.is) st.talks (each_later done d st.talks st.all st.each) opened.0
      (opened.1 ∙ sym (delivered_push done d ∙ ap (λ (a : Result (Unit {0}) DeliverRefused). delivered done ++ if_ok a batch) is ∙ append-nil (delivered done)))
  step done s batch answer next st (inr (inr (is, back))) = by s.opened st.opened back
    where
      d : Delivery
      d = record { batch = batch; answer = answer }

      none : delivered done ≡ delivered (done ++ d ∷ [])
      none = sym (delivered_push done d ∙ ap (λ (a : Result (Unit {0}) DeliverRefused). delivered done ++ if_ok a batch) is ∙ append-nil (delivered done))

      by : (o : Option (Open L)) → Opened done st.talks st.all o → OpenWentBack links troubles told faults s.dialer o next → Standing (done ++ d ∷ []) next
      by None opened same =
          idle (done ++ d ∷ []) next (ap (λ (x : SinkLinks D L). x.opened) same) st.all (ap (λ (x : SinkLinks D L). links x.dialer) same ∙ st.is) st.talks (each_later done d st.talks st.all st.each) opened.0 (opened.1 ∙ none)
      by (Some o) opened went =
          let g = opened.0 in
          went_back done d st.talks st.all st.each s.dialer o.link g.link (record { batches = g.batches; front = []; behind = [] }) next st.is g.is opened.1 went.1 went.0
          (record { took = g.took ∙ sym (append-nil (requests 1 g.batches)); gave = g.gave; rest = inl refl }) (opened.2 ∙ none)

  steps : (before done : List Delivery) (s t : SinkLinks D L) → Standing before s → AllDeliver links troubles told faults done s t → Standing (before ++ done) t
  steps before [] s t st same = subst (λ (x : List Delivery × SinkLinks D L). Standing x.0 x.1) (λ i. (sym (append-nil before) i, sym same i)) st
  steps before (d ∷ done) s t st (next, one, rest) =
      subst (λ (l : List Delivery). Standing l t) (append_assoc before (d ∷ []) done) (steps (before ++ d ∷ []) done next t (step before s d.batch d.answer next st one) rest)

  -- the sink is closed
  closed : (done : List Delivery) (t : SinkLinks D L) → Standing done t → (l : LinksTold) × (closed_links links told t.dialer t.opened ≡ Some l) × Requested done l
  closed done t st = by t.opened st.opened
    where
      by : (o : Option (Open L)) → Opened done st.talks st.all o → (l : LinksTold) × (closed_links links told t.dialer o ≡ Some l) × Requested done l
      by None opened = (st.all, st.is, record { all = opened.0; talks = st.talks; each = st.each; batches = opened.1 })
      by (Some o) opened =
          let g = opened.0 in
          let talk : Talk = record { batches = g.batches; front = []; behind = [] } in (
            record st.all { kept = st.all.kept ++ g.link ∷ [] },
            (λ i. kept_in (st.is i) (g.is i)),
            record {
              all = let e = length-append st.all.kept (g.link ∷ []) in let given = opened.1 in omega (arith, e, given);
              talks = st.talks ++ talk ∷ [];
              each = zip_push (Carries done) st.talks st.all.kept talk g.link st.each (record { took = g.took ∙ sym (append-nil (requests 1 g.batches)); gave = g.gave; rest = inl refl });
              batches = batches_push st.talks talk ∙ opened.2;
            },
          )

  -- over a sink's deliveries each link came back, and their batches in order are those answered OK
  pub all_requested : (done : List Delivery) (s t : SinkLinks D L) → s.opened ≡ None → links s.dialer ≡ Some no_links → AllDeliver links troubles told faults done s t
      → (l : LinksTold) × (closed_links links told t.dialer t.opened ≡ Some l) × Requested done l
  all_requested done s t none fresh all = closed done t (steps [] done s t (idle [] s none no_links fresh [] tt refl refl) all)
