-- The worked histories, computed.
use Rattle.std.proofs.Common.{refl, inl, inr, List, [], ◌∷◌, ◌++◌, Ok, Some, true, false}
use Rattle.event_core.specs.Content.{Content}
use Rattle.channel_face.specs.Machine.{State, BeginPut, Put, Take, StagePut, StageTake, Flush, puts_of}
use Rattle.channel_face.specs.History.{opening, IsRun}
use Rattle.channel_face.specs.Faces.{Own, one, IsPutBatch, IsTakeCommit}
use Rattle.channel_laws.specs.Rows.{start, token, ticket, done, history, state_at, own_of_first, own_of_second, at_end, drained, taking, committing}
use Rattle.channel_laws.specs.Transactions.{AreAmong, looks_at_nothing}

-- each answer of the two callers' history is one that the machine gives
pub run : (e f : Content) → IsRun true (opening start) (history e f)
run e f = ((refl, refl), ((refl, refl), ((refl, refl), ((refl, refl), ((refl, refl), ((refl, refl), (refl, tt)))))))

-- whatever a face sees, where it can have left the channel in the last state
pub first : (saw : List Own → State → Type 0) (e f : Content) → saw (own_of_first e f) (state_at (history e f) 7) → IsPutBatch saw 7 (e ∷ []) (Ok 0) [] (own_of_first e f)
first saw e f left =
    let put : List Own = one (Put (token 1) e (Ok done)) (state_at (history e f) 2) 0 in
    let staged : List Own = one (StagePut (token 1) (Ok (ticket 1 0))) (state_at (history e f) 4) 0 in (
      Ok (token 1),
      state_at (history e f) 0,
      one (BeginPut (Ok (token 1))) (state_at (history e f) 0) 0,
      put ++ staged,
      refl,
      (0, refl),
      (
        Ok tt,
        put,
        staged,
        refl,
        (done, state_at (history e f) 2, 0, [], refl, refl),
        (
          Ok (ticket 1 0),
          state_at (history e f) 4,
          staged,
          [],
          refl,
          (0, refl),
          (true, (state_at (history e f) 7, left, (refl, refl)), refl),
        ),
      ),
    )

-- the second caller's batch, which was answered with number 1
pub second : (saw : List Own → State → Type 0) (e f : Content) → IsPutBatch saw 7 (f ∷ []) (Ok 1) [] (own_of_second e f)
second saw e f =
    let put : List Own = one (Put (token 2) f (Ok done)) (state_at (history e f) 3) 0 in
    let staged : List Own = one (StagePut (token 2) (Ok (ticket 1 1))) (state_at (history e f) 5) 0 in
    let flushed : List Own = one (Flush (Ok tt)) (state_at (history e f) 6) 0 in (
      Ok (token 2),
      state_at (history e f) 1,
      one (BeginPut (Ok (token 2))) (state_at (history e f) 1) 0,
      put ++ staged ++ flushed,
      refl,
      (0, refl),
      (
        Ok tt,
        put,
        staged ++ flushed,
        refl,
        (done, state_at (history e f) 3, 0, [], refl, refl),
        (
          Ok (ticket 1 1),
          state_at (history e f) 5,
          staged,
          flushed,
          refl,
          (0, refl),
          (true, (state_at (history e f) 6, refl, (Ok tt, (0, refl), refl)), refl),
        ),
      ),
    )

-- no other call changed what the first caller had put
pub first_alone : (e f : Content) → AreAmong (λ s. puts_of s (token 1)) (opening start) (history e f) (own_of_first e f)
first_alone e f =
    let staged : List Own = one (StagePut (token 1) (Ok (ticket 1 0))) (state_at (history e f) 4) 0 in
    inr (
      one (Put (token 1) e (Ok done)) (state_at (history e f) 2) 0 ++ staged,
      refl,
      inl (refl, inr (staged, refl, inl (refl, inr ([], refl, inl (refl, inl (refl, refl)))))),
    )

-- no other call changed what the second caller had put
pub second_alone : (e f : Content) → AreAmong (λ s. puts_of s (token 2)) (opening start) (history e f) (own_of_second e f)
second_alone e f =
    let flushed : List Own = one (Flush (Ok tt)) (state_at (history e f) 6) 0 in
    let staged : List Own = one (StagePut (token 2) (Ok (ticket 1 1))) (state_at (history e f) 5) 0 in
    inl (
      refl,
      inr (
        one (Put (token 2) f (Ok done)) (state_at (history e f) 3) 0 ++ staged ++ flushed,
        refl,
        inl (refl, inr (staged ++ flushed, refl, inl (refl, inr (flushed, refl, inr ([], refl, refl))))),
      ),
    )

-- each answer of the history in which one event is taken at last is one that the machine gives
pub run_drained : (e f : Content) → IsRun true (opening start) (drained e f)
run_drained e f = (
  (refl, refl),
  (
    (refl, refl),
    (
      (refl, refl),
      (
        (refl, refl),
        (
          (refl, refl),
          (
            (refl, refl),
            (
              refl,
              ((refl, refl), ((refl, refl, refl, tt), ((refl, refl), (refl, tt)))),
            ),
          ),
        ),
      ),
    ),
  ),
)

-- the third caller's commit of what it took
pub commit : (e f : Content) → IsTakeCommit (at_end (drained e f)) 11 (token 3) (Ok tt) (taking e f) (committing e f)
commit e f =
    let staged : List Own = one (StageTake (token 3) (Ok (ticket 2 0))) (state_at (drained e f) 9) 0 in
    let flushed : List Own = one (Flush (Ok tt)) (state_at (drained e f) 10) 0 in
    (Ok (ticket 2 0), state_at (drained e f) 9, staged, flushed, refl, (0, refl), (true, (state_at (drained e f) 10, refl, (Ok tt, (0, refl), refl)), refl))

-- the third caller's calls are among those of that history
pub among : (e f : Content) → AreAmong looks_at_nothing (opening start) (drained e f) (taking e f ++ committing e f)
among e f =
    let flushed : List Own = one (Flush (Ok tt)) (state_at (drained e f) 10) 0 in
    let took : List Own = one (Take (token 3) (Ok (record { event = Some e; spilled = false }))) (state_at (drained e f) 8) 0 in
    inl (
      refl,
      inl (
        refl,
        inl (
          refl,
          inl (
            refl,
            inl (
              refl,
              inl (
                refl,
                inl (
                  refl,
                  inr (took ++ committing e f, refl, inr (committing e f, refl, inr (flushed, refl, inr ([], refl, refl)))),
                ),
              ),
            ),
          ),
        ),
      ),
    )
