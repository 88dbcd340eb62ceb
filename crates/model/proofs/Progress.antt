-- What was posted can be delivered; with all of it delivered and every delay past, all honest seats are done or one has a call that is accepted.
use Rattle.std.proofs.Common.{◌≡◌, ℕ, ◌+◌, ◌-◌, ◌*◌, ◌<◌, ◌≤◌, Bool, true, false, cond, not, ◌&&◌, ◌||◌, ltb, ◌⊎◌, [], refl, ap, subst, inl, inr, arith}
use native.Mathlib.Decide.{dec_lt}
use Rattle.std.proofs.lemmas.Bool.{and_parts, and_from, or_cases, or_parts, not_from_false, cases_Bool, ltb-true, ltb-false, not-true, not-false}
use Rattle.model.specs.Setup.{Plan, Lawful, honest, round_of}
use Rattle.model.specs.World.{World, Phase, message, notarized}
use Rattle.model.specs.World.Phase.{waiting, in_round, done}
use Rattle.basics.specs.Count.{some_below}
use Rattle.model.specs.Checks.{is_waiting, known}
use Rattle.model.specs.Promises.{AllDelivered, AllPatient, AllDone, Ready, NeverStuck, PostsCanArrive}
use Rattle.model.proofs.Tests.{and_fails, not_both, is_done, done_is, neither_is}
use Rattle.model.proofs.Searches.{found, none_below, lowest}
use Rattle.model.proofs.Invariant.{Inv, SeatOk, Settled}
use Rattle.model.proofs.Accepted.{Acts, acting}
use Rattle.model.proofs.Ready.{enter_ready, propose_empty_ready, deliver_ready}
use Rattle.model.proofs.Counting.{quorum_when}
use Rattle.model.proofs.Delivered.{received, notarized_backed, notarized_everywhere, made_known, finishes_settled, waited_to_propose}
use Rattle.model.proofs.Agreed.{agreed_ready}
use Rattle.model.proofs.Always.{always}

module _ (p : Plan) (law : Lawful p) (w : World) (i : Inv p w) (delivered : AllDelivered p w) (patient : AllPatient p w) where
  seat_ok : (s : ℕ) → Acts p s → SeatOk p w s (w.seat s)
  seat_ok s a = i.seats s a

  abbrev active : ℕ → Bool
  active s = honest p s && not (is_done (w.seat s).phase)

  -- a seat that waits for a round is before those in it
  abbrev level : ℕ → ℕ
  level s = 2 * (w.seat s).round + cond (is_waiting (w.seat s).phase) 0 1

  -- a seat that has not proposed has a parent to propose on: the root, or a notarized block of the round before
  proposes : (s : ℕ) → Acts p s → (w.seat s).phase ≡ in_round → (w.seat s).proposed ≡ false → Ready p w
  proposes s a ph np = elim (dec_lt 1 (w.seat s).round) [
    | no n ↦ on 0 refl (let x = (seat_ok s a).stage.from_one in omega arith) refl
    | yes l ↦ (let x = (seat_ok s a).stage.past ((w.seat s).round - 1) (omega arith) (omega arith) in
        let q = x.1 in
        let b = notarized_backed p law w i delivered s x.0 a x.2 in
        on x.0 (made_known p law w i delivered x.0 b.is_made) (omega arith)
        (notarized_everywhere p law w i delivered (round_of p x.0) x.0 s a refl (inr x.2)))
  ]
    where
      on : (par : ℕ) → known p w par ≡ true → round_of p par + 1 ≡ (w.seat s).round → notarized p w s par ≡ true → Ready p w
      on par kn r nt = (
        s,
        a.below,
        a.honest_seat,
        inr (inl (
          par,
          [],
          propose_empty_ready p w s a par kn ph np
              (waited_to_propose p law w patient s (p.rank (w.seat s).round s) a ph (law.rank_below (w.seat s).round s a.below)) r nt,
        )),
      )

  -- the lowest seat that is not done
  module _ (s : ℕ) (a : Acts p s) (awake : is_done (w.seat s).phase ≡ false)
      (least : (h : ℕ) → h < p.n → active h ≡ true → level s ≤ level h) where
    abbrev k : ℕ
    k = (w.seat s).round

    step : (x : Bool) → cond x 0 1 ≤ 1
    step true = omega arith
    step false = omega arith

    not_behind : (h : ℕ) → Acts p h → k ≤ (w.seat h).round
    not_behind h ah = elim (cases_Bool (is_done (w.seat h).phase)) [
      | inl d ↦ (let x = (seat_ok h ah).stage.done_last (done_is (w.seat h).phase d) in let y = (seat_ok s a).stage.to_last in omega arith)
      | inr e ↦ (let x = least h ah.below (and_from _ _ ah.honest_seat (not_from_false (is_done (w.seat h).phase) e)) in
          let y = step (is_waiting (w.seat h).phase) in omega arith)
    ]

    enters : (w.seat s).phase ≡ waiting → Ready p w
    enters ph = (
      s,
      a.below,
      a.honest_seat,
      inl (enter_ready p w s a ph
          (let q = quorum_when p law (λ r. w.pool s (message 6 r k)) (λ r l y. received p w delivered s (message 6 r k) a
          ((seat_ok r (acting l y)).stage.beacons k (seat_ok s a).stage.from_one (not_behind r (acting l y)))) in
          let f = law.faults in omega arith)),
    )

    -- a seat past the round
    abbrev ahead : ℕ → Bool
    ahead h = honest p h && (ltb k (w.seat h).round || is_done (w.seat h).phase)

    settled : (h : ℕ) → Acts p h → (ltb k (w.seat h).round || is_done (w.seat h).phase) ≡ true → Settled p w k
    settled h ah y = elim (dec_lt k (w.seat h).round) [
      | yes l ↦ (seat_ok h ah).stage.past k (seat_ok s a).stage.from_one l
      | no n ↦ elim (or_cases (ltb k (w.seat h).round) (is_done (w.seat h).phase) y) [
        | inl l ↦ absurd (n (ltb-true k (w.seat h).round l))
        | inr d ↦ (let e : (w.seat h).round ≡ k = (let q = not_behind h ah in omega arith) in
            subst (λ (j : ℕ). Settled p w j) e ((seat_ok h ah).stage.past_done (done_is (w.seat h).phase d)))
      ]
    ]

    together : (w.seat s).phase ≡ in_round → some_below ahead p.n ≡ false →
        (h : ℕ) → Acts p h → ((w.seat h).phase ≡ in_round) × ((w.seat h).round ≡ k)
    together ph none h ah =
        let x = or_parts (ltb k (w.seat h).round) (is_done (w.seat h).phase)
        (and_fails (honest p h) _ (none_below ahead p.n none h ah.below) ah.honest_seat) in
        let e : (w.seat h).round ≡ k = (let q = not_behind h ah in let z = ltb-false k (w.seat h).round x.0 in omega arith) in (
          neither_is (w.seat h).phase x.1 (elim (cases_Bool (is_waiting (w.seat h).phase)) [
            | inr n ↦ n
            | inl y ↦ absurd (let z = least h ah.below (and_from _ _ ah.honest_seat (not_from_false (is_done (w.seat h).phase) x.1)) in
                let u = ap (λ (b : Bool). cond {A = ℕ} b 0 1) y in
                let v = ap (λ (f : Phase). cond {A = ℕ} (is_waiting f) 0 1) ph in omega arith)
          ]),
          e,
        )

    -- an honest seat that has not proposed
    abbrev silent : ℕ → Bool
    silent h = honest p h && not (w.seat h).proposed

    inside : (w.seat s).phase ≡ in_round → Ready p w
    inside ph = elim (cases_Bool (some_below ahead p.n)) [
      | inl y ↦ (let x = found ahead p.n y in
          let z = and_parts (honest p x.0) _ x.2 in
          finishes_settled p law w i delivered s a ph (settled x.0 (acting x.1 z.0) z.1))
      | inr none ↦ elim (cases_Bool (some_below silent p.n)) [
        | inl y ↦ (let x = found silent p.n y in
            let z = and_parts (honest p x.0) (not (w.seat x.0).proposed) x.2 in
            let ax : Acts p x.0 = acting x.1 z.0 in
            proposes x.0 ax (together ph none x.0 ax).0 (not-true (w.seat x.0).proposed z.1))
        | inr all ↦ agreed_ready p law w i delivered patient k (together ph none)
            (λ h ah. not-false (w.seat h).proposed (and_fails (honest p h) _ (none_below silent p.n all h ah.below) ah.honest_seat)) s a
      ]
    ]

    lowest_ready : Ready p w
    lowest_ready = go (w.seat s).phase refl
      where
        go : (x : Phase) → (w.seat s).phase ≡ x → Ready p w
        go waiting e = enters e
        go in_round e = inside e
        go done e = not_both (is_done (w.seat s).phase) (ap is_done e) awake

  done_or_ready : AllDone p w ⊎ Ready p w
  done_or_ready = elim (cases_Bool (some_below active p.n)) [
    | inl y ↦ inr (let x = lowest active level p.n y in
        let z = and_parts (honest p x.0) (not (is_done (w.seat x.0).phase)) x.2 in
        lowest_ready x.0 (acting x.1 z.0) (not-true (is_done (w.seat x.0).phase) z.1) x.3)
    | inr none ↦ inl (λ s l h. done_is (w.seat s).phase
        (not-false (is_done (w.seat s).phase) (and_fails (honest p s) (not (is_done (w.seat s).phase)) (none_below active p.n none s l) h)))
  ]

pub never_stuck : (p : Plan) → Lawful p → NeverStuck p
never_stuck p law js w kept delivered patient = done_or_ready p law w (always p law js w kept) delivered patient

pub posts_can_arrive : (p : Plan) → Lawful p → PostsCanArrive p
posts_can_arrive p law js w kept m h s below honest_seat =
    let x = (always p law js w kept).posts m h in
    deliver_ready p w s (acting below honest_seat) m.kind m.signer m.subject x.fits x.is_there
