-- The calls that begin and end a seat's round meet their duties: enter and finish.
use Rattle.std.proofs.Common.{◌≡◌, ℕ, ◌+◌, ◌<◌, ◌≤◌, Bool, true, false, cond, not, ◌&&◌, eqb, ltb, ◌⊎◌, sym, refl, ap, ◌∙◌, subst, inl, inr, arith}
use native.Mathlib.Decide.{dec_lt, dec_le}
use Rattle.std.proofs.lemmas.Bool.{and_from, or_cases, or_left, cases_eq, not_from_false, ne_eqb, ltb-true, ltb-false}
use Rattle.model.specs.Setup.{Plan, round_of, numbers}
use Rattle.model.specs.World.{World, Seat, Phase, Message, message, notarization, finalization_share, beacon_share, has, exists}
use Rattle.model.specs.World.Phase.{waiting, in_round, done}
use Rattle.model.specs.Checks.{verdict, noted_other}
use Rattle.model.specs.Checks.Call.{enter, finish}
use Rattle.model.specs.Checks.Verdict.{accepted}
use Rattle.model.specs.Seats.{entered, finished}
use Rattle.model.specs.Effects.{seals, effect}
use Rattle.model.proofs.Tests.{each_map, has_first, not_both, waiting_not_in_round, waiting_not_done, done_not_in_round}
use Rattle.model.proofs.Searches.{none_below}
use Rattle.model.proofs.Accepted.{known_made, Acts, Enters, Finishes, enter_met, finish_met}
use Rattle.model.proofs.Growth.{Grows, grows_none}
use Rattle.model.proofs.Existence.{notarization_quorum, finish_combines}
use Rattle.model.proofs.Ranges.{Fits, fits_grows, beacon_fits, notarization_fits, finalization_share_fits}
use Rattle.model.proofs.Invariant.{frontier, PastOrMarked, Settled, Stage, SealedLast, SeatOk, Inv}
use Rattle.model.proofs.Stays.{stage_stays, marks_move, anchor_stays}
use Rattle.model.proofs.Sealing.{SealedBy, seals_each, sealed_by, by_sealed, enter_shares, finish_shares}
use Rattle.model.proofs.Duties.{Duties, effect_grows}

-- a block of a round that a waiting seat is past
past_waiting : (p : Plan) (phase : Phase) (k b : ℕ) (mark : Bool) → phase ≡ waiting → PastOrMarked p phase k b mark → round_of p b < k
past_waiting p phase k b mark e (inl l) = rw e at l
past_waiting p phase k b mark e (inr x) = waiting_not_in_round (sym e ∙ x.0)

-- and a block that a seat in its round has sealed or made
past_in_round : (p : Plan) (phase : Phase) (k b : ℕ) (mark : Bool) → phase ≡ in_round → PastOrMarked p phase k b mark → round_of p b < k + 1
past_in_round p phase k b mark e (inl l) = let h : round_of p b < k = rw e at l in omega arith
past_in_round p phase k b mark e (inr x) = omega (arith, x.1)

module _ (p : Plan) (w : World) (i : Inv p w) where
  pub enter_meets : (s : ℕ) → verdict p w (enter s) ≡ accepted → Duties p w (enter s)
  enter_meets s h = record {
    grows = g;
    blocks = λ b e. inl e;
    arrive = enter_shares p w s;
    sent = each_map (SealedBy p w (enter s)) (Fits p v) (seals p w (enter s))
        (λ m x. subst (Fits p v) (sym x.0) (beacon_fits p v s (st.round + 1) ok.acts.below (omega arith) x.1)) (seals_each p w (enter s));
    seat = seat;
  }
    where
      ok : Enters p w s
      ok = enter_met p w s h

      st : Seat
      st = w.seat s

      v : World
      v = effect p w (enter s)

      g : Grows w v
      g = effect_grows p w (enter s) (grows_none w)

      old_seal : (k b : ℕ) → (k ≡ 6 → ⊥) → v.sealed k s b ≡ true → w.sealed k s b ≡ true
      old_seal k b not-6 e = elim (or_cases (has (seals p w (enter s)) (message k s b)) _ e) [
        | inl n ↦ absurd (not-6 (ap (λ (m : Message). m.kind) (sealed_by p w (enter s) (message k s b) n).0))
        | inr o ↦ o
      ]

      seat : Acts p s → SeatOk p v s (entered st)
      seat a =
          let x = i.seats s a in
          let at = stage_stays p w v i g s _ _ x.stage in
          record {
            stage = record {
              from_one = at.from_one;
              to_last = at.to_last;
              done_last = λ e. done_not_in_round (sym e);
              beacons = at.beacons;
              past = at.past;
              past_done = λ e. done_not_in_round (sym e);
            };
            inside = λ _. record {
              next_share = λ l. or_left _ _ (by_sealed p w (enter s) (beacon_share s (st.round + 1)) (refl, l));
              noted_ok = λ b e. not_both false e refl;
              noted_once = λ b c e. not_both false e refl;
              disqualified_ok = λ r e. not_both false e refl;
              proposed_ok = λ e. not_both false e refl;
            };
            marks = marks_move p w v i g s st.phase in_round st.round st.round st.proposed false st.noted (λ _. false)
                (rw ok.waits (omega arith))
                (λ b e. inl (past_waiting p st.phase st.round b (st.noted b) ok.waits e))
                (λ b e. inl (past_waiting p st.phase st.round b st.proposed ok.waits e))
                (λ b e. inl (old_seal 2 b (λ z. omega arith) e)) (λ b e. inl (old_seal 4 b (λ z. omega arith) e)) (λ b e _. inl e) x.marks;
            anchor = anchor_stays p w v i g s _ _ x.anchor;
          }

-- a seat that leaves its round, where a block of the round is settled
leaving : (p : Plan) (v : World) (s k : ℕ) → Stage p v s in_round k → (k + 1 ≤ p.rounds → v.posted (beacon_share s (k + 1)) ≡ true) → Settled p v k →
    (c : Bool) → ltb k p.rounds ≡ c → Stage p v s (cond c waiting done) (cond c (k + 1) k)
leaving p v s k x share settled true e =
    let l = ltb-true k p.rounds e in
    record {
      from_one = omega arith;
      to_last = omega arith;
      done_last = λ d. waiting_not_done d;
      beacons = λ j a b. elim (dec_le j k) [
        | yes y ↦ x.beacons j a y
        | no n ↦ subst (λ (z : ℕ). v.posted (beacon_share s z) ≡ true) (omega arith) (share (omega arith))
      ];
      past = λ j a b. elim (dec_lt j k) [ yes y ↦ x.past j a y | no n ↦ subst (λ (z : ℕ). Settled p v z) (omega arith) settled ];
      past_done = λ d. waiting_not_done d;
    }
leaving p v s k x share settled false e =
    let l = ltb-false k p.rounds e in
    let m = x.to_last in
    record {
      from_one = x.from_one;
      to_last = x.to_last;
      done_last = λ _. omega arith;
      beacons = x.beacons;
      past = x.past;
      past_done = λ _. settled;
    }

left : {A : Type 0} (c : Bool) → cond c waiting done ≡ in_round → A
left true e = waiting_not_in_round e
left false e = done_not_in_round e

left_frontier : (c : Bool) (k : ℕ) → frontier (cond c waiting done) (cond c (k + 1) k) ≡ k + 1
left_frontier true k = refl
left_frontier false k = refl

module _ (p : Plan) (w : World) (i : Inv p w) where
  pub finish_meets : (s b : ℕ) → verdict p w (finish s b) ≡ accepted → Duties p w (finish s b)
  finish_meets s b h = record {
    grows = g;
    blocks = λ c e. inl e;
    arrive = (is_notarized, finish_shares p w s b);
    sent = (
      fits_grows p w v g (notarization b) (notarization_fits p w b (i.blocks b is_made) is_made),
      each_map (SealedBy p w (finish s b)) (Fits p v) (seals p w (finish s b)) (λ m x. subst (Fits p v) (sym x.0)
          (fits_grows p w v g (finalization_share s b) (finalization_share_fits p w b (i.blocks b is_made) is_made s ok.acts.below))) (seals_each p w (finish s b)),
    );
    seat = seat;
  }
    where
      ok : Finishes p w s b
      ok = finish_met p w s b h

      st : Seat
      st = w.seat s

      v : World
      v = effect p w (finish s b)

      g : Grows w v
      g = effect_grows p w (finish s b) (grows_none w)

      is_made : w.made b ≡ true
      is_made = known_made p w b ok.block_known (omega (arith, ok.of_round, (i.seats s ok.acts).stage.from_one))

      is_notarized : exists p v (notarization b) ≡ true
      is_notarized = finish_combines p w i.pools s b g ok.complete

      settled : Settled p v st.round
      settled = (b, ok.of_round, or_left _ _ (has_first (notarization b) (seals p w (finish s b))))

      later : frontier (finished p st).phase (finished p st).round ≡ st.round + 1
      later = left_frontier (ltb st.round p.rounds) st.round

      old_2 : (c : ℕ) → v.sealed 2 s c ≡ true → w.sealed 2 s c ≡ true
      old_2 c e = elim (or_cases (has (seals p w (finish s b)) (message 2 s c)) _ e) [
        | inl n ↦ let z = ap (λ (m : Message). m.kind) (sealed_by p w (finish s b) (message 2 s c) n).0 in absurd (omega arith)
        | inr o ↦ o
      ]

      past : (c : ℕ) (mark : Bool) → PastOrMarked p st.phase st.round c mark → round_of p c < st.round + 1
      past c mark = past_in_round p st.phase st.round c mark ok.inside

      -- nothing else noted: what the seat has sealed in this round is b
      noted_only : noted_other p st b ≡ false → (c : ℕ) → c < numbers p → st.noted c ≡ true → c ≡ b
      noted_only e c l n = elim (cases_eq c b) [
        | inl f ↦ f
        | inr d ↦ not_both (st.noted c && not (eqb c b)) (and_from _ _ n (not_from_false (eqb c b) (ne_eqb c b d)))
            (none_below (λ c. st.noted c && not (eqb c b)) (numbers p) e c l)
      ]

      last : Acts p s → noted_other p st b ≡ false → SealedLast p v s (frontier (finished p st).phase (finished p st).round) b
      last a e =
          let m = (i.seats s a).marks in
          record {
            past = rw later (omega (arith, ok.of_round));
            only = λ c r h₂. elim (m.noted_2 c (old_2 c h₂)) [
              | inl f ↦ absurd (let z : round_of p c < st.round = rw ok.inside at f in omega (arith, ok.of_round))
              | inr f ↦ noted_only e c (i.blocks c (m.backed_2 c (old_2 c h₂)).is_made).last f.2
            ];
            supported = notarization_quorum p v b is_notarized;
          }

      new_4 : Acts p s → (c : ℕ) → v.sealed 4 s c ≡ true →
          (w.sealed 4 s c ≡ true) ⊎ SealedLast p v s (frontier (finished p st).phase (finished p st).round) c
      new_4 a c e = elim (or_cases (has (seals p w (finish s b)) (message 4 s c)) _ e) [
        | inl n ↦ (let z = sealed_by p w (finish s b) (message 4 s c) n in
            inr (subst (SealedLast p v s (frontier (finished p st).phase (finished p st).round)) (sym (ap (λ (m : Message). m.subject) z.0)) (last a z.1)))
        | inr o ↦ inl o
      ]

      seat : Acts p s → SeatOk p v s (finished p st)
      seat a =
          let x = i.seats s a in
          record {
            stage = leaving p v s st.round (subst (λ (f : Phase). Stage p v s f st.round) ok.inside (stage_stays p w v i g s _ _ x.stage))
                (λ l. g.posts_stay _ ((x.inside ok.inside).next_share l)) settled (ltb st.round p.rounds) refl;
            inside = λ e. left (ltb st.round p.rounds) e;
            marks = marks_move p w v i g s st.phase (finished p st).phase st.round (finished p st).round
                st.proposed st.proposed st.noted st.noted (rw (later, ok.inside) (omega arith))
                (λ c e. inl (rw later (past c _ e))) (λ c e. inl (rw later (past c _ e))) (λ c e. inl (old_2 c e)) (new_4 a) (λ c e _. inl e) x.marks;
            anchor = anchor_stays p w v i g s _ _ x.anchor;
          }
