-- Runs end: each accepted rule of a seat raises what the seat has used, and the plan bounds that.
use Rattle.std.proofs.Common.{◌≡◌, ℕ, ◌+◌, ◌-◌, ◌*◌, ◌<◌, ◌≤◌, Bool, true, false, cond, ◌&&◌, ltb, List, [], ◌∷◌, ◌++◌, sym, refl, ap, subst, le_refl, mul-le-mul_right, arith}
use Rattle.std.proofs.lemmas.Bool.{cond_both, and_parts, and_from, ltb-true, eq-eqb}
use Rattle.basics.specs.Count.{tally}
use Rattle.basics.specs.Put.{put}
use Rattle.model.specs.Setup.{Plan, Lawful, rank_of, numbers}
use Rattle.model.specs.World.{World, Seat, Phase}
use Rattle.model.specs.World.Phase.{waiting, in_round, done}
use Rattle.model.specs.Checks.{Call, Verdict, caller, checks, verdict, noted_rank}
use Rattle.model.specs.Checks.Call.{tick, enter, propose, echo, finish, commit, deliver, forge, seal}
use Rattle.model.specs.Checks.Verdict.{accepted, refused}
use Rattle.model.specs.Seats.{noting, disqualifying}
use Rattle.model.specs.Effects.{after, effect, seat_after, is_accepted}
use Rattle.model.specs.Journal.{Line, Kept}
use Rattle.model.specs.Journal.Kept.{opened, called}
use Rattle.model.specs.Promises.{RunsEnd, is_seat_rule, rules_used}
use Rattle.model.proofs.Tests.{put_each, put_here}
use Rattle.model.proofs.Searches.{found, find}
use Rattle.model.proofs.Counting.{one_if, tally_most, tally_rises, total, total_rises, total_most}
use Rattle.model.proofs.Numbering.{rank_below, round_below}
use Rattle.model.proofs.Verdicts.{each_holds, after_any}
use Rattle.model.proofs.Accepted.{enter_met, propose_met, echo_met, finish_met, commit_met, known_below}

module _ (p : Plan) where
  -- what a seat has used of its rules: all of a round that it is past; of the one that it is in, the enter and x more
  abbrev spent : Phase → ℕ → ℕ → ℕ
  spent waiting k x = (k - 1) * (2 * p.n + 3)
  spent in_round k x = (k - 1) * (2 * p.n + 3) + 1 + x
  spent done k x = k * (2 * p.n + 3)

  -- its proposal, and two echoes to a rank
  abbrev inside : Bool → (ℕ → Bool) → (ℕ → Bool) → ℕ
  inside proposed noted disqualified = one_if proposed + (tally noted p.n + tally disqualified p.n)

  -- all together, with its commits: each raises k-max
  abbrev used : Seat → ℕ
  used st = spent st.phase st.round (inside st.proposed (noted_rank p st) st.disqualified) + st.k_max

  -- of each seat, corrupt ones too: they stay as they were at the opening
  pub record Bounded (st : Seat) : Type 0 where
    pub from_one : 1 ≤ st.round
    pub to_last : st.round ≤ p.rounds
    pub k_max_low : st.k_max ≤ p.rounds

  -- at most that is used, in a round and in all
  inside_most : (a : Bool) (f g : ℕ → Bool) → inside a f g ≤ 2 * p.n + 1
  inside_most true f g = omega (arith, tally_most f p.n, tally_most g p.n)
  inside_most false f g = omega (arith, tally_most f p.n, tally_most g p.n)

  -- one round more
  times_next : (k c : ℕ) → 1 ≤ k → (k - 1) * c + c ≡ k * c
  times_next k c one = let m : k * c ≡ (k - 1 + 1) * c = ap (λ (x : ℕ). x * c) (omega arith) in omega arith

  spent_most : (phase : Phase) (k x : ℕ) → 1 ≤ k → x ≤ 2 * p.n + 1 → spent phase k x ≤ k * (2 * p.n + 3)
  spent_most waiting k x one m = omega (arith, times_next k (2 * p.n + 3) one)
  spent_most in_round k x one m = omega (arith, times_next k (2 * p.n + 3) one)
  spent_most done k x one m = omega arith

  used_most : (st : Seat) → Bounded st → used st ≤ p.rounds * (2 * p.n + 4)
  used_most st b =
      let x = inside_most st.proposed (noted_rank p st) st.disqualified in
      let m : st.round * (2 * p.n + 3) ≤ p.rounds * (2 * p.n + 3) = mul-le-mul_right (2 * p.n + 3) b.to_last in
      omega (arith, spent_most st.phase st.round _ b.from_one x, b.k_max_low)

  abbrev inside_now : Seat → ℕ
  inside_now st = inside st.proposed (noted_rank p st) st.disqualified

  -- a proposal, or a rank noted or disqualified, more
  inside_spends : (st : Seat) (a : Bool) (f g : ℕ → Bool) → st.phase ≡ in_round → inside_now st + 1 ≤ inside a f g →
      used st + 1 ≤ spent st.phase st.round (inside a f g) + st.k_max
  inside_spends st a f g e more =
      omega (arith, ap (λ ph. spent ph st.round (inside_now st)) e, ap (λ ph. spent ph st.round (inside a f g)) e)

  -- a finish, an enter: whatever was used in the round before
  finish_spends : (phase : Phase) (k x y : ℕ) (more : Bool) → phase ≡ in_round → 1 ≤ k → x ≤ 2 * p.n + 1 →
      spent phase k x + 1 ≤ spent (cond more waiting done) (cond more (k + 1) k) y
  finish_spends phase k x y true e one m =
      let on : (k + 1 - 1) * (2 * p.n + 3) ≡ k * (2 * p.n + 3) = ap (λ (j : ℕ). j * (2 * p.n + 3)) (omega arith) in
      let here : spent phase k x ≡ (k - 1) * (2 * p.n + 3) + 1 + x = ap (λ ph. spent ph k x) e in
      let enough : spent phase k x + 1 ≤ (k + 1 - 1) * (2 * p.n + 3) = omega (arith, times_next k (2 * p.n + 3) one) in
      enough
  finish_spends phase k x y false e one m =
      let here : spent phase k x ≡ (k - 1) * (2 * p.n + 3) + 1 + x = ap (λ ph. spent ph k x) e in
      let enough : spent phase k x + 1 ≤ k * (2 * p.n + 3) = omega (arith, times_next k (2 * p.n + 3) one) in
      enough

  enter_spends : (phase : Phase) (k x y : ℕ) → phase ≡ waiting → spent phase k x + 1 ≤ spent in_round k y
  enter_spends phase k x y e = omega (arith, ap (λ ph. spent ph k x) e)

module _ (p : Plan) (l : Lawful p) where
  -- a noted block is of a noted rank
  noting_here : (b : ℕ) (st : Seat) → b < numbers p → noted_rank p (noting b st) (rank_of p b) ≡ true
  noting_here b st low = find _ (numbers p) b low (and_from _ _ (put_here b true st.noted) (eq-eqb (rank_of p b) (rank_of p b) refl))

  noting_more : (b : ℕ) (st : Seat) (r : ℕ) → noted_rank p st r ≡ true → noted_rank p (noting b st) r ≡ true
  noting_more b st r h =
      let (c, low, both) = found _ (numbers p) h in
      let (is-noted, of_rank) = and_parts (st.noted c) _ both in
      find _ (numbers p) c low (and_from _ _ (put_each (λ _ x. x ≡ true) b true st.noted c refl is-noted) of_rank)

  -- an accepted call of the five raises what its seat has used, and no call lowers it
  seat_uses : (w : World) (c : Call) → verdict p w c ≡ accepted → Bounded p (w.seat (caller c)) →
      used p (w.seat (caller c)) + one_if (is_seat_rule c) ≤ used p (seat_after p w c)
  seat_uses w (tick s time) h ok = omega arith
  seat_uses w (enter s) h ok =
      omega (arith, enter_spends p (w.seat s).phase (w.seat s).round (inside_now p (w.seat s)) 0 (enter_met p w s h).waits)
  seat_uses w (propose s par xs) h ok =
      let st = w.seat s in
      let m = propose_met p w s par xs h in
      inside_spends p st true (noted_rank p st) st.disqualified m.inside (omega (arith, ap one_if m.unproposed))
  seat_uses w (echo s b) h ok =
      let st = w.seat s in
      let r = rank_of p b in
      let m = echo_met p w s b h in
      let c = each_holds (checks p w (echo s b)) h in
      cond_both (noted_rank p st r) (disqualifying r st) (noting b st) (λ x. used p st + 1 ≤ used p x)
      (λ _. inside_spends p st st.proposed (noted_rank p st) (put r true st.disqualified) m.inside
      (omega (
        arith,
        tally_rises st.disqualified (put r true st.disqualified) p.n r (rank_below p b l)
            (λ j _ q. put_each (λ _ x. x ≡ true) r true st.disqualified j refl q) m.qualified (put_here r true st.disqualified),
      )))
      (λ e. inside_spends p st st.proposed (noted_rank p (noting b st)) st.disqualified m.inside
      (omega (
        arith,
        tally_rises (noted_rank p st) (noted_rank p (noting b st)) p.n r (rank_below p b l)
            (λ j _ q. noting_more b st j q) e (noting_here b st (known_below p w b (c 10))),
      )))
  seat_uses w (finish s b) h ok =
      let st = w.seat s in
      let m = finish_met p w s b h in
      omega (
        arith,
        finish_spends p st.phase st.round (inside_now p st) (inside_now p st) (ltb st.round p.rounds) m.inside ok.from_one
            (inside_most p st.proposed (noted_rank p st) st.disqualified),
      )
  seat_uses w (commit s b) h ok = omega (arith, (commit_met p w s b h).later_round)
  seat_uses w (deliver s kind signer x) h ok = omega arith
  seat_uses w (forge s k par xs) h ok = omega arith
  seat_uses w (seal s kind x) h ok = omega arith

  -- the bounds stay
  seat_bounded : (w : World) (c : Call) → verdict p w c ≡ accepted → Bounded p (w.seat (caller c)) → Bounded p (seat_after p w c)
  seat_bounded w (tick s time) h ok = record { from_one = ok.from_one; to_last = ok.to_last; k_max_low = ok.k_max_low }
  seat_bounded w (enter s) h ok = record { from_one = ok.from_one; to_last = ok.to_last; k_max_low = ok.k_max_low }
  seat_bounded w (propose s par xs) h ok = record { from_one = ok.from_one; to_last = ok.to_last; k_max_low = ok.k_max_low }
  seat_bounded w (echo s b) h ok =
      cond_both (noted_rank p (w.seat s) (rank_of p b)) (disqualifying (rank_of p b) (w.seat s)) (noting b (w.seat s)) (Bounded p)
      (λ _. record { from_one = ok.from_one; to_last = ok.to_last; k_max_low = ok.k_max_low })
      (λ _. record { from_one = ok.from_one; to_last = ok.to_last; k_max_low = ok.k_max_low })
  seat_bounded w (finish s b) h ok =
      let k = (w.seat s).round in
      let (low, high) = cond_both (ltb k p.rounds) (k + 1) k (λ (j : ℕ). (1 ≤ j) × (j ≤ p.rounds))
      (λ e. (omega arith, omega (arith, ltb-true k p.rounds e))) (λ _. (ok.from_one, ok.to_last)) in
      record { from_one = low; to_last = high; k_max_low = ok.k_max_low }
  seat_bounded w (commit s b) h ok =
      let c = each_holds (checks p w (commit s b)) h in
      record { from_one = ok.from_one; to_last = ok.to_last; k_max_low = round_below p b l (known_below p w b (c 10)) }
  seat_bounded w (deliver s kind signer x) h ok = ok
  seat_bounded w (forge s k par xs) h ok = ok
  seat_bounded w (seal s kind x) h ok = ok

  always_bounded : (js : List Line) (w : World) → Kept p js w → (s : ℕ) → Bounded p (w.seat s)
  always_bounded js w opened s = record { from_one = omega arith; to_last = l.some_round; k_max_low = omega arith }
  always_bounded js w (called {js = ls} {w = v} k c) s =
      let old : (r : ℕ) → Bounded p (v.seat r) = always_bounded ls v k in
      after_any (λ u. Bounded p (u.seat s)) p v c (old s)
      (λ h. put_each (λ _ st. Bounded p st) (caller c) (seat_after p v c) v.seat s (seat_bounded v c h (old (caller c))) (old s))

  -- the caller is a seat of the hall
  caller_below : (w : World) (c : Call) → verdict p w c ≡ accepted → caller c < p.n
  caller_below w (tick s time) h = ltb-true s p.n (each_holds (checks p w (tick s time)) h 8)
  caller_below w (enter s) h = ltb-true s p.n (each_holds (checks p w (enter s)) h 8)
  caller_below w (propose s par xs) h = ltb-true s p.n (each_holds (checks p w (propose s par xs)) h 8)
  caller_below w (echo s b) h = ltb-true s p.n (each_holds (checks p w (echo s b)) h 8)
  caller_below w (finish s b) h = ltb-true s p.n (each_holds (checks p w (finish s b)) h 8)
  caller_below w (commit s b) h = ltb-true s p.n (each_holds (checks p w (commit s b)) h 8)
  caller_below w (deliver s kind signer x) h = ltb-true s p.n (each_holds (checks p w (deliver s kind signer x)) h 8)
  caller_below w (forge s k par xs) h = ltb-true s p.n (each_holds (checks p w (forge s k par xs)) h 8)
  caller_below w (seal s kind x) h = ltb-true s p.n (each_holds (checks p w (seal s kind x)) h 8)

  -- what all seats together have used
  abbrev used_in_all : World → ℕ
  used_in_all w = total (λ s. used p (w.seat s)) p.n

  effect_uses : (w : World) (c : Call) → verdict p w c ≡ accepted → ((s : ℕ) → Bounded p (w.seat s)) →
      used_in_all w + one_if (is_seat_rule c) ≤ used_in_all (effect p w c)
  effect_uses w c h ok =
      let here = seat_uses w c h (ok (caller c)) in
      total_rises (λ s. used p (w.seat s)) (λ s. used p ((effect p w c).seat s)) (one_if (is_seat_rule c)) p.n (caller c) (caller_below w c h)
      (λ s. put_each (λ r st. used p (w.seat r) ≤ used p st) (caller c) (seat_after p w c) w.seat s (omega (arith, here)) (le_refl _))
      (subst (λ st. used p (w.seat (caller c)) + one_if (is_seat_rule c) ≤ used p st) (sym (put_here (caller c) (seat_after p w c) w.seat)) here)

  rules_append : (js ks : List Line) → rules_used (js ++ ks) ≡ rules_used js + rules_used ks
  rules_append [] ks = omega arith
  rules_append (j ∷ js) ks = omega (arith, rules_append js ks)

  -- a journal's accepted rules are no more than that
  used_at_least : (js : List Line) (w : World) → Kept p js w → rules_used js ≤ used_in_all w
  used_at_least js w opened = omega arith
  used_at_least js w (called {js = ls} {w = v} k c) =
      let old = used_at_least ls v k in
      subst (λ (x : ℕ). x ≤ used_in_all (after p v c)) (sym (rules_append ls _)) (go (verdict p v c) refl old)
    where
      go : (x : Verdict) → verdict p v c ≡ x → rules_used ls ≤ used_in_all v →
          rules_used ls + (cond (is_accepted x && is_seat_rule c) 1 0 + 0) ≤ used_in_all (cond (is_accepted x) (effect p v c) v)
      go accepted e old = omega (arith, old, effect_uses v c e (always_bounded ls v k))
      go (refused _ _ _ _) e old = omega (arith, old)

  pub runs_end : RunsEnd p
  runs_end js w k =
      omega (
        arith,
        used_at_least js w k,
        total_most (λ s. used p (w.seat s)) (p.rounds * (2 * p.n + 4)) p.n (λ s. used_most p (w.seat s) (always_bounded js w k s)),
      )
