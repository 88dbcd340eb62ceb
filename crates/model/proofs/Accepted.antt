-- What holds where a call is accepted, a record to a call.
use Rattle.std.proofs.Common.{◌≡◌, ℕ, ◌+◌, ◌<◌, ◌≤◌, true, false, not, eqb, ltb, leb, ◌⊎◌, List, ap, inl, inr, arith}
use Rattle.std.proofs.lemmas.Bool.{and_parts, and_from, or_cases, or_right, not-true, ltb-true, eqb-true, leb-true, lt-ltb}
use Rattle.model.specs.Setup.{Plan, honest, round_of, rank_of, numbers}
use Rattle.model.specs.World.{World, message, exists, chain, places_of, sound, valid, notarized}
use Rattle.model.specs.World.Phase.{waiting, in_round}
use Rattle.model.specs.Checks.{checks, verdict, known, combined, made_in}
use Rattle.model.specs.Checks.Call.{enter, propose, echo, finish, commit, deliver, forge, seal}
use Rattle.model.specs.Checks.Verdict.{accepted}
use Rattle.model.proofs.Tests.{waiting_is, in_round_is}
use Rattle.model.proofs.Verdicts.{each_holds}

-- The seat of a call is one of the hall's, and honest.
pub record Acts (p : Plan) (s : ℕ) : Type 0 where
  pub below : s < p.n
  pub honest_seat : honest p s ≡ true

pub acting : {p : Plan} {s : ℕ} → s < p.n → honest p s ≡ true → Acts p s
acting below honest_seat = record { below = below; honest_seat = honest_seat }

-- the root, or a block that was made
abbrev pub Known : World → ℕ → Type 0
Known w b = (b ≡ 0) ⊎ (w.made b ≡ true)

known_is : (p : Plan) (w : World) (b : ℕ) → known p w b ≡ true → Known w b
known_is p w b h =
    elim (or_cases (eqb b 0) _ h) [ inl e ↦ inl (eqb-true b 0 e) | inr m ↦ inr (and_parts (ltb b (numbers p)) (w.made b) m).1 ]

-- either has a number in range
pub known_below : (p : Plan) (w : World) (b : ℕ) → known p w b ≡ true → b < numbers p
known_below p w b h =
    elim (or_cases (eqb b 0) _ h) [ inl e ↦ omega (arith, eqb-true b 0 e) | inr m ↦ ltb-true b (numbers p) (and_parts (ltb b (numbers p)) (w.made b) m).0 ]

-- the root is of round 0
pub known_made : (p : Plan) (w : World) (b : ℕ) → Known w b → 1 ≤ round_of p b → w.made b ≡ true
known_made p w b (inl e) h = absurd (omega (arith, ap (round_of p) e))
known_made p w b (inr m) h = m

pub is_known : (p : Plan) (w : World) (b : ℕ) → b < numbers p → w.made b ≡ true → known p w b ≡ true
is_known p w b l m = or_right (eqb b 0) _ (and_from (ltb b (numbers p)) (w.made b) (lt-ltb b (numbers p) l) m)

pub record Enters (p : Plan) (w : World) (s : ℕ) : Type 0 where
  pub acts : Acts p s
  pub waits : (w.seat s).phase ≡ waiting

pub record Proposes (p : Plan) (w : World) (s par : ℕ) (xs : List ℕ) : Type 0 where
  pub acts : Acts p s
  pub parent_known : Known w par
  pub inside : (w.seat s).phase ≡ in_round
  pub unproposed : (w.seat s).proposed ≡ false
  pub next_round : round_of p par + 1 ≡ (w.seat s).round
  pub parent_notarized : notarized p w s par ≡ true
  pub payload : sound p (places_of w (chain w (round_of p par) par)) xs ≡ true

pub record Echoes (p : Plan) (w : World) (s b : ℕ) : Type 0 where
  pub acts : Acts p s
  pub block_known : Known w b
  pub inside : (w.seat s).phase ≡ in_round
  pub of_round : round_of p b ≡ (w.seat s).round
  pub unnoted : (w.seat s).noted b ≡ false
  pub qualified : (w.seat s).disqualified (rank_of p b) ≡ false
  pub is_valid : valid p w s b ≡ true

pub record Finishes (p : Plan) (w : World) (s b : ℕ) : Type 0 where
  pub acts : Acts p s
  pub block_known : Known w b
  pub inside : (w.seat s).phase ≡ in_round
  pub of_round : round_of p b ≡ (w.seat s).round
  pub complete : combined p w s 2 b 3 ≡ true

pub record Commits (p : Plan) (w : World) (s b : ℕ) : Type 0 where
  pub acts : Acts p s
  pub block_known : Known w b
  pub later_round : (w.seat s).k_max < round_of p b
  pub is_valid : valid p w s b ≡ true
  pub complete : combined p w s 4 b 5 ≡ true

pub record Forges (p : Plan) (w : World) (s k par : ℕ) : Type 0 where
  pub below : s < p.n
  pub corrupt_seat : honest p s ≡ false
  pub from_one : 1 ≤ k
  pub to_last : k ≤ p.rounds
  pub parent_known : Known w par
  pub next_round : round_of p par + 1 ≡ k
  pub room : made_in p w s k < 3

module _ (p : Plan) (w : World) where
  pub enter_met : (s : ℕ) → verdict p w (enter s) ≡ accepted → Enters p w s
  enter_met s h =
      let c = each_holds (checks p w (enter s)) h in
      record { acts = acting (ltb-true s p.n (c 8)) (c 9); waits = waiting_is (w.seat s).phase (c 12) }

  pub propose_met : (s par : ℕ) (xs : List ℕ) → verdict p w (propose s par xs) ≡ accepted → Proposes p w s par xs
  propose_met s par xs h =
      let c = each_holds (checks p w (propose s par xs)) h in
      record {
        acts = acting (ltb-true s p.n (c 8)) (c 9);
        parent_known = known_is p w par (and_parts (known p w par) _ (c 10)).0;
        inside = in_round_is (w.seat s).phase (c 12);
        unproposed = not-true (w.seat s).proposed (c 15);
        next_round = eqb-true (round_of p par + 1) (w.seat s).round (c 17);
        parent_notarized = c 18;
        payload = c 19;
      }

  pub echo_met : (s b : ℕ) → verdict p w (echo s b) ≡ accepted → Echoes p w s b
  echo_met s b h =
      let c = each_holds (checks p w (echo s b)) h in
      record {
        acts = acting (ltb-true s p.n (c 8)) (c 9);
        block_known = known_is p w b (c 10);
        inside = in_round_is (w.seat s).phase (c 12);
        of_round = eqb-true (round_of p b) (w.seat s).round (c 17);
        unnoted = not-true ((w.seat s).noted b) (and_parts (not ((w.seat s).noted b)) _ (c 16)).0;
        qualified = not-true ((w.seat s).disqualified (rank_of p b)) (and_parts (not ((w.seat s).noted b)) _ (c 16)).1;
        is_valid = c 18;
      }

  pub finish_met : (s b : ℕ) → verdict p w (finish s b) ≡ accepted → Finishes p w s b
  finish_met s b h =
      let c = each_holds (checks p w (finish s b)) h in
      record {
        acts = acting (ltb-true s p.n (c 8)) (c 9);
        block_known = known_is p w b (c 10);
        inside = in_round_is (w.seat s).phase (c 12);
        of_round = eqb-true (round_of p b) (w.seat s).round (c 17);
        complete = c 21;
      }

  pub commit_met : (s b : ℕ) → verdict p w (commit s b) ≡ accepted → Commits p w s b
  commit_met s b h =
      let c = each_holds (checks p w (commit s b)) h in
      record {
        acts = acting (ltb-true s p.n (c 8)) (c 9);
        block_known = known_is p w b (c 10);
        later_round = ltb-true (w.seat s).k_max (round_of p b) (c 17);
        is_valid = c 18;
        complete = c 21;
      }

  pub deliver_met : (s kind signer x : ℕ) → verdict p w (deliver s kind signer x) ≡ accepted → exists p w (message kind signer x) ≡ true
  deliver_met s kind signer x h = let c = each_holds (checks p w (deliver s kind signer x)) h in c 22

  pub forge_met : (s k par : ℕ) (xs : List ℕ) → verdict p w (forge s k par xs) ≡ accepted → Forges p w s k par
  forge_met s k par xs h =
      let c = each_holds (checks p w (forge s k par xs)) h in
      let (one, more) = and_parts (leb 1 k) _ (c 10) in
      let (last, rest) = and_parts (leb k p.rounds) _ more in
      record {
        below = ltb-true s p.n (c 8);
        corrupt_seat = not-true (honest p s) (c 9);
        from_one = leb-true 1 k one;
        to_last = leb-true k p.rounds last;
        parent_known = known_is p w par (and_parts (known p w par) _ rest).0;
        next_round = eqb-true (round_of p par + 1) k (c 17);
        room = ltb-true (made_in p w s k) 3 (c 15);
      }

  pub seal_met : (s kind x : ℕ) → verdict p w (seal s kind x) ≡ accepted → honest p s ≡ false
  seal_met s kind x h = let c = each_holds (checks p w (seal s kind x)) h in not-true (honest p s) (c 9)
