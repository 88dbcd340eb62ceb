-- When the calls of an honest seat in the protocol are accepted.
use Rattle.std.proofs.Common.{◌≡◌, ℕ, ◌+◌, ◌≤◌, true, false, [], refl, ap}
use Rattle.std.proofs.lemmas.Bool.{and_from, not_from_false, lt-ltb, le-leb, eq-eqb}
use Rattle.model.specs.Setup.{Plan, round_of, rank_of, prop_delay, ntry_delay, elapsed}
use Rattle.model.specs.World.{World, message, exists, valid, notarized, held}
use Rattle.model.specs.World.Phase.{waiting, in_round}
use Rattle.model.specs.Checks.{checks, verdict, known, combined, in_range, some_better, is_in_round, is_waiting}
use Rattle.model.specs.Checks.Call.{enter, propose, echo, finish, deliver}
use Rattle.model.specs.Checks.Verdict.{accepted}
use Rattle.model.proofs.Verdicts.{none_failed, ◌then◌}
use Rattle.model.proofs.Accepted.{Acts}

module _ (p : Plan) (w : World) (s : ℕ) (a : Acts p s) where
  pub enter_ready : (w.seat s).phase ≡ waiting → p.t + 1 ≤ held p w s 6 (w.seat s).round → verdict p w (enter s) ≡ accepted
  enter_ready waits shares = none_failed (checks p w (enter s))
      (lt-ltb s p.n a.below then a.honest_seat then ap is_waiting waits then le-leb _ _ shares then tt)

  pub propose_empty_ready : (par : ℕ) → known p w par ≡ true → (w.seat s).phase ≡ in_round → (w.seat s).proposed ≡ false →
      prop_delay p (p.rank (w.seat s).round s) ≤ elapsed p s (w.seat s).start (w.seat s).clock →
      round_of p par + 1 ≡ (w.seat s).round → notarized p w s par ≡ true → verdict p w (propose s par []) ≡ accepted
  propose_empty_ready par is_there inside unproposed delay next nt = none_failed (checks p w (propose s par []))
      (lt-ltb s p.n a.below
      then a.honest_seat
      then and_from _ _ is_there refl
      then ap is_in_round inside
      then not_from_false (w.seat s).proposed unproposed
      then le-leb _ _ delay
      then eq-eqb _ _ next
      then nt
      then refl
      then tt)

  pub echo_ready : (b : ℕ) → known p w b ≡ true → (w.seat s).phase ≡ in_round → round_of p b ≡ (w.seat s).round →
      (w.seat s).noted b ≡ false → (w.seat s).disqualified (rank_of p b) ≡ false → valid p w s b ≡ true →
      ntry_delay p (rank_of p b) ≤ elapsed p s (w.seat s).start (w.seat s).clock →
      some_better p w s (rank_of p b) ≡ false → verdict p w (echo s b) ≡ accepted
  echo_ready b is_there inside now unnoted qualified vl delay best = none_failed (checks p w (echo s b))
      (lt-ltb s p.n a.below
      then a.honest_seat
      then is_there
      then ap is_in_round inside
      then eq-eqb _ _ now
      then and_from _ _ (not_from_false ((w.seat s).noted b) unnoted) (not_from_false ((w.seat s).disqualified (rank_of p b)) qualified)
      then vl
      then le-leb _ _ delay
      then not_from_false (some_better p w s (rank_of p b)) best
      then tt)

  pub finish_ready : (b : ℕ) → known p w b ≡ true → (w.seat s).phase ≡ in_round → round_of p b ≡ (w.seat s).round →
      valid p w s b ≡ true → combined p w s 2 b 3 ≡ true → verdict p w (finish s b) ≡ accepted
  finish_ready b is_there inside now vl full = none_failed (checks p w (finish s b))
      (lt-ltb s p.n a.below then a.honest_seat then is_there then ap is_in_round inside then eq-eqb _ _ now then vl then full then tt)

  pub deliver_ready : (kind signer x : ℕ) → in_range p w kind signer x ≡ true → exists p w (message kind signer x) ≡ true →
      verdict p w (deliver s kind signer x) ≡ accepted
  deliver_ready kind signer x fits there = none_failed (checks p w (deliver s kind signer x))
      (lt-ltb s p.n a.below then a.honest_seat then fits then there then tt)
