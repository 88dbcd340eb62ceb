-- The calls that leave a seat's round alone meet their duties: tick, deliver, commit and seal.
use Rattle.std.proofs.Common.{◌≡◌, ℕ, true, refl, inl, arith}
use Rattle.model.specs.Setup.{Plan, Lawful, honest, round_of}
use Rattle.model.specs.World.{World, message, finalization, chain}
use Rattle.model.specs.Checks.{verdict}
use Rattle.model.specs.Checks.Call.{tick, commit, deliver, seal}
use Rattle.model.specs.Checks.Verdict.{accepted}
use Rattle.model.specs.Seats.{committed}
use Rattle.model.specs.Effects.{effect}
use Rattle.model.proofs.Tests.{not_both}
use Rattle.model.proofs.Accepted.{known_made, Acts, Commits, commit_met, deliver_met, seal_met}
use Rattle.model.proofs.Growth.{Grows, grows_none}
use Rattle.model.proofs.Existence.{exists_grows, finalizing_quorum, commit_combines}
use Rattle.model.proofs.Ranges.{fits_grows, finalization_fits}
use Rattle.model.proofs.Invariant.{Anchored, Inv}
use Rattle.model.proofs.Stays.{seat_stays, anchor_stays}
use Rattle.model.proofs.Chains.{lower_first, goes_on}
use Rattle.model.proofs.Duties.{Duties, effect_grows}

module _ (p : Plan) (w : World) (i : Inv p w) where
  pub tick_meets : (s time : ℕ) → Duties p w (tick s time)
  tick_meets s time = record {
    grows = g;
    blocks = λ b h. inl h;
    arrive = tt;
    sent = tt;
    seat = λ a. let x = seat_stays p w _ i g s (w.seat s) (λ b h. h) (λ b h. h) (λ b h _. h) (i.seats s a) in
        record { stage = x.stage; inside = x.inside; marks = x.marks; anchor = x.anchor };
  }
    where
      g : Grows w (effect p w (tick s time))
      g = effect_grows p w (tick s time) (grows_none w)

  pub deliver_meets : (s kind signer x : ℕ) → verdict p w (deliver s kind signer x) ≡ accepted → Duties p w (deliver s kind signer x)
  deliver_meets s kind signer x h = record {
    grows = g;
    blocks = λ b e. inl e;
    arrive = (exists_grows p w _ g (message kind signer x) (deliver_met p w s kind signer x h), tt);
    sent = tt;
    seat = λ a. seat_stays p w _ i g s (w.seat s) (λ b e. e) (λ b e. e) (λ b e _. e) (i.seats s a);
  }
    where
      g : Grows w (effect p w (deliver s kind signer x))
      g = effect_grows p w (deliver s kind signer x) (grows_none w)

  pub seal_meets : (s kind x : ℕ) → verdict p w (seal s kind x) ≡ accepted → Duties p w (seal s kind x)
  seal_meets s kind x h = record {
    grows = effect_grows p w (seal s kind x) (grows_none w);
    blocks = λ b e. inl e;
    arrive = tt;
    sent = tt;
    seat = λ a. not_both (honest p s) a.honest_seat (seal_met p w s kind x h);
  }

  pub commit_meets : Lawful p → (s b : ℕ) → verdict p w (commit s b) ≡ accepted → Duties p w (commit s b)
  commit_meets l s b h = record {
    grows = g;
    blocks = λ c e. inl e;
    arrive = (commit_combines p w i.pools s b g ok.complete, tt);
    sent = (fits_grows p w _ g (finalization b) (finalization_fits p w b (i.blocks b is_made) is_made), tt);
    seat = λ a. let x = seat_stays p w _ i g s (w.seat s) (λ b h. h) (λ b h. h) (λ b h _. h) (i.seats s a) in
        record { stage = x.stage; inside = x.inside; marks = x.marks; anchor = anchor_stays p w _ i g s _ _ (b, anchored, longer a) };
  }
    where
      ok : Commits p w s b
      ok = commit_met p w s b h

      g : Grows w (effect p w (commit s b))
      g = effect_grows p w (commit s b) (grows_none w)

      is_made : w.made b ≡ true
      is_made = known_made p w b ok.block_known (omega (arith, ok.later_round))

      anchored : Anchored p w s (round_of p b) b
      anchored = record { sits = ok.is_valid; level = refl; final = λ _. finalizing_quorum p w i.pools s b ok.complete }

      longer : Acts p s → (committed p w b (w.seat s)).catalogue ≡ chain w (round_of p b) b
      longer a =
          let k = (i.seats s a).anchor in
          goes_on w (w.seat s).k_max (round_of p b) k.0 b (w.seat s).catalogue k.2
          (lower_first p w i l s s (w.seat s).k_max (round_of p b) k.0 b (omega (arith, ok.later_round)) k.1 anchored)
