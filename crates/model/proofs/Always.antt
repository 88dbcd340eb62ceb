-- The invariant holds at the opening and under every line of a complete journal.
use Rattle.std.proofs.Common.{◌≡◌, ℕ, true, false, ◌&&◌, eqb, ltb, List, sym, refl, subst, arith}
use Rattle.std.proofs.lemmas.Bool.{eqb-true, ltb-true, and_parts, and_from, lt-ltb}
use Rattle.model.specs.Setup.{Plan, Lawful, honest}
use Rattle.model.specs.World.{World, Message, beacon_share, exists}
use Rattle.model.specs.Checks.{Call, verdict}
use Rattle.model.specs.Checks.Call.{tick, enter, propose, echo, finish, commit, deliver, forge, seal}
use Rattle.model.specs.Checks.Verdict.{accepted}
use Rattle.model.specs.Effects.{after, opening}
use Rattle.model.specs.Journal.{Line, Kept}
use Rattle.model.specs.Journal.Kept.{opened, called}
use Rattle.model.specs.Promises.{FirstShare}
use Rattle.model.proofs.Tests.{not_both, same_true, waiting_not_in_round, waiting_not_done}
use Rattle.model.proofs.Verdicts.{after_any}
use Rattle.model.proofs.Growth.{Grows, grows_none}
use Rattle.model.proofs.Ranges.{Fits, beacon_fits}
use Rattle.model.proofs.Invariant.{Inv}
use Rattle.model.proofs.Duties.{Duties, duties_keep}
use Rattle.model.proofs.PlainCalls.{tick_meets, deliver_meets, commit_meets, seal_meets}
use Rattle.model.proofs.RoundCalls.{enter_meets, finish_meets}
use Rattle.model.proofs.EchoCall.{echo_meets}
use Rattle.model.proofs.MakingCalls.{propose_meets, forge_meets}

pub first_share : (p : Plan) (m : Message) → (opening p).posted m ≡ true → FirstShare p m
first_share p m h =
    let (kind-6, rest) = and_parts (eqb m.kind 6) _ h in
    let (round-1, acts) = and_parts (eqb m.subject 1) _ rest in
    let (below, honest_seat) = and_parts (ltb m.signer p.n) _ acts in
    let e = eqb-true m.kind 6 kind-6 in
    let f = eqb-true m.subject 1 round-1 in
    (m.signer, ltb-true m.signer p.n below, honest_seat, λ n. record { kind = e n; signer = m.signer; subject = f n })

module _ (p : Plan) (l : Lawful p) where
  opening_inv : Inv p (opening p)
  opening_inv = record {
    blocks = λ b h. not_both false h refl;
    pools = λ s m h.
        let (acts, same-m) = and_parts (ltb s p.n && honest p s) _ h in
        subst (λ (x : Message). exists p (opening p) x ≡ true) (same_true (beacon_share s 1) m same-m) acts;
    posts = λ m h.
        let (s, below, honest_seat, e) = first_share p m h in
        record {
          fits = subst (Fits p (opening p)) (sym e) (beacon_fits p (opening p) s 1 below (omega arith) l.some_round);
          is_there = subst (λ (x : Message). exists p (opening p) x ≡ true) (sym e) (and_from _ _ (lt-ltb s p.n below) honest_seat);
        };
    seats = λ s a. record {
      stage = record {
        from_one = omega arith;
        to_last = l.some_round;
        done_last = λ d. waiting_not_done d;
        beacons = λ j first last. let e : 1 ≡ j = omega arith in
            subst (λ (x : ℕ). (opening p).posted (beacon_share s x) ≡ true) e (and_from _ _ (lt-ltb s p.n a.below) a.honest_seat);
        past = λ j first last. absurd (omega arith);
        past_done = λ d. waiting_not_done d;
      };
      inside = λ d. waiting_not_in_round d;
      marks = record {
        backed_2 = λ b h. not_both false h refl;
        noted_2 = λ b h. not_both false h refl;
        last_4 = λ b h. not_both false h refl;
        own = λ b h. not_both false h refl;
      };
      anchor = (0, record { sits = refl; level = refl; final = λ h. absurd (omega arith) }, refl);
    };
  }

  meets : (w : World) → Inv p w → (c : Call) → verdict p w c ≡ accepted → Duties p w c
  meets w i (tick s time) h = tick_meets p w i s time
  meets w i (enter s) h = enter_meets p w i s h
  meets w i (propose s par xs) h = propose_meets p w i s par xs h
  meets w i (echo s b) h = echo_meets p w i s b h
  meets w i (finish s b) h = finish_meets p w i s b h
  meets w i (commit s b) h = commit_meets p w i l s b h
  meets w i (deliver s kind signer x) h = deliver_meets p w i s kind signer x h
  meets w i (forge s k par xs) h = forge_meets p w i s k par xs h
  meets w i (seal s kind x) h = seal_meets p w i s kind x h

  pub after_keeps : (w : World) → Inv p w → (c : Call) → Inv p (after p w c)
  after_keeps w i c = after_any (Inv p) p w c i (λ h. duties_keep p w c i (meets w i c h))

  pub after_grows : (w : World) → Inv p w → (c : Call) → Grows w (after p w c)
  after_grows w i c = after_any (Grows w) p w c (grows_none w) (λ h. (meets w i c h).grows)

  pub always : (js : List Line) (w : World) → Kept p js w → Inv p w
  always js w opened = opening_inv
  always js w (called {js = ls} {w = v} k c) = after_keeps v (always ls v k) c
