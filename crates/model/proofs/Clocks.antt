-- A seat's round never starts after its clock, so that to wait by elapsed time and by the clock is the same.
use Rattle.std.proofs.Common.{◌≡◌, ℕ, ◌+◌, ◌≤◌, leb, List, le_refl, arith}
use Rattle.std.proofs.lemmas.Bool.{and_parts, leb-true, cond_both}
use Rattle.model.specs.Setup.{Plan, rank_of, elapsed}
use Rattle.model.specs.World.{World, Seat}
use Rattle.model.specs.Checks.{Call, caller, checks, verdict, noted_rank}
use Rattle.model.specs.Checks.Call.{tick, enter, propose, echo, finish, commit, deliver, forge, seal}
use Rattle.model.specs.Checks.Verdict.{accepted}
use Rattle.model.specs.Seats.{disqualifying, noting}
use Rattle.model.specs.Effects.{seat_after}
use Rattle.model.specs.Journal.{Line, Kept}
use Rattle.model.specs.Journal.Kept.{opened, called}
use Rattle.model.specs.Promises.{Iff}
use Rattle.model.proofs.Tests.{put_each}
use Rattle.model.proofs.Verdicts.{each_holds, after_any}

abbrev Started : Seat → Type 0
Started st = st.start ≤ st.clock

seat_started : (p : Plan) (w : World) (c : Call) → verdict p w c ≡ accepted → Started (w.seat (caller c)) → Started (seat_after p w c)
seat_started p w (tick s time) h l =
    let c = each_holds (checks p w (tick s time)) h in
    omega (arith, leb-true (w.seat s).clock time (and_parts (leb (w.seat s).clock time) _ (c 11)).0)
seat_started p w (enter s) h l = le_refl _
seat_started p w (propose s par xs) h l = l
seat_started p w (echo s b) h l =
    cond_both (noted_rank p (w.seat s) (rank_of p b)) (disqualifying (rank_of p b) (w.seat s)) (noting b (w.seat s)) Started (λ _. l) (λ _. l)
seat_started p w (finish s b) h l = l
seat_started p w (commit s b) h l = l
seat_started p w (deliver s kind signer x) h l = l
seat_started p w (forge s k par xs) h l = l
seat_started p w (seal s kind x) h l = l

pub always_started : (p : Plan) (js : List Line) (w : World) → Kept p js w → (s : ℕ) → (w.seat s).start ≤ (w.seat s).clock
always_started p js w opened s = omega arith
always_started p js w (called {js = ls} {w = v} k c) s =
    let old : (r : ℕ) → Started (v.seat r) = always_started p ls v k in
    after_any (λ u. Started (u.seat s)) p v c (old s)
    (λ h. put_each (λ _ st. Started st) (caller c) (seat_after p v c) v.seat s (seat_started p v c h (old (caller c))) (old s))

pub waits_agree : (p : Plan) (js : List Line) (w : World) → Kept p js w → (s delay : ℕ) →
    Iff (delay ≤ elapsed p s (w.seat s).start (w.seat s).clock) ((w.seat s).start + delay ≤ (w.seat s).clock)
waits_agree p js w k s delay = (λ h. omega (arith, always_started p js w k s), λ h. omega (arith, always_started p js w k s))
