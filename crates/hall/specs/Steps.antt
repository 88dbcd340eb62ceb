-- The steps of a call: a seat's rule runs, and what it hands back is posted.
use Rattle.std.specs.Prelude.{◌≡◌, ℕ, Bool, cond, ◌&&◌, ◌||◌, List, [], ◌∷◌, ◌==◌}
use Rattle.basics.specs.Put.{put}
use Rattle.model.specs.Setup.{Plan as Model}
use Rattle.model.specs.World.{World, has, beacon_share}
use Rattle.model.specs.World.{Seat as ModelSeat}
use Rattle.model.specs.World.{Message as Said}
use Rattle.model.specs.Checks.{Call, Verdict, caller}
use Rattle.model.specs.Effects.{seals, broadcast, with_new_block, seat_after, effect}
use Rattle.plans.specs.Planned.{model}
use Rattle.seats.specs.Desk.{verdict_past, accepts, sealed_with}
use Rattle.hall.specs.Worlds.{world}
use Rattle.hall.specs.declared.hall.Hall.{Hall}

-- the state with the messages in the pool of the seat s, and marked as broadcast
abbrev pub posting : ℕ → List Said → World → World
posting s ms w = record {
  made = w.made;
  parent = w.parent;
  places = w.places;
  sealed = w.sealed;
  pool = λ s' m. (s == s' && has ms m) || w.pool s' m;
  posted = λ m. has ms m || w.posted m;
  seat = w.seat;
}

-- the state with these seals more and this seat
abbrev pub seating : ℕ → ModelSeat → List Said → World → World
seating s x ms w = record {
  made = w.made;
  parent = w.parent;
  places = w.places;
  sealed = sealed_with ms w.sealed;
  pool = w.pool;
  posted = w.posted;
  seat = put s x w.seat;
}

-- the state after a seat's rule, before anything is posted; the first k checks are the hall's
abbrev pub ruled : ℕ → Model → World → Call → World
ruled k p w c = cond (accepts k p w c) (seating (caller c) (seat_after p w c) (seals p w c) (with_new_block p w c)) w

-- a seat's rule ran for the call c and took the hall from h to h'; v is its verdict, and out is what it handed back
module _ {B : Type 0} (held : B → ℕ → ℕ → ℕ → Bool) where
  pub record Ran (k : ℕ) (h h' : Hall B) (c : Call) (v : Verdict) (out : List Said) : Type 0 where
    pub plan_stays : h'.plan ≡ h.plan
    pub judged : v ≡ verdict_past k (model h.plan) (world held h) c
    pub sends : out ≡ cond (accepts k (model h.plan) (world held h) c) (broadcast (model h.plan) (world held h) c) []
    pub left : world held h' ≡ ruled k (model h.plan) (world held h) c

-- the state with the beacon share of round 1 of the seat s sealed and posted
abbrev pub sharing : ℕ → World → World
sharing s w = record {
  made = w.made;
  parent = w.parent;
  places = w.places;
  sealed = sealed_with (beacon_share s 1 ∷ []) w.sealed;
  pool = λ s' m. (s == s' && has (beacon_share s 1 ∷ []) m) || w.pool s' m;
  posted = λ m. has (beacon_share s 1 ∷ []) m || w.posted m;
  seat = w.seat;
}

module _ {B : Type 0} (held : B → ℕ → ℕ → ℕ → Bool) where
  -- the hall's own rule decided the call c past its first k checks, with the verdict v, and took the hall from h to h'
  pub record Decided (k : ℕ) (h h' : Hall B) (c : Call) (v : Verdict) : Type 0 where
    pub plan_stays : h'.plan ≡ h.plan
    pub judged : v ≡ verdict_past k (model h.plan) (world held h) c
    pub left : world held h' ≡ cond (accepts k (model h.plan) (world held h) c) (effect (model h.plan) (world held h) c) (world held h)
