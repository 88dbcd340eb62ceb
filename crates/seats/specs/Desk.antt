-- The state of a hall as far as one seat's rules look at it, and what a rule owes.
use Rattle.std.specs.Prelude.{◌≡◌, ℕ, Bool, false, cond, ◌||◌, List, [], drop}
use Rattle.model.specs.Setup.{Plan as Model}
use Rattle.model.specs.World.{World, message, has}
use Rattle.model.specs.World.{Seat as ModelSeat}
use Rattle.model.specs.World.{Message as Said}
use Rattle.model.specs.Checks.{Call, Verdict, caller, checks, first_failed}
use Rattle.model.specs.Effects.{is_accepted, seals, broadcast, with_new_block, seat_after}
use Rattle.tree.specs.Blocks.{mades, parents, payloads}
use Rattle.tree.specs.declared.tree.Tree.{Tree}
use Rattle.seats.specs.Seated.{seated, pooled}
use Rattle.seats.specs.declared.seat.Seat.{Seat}

-- the state with these blocks and seals, where every seat is this one
abbrev pub desk : Tree → (ℕ → ℕ → ℕ → Bool) → Seat → World
desk t held x = record {
  made = mades t;
  parent = parents t;
  places = payloads t;
  sealed = held;
  pool = λ _. pooled x;
  posted = λ _. false;
  seat = λ _. seated x;
}

-- the desk of a rule that looks at no seals
abbrev pub bare_desk : Tree → Seat → World
bare_desk t x = desk t (λ _ _ _. false) x

-- the verdict of a call after the first so many of its checks, which are the hall's
abbrev pub verdict_past : ℕ → Model → World → Call → Verdict
verdict_past k p w c = first_failed (drop k (checks p w c))

-- whether a rule accepts
abbrev pub accepts : ℕ → Model → World → Call → Bool
accepts k p w c = is_accepted (verdict_past k p w c)

-- the seals, with those of a list
abbrev pub sealed_with : List Said → (ℕ → ℕ → ℕ → Bool) → ℕ → ℕ → ℕ → Bool
sealed_with l held k s x = has l (message k s x) || held k s x

-- What a seat's rule owes for the call c, of which the first k checks are the hall's: its verdict, the messages that it hands back, and the
-- seat and the seals after it. A refusal hands back nothing and changes nothing.
pub record Rule (k : ℕ) (p : Model) (w : World) (c : Call) (v : Verdict) (out : List Said) (after : ModelSeat) (held : ℕ → ℕ → ℕ → Bool) : Type 0 where
  pub judged : v ≡ verdict_past k p w c
  pub sends : out ≡ cond (accepts k p w c) (broadcast p w c) []
  pub moves : after ≡ cond (accepts k p w c) (seat_after p w c) (w.seat (caller c))
  pub seals_given : held ≡ sealed_with (cond (accepts k p w c) (seals p w c) []) w.sealed

-- and for the blocks: those that the call makes
pub record Makes (k : ℕ) (p : Model) (w : World) (c : Call) (t : Tree) : Type 0 where
  pub made : mades t ≡ cond (accepts k p w c) (with_new_block p w c).made w.made
  pub parent : parents t ≡ cond (accepts k p w c) (with_new_block p w c).parent w.parent
  pub places : payloads t ≡ cond (accepts k p w c) (with_new_block p w c).places w.places
