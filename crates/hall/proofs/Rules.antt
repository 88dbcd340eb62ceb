-- A seat's rule, run in a hall.
use Rattle.std.proofs.Common.{◌≡◌, ℕ, ◌<◌, Bool, cond, List, length, get_or, set, sym, refl, ap, ◌∙◌, subst}
use borrow.Author.Rules.{get_or_read}
use Rattle.model.specs.World.{World}
use Rattle.model.specs.World.{Message as Said}
use Rattle.model.specs.Checks.{Call, Verdict, caller}
use Rattle.model.specs.Checks.Call.{tick, enter, propose, echo, finish, commit, deliver, forge, seal}
use Rattle.model.specs.Effects.{seals, with_new_block, seat_after}
use Rattle.plans.specs.Planned.{model}
use Rattle.tree.specs.Blocks.{mades, parents, payloads}
use Rattle.tree.specs.declared.tree.Tree.{Tree}
use Rattle.seats.specs.declared.seat.Seat.{Seat}
use Rattle.seats.specs.Seated.{seated, pooled}
use Rattle.seats.specs.Desk.{accepts, Rule, Makes}
use Rattle.hall.specs.declared.hall.Hall.{Hall}
use Rattle.hall.specs.Worlds.{world, no_seat}
use Rattle.hall.specs.Steps.{seating, Ran}
use Rattle.hall.proofs.Updates.{written, settled, cond_same}

-- the seat that is lent by its place is the seat of this number
pub lent : (seats : List Seat) (i s : ℕ) (x : Seat) → i < length seats → x ≡ get_or seats i x → i ≡ s → get_or seats i x ≡ get_or seats s no_seat
lent seats i s x low is same = sym is ∙ get_or_read seats i x low is no_seat ∙ ap (λ (k : ℕ). get_or seats k no_seat) same

module _ {B : Type 0} (held : B → ℕ → ℕ → ℕ → Bool) (h : Hall B) (k : ℕ) where
  -- a call that makes no block
  pub makes_none : (c : Call) → with_new_block (model h.plan) (world held h) c ≡ world held h → Makes k (model h.plan) (world held h) c h.tree
  makes_none c none =
      let w = world held h in
      let go = accepts k (model h.plan) w c in
      record {
        made = cond_same go w.made ∙ ap (λ (u : World). cond go u.made w.made) (sym none);
        parent = cond_same go w.parent ∙ ap (λ (u : World). cond go u.parent w.parent) (sym none);
        places = cond_same go w.places ∙ ap (λ (u : World). cond go u.places w.places) (sym none);
      }

  -- a call makes blocks, and changes nothing else of the state that its rule is then applied to
  blocks_alone : (c : Call) → with_new_block (model h.plan) (world held h) c ≡ record {
    made = (with_new_block (model h.plan) (world held h) c).made;
    parent = (with_new_block (model h.plan) (world held h) c).parent;
    places = (with_new_block (model h.plan) (world held h) c).places;
    sealed = (world held h).sealed;
    pool = (world held h).pool;
    posted = (world held h).posted;
    seat = (world held h).seat;
  }
  blocks_alone (tick _ _) = refl
  blocks_alone (enter _) = refl
  blocks_alone (propose _ _ _) = refl
  blocks_alone (echo _ _) = refl
  blocks_alone (finish _ _) = refl
  blocks_alone (commit _ _) = refl
  blocks_alone (deliver _ _ _ _) = refl
  blocks_alone (forge _ _ _ _) = refl
  blocks_alone (seal _ _ _) = refl

  -- the rule of the seat at a place ran: the seat is now x, the blocks are those of the tree t, the seals those of the book
  pub ran : (c : Call) (i : ℕ) (x : Seat) (t : Tree) (book : B) (v : Verdict) (out : List Said)
      → i < length h.seats → i ≡ caller c → pooled x ≡ pooled (get_or h.seats (caller c) no_seat)
      → Rule k (model h.plan) (world held h) c v out (seated x) (held book) → Makes k (model h.plan) (world held h) c t
      → Ran held k h (record { plan = h.plan; tree = t; seats = set h.seats i x; broadcast = h.broadcast; book = book }) c v out
  ran c i x t book v out low same pool rule makes =
      let p = model h.plan in
      let w = world held h in
      let go = accepts k p w c in
      let u = with_new_block p w c in
      record {
        plan_stays = refl;
        judged = rule.judged;
        sends = rule.sends;
        left = ap (written w.made w.parent w.places w.sealed w.posted h.seats (mades t) (parents t) (payloads t) (held book) x) same
            ∙ settled w.made w.parent w.places w.sealed w.posted h.seats go (caller c) x (seat_after p w c) (seals p w c)
            u.made (mades t) u.parent (parents t) u.places (payloads t) (held book)
            (subst (λ (n : ℕ). n < length h.seats) same low) pool rule.moves rule.seals_given makes.made makes.parent makes.places
            ∙ ap (λ (z : World). cond go (seating (caller c) (seat_after p w c) (seals p w c) z) w) (sym (blocks_alone c));
      }
