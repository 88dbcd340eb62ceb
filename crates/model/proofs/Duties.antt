-- The five duties of a call: where it meets them, the state after it keeps the invariant.
use Rattle.std.proofs.Common.{◌≡◌, ℕ, true, false, ◌&&◌, eqb, ◌⊎◌, List, sym, ap, ◌∙◌, subst, inl, inr}
use Rattle.std.proofs.lemmas.Bool.{and_parts, or_cases, or_right, cases_eq, both_ways}
use Rattle.model.specs.Setup.{Plan, maker_of}
use Rattle.model.specs.World.{World, message, has, exists}
use Rattle.basics.specs.Put.{put}
use Rattle.model.specs.Checks.{Call, caller}
use Rattle.model.specs.Effects.{with_block, seals, broadcast, arrivals, with_new_block, seat_after, effect}
use Rattle.model.proofs.Tests.{Each, each_of, put_here, put_other}
use Rattle.model.proofs.Accepted.{Acts}
use Rattle.model.proofs.Growth.{Grows, BlockOk, block_ok_stays}
use Rattle.model.proofs.Existence.{exists_grows}
use Rattle.model.proofs.Ranges.{Fits, fits_grows}
use Rattle.model.proofs.Invariant.{SeatOk, Inv}
use Rattle.model.proofs.Stays.{seat_stays}
use Rattle.model.proofs.Sealing.{sealed_by, seals_own, broadcast_arrives}

pub block_grows : (b par : ℕ) (xs : List ℕ) (w : World) → w.made b ≡ false → Grows w (with_block b par xs w)
block_grows b par xs w free = record {
  made_stays = λ c h. put_other b c true w.made (apart c h) ∙ h;
  parent_stays = λ c h. put_other b c par w.parent (apart c h);
  places_stay = λ c h. put_other b c xs w.places (apart c h);
  seals_stay = λ k s x h. h;
  pools_stay = λ s m h. h;
  posts_stay = λ m h. h;
}
  where
    apart : (c : ℕ) → w.made c ≡ true → b ≡ c → ⊥
    apart c h e = both_ways (w.made b) free (ap w.made e ∙ h)

module _ (p : Plan) (w : World) (c : Call) where
  pub effect_grows : Grows w (with_new_block p w c) → Grows w (effect p w c)
  effect_grows g = record {
    made_stays = g.made_stays;
    parent_stays = g.parent_stays;
    places_stay = g.places_stay;
    seals_stay = λ k s x h. or_right _ _ h;
    pools_stay = λ s m h. or_right _ _ h;
    posts_stay = λ m h. or_right _ _ h;
  }

  pub record Duties : Type 0 where
    -- what was there stays
    pub grows : Grows w (effect p w c)
    -- a new block is in order, and the caller's
    pub blocks : (b : ℕ) → (effect p w c).made b ≡ true → (w.made b ≡ true) ⊎ (BlockOk p (effect p w c) b × (maker_of p b ≡ caller c))
    -- what comes into the caller's pool exists
    pub arrive : Each (λ m. exists p (effect p w c) m ≡ true) (arrivals p w c)
    -- what is broadcast is in range
    pub sent : Each (Fits p (effect p w c)) (broadcast p w c)
    -- the caller's seat, where it is honest, is as it should be
    pub seat : Acts p (caller c) → SeatOk p (effect p w c) (caller c) (seat_after p w c)

  pub duties_keep : Inv p w → Duties → Inv p (effect p w c)
  duties_keep i d = record {
    blocks = λ b h. elim (d.blocks b h) [ inl m ↦ block_ok_stays p w v d.grows i.blocks b m | inr x ↦ x.0 ];
    pools = λ r m h. elim (or_cases (eqb (caller c) r && has (arrivals p w c) m) _ h) [
      | inl e ↦ each_of _ (arrivals p w c) d.arrive m (and_parts (eqb (caller c) r) _ e).1
      | inr o ↦ exists_grows p w v d.grows m (i.pools r m o)
    ];
    posts = λ m h. elim (or_cases (has (broadcast p w c) m) _ h) [
      | inl e ↦ record {
        fits = each_of _ (broadcast p w c) d.sent m e;
        is_there = each_of _ (arrivals p w c) d.arrive m (broadcast_arrives p w c m e);
      }
      | inr o ↦ (let x = i.posts m o in record {
        fits = fits_grows p w v d.grows m x.fits;
        is_there = exists_grows p w v d.grows m x.is_there;
      })
    ];
    seats = λ r a. elim (cases_eq (caller c) r) [
      | inl e ↦ subst (λ x. Acts p x → SeatOk p v x (put (caller c) (seat_after p w c) w.seat x)) e own a
      | inr apart ↦ rw (put_other (caller c) r (seat_after p w c) w.seat apart) (seat_stays p w v i d.grows r (w.seat r)
          (λ b h. old_seal r apart 2 b h) (λ b h. old_seal r apart 4 b h) (λ b h e. old_block r apart b h e) (i.seats r a))
    ];
  }
    where
      v : World
      v = effect p w c

      own : Acts p (caller c) → SeatOk p v (caller c) (put (caller c) (seat_after p w c) w.seat (caller c))
      own a = rw (put_here (caller c) (seat_after p w c) w.seat) (d.seat a)

      old_seal : (r : ℕ) → (caller c ≡ r → ⊥) → (k b : ℕ) → v.sealed k r b ≡ true → w.sealed k r b ≡ true
      old_seal r apart k b h = elim (or_cases (has (seals p w c) (message k r b)) _ h) [
        | inl e ↦ absurd (apart (sym (seals_own p w c (message k r b) (sealed_by p w c (message k r b) e))))
        | inr o ↦ o
      ]

      old_block : (r : ℕ) → (caller c ≡ r → ⊥) → (b : ℕ) → v.made b ≡ true → maker_of p b ≡ r → w.made b ≡ true
      old_block r apart b h e = elim (d.blocks b h) [ inl m ↦ m | inr x ↦ absurd (apart (sym x.1 ∙ e)) ]
