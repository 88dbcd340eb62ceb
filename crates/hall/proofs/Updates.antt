-- One seat of a hall written: the state as a function of the seat.
use Rattle.std.proofs.Common.{◌≡◌, ℕ, ◌<◌, Bool, true, false, cond, ◌&&◌, ◌||◌, eqb, List, [], length, get_or, set, sym, refl, ap, ◌∙◌, arith, get_or-set_other, get_or-set_same}
use Rattle.std.proofs.lemmas.Bool.Decides.{nat_tests}
use Rattle.basics.specs.Put.{put}
use Rattle.model.specs.World.{World, has}
use Rattle.model.specs.World.{Seat as ModelSeat}
use Rattle.model.specs.World.{Message as Said}
use Rattle.seats.specs.declared.seat.Seat.{Seat}
use Rattle.seats.specs.Seated.{seated, pooled}
use Rattle.seats.specs.Sent.{with_all}
use Rattle.seats.specs.Desk.{sealed_with}
use Rattle.hall.specs.Worlds.{no_seat}
use Rattle.hall.specs.Steps.{posting, seating}

-- a field of the elements, where one element is written
pub field_put : {A F : Type 0} (f : A → F) (l : List A) (s : ℕ) (x d : A) → s < length l → ◌≡◌ {A = ℕ → F} (λ k. f (get_or (set l s x) k d)) (put s (f x) (λ k. f (get_or l k d)))
field_put f l s x d h =
    let at : (k : ℕ) → f (get_or (set l s x) k d) ≡ put s (f x) (λ k'. f (get_or l k' d)) k = (λ k. grind (arith, nat_tests, get_or-set_same, get_or-set_other)) in
    λ i k. at k i

-- a function changed to what it is
pub put_same : {F : Type 0} (s : ℕ) (f : ℕ → F) → put s (f s) f ≡ f
put_same s f =
    let at : (k : ℕ) → put s (f s) f k ≡ f k = (λ k. grind (arith, nat_tests)) in
    λ i k. at k i

pub cond_same : {F : Type 0} (b : Bool) (x : F) → x ≡ cond b x x
cond_same true x = refl
cond_same false x = refl

module _ (made : ℕ → Bool) (parent : ℕ → ℕ) (places : ℕ → List ℕ) (sealed : ℕ → ℕ → ℕ → Bool) (posted : Said → Bool) (seats : List Seat) where
  -- the state of a hall with these parts
  abbrev state : World
  state = record {
    made = made;
    parent = parent;
    places = places;
    sealed = sealed;
    pool = λ s. pooled (get_or seats s no_seat);
    posted = posted;
    seat = λ s. seated (get_or seats s no_seat);
  }

  -- A hall with its seat k written.
  abbrev pub written : (ℕ → Bool) → (ℕ → ℕ) → (ℕ → List ℕ) → (ℕ → ℕ → ℕ → Bool) → Seat → ℕ → World
  written made' parent' places' sealed' x k = record {
    made = made';
    parent = parent';
    places = places';
    sealed = sealed';
    pool = λ s'. pooled (get_or (set seats k x) s' no_seat);
    posted = posted;
    seat = λ s'. seated (get_or (set seats k x) s' no_seat);
  }

  -- A rule has changed the seat s to x, with its pool as it was, the seals and the blocks; go says whether it accepted.
  pub settled : (go : Bool) (s : ℕ) (x : Seat) (A : ModelSeat) (S : List Said)
      (made₁ made' : ℕ → Bool) (parent₁ parent' : ℕ → ℕ) (places₁ places' : ℕ → List ℕ) (sealed' : ℕ → ℕ → ℕ → Bool)
      → s < length seats → pooled x ≡ pooled (get_or seats s no_seat)
      → seated x ≡ cond go A (seated (get_or seats s no_seat)) → sealed' ≡ sealed_with (cond go S []) sealed
      → made' ≡ cond go made₁ made → parent' ≡ cond go parent₁ parent → places' ≡ cond go places₁ places
      → ◌≡◌ {A = World} (written made' parent' places' sealed' x s)
      (cond go (seating s A S (record {
        made = made₁;
        parent = parent₁;
        places = places₁;
        sealed = sealed;
        pool = λ s'. pooled (get_or seats s' no_seat);
        posted = posted;
        seat = λ s'. seated (get_or seats s' no_seat);
      })) state)
  settled go s x A S made₁ made' parent₁ parent' places₁ places' sealed' low same moves seals m pr pl =
      let pools = field_put pooled seats s x no_seat low ∙ ap (λ (f : Said → Bool). put s f (λ k. pooled (get_or seats k no_seat))) same ∙ put_same s (λ k. pooled (get_or seats k no_seat)) in
      let moved = field_put seated seats s x no_seat low ∙ ap (λ (st : ModelSeat). put s st (λ k. seated (get_or seats k no_seat))) moves in
      (λ i. record { made = m i; parent = pr i; places = pl i; sealed = seals i; pool = pools i; posted = posted; seat = moved i }) ∙ either go
    where
      either : (go : Bool) → ◌≡◌ {A = World} (record {
        made = cond go made₁ made;
        parent = cond go parent₁ parent;
        places = cond go places₁ places;
        sealed = sealed_with (cond go S []) sealed;
        pool = λ s'. pooled (get_or seats s' no_seat);
        posted = posted;
        seat = put s (cond go A (seated (get_or seats s no_seat))) (λ k. seated (get_or seats k no_seat));
      })
          (cond go (seating s A S (record {
            made = made₁;
            parent = parent₁;
            places = places₁;
            sealed = sealed;
            pool = λ s'. pooled (get_or seats s' no_seat);
            posted = posted;
            seat = λ s'. seated (get_or seats s' no_seat);
          })) state)
      either true = refl
      either false = λ i. record {
        made = made;
        parent = parent;
        places = places;
        sealed = sealed;
        pool = λ s'. pooled (get_or seats s' no_seat);
        posted = posted;
        seat = put_same s (λ k. seated (get_or seats k no_seat)) i;
      }

  -- the messages ms have come into the pool of the seat s
  pub pool_with : (s : ℕ) (x : Seat) (ms : List Said) → s < length seats → pooled x ≡ with_all ms (pooled (get_or seats s no_seat))
      → ◌≡◌ {A = ℕ → Said → Bool} (λ s'. pooled (get_or (set seats s x) s' no_seat)) (λ s' m. (eqb s s' && has ms m) || pooled (get_or seats s' no_seat) m)
  pool_with s x ms low more =
      let f : ℕ → Said → Bool = λ k. pooled (get_or seats k no_seat) in
      let at : (s' : ℕ) (m : Said) → put s (with_all ms (f s)) f s' m ≡ ((eqb s s' && has ms m) || f s' m) = (λ s' m. grind (arith, nat_tests)) in
      field_put pooled seats s x no_seat low ∙ ap (λ (g : Said → Bool). put s g f) more ∙ (λ i s' m. at s' m i)

  -- the seat s is as it was
  pub seat_kept : (s : ℕ) (x : Seat) → s < length seats → seated x ≡ seated (get_or seats s no_seat)
      → ◌≡◌ {A = ℕ → ModelSeat} (λ s'. seated (get_or (set seats s x) s' no_seat)) (λ s'. seated (get_or seats s' no_seat))
  seat_kept s x low same =
      field_put seated seats s x no_seat low ∙ ap (λ (st : ModelSeat). put s st (λ k. seated (get_or seats k no_seat))) same ∙ put_same s (λ k. seated (get_or seats k no_seat))

  -- the seat s has posted messages
  pub posted_by : (s : ℕ) (x : Seat) (ms : List Said) (posted' : Said → Bool) → s < length seats
      → pooled x ≡ with_all ms (pooled (get_or seats s no_seat)) → seated x ≡ seated (get_or seats s no_seat) → posted' ≡ with_all ms posted
      → ◌≡◌ {A = World} (record {
        made = made;
        parent = parent;
        places = places;
        sealed = sealed;
        pool = λ s'. pooled (get_or (set seats s x) s' no_seat);
        posted = posted';
        seat = λ s'. seated (get_or (set seats s x) s' no_seat);
      })
      (posting s ms state)
  posted_by s x ms posted' low more same marks =
      let pools = pool_with s x ms low more in
      let kept = seat_kept s x low same in
      λ i. record { made = made; parent = parent; places = places; sealed = sealed; pool = pools i; posted = marks i; seat = kept i }

  -- the messages ms have arrived at the seat s
  pub arrived_at : (i s : ℕ) (x : Seat) (ms : List Said) → i ≡ s → i < length seats
      → pooled x ≡ with_all ms (pooled (get_or seats i no_seat)) → seated x ≡ seated (get_or seats i no_seat)
      → ◌≡◌ {A = World} (written made parent places sealed x i)
      (record {
        made = made;
        parent = parent;
        places = places;
        sealed = sealed;
        posted = posted;
        pool = λ s' m. (eqb s s' && has ms m) || pooled (get_or seats s' no_seat) m;
        seat = put s (seated (get_or seats s no_seat)) (λ s'. seated (get_or seats s' no_seat));
      })
  arrived_at i s x ms e low more same =
      let pools = pool_with i x ms low more ∙ (λ j s' m. (eqb (e j) s' && has ms m) || pooled (get_or seats s' no_seat) m) in
      let back = sym (put_same s (λ k. seated (get_or seats k no_seat))) in
      let kept = seat_kept i x low same ∙ back in
      λ j. record { made = made; parent = parent; places = places; sealed = sealed; pool = pools j; posted = posted; seat = kept j }

nothing_more : (e f : Bool) → ((e && false) || f) ≡ f
nothing_more e f = grind arith

-- no message is posted
pub posting_none : (s : ℕ) (w : World) → posting s [] w ≡ w
posting_none s w = λ i. record {
  made = w.made;
  parent = w.parent;
  places = w.places;
  sealed = w.sealed;
  pool = λ s' m. nothing_more (eqb s s') (w.pool s' m) i;
  posted = w.posted;
  seat = w.seat;
}

-- a rule that seals nothing
pub no_seals : (go : Bool) (sealed : ℕ → ℕ → ℕ → Bool) → sealed ≡ sealed_with (cond go [] []) sealed
no_seals true sealed = refl
no_seals false sealed = refl

-- no pool and no seat changes
pub quietly : (s : ℕ) (w : World) → ◌≡◌ {A = World} w (record {
  made = w.made;
  parent = w.parent;
  places = w.places;
  sealed = w.sealed;
  pool = λ s' m. (eqb s s' && false) || w.pool s' m;
  posted = w.posted;
  seat = put s (w.seat s) w.seat;
})
quietly s w =
    let kept = sym (put_same s w.seat) in
    let none : (s' : ℕ) (m : Said) → w.pool s' m ≡ ((eqb s s' && false) || w.pool s' m) = (λ s' m. sym (nothing_more (eqb s s') (w.pool s' m))) in
    λ i. record { made = w.made; parent = w.parent; places = w.places; sealed = w.sealed; pool = λ s' m. none s' m i; posted = w.posted; seat = kept i }
