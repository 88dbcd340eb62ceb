-- The opening, seat by seat.
use Rattle.std.proofs.Common.{◌≡◌, ℕ, ◌+◌, Bool, true, false, cond, ◌&&◌, ◌||◌, eqb, ltb, List, [], get_or, replicate, refl, ap, ◌∙◌, ⊎_elim, arith}
use Rattle.std.proofs.lemmas.Bool.Decides.{nat_tests}
use Rattle.std.proofs.lemmas.Bool.{cond-true, cond-false, cases_Bool}
use Rattle.basics.proofs.BitLaws.{bit_none}
use Rattle.model.specs.Setup.{Plan as Model}
use Rattle.model.specs.Setup.{honest}
use Rattle.model.specs.World.{World, beacon_share, same}
use Rattle.model.specs.World.{Message as Said}
use Rattle.model.specs.World.Phase.{waiting}
use Rattle.model.specs.Seats.{fresh}
use Rattle.messages.specs.Stored.{nothing}
use Rattle.messages.proofs.RowLaws.{none_in_rows}
use Rattle.tree.proofs.Unmade.{each_repeated}
use Rattle.seats.specs.declared.seat.Seat.{Seat}
use Rattle.seats.specs.Seated.{seated, pooled}
use Rattle.hall.specs.Worlds.{no_seat}
use Rattle.hall.specs.Steps.{sharing}

-- the state at the opening as far as the seats below k
abbrev pub opening_below : Model → ℕ → World
opening_below p k = record {
  made = λ _. false;
  parent = λ _. 0;
  places = λ _. [];
  sealed = λ kind s x. eqb kind 6 && (eqb x 1 && (ltb s k && honest p s));
  pool = λ s m. (ltb s k && honest p s) && same (beacon_share s 1) m;
  posted = λ m. eqb m.kind 6 && (eqb m.subject 1 && (ltb m.signer k && honest p m.signer));
  seat = λ _. fresh;
}

no_seat_fresh : seated no_seat ≡ fresh
no_seat_fresh = λ i. record { phase = waiting; round = 1; clock = 0; start = 0; proposed = false; noted = λ b. false; disqualified = λ r. bit_none r i; k_max = 0; catalogue = [] }

no_seat_empty : pooled no_seat ≡ nothing
no_seat_empty = none_in_rows [] (λ r. refl)

-- before any seat has shared
pub opening_none : (p : Model) (made : ℕ → Bool) (parent : ℕ → ℕ) (places : ℕ → List ℕ) (sealed : ℕ → ℕ → ℕ → Bool) (x : Seat) (marks : Said → Bool)
    → made ≡ (λ b. false) → parent ≡ (λ b. 0) → places ≡ (λ b. []) → sealed ≡ (λ k s b. false) → seated x ≡ fresh → pooled x ≡ nothing → marks ≡ nothing
    → ◌≡◌ {A = World} (record {
      made = made;
      parent = parent;
      places = places;
      sealed = sealed;
      pool = λ s. pooled (get_or (replicate 13 x) s no_seat);
      posted = marks;
      seat = λ s. seated (get_or (replicate 13 x) s no_seat);
    }) (opening_below p 0)
opening_none p made parent places sealed x marks em ep el es ex eq ek =
    let none : (k s b : ℕ) → false ≡ (eqb k 6 && (eqb b 1 && (ltb s 0 && honest p s))) = (λ k s b. grind (arith, nat_tests)) in
    let empty : (s : ℕ) (m : Said) → false ≡ ((ltb s 0 && honest p s) && same (beacon_share s 1) m) = (λ s m. grind (arith, nat_tests)) in
    let seat = (λ (s : ℕ). each_repeated seated x no_seat fresh ex no_seat_fresh 13 s) in
    let pool = (λ (s : ℕ). each_repeated pooled x no_seat nothing eq no_seat_empty 13 s) in
    λ i. record {
      made = em i;
      parent = ep i;
      places = el i;
      sealed = λ k s b. (ap (λ f. f k s b) es ∙ none k s b) i;
      pool = λ s m. (ap (λ f. f m) (pool s) ∙ empty s m) i;
      posted = λ m. (ap (λ f. f m) ek ∙ none m.kind m.signer m.subject) i;
      seat = λ s. seat s i;
    }

-- one seat more, an honest one or a corrupt one
module _ (p : Model) (i : ℕ) where
  sealed_next : honest p i ≡ true → (k s x : ℕ)
      → (((eqb 6 k && (eqb i s && eqb 1 x)) || false) || (eqb k 6 && (eqb x 1 && (ltb s i && honest p s)))) ≡ (eqb k 6 && (eqb x 1 && (ltb s (i + 1) && honest p s)))
  sealed_next y k s x = grind (arith, nat_tests)

  pool_next : honest p i ≡ true → (s : ℕ) (m : Said)
      → ((eqb i s && (same (beacon_share i 1) m || false)) || ((ltb s i && honest p s) && same (beacon_share s 1) m)) ≡ ((ltb s (i + 1) && honest p s) && same (beacon_share s 1) m)
  pool_next y s m = grind (arith, nat_tests)

  sealed_same : honest p i ≡ false → (k s x : ℕ) → (eqb k 6 && (eqb x 1 && (ltb s i && honest p s))) ≡ (eqb k 6 && (eqb x 1 && (ltb s (i + 1) && honest p s)))
  sealed_same n k s x = grind (arith, nat_tests)

  pool_same : honest p i ≡ false → (s : ℕ) (m : Said) → ((ltb s i && honest p s) && same (beacon_share s 1) m) ≡ ((ltb s (i + 1) && honest p s) && same (beacon_share s 1) m)
  pool_same n s m = grind (arith, nat_tests)

  pub opening_next : cond (honest p i) (sharing i (opening_below p i)) (opening_below p i) ≡ opening_below p (i + 1)
  opening_next = ⊎_elim
      (λ (y : honest p i ≡ true).
      cond-true (honest p i) (sharing i (opening_below p i)) (opening_below p i) y
      ∙ (λ j. record {
        made = λ _. false;
        parent = λ _. 0;
        places = λ _. [];
        sealed = λ k s x. sealed_next y k s x j;
        pool = λ s m. pool_next y s m j;
        posted = λ m. sealed_next y m.kind m.signer m.subject j;
        seat = λ _. fresh;
      }))
      (λ (n : honest p i ≡ false).
      cond-false (honest p i) (sharing i (opening_below p i)) (opening_below p i) n
      ∙ (λ j. record {
        made = λ _. false;
        parent = λ _. 0;
        places = λ _. [];
        sealed = λ k s x. sealed_same n k s x j;
        pool = λ s m. pool_same n s m j;
        posted = λ m. sealed_same n m.kind m.signer m.subject j;
        seat = λ _. fresh;
      }))
      (cases_Bool (honest p i))
