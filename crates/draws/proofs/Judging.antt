-- What a judged round has seen, and that a copied table has the same ranks.
use Rattle.std.proofs.Common.{◌≡◌, ℕ, zero, suc, ◌+◌, ◌-◌, ◌*◌, ◌/◌, ◌<◌, ◌≤◌, Bool, true, false, cond, ◌&&◌, ◌||◌, eqb, ltb, leb, not, ◌⊎◌, Option, Some, None, List, length, get_or, slice_index, Ok, Err, sym, refl, ap, ◌∙◌, ap₂, ⊎_elim, arith, rules}
use Rattle.std.proofs.lemmas.Nat.{mul-add-lt}
use Rattle.std.proofs.lemmas.Bool.{cases_Bool, le-leb, lt-ltb, ltb-true, leb-true, and_parts, and_from, not-true, not-false, not_from_true, not_from_false, or_left, or_right, cond-true, cond-false}
use Rattle.std.specs.Bool.{MatchBool, IsTrue}
use Rattle.std.specs.List.{slice_range}
use Rattle.std.proofs.lemmas.Grind.{common_steps}
use Rattle.std.specs.Option.{option_map, IsSomeAnd}
use Rattle.std.proofs.lemmas.Option.{none-some}
use Rattle.std.proofs.Math.Nat.{lt_of_mul-lt-mul_right, mul-div_right, mul_comm}
use Rattle.std.specs.Iterator.Runs.{Run, IsChunksExactRun, AllItemsGive, AnyItemGives}
use denote.Ref.{Bor}
use denote.Param.Members.{Mut, Called}
use Rattle.basics.specs.Bit.{bit}
use Rattle.basics.specs.Count.{some_below}
use Rattle.basics.proofs.CountLaws.{some_same, some_here}
use Rattle.basics.specs.Numbers.{only_if}
use Rattle.draws.specs.Ranks.{drawn, Bounds, answered, table_rank, misplaced, some_misplaced, once_at}
use Rattle.draws.specs.Made.{in_bounds, table_made}
use Rattle.draws.specs.declared.fault.DrawFault.TheVariants.{NotOnce}

module _ (rank : ℕ → ℕ) where
  -- the ranks of the seats before s
  abbrev pub Seen : ℕ → ℕ → Type 0
  Seen seen s = (j : ℕ) → bit seen j ≡ some_below (λ t. eqb (rank t) j) s

  -- the first seat that is misplaced
  pub found : (n s seen : ℕ) → s < n → Seen seen s → (n ≤ rank s) ⊎ (bit seen (rank s) ≡ true) → some_below (misplaced n rank) n ≡ true
  found n s seen h before why =
      some_here (misplaced n rank) n s h
      (⊎_elim
      (λ (out : n ≤ rank s). or_left (leb n (rank s)) (some_below (λ t. eqb (rank t) (rank s)) s) (le-leb n (rank s) out))
      (λ (twice : bit seen (rank s) ≡ true). or_right (leb n (rank s)) (some_below (λ t. eqb (rank t) (rank s)) s) (sym (before (rank s)) ∙ twice))
      why)

-- a cell inside the table
module _ (n R : ℕ) where
  pub cell_inside : (xs : List ℕ) (j s : ℕ) → j < R → s < n → table_rank n R xs (suc j) s ≡ get_or xs (j * n + s) 0
  cell_inside xs j s h g =
      let e : suc j - 1 ≡ j = omega arith in
      cond-true (drawn n R (suc j) s) (get_or xs ((suc j - 1) * n + s) 0) 0 (and_from _ _ (lt-ltb s n g) (and_from _ _ (le-leb 1 (suc j) (omega arith)) (le-leb (suc j) R (omega arith))))
      ∙ ap (λ k. get_or xs (k * n + s) 0) e

  -- a round of the table is judged by its own cells, or by ranks f that are the same
  pub round_same : (xs : List ℕ) (f : ℕ → ℕ) (j : ℕ) → j < R → ((s : ℕ) → s < n → f s ≡ get_or xs (j * n + s) 0)
      → some_below (misplaced n f) n ≡ some_below (misplaced n (table_rank n R xs (suc j))) n
  round_same xs f j h cells =
      let at : (s : ℕ) → s < n → f s ≡ table_rank n R xs (suc j) s = (λ s g. cells s g ∙ sym (cell_inside xs j s h g)) in
      some_same _ _ n (λ s g. ap₂ ◌||◌ (ap (leb n) (at s g)) (some_same _ _ s (λ t lt. ap₂ eqb (at t (omega arith)) (at s g))))

  -- tables that agree in the first n times R places list the same ranks
  pub table_same : (xs ys : List ℕ) → ((i : ℕ) → i < n * R → get_or xs i 0 ≡ get_or ys i 0) → table_rank n R xs ≡ table_rank n R ys
  table_same xs ys h =
      let at : (k s : ℕ) → table_rank n R xs k s ≡ table_rank n R ys k s =
      (λ k s. ⊎_elim
      (λ (e : drawn n R k s ≡ true).
      let p = and_parts (ltb s n) (leb 1 k && leb k R) e in
      let q = and_parts (leb 1 k) (leb k R) p.1 in
      let low : k - 1 < R = omega (arith, leb-true 1 k q.0, leb-true k R q.1) in
      ap (λ x. cond (drawn n R k s) x 0) (h ((k - 1) * n + s) (mul-add-lt (k - 1) n s R low (ltb-true s n p.0))))
      (λ (e : drawn n R k s ≡ false). cond-false (drawn n R k s) _ _ e ∙ sym (cond-false (drawn n R k s) _ _ e))
      (cases_Bool (drawn n R k s))) in
      λ i k s. at k s i

  -- the answer to a question inside the table, where the cell is tested as a rank, which is below 13
  pub cell_answered : n ≤ 13 → (test : ℕ → Bool) → ((x : ℕ) → x < 13 → test x ≡ true) → (xs : List ℕ) (k s : ℕ) → drawn n R k s ≡ true → some_misplaced n R (table_rank n R xs) ≡ false →
      only_if (test (get_or xs ((k - 1) * n + s) 0)) (get_or xs ((k - 1) * n + s) 0) ≡ answered n R (table_rank n R xs) k s
  cell_answered few test passes xs k s inside good =
      let seat = and_parts (ltb s n) (leb 1 k && leb k R) inside in
      let round = and_parts (leb 1 k) (leb k R) seat.1 in
      let cell : table_rank n R xs k s ≡ get_or xs ((k - 1) * n + s) 0 = cond-true (drawn n R k s) (get_or xs ((k - 1) * n + s) 0) 0 inside in
      let low : table_rank n R xs k s < n = (once_at n R (table_rank n R xs) good k (leb-true 1 k round.0) (leb-true k R round.1)).below s (ltb-true s n seat.0) in
      let small : get_or xs ((k - 1) * n + s) 0 < 13 = omega arith in
      ap (λ b. only_if b (get_or xs ((k - 1) * n + s) 0)) (passes _ small) ∙ ap (only_if true) (sym cell) ∙ sym (ap (λ b. only_if b (table_rank n R xs k s)) inside)

  -- what is made of the ranks that a table begins with
  pub front_same : (xs ys : List ℕ) (m : ℕ) → m ≡ n * R → m ≤ length xs → ys ≡ slice_range xs 0 m → table_rank n R ys ≡ table_rank n R xs
  front_same xs ys m e long front = table_same ys xs (λ i h. grind (arith, common_steps))

  pub table_judged : Bounds n R → (xs : List ℕ) (f : ℕ → ℕ → ℕ) → n * R ≤ length xs → f ≡ table_rank n R xs
      → cond (some_misplaced n R f) (Err NotOnce) (Ok (record { seats = n; rounds = R; rank = f })) ≡ table_made n R xs
  table_judged sizes xs f long e =
      let sized : in_bounds n R ≡ true = search rules in
      ap (λ h. cond (some_misplaced n R h) (Err NotOnce) (Ok (record { seats = n; rounds = R; rank = h }))) e
      ∙ sym (cond-true (in_bounds n R) _ _ sized ∙ cond-true (leb (n * R) (length xs)) _ _ (le-leb _ _ long))

-- where each below a bound fails, none passes
pub none_from : (f : ℕ → Bool) (n : ℕ) → ((k : ℕ) → k < n → f k ≡ false) → some_below f n ≡ false
none_from f zero h = refl
none_from f (suc n) h = ap₂ ◌||◌ (none_from f n (λ k lt. h k (omega arith))) (h n (omega arith))

some_there : {A : Type 0} (o : Option A) (y : A) → option_map (λ x. x) o ≡ Some y → (x : A) × (o ≡ Some x)
some_there None y e = absurd (none-some y e)
some_there (Some x) y e = (x, refl)

some_and : {A : Type 0} (o : Option A) (P : A → Type 0) → IsSomeAnd o P → (x : A) × (o ≡ Some x) × P x
some_and None P h = absurd h
some_and (Some x) P h = (x, refl, h)

-- the judgement of all rounds of a table, where each is judged by its own ranks
module _ {F : Type 0} (g : Mut F (Bor (List ℕ) × Unit {0}) Bool) (f : F) where
  abbrev pub Judges : Type 0
  Judges = (x : Bor (List ℕ)) (b : Bool) (f' : F) → Called g f (x, tt) b f'
      → (f' ≡ f) × (b ≡ not (some_below (misplaced (length x.now) (slice_index x.now)) (length x.now)))

module _ {S F : Type 0} {steps : S → Option (Bor (List ℕ)) → S → Type 0} (p : Run steps) {g : Mut F (Bor (List ℕ) × Unit {0}) Bool} {f : F}
    (n R : ℕ) (xs : List ℕ) (some : 1 ≤ n) (long : length xs ≡ n * R) (rounds : IsChunksExactRun p n xs) where
  answer : Judges g f → (j : ℕ) (x : Bor (List ℕ)) (b : Bool) → p.at j ≡ Some x → Called g f (x, tt) b f
      → (j < R) × (b ≡ not (some_below (misplaced n (table_rank n R xs (suc j))) n))
  answer judges j x b e called =
      let part = rw e at (rounds.2 j) in
      let low : j < R = lt_of_mul-lt-mul_right n (omega (arith, part.1, mul_comm n R)) in
      (low, (judges x b f called).1 ∙ ap not (ap (λ m. some_below (misplaced m (slice_index x.now)) m) part.0 ∙ round_same n R xs (slice_index x.now) j low (λ s h. part.2.2 s 0 h)))

  pub all_judged : (r : Bool) → Bor (List ℕ) → MatchBool r (IsTrue p.whole × AllItemsGive p g f true) (AnyItemGives p g f false) → Judges g f
      → r ≡ not (some_misplaced n R (table_rank n R xs))
  all_judged true d m judges =
      let all : p.len ≡ R = rounds.1 m.0 ∙ ap (λ l. l / n) long ∙ mul-div_right R some in
      let good = m.1 (λ x b f' called. (judges x.0 b f' called).0) in
      sym (not_from_false _ (none_from _ R (λ j h.
      let x = some_there (p.at j) (get_or p.items j d) (p.reads j d (omega arith)) in
      not-true _ (sym (answer judges j x.0 true x.1 (rw x.1 at (good j))).1))))
  all_judged false d m judges =
      let found = m (λ x b f' called. (judges x.0 b f' called).0) in
      let x = some_and (p.at found.0) _ found.2 in
      let it = answer judges found.0 x.0 false x.1 x.2 in
      sym (not_from_true _ (some_here _ R found.0 it.0 (not-false _ (sym it.1))))
