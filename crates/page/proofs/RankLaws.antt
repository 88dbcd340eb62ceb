-- Lemmas on the rank lines: one more of them.
use Rattle.std.proofs.Common.{◌≡◌, ℕ, suc, ◌+◌, ◌*◌, ◌<◌, ◌≤◌, Bool, true, false, cond, eqb, ltb, leb, ◌≢◌, List, [], ◌∷◌, ◌++◌, length, get_or, take, Ok, Err, Result, Option, sym, refl, ap, ◌∙◌, append_assoc, arith, length-append}
use Rattle.std.proofs.lemmas.Bool.Decides.{nat_tests}
use Rattle.std.proofs.lemmas.List.{take_more, length-take-le}
use Rattle.std.proofs.lemmas.Bool.{lt-ltb, le-leb}
use Rattle.model.specs.Setup.{Plan as Model}
use Rattle.draws.specs.Made.{Meaning, in_bounds, table_made}
use Rattle.draws.specs.Ranks.{table_rank, some_misplaced}
use Rattle.draws.specs.declared.fault.DrawFault.{DrawFault}
use Rattle.draws.specs.declared.fault.DrawFault.TheVariants.{NotOnce, Short, Sizes}
use Rattle.plans.specs.declared.fault.PlanFault.TheVariants.{Draw}
use Rattle.frames.specs.Frames.{Frame}
use Rattle.records.specs.declared.refusal.Refusal.{Refusal}
use Rattle.page.specs.Refusals.{refusal}
use Rattle.page.specs.Ranks.{row, meant, ranks_judged}
use Rattle.page.specs.Run.{rows, ended_at}
use Rattle.page.specs.declared.fault.PageFault.TheVariants.{Malformed, Plan}

-- one more rank on a list with room for all
pub pushed_more : (before ranks now after : List ℕ) (i cap : ℕ) (b : Bool) → i < length ranks → length before + length ranks ≤ cap → now ≡ before ++ take i ranks
    → b ≡ ltb (length now) cap → after ≡ cond b (now ++ get_or ranks i 0 ∷ []) now → after ≡ before ++ take (i + 1) ranks
pushed_more before ranks now after i cap b h room e is_b f =
    let len : length now ≡ length before + i = omega (arith, ap length e, length-append before (take i ranks), length-take-le i ranks (omega arith)) in
    let fits : b ≡ true = is_b ∙ lt-ltb (length now) cap (omega arith) in
    f ∙ ap (λ x. cond x (now ++ get_or ranks i 0 ∷ []) now) fits
    ∙ ap (λ x. x ++ get_or ranks i 0 ∷ []) e
    ∙ append_assoc before (take i ranks) (get_or ranks i 0 ∷ [])
    ∙ ap (λ x. before ++ x) (sym (take_more ranks i 0 h))

-- fewer rounds are in bounds too
pub bounds_fewer : (n R k : ℕ) → in_bounds n R ≡ true → 1 ≤ k → k ≤ R → in_bounds n k ≡ true
bounds_fewer n R k e a b = grind (arith, nat_tests)

-- a table that is long enough is judged by its ranks alone
pub judged_table : (n R : ℕ) (xs : List ℕ) → in_bounds n R ≡ true → n * R ≤ length xs
    → table_made n R xs ≡ cond (some_misplaced n R (table_rank n R xs)) (Err NotOnce) (Ok (meant n R xs))
judged_table n R xs e h =
    let good = cond (some_misplaced n R (table_rank n R xs)) (Err NotOnce) (Ok (meant n R xs)) in
    ap (λ b. cond b (cond (leb (n * R) (length xs)) good (Err Short)) (Err Sizes)) e ∙ ap (λ b. cond b good (Err Short)) (le-leb (n * R) (length xs) h)

-- Where the lines that are left begin at a rank line of round done + 1: xs is the row as it was read.
module _ (p : Model) (n left done : ℕ) (table : List ℕ) (fr : List (Option Frame)) (all : List ℕ) (e : n ≡ suc left) (inv : all ≡ rows p n done table fr) where
  pub rows_end : fr ≡ [] → all ≡ ended_at (done + 2) Malformed
  rows_end is = inv ∙ ap (rows p n done table) is ∙ ap (λ j. rows p j done table []) e

  module _ (f : Option Frame) (more : List (Option Frame)) (xs : List ℕ) (is : fr ≡ f ∷ more) (r : xs ≡ row f) where
    abbrev by_rank : Bool → List ℕ
    by_rank b = cond b (ended_at (done + 2) (Plan (Draw NotOnce))) (rows p left (done + 1) (table ++ xs) more)

    rows_here : all ≡ cond (eqb (length xs) p.n) (by_rank (some_misplaced p.n (done + 1) (table_rank p.n (done + 1) (table ++ xs)))) (ended_at (done + 2) Malformed)
    rows_here =
        inv ∙ ap (rows p n done table) is ∙ ap (λ j. rows p j done table (f ∷ more)) e
        ∙ ap (λ ys. cond (eqb (length ys) p.n)
        (cond (some_misplaced p.n (done + 1) (table_rank p.n (done + 1) (table ++ ys))) (ended_at (done + 2) (Plan (Draw NotOnce))) (rows p left (done + 1) (table ++ ys) more))
        (ended_at (done + 2) Malformed)) (sym r)

    pub row_short : length xs ≢ p.n → all ≡ ended_at (done + 2) Malformed
    row_short h =
        let z : eqb (length xs) p.n ≡ false = grind (arith, nat_tests) in
        rows_here ∙ ap (λ b. cond b (by_rank (some_misplaced p.n (done + 1) (table_rank p.n (done + 1) (table ++ xs)))) (ended_at (done + 2) Malformed)) z

    -- judged as a draw of the rounds so far
    abbrev pub by_draw_so_far : Result Meaning DrawFault → List ℕ
    by_draw_so_far (Ok _) = rows p left (done + 1) (table ++ xs) more
    by_draw_so_far (Err f) = ended_at (done + 2) (Plan (Draw f))

    pub row_judged : length xs ≡ p.n → in_bounds p.n (done + 1) ≡ true → p.n * (done + 1) ≤ length (table ++ xs)
        → all ≡ by_draw_so_far (table_made p.n (done + 1) (table ++ xs))
    row_judged h b l =
        let z : eqb (length xs) p.n ≡ true = grind (arith, nat_tests) in
        rows_here ∙ ap (λ b. cond b (by_rank (some_misplaced p.n (done + 1) (table_rank p.n (done + 1) (table ++ xs)))) (ended_at (done + 2) Malformed)) z
        ∙ by_cases (some_misplaced p.n (done + 1) (table_rank p.n (done + 1) (table ++ xs)))
        ∙ sym (ap by_draw_so_far (judged_table p.n (done + 1) (table ++ xs) b l))
      where
        by_cases : (b : Bool) → by_rank b ≡ by_draw_so_far (cond b (Err NotOnce) (Ok (meant p.n (done + 1) (table ++ xs))))
        by_cases true = refl
        by_cases false = refl

    -- the row is refused, or stands
    pub row_out : length xs ≡ p.n → in_bounds p.n (done + 1) ≡ true → p.n * (done + 1) ≤ length (table ++ xs) → (d : DrawFault) → Err d ≡ table_made p.n (done + 1) (table ++ xs)
        → all ≡ ended_at (done + 2) (Plan (Draw d))
    row_out h b l d q = row_judged h b l ∙ ap by_draw_so_far (sym q)

    pub row_in : length xs ≡ p.n → in_bounds p.n (done + 1) ≡ true → p.n * (done + 1) ≤ length (table ++ xs) → (m : Meaning) → Ok m ≡ table_made p.n (done + 1) (table ++ xs)
        → all ≡ rows p left (done + 1) (table ++ xs) more
    row_in h b l m q = row_judged h b l ∙ ap by_draw_so_far (sym q)

-- a table that was made means what its ranks say
made_by : {A : Type 0} (b : Bool) (m x : A) → ◌≡◌ {A = Result A DrawFault} (Ok m) (cond b (Err NotOnce) (Ok x)) → ◌≡◌ {A = Result A DrawFault} (cond b (Err NotOnce) (Ok x)) (Ok x)
made_by true m x e = cc
made_by false m x e = refl

pub made_is : (n R : ℕ) (xs : List ℕ) (m : Meaning) → in_bounds n R ≡ true → n * R ≤ length xs → Ok m ≡ table_made n R xs → table_made n R xs ≡ Ok (meant n R xs)
made_is n R xs m b l e =
    judged_table n R xs b l ∙ made_by (some_misplaced n R (table_rank n R xs)) m (meant n R xs) (e ∙ judged_table n R xs b l)

-- how a table's last line was judged, and what then follows of all rank lines
pub row_refused : (k : ℕ) (r : Result Meaning DrawFault) (f : Refusal) → Err f ≡ ranks_judged k r → (d : DrawFault) × (r ≡ Err d) × (f ≡ refusal k (Plan (Draw d)))
row_refused k (Ok m) f e = cc
row_refused k (Err d) f e = (d, refl, cc)

pub row_stands : (k : ℕ) (r : Result Meaning DrawFault) → Ok tt ≡ ranks_judged k r → (m : Meaning) × (Ok m ≡ r)
row_stands k (Ok m) e = (m, refl)
row_stands k (Err d) e = cc
