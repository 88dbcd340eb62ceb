-- All honest seats in one round, each with its proposal made: some echo or finish is ready.
use Rattle.std.proofs.Common.{◌≡◌, ℕ, zero, suc, ◌-◌, ◌*◌, ◌%◌, ◌<◌, ◌≤◌, Bool, true, false, not, ◌&&◌, eqb, ltb, leb, ◌⊎◌, sym, refl, ap, ◌∙◌, subst, inl, inr, arith}
use Rattle.std.proofs.lemmas.Bool.{and_parts, and_from, or_right, not_from_false, cases_Bool, eqb-true, eq-eqb, ltb-true, lt-ltb, le-leb, not-true}
use Rattle.model.specs.Setup.{Plan, Lawful, quorum, honest, number, round_of, maker_of, rank_of, numbers, in_order}
use Rattle.model.specs.World.{World, message, block, notarization, held, valid, valid_at}
use Rattle.model.specs.World.Phase.{in_round}
use Rattle.basics.specs.Count.{some_below}
use Rattle.model.specs.Checks.{better, some_better}
use Rattle.model.specs.Promises.{AllDelivered, AllPatient, Ready}
use Rattle.model.proofs.Tests.{not_both}
use Rattle.model.proofs.Searches.{found, find, no_below, lowest, all_or_out}
use Rattle.model.proofs.Numbering.{number_round, number_maker, maker_below, rank_below, same_number}
use Rattle.model.proofs.Growth.{Backed}
use Rattle.model.proofs.Invariant.{Inv, Inside, Twins}
use Rattle.model.proofs.Accepted.{Acts, acting}
use Rattle.model.proofs.Ready.{echo_ready}
use Rattle.model.proofs.Counting.{quorum_when}
use Rattle.model.proofs.Delivered.{received, valid_everywhere, made_known, finishes, waited}

-- an honest maker has one block in a round, so no twins
honest_alone : (p : Plan) → Lawful p → (w : World) → Inv p w →
    (s k b : ℕ) → Acts p s → round_of p b ≡ k → maker_of p b ≡ s → Twins p w k (rank_of p b) → ⊥
honest_alone p law w i s k b a r m x =
    x.differ (same_number p x.one x.two (first x.one x.backed_one) (first x.two x.backed_two) (x.round_one ∙ sym x.round_two)
    (maker_one ∙ sym maker_two) (only x.one maker_one x.backed_one ∙ sym (only x.two maker_two x.backed_two)))
  where
    first : (c : ℕ) → Backed p w c → 1 ≤ c
    first c y = (i.blocks c y.is_made).first

    same_maker : (c : ℕ) → round_of p c ≡ k → rank_of p c ≡ rank_of p b → maker_of p c ≡ s
    same_maker c rc e = law.rank_once k (maker_of p c) s (maker_below p c law) a.below
        (ap (λ (z : ℕ). p.rank z (maker_of p c)) (sym rc) ∙ e ∙ (λ n. p.rank (r n) (m n)))

    maker_one : maker_of p x.one ≡ s
    maker_one = same_maker x.one x.round_one x.rank_one

    maker_two : maker_of p x.two ≡ s
    maker_two = same_maker x.two x.round_two x.rank_two

    only : (c : ℕ) → maker_of p c ≡ s → Backed p w c → (c - 1) % 3 ≡ 0
    only c e y = ((i.seats s a).marks.own c y.is_made e).first_variant

module _ (p : Plan) (law : Lawful p) (w : World) (i : Inv p w) (delivered : AllDelivered p w) (patient : AllPatient p w) (k : ℕ)
    (together : (s : ℕ) → Acts p s → ((w.seat s).phase ≡ in_round) × ((w.seat s).round ≡ k))
    (all_proposed : (s : ℕ) → Acts p s → (w.seat s).proposed ≡ true) where
  inside : (s : ℕ) → Acts p s → Inside p w s (w.seat s).round (w.seat s).proposed (w.seat s).noted (w.seat s).disqualified
  inside s a = (i.seats s a).inside (together s a).0

  -- what an qualified valid block of the round is, for a seat
  candidate : ℕ → ℕ → Bool
  candidate s b = better p w s p.n b

  record Candidate (s b : ℕ) : Type 0 where
    of_round : round_of p b ≡ k
    qualified : (w.seat s).disqualified (rank_of p b) ≡ false
    is_valid : valid p w s b ≡ true

  below : (s r b : ℕ) → Acts p s → better p w s r b ≡ true → (rank_of p b < r) × Candidate s b
  below s r b a h =
      let x = and_parts (eqb (round_of p b) (w.seat s).round) _ h in
      let y = and_parts (ltb (rank_of p b) r) _ x.1 in
      let z = and_parts (not ((w.seat s).disqualified (rank_of p b))) (valid p w s b) y.1 in (
        ltb-true (rank_of p b) r y.0,
        record {
          of_round = eqb-true (round_of p b) (w.seat s).round x.0 ∙ (together s a).1;
          qualified = not-true ((w.seat s).disqualified (rank_of p b)) z.0;
          is_valid = z.1;
        },
      )

  is_candidate : (s b : ℕ) → Acts p s → Candidate s b → candidate s b ≡ true
  unfolding candidate
  is_candidate s b a c =
      and_from _ _ (eq-eqb (round_of p b) (w.seat s).round (c.of_round ∙ sym (together s a).1))
      (and_from _ _ (lt-ltb (rank_of p b) p.n (rank_below p b law)) (and_from _ _ (not_from_false ((w.seat s).disqualified (rank_of p b)) c.qualified) c.is_valid))

  from_one : (s : ℕ) → Acts p s → 1 ≤ k
  from_one s a = let x = (i.seats s a).stage.from_one in let y = (together s a).1 in omega arith

  candidate_made : (s b : ℕ) → Acts p s → Candidate s b → w.made b ≡ true
  candidate_made s b a c = i.pools s (block b) (pooled (round_of p b) (let x = from_one s a in let y = c.of_round in omega arith) c.is_valid)
    where
      pooled : (j : ℕ) → 1 ≤ j → valid_at p w s j b ≡ true → w.pool s (block b) ≡ true
      pooled zero l h = absurd (omega arith)
      pooled (suc j) l h = (and_parts (w.pool s (block b)) _ h).0

  backed_candidate : (s b : ℕ) → Acts p s → Backed p w b → round_of p b ≡ k → (w.seat s).disqualified (rank_of p b) ≡ false → Candidate s b
  backed_candidate s b a x r u = record { of_round = r; qualified = u; is_valid = valid_everywhere p law w i delivered b s a x }

  -- a seat's own proposal
  own_candidate : (s : ℕ) → Acts p s → Candidate s (number p k s 0)
  own_candidate s a = backed_candidate s b a ((i.seats s a).marks.own b is_made m).backed r
      (elim (cases_Bool ((w.seat s).disqualified (rank_of p b))) [
        | inr e ↦ e
        | inl y ↦ absurd (honest_alone p law w i s k b a r m
            (subst (λ (j : ℕ). Twins p w j (rank_of p b)) (together s a).1 ((inside s a).disqualified_ok (rank_of p b) y)))
      ])
    where
      b : ℕ
      b = number p k s 0

      is_made : w.made b ≡ true
      is_made = subst (λ (j : ℕ). w.made (number p j s 0) ≡ true) (together s a).1 ((inside s a).proposed_ok (all_proposed s a))

      r : round_of p b ≡ k
      r = number_round p k s 0 (from_one s a) a.below (omega arith)

      m : maker_of p b ≡ s
      m = number_maker p k s 0 a.below (omega arith)

  -- a candidate of some honest seat
  somewhere : ℕ → Bool
  somewhere b = some_below (λ s. honest p s && candidate s b) p.n

  is_somewhere : (s b : ℕ) → Acts p s → Candidate s b → somewhere b ≡ true
  unfolding somewhere
  is_somewhere s b a c = find (λ s. honest p s && candidate s b) p.n s a.below (and_from _ _ a.honest_seat (is_candidate s b a c))

  -- the lowest rank r of any candidate
  module _ (r : ℕ) (least : (b : ℕ) → b < numbers p → somewhere b ≡ true → r ≤ rank_of p b) where
    none_better : (s b : ℕ) → Acts p s → rank_of p b ≡ r → some_better p w s (rank_of p b) ≡ false
    none_better s b a e = no_below (λ j. better p w s (rank_of p b) (in_order p (w.seat s).round j)) (3 * rank_of p b) (λ j _ h.
        let c : ℕ = in_order p (w.seat s).round j in
        let x = below s (rank_of p b) c a h in
        let y = x.0 in
        let z = least c (i.blocks c (candidate_made s c a x.1)).last (is_somewhere s c a x.1) in
        omega arith)

    noted_or_ready : (s b : ℕ) → Acts p s → rank_of p b ≡ r → Candidate s b → Ready p w ⊎ ((w.seat s).noted b ≡ true)
    noted_or_ready s b a e c = elim (cases_Bool ((w.seat s).noted b)) [
      | inl y ↦ inr y
      | inr n ↦ inl (
        s,
        a.below,
        a.honest_seat,
        inr (inr (inl (
          b,
          echo_ready p w s a b (made_known p law w i delivered b (candidate_made s b a c)) (together s a).0
              (c.of_round ∙ sym (together s a).1) n c.qualified c.is_valid
              (waited p law w patient s (rank_of p b) a (together s a).0 (rank_below p b law)) (none_better s b a e),
        ))),
      )
    ]

    -- where the rank is a candidate's at one seat, no other seat has disqualified it
    disqualified_or_ready : (s h : ℕ) → Acts p s → Acts p h → (w.seat s).disqualified r ≡ false → (w.seat h).disqualified r ≡ true → Ready p w
    disqualified_or_ready s h a ah un y = elim (noted_or_ready s x.one a x.rank_one (each x.one x.rank_one x.round_one x.backed_one)) [
      | inl ready ↦ ready
      | inr n ↦ elim (noted_or_ready s x.two a x.rank_two (each x.two x.rank_two x.round_two x.backed_two)) [
        | inl ready ↦ ready
        | inr m ↦ absurd (x.differ ((inside s a).noted_once x.one x.two n m (x.rank_one ∙ sym x.rank_two)))
      ]
    ]
      where
        x : Twins p w k r
        x = subst (λ (j : ℕ). Twins p w j r) (together h ah).1 ((inside h ah).disqualified_ok r y)

        each : (b : ℕ) → rank_of p b ≡ r → round_of p b ≡ k → Backed p w b → Candidate s b
        each b e q z = backed_candidate s b a z q (ap (w.seat s).disqualified e ∙ un)

    all_noted : (s b : ℕ) → Acts p s → rank_of p b ≡ r → Candidate s b →
        Ready p w ⊎ ((h : ℕ) → h < p.n → honest p h ≡ true → (w.seat h).noted b ≡ true)
    all_noted s b a e c = elim (noted_or_ready s b a e c) [
      | inl ready ↦ inl ready
      | inr n ↦ all_or_out (λ h. honest p h ≡ true → (w.seat h).noted b ≡ true) p.n (λ h l. elim (cases_Bool (honest p h)) [
        | inr e ↦ inr (λ y. not_both (honest p h) y e)
        | inl y ↦ one n h (acting l y)
      ])
    ]
      where
        one : (w.seat s).noted b ≡ true → (h : ℕ) → Acts p h → Ready p w ⊎ (honest p h ≡ true → (w.seat h).noted b ≡ true)
        one n h ah = elim (cases_Bool ((w.seat h).disqualified (rank_of p b))) [
          | inl y ↦ inl (disqualified_or_ready s h a ah (ap (w.seat s).disqualified (sym e) ∙ c.qualified) (ap (w.seat h).disqualified (sym e) ∙ y))
          | inr u ↦ elim (noted_or_ready h b ah e (backed_candidate h b ah ((i.seats s a).marks.backed_2 b ((inside s a).noted_ok b n).seal_made) c.of_round u))
              [ inl ready ↦ inl ready | inr m ↦ inr (λ _. m) ]
        ]

  pub agreed_ready : (s : ℕ) → Acts p s → Ready p w
  unfolding somewhere candidate
  agreed_ready s a =
      let low = lowest somewhere (rank_of p) (numbers p) (find somewhere (numbers p) (number p k s 0)
      (i.blocks (number p k s 0) (candidate_made s (number p k s 0) a (own_candidate s a))).last (is_somewhere s (number p k s 0) a (own_candidate s a))) in
      let b : ℕ = low.0 in
      let at = found (λ h. honest p h && candidate h b) p.n low.2 in
      let h : ℕ = at.0 in
      let y = and_parts (honest p h) (candidate h b) at.2 in
      let ah : Acts p h = acting at.1 y.0 in
      let c : Candidate h b = (below h p.n b ah y.1).1 in
      elim (all_noted (rank_of p b) low.3 h b ah refl c) [ inl ready ↦ ready | inr all ↦ finish_all b h ah c all ]
    where
      finish_all : (b h : ℕ) → Acts p h → Candidate h b → ((h : ℕ) → h < p.n → honest p h ≡ true → (w.seat h).noted b ≡ true) → Ready p w
      finish_all b h a c all =
          let x = (i.seats h a).marks.backed_2 b ((inside h a).noted_ok b (all h a.below a.honest_seat)).seal_made in
          let q = quorum_when p law (λ r. w.pool h (message 2 r b))
          (λ r l y. received p w delivered h (message 2 r b) a ((inside r (acting l y)).noted_ok b (all r l y)).share_posted) in
          finishes p law w i delivered h b a (together h a).0 (c.of_round ∙ sym (together h a).1) x
          (or_right (w.pool h (notarization b)) (leb (quorum p) (held p w h 2 b)) (le-leb (quorum p) (held p w h 2 b) q))
