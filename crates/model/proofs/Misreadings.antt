-- The misreadings come out as stated: all by computation.
use Rattle.std.proofs.Common.{[], ◌∷◌, get_or, refl, ap, inl, inr, arith}
use Rattle.std.proofs.lemmas.Bool.{eqb-true, eq-eqb}
use Rattle.model.specs.Setup.{Lawful}
use Rattle.model.specs.Promises.{Agree}
use Rattle.model.specs.Misreadings.{Misreadings, five}

five_lawful : Lawful five
five_lawful = record {
  faults = omega arith;
  few = omega arith;
  some_round = omega arith;
  rank_below = λ k s h. omega arith;
  rank_once = λ k s s' h h' e. omega arith;
  like_self = λ x h. eq-eqb x x refl;
  like_back = λ x y h h' e. eq-eqb y x (omega (arith, eqb-true x y e));
}

rivals_disagree : Agree (13 ∷ []) (14 ∷ []) → ⊥
rivals_disagree (inl (zs, e)) = absurd (omega (arith, ap (λ xs. get_or xs 0 0) e))
rivals_disagree (inr (zs, e)) = absurd (omega (arith, ap (λ xs. get_or xs 0 0) e))

pub misreadings : Misreadings
misreadings = record {
  five_lawful = five_lawful;
  four_are_needed = refl;
  one_is_small_quorum = refl;
  other_is_small_quorum = refl;
  no_honest_in_both = refl;
  small_quorum_accepts = refl;
  small_quorum_disagrees = rivals_disagree;
  quorum_commits_neither = (refl, refl);
  final_always_accepts = refl;
  final_always_finalizes = refl;
  final_always_notarizes = refl;
  of_one_round = refl;
  rules_accept = refl;
  rules_do_not_finalize = refl;
  second_accepted = refl;
  second_passed_on = refl;
  second_kept_back = refl;
}
