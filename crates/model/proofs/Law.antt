-- The whole law: every lawful plan keeps every promise.
use Rattle.model.specs.Setup.{Plan, Lawful}
use Rattle.model.specs.Promises.{Promises}
use Rattle.model.proofs.Safety.{catalogues_agree, no_entry_twice}
use Rattle.model.proofs.Journaled.{finalized_alone, seals_are_journaled, posts_are_journaled}
use Rattle.model.proofs.Better.{better_is_named}
use Rattle.model.proofs.Ends.{runs_end}
use Rattle.model.proofs.Progress.{never_stuck, posts_can_arrive}

pub law_stands : (p : Plan) → Lawful p → Promises p
law_stands p l = record {
  catalogues_agree = catalogues_agree p l;
  no_entry_twice = no_entry_twice p l;
  finalized_alone = finalized_alone p l;
  never_stuck = never_stuck p l;
  posts_can_arrive = posts_can_arrive p l;
  seals_are_journaled = seals_are_journaled p l;
  posts_are_journaled = posts_are_journaled p l;
  better_is_named = better_is_named p l;
  runs_end = runs_end p l;
}
