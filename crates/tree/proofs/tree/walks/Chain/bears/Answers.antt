use Rattle.std.proofs.Common.{◌≡◌, rules, tests, ◌∙◌}
use Rattle.std.specs.List.{list_all, enumerate_from}
use Rattle.std.proofs.lemmas.Iterator.{YieldsList-from_slice}
use Rattle.std.proofs.lemmas.Iterator.Consumers.{YieldsList-from_enumerate}
use Rattle.std.proofs.lemmas.Iterator.Search.{all_from_yields_List}
use Rattle.tree.proofs.WalkSteps.{may_stand, sound_on-places}
use Rattle.tree.proofs.tree.walks.Chain.bears.Goals as goal

pub returns : goal.returns
returns c =
    let chain = c.args.self.now in
    let xs = c.args.places.now in
    let each : c.all.result ≡ list_all (may_stand chain xs) (enumerate_from 0 xs) =
    all_from_yields_List (may_stand chain xs) _ _ c.all.result c.all.ensures.ran (YieldsList-from_enumerate (YieldsList-from_slice xs cc) cc) (λ x b q k. search (rules, tests)) in
    each ∙ sound_on-places chain xs
