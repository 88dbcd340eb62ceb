use Rattle.std.proofs.Common.{◌≡◌, ℕ, Bool, ap, ap₂, ◌∙◌, leb, rules}
use borrow.Author.Tests.{tests}
use Rattle.std.proofs.lemmas.Iterator.Consumers.{YieldsList-at, YieldsList-from_filter, count_from_yields_List}
use Rattle.basics.specs.Count.{tally}
use Rattle.plans.specs.Planned.{model}
use Rattle.hall.proofs.Counts.{range_below, length-filter-range}
use Rattle.hall.proofs.hall.Hall.quorum_sealed.Goals as goal

pub returns : goal.returns
returns g c =
    let seals : ℕ → ℕ → ℕ → Bool = λ k x s. g.B.SealView.held c.args.self.now.book k s x in
    let test = seals c.kind-kind.result c.subject-subject.result in
    let n = c.seats.result in
    let counted : c.count-sealed.result ≡ tally test n =
    count_from_yields_List c.filter.result c.count-sealed.result c.count-sealed.ensures.ran
    (YieldsList-from_filter _ test (YieldsList-at c.filter.ensures.source (range_below n)) c.filter.ensures.closure (λ x r q k. search (rules, tests)))
    ∙ length-filter-range test n in
    ap₂ leb (c.from.ensures ∙ c.quorum.ensures)
    (counted ∙ ap (tally test) c.seats.ensures.is ∙ ap₂ (λ (k x : ℕ). tally (seals k x) (model c.args.self.now.plan).n) c.kind-kind.ensures c.subject-subject.ensures)
