use Rattle.std.proofs.Common.{rules}
use Rattle.seats.specs.Searches.{other_noted, rank_noted}
use Rattle.seats.proofs.RuleLaws.{rule_accepts}
use Rattle.seats.proofs.seat.Seat.echo.Goals as goal

pub returns-clause-rule : goal.returns-clause-rule
unfolding other_noted rank_noted
returns-clause-rule g c = search (rules, rule_accepts)
