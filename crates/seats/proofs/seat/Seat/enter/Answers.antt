use Rattle.std.proofs.Common.{rules}
use Rattle.seats.proofs.RuleLaws.{rule_accepts}
use Rattle.seats.proofs.seat.Seat.enter.Goals as goal

pub returns-in_err-may_enter-clause-rule : goal.returns-in_err-may_enter-clause-rule
returns-in_err-may_enter-clause-rule g c = λ t. let said = c.in_err-may_enter.ensures t in search rules

pub returns-clause-rule : goal.returns-clause-rule
returns-clause-rule g c = λ t. let said = c.in_ok-may_enter.ensures t in search (rules, rule_accepts)
