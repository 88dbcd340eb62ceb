use Rattle.std.proofs.Common.{◌∙◌}
use Rattle.seats.proofs.Posting.{posted_one}
use Rattle.seats.proofs.seat.Seat.post_one.Goals as goal

pub returns-in-Some-clause-pool : goal.returns-in-Some-clause-pool
returns-in-Some-clause-pool c = c.receive.ensures.pool ∙ posted_one _ _ _ c.in-Some.is

pub returns-in-Some-clause-marks : goal.returns-in-Some-clause-marks
returns-in-Some-clause-marks c = c.insert.ensures ∙ posted_one _ _ _ c.in-Some.is
