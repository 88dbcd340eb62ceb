use Rattle.std.proofs.Common.{◌∙◌, append_assoc}
use Rattle.seats.proofs.Posting.{with_both}
use Rattle.seats.proofs.seat.Seat.post.Goals as goal

pub returns-clause-pool : goal.returns-clause-pool
returns-clause-pool c = c.post_one-3.ensures.pool ∙ simp (c.post_one-2.ensures.pool, c.post_one.ensures.pool, with_both, append_assoc)

pub returns-clause-marks : goal.returns-clause-marks
returns-clause-marks c = c.post_one-3.ensures.marks ∙ simp (c.post_one-2.ensures.marks, c.post_one.ensures.marks, with_both, append_assoc)
