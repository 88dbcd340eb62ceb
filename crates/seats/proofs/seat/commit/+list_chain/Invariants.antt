use Rattle.seats.proofs.seat.commit.+list_chain.Given as goal

abbrev pub decreases-list_chain : goal.decreases-list_chain
decreases-list_chain l = l.to
