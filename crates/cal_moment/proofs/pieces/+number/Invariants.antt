use Rattle.cal_moment.proofs.pieces.+number.Given as goal

abbrev pub decreases-number : goal.decreases-number
decreases-number l = l.width
