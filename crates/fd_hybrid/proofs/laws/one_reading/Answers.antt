use Rattle.fd_hybrid.proofs.Exactness.{one_values, spelled_not_cut, spelled_not_wide, cut_not_wide}
use Rattle.fd_hybrid.proofs.laws.one_reading.Goals as goal

pub returns-clause-values : goal.returns-clause-values
returns-clause-values c = one_values

pub returns-clause-cut : goal.returns-clause-cut
returns-clause-cut c = spelled_not_cut

pub returns-clause-over_width : goal.returns-clause-over_width
returns-clause-over_width c = spelled_not_wide

pub returns-clause-cut_over_width : goal.returns-clause-cut_over_width
returns-clause-cut_over_width c = cut_not_wide
