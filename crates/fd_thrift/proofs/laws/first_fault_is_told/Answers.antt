use Rattle.fd_thrift.proofs.Fronts.{cut_is_front, front_is_cut, first_fault, refusals_stay}
use Rattle.fd_thrift.proofs.laws.first_fault_is_told.Goals as goal

pub returns-clause-cut : goal.returns-clause-cut
returns-clause-cut c = cut_is_front

pub returns-clause-front : goal.returns-clause-front
returns-clause-front c = front_is_cut

pub returns-clause-first : goal.returns-clause-first
returns-clause-first c = λ bytes fault fits other h. first_fault fault bytes fits other h

pub returns-clause-stays : goal.returns-clause-stays
returns-clause-stays c = λ bytes more fault other h. refusals_stay bytes more fault h other
