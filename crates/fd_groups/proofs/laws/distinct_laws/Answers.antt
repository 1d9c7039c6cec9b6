use Rattle.std.proofs.Common.{◌∙◌, sym}
use Rattle.fd_kinds.specs.Meaning.{distinct}
use Rattle.fd_kinds.proofs.Distinct.{any_distinct, sorted_distinct, contains_distinct}
use Rattle.fd_groups.proofs.GroupLaws.{same_members}
use Rattle.fd_groups.proofs.laws.distinct_laws.Goals as goal

pub returns-clause-rising : goal.returns-clause-rising
returns-clause-rising g c = sorted_distinct g.met.T.Ord.total

pub returns-clause-members : goal.returns-clause-members
returns-clause-members g c = λ exact items item. contains_distinct g.met.T.Ord.total exact items item

pub returns-clause-same : goal.returns-clause-same
returns-clause-same g c = λ exact xs ys same.
    same_members g.met.T.Ord.total exact (distinct g.T.Ord.cmp xs) (distinct g.T.Ord.cmp ys) (sorted_distinct g.met.T.Ord.total xs) (sorted_distinct g.met.T.Ord.total ys) (λ item. any_distinct g.met.T.Ord.total item xs ∙ same item ∙ sym (any_distinct g.met.T.Ord.total item ys))
