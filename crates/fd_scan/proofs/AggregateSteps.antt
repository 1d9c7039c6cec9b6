-- What is gathered for a query, as rows are added, and what it answers.
use Rattle.std.proofs.Common.{◌≡◌, ◌∙◌, sym, subst, ℕ, ℤ, List, [], ◌++◌, append-nil, BTreeSet}
use Rattle.std.specs.BTreeMap.{BTreeMap}
use Rattle.fd_kinds.specs.declared.row.Row.{Row}
use Rattle.fd_kinds.specs.declared.labels.Labels.{Labels}
use Rattle.fd_kinds.specs.declared.query.Query.{Query}
use Rattle.fd_kinds.specs.declared.query.Query.TheVariants as query
use Rattle.fd_scan.specs.declared.aggregate.Groups.TheVariants as groups
use Rattle.fd_kinds.specs.Meaning.{label_names, label_values}
use Rattle.fd_scan.specs.declared.label_values.LabelValues.{LabelValues}
use Rattle.fd_groups.specs.declared.sums.Sums.{Sums}
use Rattle.fd_groups.specs.Groups.{AreRanges, AreSums}
use Rattle.fd_scan.specs.Aggregates.{AreGroups}

-- What holds of ranges holds of the groups of any query for ranges. The rows become those that `f` gives.
pub ranges_step : (f : List Row → List Row) (a b : BTreeMap Labels (BTreeMap ℤ ℤ)) → ((rows : List Row) → AreRanges a rows → AreRanges b (f rows)) → (q : Query) (rows : List Row) → AreGroups q rows (groups.Range a) → AreGroups q (f rows) (groups.Range b)
ranges_step f a b step (query.Range selector window) rows h = step rows h
ranges_step f a b step _ rows h = absurd h

-- What holds of sums holds of the groups of any query for a merge. The rows become those that `f` gives.
pub sums_step : (f : List Row → List Row) (a b : Sums) → ((rows : List Row) → AreSums a.slots a.sums.items a.total rows → AreSums b.slots b.sums.items b.total (f rows)) → (q : Query) (rows : List Row) → AreGroups q rows (groups.Merge a) → AreGroups q (f rows) (groups.Merge b)
sums_step f a b step (query.Merge selector window) rows h = step rows h
sums_step f a b step _ rows h = absurd h

-- What holds of the values of a label holds of the groups of any query for values. The rows become those that `f` gives.
pub values_step : (f : List Row → List Row) (a b : LabelValues) → b.name ≡ a.name → ((rows : List Row) → a.found.keys ≡ label_values a.name rows → b.found.keys ≡ label_values a.name (f rows)) → (q : Query) (rows : List Row) → AreGroups q rows (groups.Values a) → AreGroups q (f rows) (groups.Values b)
values_step f a b same step (query.Values name selector window) rows h = (
  same ∙ h.0,
  subst (λ n. b.found.keys ≡ label_values n (f rows)) h.0 (step rows (subst (λ n. a.found.keys ≡ label_values n rows) (sym h.0) h.1)),
)
values_step f a b same step _ rows h = absurd h

-- What holds of names holds of the groups of any query for names. The rows become those that `f` gives.
pub names_step : (f : List Row → List Row) (a b : BTreeSet (List ℕ)) → ((rows : List Row) → a.keys ≡ label_names rows → b.keys ≡ label_names (f rows)) → (q : Query) (rows : List Row) → AreGroups q rows (groups.Names a) → AreGroups q (f rows) (groups.Names b)
names_step f a b step (query.LabelNames selector window) rows h = step rows h
names_step f a b step _ rows h = absurd h

-- The same names are those of the same rows.
pub names_kept : (a b : BTreeSet (List ℕ)) → b.keys ≡ a.keys → (q : Query) (rows : List Row) → AreGroups q rows (groups.Names a) → AreGroups q (rows ++ []) (groups.Names b)
names_kept a b same q rows h = subst (λ l. AreGroups q l (groups.Names b)) (sym (append-nil rows)) (names_step (λ l. l) a b (λ l held. same ∙ held) q rows h)
