-- The labels of a series, and why one of them is refused.
use Rattle.std.specs.Prelude.{ℕ, Bool, not, ◌||◌, List, [], ◌∷◌, Option, Some, None, length, nat_lt, if◌then◌else◌, codes, bytes_eq}
use Rattle.std.specs.List.{list_any}
use Rattle.std.specs.Ordering.{is_eq}
use Rattle.std.specs.Option.{option_or}
use Rattle.fd_kinds.specs.declared.pair.Pair.{Pair}
use Rattle.fd_kinds.specs.Names.{is_label_name}
use Rattle.fd_lists.specs.Texts.{text_cmp}
use Rattle.fd_rows.specs.declared.faults.LabelFault.{LabelFault}
use Rattle.fd_rows.specs.declared.limits.TheConstants.{MOST_LABEL_BYTES}
use Rattle.fd_rows.specs.declared.faults.LabelFault.TheVariants.{BadLabelName, LongValue, RepeatedLabel}

-- more bytes than a name or a value may have
abbrev pub is_long : List ℕ → Bool
is_long text = nat_lt MOST_LABEL_BYTES (length text)

-- some of the labels has the name
abbrev pub has_label : List Pair → List ℕ → Bool
has_label labels name = list_any (λ p. is_eq (text_cmp name p.name)) labels

-- why a label is refused for its name or value alone
abbrev pub own_refusal : Pair → Option LabelFault
own_refusal p =
    if not (is_label_name p.name) then Some BadLabelName
    else if is_long p.name || is_long p.value then Some LongValue
    else None

-- why a label is refused that stands behind the labels `earlier`
abbrev pub label_refusal : List Pair → Pair → Option LabelFault
label_refusal earlier p = option_or (own_refusal p) (if has_label earlier p.name then Some RepeatedLabel else None)

-- the label that names a series
abbrev pub is_name : Pair → Bool
is_name p = bytes_eq p.name (codes "__name__")

-- the value of the label `__name__`, and empty where there is none
abbrev pub series_name : List Pair → List ℕ
series_name [] = []
series_name (p ∷ ps) = if is_name p then p.value else series_name ps
