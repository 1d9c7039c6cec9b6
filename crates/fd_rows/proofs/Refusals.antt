-- Where a body is refused, and where it is not.
use Rattle.std.proofs.Common.{◌≡◌, ℕ, ◌+◌, ◌<◌, ◌≤◌, true, false, cond, List, [], ◌++◌, length, get_or, drop, sym, ap, ◌∙◌, subst, arith, Option, Some, None}
use Rattle.std.specs.Prelude.{sum_by, IsPermutation}
use Rattle.std.specs.Option.{option_or, option_map}
use Rattle.std.specs.List.{flat_map}
use Rattle.std.proofs.lemmas.List.{drop_all, append-nil}
use Rattle.std.proofs.lemmas.List.Sorted.{sum_by-IsPermutation}
use Rattle.fd_kinds.specs.declared.row.Row.{Row}
use Rattle.fd_kinds.specs.declared.body.RawSeries.{RawSeries}
use Rattle.fd_kinds.specs.declared.body.RawBody.{RawBody}
use Rattle.fd_kinds.specs.RowSize.{row_size}
use Rattle.fd_pprof.specs.declared.profile.Profile.{Profile}
use Rattle.fd_pprof.specs.Profile.{profile_of, profile_refusal}
use Rattle.fd_rows.specs.declared.limits.TheConstants.{MOST_BODY_ROW_BYTES}
use Rattle.fd_rows.specs.declared.series.Series.{Series}
use Rattle.fd_rows.specs.declared.faults.BatchFault.{BatchFault}
use Rattle.fd_rows.specs.declared.faults.BatchFault.TheVariants as fault
use Rattle.fd_rows.specs.Rows.{series_of, profile_rows, message_rows, series_rows, body_rows}
use Rattle.fd_rows.specs.Body.{is_large, labels_refusal, name_refusal, message_refusal, messages_refusal, series_refusal, all_refusal, body_refusal}
use Rattle.fd_rows.proofs.RowSteps.{not_large, from_place}

-- what is known of a message whose profile is read
pub same_rows : (of : Series) (bytes : List ℕ) (profile : Profile) → profile ≡ profile_of bytes → profile_rows of profile ≡ message_rows of bytes
unfolding message_rows
same_rows of bytes profile is = ap (profile_rows of) is

pub message_fine : (series : ℕ) (of : Series) (at : ℕ) (before more : List Row) (bytes : List ℕ) (size : ℕ) → profile_refusal bytes ≡ None
    → more ≡ before ++ message_rows of bytes → size ≡ sum_by row_size more → size ≤ MOST_BODY_ROW_BYTES → message_refusal series of at before bytes ≡ None
message_fine series of at before more bytes size none is counted small =
    let fine : is_large (before ++ message_rows of bytes) ≡ false = subst (λ rows. is_large rows ≡ false) is (not_large more size counted small) in
    ap (λ o. option_or (option_map (fault.Profile series at) o) (cond (is_large (before ++ message_rows of bytes)) (Some (fault.Large series at)) None)) none
    ∙ ap (λ b. cond b (Some (fault.Large series at)) None) fine

pub message_large : (series : ℕ) (of : Series) (at : ℕ) (before : List Row) (bytes : List ℕ) → profile_refusal bytes ≡ None → is_large (before ++ message_rows of bytes) ≡ true
    → message_refusal series of at before bytes ≡ Some (fault.Large series at)
message_large series of at before bytes none large =
    ap (λ o. option_or (option_map (fault.Profile series at) o) (cond (is_large (before ++ message_rows of bytes)) (Some (fault.Large series at)) None)) none
    ∙ ap (λ b. cond b (Some (fault.Large series at)) None) large

first_part : {X : Type 0} (a b c : Option X) (e : X) → option_or a b ≡ Some e → option_or a (option_or b c) ≡ Some e
first_part (Some x) b c e h = h
first_part None (Some x) c e h = h
first_part None None c e h = cc

pub series_first : (at : ℕ) (before : List Row) (s : RawSeries) (e : BatchFault) → option_or (labels_refusal at [] s.labels) (name_refusal at s.labels) ≡ Some e → series_refusal at before s ≡ Some e
unfolding series_refusal
series_first at before s e h = first_part (labels_refusal at [] s.labels) (name_refusal at s.labels) (messages_refusal at (series_of s.labels) 0 before s.profiles) e h

pub series_after : (at : ℕ) (before : List Row) (s : RawSeries) (of : Series) → labels_refusal at [] s.labels ≡ None → name_refusal at s.labels ≡ None → of ≡ series_of s.labels
    → series_refusal at before s ≡ messages_refusal at of 0 before s.profiles
unfolding series_refusal
series_after at before s of labels name is =
    ap (λ o. option_or o (option_or (name_refusal at s.labels) (messages_refusal at (series_of s.labels) 0 before s.profiles))) labels
    ∙ ap (λ o. option_or o (messages_refusal at (series_of s.labels) 0 before s.profiles)) name
    ∙ ap (λ x. messages_refusal at x 0 before s.profiles) (sym is)

pub series_same : (s : RawSeries) (of : Series) → of ≡ series_of s.labels → flat_map (message_rows of) s.profiles ≡ series_rows s
unfolding series_rows
series_same s of is = ap (λ x. flat_map (message_rows x) s.profiles) is

pub body_refused : (body : RawBody) (items : List RawSeries) (rows : List Row) (i : ℕ) (s : RawSeries) (e : BatchFault) → items ≡ body.series → i < length items → s ≡ get_or items i s
    → all_refusal i rows (drop i body.series) ≡ all_refusal 0 [] body.series → series_refusal i rows s ≡ Some e → body_refusal body ≡ Some e
unfolding body_refusal
body_refused body items rows i s e same within here rest refused =
    sym rest
    ∙ ap (all_refusal i rows) (from_place body.series items i s same within here)
    ∙ ap (λ o. option_or o (all_refusal (i + 1) (rows ++ series_rows s) (drop (i + 1) body.series))) refused

pub body_done : (body : RawBody) (items : List RawSeries) (rows batch : List Row) (i : ℕ) → items ≡ body.series → length items ≤ i
    → rows ++ flat_map series_rows (drop i body.series) ≡ flat_map series_rows body.series → all_refusal i rows (drop i body.series) ≡ all_refusal 0 [] body.series
    → IsPermutation rows batch → (body_refusal body ≡ None) × IsPermutation (body_rows body) batch
unfolding body_refusal body_rows
body_done body items rows batch i same past gathered rest sorted =
    let past_all : length body.series ≤ i = omega (arith, ap length same) in
    let end : drop i body.series ≡ [] = drop_all i body.series past_all in
    let all : rows ≡ flat_map series_rows body.series = sym (ap (λ xs. rows ++ flat_map series_rows xs) end ∙ append-nil rows) ∙ gathered in
    (sym rest ∙ ap (all_refusal i rows) end, subst (λ xs. IsPermutation xs batch) all sorted)

pub batch_small : (rows batch : List Row) (size : ℕ) → size ≡ sum_by row_size rows → size ≤ MOST_BODY_ROW_BYTES → IsPermutation rows batch → sum_by row_size batch ≤ MOST_BODY_ROW_BYTES
batch_small rows batch size counted small sorted =
    subst (λ n. n ≤ MOST_BODY_ROW_BYTES) (counted ∙ sym (sum_by-IsPermutation row_size rows batch sorted)) small
