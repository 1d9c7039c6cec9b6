use Rattle.std.proofs.Common.{◌≡◌, List, [], ◌∷◌, ◌++◌, sym, ap, ◌∙◌, subst}
use Rattle.std.specs.Prelude.{IsSorted}
use Rattle.std.proofs.lemmas.Result.{IfOk-weaker}
use Rattle.fd_kinds.specs.declared.row.Numbered.{Numbered}
use Rattle.fd_column.specs.RowNumbers.{numbered_cmp}
use Rattle.test_files.proofs.files.two_rows.Goals as goal

two : (a b : Numbered) (none one both : List Numbered) → none ≡ [] → one ≡ none ++ a ∷ [] → both ≡ one ++ b ∷ [] → both ≡ a ∷ b ∷ []
two a b none one both e0 e1 e2 = e2 ∙ ap (λ (xs : List Numbered). xs ++ b ∷ []) (e1 ∙ ap (λ (xs : List Numbered). xs ++ a ∷ []) e0)

pub finish-requires : goal.finish-requires
finish-requires c =
    let are = two c.args.first.now c.args.second.now c.new.result c.in_ok-with_row.field-0 c.in_ok-with_row-2.field-0 c.new.ensures c.in_ok-with_row.ensures c.in_ok-with_row-2.ensures in
    subst (IsSorted numbered_cmp) (sym are) c.requires.sorted

pub returns : goal.returns
returns c =
    let are = two c.args.first.now c.args.second.now c.new.result c.in_ok-with_row.field-0 c.in_ok-with_row-2.field-0 c.new.ensures c.in_ok-with_row.ensures c.in_ok-with_row-2.ensures in
    IfOk-weaker c.finish.result (λ part. part ≡ c.in_ok-with_row-2.field-0) (λ part. part ≡ c.args.first.now ∷ c.args.second.now ∷ []) (λ part is. is ∙ are) c.finish.ensures
