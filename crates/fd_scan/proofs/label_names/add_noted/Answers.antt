use Rattle.std.proofs.Common.{rules, ◌≡◌, ◌∙◌, ap, sym, false, [], ◌∷◌, ◌++◌}
use Rattle.std.specs.List.{list_any}
use Rattle.std.specs.BTreeMap.{is_at}
use Rattle.std.specs.BTreeSet.{insert_key}
use Rattle.std.specs.Cmp.Lexicographic.{nat_list_cmp_total}
use Rattle.fd_lists.specs.Texts.{text_cmp}
use Rattle.fd_scan.specs.Removals.{undone}
use Rattle.fd_kinds.proofs.Distinct.{distinct_present}
use Rattle.fd_scan.proofs.RemovalLaws.{undone_noted, undone_added}
use Rattle.fd_scan.proofs.label_names.add_noted.Goals as goal

pub returns-in_err-share-2-clause-undone : goal.returns-in_err-share-2-clause-undone
returns-in_err-share-2-clause-undone c =
    let absent : list_any (is_at (text_cmp c.args.text.now)) c.args.texts.now.keys ≡ false = search rules in
    let noted : c.push.new.self ≡ c.args.noted.now ++ c.args.text.now ∷ [] = search rules in
    ap (undone c.args.texts.now.keys) noted ∙ undone_noted c.args.texts.now.keys c.args.noted.now c.args.text.now absent

pub returns-in_err-insert-clause-undone : goal.returns-in_err-insert-clause-undone
returns-in_err-insert-clause-undone c =
    let absent : list_any (is_at (text_cmp c.args.text.now)) c.args.texts.now.keys ≡ false = search rules in
    let noted : c.push.new.self ≡ c.args.noted.now ++ c.args.text.now ∷ [] = search rules in
    let same : c.insert.new.self.keys ≡ c.args.texts.now.keys = search rules in
    ap (λ keys. undone keys c.push.new.self) same
    ∙ ap (undone c.args.texts.now.keys) noted
    ∙ undone_noted c.args.texts.now.keys c.args.noted.now c.args.text.now absent

pub returns-in_ok-insert-clause-undone : goal.returns-in_ok-insert-clause-undone
returns-in_ok-insert-clause-undone c =
    let absent : list_any (is_at (text_cmp c.args.text.now)) c.args.texts.now.keys ≡ false = search rules in
    let noted : c.push.new.self ≡ c.args.noted.now ++ c.args.text.now ∷ [] = search rules in
    let added : c.insert.new.self.keys ≡ insert_key text_cmp c.args.texts.now.keys c.args.text.now = search rules in
    ap (λ keys. undone keys c.push.new.self) added
    ∙ ap (undone (insert_key text_cmp c.args.texts.now.keys c.args.text.now)) noted
    ∙ undone_added c.args.texts.now.keys c.args.noted.now c.args.text.now absent

pub returns-else-not-contains-clause-ok : goal.returns-else-not-contains-clause-ok
returns-else-not-contains-clause-ok c = λ items held.
    held
    ∙ distinct_present nat_list_cmp_total items c.args.text.now
    (ap (list_any (is_at (text_cmp c.args.text.now))) (sym held) ∙ sym c.if-not-contains.ensures)
