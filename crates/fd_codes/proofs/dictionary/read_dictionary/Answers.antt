use Rattle.std.proofs.Common.{ℕ, ◌-◌, List, length, map, drop, sym, subst, Bor}
use Rattle.std.proofs.lemmas.List.{take_rest}
use Rattle.std.proofs.lemmas.Result.{err_from_is_err_and}
use Rattle.fd_pages.specs.Dictionaries.{IsDictionary}
use Rattle.fd_codes.proofs.Outcomes.{gives_other}
use Rattle.fd_codes.specs.Places.{Fronts}
use Rattle.fd_codes.proofs.BadPages.{not_bad}
use Rattle.fd_codes.proofs.HeaderLaws.{pair_is, pair_ok}
use Rattle.fd_codes.proofs.Places.{place_fronts, fronts_place, end_is}
use Rattle.fd_codes.proofs.dictionary.read_dictionary.Goals as goal

pub returns-in_err-texts-clause-only : goal.returns-in_err-texts-clause-only
returns-in_err-texts-clause-only c = λ texts end p.
    let bytes = c.args.bytes.now in
    let fronts = subst (λ x. Fronts (IsDictionary texts) x (drop end bytes)) (sym (take_rest bytes c.args.at)) (place_fronts (IsDictionary texts) bytes c.args.at end p) in
    let q = err_from_is_err_and c.from_residual.result c.from_residual.ensures.1 in
    let read : List (List ℕ) × List ℕ = (texts, drop end bytes) in
    let answer : List (List ℕ) × ℕ = (texts, end) in
    rw (q.1, q.2) (gives_other c.in_err-texts.field-0.0 read answer (c.in_err-texts.ensures.only texts (drop end bytes) fronts))

pub returns-in_err-texts-clause-bad : goal.returns-in_err-texts-clause-bad
returns-in_err-texts-clause-bad c = λ bad (texts, end, p).
    let bytes = c.args.bytes.now in
    let fronts = subst (λ x. Fronts (IsDictionary texts) x (drop end bytes)) (sym (take_rest bytes c.args.at)) (place_fronts (IsDictionary texts) bytes c.args.at end p) in
    let q = err_from_is_err_and c.from_residual.result c.from_residual.ensures.1 in
    let read : List (List ℕ) × List ℕ = (texts, drop end bytes) in
    not_bad c.from_residual.result q.0 c.in_err-texts.field-0.0 read q.1 q.2 bad (c.in_err-texts.ensures.only texts (drop end bytes) fronts)

pub returns-clause-only : goal.returns-clause-only
returns-clause-only c = λ texts end p.
    let bytes = c.args.bytes.now in
    let fronts = subst (λ x. Fronts (IsDictionary texts) x (drop end bytes)) (sym (take_rest bytes c.args.at)) (place_fronts (IsDictionary texts) bytes c.args.at end p) in
    let same = pair_is (map (λ (t : Bor (List ℕ)). t.now) c.in_ok-texts.texts) texts c.in_ok-texts.rest.now (drop end bytes) (c.in_ok-texts.ensures.only texts (drop end bytes) fronts) in
    pair_ok (map (λ (t : Bor (List ℕ)). t.now) c.in_ok-texts.texts) texts (length bytes - length c.in_ok-texts.rest.now) end same.0 (end_is bytes c.in_ok-texts.rest.now end p.within same.1)

pub returns-clause-bad_only : goal.returns-clause-bad_only
returns-clause-bad_only c = λ none.
    let bytes = c.args.bytes.now in
    let texts = map (λ (t : Bor (List ℕ)). t.now) c.in_ok-texts.texts in
    let fronts = subst (λ x. Fronts (IsDictionary texts) x c.in_ok-texts.rest.now) (take_rest bytes c.args.at) c.in_ok-texts.ensures.found in
    absurd (none (texts, length bytes - length c.in_ok-texts.rest.now, fronts_place (IsDictionary texts) bytes c.args.at c.in_ok-texts.rest.now c.requires fronts))
