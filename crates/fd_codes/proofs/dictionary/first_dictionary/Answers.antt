use Rattle.std.proofs.Common.{ℕ, List, ◌++◌, length, map, sym, arith, Bor}
use Rattle.std.proofs.lemmas.Result.{err_from_is_err_and}
use Rattle.fd_pages.specs.Dictionaries.{dictionary_body}
use Rattle.fd_codes.proofs.Outcomes.{gives_other}
use Rattle.fd_codes.proofs.HeaderLaws.{pair, page_is, pair_ok}
use Rattle.fd_codes.proofs.DictionaryLaws.{dictionary_front, dictionary_parts, header_told, long_enough, texts_told}
use Rattle.fd_codes.proofs.dictionary.first_dictionary.Goals as goal

pub returns-in_err-count-clause-only : goal.returns-in_err-count-clause-only
returns-in_err-count-clause-only c = λ texts rest b.
    let p = dictionary_parts texts c.args.bytes.now rest b in
    let q = err_from_is_err_and c.from_residual.result c.from_residual.ensures.1 in
    let told : (ℕ × ℕ) × List ℕ = (pair (length texts) (length (dictionary_body texts)), dictionary_body texts ++ rest) in
    let answer : List (List ℕ) × List ℕ = (texts, rest) in
    rw (q.1, q.2) (gives_other c.in_err-count.field-0.0 told answer (c.in_err-count.ensures.only (length texts) (length (dictionary_body texts)) (dictionary_body texts ++ rest) p.counted p.small p.whole))

pub returns-then-rest-size-clause-only : goal.returns-then-rest-size-clause-only
returns-then-rest-size-clause-only c = λ texts rest b.
    let p = dictionary_parts texts c.args.bytes.now rest b in
    let t = header_told texts c.in_ok-count.count c.in_ok-count.size c.in_ok-count.rest.now rest (c.in_ok-count.ensures.only (length texts) (length (dictionary_body texts)) (dictionary_body texts ++ rest) p.counted p.small p.whole) in
    absurd (omega (arith, c.if-rest-size.true, long_enough texts c.in_ok-count.count c.in_ok-count.size c.in_ok-count.rest.now rest t))

pub returns-in_err-texts-clause-only : goal.returns-in_err-texts-clause-only
returns-in_err-texts-clause-only c = λ texts rest b.
    let p = dictionary_parts texts c.args.bytes.now rest b in
    let t = header_told texts c.in_ok-count.count c.in_ok-count.size c.in_ok-count.rest.now rest (c.in_ok-count.ensures.only (length texts) (length (dictionary_body texts)) (dictionary_body texts ++ rest) p.counted p.small p.whole) in
    let s = texts_told texts c.in_ok-count.count c.in_ok-count.size c.in_ok-count.rest.now rest c.split_at.result.0.now c.split_at.result.1.now p.are t c.split_at.ensures.front c.split_at.ensures.back in
    let q = err_from_is_err_and c.from_residual-in_err-texts.result c.from_residual-in_err-texts.ensures.1 in
    let answer : List (List ℕ) × List ℕ = (texts, rest) in
    rw (q.1, q.2) (gives_other c.in_err-texts.field-0.0 texts answer (c.in_err-texts.ensures.only texts s.0))

pub returns-clause-found : goal.returns-clause-found
returns-clause-found c =
    dictionary_front c.args.bytes.now c.in_ok-count.rest.now c.split_at.result.0.now c.split_at.result.1.now c.in_ok-count.count c.in_ok-count.size (map (λ (t : Bor (List ℕ)). t.now) c.in_ok-texts.texts)
    c.in_ok-count.ensures.found c.in_ok-count.ensures.small.1 (omega arith) c.split_at.ensures.front c.split_at.ensures.back c.in_ok-texts.ensures.found

pub returns-clause-only : goal.returns-clause-only
returns-clause-only c = λ texts rest b.
    let p = dictionary_parts texts c.args.bytes.now rest b in
    let t = header_told texts c.in_ok-count.count c.in_ok-count.size c.in_ok-count.rest.now rest (c.in_ok-count.ensures.only (length texts) (length (dictionary_body texts)) (dictionary_body texts ++ rest) p.counted p.small p.whole) in
    let s = texts_told texts c.in_ok-count.count c.in_ok-count.size c.in_ok-count.rest.now rest c.split_at.result.0.now c.split_at.result.1.now p.are t c.split_at.ensures.front c.split_at.ensures.back in
    pair_ok (map (λ (t : Bor (List ℕ)). t.now) c.in_ok-texts.texts) texts c.split_at.result.1.now rest (page_is (map (λ (t : Bor (List ℕ)). t.now) c.in_ok-texts.texts) texts (c.in_ok-texts.ensures.only texts s.0)) s.1
