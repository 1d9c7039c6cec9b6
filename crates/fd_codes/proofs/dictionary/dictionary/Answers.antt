use Rattle.std.proofs.Common.{ℕ, List, ◌++◌, length, map, sym, ap, ◌∙◌, arith, Bor}
use Rattle.std.proofs.lemmas.List.{length-map}
use Rattle.fd_pages.specs.Dictionaries.{dictionary_body}
use Rattle.fd_codes.specs.declared.page_type.PageType.TheVariants.{Dictionary}
use Rattle.fd_codes.specs.Headers.{header_text}
use Rattle.fd_codes.proofs.TextLaws.{texts_few}
use Rattle.fd_codes.proofs.DictionaryLaws.{dictionary_is}
use Rattle.fd_codes.proofs.dictionary.dictionary.Goals as goal

pub header-requires-clause-counted : goal.header-requires-clause-counted
header-requires-clause-counted c =
    let texts = map (λ (t : Bor (List ℕ)). t.now) c.args.texts.now in
    omega (arith, c.requires.small, texts_few texts, length-map c.args.texts.now (λ (t : Bor (List ℕ)). t.now))

pub returns : goal.returns
returns c =
    let texts = map (λ (t : Bor (List ℕ)). t.now) c.args.texts.now in
    let count = length-map c.args.texts.now (λ (t : Bor (List ℕ)). t.now) in
    let body-is = c.in_ok-put_texts.ensures ∙ ap (λ x. x ++ dictionary_body texts) c.new-body.ensures in
    let header-is = c.in_ok-page.ensures ∙ ap (λ n. header_text Dictionary n c.len.result) (sym count) ∙ ap (header_text Dictionary (length texts)) c.len.ensures in
    dictionary_is texts c.extend.new.self c.in_ok-page.page c.put_texts.new.out c.requires.rising c.requires.small header-is body-is (c.in_ok-extend.ensures.ok ∙ ap (λ x. c.in_ok-page.page ++ x) c.as_slice.ensures)
