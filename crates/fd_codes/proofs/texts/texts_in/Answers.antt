use Rattle.std.proofs.Common.{◌≡◌, ℕ, ◌+◌, true, false, List, [], ◌∷◌, ◌++◌, length, map, sym, ap, subst, ◌∙◌, rules, arith, Bor}
use Rattle.std.proofs.lemmas.List.{map-append, nil_from_length}
use Rattle.fd_codes.specs.Texts.{Rises}
use Rattle.fd_codes.proofs.TextLaws.{Reads, reads_none, reads_cut, reads_fall, reads_more, reads_all}
use Rattle.fd_codes.proofs.texts.texts_in.Goals as goal

pub loop-init : goal.loop-init
loop-init c =
    subst (λ (ts : List (Bor (List ℕ))). Reads c.args.count 0 c.args.bytes.now (map (λ (t : Bor (List ℕ)). t.now) ts) c.args.bytes.now) (sym c.new-texts.ensures)
    (reads_none c.args.count c.args.bytes.now (λ i. omega (arith, c.type_inv.bytes i)))

pub returns-in_err-text-clause-only : goal.returns-in_err-text-clause-only
returns-in_err-text-clause-only c = λ texts are.
    absurd (reads_cut c.args.count c.loop.counter c.args.bytes.now (map (λ (t : Bor (List ℕ)). t.now) c.loop.texts) c.loop.rest.now texts c.in_err-text.field-0.0 c.loop.invariant c.loop-test.true c.in_err-text.ensures are)

pub returns-then-not-rises-clause-only : goal.returns-then-not-rises-clause-only
returns-then-not-rises-clause-only c = λ texts are.
    let down : c.rises.result ≡ false = search rules in
    let falls : ¬ Rises (map (λ (t : Bor (List ℕ)). t.now) c.loop.texts) c.in_ok-text.text.now =
    λ r. let up : c.rises.result ≡ true = c.rises.ensures.1 (subst (λ (ts : List (Bor (List ℕ))). Rises (map (λ (t : Bor (List ℕ)). t.now) ts) c.in_ok-text.text.now) (sym c.as_slice.ensures) r) in absurd cc in
    absurd (reads_fall c.args.count c.loop.counter c.args.bytes.now (map (λ (t : Bor (List ℕ)). t.now) c.loop.texts) c.loop.rest.now c.in_ok-text.text.now c.in_ok-text.behind.now texts c.loop.invariant c.loop-test.true c.in_ok-text.ensures falls are)

pub loop-preserved : goal.loop-preserved
loop-preserved c =
    let up : c.rises.result ≡ true = search rules in
    let above : Rises (map (λ (t : Bor (List ℕ)). t.now) c.loop.texts) c.in_ok-text.text.now =
    subst (λ (ts : List (Bor (List ℕ))). Rises (map (λ (t : Bor (List ℕ)). t.now) ts) c.in_ok-text.text.now) c.as_slice.ensures (c.rises.ensures.0 up) in
    let e = ap (map (λ (t : Bor (List ℕ)). t.now)) c.in_ok-push.ensures.ok ∙ map-append (λ (t : Bor (List ℕ)). t.now) c.loop.texts (c.in_ok-text.text ∷ []) in
    subst (λ (ts : List (List ℕ)). Reads c.args.count (c.loop.counter + 1) c.args.bytes.now ts c.in_ok-text.behind.now) (sym e)
    (reads_more c.args.count c.loop.counter c.args.bytes.now (map (λ (t : Bor (List ℕ)). t.now) c.loop.texts) c.loop.rest.now c.in_ok-text.text.now c.in_ok-text.behind.now c.loop.invariant c.loop-test.true c.in_ok-text.ensures above)

pub returns-clause-found : goal.returns-clause-found
returns-clause-found c =
    let empty : length c.loop.rest.now ≡ 0 = search rules in
    reads_all c.args.count c.loop.counter c.args.bytes.now (map (λ (t : Bor (List ℕ)). t.now) c.loop.texts) c.loop.rest.now c.loop.invariant c.loop-test.false (nil_from_length c.loop.rest.now empty)
