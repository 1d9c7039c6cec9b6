use Rattle.std.proofs.Common.{◌≡◌, ◌-◌, ◌<◌, ◌≤◌, ◌^◌, ◌++◌, List, ℕ, length, sym, ap, ◌∙◌, arith, take-append-drop}
use Rattle.std.specs.Int.{w32, to_le_bytes, from_le_bytes}
use Rattle.fd_parquet.proofs.MagicLaws.{holds_there, no_long_footer, parts_are}
use Rattle.fd_parquet.proofs.frame.parts_of.Goals as goal

pub returns-then-length-rest-clause-only : goal.returns-then-length-rest-clause-only
returns-then-length-rest-clause-only c = λ body footer holds.
    let inner : List ℕ = c.in-Some.inner.now in
    let split : inner ≡ c.split_at.result.0.now ++ c.split_at.result.1.now =
    sym (take-append-drop (length inner - 4) inner) ∙ (λ i. sym c.split_at.ensures.front i ++ sym c.split_at.ensures.back i) in
    let long : 4 ≤ length inner = c.in-Some.ensures.found.long in
    let four : length c.split_at.result.1.now ≡ 4 = omega (arith, c.split_at.ensures.back_len, long) in
    let told = c.length_of-length.ensures.told in
    no_long_footer c.args.bytes.now inner c.split_at.result.0.now c.split_at.result.1.now body footer c.in-Some.ensures.found split four (omega (arith, c.if-length-rest.true, told)) holds

pub returns-then-length-rest-clause-refused : goal.returns-then-length-rest-clause-refused
returns-then-length-rest-clause-refused c = (c.in-Some.ensures.found.both, returns-then-length-rest-clause-only c)

pub returns-clause-found : goal.returns-clause-found
returns-clause-found c =
    let inner : List ℕ = c.in-Some.inner.now in
    let rest : List ℕ = c.split_at.result.0.now in
    let split : inner ≡ rest ++ c.split_at.result.1.now =
    sym (take-append-drop (length inner - 4) inner) ∙ (λ i. sym c.split_at.ensures.front i ++ sym c.split_at.ensures.back i) in
    let parts : rest ≡ c.split_at-2.result.0.now ++ c.split_at-2.result.1.now =
    sym (take-append-drop (length rest - c.length_of-length.result) rest) ∙ (λ i. sym c.split_at-2.ensures.front i ++ sym c.split_at-2.ensures.back i) in
    let len : length c.split_at-2.result.1.now ≡ c.length_of-length.result = omega (arith, c.split_at-2.ensures.back_len, c.if-length-rest.false) in
    let spelled : to_le_bytes w32 (length c.split_at-2.result.1.now) ≡ c.split_at.result.1.now = ap (λ n. to_le_bytes w32 n) len ∙ c.length_of-length.ensures.spelled in
    let short : length c.split_at-2.result.1.now < 2 ^ 32 = omega (arith, len, c.length_of-length.ensures.short) in
    holds_there c.args.bytes.now inner rest c.split_at.result.1.now c.split_at-2.result.0.now c.split_at-2.result.1.now c.in-Some.ensures.found split parts spelled short

pub returns-clause-only : goal.returns-clause-only
returns-clause-only c = λ body footer holds.
    let inner : List ℕ = c.in-Some.inner.now in
    let rest : List ℕ = c.split_at.result.0.now in
    let split : inner ≡ rest ++ c.split_at.result.1.now =
    sym (take-append-drop (length inner - 4) inner) ∙ (λ i. sym c.split_at.ensures.front i ++ sym c.split_at.ensures.back i) in
    let parts : rest ≡ c.split_at-2.result.0.now ++ c.split_at-2.result.1.now =
    sym (take-append-drop (length rest - c.length_of-length.result) rest) ∙ (λ i. sym c.split_at-2.ensures.front i ++ sym c.split_at-2.ensures.back i) in
    let long : 4 ≤ length inner = c.in-Some.ensures.found.long in
    let four : length c.split_at.result.1.now ≡ 4 = omega (arith, c.split_at.ensures.back_len, long) in
    let told : length c.split_at-2.result.1.now ≡ from_le_bytes w32 c.split_at.result.1.now = (let len : length c.split_at-2.result.1.now ≡ c.length_of-length.result = omega (arith, c.split_at-2.ensures.back_len, c.if-length-rest.false) in len ∙ c.length_of-length.ensures.told) in
    parts_are c.args.bytes.now inner rest c.split_at.result.1.now c.split_at-2.result.0.now c.split_at-2.result.1.now body footer c.in-Some.ensures.found split four parts told holds
