use Rattle.std.proofs.Common.{ℕ, ◌≡◌, ◌<◌, ◌++◌, List, length, take, sym, ap, ◌∙◌, subst, Ok, Err}
use Rattle.fd_http.specs.Arrivals.{AtReadFault}
use Rattle.fd_http.specs.Remainders.{Given}
use Rattle.fd_http.specs.Intake.{ReadsBody}
use Rattle.fd_http.proofs.InputLemmas.{arrives_one, arrives_head_refused, arrives_body_refused, arrives_no_head, same_rest, front_there, head_there, no_head_there}
use Rattle.fd_http.proofs.GivenLemmas.{given_one, given_cut, given_there, no_read_fault, front_of, body_there, paced_body}
use Rattle.fd_http.proofs.intake.next_request.Goals as goal

pub returns-in-Err-clause-arrives : goal.returns-in-Err-clause-arrives
returns-in-Err-clause-arrives g c =
    arrives_head_refused (g.S.Source.left c.args.source.now) (g.S.Source.left c.fill_front.new.source) c.args.inbox.now c.fill_front.new.inbox c.in-Some.size c.in-Some-2.head c.in-Err.fault
    (same_rest (g.S.Source.left c.args.source.now) (g.S.Source.left c.fill_front.new.source) c.args.inbox.now c.fill_front.new.inbox c.in_ok-size.field-0 c.in-Some.size c.in-Some.is c.in_ok-size.ensures.fills)
    (front_there c.fill_front.new.inbox c.in_ok-size.field-0 c.in-Some.size c.in-Some.is c.in_ok-size.ensures.front)
    (head_there (take c.in-Some.size c.as_slice.result.now) (take c.in-Some.size c.fill_front.new.inbox) c.in_ok-head.field-0 c.in-Some-2.head (ap (take c.in-Some.size) c.as_slice.ensures) c.in-Some-2.is c.in_ok-head.ensures)
    (sym c.body_len.ensures ∙ c.in-Err.is)

pub returns-in-Err-read_body-clause-arrives : goal.returns-in-Err-read_body-clause-arrives
returns-in-Err-read_body-clause-arrives g c =
    let reads : ReadsBody (g.S.Source.left c.fill_front.new.source) (g.S.Source.left c.read_body.new.source) c.skip.new.self c.read_body.new.inbox c.in-Ok.rest (Err c.in-Err-read_body.fault) = c.in-Err-read_body.ensures.reads in
    let P : List ℕ → Type 0 = λ xs. ReadsBody (g.S.Source.left c.fill_front.new.source) (g.S.Source.left c.read_body.new.source) xs c.read_body.new.inbox c.in-Ok.rest (Err c.in-Err-read_body.fault) in
    arrives_body_refused (g.S.Source.left c.args.source.now) (g.S.Source.left c.fill_front.new.source) (g.S.Source.left c.read_body.new.source) c.args.inbox.now c.fill_front.new.inbox c.read_body.new.inbox c.in-Some.size c.in-Some-2.head c.in-Ok.rest c.in-Err-read_body.fault
    (same_rest (g.S.Source.left c.args.source.now) (g.S.Source.left c.fill_front.new.source) c.args.inbox.now c.fill_front.new.inbox c.in_ok-size.field-0 c.in-Some.size c.in-Some.is c.in_ok-size.ensures.fills)
    (front_there c.fill_front.new.inbox c.in_ok-size.field-0 c.in-Some.size c.in-Some.is c.in_ok-size.ensures.front)
    (head_there (take c.in-Some.size c.as_slice.result.now) (take c.in-Some.size c.fill_front.new.inbox) c.in_ok-head.field-0 c.in-Some-2.head (ap (take c.in-Some.size) c.as_slice.ensures) c.in-Some-2.is c.in_ok-head.ensures)
    (sym c.body_len.ensures ∙ c.in-Ok.is)
    (subst P c.skip.ensures reads)

pub returns-clause-arrives : goal.returns-clause-arrives
returns-clause-arrives g c =
    let reads : ReadsBody (g.S.Source.left c.fill_front.new.source) (g.S.Source.left c.read_body.new.source) c.skip.new.self c.read_body.new.inbox c.in-Ok.rest (Ok c.in-Ok-read_body.body) = c.in-Ok-read_body.ensures.reads in
    let P : List ℕ → Type 0 = λ xs. ReadsBody (g.S.Source.left c.fill_front.new.source) (g.S.Source.left c.read_body.new.source) xs c.read_body.new.inbox c.in-Ok.rest (Ok c.in-Ok-read_body.body) in
    let here = subst P c.skip.ensures reads in
    arrives_one (g.S.Source.left c.args.source.now) (g.S.Source.left c.fill_front.new.source) (g.S.Source.left c.read_body.new.source) c.args.inbox.now c.fill_front.new.inbox c.read_body.new.inbox c.in-Ok-read_body.body c.in-Some.size c.in-Some-2.head c.in-Ok.rest
    (same_rest (g.S.Source.left c.args.source.now) (g.S.Source.left c.fill_front.new.source) c.args.inbox.now c.fill_front.new.inbox c.in_ok-size.field-0 c.in-Some.size c.in-Some.is c.in_ok-size.ensures.fills)
    (front_there c.fill_front.new.inbox c.in_ok-size.field-0 c.in-Some.size c.in-Some.is c.in_ok-size.ensures.front)
    (head_there (take c.in-Some.size c.as_slice.result.now) (take c.in-Some.size c.fill_front.new.inbox) c.in_ok-head.field-0 c.in-Some-2.head (ap (take c.in-Some.size) c.as_slice.ensures) c.in-Some-2.is c.in_ok-head.ensures)
    (sym c.body_len.ensures ∙ c.in-Ok.is)
    here.0 here.1

pub returns-clause-given : goal.returns-clause-given
returns-clause-given g c =
    let reads : ReadsBody (g.S.Source.left c.fill_front.new.source) (g.S.Source.left c.read_body.new.source) c.skip.new.self c.read_body.new.inbox c.in-Ok.rest (Ok c.in-Ok-read_body.body) = c.in-Ok-read_body.ensures.reads in
    let G : List ℕ → Type 0 = λ xs. Given (g.S.Source.left c.fill_front.new.source) (g.S.Source.left c.read_body.new.source) xs (λ given. given ≡ c.in-Ok-read_body.body ++ c.read_body.new.inbox) in
    given_one (g.S.Source.left c.args.source.now) (g.S.Source.left c.fill_front.new.source) (g.S.Source.left c.read_body.new.source) c.args.inbox.now c.fill_front.new.inbox c.read_body.new.inbox c.in-Ok-read_body.body c.in-Some.size c.in-Some-2.head c.in-Ok.rest
    (given_there c.in_ok-size.field-0 c.in-Some.size (Given (g.S.Source.left c.args.source.now) (g.S.Source.left c.fill_front.new.source) c.args.inbox.now (λ given. given ≡ c.fill_front.new.inbox)) c.in-Some.is c.in_ok-size.ensures.given)
    (front_there c.fill_front.new.inbox c.in_ok-size.field-0 c.in-Some.size c.in-Some.is c.in_ok-size.ensures.front)
    (head_there (take c.in-Some.size c.as_slice.result.now) (take c.in-Some.size c.fill_front.new.inbox) c.in_ok-head.field-0 c.in-Some-2.head (ap (take c.in-Some.size) c.as_slice.ensures) c.in-Some-2.is c.in_ok-head.ensures)
    (sym c.body_len.ensures ∙ c.in-Ok.is)
    reads.0
    (subst G c.skip.ensures c.in-Ok-read_body.ensures.given)

pub returns-in-Err-clause-fault : goal.returns-in-Err-clause-fault
returns-in-Err-clause-fault g c = no_read_fault c.in-Some-2.head.length c.in-Some-2.head c.in-Err.fault _ (sym c.body_len.ensures ∙ c.in-Err.is)

pub returns-in-Err-read_body-clause-fault : goal.returns-in-Err-read_body-clause-fault
returns-in-Err-read_body-clause-fault g c =
    let F : List ℕ → Type 0 = λ xs. AtReadFault c.in-Err-read_body.fault (Given (g.S.Source.left c.fill_front.new.source) (g.S.Source.left c.read_body.new.source) xs (λ given. length given < c.in-Ok.rest)) in
    given_cut (g.S.Source.left c.args.source.now) (g.S.Source.left c.fill_front.new.source) (g.S.Source.left c.read_body.new.source) c.args.inbox.now c.fill_front.new.inbox c.in-Some.size c.in-Some-2.head c.in-Ok.rest c.in-Err-read_body.fault
    (given_there c.in_ok-size.field-0 c.in-Some.size (Given (g.S.Source.left c.args.source.now) (g.S.Source.left c.fill_front.new.source) c.args.inbox.now (λ given. given ≡ c.fill_front.new.inbox)) c.in-Some.is c.in_ok-size.ensures.given)
    (front_there c.fill_front.new.inbox c.in_ok-size.field-0 c.in-Some.size c.in-Some.is c.in_ok-size.ensures.front)
    (head_there (take c.in-Some.size c.as_slice.result.now) (take c.in-Some.size c.fill_front.new.inbox) c.in_ok-head.field-0 c.in-Some-2.head (ap (take c.in-Some.size) c.as_slice.ensures) c.in-Some-2.is c.in_ok-head.ensures)
    (sym c.body_len.ensures ∙ c.in-Ok.is)
    (subst F c.skip.ensures c.in-Err-read_body.ensures.fault)

pub returns-in-Err-read_body-clause-alone : goal.returns-in-Err-read_body-clause-alone
returns-in-Err-read_body-clause-alone g c request after begins =
    let at = front_of c.args.inbox.now request after begins in
    let same = c.in_ok-size.ensures.alone at.0 at.1 in
    c.in-Err-read_body.ensures.alone
    (body_there c.args.inbox.now c.fill_front.new.inbox c.skip.new.self request after c.in-Some.size c.in-Some-2.head c.in-Ok.rest begins same.1
    (front_there c.fill_front.new.inbox c.in_ok-size.field-0 c.in-Some.size c.in-Some.is c.in_ok-size.ensures.front)
    (head_there (take c.in-Some.size c.as_slice.result.now) (take c.in-Some.size c.fill_front.new.inbox) c.in_ok-head.field-0 c.in-Some-2.head (ap (take c.in-Some.size) c.as_slice.ensures) c.in-Some-2.is c.in_ok-head.ensures)
    (sym c.body_len.ensures ∙ c.in-Ok.is)
    c.skip.ensures)
    ∙ same.0

pub returns-clause-alone : goal.returns-clause-alone
returns-clause-alone g c request after begins =
    let at = front_of c.args.inbox.now request after begins in
    let same = c.in_ok-size.ensures.alone at.0 at.1 in
    c.in-Ok-read_body.ensures.alone
    (body_there c.args.inbox.now c.fill_front.new.inbox c.skip.new.self request after c.in-Some.size c.in-Some-2.head c.in-Ok.rest begins same.1
    (front_there c.fill_front.new.inbox c.in_ok-size.field-0 c.in-Some.size c.in-Some.is c.in_ok-size.ensures.front)
    (head_there (take c.in-Some.size c.as_slice.result.now) (take c.in-Some.size c.fill_front.new.inbox) c.in_ok-head.field-0 c.in-Some-2.head (ap (take c.in-Some.size) c.as_slice.ensures) c.in-Some-2.is c.in_ok-head.ensures)
    (sym c.body_len.ensures ∙ c.in-Ok.is)
    c.skip.ensures)
    ∙ same.0

pub returns-in-Err-clause-alone : goal.returns-in-Err-clause-alone
returns-in-Err-clause-alone g c request after begins = let at = front_of c.args.inbox.now request after begins in (c.in_ok-size.ensures.alone at.0 at.1).0

pub returns-in_err-size-clause-alone : goal.returns-in_err-size-clause-alone
returns-in_err-size-clause-alone g c request after begins = let at = front_of c.args.inbox.now request after begins in (c.in_err-size.ensures.alone at.0 at.1).0

pub returns-in_default-clause-alone : goal.returns-in_default-clause-alone
returns-in_default-clause-alone g c request after begins = let at = front_of c.args.inbox.now request after begins in (c.in_ok-size.ensures.alone at.0 at.1).0

pub returns-in_err-head-clause-alone : goal.returns-in_err-head-clause-alone
returns-in_err-head-clause-alone g c request after begins = let at = front_of c.args.inbox.now request after begins in (c.in_ok-size.ensures.alone at.0 at.1).0

pub returns-in_default-2-clause-alone : goal.returns-in_default-2-clause-alone
returns-in_default-2-clause-alone g c request after begins = let at = front_of c.args.inbox.now request after begins in (c.in_ok-size.ensures.alone at.0 at.1).0

pub returns-in_default-2-clause-arrives : goal.returns-in_default-2-clause-arrives
returns-in_default-2-clause-arrives g c =
    arrives_no_head (g.S.Source.left c.args.source.now) (g.S.Source.left c.fill_front.new.source) c.args.inbox.now c.fill_front.new.inbox c.in-Some.size
    (same_rest (g.S.Source.left c.args.source.now) (g.S.Source.left c.fill_front.new.source) c.args.inbox.now c.fill_front.new.inbox c.in_ok-size.field-0 c.in-Some.size c.in-Some.is c.in_ok-size.ensures.fills)
    (front_there c.fill_front.new.inbox c.in_ok-size.field-0 c.in-Some.size c.in-Some.is c.in_ok-size.ensures.front)
    (no_head_there (take c.in-Some.size c.as_slice.result.now) (take c.in-Some.size c.fill_front.new.inbox) c.in_ok-head.field-0 (ap (take c.in-Some.size) c.as_slice.ensures) c.in_default-2.is c.in_ok-head.ensures)

pub returns-in-Err-read_body-clause-paced : goal.returns-in-Err-read_body-clause-paced
returns-in-Err-read_body-clause-paced g c =
    paced_body (g.S.Source.left c.args.source.now) (g.S.Source.left c.fill_front.new.source) (g.S.Source.left c.read_body.new.source) c.args.inbox.now c.fill_front.new.inbox c.skip.new.self c.in-Some.size c.in-Some-2.head c.in-Ok.rest
    (given_there c.in_ok-size.field-0 c.in-Some.size (Given (g.S.Source.left c.args.source.now) (g.S.Source.left c.fill_front.new.source) c.args.inbox.now (λ given. given ≡ c.fill_front.new.inbox)) c.in-Some.is c.in_ok-size.ensures.given)
    c.in_ok-size.ensures.paced
    (front_there c.fill_front.new.inbox c.in_ok-size.field-0 c.in-Some.size c.in-Some.is c.in_ok-size.ensures.front)
    (head_there (take c.in-Some.size c.as_slice.result.now) (take c.in-Some.size c.fill_front.new.inbox) c.in_ok-head.field-0 c.in-Some-2.head (ap (take c.in-Some.size) c.as_slice.ensures) c.in-Some-2.is c.in_ok-head.ensures)
    (sym c.body_len.ensures ∙ c.in-Ok.is)
    c.skip.ensures
    c.in-Err-read_body.ensures.paced

pub returns-clause-paced : goal.returns-clause-paced
returns-clause-paced g c =
    paced_body (g.S.Source.left c.args.source.now) (g.S.Source.left c.fill_front.new.source) (g.S.Source.left c.read_body.new.source) c.args.inbox.now c.fill_front.new.inbox c.skip.new.self c.in-Some.size c.in-Some-2.head c.in-Ok.rest
    (given_there c.in_ok-size.field-0 c.in-Some.size (Given (g.S.Source.left c.args.source.now) (g.S.Source.left c.fill_front.new.source) c.args.inbox.now (λ given. given ≡ c.fill_front.new.inbox)) c.in-Some.is c.in_ok-size.ensures.given)
    c.in_ok-size.ensures.paced
    (front_there c.fill_front.new.inbox c.in_ok-size.field-0 c.in-Some.size c.in-Some.is c.in_ok-size.ensures.front)
    (head_there (take c.in-Some.size c.as_slice.result.now) (take c.in-Some.size c.fill_front.new.inbox) c.in_ok-head.field-0 c.in-Some-2.head (ap (take c.in-Some.size) c.as_slice.ensures) c.in-Some-2.is c.in_ok-head.ensures)
    (sym c.body_len.ensures ∙ c.in-Ok.is)
    c.skip.ensures
    c.in-Ok-read_body.ensures.paced
