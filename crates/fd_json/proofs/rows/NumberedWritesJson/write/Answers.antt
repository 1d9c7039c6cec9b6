use Rattle.std.proofs.lemmas.Result.{on_ok_weaker}
use Rattle.fd_json.proofs.TokenSteps.{adds_then}
use Rattle.fd_json.proofs.rows.NumberedWritesJson.write.Goals as goal

pub returns : goal.returns
returns c =
    on_ok_weaker c.end_object.result
    (λ last. adds_then _ _ _ _ _ c.in_ok-begin_object.ensures
    (adds_then _ _ _ _ _ c.in_ok-member.ensures
    (adds_then _ _ _ _ _ c.in_ok-member-2.ensures
    (adds_then _ _ _ _ _ c.in_ok-member-3.ensures
    (adds_then _ _ _ _ _ c.in_ok-member-4.ensures
    (adds_then _ _ _ _ _ c.in_ok-member-5.ensures
    (adds_then _ _ _ _ _ c.in_ok-member-6.ensures
    (adds_then _ _ _ _ _ c.in_ok-member-7.ensures
    (adds_then _ _ _ _ _ c.in_ok-member-8.ensures
    (adds_then _ _ _ _ _ c.in_ok-member-9.ensures
    (adds_then _ _ _ _ _ c.in_ok-member-10.ensures
    (adds_then _ _ _ _ _ c.in_ok-member-11.ensures
    (adds_then _ _ _ _ _ c.in_ok-member-12.ensures
    (adds_then _ _ _ _ _ c.in_ok-member-13.ensures last)))))))))))))) c.end_object.ensures
