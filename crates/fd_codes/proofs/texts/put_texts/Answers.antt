use Rattle.std.proofs.Common.{◌^◌}
use Rattle.fd_codes.proofs.TextLaws.{body_none, text_fits, put_more}
use Rattle.fd_codes.proofs.texts.put_texts.Goals as goal

pub loop-text-init : goal.loop-text-init
loop-text-init c = body_none c.args.out.now

pub put_sized-requires : goal.put_sized-requires
put_sized-requires c = text_fits c.args.texts.now (λ t. t.now) c.loop-text.text-index _ (2 ^ 32) c.requires c.loop-text-test.true

pub loop-text-preserved : goal.loop-text-preserved
loop-text-preserved c =
    put_more c.args.texts.now (λ t. t.now) c.loop-text.text-index _ c.args.out.now c.loop-text.out c.put_sized.new.out c.loop-text-test.true c.loop-text.invariant c.in_ok-put_sized.ensures
