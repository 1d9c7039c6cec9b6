use Rattle.fd_hybrid.proofs.RunWrites.{packed_put}
use Rattle.fd_hybrid.proofs.packer.push_packed.Goals as goal

pub returns-clause-run : goal.returns-clause-run
returns-clause-run c =
    packed_put c.args.width c.group_count_of-groups.result c.args.out.now c.push_varint.new.out c.push_groups.new.out c.args.values.now c.in_ok-rest.rest.now c.requires.some
    c.requires.few c.group_count_of-groups.ensures c.in_ok-push_varint.ensures c.in_ok-rest.ensures
