use Rattle.std.proofs.Common.{sym, subst}
use Rattle.fd_thrift.specs.Format.{IsLegal}
use Rattle.fd_footer.proofs.Legality.{footer_is_legal}
use Rattle.fd_footer.proofs.writer.write_footer.Goals as goal

pub write-requires : goal.write-requires
write-requires c = subst IsLegal (sym c.in_ok-tree.ensures) (footer_is_legal c.args.footer.now)
