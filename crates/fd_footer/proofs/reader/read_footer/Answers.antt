use Rattle.std.proofs.Common.{Err, sym, subst, ap, ◌∙◌}
use Rattle.fd_thrift.specs.Values.{Value}
use Rattle.fd_thrift.specs.View.{view}
use Rattle.fd_footer.specs.declared.fault.FooterFault.TheVariants.{Footer}
use Rattle.fd_footer.specs.Shapes.{has_shape}
use Rattle.fd_footer.specs.Reader.{AnswersTable}
use Rattle.fd_footer.proofs.ColumnCounts.{columns_few}
use Rattle.fd_footer.proofs.TableColumns.{own_read}
use Rattle.fd_footer.proofs.reader.read_footer.Goals as goal

pub returns-clause-only : goal.returns-clause-only
returns-clause-only c = λ v spelled. subst (λ (w : Value). AnswersTable w c.tabled.result) (sym (c.in_ok-tree.ensures.one v spelled)) c.tabled.ensures

pub returns-clause-footer : goal.returns-clause-footer
returns-clause-footer c = λ e v spelled.
    let told : AnswersTable (view c.in_ok-tree.tree) (Err Footer) = subst (AnswersTable (view c.in_ok-tree.tree)) e c.tabled.ensures in
    ap has_shape (c.in_ok-tree.ensures.one v spelled) ∙ told

pub returns-clause-own : goal.returns-clause-own
returns-clause-own c = own_read (view c.in_ok-tree.tree) c.tabled.result c.tabled.ensures

pub returns-clause-few : goal.returns-clause-few
returns-clause-few c = columns_few c.args.bytes.now (view c.in_ok-tree.tree) c.tabled.result c.in_ok-tree.ensures.found c.tabled.ensures
