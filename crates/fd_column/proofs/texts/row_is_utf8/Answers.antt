use Rattle.std.proofs.Common.{subst}
use Rattle.std.specs.Prelude.{All, IsUtf8}
use Rattle.fd_column.specs.Texts.{IsTextPair}
use Rattle.fd_column.proofs.texts.row_is_utf8.Goals as goal

pub returns : goal.returns
returns c = record {
  name = c.text_is_utf8.ensures;
  sample_type = c.text_is_utf8-2.ensures;
  sample_unit = c.text_is_utf8-3.ensures;
  period_type = c.text_is_utf8-4.ensures;
  period_unit = c.text_is_utf8-5.ensures;
  labels = subst (All IsTextPair) c.as_slice.ensures c.pairs_are_utf8.ensures;
  stack = subst (All IsUtf8) c.as_slice-2.ensures c.texts_are_utf8.ensures;
  pprof_labels = subst (All IsTextPair) c.as_slice-3.ensures c.pairs_are_utf8-2.ensures;
}
