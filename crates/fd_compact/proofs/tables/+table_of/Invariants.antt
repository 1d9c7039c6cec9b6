use Rattle.std.proofs.Common.{length}
use Rattle.fd_compact.proofs.tables.+table_of.Given as goal

abbrev pub decreases-table_of : goal.decreases-table_of
decreases-table_of l = length l.parts.now
