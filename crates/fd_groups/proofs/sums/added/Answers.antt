use Rattle.std.proofs.Common.{rules}
use Rattle.fd_groups.proofs.sums.added.Goals as goal

pub returns-in_ok-sum-in-Some : goal.returns-in_ok-sum-in-Some
returns-in_ok-sum-in-Some g c = record { rising = search rules; each = search rules }
