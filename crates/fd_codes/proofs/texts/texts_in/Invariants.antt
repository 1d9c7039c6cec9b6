use Rattle.std.proofs.Common.{map}
use Rattle.fd_codes.proofs.TextLaws.{Reads}
use Rattle.fd_codes.proofs.texts.texts_in.Given as goal

abbrev pub invariant-loop : goal.invariant-loop
invariant-loop l = Reads l.count l.counter l.bytes (map (λ t. t.now) l.texts) l.rest
