use Rattle.std.proofs.Common.{arith}
use Rattle.std.proofs.lemmas.Grind.{common_steps}
use Rattle.fd_http.proofs.FrontSteps.{text_push, blank_push}
use Rattle.fd_http.proofs.front.FrontSearch.see.Goals as goal

pub returns-then-self-2-clause-found : goal.returns-then-self-2-clause-found
returns-then-self-2-clause-found c seen is = grind (arith, common_steps, is.text, is.line, text_push seen c.args.byte, blank_push seen c.args.byte)

pub returns-else-self-2-clause-found : goal.returns-else-self-2-clause-found
returns-else-self-2-clause-found c seen is = grind (arith, common_steps, is.text, is.line, text_push seen c.args.byte, blank_push seen c.args.byte)
