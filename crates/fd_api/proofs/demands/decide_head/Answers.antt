use Rattle.std.proofs.Common.{ap, ◌∙◌, subst, IfOk}
use Rattle.fd_api.specs.Demands.{AsksRoute, Knows}
use Rattle.fd_api.specs.Routes.{route_of}
use Rattle.fd_api.specs.Targets.{path_of}
use Rattle.fd_api.proofs.demands.decide_head.Goals as goal

pub returns : goal.returns
returns c =
    subst (λ route. IfOk c.decide_route.result (Knows (AsksRoute route c.args.request.now) c.args.request.now))
    (c.in_ok-route.ensures ∙ ap route_of (c.split_target.ensures.path ∙ ap path_of c.as_str.ensures))
    c.decide_route.ensures
