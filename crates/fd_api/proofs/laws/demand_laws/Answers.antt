use Rattle.fd_api.proofs.DemandLaws.{one_demand}
use Rattle.fd_api.proofs.laws.demand_laws.Goals as goal

pub returns : goal.returns
returns c = record {
  one = one_demand c.batch_laws.ensures.one c.selector_laws.ensures.one_selector c.selector_laws.ensures.one_refusal c.selector_laws.ensures.apart;
}
