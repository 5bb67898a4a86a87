use Rattle.requests.specs.declared.route.Route.TheVariants.{Read, Trim}
use Rattle.answering.proofs.demands.demand_of.Goals as goal

pub returns-in-Read-clause-asks : goal.returns-in-Read-clause-asks
returns-in-Read-clause-asks c =
    let request = c.args.request.now in
    rw c.in-Read.is (c.demand_of_one.ensures.asks Read request.tenant.now request.body.now c.call_of_read.ensures.asks)

pub returns-in-Trim-clause-asks : goal.returns-in-Trim-clause-asks
returns-in-Trim-clause-asks c =
    let request = c.args.request.now in
    rw c.in-Trim.is (c.demand_of_one-in-Trim.ensures.asks Trim request.tenant.now request.body.now c.call_of_trim.ensures.asks)
