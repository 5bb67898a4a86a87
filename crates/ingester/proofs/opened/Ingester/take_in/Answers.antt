use Rattle.ingester.proofs.opened.Ingester.take_in.Goals as goal

pub returns-in-GivenBack-clause-taken : goal.returns-in-GivenBack-clause-taken
returns-in-GivenBack-clause-taken g c =
    record {
      first = c.in-GivenBack.ticket.ask;
      is_first = c.withdraw.ensures.first;
      by = record { cause = c.in-GivenBack.fault; fault_is = c.fault_of.ensures; pass = c.withdraw.ensures.pass };
    }
