use Rattle.std.proofs.Common.{refl, sym, ap, ◌∙◌}
use Rattle.owners.specs.Openings.{Opening}
use Rattle.ingester.proofs.opened.Ingester.join.Goals as goal

pub announce-requires-clause-table : goal.announce-requires-clause-table
announce-requires-clause-table g c = c.requires.table ∙ sym (sym c.self.invariant.is_opening.same_table ∙ ap (λ (o : Opening g.row.D.Denot). o.table) c.self.view_is)

pub push_back_reserved-requires : goal.push_back_reserved-requires
push_back_reserved-requires g c = c.make_room.ensures.room c.if-not-make_room.false

pub returns-clause-fits : goal.returns-clause-fits
returns-clause-fits g c = c.number-number.type_inv

pub returns-clause-not : goal.returns-clause-not
returns-clause-not g c = c.in-Some.ensures.cases

pub returns-clause-capacity : goal.returns-clause-capacity
returns-clause-capacity g c = c.in-Some.ensures.capacity

pub returns-clause-rest : goal.returns-clause-rest
returns-clause-rest g c = record { pass = c.make_room.ensures.pass; settled = c.make_room.ensures.settled; orders = refl; answers = refl }
