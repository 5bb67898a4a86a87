use Rattle.std.proofs.Common.{◌≡◌, ◌+◌, ◌≤◌, [], ◌∷◌, ◌++◌, false, length, refl, sym, ap, ◌∙◌, subst, arith}
use Rattle.std.specs.VecDeque.{deque_len}
use Rattle.atomic_table.specs.Seated.{TableId}
use Rattle.history.specs.Histories.{max_open}
use Rattle.history.specs.Plays.{ask_of, before_of}
use Rattle.history.specs.Handles.{Announced, Passed}
use Rattle.shard.specs.declared.first_jobs.Job.{Job}
use Rattle.owners.specs.declared.routes.ShardRoute.{ShardRoute}
use Rattle.owners.specs.Openings.{home_of}
use Rattle.owners.specs.Routes.{IsIdleRoute, IsLoaded}
use Rattle.ingester.specs.Calls.{shard_for}
use Rattle.ingester.specs.Settling.{IsSettled}
use Rattle.ingester.proofs.Batching.{job_of}
use Rattle.ingester.proofs.Passing.{loaded_call, settled_call}
use Rattle.ingester.proofs.opened.Ingester.call_by_route.Goals as goal

pub make_call-requires-clause-route : goal.make_call-requires-clause-route
make_call-requires-clause-route g c =
    let now = c.args.self.now in
    let was = c.args.pass.now in
    let k = shard_for was.caller c.args.call in
    let job : Job = record { ticket = c.in-Ok.ticket; call = c.args.call } in
    let table = sym c.self.invariant.is_opening.same_table ∙ ap (λ o. o.table) c.self.view_is in
    let job_is : job ≡ job_of now.table now.about was.caller c.args.call = ap (λ (t : Announced). record { ticket = t; call = c.args.call }) (c.in-Ok.ensures.ticket ∙ ap (λ (t : TableId). record { table = t; ask = ask_of was.caller (was.caller.last + 1) c.args.call; doubted = false; before = before_of was.caller (was.caller.last + 1) c.args.call }) table) in
    let room = c.make_room.ensures in
    let none : c.make_room.new.self.jobs.items ≡ [] = room.jobs ∙ c.requires.route.message.jobs in
    let are : c.push_back_reserved.new.self.items ≡ job ∷ [] = c.push_back_reserved.ensures.items ∙ ap (λ l. l ++ job ∷ []) none in
    let many = ap length are in
    let counted = c.push_back_reserved.new.self.ok.0 in
    let few : deque_len c.push_back_reserved.new.self ≤ max_open = omega arith in
    let route : ShardRoute = record {
      message = record { pass = c.make_room.new.self.pass; jobs = c.push_back_reserved.new.self; settled = c.make_room.new.self.settled };
      is_out = c.args.route.now.is_out;
      is_full = c.args.route.now.is_full;
      orders = c.args.route.now.orders;
      answers = c.args.route.now.answers;
    } in
    let loaded = loaded_call now was c.args.call job c.args.route.now route c.requires.pass c.requires.open c.requires.numbers c.requires.route job_is are (record { pass = room.pass; settled = room.settled; orders = refl; answers = refl }) few in
    let same : c.announce.new.pass.caller.pass ≡ was.caller.pass = ap (λ (p : Passed). p.caller.pass) c.in-Ok.ensures.pass in
    (k, subst (λ p. IsLoaded (home_of now) p k route) (sym same) loaded)

pub returns-clause-route : goal.returns-clause-route
returns-clause-route g c =
    let now = c.args.self.now in
    let was = c.args.pass.now in
    let k = shard_for was.caller c.args.call in
    let job : Job = record { ticket = c.in-Ok.ticket; call = c.args.call } in
    let table = sym c.self.invariant.is_opening.same_table ∙ ap (λ o. o.table) c.self.view_is in
    let job_is : job ≡ job_of now.table now.about was.caller c.args.call = ap (λ (t : Announced). record { ticket = t; call = c.args.call }) (c.in-Ok.ensures.ticket ∙ ap (λ (t : TableId). record { table = t; ask = ask_of was.caller (was.caller.last + 1) c.args.call; doubted = false; before = before_of was.caller (was.caller.last + 1) c.args.call }) table) in
    let room = c.make_room.ensures in
    let none : c.make_room.new.self.jobs.items ≡ [] = room.jobs ∙ c.requires.route.message.jobs in
    let are : c.push_back_reserved.new.self.items ≡ job ∷ [] = c.push_back_reserved.ensures.items ∙ ap (λ l. l ++ job ∷ []) none in
    let many = ap length are in
    let counted = c.push_back_reserved.new.self.ok.0 in
    let few : deque_len c.push_back_reserved.new.self ≤ max_open = omega arith in
    let route : ShardRoute = record {
      message = record { pass = c.make_room.new.self.pass; jobs = c.push_back_reserved.new.self; settled = c.make_room.new.self.settled };
      is_out = c.args.route.now.is_out;
      is_full = c.args.route.now.is_full;
      orders = c.args.route.now.orders;
      answers = c.args.route.now.answers;
    } in
    let loaded = loaded_call now was c.args.call job c.args.route.now route c.requires.pass c.requires.open c.requires.numbers c.requires.route job_is are (record { pass = room.pass; settled = room.settled; orders = refl; answers = refl }) few in
    let same : c.announce.new.pass.caller.pass ≡ was.caller.pass = ap (λ (p : Passed). p.caller.pass) c.in-Ok.ensures.pass in
    subst (λ p. IsIdleRoute (home_of now) p k c.make_call.new.route) same (c.make_call.ensures.route k (subst (λ p. IsLoaded (home_of now) p k route) (sym same) loaded))

pub returns-clause-given : goal.returns-clause-given
returns-clause-given g c =
    let now = c.args.self.now in
    (settled_call now c.args.pass.now c.make_call.new.pass c.args.call c.make_call.result c.requires.pass c.requires.open (subst (λ p. IsSettled p c.make_call.new.pass c.make_call.result) c.in-Ok.ensures.pass c.make_call.ensures.settled)).given

pub returns-clause-pass : goal.returns-clause-pass
returns-clause-pass g c =
    let now = c.args.self.now in
    (settled_call now c.args.pass.now c.make_call.new.pass c.args.call c.make_call.result c.requires.pass c.requires.open (subst (λ p. IsSettled p c.make_call.new.pass c.make_call.result) c.in-Ok.ensures.pass c.make_call.ensures.settled)).pass

pub returns-clause-own : goal.returns-clause-own
returns-clause-own g c =
    let now = c.args.self.now in
    (settled_call now c.args.pass.now c.make_call.new.pass c.args.call c.make_call.result c.requires.pass c.requires.open (subst (λ p. IsSettled p c.make_call.new.pass c.make_call.result) c.in-Ok.ensures.pass c.make_call.ensures.settled)).own
