-- The routes of a pass, seen from its opening; and what comes of its only call.
use Rattle.std.proofs.Common.{◌≡◌, ℕ, ◌+◌, ◌≤◌, true, false, List, [], ◌∷◌, inl, inr, refl, sym, ap, ◌∙◌, subst}
use Rattle.std.specs.Prelude.{Result}
use Rattle.std.proofs.lemmas.Bool.{false≢true}
use Rattle.accept.specs.declared.call.Call.{Call}
use Rattle.std.specs.VecDeque.{deque_len}
use Rattle.accept.specs.Calls.{AreNumbers}
use Rattle.accept.specs.declared.call.Reply.{Reply}
use Rattle.accept.specs.declared.history.Ask.{Ask}
use Rattle.history.specs.declared.views.About.{About}
use Rattle.history.specs.Histories.{asks_on, max_open, shard_in}
use Rattle.history.specs.Plays.{ask_of}
use Rattle.history.specs.Handles.{Passed, is_closed_pass}
use Rattle.keyed.specs.Queues.{sends_to, receives_as}
use Rattle.shard.specs.declared.first_jobs.Job.{Job}
use Rattle.owners.specs.Calls.{IsBatch}
use Rattle.owners.specs.declared.routes.ShardRoute.{ShardRoute}
use Rattle.owners.specs.Homes.{Homed, home_at}
use Rattle.owners.specs.Lists.{AreEach}
use Rattle.owners.specs.Openings.{Opening, home_of}
use Rattle.owners.specs.QueueEnds.{IsSeatAt}
use Rattle.owners.specs.Routes.{AreIdleRoutes, IsIdleRoute, IsLoaded, HasSameRest}
use Rattle.owners.proofs.Each.{each_of}
use Rattle.accept.specs.declared.fault.CallFault.{CallFault}
use Rattle.ingester.specs.Batches.{HasIdleRoutes}
use Rattle.ingester.specs.Calls.{IsPassOf, IsGiven, shard_for, with_next}
use Rattle.ingester.specs.Openings.{AreFresh}
use Rattle.ingester.specs.Passes.{HasRoutes}
use Rattle.ingester.specs.Settling.{IsSettled}
use Rattle.ingester.proofs.Batching.{job_of}
use Rattle.ingester.proofs.Chaining.{idle_of, taken_next, all_lost}
use Rattle.ingester.proofs.Receiving.{taken_behind, is_taken_back}

module _ {D : Type 0} (opening : Opening D) where
  pub same_home : (pass : Passed) → IsPassOf opening pass → home_at pass ≡ home_of opening
  same_home pass is = λ i. record { table = is.table i; about = is.about i }

  pub idle_routes : (pass : Passed) (routes : List ShardRoute) → IsPassOf opening pass → HasRoutes pass routes → HasIdleRoutes opening pass.caller.pass routes
  idle_routes pass routes is h = record {
    idle = subst (λ home. AreIdleRoutes home pass.caller.pass routes) (same_home pass is) h.idle;
    count = h.count ∙ ap (λ (a : About). a.shards) is.about;
  }

  pub routes_back : (new : Passed) (p : ℕ) (routes : List ShardRoute) → IsPassOf opening new → new.caller.pass ≡ p → HasIdleRoutes opening p routes → HasRoutes new routes
  routes_back new p routes is own h = record {
    idle = subst (λ (z : Homed × ℕ). AreIdleRoutes z.0 z.1 routes) (λ i. (sym (same_home new is) i, sym own i)) h.idle;
    count = h.count ∙ ap (λ (a : About). a.shards) (sym is.about);
  }

  pub fresh_seats : (n : ℕ) (passes : List Passed) → AreFresh opening n passes → AreEach (IsSeatAt (home_of opening)) 0 passes
  fresh_seats n passes h = each_of (IsSeatAt (home_of opening)) passes (λ p pass at. let e = h.fresh p pass at in record { of = ap home_at e; number = ap (λ (x : Passed). x.caller.pass) e })

  -- what came of a call, as its pass made it
  pub record IsMadeCall (old : Passed) (call : Call) (r : Result Reply CallFault) (new : Passed) : Type 0 where
    pub given : IsGiven old call r new
    pub pass : IsPassOf opening new
    pub own : new.caller.pass ≡ old.caller.pass

  pub settled_call : (old new : Passed) (call : Call) (r : Result Reply CallFault) → IsPassOf opening old → is_closed_pass old ≡ false → IsSettled (with_next old call) new r → IsMadeCall old call r new
  settled_call old new call r is up (inl taken) =
      let done = taken_next opening old new call r is up taken in
      record { given = done.given; pass = done.pass; own = (taken_behind opening (with_next old call) new r taken).pass }
  settled_call old new call r is up (inr lost) =
      let given = all_lost opening old (with_next old call) lost.mid new call [] is (up, refl) lost.back lost.closed in
      let same = is_taken_back opening (with_next old call) lost.mid lost.back in
      record {
        given = subst (λ (z : Result Reply CallFault × Passed). IsGiven old call z.0 z.1) (λ i. (sym lost.doubt i, sym given.2 i)) given.1;
        pass = subst (IsPassOf opening) (sym lost.closed) (record { table = same.table ∙ is.table; about = same.about ∙ is.about; idle = λ (e : true ≡ false). absurd (false≢true (sym e)) });
        own = ap (λ (p : Passed). p.caller.pass) lost.closed ∙ same.pass;
      }

  -- the route with the next call of a pass in its message
  pub loaded_call : (was : Passed) (call : Call) (job : Job) (old route : ShardRoute) → IsPassOf opening was → is_closed_pass was ≡ false → AreNumbers call
      → IsIdleRoute (home_of opening) was.caller.pass (shard_for was.caller call) old → job ≡ job_of opening.table opening.about was.caller call → route.message.jobs.items ≡ job ∷ []
      → HasSameRest old route → deque_len route.message.jobs ≤ max_open → IsLoaded (home_of opening) was.caller.pass (shard_for was.caller call) route
  loaded_call was call job old route is up numbers idle job_is jobs rest few =
      let k = shard_for was.caller call in
      let a : Ask = ask_of was.caller (was.caller.last + 1) call in
      record {
        ready = record { pass = rest.pass ∙ idle.message.pass; settled = rest.settled ∙ idle.message.settled; orders = ap sends_to rest.orders ∙ idle.orders; answers = ap receives_as rest.answers ∙ idle.answers };
        batch = subst (IsBatch opening.table opening.about k was.caller.pass) (sym (jobs ∙ ap (λ (j : Job). j ∷ []) job_is)) (record {
          waiting = (record { ticket = record { same_table = refl; sure = refl }; shard = λ i. shard_in (sym is.about i) a; call = refl; numbers = numbers }, tt);
          pass = (refl, tt);
          line = (ap (λ (l : List Ask). asks_on was.caller.about (shard_in was.caller.about a) l) (idle_of opening was is up), tt);
        });
        few = few;
      }
