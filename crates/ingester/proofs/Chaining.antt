-- Calls that a pass announces together, and whose answers it takes in one after another: as if each had been made alone.
use Rattle.std.proofs.Common.{◌≡◌, ℕ, suc, ◌+◌, ◌≤◌, Bool, List, [], ◌∷◌, ◌++◌, true, false, length, inl, inr, refl, sym, ap, ◌∙◌, subst, arith}
use Rattle.std.specs.Prelude.{◌||◌, Result, Ok, Err}
use Rattle.std.specs.Result.{IsErrOf}
use Rattle.std.proofs.lemmas.Bool.{false≢true}
use Rattle.accept.specs.declared.call.Call.{Call}
use Rattle.accept.specs.declared.call.Reply.{Reply}
use Rattle.accept.specs.declared.history.Ask.{Ask}
use Rattle.accept.specs.declared.history.Item.{Item}
use Rattle.accept.specs.declared.history.Step.{Step}
use Rattle.history.specs.declared.views.Caller.{Caller}
use Rattle.history.specs.Histories.{IsLegalAt, IsByPasses, IsFirst, behind_first, step_of}
use Rattle.history.specs.Plays.{seen_at, ask_of, announce_to, withdraw_to, collect_to, Extends, IsRested}
use Rattle.history.specs.Handles.{Passed, is_closed_pass}
use Rattle.shard.specs.declared.fault.ApplyFault.{ApplyFault}
use Rattle.shard.specs.declared.fault.ApplyFault.TheVariants.{Memory, GenerationSpent}
use Rattle.owners.specs.Openings.{Opening}
use Rattle.accept.specs.Doubts.{is_doubt}
use Rattle.accept.specs.declared.fault.CallFault.{CallFault}
use Rattle.accept.specs.declared.fault.CallFault.TheVariants as faults
use Rattle.ingester.specs.Faults.{fault_of}
use Rattle.ingester.specs.Calls.{IsPassOf, IsRefused, IsGiven, AreGivenAfter, AreGiven, next_step, shard_for, without_next, with_next, closed_now}
use Rattle.ingester.specs.Batches.{IsTakenBack, doubts, AreAnnounced, IsCollected, IsWithdrawn, IsTakenBy, IsTaken, AreTaken}
use Rattle.ingester.proofs.Refusing.{first_only}

behind_more : (qs : List Ask) (a b : Ask) → IsFirst a qs → behind_first (qs ++ b ∷ []) ≡ behind_first qs ++ b ∷ []
behind_more [] a b h = absurd h
behind_more (c ∷ qs) a b h = refl

first_more : (qs : List Ask) (a b : Ask) → IsFirst a qs → IsFirst a (qs ++ b ∷ [])
first_more [] a b h = absurd h
first_more (c ∷ qs) a b h = h

first_still : (qs : List Ask) (x a b : Ask) → IsFirst x qs → IsFirst a (qs ++ b ∷ []) → IsFirst a qs
first_still [] x a b is h = absurd is
first_still (c ∷ qs) x a b is h = h

first_alone : (qs : List Ask) (a : Ask) → qs ≡ [] → IsFirst a (qs ++ a ∷ [])
first_alone qs a none = subst (λ (l : List Ask). IsFirst a (l ++ a ∷ [])) (sym none) refl

-- one call more is announced
pub announced_more : (old mid new : Passed) (calls : List Call) (call : Call) → AreAnnounced old calls mid → is_closed_pass mid ≡ false → new ≡ with_next mid call → AreAnnounced old (calls ++ call ∷ []) new
announced_more old mid new [] call a up is = (ap is_closed_pass (sym a) ∙ up, is ∙ ap (λ (p : Passed). with_next p call) a)
announced_more old mid new (c ∷ calls) call a up is = (a.0, announced_more (with_next old c) mid new calls call a.1 up is)

-- a pass that is not closed waits for no answer
not_closed_open : (b c : Bool) → (b || c) ≡ false → b ≡ false
not_closed_open false c e = refl
not_closed_open true c e = absurd (false≢true (sym e))

pub idle_of : {D : Type 0} (opening : Opening D) (old : Passed) → IsPassOf opening old → is_closed_pass old ≡ false → old.caller.pending ≡ []
idle_of opening old is up = is.idle (not_closed_open old.closed _ up)

pub refused_as : (cause : ApplyFault) (fault : CallFault) (old new : Passed) (call : Call) → fault ≡ fault_of cause → new ≡ without_next old → IsRefused old call new fault
refused_as Memory fault old new call e is = subst (IsRefused old call new) (sym e) is
refused_as GenerationSpent fault old new call e is = subst (IsRefused old call new) (sym e) is

pub not_closed : (cause : ApplyFault) (fault : CallFault) → fault ≡ fault_of cause → IsErrOf {T = Reply} {E = CallFault} (Err fault) faults.PassClosed → ⊥
not_closed Memory fault e is = let one : Err fault ≡ Err faults.PassClosed = is in cc
not_closed GenerationSpent fault e is = let one : Err fault ≡ Err faults.PassClosed = is in cc

not_refused : (reply : Reply) (fault : CallFault) → IsErrOf {T = Reply} {E = CallFault} (Ok reply) fault → ⊥
not_refused reply fault is = let one : Ok reply ≡ Err fault = is in cc

module _ {D : Type 0} (opening : Opening D) where
  -- one answer more is taken in
  pub taken_more : (old mid new : Passed) (rs : List (Result Reply CallFault)) (r : Result Reply CallFault) → AreTaken old rs mid → IsTaken mid new r → AreTaken old (rs ++ r ∷ []) new
  taken_more old mid new [] r a h = (new, subst (λ (p : Passed). IsTaken p new r) a h, refl)
  taken_more old mid new (s ∷ rs) r a h = (a.0, a.1, taken_more a.0 mid new rs r a.2 h)

  -- a call that is announced before an answer is taken in might as well be announced after it
  taken_before : (old new : Passed) (call : Call) (x : Ask) (r : Result Reply CallFault) → IsFirst x old.caller.pending → IsTaken (with_next old call) new r → (mid : Passed) × IsTaken old mid r × (new ≡ with_next mid call) × (is_closed_pass mid ≡ is_closed_pass old)
  taken_before old new call x (Ok reply) is h =
      let a : Ask = ask_of old.caller (old.caller.last + 1) call in
      let here = first_still old.caller.pending x h.first a is h.is_first in
      let s : Step = step_of h.first reply in
      let by : IsCollected (with_next old call) new h.first reply = h.by in
      let seen = by.seen in
      let c : Caller = collect_to old.caller s by.upto in (
        record { table = old.table; caller = c; closed = old.closed },
        record {
          first = h.first;
          is_first = here;
          by = record {
            upto = by.upto;
            pass = refl;
            seen = record { seen = seen.seen; extends = seen.extends; legal = seen.legal; by_passes = seen.by_passes; others = seen.others };
            rested = by.rested;
          };
        },
        by.pass ∙ (λ i. record {
          table = old.table;
          caller = record { about = c.about; pass = c.pass; last = c.last + 1; seen = c.seen; made = c.made; withdrawn = c.withdrawn; pending = behind_more old.caller.pending x a is i };
          closed = old.closed;
        }),
        refl,
      )
  taken_before old new call x (Err fault) is h =
      let a : Ask = ask_of old.caller (old.caller.last + 1) call in
      let here = first_still old.caller.pending x h.first a is h.is_first in
      let by : IsWithdrawn (with_next old call) new h.first fault = h.by in
      let c : Caller = withdraw_to old.caller h.first.number in (
        record { table = old.table; caller = c; closed = old.closed },
        record { first = h.first; is_first = here; by = record { cause = by.cause; fault_is = by.fault_is; pass = refl } },
        by.pass ∙ (λ i. record {
          table = old.table;
          caller = record { about = c.about; pass = c.pass; last = c.last + 1; seen = c.seen; made = c.made; withdrawn = c.withdrawn; pending = behind_more old.caller.pending x a is i };
          closed = old.closed;
        }),
        refl,
      )

  -- and so may all calls after the first
  taken_first : (old now new : Passed) (calls : List Call) (x : Ask) (r : Result Reply CallFault) → IsFirst x old.caller.pending → AreAnnounced old calls now → IsTaken now new r → (mid : Passed) × IsTaken old mid r × AreAnnounced mid calls new
  taken_first old now new [] x r is a h = (new, subst (λ (p : Passed). IsTaken p new r) a h, refl)
  taken_first old now new (call ∷ calls) x r is a h =
      let more = taken_first (with_next old call) now new calls x r (first_more old.caller.pending x (ask_of old.caller (old.caller.last + 1) call) is) a.1 h in
      let one = taken_before old more.0 call x r is more.1 in
      (one.0, one.1, (one.3 ∙ a.0, subst (λ (p : Passed). AreAnnounced p calls new) one.2 more.2))

  -- what came of the pass's only open call
  pub record IsDone (old : Passed) (call : Call) (r : Result Reply CallFault) (new : Passed) : Type 0 where
    pub given : IsGiven old call r new
    pub pass : IsPassOf opening new
    pub rested : IsRested old.caller → IsRested new.caller

  collected_next : (old new : Passed) (call : Call) (reply : Reply) → IsPassOf opening old → is_closed_pass old ≡ false → IsCollected (with_next old call) new (ask_of old.caller (old.caller.last + 1) call) reply → IsDone old call (Ok reply) new
  collected_next old new call reply is up by =
      let a : Ask = ask_of old.caller (old.caller.last + 1) call in
      let c : Caller = announce_to old.caller (old.caller.last + 1) call in
      let s : Step = next_step old.caller call reply in
      let k : ℕ = shard_for old.caller call in
      let seen = by.seen in
      subst (IsDone old call (Ok reply)) (sym by.pass) (record {
        given = record {
          answered = record {
            pass = ap (λ (u : List Item). record old { caller = collect_to c s u }) (sym seen.seen);
            extends = subst (Extends old.caller.pass (seen_at old.caller k) s) (sym seen.seen) seen.extends;
            legal = subst (IsLegalAt old.caller.about k) (sym seen.seen) seen.legal;
            by_passes = subst (IsByPasses old.caller.about.passes) (sym seen.seen) seen.by_passes;
            others = seen.others;
          };
          refused = tt;
          closed = (λ (e : IsErrOf {T = Reply} {E = CallFault} (Ok reply) faults.PassClosed). absurd (not_refused reply faults.PassClosed e), λ (e : is_closed_pass old ≡ true). absurd (false≢true (sym up ∙ e)));
        };
        pass = record { table = is.table; about = is.about; idle = λ _. ap (λ (l : List Ask). behind_first (l ++ a ∷ [])) (idle_of opening old is up) };
        rested = λ (_ : IsRested old.caller). by.rested;
      })

  withdrawn_next : (old new : Passed) (call : Call) (fault : CallFault) → IsPassOf opening old → is_closed_pass old ≡ false → IsWithdrawn (with_next old call) new (ask_of old.caller (old.caller.last + 1) call) fault → IsDone old call (Err fault) new
  withdrawn_next old new call fault is up by =
      let a : Ask = ask_of old.caller (old.caller.last + 1) call in
      let none : behind_first (old.caller.pending ++ a ∷ []) ≡ [] = ap (λ (l : List Ask). behind_first (l ++ a ∷ [])) (idle_of opening old is up) in
      let same : new ≡ without_next old = by.pass ∙ (λ i. record {
        table = old.table;
        caller = record { about = old.caller.about; pass = old.caller.pass; last = old.caller.last + 1; seen = old.caller.seen; made = old.caller.made; withdrawn = old.caller.withdrawn ++ (old.caller.last + 1) ∷ []; pending = none i };
        closed = old.closed;
      }) in
      record {
        given = record {
          answered = tt;
          refused = refused_as by.cause fault old new call by.fault_is same;
          closed = (λ (e : IsErrOf {T = Reply} {E = CallFault} (Err fault) faults.PassClosed). absurd (not_closed by.cause fault by.fault_is e), λ (e : is_closed_pass old ≡ true). absurd (false≢true (sym up ∙ e)));
        };
        pass = subst (IsPassOf opening) (sym same) (record { table = is.table; about = is.about; idle = λ _. refl });
        rested = λ (r : IsRested old.caller). subst (λ (p : Passed). IsRested p.caller) (sym same) r;
      }

  -- the answer to the only open call, taken in
  pub taken_next : (old new : Passed) (call : Call) (r : Result Reply CallFault) → IsPassOf opening old → is_closed_pass old ≡ false → IsTaken (with_next old call) new r → IsDone old call r new
  taken_next old new call r is up h = pick r by
    where
      a : Ask
      a = ask_of old.caller (old.caller.last + 1) call

      mine : a ≡ h.first
      mine = first_only (old.caller.pending ++ a ∷ []) old.caller.pending h.first a refl (idle_of opening old is up) h.is_first

      by : IsTakenBy (with_next old call) new (ask_of old.caller (old.caller.last + 1) call) r
      by = subst (λ (x : Ask). IsTakenBy (with_next old call) new x r) (sym mine) h.by

      pick : (r : Result Reply CallFault) → IsTakenBy (with_next old call) new (ask_of old.caller (old.caller.last + 1) call) r → IsDone old call r new
      pick (Ok reply) by = collected_next old new call reply is up by
      pick (Err fault) by = withdrawn_next old new call fault is up by

  -- what is given after an answer may be given after a doubt
  given_any : (lost : Bool) (old new : Passed) (cs : List Call) (rs : List (Result Reply CallFault)) → AreGivenAfter false old cs rs new → AreGivenAfter lost old cs rs new
  given_any false old new cs rs g = g
  given_any true old new [] [] g = g
  given_any true old new [] (r ∷ rs) g = absurd g
  given_any true old new (c ∷ cs) [] g = absurd g
  given_any true old new (c ∷ cs) (r ∷ rs) g = (g.0, inl g.1, g.2)

  -- calls and then others
  pub given_append : (lost : Bool) (old mid new : Passed) (cs ds : List Call) (rs ss : List (Result Reply CallFault)) → AreGivenAfter lost old cs rs mid → AreGiven mid ds ss new → AreGivenAfter lost old (cs ++ ds) (rs ++ ss) new
  given_append lost old mid new [] ds [] ss g h = subst (λ (p : Passed). AreGivenAfter lost p ds ss new) g (given_any lost mid new ds ss h)
  given_append lost old mid new [] ds (r ∷ rs) ss g h = absurd g
  given_append lost old mid new (c ∷ cs) ds [] ss g h = absurd g
  given_append lost old mid new (c ∷ cs) ds (r ∷ rs) ss g h = (g.0, g.1, given_append (is_doubt r) g.0 mid new cs ds rs ss g.2 h)

  -- What came of the first of calls that were announced together: as if they had been made one after another. The others
  -- are open.
  pub record AreDone (old : Passed) (calls : List Call) (rs : List (Result Reply CallFault)) (new : Passed) : Type 0 where
    pub done : List Call
    pub left : List Call
    pub calls_are : calls ≡ done ++ left
    pub counted : length done ≡ length rs
    pub mid : Passed
    pub given : AreGiven old done rs mid
    pub pass : IsPassOf opening mid
    pub announced : AreAnnounced mid left new

  pub some_given : (old now new : Passed) (calls : List Call) (rs : List (Result Reply CallFault)) → IsPassOf opening old → IsRested old.caller → AreAnnounced old calls now → AreTaken now rs new → length rs ≤ length calls → AreDone old calls rs new
  some_given old now new calls [] is rested a t n = record { done = []; left = calls; calls_are = refl; counted = refl; mid = old; given = refl; pass = is; announced = subst (AreAnnounced old calls) (sym t) a }
  some_given old now new [] (r ∷ rs) is rested a t n = absurd (omega arith)
  some_given old now new (call ∷ calls) (r ∷ rs) is rested a t n =
      let mine : Ask = ask_of old.caller (old.caller.last + 1) call in
      let first = taken_first (with_next old call) now t.0 calls mine r (first_alone old.caller.pending mine (idle_of opening old is a.0)) a.1 t.1 in
      let done = taken_next old first.0 call r is a.0 first.1 in
      let rest = some_given first.0 t.0 new calls rs done.pass (done.rested rested) first.2 t.2 (omega arith) in
      record {
        done = call ∷ rest.done;
        left = rest.left;
        calls_are = ap (λ (l : List Call). call ∷ l) rest.calls_are;
        counted = ap suc rest.counted;
        mid = rest.mid;
        given = (first.0, done.given, given_any (is_doubt r) first.0 rest.mid rest.done rs rest.given);
        pass = rest.pass;
        announced = rest.announced;
      }

  -- calls that were announced after a lost one are lost
  lost_after : (mid new : Passed) (calls : List Call) → AreAnnounced mid calls new → AreGivenAfter true (closed_now mid) calls (doubts (length calls)) (closed_now new)
  lost_after mid new [] a = ap closed_now a
  lost_after mid new (call ∷ calls) a = (closed_now (with_next mid call), inr (refl, refl), lost_after (with_next mid call) new calls a.1)

  doubted : (mid new : Passed) (call : Call) → is_closed_pass mid ≡ false → IsRefused mid call new faults.InDoubt → IsGiven mid call (Err faults.InDoubt) new
  doubted mid new call up h = record {
    answered = tt;
    refused = h;
    closed = (λ (e : IsErrOf {T = Reply} {E = CallFault} (Err faults.InDoubt) faults.PassClosed). absurd (no_closed e), λ (e : is_closed_pass mid ≡ true). absurd (false≢true (sym up ∙ e)));
  }
    where
      no_closed : IsErrOf {T = Reply} {E = CallFault} (Err faults.InDoubt) faults.PassClosed → ⊥
      no_closed e = let one : Err faults.InDoubt ≡ Err faults.PassClosed = e in cc

  -- open calls that are lost, of which the first may have come back
  pub all_lost : (mid now back new : Passed) (call : Call) (calls : List Call) → IsPassOf opening mid → AreAnnounced mid (call ∷ calls) now → IsTakenBack now back → new ≡ closed_now back → AreGiven mid (call ∷ calls) (doubts (length (call ∷ calls))) new
  all_lost mid now back new call calls is a (inl same) closed =
      (closed_now (with_next mid call), doubted mid (closed_now (with_next mid call)) call a.0 (inr refl), subst (AreGivenAfter true (closed_now (with_next mid call)) calls (doubts (length calls))) (sym (closed ∙ ap closed_now same)) (lost_after (with_next mid call) now calls a.1))
  all_lost mid now back new call calls is a (inr taken) closed =
      let mine : Ask = ask_of mid.caller (mid.caller.last + 1) call in
      let one : IsTaken now back (Err faults.Memory) = record { first = taken.0; is_first = taken.1; by = record { cause = Memory; fault_is = refl; pass = taken.2 } } in
      let first = taken_first (with_next mid call) now back calls mine (Err faults.Memory) (first_alone mid.caller.pending mine (idle_of opening mid is a.0)) a.1 one in
      let done = taken_next mid first.0 call (Err faults.Memory) is a.0 first.1 in
      (closed_now first.0, doubted mid (closed_now first.0) call a.0 (inl (ap closed_now done.given.refused)), subst (AreGivenAfter true (closed_now first.0) calls (doubts (length calls))) (sym closed) (lost_after first.0 back calls first.2))
