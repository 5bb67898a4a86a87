-- A call of a pass, made by a turn of its shard.
use Rattle.std.proofs.Common.{◌≡◌, ℕ, suc, ◌+◌, ◌<◌, true, false, List, [], ◌∷◌, ◌++◌, length, All, Bool, Result, Err, refl, sym, ap, ◌∙◌, subst, inl, ⊎_elim, arith}
use Rattle.atomic_table.specs.Seated.{TableId}
use Rattle.headline.proofs.Common.{AreNumbers, Call, Reply, CallFault, Ask, Step, Item, About, Sight, Sharded, Opening, key_of, IsFirst, IsFirstIfAmong, asks_on, behind_first, shard_in, ask_of, collect_to, withdraw_to, Announced, Booked, Passed, ticket_for, is_closed_pass, shard_of, IsMade, Lead, Turn, AreReady, IsOf, IsGiven, shard_for, with_next}
use Rattle.shard.specs.declared.fault.ApplyFault.{ApplyFault}
use Rattle.owners.proofs.Turning.{turn_of}
use Rattle.ingester.specs.Faults.{fault_of}
use Rattle.ingester.specs.Batches.{IsTaken}
use Rattle.ingester.proofs.Passing.{settled_call}
use Rattle.whole.proofs.Common.{Two, IsOn, IsBookOf, IsIdle, HasTurned, AreServing, FirstGives}
use Rattle.one_life.proofs.Cutting.{ready_one}
use Rattle.one_life.proofs.Staying.{here_for}

-- ---- turns

module _ {D : Type 0} (sight : D → Sight) (follows : D → Type 0) where
  pub no_turn : (old new : Sharded D) → new ≡ old → HasTurned sight follows old new
  no_turn old new same = record { turns = []; lead = same }

  pub one_turn : (turn : Turn D) → IsMade sight follows turn → HasTurned sight follows turn.old turn.new
  one_turn turn made = record { turns = turn ∷ []; lead = (refl, made, refl) }

  module _ (opening : Opening D) (k : ℕ) where
    after_lead : (old new : Sharded D) (turns : List (Turn D)) → Lead sight follows old turns new → IsOf sight follows opening k old → IsOf sight follows opening k new
    after_lead old new [] same is = subst (IsOf sight follows opening k) (sym same) is
    after_lead old new (t ∷ ts) (from, made, more) is =
        after_lead t.new new ts more (turn_of sight follows opening t k made (subst (IsOf sight follows opening k) (sym from) is))

    pub after_turns : (old new : Sharded D) → HasTurned sight follows old new → IsOf sight follows opening k old → IsOf sight follows opening k new
    after_turns old new h is = after_lead old new h.turns h.lead is

-- ---- the call of a pass that waits for no answer

module _ (table : TableId) (about : About) (was : Passed) (idle : IsIdle table about was) (call : Call) where
  -- the call has been announced
  pub record IsJustAnnounced (ticket : Announced) (now : Passed) : Type 0 where
    pub ticket_is : ticket ≡ ticket_for table was.caller (was.caller.last + 1) call
    pub pass : now ≡ with_next was call

  module _ (ticket : Announced) (now : Passed) (is : IsJustAnnounced ticket now) where
    pub ready : (book : Booked) → book.table ≡ table → book.about ≡ about → shard_for was.caller call ≡ book.shard → AreNumbers call → AreReady book (record { ticket = ticket; call = call } ∷ [])
    ready book same_table same_about here numbers =
        let k : ℕ = shard_in was.caller.about (ask_of was.caller (was.caller.last + 1) call) in
        ready_one book ticket call
        (ap (λ (t : Announced). t.table) is.ticket_is ∙ sym same_table)
        (ap (λ (t : Announced). shard_in book.about t.ask) is.ticket_is ∙ ap (λ (a : About). shard_of (key_of call) a.shards) (same_about ∙ sym idle.same_about) ∙ here)
        (ap (λ (t : Announced). t.ask.call) is.ticket_is)
        numbers
        (ap (λ (t : Announced). t.before) is.ticket_is ∙ ap (asks_on was.caller.about k) idle.idle)

    pub same_table : now.table ≡ table
    same_table = ap (λ (p : Passed). p.table) is.pass ∙ idle.same_table

    pub ticket_table : ticket.table ≡ table
    ticket_table = ap (λ (t : Announced). t.table) is.ticket_is

    pub same_pass : ticket.ask.pass ≡ now.caller.pass
    same_pass = ap (λ (t : Announced). t.ask.pass) is.ticket_is ∙ sym (ap (λ (p : Passed). p.caller.pass) is.pass)

    only_open : now.caller.pending ≡ ask_of was.caller (was.caller.last + 1) call ∷ []
    only_open = ap (λ (p : Passed). p.caller.pending) is.pass ∙ ap (λ (l : List Ask). l ++ ask_of was.caller (was.caller.last + 1) call ∷ []) idle.idle

    pub first_if : (a : Ask) → IsFirstIfAmong a now.caller.pending
    first_if a = subst (IsFirstIfAmong a) (sym only_open) (λ among. ⊎_elim (λ (e : ask_of was.caller (was.caller.last + 1) call ≡ a). ap (λ (b : Ask). b.number) e) (λ (n : ⊥). absurd n) among)

    -- the ticket came back
    pub taken_back : {D : Type 0} (opening : Opening D) (new : Passed) (cause : ApplyFault) (fault : CallFault) (back : Announced) → opening.table ≡ table → opening.about ≡ about → is_closed_pass was ≡ false → fault ≡ fault_of cause
        → IsFirst back.ask now.caller.pending → new ≡ record now { caller = withdraw_to now.caller back.ask.number } → IsGiven was call (Err fault) new
    taken_back opening new cause fault back a b up told first pass =
        (settled_call opening was new call (Err fault)
        (record { table = idle.same_table ∙ sym a; about = idle.same_about ∙ sym b; idle = λ e. idle.idle })
        up
        (inl (subst (λ (p : Passed). IsTaken p new (Err fault)) is.pass (record {
          first = back.ask;
          is_first = first;
          by = record { cause = cause; fault_is = told; pass = pass };
        })))).given

  -- then the pass waits for no answer again
  pub idle_collected : (now : Passed) (s : Step) (upto : List Item) → now ≡ record (with_next was call) { caller = collect_to (with_next was call).caller s upto } → IsIdle table about now
  idle_collected now s upto e = record {
    same_table = ap (λ (p : Passed). p.table) e ∙ idle.same_table;
    same_about = ap (λ (p : Passed). p.caller.about) e ∙ idle.same_about;
    idle = ap (λ (p : Passed). p.caller.pending) e ∙ ap (λ (l : List Ask). behind_first (l ++ ask_of was.caller (was.caller.last + 1) call ∷ [])) idle.idle;
  }

  pub idle_withdrawn : (now : Passed) (number : ℕ) → now ≡ record (with_next was call) { caller = withdraw_to (with_next was call).caller number } → IsIdle table about now
  idle_withdrawn now number e = record {
    same_table = ap (λ (p : Passed). p.table) e ∙ idle.same_table;
    same_about = ap (λ (p : Passed). p.caller.about) e ∙ idle.same_about;
    idle = ap (λ (p : Passed). p.caller.pending) e ∙ ap (λ (l : List Ask). behind_first (l ++ ask_of was.caller (was.caller.last + 1) call ∷ [])) idle.idle;
  }

-- ---- two shards that serve

module _ {D : Type 0} (sight : D → Sight) (follows : D → Type 0) (table : TableId) (opening : Opening D) (it : Two D) (are : AreServing sight follows table opening it) where
  pub first_book : IsBookOf table opening.about 0 it.first.book
  first_book = record { same_table = are.first.table ∙ are.same_table; same_about = are.first.about; number = are.first.number }

  pub second_book : IsBookOf table opening.about 1 it.second.book
  second_book = record { same_table = are.second.table ∙ are.same_table; same_about = are.second.about; number = are.second.number }

  pub one_idle : IsIdle table opening.about it.one
  one_idle = record { same_table = are.one.same_table ∙ are.same_table; same_about = are.one.same_about; idle = are.one.idle }

  -- of each call the shard is known, and the pass is of its opening
  pub on_first : (call : Call) → IsOn 0 call → shard_for it.one.caller call ≡ it.first.book.shard
  on_first call here = here_for table opening.about 0 it.one it.first.book call are.two_shards one_idle first_book here

  pub on_second : (call : Call) → IsOn 1 call → shard_for it.one.caller call ≡ it.second.book.shard
  on_second call here = here_for table opening.about 1 it.one it.second.book call are.two_shards one_idle second_book here

  pub idle_first : IsIdle table it.first.book.about it.one
  idle_first = record { same_table = one_idle.same_table; same_about = are.one.same_about ∙ sym are.first.about; idle = are.one.idle }

  pub idle_second : IsIdle table it.second.book.about it.one
  idle_second = record { same_table = one_idle.same_table; same_about = are.one.same_about ∙ sym are.second.about; idle = are.one.idle }

  back_idle : (about : About) (one : Passed) → about ≡ opening.about → IsIdle table about one → IsIdle opening.table opening.about one
  back_idle about one same is = record { same_table = is.same_table ∙ sym are.same_table; same_about = is.same_about ∙ same; idle = is.idle }

  -- after a call by either of them they serve on
  pub after_first : (first : Sharded D) (one : Passed) → HasTurned sight follows it.first first → IsIdle table it.first.book.about one → AreServing sight follows table opening (record it { first = first; one = one })
  after_first first one turned idle = record {
    same_table = are.same_table;
    two_shards = are.two_shards;
    first = after_turns sight follows opening 0 it.first first turned are.first;
    second = are.second;
    one = back_idle it.first.book.about one are.first.about idle;
    two = are.two;
  }

  pub after_second : (second : Sharded D) (one : Passed) → HasTurned sight follows it.second second → IsIdle table it.second.book.about one → AreServing sight follows table opening (record it { second = second; one = one })
  after_second second one turned idle = record {
    same_table = are.same_table;
    two_shards = are.two_shards;
    first = are.first;
    second = after_turns sight follows opening 1 it.second second turned are.second;
    one = back_idle it.second.book.about one are.second.about idle;
    two = are.two;
  }

-- ---- calls one after another

-- a call that is made for itself may come after any other
pub by_itself : {D : Type 0} (old new : Two D) (call : Call) (outcome : Result Reply CallFault) → FirstGives false old call outcome new → (lost : Bool) → FirstGives lost old call outcome new
by_itself old new call outcome is false = is
by_itself old new call outcome is true = inl is

-- the first of a list, and those behind it
module _ {X : Type 0} (P : X → Type 0) (x : X) (xs all : List X) (is : all ≡ x ∷ xs) (each : All P all) where
  pub all_first : P x
  all_first = let here : 0 < length (x ∷ xs) = omega arith in (subst (All P) is each) 0 x here

  pub all_behind : All P xs
  all_behind = λ k d lt. let here : suc k < length (x ∷ xs) = omega arith in (subst (All P) is each) (suc k) d here
