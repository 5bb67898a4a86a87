-- Shards and passes stay those of their opening.
use Rattle.std.proofs.Common.{◌≡◌, ℕ, ◌+◌, List, [], ◌∷◌, ◌++◌, sym, ap, ◌∙◌, subst, Ok}
use Rattle.atomic_table.specs.Seated.{TableId}
use Rattle.headline.proofs.Common.{Limits, Call, Reply, Ask, About, Sight, Sharded, Opening, key_of, behind_first, ask_of, Booked, Passed, HaveMet, with_seen, fresh_pass, shard_of, Turn, IsTurn, opened_shard, IsGiven, shard_for}
use Rattle.headline.proofs.Turning.{same_book}
use Rattle.one_life.specs.declared.opening.Two.{Two}
use Rattle.one_life.specs.Cut.{IsOn, IsBookOf, IsIdle, AreOfOpening, AreOpened, IsMadeBy, HaveCalled, IsCutTurn, IsCutOnce, opening_with}
use Rattle.one_life.proofs.Ending.{cut_life}

module _ {D : Type 0} (sight : D → Sight) (follows : D → Type 0) where
  module _ (table : TableId) (about : About) where
    book_after : (k : ℕ) (t : Turn D) → IsTurn sight follows t → IsBookOf table about k t.old.book → IsBookOf table about k t.new.book
    book_after k t turn is =
        let same = same_book sight follows t turn in
        record { same_table = same.2 ∙ is.same_table; same_about = same.0 ∙ is.same_about; number = same.1 ∙ is.number }

    idle_after : (old new : Passed) (call : Call) (reply : Reply) → IsGiven old call (Ok reply) new → IsIdle table about old → IsIdle table about new
    idle_after old new call reply given is =
        let now = given.answered.pass in
        record {
          same_table = ap (λ (p : Passed). p.table) now ∙ is.same_table;
          same_about = ap (λ (p : Passed). p.caller.about) now ∙ is.same_about;
          idle = ap (λ (p : Passed). p.caller.pending) now ∙ ap (λ (l : List Ask). behind_first (l ++ ask_of old.caller (old.caller.last + 1) call ∷ [])) is.idle;
        }

    made_book : (k : ℕ) (old new : Sharded D) (was now : Passed) (call : Call) (reply : Reply) → IsMadeBy sight follows old new was call reply now → IsBookOf table about k old.book → IsBookOf table about k new.book
    made_book k old new was now call reply made is =
        subst (λ (s : Sharded D). IsBookOf table about k s.book) made.to
        (book_after k made.turn made.made.turn (subst (λ (s : Sharded D). IsBookOf table about k s.book) (sym made.from) is))

    pub called_of : (old new : Two D) (first second : Call) (replies : Reply × Reply) → HaveCalled sight follows old first second replies new → AreOfOpening table about old → AreOfOpening table about new
    called_of old new first second replies called are = record {
      two_shards = are.two_shards;
      first = made_book 0 old.first new.first old.one new.one first replies.0 called.first_call are.first;
      second = made_book 1 old.second new.second old.two new.two second replies.1 called.second_call are.second;
      one = idle_after old.one new.one first replies.0 called.first_call.given are.one;
      two = idle_after old.two new.two second replies.1 called.second_call.given are.two;
    }

module _ (table : TableId) (about : About) where
  met_idle : (old new : Passed) → new ≡ record old { caller = with_seen old.caller new.caller.seen } → IsIdle table about old → IsIdle table about new
  met_idle old new met is = record {
    same_table = ap (λ (p : Passed). p.table) met ∙ is.same_table;
    same_about = ap (λ (p : Passed). p.caller.about) met ∙ is.same_about;
    idle = ap (λ (p : Passed). p.caller.pending) met ∙ is.idle;
  }

  -- so a call of this pass is made by this shard
  pub here_for : (k : ℕ) (pass : Passed) (book : Booked) (call : Call) → about.shards ≡ 2 → IsIdle table about pass → IsBookOf table about k book → IsOn k call → shard_for pass.caller call ≡ book.shard
  here_for k pass book call two idle of here =
      ap (λ (a : About). shard_of (key_of call) a.shards) idle.same_about ∙ ap (shard_of (key_of call)) two ∙ here ∙ sym of.number

module _ {D : Type 0} (table : TableId) (about : About) where
  pub met_of : (it : Two D) (one two : Passed) → one ≡ record it.one { caller = with_seen it.one.caller one.caller.seen } → two ≡ record it.two { caller = with_seen it.two.caller two.caller.seen } → AreOfOpening table about it → AreOfOpening table about (record it { one = one; two = two })
  met_of it one two first second are = record {
    two_shards = are.two_shards;
    first = are.first;
    second = are.second;
    one = met_idle table about it.one one first are.one;
    two = met_idle table about it.two two second are.two;
  }

  -- by its own book
  pub own_of : (it : Two D) → AreOfOpening table about it → AreOfOpening table it.first.book.about it
  own_of it are = subst (λ (a : About). AreOfOpening table a it) (sym are.first.same_about) are

book_as : {D : Type 0} (opening : Opening D) (k : ℕ) (s : Sharded D) → s ≡ opened_shard opening k s.opened → IsBookOf opening.table opening.about k s.book
book_as {D = D} opening k s is = record { same_table = ap (λ (x : Sharded D). x.book.table) is; same_about = ap (λ (x : Sharded D). x.book.about) is; number = ap (λ (x : Sharded D). x.book.shard) is }

pub idle_as : {D : Type 0} (opening : Opening D) (p : ℕ) (pass : Passed) → pass ≡ fresh_pass opening.table opening.about p → IsIdle opening.table opening.about pass
idle_as opening p pass is = record { same_table = ap (λ (x : Passed). x.table) is; same_about = ap (λ (x : Passed). x.caller.about) is; idle = ap (λ (x : Passed). x.caller.pending) is }

pub opened_of : {D : Type 0} (sight : D → Sight) (follows : D → Type 0) (limits : Limits) (capacity : ℕ) (given : List (List D)) (opening : Opening D) (it : Two D) (table : TableId) → AreOpened sight follows limits capacity given opening it → opening.table ≡ table → AreOfOpening table opening.about it
opened_of sight follows limits capacity given opening it table opened same = subst (λ (t : TableId). AreOfOpening t opening.about it) same (record {
  two_shards = opened.shards ∙ opened.two_shards;
  first = book_as opening 0 it.first opened.first;
  second = book_as opening 1 it.second opened.second;
  one = idle_as opening 0 it.one opened.one;
  two = idle_as opening 1 it.two opened.two;
})

-- all that was promised, up to the turn that is cut
pub cut_of : {D : Type 0} (sight : D → Sight) (follows : D → Type 0) (limits : Limits) (capacity : ℕ) (given : List (List D)) (start mid end : Two D) (one two : Passed) (table : TableId) (first second last : Call) (replies : Reply × Reply)
    → AreOpened sight follows limits capacity given (opening_with start) start → start.first.book.table ≡ table → HaveCalled sight follows start first second replies mid
    → one ≡ record mid.one { caller = with_seen mid.one.caller one.caller.seen } → two ≡ record mid.two { caller = with_seen mid.two.caller two.caller.seen }
    → HaveMet mid.one.caller mid.two.caller mid.one.caller.about.shards one.caller.seen two.caller.seen → IsCutTurn sight follows (record mid { one = one; two = two }) end last
    → IsCutOnce sight follows given first second last replies end
cut_of sight follows limits capacity given start mid end one two table first second last replies opened same called first_met second_met met cut =
    let opening = opening_with start in
    let were = opened_of sight follows limits capacity given opening start table opened same in
    let are = called_of sight follows table opening.about start mid first second replies called were in
    cut_life sight follows limits capacity given opening start (record mid { one = one; two = two }) end opened mid.one mid.two first second last replies.0 replies.1 called.first_call called.second_call
    (record {
      one = first_met;
      two = second_met;
      met = subst (λ (a : About). HaveMet mid.one.caller mid.two.caller a.shards one.caller.seen two.caller.seen) are.one.same_about met;
    })
    cut
