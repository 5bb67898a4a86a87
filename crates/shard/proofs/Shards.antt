-- What a shard is after a step, and what a commit asks for.
use Rattle.std.proofs.Common.{◌≡◌, length-append, Bool, List, [], ◌∷◌, take, sym, ◌∙◌, subst, arith}
use Rattle.accept.specs.declared.limits.Limits.{Limits}
use Rattle.accept.specs.declared.call.Reply.{Reply}
use Rattle.accept.specs.declared.history.Ask.{Ask}
use Rattle.accept.specs.declared.history.Item.TheVariants.{Answered}
use Rattle.accept.specs.declared.history.History.{History}
use Rattle.accept.specs.Rooms.{Streams}
use Rattle.accept.specs.Histories.{meaning}
use Rattle.accept.proofs.Meanings.{meaning-answered_to}
use Rattle.disk.specs.Sight.{Sight}
use Rattle.segment.specs.ShardPlaces.{ShardPlace}
use Rattle.wal.specs.declared.log.Wal.{Wal}
use Rattle.wal.specs.Recovery.{Recovers}
use Rattle.wal.specs.Moments.{Pair}
use Rattle.wal.specs.Covers.{Covers}
use Rattle.wal.specs.Logs.{Follow, slots, IsOnDisk}
use Rattle.history.specs.Histories.{doubt_of, step_of}
use Rattle.history.specs.Handles.{Booked, history_in, longer}
use Rattle.history.proofs.Past.{marked_step}
use Rattle.streams.specs.Mapped.{Mapped}
use Rattle.shard.specs.Keeping.{owner_in, KeepsHistory}
use Rattle.shard.specs.Shards.{IsShard}
use Rattle.shard.proofs.Growing.{doubt_step}

-- what is kept of a history is kept of one that means the same
pub keeps_alike : (now : Pair) (owner : ShardPlace) (limits : Limits) (g h : History) (doubt : List Ask) → meaning g ≡ meaning h → Covers owner limits now g doubt → Covers owner limits now h doubt
keeps_alike now owner limits g h doubt same keeps a b x y =
    let w = keeps a b x y in
    (w.0, w.1, subst (λ (m : Streams). Recovers owner a b m) (meaning-answered_to limits g h (take w.0 doubt) same) w.2)

-- a step that changes no meaning
pub shard_answered : {D : Type 0} (sight : D → Sight) (follows : D → Type 0) (log : Wal D) (book : Booked) (opened : Wal D) (states : Mapped) (flag : Bool) (limits : Limits) (ask : Ask) (reply : Reply)
    → IsShard sight follows log book opened states flag limits → meaning (history_in (longer book (Answered (step_of ask reply)))) ≡ meaning (history_in book)
    → IsShard sight follows log (longer book (Answered (step_of ask reply))) opened states flag limits
shard_answered sight follows log book opened states flag limits ask reply s same = record {
  marked = s.marked ∙ sym (marked_step book.items (step_of ask reply));
  same_limits = s.same_limits;
  small_limits = s.small_limits;
  same_capacity = s.same_capacity;
  small_capacity = s.small_capacity;
  same_owner = s.same_owner;
  states_owner = s.states_owner;
  no_change = s.no_change;
  means = λ u. same ∙ s.means u;
  usable = s.usable;
  holds = λ u f. subst (λ (m : Streams). IsOnDisk sight log m) (sym same) (s.holds u f);
  covers = λ f. subst (λ (d : List Ask). KeepsHistory (slots sight log) (longer book (Answered (step_of ask reply))) d) (sym (doubt_step book.items (step_of ask reply)))
      (keeps_alike (slots sight log) (owner_in book) book.about.limits (history_in book) (history_in (longer book (Answered (step_of ask reply)))) (doubt_of book.items) (sym same) (s.covers f));
  not_failed = s.not_failed;
  failed = s.failed;
  before = s.before;
  rolled = λ u. let was = s.rolled u in let long = length-append book.items (Answered (step_of ask reply) ∷ []) in omega arith;
}

-- what a commit asks for, of a shard with the step
pub kept_step : {D : Type 0} (sight : D → Sight) (follows : D → Type 0) (log : Wal D) (book : Booked) (opened : Wal D) (states : Mapped) (flag : Bool) (limits : Limits) (ask : Ask) (reply : Reply)
    → IsShard sight follows log (longer book (Answered (step_of ask reply))) opened states flag limits
    → Follow follows log → KeepsHistory (slots sight log) (longer book (Answered (step_of ask reply))) (doubt_of book.items)
kept_step sight follows log book opened states flag limits ask reply s f =
    subst (λ (d : List Ask). KeepsHistory (slots sight log) (longer book (Answered (step_of ask reply))) d) (doubt_step book.items (step_of ask reply)) (s.covers f)
