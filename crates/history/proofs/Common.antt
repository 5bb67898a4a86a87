-- The names that most proofs of this crate cite, passed on from one place. Declares nothing.
pub use lib.ListN.{get_elem?}
pub use mathlib.Core.Option.{none, some, some-injective, some-ne-none}
pub use Rattle.atomic_table.specs.Table.{Me, Allows, step, keeps, State, stepped, Splits, Joins, opening}
pub use Rattle.accept.specs.Histories.{answer, after, changes, MayFollow, reply_to, is_marked, is_step_of, key_of, is_new}
pub use Rattle.history.specs.Handles.{IsBook, IsPass, Announced, ticket_for, tickets_announced, tickets_on, AreInLine, caller_in, pair_of, with_seen, HaveMet, Booked, asks_of, doubted, doubted_to, AreOf, ask_in, doubt_in, before_in, shelf_in, with_doubt, longer, announced, booked, Passed, Received, step_in, upto_in, moment_in, refused_by, about_in, fresh_books, fresh_passes}
pub use Rattle.history.specs.Histories.{IsBeginning, shard_in, step_of, steps_by, steps_on, asks_by, HaveNumbersBelow, HaveNumbersAbove, IsRising, IsUnused, AreUnused, HasStep, HaveSteps, IsAmong, AreAmong, IsFirst, IsFirstIfAmong, behind_first, behind_on, asks_beside, numbers_of, IsFree, AreSpent, bound, asks_on, IsLegalAt, IsByPasses, terms_of, history_of, of_pass, HavePassesBelow, base_at, IsFirstNumber, doubt_or, doubt_of}
pub use Rattle.history.specs.Plays.{seen_at, ask_of, before_of, announce_to, withdraw_to, collect_to, collect_at, withdraw_at, IsRestedAt, IsNextOn, IsFirstOf, IsFirstSaid, IsNextSaid, StaysRested, look_to, AreHis, HasStepsOf, IsRested, Extends, keeper, answered, HasRoomForSteps, committed_at, announced_as, withdrew, collected, loose, kept_back, seat_alone, taken, seated, host, visitor, looked, met, settled, items_counted, in_doubt, marked, IsMeeting, Meets, named, after_book, next_book, after_pass, next_pass}
pub use Rattle.history.specs.Rule.{AccountOk, HasOwn, IsOfOpenCall, AreOfOpenCalls, IsOrdered, IsQueue, TokenOk, newcomer, floor_of, IsOnItsWay, AreTold, alone, TableContents, IsGood, AreWords, KeepsRule, steps_in_all, Seating, IsInDoubt, number_of, HoldsFor, IsRole, IsHand, AreTwo, AreOpen, IsSeat, opener, unnamed}
pub use Rattle.history.specs.Types.{Call, Reply, Ask, Step, Item, Answered, Failed, About, Caller, Token, Nothing, Open, Done, Unavailable, NoRoom, Shelf, View, Nobody, Keeps, Calls, Opener, Role}
pub use Rattle.std.proofs.lemmas.Bool.{cases_eq, cond_both, and_from}
pub use Rattle.history.proofs.Lists.{put, put_at, put_else, put_all, begins_same, begins_more, begins_trans, in_line, replicate_at, last_or_none, last_same, put_other, put_two, put_two_at, put_two_other, put_both, put_two_else}
