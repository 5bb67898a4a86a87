-- The names that most proofs of this crate and of those above it cite, passed on from one place. Declares nothing.
pub use Rattle.accept.specs.Calls.{AreNumbers}
pub use Rattle.accept.specs.Histories.{is_step_of, is_marked, changes, meaning, answer, answered_to, MayFollow, is_new, stream_of, reply_to, Terms, IsLegal, then_step, key_of, stored_by, bound_by, stored_in, bound_in, stored, greatest_bound, base_of}
pub use Rattle.accept.specs.OneStream.{AreLimits, stored_of, last_or, base_last, base_kept, highest_of, last_of, kept_of, image_of, same_entry, outcome, outcomes}
pub use Rattle.segment.specs.ShardPlaces.{place_of}
pub use Rattle.wal.specs.Covers.{Covers, IsAfter, Allows}
pub use Rattle.wal.specs.Logs.{slots, owner, IsOnDisk}
pub use Rattle.wal.specs.Moments.{Pair, HasFailed, HasNoFailure, pair}
pub use Rattle.wal.specs.Opened.{IsOpenedFrom, IsReturned}
pub use Rattle.wal.specs.Opening.{slots_of, CountsCause, AllFollow, disks, PairRests}
pub use Rattle.wal.specs.Recovery.{Recovers, is_even}
pub use Rattle.wal.specs.declared.fault.OpenFault.TheVariants.{Device, Memory}
pub use Rattle.openings.specs.Findings.{AreOpenedFrom, AreReturned, AreGood, IsFirstRefused}
pub use Rattle.history.specs.Handles.{fresh_pass, fresh_book, is_closed_pass, HaveMet, with_seen, asks_of, history_in, Announced, about_of, fresh_books, fresh_passes, ticket_for}
pub use Rattle.history.specs.Histories.{IsByPasses, IsAmong, AreAmong, behind_first, shard_in, steps_by, steps_on, HaveNumbersBelow, HaveNumbersAbove, base_at, history_of, doubt_of, IsLegalAt, terms_of, IsBeginning, IsRising, step_of, asks_by, HasStep, reply_of, doubt_or, IsFirst, asks_on, IsFirstIfAmong}
pub use Rattle.history.specs.Plays.{HasStepsOf, ask_of, seen_at, AreHis, Extends, IsRested, HasSeenStep, collect_to, withdraw_to}
pub use Rattle.history.specs.Shards.{shard_of}
pub use Rattle.shard.specs.Calls.{reply_in, IsCommitted, IsMarkedInDoubt, MayLeave}
pub use Rattle.shard.specs.Groups.{with_step, with_steps, changing_of, marked_by, items_with, MayLeaveAll, HaveStepsOr}
pub use Rattle.shard.specs.Leads.{IsMade}
pub use Rattle.shard.specs.Shards.{IsGround}
pub use Rattle.shard.specs.Turns.{AreTogether, IsTurn, IsAlone, AreReady, IsGivenBack, given_back_of}
pub use Rattle.shard.specs.declared.first_jobs.Job.{Job}
pub use Rattle.owners.specs.Openings.{opening_of}
pub use Rattle.owners.specs.Places.{opened_shard, IsOf}
pub use Rattle.ingester.specs.Calls.{IsAnswered, IsRefused, IsGiven, IsGivenAfter, next_step, shard_for, without_next, with_next, closed_now, AreGivenAfter, IsPassOf}
pub use Rattle.ingester.specs.Closings.{IsHandedOut, IsTold, Handed}
pub use Rattle.headline.specs.Headline.{IsOneOf, HaveThreads, WasCalled, before_step, RefusedShard, IsForDeviceOrMemory, IsReplay, IsHeadline, WasAnswered, is_refusal, shard_at, step_for, steps_for, items_before, history_before, ask_for}
pub use Rattle.headline.specs.Lives.{Life, ShardEnd, HandedOut, CutAt, IsLife, IsEnd, WereRead, HasFailedSince, MayBeReplayed, MayBeRefused, IsHeadlineOf, failures_of, slots_then, LeftAt, AreLeftAt, writing_at, writing_in, LogsFollow, AreLeftBy, MadeNoTurn, WritesNothingBefore}
pub use Rattle.headline.specs.Threads.{What, Called, Looked, Met, Closed, Happening, Happens, HappenAfter, Thread, IsThread, leaves_call_in_doubt, calls_by_what, happened_to, calls_made_by, last_passes, IsLooked, IsMet, AnsweredCall, answers_by, calls_with}
pub use Rattle.headline.specs.Turns.{shard_then, Between, IsInTime, IsStretch, Moment, Within, IsMoment, FollowThen, calls_of_steps, calls_by, Stretch, calls_with_steps, made_in, writing_then, MayBeLeft, IsLeftThen}
pub use Rattle.headline.specs.Types.{Call, Reply, CallFault, PassClosed, InDoubt, Ask, Step, Item, Answered, Failed, About, Opening, Passed, Booked, Received, Follow, Streams, Limits, History, Sight, Wal, Caller, ShardPlace, Unavailable, NoRoom, Sharded, Lead, Turn, StreamKey, Push, Trim, Verdict, Trimmed, OpenFault}
pub use Rattle.std.proofs.lemmas.Bool.{false≢true, cases_Bool, cases_eq, cases_lt, ltb-true, eqb-true, leb-false, and_parts, or_parts, false_from_ne_true, cond_both}
pub use Rattle.headline.proofs.Among.{among_left, among_right, among_split, among_part}
pub use Rattle.history.proofs.Past.{on_append, below_on, legal_front, below_more, below_last, rising_last, marked_step, marked_mark, steps_append, made_left, not_made, rising_back, rising_front, steps_mark, steps_mine, steps_else, below_middle, doubt_marked, doubt_unmarked, legal_none}
pub use Rattle.history.proofs.Lists.{replicate_at, begins_same, begins_front, begins_trans}
pub use Rattle.history.proofs.Sharding.{shard_below}
