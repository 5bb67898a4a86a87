-- The names that most proofs of this crate cite, passed on from one place. Declares nothing.
pub use Rattle.requests.specs.declared.fault.ServeFault.{ServeFault}
pub use Rattle.requests.specs.declared.verdict.Verdict.{Verdict}
pub use Rattle.answering.specs.Asking.{Asked, AsksFor, IsCallOf, asked_push, pushes_of}
pub use Rattle.answering.specs.Calls.{Came, Refused, Replied, Failed, CallsGiveAfter, CallsGive}
pub use Rattle.answering.specs.Courses.{Course, Unread, Whole, Broken, said_of, StreamsGiveAfter, BodyGives, BodyIsLeft, first_failure}
pub use Rattle.answering.specs.Gathering.{Known, MayGoOn, among, known, IsVisitedSo, AreVisitedSo}
pub use Rattle.answering.specs.Serving.{Exchange, World, VerdictGives, VerdictIsLeft, ConnectionGives, IsExchange, IsAbandoned, response, world, IsSilent, IsNextResponse, ConnectionEnds, ConnectionIsAnswered}
pub use Rattle.answering.specs.Steps.{AreSteps, AreStepsOf, AreStepsBy}
pub use Rattle.answering.specs.declared.visiting.Visited.{Visited}
pub use Rattle.answering.specs.declared.visiting.Visited.TheVariants.{Closed, More, Unfinished}
pub use Rattle.front.specs.Calls.{CallGives}
pub use Rattle.front.specs.Visits.{Visit, IsKeptOrNot, AreJoined, Line, IsVisited, text_put, AreVisits}
pub use Rattle.one_life.specs.Cut.{IsOn, IsBookOf, IsIdle, AreOfOpening, AreOpened, HaveMetIn, IsCutTurn, opening_with}
pub use Rattle.one_life.specs.declared.opening.Two.{Two}
pub use Rattle.whole.specs.ServedOnce.{HasTurned, AreServing, FirstGives, IsFirstVisited, IsServedOnce, first_visit, line_sent}
pub use Rattle.whole.specs.Visits.{its_step, answered_among, steps_among, Worker, IsWorker, IsLine, AreThreadsOf, IsThreadOf, visits_by}
pub use Rattle.whole.specs.Whole.{IsAskedIn, IsNextOf, HasItsSteps, IsLineAnswered, IsAcknowledged, MayBeTrimmed, WasStoredFor, IsSameLine, IsLineKept, StandsOnce, IsOfRequest, IsWhole}
