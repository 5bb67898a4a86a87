-- The steps of the calls of requests, in their order.
use Rattle.std.specs.Prelude.{◌≡◌, ℕ, List, [], ◌∷◌, ◌++◌, Result, Ok, Err}
use Rattle.accept.specs.declared.history.Step.{Step}
use Rattle.pushjson.specs.declared.fault.PushFault.{PushFault}
use Rattle.requests.specs.declared.verdict.Verdict.{Verdict}
use Rattle.requests.specs.declared.verdict.Verdict.TheVariants.{Call}
use Rattle.answering.specs.Asking.{Asked, AsksFor, IsCallOf}
use Rattle.answering.specs.Calls.{Came, Refused, Replied, Failed}
use Rattle.answering.specs.Courses.{Course, Unread, Whole, Broken}
use Rattle.answering.specs.Serving.{Exchange}

-- a step for each stream that got a reply: its call, and the reply
abbrev pub AreSteps : List ℕ → List Asked → List Came → List Step → Type 0
AreSteps tenant [] [] steps = steps ≡ []
AreSteps tenant (a ∷ more) (Refused fault ∷ cs) steps = AreSteps tenant more cs steps
AreSteps tenant (a ∷ more) (Failed fault ∷ cs) steps = AreSteps tenant more cs steps
AreSteps tenant (a ∷ more) (Replied reply ∷ cs) (s ∷ steps) = IsCallOf tenant a s.ask.call
    × (s.reply ≡ reply)
    × AreSteps tenant more cs steps
AreSteps tenant all cames steps = ⊥

-- the steps of what was asked for; where calls failed, those of a beginning of it
abbrev pub AreStepsOf : List ℕ → Result (List Asked) PushFault → Course → List Step → Type 0
AreStepsOf tenant asked (Unread fault) steps = steps ≡ []
AreStepsOf tenant asked (Whole cames) steps = (all : List Asked) × (asked ≡ Ok all)
    × AreSteps tenant all cames steps
AreStepsOf tenant asked (Broken cames failure) steps = (done : List Asked) × (more : List Asked)
    × (asked ≡ Ok (done ++ more)) × AreSteps tenant done cames steps

-- the steps of a beginning of it
abbrev pub AreFirstStepsOf : List ℕ → Result (List Asked) PushFault → List Step → Type 0
AreFirstStepsOf tenant (Err fault) steps = steps ≡ []
AreFirstStepsOf tenant (Ok all) steps = (done : List Asked) × (more : List Asked)
    × (cames : List Came)
    × (all ≡ done ++ more) × AreSteps tenant done cames steps

-- the steps of a request
abbrev pub AreStepsBy : ℕ → List ℕ → Verdict → Course → List Step → Type 0
AreStepsBy now body (Call route tenant) course steps = (asked : Result (List Asked) PushFault)
    × AsksFor route now body asked × AreStepsOf tenant asked course steps
AreStepsBy now body verdict course steps = steps ≡ []

-- the steps of a request whose calls were given up
abbrev pub AreFirstStepsBy : ℕ → List ℕ → Verdict → List Step → Type 0
AreFirstStepsBy now body (Call route tenant) steps = (asked : Result (List Asked) PushFault)
    × AsksFor route now body asked × AreFirstStepsOf tenant asked steps
AreFirstStepsBy now body verdict steps = ⊥

-- the steps of these requests, in their order
abbrev pub AreTheirSteps : List Exchange → List Step → Type 0
AreTheirSteps [] steps = steps ≡ []
AreTheirSteps (e ∷ es) steps =
    (first : List Step) × (others : List Step) × (steps ≡ first ++ others)
    × AreStepsBy e.now e.request.body e.verdict e.course first × AreTheirSteps es others
