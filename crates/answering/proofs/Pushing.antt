-- From windows of streams to all of them.
use Rattle.std.proofs.Common.{◌≡◌, ◌≢◌, ℕ, suc, ◌+◌, ◌<◌, ◌≤◌, Bool, true, false, All, List, [], ◌∷◌, ◌++◌, length, map, drop, get_or, slice_index_or, Option, None, Some, is_some, Result, Ok, Err, refl, sym, ap, ◌∙◌, subst, append_assoc, add-one, drop-cons, arith}
use Rattle.std.proofs.lemmas.List.{append-nil, length-drop}
use Rattle.std.proofs.lemmas.List.Elements.{All-nil, All-cons, All-head, All-tail}
use Rattle.labels.specs.Faults.{first_fault}
use Rattle.labels.specs.declared.fault.LabelFault.{LabelFault}
use Rattle.accept.specs.declared.call.Call.{Call}
use Rattle.accept.specs.declared.call.Reply.{Reply}
use Rattle.requests.specs.declared.answer.Answer.{Answer}
use Rattle.accept.specs.Doubts.{is_doubt}
use Rattle.accept.specs.declared.fault.CallFault.{CallFault}
use Rattle.answering.specs.Asking.{Asked, IsCallOf}
use Rattle.answering.specs.Calls.{Giving, Came, CallsGive, CallsGiveAfter}
use Rattle.answering.specs.Calls as cames
use Rattle.answering.specs.declared.lines.PushLines.{PushLines}
use Rattle.answering.specs.declared.responding.NoAnswer.{NoAnswer}
use Rattle.answering.specs.declared.responding.NoAnswer.TheVariants.{Failed, GivenUp}
use Rattle.answering.specs.Courses.{first_failure, behind_failure, doubt_behind, StreamGives, StreamsGive, StreamsGiveAfter}
use Rattle.answering.specs.Lines.{push_status, lines_from, came_lines}
use Rattle.answering.specs.Parts.{BodyIsAnswered}
use Rattle.answering.specs.Showing.{IsShown}
use Rattle.answering.specs.Telling.{Tells, CameIsNoted}
use Rattle.answering.specs.Demands.{StreamsAreTold}
use Rattle.answering.specs.Windows.{AreStreams, called, came_of, no_answer_by, merged, EndsSo, StopsAmong, AreNoted, AreNotedUpTo, AreNotedTo, StreamsAreTaken, WindowIsTaken}

-- the next stream of a push: its labels are refused, or it has a call
module _ (tenant : List ℕ) (all : List Asked) (places : List (Option LabelFault)) (calls : List Call) where
  module _ (a : Asked) (more : List Asked) (so_far : (ps : List (Option LabelFault)) (cs : List Call) → AreStreams tenant (a ∷ more) ps cs → AreStreams tenant all (places ++ ps) (calls ++ cs)) where
    pub refused_more : (fault : LabelFault) → first_fault a.pairs ≡ Some fault
        → (ps : List (Option LabelFault)) (cs : List Call) → AreStreams tenant more ps cs → AreStreams tenant all ((places ++ Some fault ∷ []) ++ ps) (calls ++ cs)
    refused_more fault is ps cs are = subst (λ l. AreStreams tenant all l (calls ++ cs)) (sym (append_assoc places (Some fault ∷ []) ps)) (so_far (Some fault ∷ ps) cs (is, are))

    pub called_more : (call : Call) → IsCallOf tenant a call
        → (ps : List (Option LabelFault)) (cs : List Call) → AreStreams tenant more ps cs → AreStreams tenant all ((places ++ None ∷ []) ++ ps) ((calls ++ call ∷ []) ++ cs)
    called_more call is ps cs are =
        subst (λ l. AreStreams tenant all l ((calls ++ call ∷ []) ++ cs)) (sym (append_assoc places (None ∷ []) ps))
        (subst (AreStreams tenant all (places ++ None ∷ ps)) (sym (append_assoc calls (call ∷ []) cs)) (so_far (None ∷ ps) (call ∷ cs) (is, are)))

  pub streams_all : ((ps : List (Option LabelFault)) (cs : List Call) → AreStreams tenant [] ps cs → AreStreams tenant all (places ++ ps) (calls ++ cs)) → AreStreams tenant all places calls
  streams_all so_far = subst (λ l. AreStreams tenant all l calls) (append-nil places) (subst (AreStreams tenant all (places ++ [])) (append-nil calls) (so_far [] [] tt))

both : (P : Call → Type 0) (calls left : List Call) → All P (calls ++ left) → All P calls × All P left
both P [] left all = (All-nil P, all)
both P (c ∷ calls) left all =
    let (first, others) = both P calls left (All-tail P c (calls ++ left) all) in
    (All-cons P c calls (All-head P c (calls ++ left) all) first, others)

-- what is true of the calls of a window, and of those that are left
pub parted : (P : Call → Type 0) (old calls left : List Call) → old ≡ calls ++ left → All P old → All P calls × All P left
parted P old calls left split all = both P calls left (subst (All P) split all)

-- there is a call for each place that has one
pub counted : (tenant : List ℕ) (all : List Asked) (places : List (Option LabelFault)) (calls : List Call) → AreStreams tenant all places calls → length calls ≡ called places
counted tenant [] [] [] are = refl
counted tenant (a ∷ more) (Some fault ∷ ps) cs are = counted tenant more ps cs are.1
counted tenant (a ∷ more) (None ∷ ps) (c ∷ cs) are = let same = counted tenant more ps cs are.1 in omega (arith, same)
counted tenant all places calls never = absurd never

pub called_append : (ps qs : List (Option LabelFault)) → called (ps ++ qs) ≡ called ps + called qs
called_append [] qs = omega arith
called_append (Some fault ∷ ps) qs = called_append ps qs
called_append (None ∷ ps) qs = let same = called_append ps qs in omega (arith, same)

pub called_most : (ps : List (Option LabelFault)) → called ps ≤ length ps
called_most [] = omega arith
called_most (Some fault ∷ ps) = let most = called_most ps in omega (arith, most)
called_most (None ∷ ps) = let most = called_most ps in omega (arith, most)

-- the streams of the first places, and those of the others
streams_split : (tenant : List ℕ) (all : List Asked) (ps qs : List (Option LabelFault)) (cs ds : List Call) → AreStreams tenant all (ps ++ qs) (cs ++ ds) → length cs ≡ called ps
    → (done : List Asked) × (more : List Asked) × (all ≡ done ++ more) × AreStreams tenant done ps cs × AreStreams tenant more qs ds
streams_split tenant all [] qs [] ds are count = ([], all, refl, tt, are)
streams_split tenant all [] qs (c ∷ cs) ds are count = absurd (omega (arith, count))
streams_split tenant [] (p ∷ ps) qs cs ds are count = absurd are
streams_split tenant (a ∷ all) (Some fault ∷ ps) qs cs ds are count =
    let (done, more, split, first, others) = streams_split tenant all ps qs cs ds are.1 count in
    (a ∷ done, more, ap (λ l. a ∷ l) split, (are.0, first), others)
streams_split tenant (a ∷ all) (None ∷ ps) qs [] ds are count = absurd (omega (arith, count))
streams_split tenant (a ∷ all) (None ∷ ps) qs (c ∷ cs) ds are count =
    let (done, more, split, first, others) = streams_split tenant all ps qs cs ds are.1 (omega (arith, count)) in
    (a ∷ done, more, ap (λ l. a ∷ l) split, (are.0, first), others)

merged_length : (places : List (Option LabelFault)) (outcomes : List (Result Reply CallFault)) → called places ≡ length outcomes → length (merged places outcomes) ≡ length places
merged_length [] outcomes due = refl
merged_length (Some fault ∷ ps) outcomes due = let same = merged_length ps outcomes due in omega (arith, same)
merged_length (None ∷ ps) [] due = absurd (omega (arith, due))
merged_length (None ∷ ps) (r ∷ rs) due = let same = merged_length ps rs (omega (arith, due)) in omega (arith, same)

-- what came at the place k, and after it
module _ (places : List (Option LabelFault)) (k : ℕ) (within : k < length places) (d : Option LabelFault) where
  cut : (place : Option LabelFault) → get_or places k d ≡ place → drop k places ≡ place ∷ drop (k + 1) places
  cut place is = rw add-one (drop-cons places k d within ∙ ap (λ x. x ∷ drop (suc k) places) is)

  pub next_refused : (fault : LabelFault) (outcomes : List (Result Reply CallFault)) → get_or places k d ≡ Some fault
      → (merged (drop k places) outcomes ≡ cames.Refused fault ∷ merged (drop (k + 1) places) outcomes) × (called (drop k places) ≡ called (drop (k + 1) places))
  next_refused fault outcomes is = let at = cut (Some fault) is in (ap (λ l. merged l outcomes) at, ap called at)

  pub next_came : (outcome : Result Reply CallFault) (outcomes : List (Result Reply CallFault)) → get_or places k d ≡ None
      → (merged (drop k places) (outcome ∷ outcomes) ≡ came_of outcome ∷ merged (drop (k + 1) places) outcomes) × (called (drop k places) ≡ called (drop (k + 1) places) + 1)
  next_came outcome outcomes is = let at = cut None is in (ap (λ l. merged l (outcome ∷ outcomes)) at, ap called at)

  pub next_called : (place : Option LabelFault) → get_or places k d ≡ place → is_some place ≡ false → called (drop k places) ≡ called (drop (k + 1) places) + 1
  next_called None is none = ap called (cut None is)
  next_called (Some fault) is none = absurd (cc)

  pub next_uncalled : (place : Option LabelFault) → get_or places k d ≡ place → is_some place ≡ true → called (drop k places) ≡ called (drop (k + 1) places)
  next_uncalled None is some = absurd (cc)
  next_uncalled (Some fault) is some = ap called (cut (Some fault) is)

-- as many stand behind the first
pub length_behind : {X : Type 0} (first count : ℕ) (xs : List X) → first + count ≡ length xs → count ≡ length (drop first xs)
length_behind first count xs all = let same = length-drop first xs in omega (arith, same, all)

-- the outcome at the place n, and those after it
pub outcome_at : (outcomes : List (Result Reply CallFault)) (n : ℕ) (outcome : Result Reply CallFault) → n < length outcomes → outcome ≡ slice_index_or outcomes n outcome → drop n outcomes ≡ outcome ∷ drop (n + 1) outcomes
outcome_at outcomes n outcome within is = rw add-one (drop-cons outcomes n outcome within ∙ ap (λ x. x ∷ drop (suc n) outcomes) (sym is))

few_behind : (cs : List Came) (failure : CallFault) → first_failure cs ≡ Some failure → behind_failure cs < length cs
few_behind [] failure is = absurd (cc)
few_behind (cames.Failed f ∷ cs) failure is = omega arith
few_behind (c ∷ cs) failure is = let below = few_behind cs failure is in omega arith

failure_behind : (cs ds : List Came) → first_failure cs ≡ None → first_failure (cs ++ ds) ≡ first_failure ds
failure_behind [] ds none = refl
failure_behind (cames.Failed f ∷ cs) ds none = absurd (cc)
failure_behind (c ∷ cs) ds none = failure_behind cs ds none

same_behind : (cs ds : List Came) → first_failure cs ≡ None → behind_failure (cs ++ ds) ≡ behind_failure ds
same_behind [] ds none = refl
same_behind (cames.Failed f ∷ cs) ds none = absurd (cc)
same_behind (c ∷ cs) ds none = same_behind cs ds none

-- streams fail as their calls do
pub same_failure : (places : List (Option LabelFault)) (outcomes : List (Result Reply CallFault)) → called places ≡ length outcomes → first_failure (merged places outcomes) ≡ first_failure (map came_of outcomes)
same_failure [] [] due = refl
same_failure [] (r ∷ rs) due = absurd (omega (arith, due))
same_failure (Some fault ∷ ps) outcomes due = same_failure ps outcomes due
same_failure (None ∷ ps) [] due = absurd (omega (arith, due))
same_failure (None ∷ ps) (Ok reply ∷ rs) due = same_failure ps rs (omega (arith, due))
same_failure (None ∷ ps) (Err failure ∷ rs) due = refl

-- what came of a window is taken into the lines
module _ (before all : List Came) where
  module _ (came : Came) (left : List Came) (lines new : PushLines) (p : AreNotedTo before all (came ∷ left) lines) where
    pub noted_more : (u : Unit {0}) → CameIsNoted came lines (Ok u) new → AreNotedTo before all left new
    noted_more u (whole, tells) = record {
      noted = p.noted ++ came ∷ [];
      split = p.split ∙ sym (append_assoc p.noted (came ∷ []) left);
      whole = failure_behind p.noted (came ∷ []) p.whole ∙ whole;
      tells = tells p.noted p.tells;
      few = omega (arith, p.few);
    }

    pub noted_no_answer : (no_answer : NoAnswer) → CameIsNoted came lines (Err no_answer) new → AreNotedUpTo before all (Err no_answer) new
    noted_no_answer (Failed failure) is = ap first_failure p.split ∙ failure_behind p.noted (came ∷ left) p.whole ∙ ap (λ c. first_failure (c ∷ left)) is
    noted_no_answer GivenUp (whole, said) = record {
      first = p.noted;
      last = came;
      behind = left;
      split = p.split;
      said = subst (λ (n : ℕ). came_lines n came ≢ []) p.tells.streams said;
      few = omega (arith, p.few);
    }

-- where there was no memory for the lines, what is told is the first failure, if there is one
pub noted_up_to : (before : List Came) (places : List (Option LabelFault)) (outcomes : List (Result Reply CallFault)) (new : PushLines) → called places ≡ length outcomes → first_failure before ≡ None
    → (failure : Option CallFault) → first_failure (map came_of outcomes) ≡ failure → StopsAmong before (merged places outcomes) → AreNoted before (merged places outcomes) (Err (no_answer_by failure)) new
noted_up_to before places outcomes new due whole (Some failure) is stops = failure_behind before (merged places outcomes) whole ∙ same_failure places outcomes due ∙ is
noted_up_to before places outcomes new due whole None is stops = (failure_behind before (merged places outcomes) whole ∙ same_failure places outcomes due ∙ is, stops)

module _ {H : Type 0} (gives : Giving H) (tenant : List ℕ) where
  pub came_given : (doubt : Bool) (h h' : H) (asked : Asked) (call : Call) (outcome : Result Reply CallFault) → IsCallOf tenant asked call → gives doubt h call outcome h' → StreamGives gives tenant doubt h asked (came_of outcome) h'
  came_given doubt h h' asked call (Ok reply) is given = (call, is, given)
  came_given doubt h h' asked call (Err failure) is given = (call, is, given)

  same_doubt : (doubt : Bool) (outcome : Result Reply CallFault) → is_doubt outcome ≡ doubt_behind doubt (came_of outcome)
  same_doubt doubt (Ok reply) = refl
  same_doubt doubt (Err failure) = refl

  -- where calls were made, what came of their streams is told by the places and the outcomes
  given_streams : (doubt : Bool) (h h' : H) (asked : List Asked) (places : List (Option LabelFault)) (calls : List Call) (outcomes : List (Result Reply CallFault)) → AreStreams tenant asked places calls
      → CallsGiveAfter gives doubt h calls outcomes h' → StreamsGiveAfter gives tenant doubt h asked (merged places outcomes) h'
  given_streams doubt h h' [] [] [] [] are given = given
  given_streams doubt h h' [] [] [] (r ∷ rs) are given = absurd given
  given_streams doubt h h' (a ∷ asked) (Some fault ∷ ps) cs outcomes are given = (h, (are.0, refl), given_streams doubt h h' asked ps cs outcomes are.1 given)
  given_streams doubt h h' (a ∷ asked) (None ∷ ps) (c ∷ cs) [] are given = absurd given
  given_streams doubt h h' (a ∷ asked) (None ∷ ps) (c ∷ cs) (r ∷ rs) are (mid, is, given) =
      let others = given_streams (is_doubt r) mid h' asked ps cs rs are.1 given in (
        mid,
        came_given doubt h mid a c r are.0 is,
        subst (λ (b : Bool). StreamsGiveAfter gives tenant b mid asked (merged ps rs) h') (same_doubt doubt r) others,
      )
  given_streams doubt h h' asked places calls outcomes never given = absurd never

  -- where none of the first failed
  streams_append : (h m h' : H) (done : List Asked) (cs : List Came) (more : List Asked) (ds : List Came) → first_failure cs ≡ None → StreamsGive gives tenant h done cs m → StreamsGive gives tenant m more ds h'
      → StreamsGive gives tenant h (done ++ more) (cs ++ ds) h'
  streams_append h m h' [] [] more ds none same others = subst (λ k. StreamsGive gives tenant k more ds h') same others
  streams_append h m h' (a ∷ done) (cames.Failed failure ∷ cs) more ds none given others = absurd (cc)
  streams_append h m h' (a ∷ done) (c ∷ cs) more ds none (mid, first, each) others = (mid, first, streams_append mid m h' done cs more ds none each others)
  streams_append h m h' done cs more ds none never others = absurd never

  module _ (h : H) (all : List Asked) where
    pub starts : (places : List (Option LabelFault)) (calls : List Call) (lines : PushLines) → AreStreams tenant all places calls → Tells [] lines → StreamsAreTaken gives tenant h all h places calls lines
    starts places calls lines are tells = record { done = []; more = all; cames = []; split = refl; left = are; each = refl; whole = refl; tells = tells }

    -- a call of a window failed, or there was no memory for its lines
    ended : (m' : H) (done rest : List Asked) (before window : List Came) (no_answer : NoAnswer) → all ≡ done ++ rest → StreamsGive gives tenant h done (before ++ window) m' → first_failure before ≡ None → length window ≤ 64 → EndsSo no_answer before window
        → BodyIsAnswered gives tenant h all (Err no_answer) m'
    ended m' done rest before window (Failed failure) split each whole few fails =
        let below = few_behind window failure (sym (failure_behind before window whole) ∙ fails) in (
          before ++ window,
          record { done = done; more = rest; split = split; each = each; fails = fails; few = subst (λ (n : ℕ). n < 64) (sym (same_behind before window whole)) (omega (arith, below, few)) },
        )
    ended m' done rest before window GivenUp split each whole few (none, s) = record {
      done = done;
      more = rest;
      cames = s.first;
      last = s.last;
      behind = s.behind;
      split = split;
      each = subst (λ l. StreamsGive gives tenant h done l m') s.split each;
      whole = sym (ap first_failure s.split) ∙ none;
      said = s.said;
      few = omega (arith, s.few, few);
    }

    -- what became of a window, in which these calls were made
    module _ (m m' : H) (window more : List (Option LabelFault)) (old calls left : List Call) (outcomes : List (Result Reply CallFault)) (lines new : PushLines)
        (taken : StreamsAreTaken gives tenant h all m (window ++ more) old lines) (split : old ≡ calls ++ left) (count : length calls ≡ called window) (due : called window ≡ length outcomes)
        (few : length window ≤ 64) (given : CallsGive gives m calls outcomes m') where
      parts : (done : List Asked) × (rest : List Asked) × (all ≡ done ++ rest) × StreamsGive gives tenant h done (taken.cames ++ merged window outcomes) m' × AreStreams tenant rest more left
      parts =
          let (done, rest, is, first, others) = streams_split tenant taken.more window more calls left (subst (AreStreams tenant taken.more (window ++ more)) split taken.left) count in (
            taken.done ++ done,
            rest,
            taken.split ∙ ap (λ l. taken.done ++ l) is ∙ sym (append_assoc taken.done done rest),
            streams_append h m m' taken.done taken.cames done (merged window outcomes) taken.whole taken.each (given_streams false m m' done window calls outcomes first given),
            others,
          )

      abbrev pub Noted : Result (Unit {0}) NoAnswer → Type 0
      Noted result = (before : List Came) → Tells before lines → first_failure before ≡ None → AreNoted before (merged window outcomes) result new

      pub window_taken : (result : Result (Unit {0}) NoAnswer) → Noted result → WindowIsTaken gives tenant h all result m' more left new
      window_taken (Ok u) noted =
          let (done, rest, is, each, others) = parts in
          let (whole, tells) = noted taken.cames taken.tells taken.whole in
          record { done = done; more = rest; cames = taken.cames ++ merged window outcomes; split = is; left = others; each = each; whole = whole; tells = tells }
      window_taken (Err no_answer) noted =
          let (done, rest, is, each, others) = parts in
          ended m' done rest taken.cames (merged window outcomes) no_answer is each taken.whole (omega (arith, merged_length window outcomes due, few)) (noted taken.cames taken.tells taken.whole)

    none_more : (more : List Asked) (calls : List Call) → AreStreams tenant more [] calls → more ≡ []
    none_more [] calls are = refl
    none_more (a ∷ more) calls are = absurd are

    pub ends : (m : H) (calls : List Call) (lines : PushLines) → StreamsAreTaken gives tenant h all m [] calls lines
        → (answer : Answer) → ((cs : List Came) → Tells cs lines → IsShown (push_status cs) (lines_from 0 cs) answer) → BodyIsAnswered gives tenant h all (Ok answer) m
    ends m calls lines taken answer shows =
        let is : taken.done ≡ all = sym (append-nil taken.done) ∙ ap (λ l. taken.done ++ l) (sym (none_more taken.more calls taken.left)) ∙ sym taken.split in
        (taken.cames, subst (λ l. StreamsGive gives tenant h l taken.cames m) is taken.each, taken.whole, shows taken.cames taken.tells)

    -- the answer to a push whose calls were made together
    pub streams_told : (h' : H) (places : List (Option LabelFault)) (calls : List Call) (outcomes : List (Result Reply CallFault)) → AreStreams tenant all places calls → called places ≡ length outcomes → length places ≤ 64
        → CallsGive gives h calls outcomes h' → (result : Result Answer NoAnswer) → StreamsAreTold places outcomes result → BodyIsAnswered gives tenant h all result h'
    streams_told h' places calls outcomes are due few given (Ok answer) (none, shows) = (merged places outcomes, given_streams false h h' all places calls outcomes are given, none, shows)
    streams_told h' places calls outcomes are due few given (Err no_answer) ends =
        ended h' all [] [] (merged places outcomes) no_answer (sym (append-nil all)) (given_streams false h h' all places calls outcomes are given) refl (omega (arith, merged_length places outcomes due, few)) ends
