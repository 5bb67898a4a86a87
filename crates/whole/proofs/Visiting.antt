-- What a visit answered, and the steps behind it.
use Rattle.std.proofs.Common.{◌≡◌, ◌⊎◌, ℕ, List, [], ◌∷◌, ◌++◌, take, length, Option, None, Some, Result, Ok, Err, refl, sym, ap, ◌∙◌, subst, inl, inr, ⊎_elim, append-nil}
use Rattle.std.proofs.Math.Seq.{take-length}
use Rattle.std.specs.List.{flat_map}
use Rattle.headline.proofs.Common.{Step, Passed, Opening, Happening, IsOneOf, among_split}
use Rattle.pushjson.specs.declared.fault.PushFault.TheVariants as bodies
use Rattle.whole.proofs.Common.{ServeFault, Verdict, Came, Course, Unread, Whole, Broken, first_failure, Known, among, Exchange, World, response, VerdictGives, IsSilent, IsNextResponse, ConnectionGives, ConnectionEnds, ConnectionIsAnswered, AreStepsBy, Visited, More, Unfinished, Closed, CallGives, Visit, IsKeptOrNot, IsVisited, steps_among, IsAskedIn, IsNextOf}
use Rattle.requests.specs.declared.fault.ServeFault.TheVariants.{Read, Write, Memory, CutShort}
use Rattle.requests.specs.declared.fault.Served.{Served}
use Rattle.requests.specs.declared.fault.Served.TheVariants as served
use Rattle.requests.specs.declared.verdict.Verdict.TheVariants.{Fixed, Call, NoMemory}
use Rattle.std.proofs.lemmas.List.{append_cancel_left}
use Rattle.answering.specs.Visits.{KeepsOn, IsOver}
use Rattle.whole.proofs.Happening.{HappenFrom, into_left, into_right, one_of_both, both, nothing, asked_after, its_happenings, left_happenings}

-- the steps of a request are among these, and where all its calls came back none failed
pub record IsCalledBy (steps : List Step) (e : Exchange) : Type 0 where
  pub its : List Step
  pub its_are : AreStepsBy e.now e.request.body e.verdict e.course its
  pub among : (s : Step) → IsOneOf s its → IsOneOf s steps
  pub whole : (cames : List Came) → e.course ≡ Whole cames → first_failure cames ≡ None

pub called_more : (steps more : List Step) (e : Exchange) → ((s : Step) → IsOneOf s steps → IsOneOf s more) → IsCalledBy steps e → IsCalledBy more e
called_more steps more e into c = record { its = c.its; its_are = c.its_are; among = λ s one. into s (c.among s one); whole = c.whole }

whole_of : (now : ℕ) (body : List ℕ) (h h' : Known Passed) (verdict : Verdict) (course : Course) → VerdictGives (among CallGives) now body verdict h course h' → (cames : List Came) → course ≡ Whole cames → first_failure cames ≡ None
whole_of now body h h' (Fixed answer) course (what, same) cames e = let both : Whole [] ≡ Whole cames = sym what ∙ e in let none : [] ≡ cames = cc in subst (λ l. first_failure l ≡ None) none refl
whole_of now body h h' (Call route tenant) (Unread fault) takes cames e = absurd (cc)
whole_of now body h h' (Call route tenant) (Whole cs) takes cames e = let same : cs ≡ cames = cc in subst (λ l. first_failure l ≡ None) same takes.goes.3
whole_of now body h h' (Call route tenant) (Broken cs failure) takes cames e = absurd (cc)
whole_of now body h h' NoMemory course (what, same) cames e = absurd (let both : Unread bodies.Memory ≡ Whole cames = sym what ∙ e in cc)

whole : (text all : List ℕ) → text ≡ all → text ≡ take (length all) all
whole text all is = is ∙ sym (take-length all)

take_nothing : (all : List ℕ) → [] ≡ take 0 all
take_nothing [] = refl
take_nothing (x ∷ xs) = refl

module _ {C : Type 0} (ticks : C → ℕ → C → Type 0) where
  -- what a visit answered, where each call that got a reply has one of these steps
  pub record Answers (v : Visit C) (steps : List Step) : Type 0 where
    pub exchanges : List Exchange
    pub mid : List ℕ
    pub between : World (Known Passed) C
    pub serves : ConnectionGives (among CallGives) ticks (v.held ++ v.taken) v.before exchanges mid between
    pub last : List Exchange
    pub refusal : List ℕ
    pub some : ℕ
    pub next : IsNextOf ticks mid last refusal
    pub is : v.text ≡ flat_map response exchanges ++ take some (flat_map response last ++ refusal)
    pub left : IsKeptOrNot v.result ((last ≡ []) × (refusal ≡ []) × (v.rest ≡ mid)) (Unit {0})
    pub calls : (e : Exchange) → IsOneOf e (exchanges ++ last) → IsCalledBy steps e

module _ {D C : Type 0} (ticks : C → ℕ → C → Type 0) (opening : Opening D) where
  -- whole requests happened
  record Went (bytes : List ℕ) (w : World (Known Passed) C) (es : List Exchange) (w' : World (Known Passed) C) : Type 0 where
    pub happened : List Happening
    pub happen : HappenFrom opening w.knows happened w'.knows
    pub calls : (e : Exchange) → IsOneOf e es → IsCalledBy (steps_among happened) e
    pub asked : (s : Step) → IsOneOf s (steps_among happened) → IsAskedIn bytes s.ask.call

  went : (bytes : List ℕ) (w : World (Known Passed) C) (es : List Exchange) (rest : List ℕ) (w' : World (Known Passed) C) → ConnectionGives (among CallGives) ticks bytes w es rest w' → Went bytes w es w'
  went bytes w [] rest w' (same, still) = record { happened = []; happen = nothing opening w.knows w'.knows (ap (λ x. x.knows) still); calls = λ e one. absurd one; asked = λ s one. absurd one }
  went bytes w (e ∷ es) rest w' (mid, between, x, stays, others) =
      let (first, happen, are, asked) = its_happenings ticks opening bytes w e mid between x in
      let more = went mid between es rest w' others in
      record {
        happened = first ++ more.happened;
        happen = both opening w.knows between.knows w'.knows first more.happened happen more.happen;
        calls = λ d one. ⊎_elim
            (λ (same : d ≡ e). subst (IsCalledBy (steps_among (first ++ more.happened))) (sym same) (record { its = steps_among first; its_are = are; among = into_left first more.happened; whole = whole_of e.now e.request.body w.knows between.knows e.verdict e.course x.calls }))
            (λ (t : IsOneOf d es). called_more (steps_among more.happened) (steps_among (first ++ more.happened)) d (into_right first more.happened) (more.calls d t))
            one;
        asked = λ s one. ⊎_elim
            (λ (l : IsOneOf s (steps_among first)). asked s l)
            (λ (r : IsOneOf s (steps_among more.happened)). asked_after ticks bytes w (e ∷ []) mid between s.ask.call (mid, between, x, stays, (refl, refl)) (more.asked s r))
            (one_of_both first more.happened s one);
      }

  -- what happened after the last whole response, where this was put behind it
  record Tail (mid : List ℕ) (w : World (Known Passed) C) (text : List ℕ) (w' : World (Known Passed) C) : Type 0 where
    pub happened : List Happening
    pub happen : HappenFrom opening w.knows happened w'.knows
    pub last : List Exchange
    pub refusal : List ℕ
    pub some : ℕ
    pub next : IsNextOf ticks mid last refusal
    pub is : text ≡ take some (flat_map response last ++ refusal)
    pub calls : (e : Exchange) → IsOneOf e last → IsCalledBy (steps_among happened) e
    pub asked : (s : Step) → IsOneOf s (steps_among happened) → IsAskedIn mid s.ask.call

  quiet : (mid : List ℕ) (w : World (Known Passed) C) (text : List ℕ) (w' : World (Known Passed) C) → IsSilent (among CallGives) ticks w text w' → Tail mid w text w'
  quiet mid w text w' (none, still) = record {
    happened = [];
    happen = nothing opening w.knows w'.knows (ap (λ x. x.knows) still);
    last = [];
    refusal = [];
    some = 0;
    next = inl refl;
    is = none;
    calls = λ e one. absurd one;
    asked = λ s one. absurd one;
  }

  -- a beginning of the next response, or all
  next_part : (mid all text : List ℕ) (n : ℕ) (w w' : World (Known Passed) C) → IsNextResponse (among CallGives) ticks mid w all w' → text ≡ take n all → Tail mid w text w'
  next_part mid all text n w w' (inl (e, left, x, said)) is =
      let (hs, happen, are, asked) = its_happenings ticks opening mid w e left w' x in
      record {
        happened = hs;
        happen = happen;
        last = e ∷ [];
        refusal = [];
        some = n;
        next = (refl, (left, w, w', x));
        is = is ∙ ap (take n) (said ∙ sym (append-nil (response e)) ∙ sym (append-nil (response e ++ [])));
        calls = λ d one. ⊎_elim
            (λ (same : d ≡ e). subst (IsCalledBy (steps_among hs)) (sym same) (record { its = steps_among hs; its_are = are; among = λ s of. of; whole = whole_of e.now e.request.body w.knows w'.knows e.verdict e.course x.calls }))
            (λ (never : ⊥). absurd never)
            one;
        asked = asked;
      }
  next_part mid all text n w w' (inr (why, refused, said, still)) is = record {
    happened = [];
    happen = nothing opening w.knows w'.knows (ap (λ x. x.knows) still);
    last = [];
    refusal = all;
    some = n;
    next = inr (why, refused, said);
    is = is;
    calls = λ e one. absurd one;
    asked = λ s one. absurd one;
  }

  -- nothing of what happened was answered
  unsaid : (mid : List ℕ) (w : World (Known Passed) C) (text : List ℕ) (w' : World (Known Passed) C) (hs : List Happening) → HappenFrom opening w.knows hs w'.knows → ((s : Step) → IsOneOf s (steps_among hs) → IsAskedIn mid s.ask.call) → text ≡ [] → Tail mid w text w'
  unsaid mid w text w' hs happen asked none = record { happened = hs; happen = happen; last = []; refusal = []; some = 0; next = inl refl; is = none; calls = λ e one. absurd one; asked = asked }

  ends : (mid : List ℕ) (left : Option (List ℕ)) (w : World (Known Passed) C) (text : List ℕ) (w' : World (Known Passed) C) (result : Result Served ServeFault) → ConnectionEnds (among CallGives) ticks mid left w text w' result → Tail mid w text w'
  ends mid left w text w' (Ok served.Ended) (none, end, silent) = quiet mid w text w' silent
  ends mid left w text w' (Ok served.Closed) (inl (e, more, x, stops, said)) = next_part mid text text (length text) w w' (inl (e, more, x, said)) (whole text text refl)
  ends mid left w text w' (Ok served.Closed) (inr turned) = next_part mid text text (length text) w w' (inr turned) (whole text text refl)
  ends mid left w text w' (Err CutShort) (cut, end, silent) = quiet mid w text w' silent
  ends mid left w text w' (Err Read) (unbegun, silent) = quiet mid w text w' silent
  ends mid left w text w' (Err Write) (n, all, is, said) = next_part mid all text n w w' is said
  ends mid left w text w' (Err Memory) (none, inl (unbegun, silent)) = quiet mid w text w' silent
  ends mid left w text w' (Err Memory) (none, inr (inl (inl (e, more, x, told)))) = next_part mid (response e) text 0 w w' (inl (e, more, x, refl)) (none ∙ take_nothing (response e))
  ends mid left w text w' (Err Memory) (none, inr (inl (inr (all, turned)))) = next_part mid all text 0 w w' (inr turned) (none ∙ take_nothing all)
  ends mid left w text w' (Err Memory) (none, inr (inr gave_up)) = let (hs, happen, asked) = left_happenings ticks opening mid w w' gave_up in unsaid mid w text w' hs happen asked none

  -- how a visit leaves its connection
  abbrev no_exchange : List Exchange
  no_exchange = []

  abbrev no_text : List ℕ
  no_text = []

  kept_left : (v : Visit C) (r : Result Visited ServeFault) → IsKeptOrNot r (Unit {0}) ⊥ → IsKeptOrNot r ((no_exchange ≡ []) × (no_text ≡ []) × (v.rest ≡ v.rest)) (Unit {0})
  kept_left v (Ok Closed) never = tt
  kept_left v (Err fault) never = tt
  kept_left v r u = (refl, refl, refl)

  over_left : (P : Type 0) (r : Result Visited ServeFault) → IsKeptOrNot r ⊥ (Unit {0}) → IsKeptOrNot r P (Unit {0})
  over_left P (Ok Closed) u = tt
  over_left P (Err fault) u = tt
  over_left P r never = absurd never

  -- A visit happened: it answered requests, and each step is of a call that one of its requests asks for.
  pub record Happened (v : Visit C) : Type 0 where
    pub happened : List Happening
    pub happen : HappenFrom opening v.before.knows happened v.after.knows
    pub answers : Answers ticks v (steps_among happened)
    pub asked : (s : Step) → IsOneOf s (steps_among happened) → IsAskedIn (v.held ++ v.taken) s.ask.call

  kept_happened : (v : Visit C) → KeepsOn (among CallGives) ticks (Some v.waiting) (Some (v.waiting ++ v.text)) (v.held ++ v.taken) v.before v.rest v.after → IsKeptOrNot v.result (Unit {0}) ⊥ → Happened v
  kept_happened v k kept =
      let its = went (v.held ++ v.taken) v.before k.exchanges v.rest v.after k.serves in
      record {
        happened = its.happened;
        happen = its.happen;
        answers = record {
          exchanges = k.exchanges;
          mid = v.rest;
          between = v.after;
          serves = k.serves;
          last = [];
          refusal = [];
          some = 0;
          next = inl refl;
          is = append_cancel_left v.waiting v.text (flat_map response k.exchanges) k.appends ∙ sym (append-nil (flat_map response k.exchanges));
          left = kept_left v v.result kept;
          calls = λ e one. its.calls e (subst (IsOneOf e) (append-nil k.exchanges) one);
        };
        asked = its.asked;
      }

  over_happened : (v : Visit C) (result : Result Served ServeFault) → IsOver (among CallGives) ticks (Some v.waiting) (Some (v.waiting ++ v.text)) (v.held ++ v.taken) None v.before v.after result → IsKeptOrNot v.result ⊥ (Unit {0}) → Happened v
  over_happened v result o over =
      let a : ConnectionIsAnswered (among CallGives) ticks (v.held ++ v.taken) None v.before o.text v.after result = o.served in
      let first = went (v.held ++ v.taken) v.before a.exchanges a.rest a.between a.serves in
      let tail = ends a.rest None a.between a.last v.after result a.finishes in
      record {
        happened = first.happened ++ tail.happened;
        happen = both opening v.before.knows a.between.knows v.after.knows first.happened tail.happened first.happen tail.happen;
        answers = record {
          exchanges = a.exchanges;
          mid = a.rest;
          between = a.between;
          serves = a.serves;
          last = tail.last;
          refusal = tail.refusal;
          some = tail.some;
          next = tail.next;
          is = append_cancel_left v.waiting v.text o.text o.appends ∙ a.written ∙ ap (λ l. flat_map response a.exchanges ++ l) tail.is;
          left = over_left ((tail.last ≡ []) × (tail.refusal ≡ []) × (v.rest ≡ a.rest)) v.result over;
          calls = λ e one. ⊎_elim
              (λ (l : IsOneOf e a.exchanges). called_more (steps_among first.happened) (steps_among (first.happened ++ tail.happened)) e (into_left first.happened tail.happened) (first.calls e l))
              (λ (r : IsOneOf e tail.last). called_more (steps_among tail.happened) (steps_among (first.happened ++ tail.happened)) e (into_right first.happened tail.happened) (tail.calls e r))
              (among_split e a.exchanges tail.last one);
        };
        asked = λ s one. ⊎_elim
            (λ (l : IsOneOf s (steps_among first.happened)). first.asked s l)
            (λ (r : IsOneOf s (steps_among tail.happened)). asked_after ticks (v.held ++ v.taken) v.before a.exchanges a.rest a.between s.ask.call a.serves (tail.asked s r))
            (one_of_both first.happened tail.happened s one);
      }

  visit_happened : (held taken waiting text rest : List ℕ) (before after : World (Known Passed) C) (result : Result Visited ServeFault)
      → IsVisited ticks (record { held = held; taken = taken; waiting = waiting; text = text; rest = rest; before = before; after = after; result = result })
      → Happened (record { held = held; taken = taken; waiting = waiting; text = text; rest = rest; before = before; after = after; result = result })
  visit_happened held taken waiting text rest before after (Ok More) is = kept_happened _ is.0 tt
  visit_happened held taken waiting text rest before after (Ok (Unfinished n)) is = kept_happened _ is.0 tt
  visit_happened held taken waiting text rest before after (Ok Closed) is = over_happened _ (Ok served.Closed) is tt
  visit_happened held taken waiting text rest before after (Err Write) is = over_happened _ (Err Write) is tt
  visit_happened held taken waiting text rest before after (Err Memory) is = over_happened _ (Err Memory) is tt
  visit_happened held taken waiting text rest before after result never = absurd never

  pub happened_of : (v : Visit C) → IsVisited ticks v → Happened v
  happened_of v is = visit_happened v.held v.taken v.waiting v.text v.rest v.before v.after v.result is
