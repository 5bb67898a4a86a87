-- A connection's steps at its worker, as visits that join.
use Rattle.std.proofs.Common.{◌≡◌, ◌⊎◌, inl, inr, ℕ, ◌≤◌, ◌-◌, Bool, true, false, List, [], ◌∷◌, ◌++◌, length, take, drop, Some, Result, Ok, Err, refl, sym, ap, ◌∙◌, subst, arith}
use Rattle.std.proofs.lemmas.Bool.{true≢false}
use Rattle.std.proofs.lemmas.List.{append-nil, append_assoc, nil_from_length, take-append-drop}
use Rattle.std.proofs.lemmas.List.Concat.{flat_map-append}
use Rattle.std.specs.List.{flat_map}
use Rattle.history.specs.Handles.{Passed}
use Rattle.requests.specs.declared.fault.ServeFault.{ServeFault}
use Rattle.answering.specs.Connections.{Unended, IsLeftSo}
use Rattle.answering.specs.Gathering.{Known, among}
use Rattle.answering.specs.Serving.{World}
use Rattle.answering.specs.Visits.{IsVisit}
use Rattle.answering.specs.declared.visiting.Visited.{Visited}
use Rattle.answering.specs.declared.visiting.Visited.TheVariants.{More, Unfinished, Closed}
use Rattle.front.specs.Calls.{CallGives}
use Rattle.front.specs.Visits.{Visit, Line, bytes_of, text_put, IsKeptOrNot, AreJoined, IsVisited, AreVisited, IsVisitedLine}
use Rattle.talks.specs.Sockets.{SocketCall, heard_in, said_in}
use Rattle.talks.specs.Talks.{Seen, HasNothing, IsSame, with_heard, with_said, Steps, TalksFor, IsOfTalk}
use Rattle.front.specs.Sessions.{session_seen, WasVisited}
use Rattle.front.proofs.ServedPasses.{appended}

-- what holds of both ways
both_so : (A B E F : Type 0) (r : Result Visited ServeFault) → (A → B) → (E → F) → IsKeptOrNot r A E → IsKeptOrNot r B F
both_so A B E F (Ok More) kept ended is = kept is
both_so A B E F (Ok (Unfinished n)) kept ended is = kept is
both_so A B E F (Ok Closed) kept ended is = ended is
both_so A B E F (Err fault) kept ended is = ended is

-- it was kept, since it did not end
was_kept : (A E : Type 0) (r : Result Visited ServeFault) → (E → ⊥) → IsKeptOrNot r A E → A
was_kept A E (Ok More) never is = is
was_kept A E (Ok (Unfinished n)) never is = is
was_kept A E (Ok Closed) never is = absurd (never is)
was_kept A E (Err fault) never is = absurd (never is)

and_so : (A B E F : Type 0) (r : Result Visited ServeFault) → (E → ⊥) → IsKeptOrNot r A E → B → IsKeptOrNot r B F
and_so A B E F (Ok More) never is more = more
and_so A B E F (Ok (Unfinished n)) never is more = more
and_so A B E F (Ok Closed) never is more = absurd (never is)
and_so A B E F (Err fault) never is more = absurd (never is)

module _ {C : Type 0} where
  -- the visit that ended it was the last, and nothing may come
  abbrev Over : List (Visit C) → List ℕ → Seen → Type 0
  Over vs later s = (vs ≡ []) × (later ≡ []) × (s.closes ≡ true) × (s.room ≡ 0)

  -- Where a connection is whose visits join: it goes on with what the last one left and what came since. Or the last one
  -- ended it, and nothing may come.
  abbrev Stands : List ℕ → List (Visit C) → List ℕ → Seen → Type 0
  Stands held [] later s = (s.came ≡ held ++ later) × (s.closes ≡ false)
  Stands held (v ∷ vs) later s = (v.held ≡ held)
      × IsKeptOrNot v.result (Stands v.rest vs later s) (Over vs later s)

  joined : (held : List ℕ) (vs : List (Visit C)) (later : List ℕ) (s : Seen) → Stands held vs later s → AreJoined held vs later
  joined held [] later s stands = tt
  joined held (v ∷ vs) later s stands = (stands.0, both_so (Stands v.rest vs later s) (AreJoined v.rest vs later) (Over vs later s) ((vs ≡ []) × (later ≡ [])) v.result (joined v.rest vs later s) (λ e. (e.0, e.1)) stands.1)

  still_over : (vs : List (Visit C)) (later bytes : List ℕ) (s s' : Seen) → s'.closes ≡ s.closes → (s.closes ≡ true → s.room ≡ 0 → (bytes ≡ []) × (s'.room ≡ 0))
      → Over vs later s → Over vs (later ++ bytes) s'
  still_over vs later bytes s s' closes none (last, no_later, ends, full) =
      let (no_bytes, still) = none ends full in
      (last, ap (λ l. l ++ bytes) no_later ∙ no_bytes, closes ∙ ends, still)

  -- a step that brings these bytes to one that goes on, and none to one that does not
  stood : (held : List ℕ) (vs : List (Visit C)) (later bytes : List ℕ) (s s' : Seen) → s'.came ≡ s.came ++ bytes → s'.closes ≡ s.closes → (s.closes ≡ true → s.room ≡ 0 → (bytes ≡ []) × (s'.room ≡ 0))
      → Stands held vs later s → Stands held vs (later ++ bytes) s'
  stood held [] later bytes s s' came closes none stands =
      (came ∙ ap (λ l. l ++ bytes) stands.0 ∙ append_assoc held later bytes, closes ∙ stands.1)
  stood held (v ∷ vs) later bytes s s' came closes none stands =
      (stands.0, both_so (Stands v.rest vs later s) (Stands v.rest vs (later ++ bytes) s') (Over vs later s) (Over vs (later ++ bytes) s') v.result (stood v.rest vs later bytes s s' came closes none) (still_over vs later bytes s s' closes none) stands.1)

  -- a visit of one that goes on
  module _ (ticks : C → ℕ → C → Type 0) (old new : Unended) (w w' : World (Known Passed) C) (result : Result Visited ServeFault) (left : IsLeftSo result old new)
      (is : IsVisit (among CallGives) ticks (Some old.text) (Some new.text) old.came w new.came w' result) where
    abbrev Added : List ℕ → List (Visit C) → List ℕ → Type 0
    Added held vs later = (v : Visit C) × (v.taken ≡ later) × (new.text ≡ old.text ++ v.text) × IsVisited ticks v × Stands held (vs ++ v ∷ []) [] (session_seen new)

    left_standing : (r : Result Visited ServeFault) → IsLeftSo r old new → old.closes ≡ false → IsKeptOrNot r (Stands new.came [] [] (session_seen new)) (Over [] [] (session_seen new))
    left_standing (Ok More) is goes_on = (sym (append-nil new.came), is.1 ∙ goes_on)
    left_standing (Ok (Unfinished n)) is goes_on = (sym (append-nil new.came), is.1 ∙ goes_on)
    left_standing (Ok Closed) is goes_on = (refl, refl, is.1, is.0)
    left_standing (Err fault) is goes_on = (refl, refl, is.1, is.0)

    last : (held later : List ℕ) → old.came ≡ held ++ later → old.closes ≡ false → Added held [] later
    last held later came goes_on =
        let (text, more) = appended ticks old.text new.text old.came w new.came w' result is in
        let read = subst (λ b. IsVisit (among CallGives) ticks (Some old.text) (Some new.text) b w new.came w' result) came is in (
          record { held = held; taken = later; waiting = old.text; text = text; rest = new.came; before = w; after = w'; result = result },
          refl,
          more,
          subst (λ t. IsVisit (among CallGives) ticks (Some old.text) (Some t) (held ++ later) w new.came w' result) more read,
          (refl, left_standing result left goes_on),
        )

    added : (held : List ℕ) (vs : List (Visit C)) (later : List ℕ) → Stands held vs later (session_seen old) → old.closes ≡ false → Added held vs later
    added held [] later stands goes_on = last held later stands.0 goes_on
    added held (v ∷ vs) later stands goes_on =
        let never : Over vs later (session_seen old) → ⊥ = λ e. true≢false (sym e.2 ∙ goes_on) in
        let (u, taken, text, read, more) = added v.rest vs later (was_kept (Stands v.rest vs later (session_seen old)) (Over vs later (session_seen old)) v.result never stands.1) goes_on in
        (u, taken, text, read, (stands.0, and_so (Stands v.rest vs later (session_seen old)) (Stands v.rest (vs ++ u ∷ []) [] (session_seen new)) (Over vs later (session_seen old)) (Over (vs ++ u ∷ []) [] (session_seen new)) v.result never stands.1 more))

module _ {C T : Type 0} (ticks : C → ℕ → C → Type 0) (connection : T → Unended) where
  abbrev seen : T → Seen
  seen t = session_seen (connection t)

  abbrev was_visited : T → T → Type 0
  was_visited t t' = WasVisited ticks (connection t) (connection t')

  -- all of a connection until now
  record Lined (t : T) (heard said : List ℕ) : Type 0 where
    visits : List (Visit C)
    later : List ℕ
    are : AreVisited ticks visits
    stands : Stands [] visits later (seen t)
    heard_is : heard ≡ flat_map (λ v. v.taken) visits ++ later
    put : flat_map (λ v. v.text) visits ≡ said ++ (seen t).text

  still : (held : List ℕ) (vs : List (Visit C)) (later : List ℕ) (s s' : Seen) → s'.came ≡ s.came → s'.closes ≡ s.closes → (s.closes ≡ true → s.room ≡ 0 → s'.room ≡ 0) → Stands held vs later s → Stands held vs later s'
  still held vs later s s' came closes room stands =
      subst (λ l. Stands held vs l s') (append-nil later) (stood held vs later [] s s' (came ∙ sym (append-nil s.came)) closes (λ e r. (refl, room e r)) stands)

  are_more : (vs : List (Visit C)) (v : Visit C) → AreVisited ticks vs → IsVisited ticks v → AreVisited ticks (vs ++ v ∷ [])
  are_more [] v all this = (this, tt)
  are_more (u ∷ vs) v all this = (all.0, are_more vs v all.1 this)

  no_room : (bytes : List ℕ) (s s' : Seen) → length bytes ≤ s.room → s' ≡ with_heard bytes s → s.closes ≡ true → s.room ≡ 0 → (bytes ≡ []) × (s'.room ≡ 0)
  no_room bytes s s' few is closes full =
      let none : length bytes ≡ 0 = grind arith in
      let left : s.room - length bytes ≡ 0 = grind arith in
      (nil_from_length bytes none, ap (λ q. q.room) is ∙ left)

  bytes_came : (t t' : T) (heard said heard' said' bytes : List ℕ) → Lined t heard said → length bytes ≤ (seen t).room → seen t' ≡ with_heard bytes (seen t) → heard' ≡ heard ++ bytes → said' ≡ said → Lined t' heard' said'
  bytes_came t t' heard said heard' said' bytes so_far few is h s = record {
    visits = so_far.visits;
    later = so_far.later ++ bytes;
    are = so_far.are;
    stands = stood [] so_far.visits so_far.later bytes (seen t) (seen t') (ap (λ q. q.came) is) (ap (λ q. q.closes) is) (no_room bytes (seen t) (seen t') few is) so_far.stands;
    heard_is = h ∙ ap (λ l. l ++ bytes) so_far.heard_is ∙ append_assoc (flat_map (λ v. v.taken) so_far.visits) so_far.later bytes;
    put = so_far.put ∙ sym (ap (λ l. l ++ (seen t').text) s ∙ ap (λ q. said ++ q.text) is);
  }

  visit_made : (t t' : T) (heard said heard' said' : List ℕ) → Lined t heard said → (seen t).closes ≡ false → was_visited t t' → heard' ≡ heard → said' ≡ said → Lined t' heard' said'
  visit_made t t' heard said heard' said' so_far goes_on (w, w', is) h s =
      let (v, taken, text, read, stands) = added ticks (connection t) (connection t') w w' is.result is.left is.is [] so_far.visits so_far.later so_far.stands goes_on in
      let takens = flat_map (λ v. v.taken) so_far.visits in
      let all_taken : flat_map (λ v. v.taken) (so_far.visits ++ v ∷ []) ≡ takens ++ so_far.later =
      flat_map-append (λ v. v.taken) so_far.visits (v ∷ []) ∙ ap (λ l. takens ++ l) (append-nil v.taken ∙ taken) in
      let all_put : flat_map (λ v. v.text) (so_far.visits ++ v ∷ []) ≡ (said ++ (seen t).text) ++ v.text =
      flat_map-append (λ v. v.text) so_far.visits (v ∷ []) ∙ ap (λ l. flat_map (λ v. v.text) so_far.visits ++ l) (append-nil v.text) ∙ ap (λ l. l ++ v.text) so_far.put in record {
        visits = so_far.visits ++ v ∷ [];
        later = [];
        are = are_more so_far.visits v so_far.are read;
        stands = stands;
        heard_is = h ∙ so_far.heard_is ∙ sym (append-nil (flat_map (λ v. v.taken) (so_far.visits ++ v ∷ [])) ∙ all_taken);
        put = all_put ∙ append_assoc said (seen t).text v.text ∙ ap (λ l. said ++ l) (sym text) ∙ sym (ap (λ l. l ++ (seen t').text) s);
      }

  text_said : (t t' : T) (heard said heard' said' : List ℕ) (n : ℕ) → Lined t heard said → seen t' ≡ with_said n (seen t) → heard' ≡ heard → said' ≡ said ++ take n (seen t).text → Lined t' heard' said'
  text_said t t' heard said heard' said' n so_far is h s =
      let text = (seen t).text in record {
        visits = so_far.visits;
        later = so_far.later;
        are = so_far.are;
        stands = still [] so_far.visits so_far.later (seen t) (seen t') (ap (λ q. q.came) is) (ap (λ q. q.closes) is) (λ e r. ap (λ q. q.room) is ∙ r) so_far.stands;
        heard_is = h ∙ so_far.heard_is;
        put = so_far.put ∙ ap (λ l. said ++ l) (sym (take-append-drop n text)) ∙ sym (append_assoc said (take n text) (drop n text)) ∙ sym (ap (λ l. l ++ (seen t').text) s ∙ ap (λ q. (said ++ take n text) ++ q.text) is);
      }

  kept_so : (t t' : T) (heard said heard' said' : List ℕ) → Lined t heard said → IsSame (seen t) (seen t') → heard' ≡ heard → said' ≡ said → Lined t' heard' said'
  kept_so t t' heard said heard' said' so_far (inl is) h s = record {
    visits = so_far.visits;
    later = so_far.later;
    are = so_far.are;
    stands = subst (λ q. Stands [] so_far.visits so_far.later q) (sym is) so_far.stands;
    heard_is = h ∙ so_far.heard_is;
    put = so_far.put ∙ sym (ap (λ l. l ++ (seen t').text) s ∙ ap (λ q. said ++ q.text) is);
  }
  kept_so t t' heard said heard' said' so_far (inr (none, none')) h s = record {
    visits = so_far.visits;
    later = so_far.later;
    are = so_far.are;
    stands = still [] so_far.visits so_far.later (seen t) (seen t') (none'.0 ∙ sym none.0) (none'.2 ∙ sym none.2) (λ e r. absurd (true≢false (sym e ∙ none.2))) so_far.stands;
    heard_is = h ∙ so_far.heard_is;
    put = so_far.put ∙ sym (ap (λ l. l ++ (seen t').text) s ∙ ap (λ q. said ++ q) (none'.1 ∙ sym none.1));
  }

  one_step_more : (t t' : T) (heard said heard' said' : List ℕ) → Lined t heard said → Steps seen was_visited t heard said t' heard' said' → Lined t' heard' said'
  one_step_more t t' heard said heard' said' so_far (inl (bytes, few, is, h, s)) = bytes_came t t' heard said heard' said' bytes so_far few is h s
  one_step_more t t' heard said heard' said' so_far (inr (inl (goes_on, is, h, s))) = visit_made t t' heard said heard' said' so_far goes_on is h s
  one_step_more t t' heard said heard' said' so_far (inr (inr (inl (n, few, is, h, s)))) = text_said t t' heard said heard' said' n so_far is h s
  one_step_more t t' heard said heard' said' so_far (inr (inr (inr (is, h, s)))) = kept_so t t' heard said heard' said' so_far is h s

  lined : (steps : List (Unit {0})) (t : T) (heard said : List ℕ) → TalksFor seen was_visited steps t heard said → Lined t heard said
  lined [] t heard said (nothing, no_bytes, no_text) = record {
    visits = [];
    later = [];
    are = tt;
    stands = (nothing.0, nothing.2);
    heard_is = no_bytes;
    put = sym (ap (λ l. l ++ (seen t).text) no_text ∙ nothing.1);
  }
  lined (u ∷ us) t' heard' said' (t, heard, said, before, step) = one_step_more t t' heard said heard' said' (lined us t heard said before) step

  pub line_of : (t : T) (over : Bool) (calls : List SocketCall) → IsOfTalk seen was_visited t over calls
      → (line : Line C) × IsVisitedLine ticks line × (line.sent ≡ said_in calls) × ((dropped : List ℕ) × (heard_in calls ≡ bytes_of line ++ dropped))
  line_of t past calls (heard, dropped, (steps, talks), all, none) =
      let it = lined steps t heard (said_in calls) talks in (
        record { visits = it.visits; later = it.later; sent = said_in calls },
        record { visited = it.are; joined = joined [] it.visits it.later (seen t) it.stands; sent = record { rest = (seen t).text; is = it.put } },
        refl,
        (dropped, all ∙ ap (λ l. l ++ dropped) it.heard_is),
      )
