-- The visits of a connection join: what they put to be sent answers the requests in all its bytes.
use Rattle.std.proofs.Common.{◌≡◌, ◌⊎◌, ℕ, List, [], ◌∷◌, ◌++◌, take, Result, Ok, Err, refl, sym, ap, ◌∙◌, subst, inl, inr, ⊎_elim, append_assoc, append-nil}
use Rattle.std.proofs.Math.Seq.{take-nil}
use Rattle.std.proofs.lemmas.List.Concat.{flat_map-append}
use Rattle.std.specs.List.{flat_map}
use Rattle.headline.proofs.Common.{Step, IsOneOf, among_left, among_right, among_split}
use Rattle.requests.proofs.Unique.{keeps_request}
use Rattle.whole.proofs.Common.{ServeFault, among, Exchange, response, Visited, Closed, CallGives, Visit, IsKeptOrNot, AreJoined, IsNextOf}
use Rattle.answering.specs.Joining.{AnswersApart}
use Rattle.answering.proofs.Joining.{apart}
use Rattle.whole.proofs.Visiting.{IsCalledBy, Answers}

-- whether a visit keeps its connection
abbrev IsKept : Result Visited ServeFault → Type 0
IsKept r = IsKeptOrNot r (Unit {0}) ⊥

kept_or_not : (r : Result Visited ServeFault) (A B : Type 0) → IsKeptOrNot r A B → (A × IsKept r) ⊎ B
kept_or_not (Ok Closed) A B is = inr is
kept_or_not (Err fault) A B is = inr is
kept_or_not r A B is = inl (is, tt)

when_kept : (r : Result Visited ServeFault) (A : Type 0) → IsKept r → IsKeptOrNot r A (Unit {0}) → A
when_kept (Ok Closed) A k is = absurd k
when_kept (Err fault) A k is = absurd k
when_kept r A k is = is

taken_none : (some : ℕ) (es : List Exchange) (text : List ℕ) → es ≡ [] → text ≡ [] → take some (flat_map response es ++ text) ≡ []
taken_none some es text e f = ap (λ l. take some (flat_map response l ++ text)) e ∙ ap (take some) f ∙ take-nil some

module _ {C : Type 0} (ticks : C → ℕ → C → Type 0) where
  more_apart : (bytes more : List ℕ) (es : List Exchange) (rest : List ℕ) → AnswersApart (among CallGives) ticks bytes es rest → AnswersApart (among CallGives) ticks (bytes ++ more) es (rest ++ more)
  more_apart bytes more [] rest same = ap (λ l. l ++ more) same
  more_apart bytes more (e ∷ es) rest (mid, w, w', x, kept, others) = (
    mid ++ more,
    w,
    w',
    record { message = keeps_request bytes more e.request mid x.message; verdict = x.verdict; clock = x.clock; calls = x.calls },
    kept,
    more_apart mid more es rest others,
  )

  one_after : (bytes : List ℕ) (es ds : List Exchange) (mid rest : List ℕ) → AnswersApart (among CallGives) ticks bytes es mid → AnswersApart (among CallGives) ticks mid ds rest → AnswersApart (among CallGives) ticks bytes (es ++ ds) rest
  one_after bytes [] ds mid rest same then = subst (λ b. AnswersApart (among CallGives) ticks b ds rest) same then
  one_after bytes (e ∷ es) ds mid rest (next, w, w', x, kept, others) then = (next, w, w', x, kept, one_after next es ds mid rest others then)

  -- what these visits answered, of the bytes from here on
  pub record Heard (bytes : List ℕ) (text : List ℕ) (steps : List Step) : Type 0 where
    pub exchanges : List Exchange
    pub rest : List ℕ
    pub requests : AnswersApart (among CallGives) ticks bytes exchanges rest
    pub last : List Exchange
    pub refusal : List ℕ
    pub some : ℕ
    pub next : IsNextOf ticks rest last refusal
    pub is : text ≡ flat_map response exchanges ++ take some (flat_map response last ++ refusal)
    pub calls : (e : Exchange) → IsOneOf e (exchanges ++ last) → IsCalledBy steps e

  all_bytes : List (Visit C) → List ℕ → List ℕ
  all_bytes vs later = flat_map (λ v. v.taken) vs ++ later

  all_text : List (Visit C) → List ℕ
  all_text vs = flat_map (λ v. v.text) vs

  module _ (steps : List Step) (v : Visit C) (a : Answers ticks v steps) (vs : List (Visit C)) (later : List ℕ) where
    -- the visit ends the connection
    ended : vs ≡ [] → later ≡ [] → Heard (v.held ++ all_bytes (v ∷ vs) later) (all_text (v ∷ vs)) steps
    unfolding all_bytes all_text
    ended none nothing =
        let bytes : v.held ++ ((v.taken ++ flat_map (λ (u : Visit C). u.taken) vs) ++ later) ≡ v.held ++ v.taken =
        ap (λ (l : List (Visit C)). v.held ++ ((v.taken ++ flat_map (λ (u : Visit C). u.taken) l) ++ later)) none
        ∙ ap (λ l. v.held ++ ((v.taken ++ []) ++ l)) nothing
        ∙ ap (λ l. v.held ++ l) (append-nil (v.taken ++ []) ∙ append-nil v.taken) in
        let text : v.text ++ flat_map (λ (u : Visit C). u.text) vs ≡ v.text = ap (λ (l : List (Visit C)). v.text ++ flat_map (λ (u : Visit C). u.text) l) none ∙ append-nil v.text in
        record {
          exchanges = a.exchanges;
          rest = a.mid;
          requests = subst (λ b. AnswersApart (among CallGives) ticks b a.exchanges a.mid) (sym bytes) (apart (among CallGives) ticks (v.held ++ v.taken) v.before a.exchanges a.mid a.between a.serves);
          last = a.last;
          refusal = a.refusal;
          some = a.some;
          next = a.next;
          is = text ∙ a.is;
          calls = a.calls;
        }

    -- it keeps it, and others come
    goes_on : (a.last ≡ []) × (a.refusal ≡ []) × (v.rest ≡ a.mid) → Heard (v.rest ++ all_bytes vs later) (all_text vs) steps → Heard (v.held ++ all_bytes (v ∷ vs) later) (all_text (v ∷ vs)) steps
    unfolding all_bytes all_text
    goes_on (none, nothing, left) more =
        let extra : List ℕ = flat_map (λ (u : Visit C). u.taken) vs ++ later in
        let bytes : (v.held ++ v.taken) ++ extra ≡ v.held ++ ((v.taken ++ flat_map (λ (u : Visit C). u.taken) vs) ++ later) =
        append_assoc v.held v.taken extra ∙ ap (λ l. v.held ++ l) (sym (append_assoc v.taken (flat_map (λ (u : Visit C). u.taken) vs) later)) in
        let first = more_apart (v.held ++ v.taken) extra a.exchanges a.mid (apart (among CallGives) ticks (v.held ++ v.taken) v.before a.exchanges a.mid a.between a.serves) in
        let here : v.text ≡ flat_map response a.exchanges = a.is ∙ ap (λ l. flat_map response a.exchanges ++ l) (taken_none a.some a.last a.refusal none nothing) ∙ append-nil (flat_map response a.exchanges) in
        let tail : List ℕ = take more.some (flat_map response more.last ++ more.refusal) in
        record {
          exchanges = a.exchanges ++ more.exchanges;
          rest = more.rest;
          requests = subst (λ b. AnswersApart (among CallGives) ticks b (a.exchanges ++ more.exchanges) more.rest) bytes
              (one_after ((v.held ++ v.taken) ++ extra) a.exchanges more.exchanges (a.mid ++ extra) more.rest first (subst (λ m. AnswersApart (among CallGives) ticks (m ++ extra) more.exchanges more.rest) left more.requests));
          last = more.last;
          refusal = more.refusal;
          some = more.some;
          next = more.next;
          is = ap (λ l. l ++ flat_map (λ (u : Visit C). u.text) vs) here
              ∙ ap (λ l. flat_map response a.exchanges ++ l) more.is
              ∙ sym (append_assoc (flat_map response a.exchanges) (flat_map response more.exchanges) tail)
              ∙ ap (λ l. l ++ tail) (sym (flat_map-append response a.exchanges more.exchanges));
          calls = λ e one. ⊎_elim
              (λ (l : IsOneOf e (a.exchanges ++ more.exchanges)). ⊎_elim
              (λ (x : IsOneOf e a.exchanges). a.calls e (among_left e a.exchanges a.last x))
              (λ (y : IsOneOf e more.exchanges). more.calls e (among_left e more.exchanges more.last y))
              (among_split e a.exchanges more.exchanges l))
              (λ (r : IsOneOf e more.last). more.calls e (among_right e more.exchanges more.last r))
              (among_split e (a.exchanges ++ more.exchanges) more.last one);
        }

  heard : (steps : List Step) (held : List ℕ) (vs : List (Visit C)) (later : List ℕ) → AreJoined held vs later → ((v : Visit C) → IsOneOf v vs → Answers ticks v steps) → Heard (held ++ all_bytes vs later) (all_text vs) steps
  unfolding all_bytes all_text
  heard steps held [] later joined answers = record {
    exchanges = [];
    rest = held ++ later;
    requests = refl;
    last = [];
    refusal = [];
    some = 0;
    next = inl refl;
    is = refl;
    calls = λ e one. absurd one;
  }
  heard steps held (v ∷ vs) later joined answers =
      let a = answers v (inl refl) in
      subst (λ h. Heard (h ++ all_bytes (v ∷ vs) later) (all_text (v ∷ vs)) steps) joined.0
      (⊎_elim
      (λ (k : AreJoined v.rest vs later × IsKept v.result). goes_on steps v a vs later (when_kept v.result _ k.1 a.left) (heard steps v.rest vs later k.0 (λ u one. answers u (inr one))))
      (λ (n : (vs ≡ []) × (later ≡ [])). ended steps v a vs later n.0 n.1)
      (kept_or_not v.result (AreJoined v.rest vs later) ((vs ≡ []) × (later ≡ [])) joined.1))

  -- of a connection from its first byte on
  pub heard_line : (steps : List Step) (vs : List (Visit C)) (later : List ℕ) → AreJoined [] vs later → ((v : Visit C) → IsOneOf v vs → Answers ticks v steps)
      → Heard (flat_map (λ v. v.taken) vs ++ later) (flat_map (λ v. v.text) vs) steps
  unfolding all_bytes all_text
  heard_line steps vs later joined answers = heard steps [] vs later joined answers
