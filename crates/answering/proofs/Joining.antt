-- The visits of one connection join.
use Rattle.std.proofs.Common.{ℕ, List, [], ◌∷◌, ◌++◌, refl, sym, ap, ap₂, ◌∙◌, subst, append_assoc, append-nil, arith}
use Rattle.std.proofs.lemmas.List.Concat.{flat_map-append}
use Rattle.std.specs.List.{flat_map}
use Rattle.requests.proofs.Unique.{keeps_request, one_request}
use Rattle.answering.specs.Calls.{Giving}
use Rattle.answering.specs.Serving.{Exchange, World, response}
use Rattle.answering.specs.Joining.{Stay, visit_text, AnswersApart, AreOneConnection, IsOneText, IsApart, HaveSameRequests}

pub one_text : {H C : Type 0} (visits : List (Stay H C)) → IsOneText visits
one_text [] = refl
one_text (v ∷ vs) = ap (λ l. visit_text v ++ l) (one_text vs) ∙ sym (flat_map-append response v.exchanges (flat_map (λ u. u.exchanges) vs))

module _ {H C : Type 0} (gives : Giving H) (ticks : C → ℕ → C → Type 0) where
  pub apart : (bytes : List ℕ) (w : World H C) (es : List Exchange) (rest : List ℕ) (w' : World H C) → IsApart gives ticks bytes w es rest w'
  apart bytes w [] rest w' (same, still) = same
  apart bytes w (e ∷ es) rest w' (mid, between, x, kept, others) = (mid, w, between, x, kept, apart mid between es rest w' others)

  more_apart : (bytes more : List ℕ) (es : List Exchange) (rest : List ℕ) → AnswersApart gives ticks bytes es rest → AnswersApart gives ticks (bytes ++ more) es (rest ++ more)
  more_apart bytes more [] rest same = ap (λ l. l ++ more) same
  more_apart bytes more (e ∷ es) rest (mid, w, w', x, kept, others) = (
    mid ++ more,
    w,
    w',
    record { message = keeps_request bytes more e.request mid x.message; verdict = x.verdict; clock = x.clock; calls = x.calls },
    kept,
    more_apart mid more es rest others,
  )

  one_after : (bytes : List ℕ) (es ds : List Exchange) (mid rest : List ℕ) → AnswersApart gives ticks bytes es mid → AnswersApart gives ticks mid ds rest → AnswersApart gives ticks bytes (es ++ ds) rest
  one_after bytes [] ds mid rest same then = subst (λ b. AnswersApart gives ticks b ds rest) same then
  one_after bytes (e ∷ es) ds mid rest (next, w, w', x, kept, others) then = (next, w, w', x, kept, one_after next es ds mid rest others then)

  pub one_connection : (old : List ℕ) (visits : List (Stay H C)) (rest : List ℕ) → AreOneConnection gives ticks old visits rest
  one_connection old [] rest same = same ∙ sym (append-nil old)
  one_connection old (v ∷ vs) rest (first, others) =
      let came = flat_map (λ u. u.came) vs in
      let answered = flat_map (λ u. u.exchanges) vs in
      let front = more_apart (old ++ v.came) came v.exchanges v.rest (apart (old ++ v.came) v.before v.exchanges v.rest v.after first) in
      subst (λ b. AnswersApart gives ticks b (v.exchanges ++ answered) rest) (append_assoc old v.came came)
      (one_after ((old ++ v.came) ++ came) v.exchanges answered (v.rest ++ came) rest front (one_connection v.rest vs rest others))

  pub same_requests : (bytes : List ℕ) (es ds : List Exchange) (x y : List ℕ) → HaveSameRequests gives ticks bytes es ds x y
  same_requests bytes [] [] x y first second long = (refl, first ∙ sym second)
  same_requests bytes (e ∷ es) (d ∷ ds) x y (mid, w, w', one, kept, others) (next, v, v', other, stays, more) long =
      let (same, rest) = one_request bytes e.request d.request mid next one.message other.message in
      let (tails, ends) = same_requests mid es ds x y others (subst (λ b. AnswersApart gives ticks b ds y) (sym rest) more) (omega (arith, long)) in
      (ap₂ (λ r rs. r ∷ rs) same tails, ends)
  same_requests bytes es ds x y first second long = absurd (omega (arith, long))
