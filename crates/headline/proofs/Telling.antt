-- The calls of all openings, one after another.
use Rattle.std.proofs.Common.{◌≡◌, ◌⊎◌, ℕ, zero, suc, ◌+◌, ◌<◌, true, false, cond, List, [], ◌∷◌, ◌++◌, length, refl, sym, ap, ◌∙◌, subst, ⊎_elim, append_assoc, append-nil, arith, Some, slice_get, slice_index_or}
use Rattle.std.specs.FinMap as finite
use Rattle.headline.proofs.Common.{Streams, Limits, Reply, NoRoom, Unavailable, Ask, Step, Item, Answered, Failed, History, About, Sight, Wal, Terms, IsLegal, MayFollow, answer, reply_to, meaning, answered_to, then_step, IsLegalAt, base_at, terms_of, history_of, AreOpenedFrom, is_refusal, IsReplay, Life, IsLife, IsHeadlineOf, MayBeReplayed, writing_in, false≢true, cases_Bool, legal_front}
use Rattle.accept.proofs.Legal.{legal-beginning, legal-last}
use Rattle.accept.proofs.Meanings.{meaning-nothing, meaning-answered, meaning-NoRoom, meaning-Unavailable, meaning-Failed, meaning-answered_to, answered_to-append, equal_after}
use Rattle.headline.specs.Chains.{Part, answered_in, calls_found, IsPart, AreParts, base_in, IsContinued, AreLives, IsFoundLast, AreHeadlines, IsHeadlineOfLives}
use Rattle.headline.proofs.Saying.{not_refused}
use Rattle.headline.proofs.Ending.{histories, says}

abbrev over : Streams → List Item → History
over base items = record { base = base; items = items }

refused : (h : History) (ask : Ask) (r : Reply) → is_refusal r ≡ true → meaning (then_step h ask r) ≡ meaning h
refused h ask NoRoom e = meaning-NoRoom h ask
refused h ask Unavailable e = meaning-Unavailable h ask
refused h ask r e = absurd (false≢true e)

module _ (terms : Terms) (base : Streams) where
  answered : (done : List Item) (h : History) (s : Step) → meaning (over base done) ≡ meaning h → s.reply ≡ reply_to terms (over base done) s.ask.call → is_refusal s.reply ≡ false → meaning (over base (done ++ Answered s ∷ [])) ≡ meaning (then_step h s.ask (answer terms.limits h s.ask.call))
  answered done h s a due e =
      let r : s.reply ≡ answer terms.limits (over base done) s.ask.call = not_refused _ _ s.reply (answer terms.limits (over base done) s.ask.call) due e in
      ap (λ (x : Reply). meaning (then_step (over base done) s.ask x)) r ∙ meaning-answered terms.limits (over base done) s.ask
      ∙ equal_after terms.limits (over base done) h s.ask.call a ∙ sym (meaning-answered terms.limits h s.ask)

  -- a legal history means what its answered calls mean, each with its answer
  plain : (done items : List Item) (h : History) → IsLegal terms (over base (done ++ items)) → meaning (over base done) ≡ meaning h → meaning (over base (done ++ items)) ≡ meaning (answered_to terms.limits h (answered_in items))
  plain done [] h legal a = ap (λ l. meaning (over base l)) (append-nil done) ∙ a
  plain done (Failed doubt ∷ items) h legal a =
      let same : (done ++ Failed doubt ∷ []) ++ items ≡ done ++ Failed doubt ∷ items = append_assoc done (Failed doubt ∷ []) items in
      ap (λ l. meaning (over base l)) (sym same)
      ∙ plain (done ++ Failed doubt ∷ []) items h (subst (λ l. IsLegal terms (over base l)) (sym same) legal)
      (meaning-Failed (over base done) doubt ∙ a)
  plain done (Answered s ∷ items) h legal a =
      let same : (done ++ Answered s ∷ []) ++ items ≡ done ++ Answered s ∷ items = append_assoc done (Answered s ∷ []) items in
      let here : IsLegal terms (over base ((done ++ Answered s ∷ []) ++ items)) = subst (λ l. IsLegal terms (over base l)) (sym same) legal in
      let may : MayFollow terms (over base done) (Answered s) = legal-last terms (over base done) (Answered s) (legal-beginning terms base (done ++ Answered s ∷ []) items here) in
      ⊎_elim
      (λ (e : is_refusal s.reply ≡ true).
      ap (λ l. meaning (over base l)) (sym same)
      ∙ plain (done ++ Answered s ∷ []) items h here (refused (over base done) s.ask s.reply e ∙ a)
      ∙ ap (λ b. meaning (answered_to terms.limits h (cond b (answered_in items) (s.ask ∷ answered_in items)))) (sym e))
      (λ (e : is_refusal s.reply ≡ false).
      ap (λ l. meaning (over base l)) (sym same)
      ∙ plain (done ++ Answered s ∷ []) items (then_step h s.ask (answer terms.limits h s.ask.call)) here (answered done h s a may.0 e)
      ∙ ap (λ b. meaning (answered_to terms.limits h (cond b (answered_in items) (s.ask ∷ answered_in items)))) (sym e))
      (cases_Bool (is_refusal s.reply))

  -- and so with calls in doubt after it
  pub plain_more : (items : List Item) (more : List Ask) (h : History) → IsLegal terms (over base items) → meaning h ≡ base → meaning (answered_to terms.limits (over base items) more) ≡ meaning (answered_to terms.limits h (answered_in items ++ more))
  plain_more items more h legal is =
      let same : meaning (over base items) ≡ meaning (answered_to terms.limits h (answered_in items)) =
      plain [] items h legal (meaning-nothing base ∙ sym is) in
      meaning-answered_to terms.limits (over base items) (answered_to terms.limits h (answered_in items)) more same
      ∙ ap meaning (sym (answered_to-append terms.limits h (answered_in items) more))

joined : (limits : Limits) (h : History) (calls rest : List Ask) → meaning (answered_to limits (answered_to limits h calls) rest) ≡ meaning (answered_to limits h (calls ++ rest))
joined limits h calls rest = ap meaning (sym (answered_to-append limits h calls rest))

alone : (limits : Limits) (h : History) (calls : List Ask) → meaning (answered_to limits h calls) ≡ meaning (answered_to limits h (calls ++ []))
alone limits h calls = ap (λ l. meaning (answered_to limits h l)) (sym (append-nil calls))

there_in : {A : Type 0} (xs : List A) (k : ℕ) (d : A) → k < length xs → slice_get xs k ≡ Some (slice_index_or xs k d)
there_in [] k d lt = absurd (omega arith)
there_in (x ∷ xs) zero d lt = λ i. Some x
there_in (x ∷ xs) (suc k) d lt = there_in xs k d (omega arith)

-- a replay gives so much of the history
pub part_of : {D : Type 0} (life : Life D) (k : ℕ) (history : ℕ → List Item) (state : Streams) (r : IsReplay life.opening.about life.threads k (history k) (writing_in life.ends history k) state) → IsPart k life history (record { beginning = r.beginning; more = r.more })
part_of life k history state r = record {
  a_beginning_of_that_history = r.a_beginning_of_that_history;
  continued_only_by_calls_being_written = r.continued_only_by_calls_being_written;
  holds_every_answered_call = r.holds_every_answered_call;
  holds_what_each_pass_had_seen = r.holds_what_each_pass_had_seen;
}

module _ {D : Type 0} (sight : D → Sight) (follows : D → Type 0) (only_now : (d : D) (c : List ℕ) → follows d → (sight d).left_since (sight d).moment c → (sight d).may_leave c) where
  as_many : (count capacity j : ℕ) (given : List (List D)) (logs : List (Wal D)) (ms : List Streams) → AreOpenedFrom sight follows count capacity j given logs ms → length ms ≡ length given
  as_many count capacity j [] [] [] o = refl
  as_many count capacity j (x ∷ given) (w ∷ logs) (m ∷ ms) o = let more = as_many count capacity (j + 1) given logs ms o.1 in omega arith
  as_many count capacity j given logs ms o = absurd o

  -- the next opening's base is what a crash left of this one
  next_base : (e next : Life D) (k : ℕ) → IsLife sight follows next → IsContinued sight follows e (next ∷ []) → k < length next.given → MayBeReplayed sight follows e.ends k (base_at next.opening.about k)
  next_base e next k life is lt = record {
    left = next.given;
    crash = is.0;
    capacity = life.capacity;
    logs = next.opening.logs;
    states = next.opening.about.bases;
    found = life.found;
    follow = is.1;
    there = there_in next.opening.about.bases k finite.empty (let n = as_many (length next.given) life.capacity 0 next.given next.opening.logs next.opening.about.bases life.found in omega arith);
  }

  -- what is found after an opening is what it began with, and its calls
  record IsOneMore (limits : Limits) (k : ℕ) (e : Life D) (history : ℕ → List Item) (h : History) (state : Streams) : Type 0 where
    pub part : Part
    pub is_part : IsPart k e history part
    pub state_is : state ≡ meaning (answered_to limits h (answered_in part.beginning ++ part.more))

  one_more : (limits : Limits) (k : ℕ) (e : Life D) (history : ℕ → List Item) (h : History) (state : Streams) → IsHeadlineOf sight follows e history → k < e.opening.about.shards
      → e.opening.about.limits ≡ limits → meaning h ≡ base_at e.opening.about k → MayBeReplayed sight follows e.ends k state → IsOneMore limits k e history h state
  one_more limits k e history h state says lt same base replay =
      let about : About = e.opening.about in
      let r : IsReplay about e.threads k (history k) (writing_in e.ends history k) state = says.whatever_crash_comes k lt state replay in
      let legal : IsLegalAt about k r.beginning = legal_front about k r.beginning (history k) r.a_beginning_of_that_history (says.each_shards_calls k lt).0 in
      let its : meaning (answered_to about.limits (history_of about k r.beginning) r.more) ≡ meaning (answered_to about.limits h (answered_in r.beginning ++ r.more)) =
      plain_more (terms_of about k) (base_at about k) r.beginning r.more h legal.is base in
      record {
        part = record { beginning = r.beginning; more = r.more };
        is_part = part_of e k history state r;
        state_is = r.the_state_after ∙ its ∙ ap (λ (l : Limits). meaning (answered_to l h (answered_in r.beginning ++ r.more))) same;
      }

  -- and so after all of them
  record IsTold (limits : Limits) (k : ℕ) (lives : List (Life D)) (hs : List (ℕ → List Item)) (h : History) (state : Streams) : Type 0 where
    pub parts : List Part
    pub parts_are : AreParts k lives hs parts
    pub state_is : state ≡ meaning (answered_to limits h (calls_found parts))

  tells : (n : ℕ) (limits : Limits) (k : ℕ) (lives : List (Life D)) (hs : List (ℕ → List Item)) (h : History) (state : Streams) → AreLives sight follows n limits lives → AreHeadlines sight follows lives hs → k < n → meaning h ≡ base_in k lives state
      → IsFoundLast sight follows lives k state → IsTold limits k lives hs h state
  tells n limits k [] hs h state are says lt base found = absurd found
  tells n limits k (e ∷ []) [] h state are says lt base found = absurd says
  tells n limits k (e ∷ []) (x ∷ y ∷ hs) h state are says lt base found = absurd says.1
  tells n limits k (e ∷ []) (x ∷ []) h state are says lt base found =
      let here : k < e.opening.about.shards = let s = are.0.shards in let c = are.1 in omega arith in
      let one = one_more limits k e x h state says.0 here are.2 base found in
      record {
        parts = one.part ∷ [];
        parts_are = (one.is_part, tt);
        state_is = one.state_is ∙ alone limits h (answered_in one.part.beginning ++ one.part.more);
      }
  tells n limits k (e ∷ f ∷ lives) [] h state are says lt base found = absurd says
  tells n limits k (e ∷ f ∷ lives) (x ∷ hs) h state are says lt base found =
      let here : k < e.opening.about.shards = let s = are.0.shards in let c = are.1 in omega arith in
      let there : k < length f.given = let c = are.4.1 in omega arith in
      let one = one_more limits k e x h (base_at f.opening.about k) says.0 here are.2 base (next_base e f k are.4.0 are.3 there) in
      let calls : List Ask = answered_in one.part.beginning ++ one.part.more in
      let more = tells n limits k (f ∷ lives) hs (answered_to limits h calls) state are.4 says.1 lt (sym one.state_is) found in
      record {
        parts = one.part ∷ more.parts;
        parts_are = (one.is_part, more.parts_are);
        state_is = more.state_is ∙ joined limits h calls (calls_found more.parts);
      }

  -- each opening has its history
  headlines : (n : ℕ) (limits : Limits) (lives : List (Life D)) → AreLives sight follows n limits lives → (hs : List (ℕ → List Item)) × AreHeadlines sight follows lives hs
  headlines n limits [] are = ([], tt)
  headlines n limits (e ∷ lives) are =
      let rest = headlines n limits lives are.4 in (
        histories sight follows only_now e are.0 ∷ rest.0,
        (says sight follows only_now e are.0, rest.1),
      )

  pub all_says : (n : ℕ) (limits : Limits) (lives : List (Life D)) → AreLives sight follows n limits lives → IsHeadlineOfLives sight follows n limits lives
  all_says n limits lives are =
      let hs = headlines n limits lives are in
      record {
        histories = hs.0;
        each = hs.1;
        whatever_crash_comes = λ k lt state found.
            let base : Streams = base_in k lives state in
            let told = tells n limits k lives hs.0 (over base []) state are hs.1 lt (meaning-nothing base) found in
            record { parts = told.parts; parts_are = told.parts_are; the_state_after = told.state_is };
      }
