-- A line that a push stored, or that repeats the last one of its stream, stays in the stream until it is trimmed.
use Rattle.std.proofs.Common.{◌≡◌, ◌⊎◌, ℕ, ◌<◌, Bool, true, false, cond, ◌||◌, List, [], ◌∷◌, ◌++◌, Option, None, Some, refl, sym, ap, ◌∙◌, subst, inl, inr, ⊎_elim, append_assoc, append-nil, arith}
use Rattle.std.specs.FinMap as finite
use Rattle.std.specs.List.{list_any}
use Rattle.labels.specs.Keys.{same_key}
use Rattle.headline.proofs.Common.{StreamKey, Limits, Call, Push, Trim, Reply, Verdict, Trimmed, Ask, Step, Item, Answered, Failed, History, About, stored_of, last_or, base_last, highest_of, last_of, same_entry, outcome, outcomes, stored_by, bound_by, stored_in, bound_in, stored, stream_of, answer, then_step, answered_to, MayFollow, IsLegalAt, base_at, terms_of, history_of, IsOneOf, is_refusal, false≢true, ltb-true, cases_Bool, legal_front, among_left, among_right}
use Rattle.entries.specs.declared.entry.Entry.{Entry}
use Rattle.accept.specs.Lasting.{WasStored, takes}
use Rattle.accept.specs.declared.outcome.Outcome.{Outcome}
use Rattle.accept.specs.declared.outcome.Outcome.TheVariants.{Repeat, Stored}
use Rattle.accept.specs.declared.image.StreamImage.{StreamImage}
use Rattle.accept.proofs.KeyOrder.{same_key_itself, same_key-is}
use Rattle.accept.proofs.Lasting.{last-stored}
use Rattle.accept.proofs.Legal.{legal-last}
use Rattle.accept.proofs.Outcomes.{outcome_at-Repeat}
use Rattle.headline.proofs.Saying.{not_refused}
use Rattle.whole.specs.Whole.{IsTrimAbove, WasStoredFor, IsSameLine}

-- Of one stream.

last_within : (before : Option Entry) (es : List Entry) (y : Entry) → last_or before es ≡ Some y → IsOneOf y es ⊎ (before ≡ Some y)
last_within before [] y e = inr e
last_within before (x ∷ es) y e = ⊎_elim
    (λ (t : IsOneOf y es). inl (inr t))
    (λ (s : Some x ≡ Some y). let same : x ≡ y = cc in inl (inl (sym same)))
    (last_within (Some x) es y e)

-- each entry of a batch was stored, or repeated the last one
abbrev pub IsTaken : Outcome → Type 0
IsTaken o = (o ≡ Stored) ⊎ (o ≡ Repeat)

abbrev pub AreTaken : List Outcome → Type 0
AreTaken [] = Unit {0}
AreTaken (o ∷ os) = IsTaken o × AreTaken os

module _ (limits : Limits) (base : Option StreamImage) (now : ℕ) where
  -- the line is there, or it repeats the last one of the base
  abbrev IsThere : List Entry → Entry → Type 0
  IsThere all x = (y : Entry) × IsSameLine x y × (IsOneOf y all ⊎ (base_last base ≡ Some y))

  there_more : (all more : List Entry) (x : Entry) → IsThere all x → IsThere (all ++ more) x
  there_more all more x t = (t.0, t.1, ⊎_elim (λ (one : IsOneOf t.0 all). inl (among_left t.0 all more one)) (λ (e : base_last base ≡ Some t.0). inr e) t.2)

  repeats : (all : List Entry) (x : Entry) (o : Option Entry) → last_of base all ≡ o → same_entry x o ≡ true → IsThere all x
  repeats all x None e holds = absurd (false≢true holds)
  repeats all x (Some y) e holds = (y, inr holds, last_within (base_last base) all y e)

  was_repeat : (all : List Entry) (x : Entry) → outcome limits base all now x ≡ Repeat → IsThere all x
  was_repeat all x e = repeats all x (last_of base all) refl (outcome_at-Repeat limits (highest_of base all) (last_of base all) now x e)

  one_taken : (all : List Entry) (e : Entry) (es : List Entry) (o : Outcome) → outcome limits base all now e ≡ o → IsTaken o
      → ((more : List Entry) → AreTaken (outcomes limits base more now es) → (x : Entry) → IsOneOf x es → IsThere (more ++ stored_of es (outcomes limits base more now es)) x)
      → AreTaken (outcomes limits base (all ++ stored_of (e ∷ []) (o ∷ [])) now es) → (x : Entry) → IsOneOf x (e ∷ es)
      → IsThere (all ++ stored_of (e ∷ es) (o ∷ outcomes limits base (all ++ stored_of (e ∷ []) (o ∷ [])) now es)) x
  one_taken all e es Stored is t ih taken x (inl same) = (e, inl same, inl (among_right e all (e ∷ _) (inl refl)))
  one_taken all e es Stored is t ih taken x (inr one) =
      subst (λ l. IsThere l x) (append_assoc all (e ∷ []) (stored_of es (outcomes limits base (all ++ e ∷ []) now es))) (ih (all ++ e ∷ []) taken x one)
  one_taken all e es Repeat is t ih taken x (inl same) =
      there_more all (stored_of es (outcomes limits base (all ++ []) now es)) x (subst (IsThere all) (sym same) (was_repeat all e is))
  one_taken all e es Repeat is t ih taken x (inr one) =
      subst (λ l. IsThere l x) (ap (λ l. l ++ stored_of es (outcomes limits base (all ++ []) now es)) (append-nil all)) (ih (all ++ []) taken x one)
  one_taken all e es o is (inl t) ih taken x one = absurd (cc)
  one_taken all e es o is (inr t) ih taken x one = absurd (cc)

  all_taken : (all entries : List Entry) → AreTaken (outcomes limits base all now entries) → (x : Entry) → IsOneOf x entries → IsThere (all ++ stored_of entries (outcomes limits base all now entries)) x
  all_taken all [] taken x one = absurd one
  all_taken all (e ∷ es) taken x one = one_taken all e es (outcome limits base all now e) refl taken.0 (λ more t y of. all_taken more es t y of) taken.1 x one

-- Of a history.

module _ (key : StreamKey) (n : ℕ) where
  by_key : (k : StreamKey) (bound : ℕ) (b : Bool) → same_key key k ≡ b → n < cond b bound 0 → IsTrimAbove key n (Trim k bound)
  by_key k bound true e l = (bound, ap (λ q. Trim q bound) (sym (same_key-is key k e)), l)
  by_key k bound false e l = absurd (omega arith)

  by_call : (call : Call) (r : Reply) → n < bound_by key call r → IsTrimAbove key n call × ((removed : ℕ) × (r ≡ Trimmed removed))
  by_call (Trim k bound) (Trimmed m) l = (by_key k bound (same_key key k) refl l, (m, refl))
  by_call call r l = absurd (omega arith)

  by_item : (i : Item) → n < bound_in key i → (s : Step) × (Answered s ≡ i) × IsTrimAbove key n s.ask.call × ((removed : ℕ) × (s.reply ≡ Trimmed removed))
  by_item (Failed doubt) l = absurd (omega arith)
  by_item (Answered s) l = let t = by_call s.ask.call s.reply l in (s, refl, t.0, t.1)

  -- where items take an entry, there is a trim that was answered so
  pub trimmed_in : (items : List Item) → list_any (takes key n) items ≡ true → (s : Step) × IsOneOf (Answered s) items × IsTrimAbove key n s.ask.call × ((removed : ℕ) × (s.reply ≡ Trimmed removed))
  trimmed_in [] e = absurd (false≢true e)
  trimmed_in (i ∷ items) e = ⊎_elim
      (λ (a : takes key n i ≡ true). let t = by_item i (ltb-true n (bound_in key i) a) in (t.0, inl t.1, t.2, t.3))
      (λ (b : takes key n i ≡ false). let t = trimmed_in items (sym (ap (λ f. f || list_any (takes key n) items) b) ∙ e) in (t.0, inr t.1, t.2, t.3))
      (cases_Bool (takes key n i))

-- the items of a history with calls answered after it
pub record IsLonger (h : History) (asks : List Ask) (new : History) : Type 0 where
  pub more : List Item
  pub items : new.items ≡ h.items ++ more
  pub asked : (s : Step) → IsOneOf (Answered s) more → IsOneOf s.ask asks
  pub base : new.base ≡ h.base

pub answered_longer : (limits : Limits) (h : History) (asks : List Ask) → IsLonger h asks (answered_to limits h asks)
answered_longer limits h [] = record { more = []; items = sym (append-nil h.items); asked = λ s one. absurd one; base = refl }
answered_longer limits h (a ∷ asks) =
    let first : Step = record { ask = a; reply = answer limits h a.call } in
    let rest = answered_longer limits (then_step h a (answer limits h a.call)) asks in
    record {
      more = Answered first ∷ rest.more;
      items = rest.items ∙ append_assoc h.items (Answered first ∷ []) rest.more;
      asked = λ s one. ⊎_elim
          (λ (e : Answered s ≡ Answered first). let same : s ≡ first = cc in inl (ap (λ (t : Step). t.ask) same))
          (λ (t : IsOneOf (Answered s) rest.more). inr (rest.asked s t))
          one;
      base = rest.base;
    }

split_at : (i : Item) (items : List Item) → IsOneOf i items → (front : List Item) × (back : List Item) × (items ≡ front ++ i ∷ back)
split_at i [] one = absurd one
split_at i (j ∷ items) (inl e) = ([], items, ap (λ x. x ∷ items) (sym e))
split_at i (j ∷ items) (inr t) = let s = split_at i items t in (j ∷ s.0, s.1, ap (λ l. j ∷ l) s.2)

-- in a legal history, each line of a push that was not refused, and of which each line was taken, was stored for its
-- step, or repeats the last one of the base
pub line_stored : (about : About) (k : ℕ) (items : List Item) (s : Step) (key : StreamKey) (now : ℕ) (entries : List Entry) → IsLegalAt about k items → IsOneOf (Answered s) items → s.ask.call ≡ Push key now entries → is_refusal s.reply ≡ false → ((os : List Outcome) → s.reply ≡ Verdict os → AreTaken os)
    → (x : Entry) → IsOneOf x entries → (y : Entry) × IsSameLine x y × (WasStoredFor items key s y ⊎ (base_last (finite.get (base_at about k) key) ≡ Some y))
line_stored about k items s key now entries legal one call answered taken x of =
    let at = split_at (Answered s) items one in
    let front : List Item = at.0 in
    let back : List Item = at.1 in
    let h : History = history_of about k front in
    let parts : items ≡ (front ++ Answered s ∷ []) ++ back = at.2 ∙ sym (append_assoc front (Answered s ∷ []) back) in
    let upto : IsLegalAt about k (front ++ Answered s ∷ []) = legal_front about k (front ++ Answered s ∷ []) items (record { rest = back; is = parts }) legal in
    let may : MayFollow (terms_of about k) h (Answered s) = legal-last (terms_of about k) h (Answered s) upto.is in
    let was : Option StreamImage = stream_of h key in
    let os : List Outcome = outcomes about.limits was [] now entries in
    let reply : s.reply ≡ Verdict os = not_refused _ _ s.reply (answer about.limits h s.ask.call) may.0 answered ∙ ap (answer about.limits h) call in
    let there = all_taken about.limits was now [] entries (taken os reply) x of in
    let own : stored_in key (Answered s) ≡ stored_of entries os =
    ap (λ (c : Call). stored_by key c s.reply) call ∙ ap (stored_by key (Push key now entries)) reply ∙ ap (λ b. cond b (stored_of entries os) []) (same_key_itself key) in (
      there.0,
      there.1,
      ⊎_elim
          (λ (l : IsOneOf there.0 (stored_of entries os)). inl (record { before = front; item = Answered s; later = back; parts = at.2; there = subst (IsOneOf there.0) (sym own) l; its_own = inl refl }))
          (λ (e : base_last was ≡ Some there.0). of_last there.0 front back at.2 (last-stored h key there.0 e))
          there.2,
    )
  where
    of_last : (y : Entry) (front back : List Item) → items ≡ front ++ Answered s ∷ back → ((stored front key ≡ []) × (base_last (finite.get (base_at about k) key) ≡ Some y)) ⊎ WasStored key y front
        → WasStoredFor items key s y ⊎ (base_last (finite.get (base_at about k) key) ≡ Some y)
    of_last y front back parts (inl b) = inr b.1
    of_last y front back parts (inr w) = inl (record {
      before = w.before;
      item = w.item;
      later = w.later ++ Answered s ∷ back;
      parts = parts ∙ ap (λ l. l ++ Answered s ∷ back) w.parts ∙ append_assoc w.before (w.item ∷ w.later) (Answered s ∷ back);
      there = w.there;
      its_own = inr (w.later, back, refl, w.latest);
    })
