-- The visits of a worker, as the server's contract tells them.
use Rattle.std.proofs.Common.{◌≡◌, ◌⊎◌, inl, inr, ⊎_elim, ℕ, zero, suc, Bool, false, List, map, [], ◌∷◌, ◌++◌, length, Option, None, Some, Result, Ok, Err, slice_get, OnOk, option_map, string_bytes, refl, sym, ap, ◌∙◌, subst}
use Rattle.std.proofs.lemmas.Option.{none-some, same_Some}
use Rattle.std.specs.List.{flat_map}
use Rattle.history.specs.Handles.{Passed}
use Rattle.requests.specs.declared.fault.ServeFault.{ServeFault}
use Rattle.requests.specs.declared.fault.ServeFault.TheVariants as faults
use Rattle.answering.specs.Connections.{Unended}
use Rattle.answering.specs.Gathering.{Known, MayGoOn, IsVisitedSo, AreVisitedSo, among, known}
use Rattle.answering.specs.Serving.{World, world, response}
use Rattle.answering.specs.Visits.{IsVisit}
use Rattle.answering.specs.declared.visiting.Visited.{Visited}
use Rattle.answering.specs.declared.visiting.Visited.TheVariants as visited
use Rattle.front.specs.Calls.{CallGives}
use Rattle.front.specs.Visits.{Visit, IsVisited, AreVisits}
use Rattle.accept.specs.declared.limits.Limits.{Limits}
use Rattle.owners.specs.Openings.{Opening}
use Rattle.programs.specs.Words.{capacity_of}
use Rattle.programs.specs.Environments.{limits_of}
use Rattle.programs.specs.declared.environment.Environment.{Environment}
use Rattle.programs.specs.declared.said.ServerWords.{ServerWords}
use Rattle.front.specs.Openings.{IsOpenedUnder, IsOverUntouched}
use Rattle.talks.specs.Talks.{HaveVisited}
use Rattle.workers.specs.Workers.{IsPassLeft, ArePassesLeft}
use Rattle.front.specs.ServedPasses.{HasServed}
use Rattle.front.specs.Endings.{HasServedAsAsked}
use Rattle.front.specs.Sessions.{WereVisited}

module _ {C : Type 0} (ticks : C → ℕ → C → Type 0) where
  pub appended : (a b bytes : List ℕ) (w : World (Known Passed) C) (rest : List ℕ) (w' : World (Known Passed) C) (result : Result Visited ServeFault) → IsVisit (among CallGives) ticks (Some a) (Some b) bytes w rest w' result → (text : List ℕ) × (b ≡ a ++ text)
  appended a b bytes w rest w' (Ok visited.More) is = (flat_map response is.0.exchanges, is.0.appends)
  appended a b bytes w rest w' (Ok (visited.Unfinished n)) is = (flat_map response is.0.exchanges, is.0.appends)
  appended a b bytes w rest w' (Ok visited.Closed) is = (is.text, is.appends)
  appended a b bytes w rest w' (Err faults.Write) is = (is.text, is.appends)
  appended a b bytes w rest w' (Err faults.Memory) is = (is.text, is.appends)
  appended a b bytes w rest w' (Err faults.Read) is = absurd is
  appended a b bytes w rest w' (Err faults.CutShort) is = absurd is

  one_visit : (w : World (Known Passed) C) (old : Unended) (w' : World (Known Passed) C) (new : Unended) → IsVisitedSo CallGives ticks w old w' new → (v : Visit C) × (v.before ≡ w) × (v.after ≡ w') × IsVisited ticks v
  one_visit w old w' new it =
      let (text, more) = appended old.text new.text old.came w new.came w' it.result it.is in (
        record { held = []; taken = old.came; waiting = old.text; text = text; rest = new.came; before = w; after = w'; result = it.result },
        refl,
        refl,
        subst (λ t. IsVisit (among CallGives) ticks (Some old.text) (Some t) old.came w new.came w' it.result) more it.is,
      )

  each : (w : World (Known Passed) C) (olds : List Unended) (w' : World (Known Passed) C) (news : List Unended) → AreVisitedSo CallGives ticks w olds w' news → (vs : List (Visit C)) × AreVisits ticks w.knows vs w'.knows
  each w [] w' [] same = ([], ap (λ x. x.knows) same)
  each w [] w' (new ∷ news) never = absurd never
  each w (old ∷ olds) w' [] never = absurd never
  each w (old ∷ olds) w' (new ∷ news) (start, mid, goes_on, is, others) =
      let (v, before, after, it) = one_visit (world start w.clock) old mid new is in
      let (vs, more) = each mid olds w' news others in
      (v ∷ vs, (subst (MayGoOn w.knows) (sym (ap (λ x. x.knows) before)) goes_on, it, subst (λ k. AreVisits ticks k vs w'.knows) (sym (ap (λ x. x.knows) after)) more))

  -- visits with none before them may come after any
  after_any : (p q : Passed) (doubt last : Bool) (vs : List (Visit C)) → AreVisits ticks (known p false) vs (known q last) → (end : Bool) × AreVisits ticks (known p doubt) vs (known q end)
  after_any p q doubt last [] same = (doubt, ap (λ k. known k.knows doubt) same)
  after_any p q doubt last (v ∷ vs) (goes_on, is, others) = (last, (⊎_elim (λ (e : v.before.knows ≡ known p false). inr e) (λ (e : v.before.knows ≡ known p false). inr e) goes_on, is, others))

  one_after_another : (start mid end : Known Passed) (vs us : List (Visit C)) → AreVisits ticks start vs mid → AreVisits ticks mid us end → AreVisits ticks start (vs ++ us) end
  one_after_another start mid end [] us same more = subst (λ k. AreVisits ticks k us end) same more
  one_after_another start mid end (v ∷ vs) us (goes_on, is, others) more = (goes_on, is, one_after_another v.after.knows mid end vs us others more)

  -- visits that left a pass so
  abbrev pub Left : Passed → Bool → Passed → Type 0
  Left p doubt q = (vs : List (Visit C)) × (end : Bool) × AreVisits ticks (known p doubt) vs (known q end)

  module _ {I S K : Type 0} (clock : S → C) (connection : K → Unended) where
    -- what the server's workers promise of visits
    abbrev pub Visiting : I → S → Passed → List (K × K) → S → Passed → Type 0
    Visiting service s p ks s' p' = WereVisited ticks (world p (clock s)) (map (λ both. connection both.0) ks) (world p' (clock s')) (map (λ both. connection both.1) ks)

    module _ (service : I) where
      chain : (s : S) (p : Passed) (doubt : Bool) (all : List (List (K × K))) (s' : S) (p' : Passed) → HaveVisited Visiting service s p all s' p' → Left p doubt p'
      chain s p doubt [] s' p' (same, kept) = ([], doubt, ap (λ q. known q doubt) kept)
      chain s p doubt (ks ∷ all) s' p' (mid, between, (last, are), others) =
          let olds = map (λ (both : K × K). connection both.0) ks in
          let news = map (λ (both : K × K). connection both.1) ks in
          let (vs, made) = each (world (known p false) (clock s)) olds (world (known between last) (clock mid)) news are in
          let (left, first) = after_any p between doubt last vs made in
          let (us, end, more) = chain mid between left all s' p' others in
          (vs ++ us, end, one_after_another (known p doubt) (known between left) (known p' end) vs us first more)

      left_so : (p q : Passed) → IsPassLeft Visiting service p q → Left p false q
      left_so p q (inl same) = ([], false, ap (λ r. known r false) same)
      left_so p q (inr (s, (s', (all, were)))) = chain s p false all s' q were

      pub as_many : (ps qs : List Passed) → ArePassesLeft Visiting service ps qs → length qs ≡ length ps
      as_many [] [] all = refl
      as_many [] (q ∷ qs) all = absurd all
      as_many (p ∷ ps) [] all = absurd all
      as_many (p ∷ ps) (q ∷ qs) all = ap suc (as_many ps qs all.1)

      pub each_left : (ps qs : List Passed) → ArePassesLeft Visiting service ps qs → (i : ℕ) (q : Passed) → slice_get qs i ≡ Some q
          → (p : Passed) × (slice_get ps i ≡ Some p) × Left p false q
      each_left [] [] all i q got = absurd (none-some q got)
      each_left [] (x ∷ qs) all i q got = absurd all
      each_left (p ∷ ps) [] all i q got = absurd all
      each_left (p ∷ ps) (x ∷ qs) all zero q got = (p, refl, subst (Left p false) (same_Some x q got) (left_so p x all.0))
      each_left (p ∷ ps) (x ∷ qs) all (suc i) q got = each_left ps qs all.1 i q got

      -- from what the workers promise to what the server's end says
      pub as_asked : {D E A : Type 0} (r : Result A E) (limits : Limits) (server : ServerWords) (environment : Environment) (capacity : ℕ) (opening : Opening D) (ps qs : List Passed) → limits_of environment ≡ Some limits
          → capacity ≡ capacity_of (option_map string_bytes environment.capacity) → IsOpenedUnder limits server.shards server.workers capacity opening ps → IsOverUntouched server.shards capacity opening.about.bases → OnOk r (ArePassesLeft Visiting service ps qs) → OnOk r (HasServedAsAsked ticks environment server)
      as_asked (Err e) limits server environment capacity opening ps qs given room opened over left = tt
      as_asked (Ok a) limits server environment capacity opening ps qs given room opened over left =
          let served : HasServed ticks limits server.shards server.workers (capacity_of (option_map string_bytes environment.capacity)) qs = record {
            table = opening.table;
            about = opening.about;
            limits_are = opened.limits_are;
            shards_are = opened.shards_are;
            capacity_is = opened.capacity_is ∙ room;
            passes_are = opened.passes_are;
            over = subst (λ n. IsOverUntouched server.shards n opening.about.bases) room over;
            count = as_many ps qs left ∙ opened.fresh.count_is;
            served = λ p pass got.
                let (start, at, more) = each_left ps qs left p pass got in
                subst (λ q. Left q false pass) (opened.fresh.fresh p start at) more;
          } in
          (limits, given, (qs, served))
