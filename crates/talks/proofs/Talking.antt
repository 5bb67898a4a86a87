-- One step more of a connection, and of a worker.
use Rattle.std.proofs.Common.{◌≡◌, inl, inr, ℕ, ◌≤◌, Bool, true, false, List, [], ◌∷◌, ◌++◌, length, take, Result, Ok, Err, IfOk, OnErr, refl, sym, ap, ◌∙◌, subst, min, arith}
use mathlib.Core.Logic.{∥∥₁_map}
use Rattle.std.proofs.lemmas.Bool.{true≢false}
use Rattle.std.proofs.lemmas.List.{append-nil, append_assoc, length-take}
use Rattle.talks.specs.Sockets.{SocketCall, Heard, Said, NoDelay, NoWaiting, heard_in, said_in}
use Rattle.talks.specs.Talks.{Seen, HasNothing, IsSame, with_heard, with_said, Steps, IsOfTalk, HaveVisited, Visits}
use Rattle.talks.specs.declared.socket.Stalled.{Stalled}

-- no more bytes are read than may come
pub few_come : (n most asked room : ℕ) (space read : List ℕ) → length read ≡ length (take most space) → most ≡ min asked (length space) → asked ≡ room → length (take n read) ≤ room
few_come n most asked room space read same is may =
    let a = length-take n read in
    let b = length-take most space in
    grind arith

module _ {T : Type 0} (seen : T → Seen) (visited : T → T → Type 0) where
  abbrev Of : T → Bool → List SocketCall → Type 0
  Of = IsOfTalk seen visited

  begun : (t : T) (calls : List SocketCall) → HasNothing (seen t) → calls ≡ NoWaiting ∷ NoDelay ∷ [] → Of t false calls
  begun t calls unbegun is = subst (Of t false) (sym is) ([], [], ([], (unbegun, refl, refl)), refl, λ e. refl)

  pub began : (t : T) (calls : List SocketCall) → ∥ calls ≡ NoWaiting ∷ NoDelay ∷ [] ∥₁ → HasNothing (seen t) → ∥ Of t false calls ∥₁
  began t calls set unbegun = ∥∥₁_map set (begun t calls unbegun)

  pub same_calls : (t : T) (over : Bool) (calls calls' : List SocketCall) → calls' ≡ calls → ∥ Of t over calls ∥₁ → ∥ Of t over calls' ∥₁
  same_calls t over calls calls' is h = subst (λ cs. ∥ Of t over cs ∥₁) (sym is) h

  -- without the last clause, which says nothing of a connection that is over
  is_over : (t : T) (over : Bool) (calls : List SocketCall) → Of t over calls → Of t true calls
  is_over t over calls (heard, dropped, talked, all, none) = (heard, dropped, talked, all, λ e. absurd (true≢false e))

  dropped_more : (t : T) (over : Bool) (calls : List SocketCall) (bytes : List ℕ) → Of t over calls → Of t true (Heard bytes ∷ calls)
  dropped_more t over calls bytes (heard, dropped, talked, all, none) =
      (heard, dropped ++ bytes, talked, ap (λ l. l ++ bytes) all ∙ append_assoc heard dropped bytes, λ e. absurd (true≢false e))

  pub read_dropped : (t : T) (over : Bool) (calls calls' : List SocketCall) (space : List ℕ) (r : Result ℕ Stalled) → IfOk r (λ n. calls' ≡ Heard (take n space) ∷ calls) → OnErr r (calls' ≡ calls)
      → ∥ Of t over calls ∥₁ → ∥ Of t true calls' ∥₁
  read_dropped t over calls calls' space (Ok n) heard same h = subst (λ cs. ∥ Of t true cs ∥₁) (sym heard) (∥∥₁_map h (dropped_more t over calls (take n space)))
  read_dropped t over calls calls' space (Err stop) heard same h = subst (λ cs. ∥ Of t true cs ∥₁) (sym same) (∥∥₁_map h (is_over t over calls))

  came : (t t' : T) (calls : List SocketCall) (bytes : List ℕ) → length bytes ≤ (seen t).room → seen t' ≡ with_heard bytes (seen t) → Of t false calls → Of t' false (Heard bytes ∷ calls)
  came t t' calls bytes few is (heard, dropped, (steps, talks), all, none) =
      let same : heard_in calls ++ bytes ≡ (heard ++ bytes) ++ [] = ap (λ l. l ++ bytes) (all ∙ ap (λ d. heard ++ d) (none refl) ∙ append-nil heard) ∙ sym (append-nil (heard ++ bytes)) in
      (heard ++ bytes, [], (tt ∷ steps, (t, heard, said_in calls, talks, inl (bytes, few, is, refl, refl))), same, λ e. refl)

  pub bytes_came : (t t' : T) (over : Bool) (calls calls' : List SocketCall) (bytes : List ℕ) → over ≡ false → length bytes ≤ (seen t).room → seen t' ≡ with_heard bytes (seen t) → calls' ≡ Heard bytes ∷ calls
      → ∥ Of t over calls ∥₁ → ∥ Of t' over calls' ∥₁
  bytes_came t t' over calls calls' bytes goes_on few is heard h =
      subst (λ o. ∥ Of t' o calls' ∥₁) (sym goes_on) (subst (λ cs. ∥ Of t' false cs ∥₁) (sym heard) (∥∥₁_map (subst (λ o. ∥ Of t o calls ∥₁) goes_on h) (came t t' calls bytes few is)))

  stepped : (t t' : T) (over : Bool) (calls : List SocketCall) → ((heard said : List ℕ) → Steps seen visited t heard said t' heard said) → Of t over calls → Of t' over calls
  stepped t t' over calls step (heard, dropped, (steps, talks), all, none) =
      (heard, dropped, (tt ∷ steps, (t, heard, said_in calls, talks, step heard (said_in calls))), all, none)

  pub was_visited : (t t' : T) (over : Bool) (calls : List SocketCall) → (seen t).closes ≡ false → visited t t' → Of t over calls → Of t' over calls
  was_visited t t' over calls goes_on is talked = stepped t t' over calls (λ heard said. inr (inl (goes_on, is, refl, refl))) talked

  pub is_same : (t t' : T) (over : Bool) (calls : List SocketCall) → IsSame (seen t) (seen t') → ∥ Of t over calls ∥₁ → ∥ Of t' over calls ∥₁
  is_same t t' over calls is h = ∥∥₁_map h (stepped t t' over calls (λ heard said. inr (inr (inr (is, refl, refl)))))

  pub not_taken_in : (t t' : T) (over : Bool) (calls calls' : List SocketCall) (bytes : List ℕ) → seen t' ≡ seen t → calls' ≡ Heard bytes ∷ calls → ∥ Of t over calls ∥₁ → ∥ Of t' true calls' ∥₁
  not_taken_in t t' over calls calls' bytes is heard h =
      is_same t t' true calls' (inl is)
      (subst (λ cs. ∥ Of t true cs ∥₁) (sym heard) (∥∥₁_map h (dropped_more t over calls bytes)))

  went : (t t' : T) (over : Bool) (calls : List SocketCall) (n : ℕ) → n ≤ length (seen t).text → seen t' ≡ with_said n (seen t) → Of t over calls → Of t' over (Said (take n (seen t).text) ∷ calls)
  went t t' over calls n few is (heard, dropped, (steps, talks), all, none) =
      (heard, dropped, (tt ∷ steps, (t, heard, said_in calls, talks, inr (inr (inl (n, few, is, refl, refl))))), all, none)

  pub text_went : (t t' : T) (over : Bool) (calls calls' : List SocketCall) (text : List ℕ) (n : ℕ) → text ≡ (seen t).text → n ≤ length text → seen t' ≡ with_said n (seen t) → calls' ≡ Said (take n text) ∷ calls
      → ∥ Of t over calls ∥₁ → ∥ Of t' over calls' ∥₁
  text_went t t' over calls calls' text n that few is said h =
      subst (λ cs. ∥ Of t' over cs ∥₁) (sym (said ∙ ap (λ x. Said (take n x) ∷ calls) that)) (∥∥₁_map h (went t t' over calls n (subst (λ x. n ≤ length x) that few) is))

module _ {I S P T : Type 0} (visits : I → S → P → List (T × T) → S → P → Type 0) (service : I) where
  pub one_batch : (server : S) (pass : P) (batch : List (T × T)) (server' : S) (pass' : P) → visits service server pass batch server' pass' → Visits visits service server pass server' pass'
  one_batch server pass batch server' pass' is = (batch ∷ [], (server', pass', is, (refl, refl)))

  join : (server : S) (pass : P) (batches more_batches : List (List (T × T))) (mid : S) (between : P) (server' : S) (pass' : P) → HaveVisited visits service server pass batches mid between
      → HaveVisited visits service mid between more_batches server' pass' → HaveVisited visits service server pass (batches ++ more_batches) server' pass'
  join server pass [] more_batches mid between server' pass' (same, kept) more =
      subst (λ s. HaveVisited visits service s pass more_batches server' pass') same (subst (λ p. HaveVisited visits service mid p more_batches server' pass') kept more)
  join server pass (batch ∷ batches) more_batches mid between server' pass' (next, after, first, others) more =
      (next, after, first, join next after batches more_batches mid between server' pass' others more)

  pub visits_join : (server : S) (pass : P) (mid : S) (between : P) (server' : S) (pass' : P) → Visits visits service server pass mid between → (service' : I) → service' ≡ service → Visits visits service' mid between server' pass'
      → Visits visits service server pass server' pass'
  visits_join server pass mid between server' pass' (batches, some) service' same (more_batches, more) =
      (batches ++ more_batches, join server pass batches more_batches mid between server' pass' some (subst (λ s. HaveVisited visits s mid between more_batches server' pass') same more))
