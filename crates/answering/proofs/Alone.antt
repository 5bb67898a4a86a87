-- A visit of one connection alone, by what is known without doubt.
use Rattle.std.proofs.Common.{◌≡◌, ℕ, Bool, false, List, [], ◌∷◌, refl, sym, subst, inl, inr}
use Rattle.answering.specs.Calls.{Giving}
use Rattle.answering.specs.Connections.{Unended}
use Rattle.answering.specs.Gathering.{AreVisitedSo, Known, MayGoOn, among, known}
use Rattle.answering.specs.Serving.{World, world}
use Rattle.answering.specs.Turns.{IsOneTurn}
use Rattle.answering.proofs.Seeing.{turn_seen}

module _ {H C : Type 0} (gives : Giving H) (ticks : C → ℕ → C → Type 0) where
  abbrev known_of : World (Known H) C → World H C
  known_of w = world w.knows.knows w.clock

  one_turn : (w w' : World (Known H) C) (old new : Unended) → w.knows.doubt ≡ false → IsOneTurn (among gives) ticks w old w' new → IsOneTurn gives ticks (known_of w) old (known_of w') new
  one_turn w w' old new sure t = record {
    turn = t.turn;
    rest = t.rest;
    is = record {
      text = t.is.text;
      appends = t.is.appends;
      gives_next = turn_seen (λ (k : Known H). k.knows) (among gives) gives (λ doubt k. k.doubt ≡ doubt) (λ doubt k k' call outcome at given. (subst (λ b. gives b k.knows call outcome k'.knows) at given.0, given.1)) ticks old.came w t.is.text t.rest w' t.turn sure t.is.gives_next;
    };
    left = t.left;
    room = t.room;
  }

  goes_on : (p : H) (start : Known H) → MayGoOn (known p false) start → start ≡ known p false
  goes_on p start (inl same) = same
  goes_on p start (inr same) = same

  only : (p p' : H) (c c' : C) (doubt : Bool) (old new : Unended) (news : List Unended) → AreVisitedSo gives ticks (world (known p false) c) (old ∷ []) (world (known p' doubt) c') (new ∷ news) → IsOneTurn gives ticks (world p c) old (world p' c') new
  only p p' c c' doubt old new [] (start, mid, on, is, same) =
      let first = goes_on p start on in
      let t = subst (λ k. IsOneTurn (among gives) ticks (world k c) old mid new) first is.turned in
      one_turn (world (known p false) c) (world (known p' doubt) c') old new refl (subst (λ w. IsOneTurn (among gives) ticks (world (known p false) c) old w new) (sym same) t)
  only p p' c c' doubt old new (n ∷ ns) (start, mid, on, is, never) = absurd never

  -- it was visited
  pub alone : (p p' : H) (c c' : C) (doubt : Bool) (old new : Unended) (olds news more : List Unended) → olds ≡ old ∷ [] → news ≡ new ∷ more → AreVisitedSo gives ticks (world (known p false) c) olds (world (known p' doubt) c') news → IsOneTurn gives ticks (world p c) old (world p' c') new
  alone p p' c c' doubt old new olds news more one its are =
      only p p' c c' doubt old new more (subst (λ l. AreVisitedSo gives ticks (world (known p false) c) (old ∷ []) (world (known p' doubt) c') l) its (subst (λ l. AreVisitedSo gives ticks (world (known p false) c) l (world (known p' doubt) c') news) one are))
