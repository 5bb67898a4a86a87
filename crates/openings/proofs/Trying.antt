-- Shards whose slots were each opened or refused: all logs, or the first that is refused.
use Rattle.std.proofs.Common.{◌≡◌, ℕ, suc, ◌+◌, ◌<◌, List, [], ◌∷◌, ◌++◌, All, length, map, refl, sym, ap, subst, arith}
use Rattle.std.specs.Prelude.{Some, None, slice_index_or}
use Rattle.std.proofs.lemmas.Option.{none-some, same_Some}
use Rattle.std.proofs.lemmas.List.Elements.{All-nil, All-cons}
use Rattle.accept.specs.Rooms.{Streams}
use Rattle.disk.specs.Sight.{Sight}
use Rattle.segment.specs.ShardPlaces.{ShardPlace, place_of}
use Rattle.wal.specs.declared.fault.OpenFault.{OpenFault}
use Rattle.wal.specs.declared.log.Wal.{Wal}
use Rattle.wal.specs.Opening.{disks}
use Rattle.wal.specs.Opened.{IsOpenedFrom, IsReturned, IsRefusal}
use Rattle.wal.proofs.Opened.{found_streams}
use Rattle.openings.specs.declared.place.Place.{Place}
use Rattle.openings.specs.declared.place.Place.TheVariants.{Given, Out, Opened, Refused}
use Rattle.openings.specs.Findings.{AreOpenedFrom, AreReturned, AreGood, IsFirstRefused}
use Rattle.openings.specs.Places.{IsOpened, AreSlotsThere, IsTried, AreTried, slots_in, logs_in, images_in, first_refused}
use Rattle.openings.proofs.Ordered.{ordered}

module _ {D : Type 0} (sight : D → Sight) (follows : D → Type 0) where
  -- the slots of a log that was opened come back
  pub log_returned : (whose : ShardPlace) (capacity : ℕ) (given : List D) (log : Wal D) (m : Streams)
      → IsOpenedFrom sight follows whose capacity given log m → IsReturned sight follows given (disks log)
  log_returned whose capacity given log m o = let are = ordered sight follows log (disks log) refl in
      record { before = λ f. o.before (are.both f); rests = λ f. are.rests given (o.rests (are.both f)) }

  -- so do those of all
  pub logs_returned : (count capacity k : ℕ) (all : List (List D)) (logs : List (Wal D)) (ms : List Streams)
      → AreOpenedFrom sight follows count capacity k all logs ms → AreReturned sight follows all (map disks logs)
  logs_returned count capacity k [] [] [] h = tt
  logs_returned count capacity k [] [] (m ∷ ms) h = absurd h
  logs_returned count capacity k [] (log ∷ logs) ms h = absurd h
  logs_returned count capacity k (given ∷ all) [] ms h = absurd h
  logs_returned count capacity k (given ∷ all) (log ∷ logs) [] h = absurd h
  logs_returned count capacity k (given ∷ all) (log ∷ logs) (m ∷ ms) h =
      (log_returned (place_of k count) capacity given log m h.0, logs_returned count capacity (k + 1) all logs ms h.1)

  -- as many logs and lists of streams as shards
  pub as_many : (count capacity k : ℕ) (all : List (List D)) (logs : List (Wal D)) (ms : List Streams)
      → AreOpenedFrom sight follows count capacity k all logs ms → (length logs ≡ length all) × (length ms ≡ length all)
  as_many count capacity k [] [] [] h = (refl, refl)
  as_many count capacity k [] [] (m ∷ ms) h = absurd h
  as_many count capacity k [] (log ∷ logs) ms h = absurd h
  as_many count capacity k (given ∷ all) [] ms h = absurd h
  as_many count capacity k (given ∷ all) (log ∷ logs) [] h = absurd h
  as_many count capacity k (given ∷ all) (log ∷ logs) (m ∷ ms) h =
      let r = as_many count capacity (k + 1) all logs ms h.1 in (ap suc r.0, ap suc r.1)

  -- what holds of each place by its number holds of the list
  pub tried_each : (count capacity k : ℕ) (old new : List (Place D)) → length new ≡ length old
      → ((i : ℕ) (d : Place D) → i < length old → IsTried sight follows (place_of (k + i) count) capacity (slots_in (slice_index_or old i d)) (slice_index_or new i d))
      → AreTried sight follows count capacity k (map slots_in old) new
  tried_each count capacity k [] [] e h = tt
  tried_each count capacity k [] (y ∷ new) e h = absurd (omega arith)
  tried_each count capacity k (x ∷ old) [] e h = absurd (omega arith)
  tried_each count capacity k (x ∷ old) (y ∷ new) e h =
      let here : k + 0 ≡ k = omega arith in (
        subst (λ n. IsTried sight follows (place_of n count) capacity (slots_in x) y) here (h 0 x (omega arith)),
        tried_each count capacity (k + 1) old new (omega arith) (λ i d lt.
            let there : k + suc i ≡ (k + 1) + i = omega arith in
            subst (λ n. IsTried sight follows (place_of n count) capacity (slots_in (slice_index_or old i d)) (slice_index_or new i d)) there (h (suc i) d (omega arith))),
      )

  -- the slots of a shard that was tried are there, and nothing was written
  tried_back : (whose : ShardPlace) (capacity : ℕ) (given : List D) (place : Place D) → IsTried sight follows whose capacity given place
      → AreSlotsThere place × IsReturned sight follows given (slots_in place)
  tried_back whose capacity given (Given a b) h = absurd h
  tried_back whose capacity given Out h = absurd h
  tried_back whose capacity given (Opened log m) h = (tt, log_returned whose capacity given log m h)
  tried_back whose capacity given (Refused fault a b) h = (tt, h.0)

  pub all_back : (count capacity k : ℕ) (all : List (List D)) (places : List (Place D)) → AreTried sight follows count capacity k all places
      → All AreSlotsThere places × AreReturned sight follows all (map slots_in places)
  all_back count capacity k [] [] h = (All-nil AreSlotsThere, tt)
  all_back count capacity k [] (place ∷ places) h = absurd h
  all_back count capacity k (given ∷ all) [] h = absurd h
  all_back count capacity k (given ∷ all) (place ∷ places) h =
      let one = tried_back (place_of k count) capacity given place h.0 in
      let more = all_back count capacity (k + 1) all places h.1 in
      (All-cons AreSlotsThere place places one.0 more.0, (one.1, more.1))

  -- where none is refused, all logs are opened
  pub all_opened : (count capacity k : ℕ) (all : List (List D)) (places : List (Place D)) → AreTried sight follows count capacity k all places
      → first_refused k places ≡ None → All IsOpened places × AreOpenedFrom sight follows count capacity k all (logs_in places) (images_in places)
  all_opened count capacity k [] [] h e = (All-nil IsOpened, tt)
  all_opened count capacity k [] (place ∷ places) h e = absurd h
  all_opened count capacity k (given ∷ all) [] h e = absurd h
  all_opened count capacity k (given ∷ all) (Given a b ∷ places) h e = absurd h.0
  all_opened count capacity k (given ∷ all) (Out ∷ places) h e = absurd h.0
  all_opened count capacity k (given ∷ all) (Opened log m ∷ places) h e =
      let more = all_opened count capacity (k + 1) all places h.1 e in
      (All-cons IsOpened (Opened log m) places tt more.0, (h.0, more.1))
  all_opened count capacity k (given ∷ all) (Refused fault a b ∷ places) h e = absurd (none-some (k, fault) (sym e))

  -- the first from k on that is refused
  record IsFirstFrom (count k shard : ℕ) (fault : OpenFault) (all backs : List (List D)) : Type 0 where
    pub front : List (List D)
    pub given : List D
    pub behind : List (List D)
    pub front_back : List (List D)
    pub back : List D
    pub behind_back : List (List D)
    pub all_are : all ≡ front ++ given ∷ behind
    pub backs_are : backs ≡ front_back ++ back ∷ behind_back
    pub number : k + length front ≡ shard
    pub good : AreGood sight follows count k front front_back
    pub came_back : IsReturned sight follows given back
    pub refusal : IsRefusal sight follows (place_of shard count) given back fault
    pub returned : AreReturned sight follows behind behind_back

  first_from : (count capacity k shard : ℕ) (fault : OpenFault) (all : List (List D)) (places : List (Place D)) → AreTried sight follows count capacity k all places
      → first_refused k places ≡ Some (shard, fault) → IsFirstFrom count k shard fault all (map slots_in places)
  first_from count capacity k shard fault [] [] h e = absurd (none-some (shard, fault) e)
  first_from count capacity k shard fault [] (place ∷ places) h e = absurd h
  first_from count capacity k shard fault (given ∷ all) [] h e = absurd h
  first_from count capacity k shard fault (given ∷ all) (Given a b ∷ places) h e = absurd h.0
  first_from count capacity k shard fault (given ∷ all) (Out ∷ places) h e = absurd h.0
  first_from count capacity k shard fault (given ∷ all) (Opened log m ∷ places) h e =
      let r = first_from count capacity (k + 1) shard fault all places h.1 e in
      let o = h.0 in
      let are = ordered sight follows log (disks log) refl in
      let number = r.number in
      record {
        front = given ∷ r.front;
        given = r.given;
        behind = r.behind;
        front_back = disks log ∷ r.front_back;
        back = r.back;
        behind_back = r.behind_back;
        all_are = ap (λ l. given ∷ l) r.all_are;
        backs_are = ap (λ l. disks log ∷ l) r.backs_are;
        number = omega arith;
        good = ((log_returned (place_of k count) capacity given log m o, (m, λ f. found_streams sight follows (place_of k count) capacity given log m o (are.both f))), r.good);
        came_back = r.came_back;
        refusal = r.refusal;
        returned = r.returned;
      }
  first_from count capacity k shard fault (given ∷ all) (Refused why a b ∷ places) h e =
      let same = same_Some (k, why) (shard, fault) e in
      record {
        front = [];
        given = given;
        behind = all;
        front_back = [];
        back = a ∷ b ∷ [];
        behind_back = map slots_in places;
        all_are = refl;
        backs_are = refl;
        number = let at : k ≡ shard = ap (λ (p : ℕ × OpenFault). p.0) same in omega arith;
        good = tt;
        came_back = h.0.0;
        refusal = subst (λ (p : ℕ × OpenFault). IsRefusal sight follows (place_of p.0 count) given (a ∷ b ∷ []) p.1) same h.0.1;
        returned = (all_back count capacity (k + 1) all places h.1).1;
      }

  -- the first of all that is refused
  pub first_is : (count capacity shard : ℕ) (fault : OpenFault) (all : List (List D)) (places : List (Place D)) → AreTried sight follows count capacity 0 all places
      → first_refused 0 places ≡ Some (shard, fault) → IsFirstRefused sight follows count shard fault all (map slots_in places)
  first_is count capacity shard fault all places h e =
      let r = first_from count capacity 0 shard fault all places h e in
      let number = r.number in
      record {
        front = r.front;
        given = r.given;
        behind = r.behind;
        front_back = r.front_back;
        back = r.back;
        behind_back = r.behind_back;
        all_are = r.all_are;
        backs_are = r.backs_are;
        number = omega arith;
        good = r.good;
        came_back = r.came_back;
        refusal = r.refusal;
        returned = r.returned;
      }

-- a log that is opened, with its streams
pub is_opened : {D : Type 0} (place : Place D) → IsOpened place → (log : Wal D) × (m : Streams) × (place ≡ Opened log m)
is_opened (Given a b) h = absurd h
is_opened Out h = absurd h
is_opened (Opened log m) h = (log, m, refl)
is_opened (Refused fault a b) h = absurd h
