-- Shards that are made of opened logs with their books.
use Rattle.std.proofs.Common.{◌≡◌, ◌≢◌, Bool, true, false, ℕ, zero, suc, ◌+◌, ◌<◌, ◌≤◌, ◌^◌, List, [], ◌∷◌, ◌++◌, length, length-append, get_or, map, refl, sym, ap, ◌∙◌, subst, ⊎_elim, append_assoc, arith}
use Rattle.std.specs.Prelude.{Option, Some, None, slice_get, if◌then◌else◌}
use Rattle.std.proofs.lemmas.Option.{none-some, same_Some, slice_get_within, slice_get_read, get_or_from_slice_get}
use Rattle.std.specs.FinMap as finite
use Rattle.std.proofs.lemmas.List.{append-nil}
use Rattle.std.proofs.lemmas.Bool.{cases_eq}
use Rattle.atomic_table.specs.Seated.{TableId}
use Rattle.accept.specs.Rooms.{Streams}
use Rattle.accept.specs.OneStream.{AreLimits}
use Rattle.accept.specs.declared.limits.Limits.{Limits}
use Rattle.disk.specs.Sight.{Sight}
use Rattle.segment.specs.ShardPlaces.{place_of}
use Rattle.segment.specs.Fitting.{FitStreams}
use Rattle.wal.specs.declared.log.Wal.{Wal}
use Rattle.wal.specs.Logs.{slots}
use Rattle.wal.specs.Moments.{pair, HasNoFailure}
use Rattle.wal.specs.Recovery.{is_even}
use Rattle.wal.specs.Opening.{disks, slots_of}
use Rattle.wal.specs.Opened.{IsOpenedFrom}
use Rattle.history.specs.declared.views.About.{About}
use Rattle.history.specs.Handles.{Booked, Passed, about_of, fresh_book, fresh_books, fresh_pass, fresh_passes}
use Rattle.shard.specs.Shards.{Sharded}
use Rattle.keyed.proofs.Filling.{get_before, get_last}
use Rattle.openings.specs.Findings.{AreOpenedFrom, AreReturned}
use Rattle.openings.proofs.Trying.{logs_returned}
use Rattle.owners.specs.Openings.{Opening, opening_of}
use Rattle.owners.specs.Places.{AreShardsOf, IsShardAt}
use Rattle.owners.proofs.Each.{each_of}
use Rattle.ingester.specs.Findings.{AreUnfailed}
use Rattle.ingester.specs.Openings.{AreFresh}
use Rattle.ingester.specs.Calls.{IsPassOf}
use Rattle.shard.specs.Shards.{IsGround}
use Rattle.ingester.specs.Makings.{AreGround, AreShardsOfLogs, logs_of_shards}
use Rattle.ingester.proofs.Lasting.{get_front}

-- values that are dealt one after another
module _ {A : Type 0} (f : ℕ → A) (l : ℕ → List A) (none : l 0 ≡ []) (more : (n : ℕ) → l (suc n) ≡ l n ++ f n ∷ []) where
  pub length-dealt : (n : ℕ) → length (l n) ≡ n
  length-dealt zero = ap length none
  length-dealt (suc n) = let e = length-append (l n) (f n ∷ []) in let was = length-dealt n in ap length (more n) ∙ (omega arith)

  pub dealt_at : (n k : ℕ) (x : A) → slice_get (l n) k ≡ Some x → x ≡ f k
  dealt_at zero k x e = absurd (none-some x (ap (λ xs. slice_get xs k) (sym none) ∙ e))
  dealt_at (suc n) k x e = ⊎_elim
      (λ (is : k ≡ n). sym (same_Some (f n) x (sym (get_last (l n) (f n)) ∙ (ap (slice_get (l n ++ f n ∷ [])) (length-dealt n ∙ sym is) ∙ there))) ∙ ap f (sym is))
      (λ (not : k ≢ n). dealt_at n k x (get_front (l n) (f n) x k (under not (slice_get_within (l n ++ f n ∷ []) k x there)) there))
      (cases_eq k n)
    where
      there : slice_get (l n ++ f n ∷ []) k ≡ Some x
      there = ap (λ xs. slice_get xs k) (sym (more n)) ∙ e

      under : k ≢ n → k < length (l n ++ f n ∷ []) → k < length (l n)
      under not lt = let long = length-append (l n) (f n ∷ []) in let was = length-dealt n in omega arith

pub length-fresh_books : (table : TableId) (about : About) (n : ℕ) → length (fresh_books table about n) ≡ n
length-fresh_books table about = length-dealt (fresh_book table about) (fresh_books table about) refl (λ n. refl)

pub fresh_book_at : (table : TableId) (about : About) (n k : ℕ) (book : Booked) → slice_get (fresh_books table about n) k ≡ Some book → book ≡ fresh_book table about k
fresh_book_at table about = dealt_at (fresh_book table about) (fresh_books table about) refl (λ n. refl)

-- n values fit into an emptied list that had room for them
pub all_fit : (n left count capacity had : ℕ) → n ≡ count → left ≡ 0 → capacity ≡ had → count ≤ had → n + left ≤ capacity
all_fit n left count capacity had many none same room = omega arith

-- shards that were made, a log and the logs that are left go back to where all were
pub back_fit : {shards made slots old capacity had all : ℕ} (left : ℕ) → shards ≡ made → slots ≡ old → capacity ≡ had → left + made ≡ all → all + old ≤ had → left + (shards + slots) ≤ capacity
back_fit left shards_are slots_are same all_are room = omega arith

pub shards_fit : (left : ℕ) {back capacity : ℕ} → left + back ≤ capacity → back ≤ capacity
shards_fit left fit = omega arith

pub log_fits : (fewer : ℕ) {left back now capacity had : ℕ} → fewer + 1 ≡ left → now ≡ back → capacity ≡ had → left + back ≤ had → now < capacity
log_fits fewer popped is same fit = omega arith

pub logs_fit : (fewer : ℕ) {left back one now capacity had : ℕ} → fewer + 1 ≡ left → one ≡ back → now ≡ one + 1 → capacity ≡ had → left + back ≤ had → fewer + now ≤ capacity
logs_fit fewer popped is more same fit = omega arith

-- the first book
pub first_fresh : (table : TableId) (about : About) (n : ℕ) (books : List Booked) (book : Booked) → books ≡ fresh_books table about n → 0 < n → book ≡ get_or books 0 book → book ≡ fresh_book table about 0
first_fresh table about n books book e some is =
    fresh_book_at table about n 0 book (ap (λ l. slice_get l 0) (sym e) ∙ slice_get_read books n 0 book (sym (ap length e ∙ length-fresh_books table about n)) some is)

pub are_fresh : {D : Type 0} (opening : Opening D) (n : ℕ) (passes : List Passed) → passes ≡ fresh_passes opening.table opening.about n → AreFresh opening n passes
are_fresh opening n passes e = record {
  count_is = ap length e ∙ length-dealt (fresh_pass opening.table opening.about) (fresh_passes opening.table opening.about) refl (λ k. refl) n;
  fresh = λ p pass at. dealt_at (fresh_pass opening.table opening.about) (fresh_passes opening.table opening.about) refl (λ k. refl) n p pass (ap (λ l. slice_get l p) (sym e) ∙ at);
}

module _ {D : Type 0} (sight : D → Sight) (follows : D → Type 0) where
  -- no call on the slots of a log has failed
  none_failed_by : (given : List D) (log : Wal D) (b : Bool) → is_even log.generation ≡ b → HasNoFailure (slots_of sight given) (slots sight log) → HasNoFailure (slots_of sight given) (slots_of sight (if b then log.active ∷ log.spare ∷ [] else log.spare ∷ log.active ∷ []))
  none_failed_by given log true e none = subst (λ (x : Bool). HasNoFailure (slots_of sight given) (pair x (sight log.active) (sight log.spare))) e none
  none_failed_by given log false e none = subst (λ (x : Bool). HasNoFailure (slots_of sight given) (pair x (sight log.active) (sight log.spare))) e none

  unfailed : (count capacity k : ℕ) (all : List (List D)) (logs : List (Wal D)) (ms : List Streams) → AreOpenedFrom sight follows count capacity k all logs ms → AreUnfailed sight all (map disks logs)
  unfailed count capacity k [] [] [] h = tt
  unfailed count capacity k [] [] (m ∷ ms) h = absurd h
  unfailed count capacity k [] (log ∷ logs) ms h = absurd h
  unfailed count capacity k (given ∷ all) [] ms h = absurd h
  unfailed count capacity k (given ∷ all) (log ∷ logs) [] h = absurd h
  unfailed count capacity k (given ∷ all) (log ∷ logs) (m ∷ ms) h = (none_failed_by given log (is_even log.generation) refl h.0.not_failed, unfailed count capacity (k + 1) all logs ms h.1)

  -- all that was opened comes back
  pub returned_all : (count capacity : ℕ) (all back left : List (List D)) (logs : List (Wal D)) (ms : List Streams) → AreOpenedFrom sight follows count capacity 0 all logs ms → left ≡ [] → back ≡ map disks logs ++ left → AreReturned sight follows all back × AreUnfailed sight all back
  returned_all count capacity all back left logs ms h none is =
      let same : map disks logs ≡ back = sym (is ∙ (ap (λ l. map disks logs ++ l) none ∙ append-nil (map disks logs))) in
      (subst (AreReturned sight follows all) same (logs_returned sight follows count capacity 0 all logs ms h), subst (AreUnfailed sight all) same (unfailed count capacity 0 all logs ms h))

  -- the log of a shard and the streams that stood in it
  record IsFoundAt (count capacity k : ℕ) (log : Wal D) (m : Streams) : Type 0 where
    pub given : List D
    pub opened : IsOpenedFrom sight follows (place_of k count) capacity given log m

  opened_at : (count capacity k j : ℕ) (all : List (List D)) (logs : List (Wal D)) (ms : List Streams) (log : Wal D) (m : Streams) → AreOpenedFrom sight follows count capacity k all logs ms
      → slice_get logs j ≡ Some log → slice_get ms j ≡ Some m → IsFoundAt count capacity (k + j) log m
  opened_at count capacity k j [] [] [] log m h e f = absurd (none-some log e)
  opened_at count capacity k j [] [] (m' ∷ ms) log m h e f = absurd h
  opened_at count capacity k j [] (l ∷ logs) ms log m h e f = absurd h
  opened_at count capacity k j (g ∷ all) [] ms log m h e f = absurd h
  opened_at count capacity k j (g ∷ all) (l ∷ logs) [] log m h e f = absurd h
  opened_at count capacity k zero (g ∷ all) (l ∷ logs) (m' ∷ ms) log m h e f =
      let a = same_Some l log e in
      let b = same_Some m' m f in
      record { given = g; opened = subst (λ (z : Wal D × Streams). IsOpenedFrom sight follows (place_of (k + 0) count) capacity g z.0 z.1) (λ i. (a i, b i)) (subst (λ n. IsOpenedFrom sight follows (place_of n count) capacity g l m') (omega arith) h.0) }
  opened_at count capacity k (suc j) (g ∷ all) (l ∷ logs) (m' ∷ ms) log m h e f = subst (λ n. IsFoundAt count capacity n log m) (omega arith) (opened_at count capacity (k + 1) j all logs ms log m h.1 e f)

  -- what was opened is what shards are made of, with the fresh books of its histories
  pub grounded : (table : TableId) (passes : ℕ) (limits : Limits) (count capacity : ℕ) (all : List (List D)) (logs : List (Wal D)) (ms : List Streams) (books : List Booked)
      → AreOpenedFrom sight follows count capacity 0 all logs ms → length ms ≡ count → AreLimits limits
      → books ≡ fresh_books table (about_of ms passes limits capacity) (length ms) → AreGround sight follows limits logs ms books
  grounded table passes limits count capacity all logs ms books h many lawful is k log m book at_log at_m at_book =
      let about = about_of ms passes limits capacity in
      let start : 0 + k ≡ k = omega arith in
      let found = subst (λ n. IsFoundAt count capacity n log m) start (opened_at count capacity 0 k all logs ms log m h at_log at_m) in
      let o = found.opened in
      let fresh : book ≡ fresh_book table about k = fresh_book_at table about (length ms) k book (ap (λ l. slice_get l k) (sym is) ∙ at_book) in
      subst (λ b. IsGround sight follows limits log m b) (sym fresh) (record {
        fresh = refl;
        base = get_or_from_slice_get ms k m finite.empty at_m;
        same_limits = refl;
        small_limits = lawful;
        same_capacity = o.same_capacity;
        small_capacity = o.small_capacity;
        same_owner = o.same_owner ∙ ap (place_of k) (sym many);
        usable = o.usable;
        settled = o.settled;
        fit = subst (λ w. FitStreams w m) (sym o.same_owner) o.fit;
        small = o.small;
      })

  -- the last of each, and those before it
  pub ground_popped : (limits : Limits) (all_logs logs : List (Wal D)) (all_ms ms : List Streams) (all_books books : List Booked) (log : Wal D) (m : Streams) (book : Booked)
      → AreGround sight follows limits all_logs all_ms all_books → all_logs ≡ logs ++ log ∷ [] → all_ms ≡ ms ++ m ∷ [] → all_books ≡ books ++ book ∷ []
      → length ms ≡ length logs → length books ≡ length logs → IsGround sight follows limits log m book × AreGround sight follows limits logs ms books
  ground_popped limits all_logs logs all_ms ms all_books books log m book h a b c e f = (
    h (length logs) log m book (ap (λ l. slice_get l (length logs)) a ∙ get_last logs log)
        (ap (λ l. slice_get l (length logs)) b ∙ (ap (slice_get (ms ++ m ∷ [])) (sym e) ∙ get_last ms m))
        (ap (λ l. slice_get l (length logs)) c ∙ (ap (slice_get (books ++ book ∷ [])) (sym f) ∙ get_last books book)),
    λ k l s d at_log at_m at_book. h k l s d (ap (λ x. slice_get x k) a ∙ get_before logs log l k (slice_get_within logs k l at_log) at_log)
        (ap (λ x. slice_get x k) b ∙ get_before ms m s k (slice_get_within ms k s at_m) at_m) (ap (λ x. slice_get x k) c ∙ get_before books book d k (slice_get_within books k d at_book) at_book),
  )

module _ {D : Type 0} where
  -- a shard of the last logs and books is made, and the first ones are left
  pub record IsPartly (shards : List (Option (Sharded D))) (logs all_logs : List (Wal D)) (books all_books : List Booked) : Type 0 where
    pub made_logs : List (Wal D)
    pub made_books : List Booked
    pub logs_are : all_logs ≡ logs ++ made_logs
    pub books_are : all_books ≡ books ++ made_books
    pub made : AreShardsOfLogs shards made_logs made_books

  pub partly_none : (shards : List (Option (Sharded D))) (logs : List (Wal D)) (books : List Booked) → shards ≡ [] → IsPartly shards logs logs books books
  partly_none shards logs books e = record {
    made_logs = [];
    made_books = [];
    logs_are = sym (append-nil logs);
    books_are = sym (append-nil books);
    made = subst (λ s. AreShardsOfLogs s [] []) (sym e) tt;
  }

  pub partly_more : (shards shards' : List (Option (Sharded D))) (logs logs' all_logs : List (Wal D)) (books books' all_books : List Booked) (log : Wal D) (book : Booked)
      → IsPartly shards logs all_logs books all_books → logs ≡ logs' ++ log ∷ [] → books ≡ books' ++ book ∷ []
      → shards' ≡ Some (record { log = log; book = book; opened = log }) ∷ shards → IsPartly shards' logs' all_logs books' all_books
  partly_more shards shards' logs logs' all_logs books books' all_books log book h e f is = record {
    made_logs = log ∷ h.made_logs;
    made_books = book ∷ h.made_books;
    logs_are = h.logs_are ∙ (ap (λ l. l ++ h.made_logs) e ∙ append_assoc logs' (log ∷ []) h.made_logs);
    books_are = h.books_are ∙ (ap (λ l. l ++ h.made_books) f ∙ append_assoc books' (book ∷ []) h.made_books);
    made = subst (λ s. AreShardsOfLogs s (log ∷ h.made_logs) (book ∷ h.made_books)) (sym is) (refl, h.made);
  }

  pub partly_all : (shards : List (Option (Sharded D))) (logs all_logs : List (Wal D)) (books all_books : List Booked) → IsPartly shards logs all_logs books all_books → logs ≡ [] → books ≡ [] → AreShardsOfLogs shards all_logs all_books
  partly_all shards logs all_logs books all_books h e f =
      subst (λ (z : List (Wal D) × List Booked). AreShardsOfLogs shards z.0 z.1) (λ i. (sym (h.logs_are ∙ ap (λ l. l ++ h.made_logs) e) i, sym (h.books_are ∙ ap (λ l. l ++ h.made_books) f) i)) h.made

  made_logs : (shards : List (Option (Sharded D))) (logs : List (Wal D)) (books : List Booked) → AreShardsOfLogs shards logs books → logs_of_shards shards ≡ logs
  made_logs [] [] [] h = refl
  made_logs [] [] (b ∷ books) h = absurd h
  made_logs [] (l ∷ logs) books h = absurd h
  made_logs (None ∷ shards) logs books h = absurd h
  made_logs (Some s ∷ shards) [] books h = absurd h
  made_logs (Some s ∷ shards) (l ∷ logs) [] h = absurd h
  made_logs (Some s ∷ shards) (l ∷ logs) (b ∷ books) h = λ i. (h.0 i).log ∷ made_logs shards logs books h.1 i

  -- all slots, where the shards' go in front first, then this log's, then those of the logs that are left
  pub partly_back : (shards : List (Option (Sharded D))) (logs logs' all_logs : List (Wal D)) (books all_books : List Booked) (log back : Wal D) (slots one two three : List (List D))
      → IsPartly shards logs all_logs books all_books → logs ≡ logs' ++ log ∷ [] → back ≡ log
      → one ≡ map disks (logs_of_shards shards) ++ slots → two ≡ disks back ∷ one → three ≡ map disks logs' ++ two → three ≡ map disks all_logs ++ slots
  partly_back shards logs logs' all_logs books all_books log back slots one two three h e same a b c =
      let all : all_logs ≡ logs' ++ log ∷ h.made_logs = h.logs_are ∙ (ap (λ l. l ++ h.made_logs) e ∙ append_assoc logs' (log ∷ []) h.made_logs) in
      let behind : one ≡ map disks h.made_logs ++ slots = a ∙ ap (λ l. map disks l ++ slots) (made_logs shards h.made_logs h.made_books h.made) in
      c ∙ (ap (λ l. map disks logs' ++ l) (b ∙ (λ i. disks (same i) ∷ behind i)) ∙ (put logs' log h.made_logs ∙ ap (λ l. map disks l ++ slots) (sym all)))
    where
      put : (xs : List (Wal D)) (x : Wal D) (ys : List (Wal D)) → map disks xs ++ (disks x ∷ (map disks ys ++ slots)) ≡ map disks (xs ++ x ∷ ys) ++ slots
      put [] x ys = refl
      put (z ∷ xs) x ys = ap (λ l. disks z ∷ l) (put xs x ys)

  -- shard k of the logs and books
  record IsMadeAt (shards : List (Option (Sharded D))) (logs : List (Wal D)) (books : List Booked) (k : ℕ) : Type 0 where
    pub log : Wal D
    pub book : Booked
    pub shard_is : slice_get shards k ≡ Some (Some (record { log = log; book = book; opened = log }))
    pub log_is : slice_get logs k ≡ Some log
    pub book_is : slice_get books k ≡ Some book

  made_at : (shards : List (Option (Sharded D))) (logs : List (Wal D)) (books : List Booked) (k : ℕ) → AreShardsOfLogs shards logs books → k < length shards → IsMadeAt shards logs books k
  made_at [] logs books k h lt = absurd (omega arith)
  made_at (None ∷ shards) logs books k h lt = absurd h
  made_at (Some s ∷ shards) [] books k h lt = absurd h
  made_at (Some s ∷ shards) (l ∷ logs) [] k h lt = absurd h
  made_at (Some s ∷ shards) (l ∷ logs) (b ∷ books) zero h lt = record { log = l; book = b; shard_is = ap (λ x. Some (Some x)) h.0; log_is = refl; book_is = refl }
  made_at (Some s ∷ shards) (l ∷ logs) (b ∷ books) (suc k) h lt = let r = made_at shards logs books k h.1 (omega arith) in record { log = r.log; book = r.book; shard_is = r.shard_is; log_is = r.log_is; book_is = r.book_is }

  -- each shard is the one of its number, before any turn
  pub made_fit : (sight : D → Sight) (follows : D → Type 0) (first : Booked) (opened logs : List (Wal D)) (shards : List (Option (Sharded D))) (books : List Booked) (n : ℕ) → opened ≡ logs → books ≡ fresh_books first.table first.about n → AreShardsOfLogs shards logs books
      → AreShardsOf sight follows (opening_of first opened) shards
  made_fit sight follows first opened logs shards books n e is h = each_of (IsShardAt sight follows (opening_of first opened)) shards at
    where
      some_inj : (a b : Option (Sharded D)) → Some a ≡ Some b → a ≡ b
      some_inj a b e = cc

      at : (k : ℕ) (place : Option (Sharded D)) → slice_get shards k ≡ Some place → IsShardAt sight follows (opening_of first opened) k place
      at k place found =
          let r = made_at shards logs books k h (slice_get_within shards k place found) in
          let fresh = fresh_book_at first.table first.about n k r.book (ap (λ l. slice_get l k) (sym is) ∙ r.book_is) in
          subst (IsShardAt sight follows (opening_of first opened) k) (some_inj (Some (record { log = r.log; book = r.book; opened = r.log })) place (sym r.shard_is ∙ found)) (record {
            table = ap (λ (b : Booked). b.table) fresh;
            about = ap (λ (b : Booked). b.about) fresh;
            number = ap (λ (b : Booked). b.shard) fresh;
            opened = ap (λ l. slice_get l k) e ∙ r.log_is;
            turns = [];
            turned = λ i. record { log = r.log; book = fresh i; opened = r.log };
          })

-- a fresh pass is of its opening
pub fresh_are_of : {D : Type 0} (opening : Opening D) (n : ℕ) (passes : List Passed) → AreFresh opening n passes → (p : ℕ) (pass : Passed) → slice_get passes p ≡ Some pass → IsPassOf opening pass
fresh_are_of opening n passes h p pass at =
    let e = h.fresh p pass at in
    record { table = ap (λ (x : Passed). x.table) e; about = ap (λ (x : Passed). x.caller.about) e; idle = λ _. ap (λ (x : Passed). x.caller.pending) e }
