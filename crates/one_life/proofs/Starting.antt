-- What was promised of two logs, and of histories over what was found of them, is an opening.
use Rattle.std.proofs.Common.{◌≡◌, ℕ, ◌+◌, List, [], ◌∷◌, ◌++◌, length, length-append, refl, sym, ap, ◌∙◌, subst, arith}
use Rattle.atomic_table.specs.Seated.{TableId}
use Rattle.headline.proofs.Common.{AreLimits, Streams, Limits, About, Sight, Wal, place_of, IsOpenedFrom, base_at, Booked, Passed, about_of, fresh_book, fresh_books, fresh_pass, fresh_passes, IsGround}
use Rattle.segment.specs.Fitting.{FitStreams}
use Rattle.one_life.specs.declared.opening.Two.{Two}
use Rattle.one_life.specs.Cut.{HaveBegun, AreOpened, opening_with}

-- the two of a list
pub two_of : {A : Type 0} (list left none : List A) (first second : A) → list ≡ left ++ second ∷ [] → left ≡ none ++ first ∷ [] → length list ≡ 2 → list ≡ first ∷ second ∷ []
two_of {A = A} list left [] first second e f two = e ∙ ap (λ (l : List A). l ++ second ∷ []) f
two_of {A = A} list left (x ∷ none) first second e f two =
    let all : length list ≡ length left + 1 = ap length e ∙ length-append left (second ∷ []) in
    let most : length left ≡ length (x ∷ none) + 1 = ap length f ∙ length-append (x ∷ none) (first ∷ []) in
    absurd (omega arith)

same_both : {A : Type 0} (both : A × A) (first second : A) → both.0 ∷ both.1 ∷ [] ≡ first ∷ second ∷ [] → both ≡ (first, second)
same_both both first second e =
    let one : both.0 ≡ first = cc in
    let two : both.1 ≡ second = cc in
    λ i. (one i, two i)

-- two books and two passes, of histories that have begun
pub begun_by : (history : TableId) (ms : List Streams) (limits : Limits) (capacity : ℕ) (books : List Booked) (passes : List Passed) (both_books : Booked × Booked) (both_passes : Passed × Passed) → length ms ≡ 2
    → books ≡ fresh_books history (about_of ms 2 limits capacity) (length ms) → passes ≡ fresh_passes history (about_of ms 2 limits capacity) 2 → books ≡ both_books.0 ∷ both_books.1 ∷ [] → passes ≡ both_passes.0 ∷ both_passes.1 ∷ []
    → HaveBegun (about_of ms 2 limits capacity) (record { history = history; books = both_books; passes = both_passes })
begun_by history ms limits capacity books passes both_books both_passes two books_are passes_are these those =
    let about = about_of ms 2 limits capacity in
    record {
      books = same_both both_books (fresh_book history about 0) (fresh_book history about 1) (sym these ∙ (books_are ∙ ap (fresh_books history about) two));
      passes = same_both both_passes (fresh_pass history about 0) (fresh_pass history about 1) (sym those ∙ passes_are);
    }

module _ {D : Type 0} (sight : D → Sight) (follows : D → Type 0) (limits : Limits) (capacity : ℕ) (m n : Streams) where
  abbrev pub about : About
  about = about_of (m ∷ n ∷ []) 2 limits capacity

  -- a log of a shard, and its fresh book
  pub ground_two : (k : ℕ) (given : List D) (log : Wal D) (found : Streams) (table : TableId) (book : Booked) → IsOpenedFrom sight follows (place_of k 2) capacity given log found → base_at about k ≡ found → AreLimits limits → book ≡ fresh_book table about k
      → IsGround sight follows limits log found book
  ground_two k given log found table book o base lawful is = subst (IsGround sight follows limits log found) (sym is) (record {
    fresh = refl;
    base = base;
    same_limits = refl;
    small_limits = lawful;
    same_capacity = o.same_capacity;
    small_capacity = o.small_capacity;
    same_owner = o.same_owner;
    usable = o.usable;
    settled = o.settled;
    fit = subst (λ w. FitStreams w found) (sym o.same_owner) o.fit;
    small = o.small;
  })

  -- both shards over their logs, and both passes
  pub opened_two : (given other : List D) (log next : Wal D) (table : TableId) (it : Two D) → IsOpenedFrom sight follows (place_of 0 2) capacity given log m → IsOpenedFrom sight follows (place_of 1 2) capacity other next n
      → it.first ≡ record { log = log; book = fresh_book table about 0; opened = log } → it.second ≡ record { log = next; book = fresh_book table about 1; opened = next } → it.one ≡ fresh_pass table about 0 → it.two ≡ fresh_pass table about 1
      → AreOpened sight follows limits capacity (given ∷ other ∷ []) (opening_with it) it
  opened_two given other log next table it o p first second one two =
      let start : Two D = record {
        first = record { log = log; book = fresh_book table about 0; opened = log };
        second = record { log = next; book = fresh_book table about 1; opened = next };
        one = fresh_pass table about 0;
        two = fresh_pass table about 1;
      } in
      let same : start ≡ it = λ i. record { first = sym first i; second = sym second i; one = sym one i; two = sym two i } in
      subst (λ (x : Two D). AreOpened sight follows limits capacity (given ∷ other ∷ []) (opening_with x) x) same (record {
        two_shards = refl;
        shards = refl;
        found = (o, (p, tt));
        about = refl;
        logs = refl;
        first = refl;
        second = refl;
        one = refl;
        two = refl;
      })
