-- The steps of a book keep the rule.
use Rattle.std.proofs.Common.{◌≡◌, ℕ, ◌+◌, ◌*◌, ◌%◌, ◌^◌, ◌<◌, ◌≤◌, List, [], ◌∷◌, ◌++◌, length, Bool, true, false, cond, ◌&&◌, refl, sym, ap, ◌∙◌, subst, inr, arith, eq-eqb, length-append, length-set, slice_set, slice_index, nat_lt, get_or-set_same, get_or-set_other}
use Rattle.history.proofs.Common.{none, Me, Allows, step, keeps, Call, Reply, Unavailable, NoRoom, Ask, Step, Item, Answered, About, Shelf, View, Nobody, Keeps, Token, Open, Done, answer, after, changes, MayFollow, reply_to, is_marked, alone, TableContents, AccountOk, IsGood, AreWords, AreTold, KeepsRule, steps_in_all, keeper, answered, HasRoomForSteps, committed_at, put, put_at, put_all, put_other, put_two, put_two_at, begins_same}
use Rattle.accept.specs.Rooms.{room as room_of}
use Rattle.history.specs.Histories.{IsBeginning, IsLegalAt, terms_of, history_of, reply_of, shard_in, steps_by, asks_by, IsByPasses, HaveNumbersBelow, HaveSteps, bound}
use Rattle.history.proofs.Past.{rising_count, asks_step, steps_else, all_new, legal_more, by_passes_append, marked_step, total_step, total_least}
use Rattle.history.proofs.Accounts.{one_open, token_ok, grown_ok, committed_ok}
use Rattle.history.proofs.Seats.{seats_set, hand_put, doubt_put, held_by, book_of}

mark_least : (b : Bool) → cond b 1 0 ≤ 1
mark_least true = omega arith
mark_least false = omega arith

-- a history has at most a step under each number of each pass, and the mark
pub short : (about : About) (x : TableContents) (k : ℕ) → IsGood about x → HasRoomForSteps about (x.items k)
short about x k good =
    let least : steps_in_all about.passes (x.items k) ≤ about.passes * bound = total_least about.passes (x.items k) (λ p lt.
    let ok = good.passes p lt in
    let rises : length (steps_by p (x.items k)) ≤ (x.callers p).last + 1 = rising_count ((x.callers p).last + 1) (steps_by p (x.items k)) (ok.steps.rising k) (ok.steps.used k) in
    let within = ok.numbers.within in
    omega arith) in
    let counted = good.counted k in
    let mark = mark_least (is_marked (x.items k)) in
    omega arith

-- one more item fits into a word
pub room : (about : About) (x : TableContents) (k : ℕ) → IsGood about x → about.passes ≤ 64 → length (x.items k) + 1 < 18446744073709551616
room about x k good few =
    let least : length (x.items k) ≤ about.passes * bound + 1 = short about x k good in
    let most : about.passes * bound ≤ 64 * bound = omega arith in
    omega arith

-- the shard's word gets the length of its longer history
pub words_longer : (about : About) (x : TableContents) (words : List ℕ) (k : ℕ) (now : List Item) (item : Item) (tokens : ℕ → ℕ → Token) → AreWords about x words → k < about.shards
    → now ≡ x.items k ++ item ∷ [] → length (x.items k) + 1 < 18446744073709551616
    → AreWords about (record { items = put x.items k now; callers = x.callers; tokens = tokens }) (slice_set words k ((slice_index words k + 1) % 2 ^ 64))
words_longer about x words k now item tokens h lt is fits =
    let new : ℕ = (slice_index words k + 1) % 2 ^ 64 in record {
      any = h.any;
      few = h.few;
      wide = length-set words k new ∙ h.wide;
      lengths = put_all x.items k now (λ j l. j < about.shards → slice_index (slice_set words k new) j ≡ length l)
          (λ _. get_or-set_same words k new 0 (let w = h.wide in omega arith)
          ∙ (let e = h.lengths k lt in let n : length now ≡ length (x.items k) + 1 = ap length is ∙ length-append (x.items k) (item ∷ []) in omega arith))
          (λ j n l. get_or-set_other words k j new 0 (λ e. n (sym e)) ∙ h.lengths j l);
      numbers = λ p l. get_or-set_other words k (about.shards + p) new 0 (λ e. omega arith) ∙ h.numbers p l;
    }

pub longer_begins : (x : TableContents) (k : ℕ) (now : List Item) (item : Item) → now ≡ x.items k ++ item ∷ [] → (j : ℕ) → IsBeginning (x.items j) (put x.items k now j)
longer_begins x k now item is = put_all x.items k now (λ j l. IsBeginning (x.items j) l) (record { rest = item ∷ []; is = is }) (λ j n. begins_same (x.items j))

-- what is replied is what a legal history asks for
replies : (about : About) (k : ℕ) (items : List Item) (a : Ask) → reply_of about k items a.call ≡ reply_to (terms_of about k) (history_of about k items) a.call
unfolding reply_of
replies about k items a = refl

-- after a mark that is unavailable
pub refuses : (about : About) (k : ℕ) (items : List Item) (call : Call) → is_marked items ≡ true → reply_of about k items call ≡ Unavailable
unfolding reply_of
refuses about k items call e = ap (λ b. cond b Unavailable (reply_unmarked about k items call)) e
  where
    reply_unmarked : (about : About) (k : ℕ) (items : List Item) (call : Call) → Reply
    reply_unmarked about k items call =
        let limits = about.limits in
        let h = history_of about k items in
        cond (changes (answer limits h call) && nat_lt about.capacity (room_of (after limits h call))) NoRoom (answer limits h call)

-- the histories and the passes after a step of the call a
good_step : (about : About) (x : TableContents) (k : ℕ) (now : List Item) (a : Ask) (f : Bool) (b : List Ask) (at : ℕ × ℕ) → IsGood about x → a.pass < about.passes → shard_in about a ≡ k → x.tokens a.pass a.number ≡ Open a f b → HaveSteps b (x.items k)
    → let s : Step = answered about k (x.items k) a in now ≡ x.items k ++ Answered s ∷ []
    → IsGood about (record { items = put x.items k now; callers = x.callers; tokens = put_two x.tokens a.pass a.number (Done s now at) })
good_step about x k now a f b at good lt here has had is =
    let s : Step = answered about k (x.items k) a in
    let c = x.callers a.pass in
    let ts = x.tokens a.pass in
    let ok = good.passes a.pass lt in
    let below : HaveNumbersBelow a.number (steps_by a.pass (x.items k)) = subst (λ (j : ℕ). HaveNumbersBelow a.number (steps_by a.pass (x.items j))) here (token_ok about x.items a.pass c ts ok a.number (Open a f b) has).3 in
    let may : MayFollow (terms_of about k) (history_of about k (x.items k)) (Answered s) = (replies about k (x.items k) a, all_new a (x.items k) below, eq-eqb k (shard_in about a) (sym here)) in record {
      legal = put_all x.items k now (λ j l. IsLegalAt about j l) (subst (λ l. IsLegalAt about k l) (sym is) (legal_more about k (x.items k) (Answered s) (good.legal k) may)) (λ j n. good.legal j);
      counted = put_all x.items k now (λ j l. length l ≤ steps_in_all about.passes l + cond (is_marked l) 1 0)
          (subst (λ l. length l ≤ steps_in_all about.passes l + cond (is_marked l) 1 0) (sym is)
          (let n : length (x.items k) ≤ steps_in_all about.passes (x.items k) + cond {A = ℕ} (is_marked (x.items k)) 1 0 = good.counted k in
          let e = length-append (x.items k) (Answered s ∷ []) in
          let t : steps_in_all about.passes (x.items k ++ Answered s ∷ []) ≡ steps_in_all about.passes (x.items k) + 1 = total_step about.passes (x.items k) s lt in
          let m : cond {A = ℕ} (is_marked (x.items k ++ Answered s ∷ [])) 1 0 ≡ cond {A = ℕ} (is_marked (x.items k)) 1 0 = ap (λ b. cond b 1 0) (marked_step (x.items k) s) in
          omega arith))
          (λ j n. good.counted j);
      by_passes = put_all x.items k now (λ j l. IsByPasses about.passes l)
          (subst (λ l. IsByPasses about.passes l) (sym is) (by_passes_append about.passes (x.items k) (Answered s ∷ []) (good.by_passes k) (lt, tt)))
          (λ j n. good.by_passes j);
      passes = put_all x.tokens a.pass (put ts a.number (Done s now at)) (λ q u. q < about.passes → AccountOk about (put x.items k now) q (x.callers q) u)
          (λ _. subst (λ l. AccountOk about (put x.items k l) a.pass c (put ts a.number (Done s l at))) (sym is) (committed_ok about x.items a.pass c ts a f b s.reply k at here has had ok))
          (λ q n l. grown_ok about x.items (put x.items k now) q (x.callers q) (x.tokens q) (longer_begins x k now (Answered s) is)
          (put_all x.items k now (λ j l. steps_by q l ≡ steps_by q (x.items j)) (ap (steps_by q) is ∙ steps_else q (x.items k) s (λ e. n (sym e))) (λ j m. refl))
          (put_all x.items k now (λ j l. AreTold (x.callers q).made (x.tokens q) (asks_by q l))
          (subst (λ y. AreTold (x.callers q).made (x.tokens q) y) (sym (ap (asks_by q) is ∙ asks_step q (x.items k) s)) ((good.passes q l).way.told k))
          (λ j m. (good.passes q l).way.told j))
          (good.passes q l));
    }

-- a book adds a step
pub commits_as : (slots id k : ℕ) (shelf : Shelf) (a : Ask) (f : Bool) (b : List Ask) (at : ℕ × ℕ) (m : Me Unit View) → m ≡ (alone (Keeps shelf) (Open a f b), []) → shelf.doubt ≡ [] → shelf.shard ≡ k → shard_in shelf.about a ≡ k
    → HaveSteps b shelf.items → Allows KeepsRule slots id m k (λ n. (n + 1) % 2 ^ 64) (committed_at at (step slots k 1 0 none) m)
commits_as slots id k shelf a f b at m is none_yet at_shard here had =
    let about : About = shelf.about in
    let items : List Item = shelf.items in
    let same : m ≡ (keeper about k items [] (Open a f b), []) = is ∙ ap (λ (z : ℕ × List Ask). (keeper about z.0 items z.1 (Open a f b), [])) (λ i. (at_shard i, none_yet i)) in
    subst (λ (u : Me Unit View). Allows KeepsRule slots id u k (λ n. (n + 1) % 2 ^ 64) (committed_at at (step slots k 1 0 none) u)) (sym same) (λ s h wide e fits.
    let r = book_of s id (record { about = about; shard = k; items = items; doubt = [] }) Nobody (Open a f b) h e in
    let x = r.contents in
    let seat = r.seats id (keeper about k items [] (Open a f b)) e in
    let mine = seat.role in
    let hand = seat.hand in
    let d : Step = answered about k items a in
    let now : List Item = items ++ Answered d ∷ [] in
    let is : now ≡ x.items k ++ Answered (answered about k (x.items k) a) ∷ [] = ap (λ l. l ++ Answered (answered about k l a) ∷ []) (sym mine.3) in
    let t' : Token = Done d now at in
    let x' : TableContents = record { items = put x.items k now; callers = x.callers; tokens = put_two x.tokens a.pass a.number t' } in (
      keeper about k now [] t',
      keeps,
      tt,
      (
        about,
        record {
          contents = x';
          seating = held_by r.seating a.pass a.number id;
          words = words_longer about x s.words k now (Answered (answered about k (x.items k) a)) (put_two x.tokens a.pass a.number t') r.words mine.1 is (room about x k r.good r.words.few);
          good = subst (λ l. IsGood about (record { items = put x.items k now; callers = x.callers; tokens = put_two x.tokens a.pass a.number (Done (answered about k l a) now at) })) mine.3
              (good_step about x k now a f b at r.good hand.0 here hand.2 (subst (λ (l : List Item). HaveSteps b l) (sym mine.3) had) is);
          seats = seats_set about x r.seating id x' (held_by r.seating a.pass a.number id)
              (record {
                books = λ i j n q. (q, put_other x.items k now r.seating.books id i j mine.2 q n);
                passes = λ p j n q. (q, refl);
                hands = hand_put about x r.seating a.pass a.number id t' id (inr hand.1) (put x.items k now) x.callers r.seating.books r.seating.passes;
                doubts = λ o j n q g. doubt_put x.tokens a.pass a.number (Open a f b) t' o hand.2
                    (λ its. absurd (n (sym q ∙ ap (λ (i : Ask). r.seating.books (shard_in about i)) (sym (one_open a o f true b its.0 its.1).0) ∙ ap r.seating.books here ∙ mine.2))) g;
              })
              s.views (keeper about k now [] t') r.seats
              (record {
                role = (mine.0, mine.1, mine.2, put_at x.items k now k refl, tt);
                guest = tt;
                two = tt;
                hand = (hand.0, put_two_at r.seating.holders a.pass a.number id a.pass a.number refl refl, put_two_at x.tokens a.pass a.number t' a.pass a.number refl refl);
              });
        },
      ),
      refl,
    ))
