-- Calls in doubt, and the failure mark, keep the rule.
use Rattle.std.proofs.Common.{◌≡◌, ℕ, ◌+◌, ◌%◌, ◌^◌, ◌<◌, ◌≤◌, List, [], ◌∷◌, ◌++◌, length, Bool, true, false, cond, eqb, not, ◌&&◌, refl, sym, ap, ◌∙◌, subst, inr, arith, append-nil, eq-eqb, length-append, IsTrue, eqb-true}
use Rattle.std.specs.List.{list_any, list_all}
use Rattle.history.proofs.Common.{none, Me, Allows, Joins, step, keeps, Ask, Step, Item, Failed, About, Shelf, View, Role, Nobody, Keeps, Token, Nothing, Open, MayFollow, is_marked, is_step_of, key_of, IsLegalAt, terms_of, history_of, shard_in, steps_by, of_pass, asks_by, HavePassesBelow, IsByPasses, HaveNumbersBelow, alone, TableContents, AccountOk, IsGood, IsInDoubt, AreOpen, IsOnItsWay, AreTold, KeepsRule, steps_in_all, loose, keeper, in_doubt, marked, put, put_at, put_all, put_other, put_two, put_two_at, cond_both, and_from}
use Rattle.history.specs.Shards.{is_of_shard}
use Rattle.history.proofs.Past.{asks_append, steps_mark, no_step, legal_more, by_passes_append, marked_mark, total_mark}
use Rattle.history.proofs.Accounts.{one_open, token_ok, told_append, grown_ok, doubted_ok}
use Rattle.history.proofs.Seats.{Frame, role_kept, seats_set, seats_join, hand_same, still_there, hand_put, doubt_put, held_by, book_of}
use Rattle.history.proofs.Books.{room, words_longer, longer_begins}

open_append : (about : About) (x : TableContents) (k : ℕ) (d e : List Ask) → AreOpen about x k d → AreOpen about x k e → AreOpen about x k (d ++ e)
open_append about x k [] e h g = g
open_append about x k (a ∷ d) e h g = (h.0, h.1, h.2, open_append about x k d e h.3 g)

one_call : (a b : Ask) (f : Bool) (d : List Ask) → IsInDoubt b (Open a f d) → IsInDoubt b (Open a true d)
one_call a b f d o = let same = one_open a b f true d o.0 o.1 in (d, ap (λ (c : Ask). Open c true d) same.0)

-- an open call comes into the book's hand, and goes into doubt
pub doubts_as : (id : ℕ) (v : View) (other : ℕ) (w : View) (shelf : Shelf) (role : Role) (a : Ask) (f : Bool) (b : List Ask) → v ≡ alone (Keeps shelf) Nothing → w ≡ alone role (Open a f b) → shard_in shelf.about a ≡ shelf.shard
    → Joins KeepsRule id v other w (in_doubt v w) loose
doubts_as id v other w shelf role a f b is its here = subst (λ (z : View × View). Joins KeepsRule id z.0 other z.1 (in_doubt z.0 z.1) loose) (λ i. (sym is i, sym its i)) (λ s h e n there.
    let own : View = alone role (Open a f b) in
    let both : View = in_doubt (alone (Keeps shelf) Nothing) own in
    let r = book_of s id shelf Nobody Nothing h e in
    let about : About = shelf.about in
    let x = r.contents in
    let mine = r.seats id (alone (Keeps shelf) Nothing) e in
    let hand = (r.seats other own (still_there s.views id other both own n there)).hand in
    let t' : Token = Open a true b in
    let x' : TableContents = record { items = x.items; callers = x.callers; tokens = put_two x.tokens a.pass a.number t' } in
    let seats = held_by r.seating a.pass a.number id in
    let at_it = put_two_at x.tokens a.pass a.number t' a.pass a.number refl refl in
    let frame : Frame about x r.seating other x' seats = record {
      books = λ i j m q. (q, refl);
      passes = λ p j m q. (q, refl);
      hands = hand_put about x r.seating a.pass a.number other t' id (inr hand.1) x.items x.callers r.seating.books r.seating.passes;
      doubts = λ o j m q g. doubt_put x.tokens a.pass a.number (Open a f b) t' o hand.2 (one_call a o f b) g;
    } in
    let kept = role_kept about x r.seating other x' seats frame id (Keeps shelf) (λ q. n (sym q)) mine.role in (
      about,
      record {
        contents = x';
        seating = seats;
        words = record { any = r.words.any; few = r.words.few; wide = r.words.wide; lengths = r.words.lengths; numbers = r.words.numbers };
        good = record {
          legal = r.good.legal;
          counted = r.good.counted;
          by_passes = r.good.by_passes;
          passes = put_all x.tokens a.pass (put (x.tokens a.pass) a.number t') (λ q u. q < about.passes → AccountOk about x.items q (x.callers q) u)
              (λ l. doubted_ok about x.items a.pass (x.callers a.pass) (x.tokens a.pass) (r.good.passes a.pass l) a f b hand.2)
              (λ q m. r.good.passes q);
        };
        seats = seats_join about x r.seating other x' seats frame s.views id both r.seats
            (record {
              role = (kept.0, kept.1, kept.2, kept.3, open_append about x' shelf.shard shelf.doubt (a ∷ []) kept.4 (hand.0, here, (b, at_it), tt));
              guest = tt;
              two = tt;
              hand = (hand.0, put_two_at r.seating.holders a.pass a.number id a.pass a.number refl refl, at_it);
            });
      },
    ))

told_doubt : (about : About) (x : TableContents) (k q : ℕ) (made : List Step) (asks : List Ask) → AreOpen about x k asks → AreTold made (x.tokens q) (of_pass q asks)
told_doubt about x k q made [] h = tt
told_doubt about x k q made (a ∷ asks) h = cond_both (eqb q a.pass) (a ∷ of_pass q asks) (of_pass q asks) (AreTold made (x.tokens q))
    (λ e. (inr (subst (λ (u : Token). IsOnItsWay a u) (sym (ap (λ (p : ℕ). x.tokens p a.number) (eqb-true q a.pass e) ∙ h.2.1)) (refl, refl)), told_doubt about x k q made asks h.3))
    (λ e. told_doubt about x k q made asks h.3)

-- calls that are open are of the passes
open_passes : (about : About) (x : TableContents) (k : ℕ) (asks : List Ask) → AreOpen about x k asks → HavePassesBelow about.passes asks
open_passes about x k [] h = tt
open_passes about x k (a ∷ asks) h = (h.0, open_passes about x k asks h.3)

-- calls that are open may stand in a mark's list
may_doubt : (about : About) (x : TableContents) (k : ℕ) → IsGood about x → (asks : List Ask) → AreOpen about x k asks
    → IsTrue (list_all (λ a. not (list_any (is_step_of a) (x.items k)) && is_of_shard about.shards k (key_of a.call)) asks)
may_doubt about x k good [] h = refl
may_doubt about x k good (a ∷ asks) h =
    let ok = good.passes a.pass h.0 in
    let its = token_ok about x.items a.pass (x.callers a.pass) (x.tokens a.pass) ok a.number (Open a true h.2.0) h.2.1 in
    let below : HaveNumbersBelow a.number (steps_by a.pass (x.items k)) = subst (λ (j : ℕ). HaveNumbersBelow a.number (steps_by a.pass (x.items j))) h.1 its.3 in
    and_from (not (list_any (is_step_of a) (x.items k)) && is_of_shard about.shards k (key_of a.call)) _
    (and_from (not (list_any (is_step_of a) (x.items k))) (is_of_shard about.shards k (key_of a.call)) (ap not (no_step a (x.items k) below)) (eq-eqb k (shard_in about a) (sym h.1)))
    (may_doubt about x k good asks h.3)

-- the histories and the passes after a mark
good_mark : (about : About) (x : TableContents) (k : ℕ) (now : List Item) (asks : List Ask) → IsGood about x → AreOpen about x k asks → is_marked (x.items k) ≡ false → now ≡ x.items k ++ Failed asks ∷ []
    → IsGood about (record { items = put x.items k now; callers = x.callers; tokens = x.tokens })
good_mark about x k now asks good open_calls unmarked is =
    let may : MayFollow (terms_of about k) (history_of about k (x.items k)) (Failed asks) = (ap not unmarked, may_doubt about x k good asks open_calls) in record {
      legal = put_all x.items k now (λ j l. IsLegalAt about j l) (subst (λ l. IsLegalAt about k l) (sym is) (legal_more about k (x.items k) (Failed asks) (good.legal k) may)) (λ j n. good.legal j);
      counted = put_all x.items k now (λ j l. length l ≤ steps_in_all about.passes l + cond (is_marked l) 1 0)
          (subst (λ l. length l ≤ steps_in_all about.passes l + cond (is_marked l) 1 0) (sym is)
          (let n : length (x.items k) ≤ steps_in_all about.passes (x.items k) + cond {A = ℕ} (is_marked (x.items k)) 1 0 = good.counted k in
          let e = length-append (x.items k) (Failed asks ∷ []) in
          let t : steps_in_all about.passes (x.items k ++ Failed asks ∷ []) ≡ steps_in_all about.passes (x.items k) = total_mark about.passes (x.items k) asks in
          let m : cond {A = ℕ} (is_marked (x.items k ++ Failed asks ∷ [])) 1 0 ≡ 1 = ap (λ b. cond b 1 0) (marked_mark (x.items k) asks) in
          let o : cond {A = ℕ} (is_marked (x.items k)) 1 0 ≡ 0 = ap (λ b. cond b 1 0) unmarked in
          omega arith))
          (λ j n. good.counted j);
      by_passes = put_all x.items k now (λ j l. IsByPasses about.passes l)
          (subst (λ l. IsByPasses about.passes l) (sym is) (by_passes_append about.passes (x.items k) (Failed asks ∷ []) (good.by_passes k) (open_passes about x k asks open_calls, tt)))
          (λ j n. good.by_passes j);
      passes = λ q l. grown_ok about x.items (put x.items k now) q (x.callers q) (x.tokens q) (longer_begins x k now (Failed asks) is)
          (put_all x.items k now (λ j y. steps_by q y ≡ steps_by q (x.items j)) (ap (steps_by q) is ∙ steps_mark q (x.items k) asks) (λ j m. refl))
          (put_all x.items k now (λ j y. AreTold (x.callers q).made (x.tokens q) (asks_by q y))
          (subst (λ y. AreTold (x.callers q).made (x.tokens q) y) (sym (ap (asks_by q) is ∙ asks_append q (x.items k) (Failed asks ∷ [])))
          (told_append (x.callers q).made (x.tokens q) (asks_by q (x.items k)) (of_pass q asks ++ []) ((good.passes q l).way.told k)
          (subst (λ y. AreTold (x.callers q).made (x.tokens q) y) (sym (append-nil (of_pass q asks))) (told_doubt about x k q (x.callers q).made asks open_calls))))
          (λ j m. (good.passes q l).way.told j))
          (good.passes q l);
    }

-- a book adds a failure mark
pub marks_as : (slots id k : ℕ) (shelf : Shelf) (m : Me Unit View) → m ≡ (alone (Keeps shelf) Nothing, []) → shelf.shard ≡ k → is_marked shelf.items ≡ false
    → Allows KeepsRule slots id m k (λ n. (n + 1) % 2 ^ 64) (marked (step slots k 1 0 none) m)
marks_as slots id k shelf m is at_shard unmarked =
    let about : About = shelf.about in
    let items : List Item = shelf.items in
    let asks : List Ask = shelf.doubt in
    let same : m ≡ (keeper about k items asks Nothing, []) = is ∙ ap (λ (z : ℕ). (keeper about z items asks Nothing, [])) at_shard in
    subst (λ (u : Me Unit View). Allows KeepsRule slots id u k (λ n. (n + 1) % 2 ^ 64) (marked (step slots k 1 0 none) u)) (sym same) (λ s h wide e fits.
    let r = book_of s id (record { about = about; shard = k; items = items; doubt = asks }) Nobody Nothing h e in
    let x = r.contents in
    let mine = (r.seats id (keeper about k items asks Nothing) e).role in
    let now : List Item = items ++ Failed asks ∷ [] in
    let is : now ≡ x.items k ++ Failed asks ∷ [] = ap (λ l. l ++ Failed asks ∷ []) (sym mine.3) in
    let x' : TableContents = record { items = put x.items k now; callers = x.callers; tokens = x.tokens } in (
      keeper about k now [] Nothing,
      keeps,
      tt,
      (
        about,
        record {
          contents = x';
          seating = r.seating;
          words = words_longer about x s.words k now (Failed asks) x.tokens r.words mine.1 is (room about x k r.good r.words.few);
          good = good_mark about x k now asks r.good mine.4 (ap is_marked mine.3 ∙ unmarked) is;
          seats = seats_set about x r.seating id x' r.seating
              (record {
                books = λ i j n q. (q, put_other x.items k now r.seating.books id i j mine.2 q n);
                passes = λ p j n q. (q, refl);
                hands = λ j t n q. hand_same about x r.seating (put x.items k now) x.callers r.seating.books r.seating.passes j t q;
                doubts = λ b j n q o. o;
              })
              s.views (keeper about k now [] Nothing) r.seats
              (record { role = (mine.0, mine.1, mine.2, put_at x.items k now k refl, tt); guest = tt; two = tt; hand = tt });
        },
      ),
      refl,
    ))
