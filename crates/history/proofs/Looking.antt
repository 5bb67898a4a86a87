-- Looks at a shard's word keep the rule.
use Rattle.std.proofs.Common.{◌≡◌, ℕ, ◌<◌, [], length, refl, sym, ap, ◌∙◌, subst, arith, slice_index}
use Rattle.history.proofs.Common.{some, none, get_elem?, Me, Allows, step, keeps, About, Caller, Shelf, View, Nobody, Keeps, Calls, Nothing, IsBeginning, IsLegalAt, IsByPasses, alone, TableContents, Seating, AccountOk, number_of, KeepsRule, seen_at, look_to, looked, met, settled, items_counted, HasRoomForSteps, HasStepsOf, put, put_at, put_else, put_other}
use Rattle.atomic_table.proofs.Lists.{set_again}
use Rattle.history.proofs.Books.{short}
use Rattle.history.proofs.Accounts.{looked_ok, steps_of}
use Rattle.history.proofs.Seats.{Frame, seats_set, hand_same, account_at, with_caller, good_caller, words_look, words_same, pass_of, book_of}

-- what is known of a pass alone changes
caller_frame : (about : About) (x : TableContents) (seats : Seating) (p id : ℕ) (c' : Caller) → seats.passes p ≡ id → Frame about x seats id (with_caller x p c') seats
caller_frame about x seats p id c' mine = record {
  books = λ k j n e. (e, refl);
  passes = λ q j n e. (e, put_other x.callers p c' seats.passes id q j mine e n);
  hands = λ j t n h. hand_same about x seats x.items (put x.callers p c') seats.books seats.passes j t h;
  doubts = λ a j n e o. o;
}

word_same : (c d : Caller) → c ≡ d → number_of c.last c.pending ≡ number_of d.last d.pending
word_same c d e = ap (λ (o : Caller). number_of o.last o.pending) e

pub looks_as : (slots id k : ℕ) (c : Caller) (m : Me Unit View) → m ≡ (alone (Calls c) Nothing, []) → k < c.about.shards → Allows KeepsRule slots id m k (λ n. n) (looked (step slots k 0 0 none) m)
looks_as slots id k c m is lt = subst (λ (u : Me Unit View). Allows KeepsRule slots id u k (λ n. n) (looked (step slots k 0 0 none) u)) (sym is) (λ s h wide e fits.
    let r = pass_of s id c Nobody Nothing h e in
    let x = r.contents in
    let mine = (r.seats id (alone (Calls c) Nothing) e).role in
    let ts = x.tokens c.pass in
    let ok = account_at c.about x c.pass c r.good mine.1 mine.3 in
    let c' : Caller = look_to c k (x.items k) in (
      alone (Calls c') Nothing,
      keeps,
      tt,
      (
        c.about,
        record {
          contents = with_caller x c.pass c';
          seating = r.seating;
          words = words_same c.about (with_caller x c.pass c') s.words k (words_look c.about x s.words c.pass c' r.words mine.1 (word_same (x.callers c.pass) c mine.3));
          good = good_caller c.about x c.pass c' r.good (looked_ok c.about x.items c.pass c ts ok k);
          seats = seats_set c.about x r.seating id (with_caller x c.pass c') r.seating (caller_frame c.about x r.seating c.pass id c' mine.2)
              s.views (alone (Calls c') Nothing) r.seats
              (record { role = (mine.0, mine.1, mine.2, put_at x.callers c.pass c' c.pass refl); guest = tt; two = tt; hand = tt });
        },
      ),
      ((x.items k, refl, ok.looks.parts k, r.good.legal k, sym (r.words.lengths k lt), steps_of x.items c ts k ok, (let w = ok.looks.wide in omega arith), r.good.by_passes k), refl),
    ))

both_frame : (about : About) (x : TableContents) (seats : Seating) (p q id : ℕ) (c' d' : Caller) → seats.passes p ≡ id → seats.passes q ≡ id → Frame about x seats id (with_caller (with_caller x p c') q d') seats
both_frame about x seats p q id c' d' mine its = record {
  books = λ k j n e. (e, refl);
  passes = λ o j n e. (e, put_other (put x.callers p c') q d' seats.passes id o j its e n ∙ put_other x.callers p c' seats.passes id o j mine e n);
  hands = λ j t n h. hand_same about x seats x.items (put (put x.callers p c') q d') seats.books seats.passes j t h;
  doubts = λ a j n e o. o;
}

pub meets_as : (slots id k : ℕ) (c d : Caller) (m : Me Unit View) → m ≡ (record { role = Calls c; guest = Calls d; hand = Nothing }, []) → k < c.about.shards → Allows KeepsRule slots id m k (λ n. n) (met (step slots k 0 0 none) m)
meets_as slots id k c d m is lt = subst (λ (u : Me Unit View). Allows KeepsRule slots id u k (λ n. n) (met (step slots k 0 0 none) u)) (sym is) (λ s h wide e fits.
    let v : View = record { role = Calls c; guest = Calls d; hand = Nothing } in
    let r = pass_of s id c (Calls d) Nothing h e in
    let x = r.contents in
    let seat = r.seats id v e in
    let mine = seat.role in
    let its = seat.guest in
    let ts = x.tokens c.pass in
    let us = x.tokens d.pass in
    let ok = account_at c.about x c.pass c r.good mine.1 mine.3 in
    let okay = account_at c.about x d.pass d r.good its.1 its.3 in
    let okayed = subst (λ (b : About). AccountOk b x.items d.pass d us) (sym its.0) okay in
    let c' : Caller = look_to c k (x.items k) in
    let d' : Caller = look_to d k (x.items k) in
    let x' : TableContents = with_caller (with_caller x c.pass c') d.pass d' in
    let w : View = record { role = Calls c'; guest = Calls d'; hand = Nothing } in (
      w,
      keeps,
      tt,
      (
        c.about,
        record {
          contents = x';
          seating = r.seating;
          words = words_same c.about x' s.words k (words_look c.about (with_caller x c.pass c') s.words d.pass d' (words_look c.about x s.words c.pass c' r.words mine.1 (word_same (x.callers c.pass) c mine.3)) its.1
              (word_same (put x.callers c.pass c' d.pass) d (put_else x.callers c.pass c' d.pass seat.two ∙ its.3)));
          good = good_caller c.about (with_caller x c.pass c') d.pass d' (good_caller c.about x c.pass c' r.good (looked_ok c.about x.items c.pass c ts ok k)) (looked_ok c.about x.items d.pass d us okay k);
          seats = seats_set c.about x r.seating id x' r.seating (both_frame c.about x r.seating c.pass d.pass id c' d' mine.2 its.2) s.views w r.seats
              (record {
                role = (mine.0, mine.1, mine.2, put_else (put x.callers c.pass c') d.pass d' c.pass (λ q. seat.two (sym q)) ∙ put_at x.callers c.pass c' c.pass refl);
                guest = (its.0, its.1, its.2, put_at (put x.callers c.pass c') d.pass d' d.pass refl);
                two = seat.two;
                hand = tt;
              });
        },
      ),
      ((x.items k, refl, (ok.looks.parts k, okay.looks.parts k, r.good.legal k, steps_of x.items c ts k ok, steps_of x.items d us k okayed, its.0, r.good.by_passes k), (let o = ok.looks.wide in omega arith), (let o = okay.looks.wide in omega arith)), refl),
    ))

pub settles_as : (slots id k : ℕ) (shelf : Shelf) (c : Caller) (m : Me Unit View) → m ≡ (record { role = Keeps shelf; guest = Calls c; hand = Nothing }, []) → Allows KeepsRule slots id m k (λ n. n) (settled (step slots k 0 0 none) m)
settles_as slots id k shelf c m is = subst (λ (u : Me Unit View). Allows KeepsRule slots id u k (λ n. n) (settled (step slots k 0 0 none) u)) (sym is) (λ s h wide e fits.
    let v : View = record { role = Keeps shelf; guest = Calls c; hand = Nothing } in
    let r = book_of s id shelf (Calls c) Nothing h e in
    let x = r.contents in
    let seat = r.seats id v e in
    let mine = seat.role in
    let its = seat.guest in
    let ts = x.tokens c.pass in
    let ok = subst (λ (b : About). AccountOk b x.items c.pass c ts) (sym its.0) (account_at shelf.about x c.pass c r.good its.1 its.3) in (
      v,
      keeps,
      tt,
      (
        shelf.about,
        record {
          contents = x;
          seating = r.seating;
          words = words_same shelf.about x s.words k r.words;
          good = r.good;
          seats = λ j u q. r.seats j u (subst (λ l. get_elem? l j ≡ some u) (set_again s.views id v e) q);
        },
      ),
      (
        refl,
        (
          subst (λ l. IsBeginning (seen_at c shelf.shard) l) mine.3 (ok.looks.parts shelf.shard),
          subst (λ l. IsLegalAt shelf.about shelf.shard l) mine.3 (r.good.legal shelf.shard),
          subst (λ l. HasStepsOf c shelf.shard l) mine.3 (steps_of x.items c ts shelf.shard ok),
          its.0,
          subst (λ l. IsByPasses shelf.about.passes l) mine.3 (r.good.by_passes shelf.shard),
        ),
      ),
    ))

pub counts_as : (slots id k : ℕ) (shelf : Shelf) (m : Me Unit View) → m ≡ (alone (Keeps shelf) Nothing, []) → k ≡ shelf.shard → Allows KeepsRule slots id m k (λ n. n) (items_counted (step slots k 0 0 none) m)
counts_as slots id k shelf m is here = subst (λ (u : Me Unit View). Allows KeepsRule slots id u k (λ n. n) (items_counted (step slots k 0 0 none) u)) (sym is) (λ s h wide e fits.
    let v : View = alone (Keeps shelf) Nothing in
    let r = book_of s id shelf Nobody Nothing h e in
    let x = r.contents in
    let mine = (r.seats id v e).role in (
      v,
      keeps,
      tt,
      (
        shelf.about,
        record {
          contents = x;
          seating = r.seating;
          words = words_same shelf.about x s.words k r.words;
          good = r.good;
          seats = λ j u q. r.seats j u (subst (λ l. get_elem? l j ≡ some u) (set_again s.views id v e) q);
        },
      ),
      (
        refl,
        (
          ap (slice_index s.words) here ∙ r.words.lengths shelf.shard mine.1 ∙ ap length mine.3,
          subst (λ l. HasRoomForSteps shelf.about l) mine.3 (short shelf.about x shelf.shard r.good),
          subst (λ l. IsLegalAt shelf.about shelf.shard l) mine.3 (r.good.legal shelf.shard),
          subst (λ l. IsByPasses shelf.about.passes l) mine.3 (r.good.by_passes shelf.shard),
        ),
      ),
    ))
