-- The steps of a pass at its own word keep the rule.
use Rattle.std.proofs.Common.{◌≡◌, ◌⊎◌, ℕ, ◌+◌, ◌<◌, List, [], ◌∷◌, ◌++◌, length, true, false, refl, sym, ap, ◌∙◌, subst, inl, inr, arith, slice_set}
use Rattle.history.proofs.Common.{some, none, get_elem?, State, Me, Allows, stepped, step, keeps, Call, Ask, Step, Item, About, Caller, View, Nobody, Calls, Token, Nothing, Open, Done, shard_in, IsFirstSaid, IsNextSaid, asks_on, behind_first, behind_on, bound, alone, TableContents, Seating, AccountOk, IsInDoubt, number_of, HoldsFor, KeepsRule, ask_of, before_of, announce_to, withdraw_at, collect_at, announced_as, withdrew, collected, put, put_at, put_other, put_two, put_two_at}
use Rattle.history.proofs.Past.{legal_front, by_passes_front, number_last, number_left}
use Rattle.history.proofs.Sharding.{shard_below}
use Rattle.history.proofs.Accounts.{nothing_open, open_done, free_number, token_ok, announced_ok, withdrawn_ok, collected_ok, extends_of, rested_then, answers_first, returns_first, rested_of}
use Rattle.history.proofs.Seats.{Frame, seats_set, hand_put, doubt_put, account_at, with_pass, held_by, good_pass, words_pass, pass_of}

pass_frame : (about : About) (x : TableContents) (seats : Seating) (p n id : ℕ) (c' : Caller) (t t' : Token) → seats.passes p ≡ id → x.tokens p n ≡ t → (x.tokens p n ≡ Nothing) ⊎ (seats.holders p n ≡ id) → ((a : Ask) → IsInDoubt a t → IsInDoubt a t')
    → Frame about x seats id (with_pass x p n c' t') (held_by seats p n id)
pass_frame about x seats p n id c' t t' mine was free f = record {
  books = λ k j d e. (e, refl);
  passes = λ q j d e. (e, put_other x.callers p c' seats.passes id q j mine e d);
  hands = hand_put about x seats p n id t' id free x.items (put x.callers p c') seats.books seats.passes;
  doubts = λ a j d e o. doubt_put x.tokens p n t t' a was (f a) o;
}

open_doubted : (a b : Ask) (d e : List Ask) → Open a false d ≡ Open b true e → ⊥
open_doubted a b d e q = cc

-- what a pass does at its word. The seat and the word are known by equations
pub announces_as : (slots id word n : ℕ) (c : Caller) (call : Call) (m : Me Unit View) → m ≡ (alone (Calls c) Nothing, []) → c.about.shards + c.pass ≡ word → length c.pending < 64 → c.last < n → n < bound
    → Allows KeepsRule slots id m word (λ _. n) (λ _. announced_as call (step slots word n 0 none) m n)
announces_as slots id word n c call m is at_word few above small = subst (λ (z : Me Unit View × ℕ). Allows KeepsRule slots id z.0 z.1 (λ _. n) (λ _. announced_as call (step slots z.1 n 0 none) z.0 n)) (λ i. (sym is i, at_word i)) (λ s h wide e fits.
    let k = pass_of s id c Nobody Nothing h e in
    let x = k.contents in
    let mine = (k.seats id (alone (Calls c) Nothing) e).role in
    let ok = account_at c.about x c.pass c k.good mine.1 mine.3 in
    let free : x.tokens c.pass n ≡ Nothing = free_number c.about x.items c.pass c (x.tokens c.pass) ok n above in
    let c' : Caller = announce_to c n call in
    let t' : Token = Open (ask_of c n call) false (before_of c n call) in (
      alone (Calls c') t',
      keeps,
      tt,
      (
        c.about,
        record {
          contents = with_pass x c.pass n c' t';
          seating = held_by k.seating c.pass n id;
          words = words_pass c.about x s.words c.pass c' (put_two x.tokens c.pass n t') n k.words mine.1 (sym (number_last n c.pending (ask_of c n call)));
          good = good_pass c.about x c.pass n c' t' k.good (announced_ok c.about x.items c.pass c (x.tokens c.pass) ok call n above refl small few);
          seats = seats_set c.about x k.seating id (with_pass x c.pass n c' t') (held_by k.seating c.pass n id)
              (pass_frame c.about x k.seating c.pass n id c' Nothing t' mine.2 free (inl free) (λ a o. absurd (nothing_open a true o.0 o.1)))
              s.views (alone (Calls c') t') k.seats
              (record {
                role = (mine.0, mine.1, mine.2, put_at x.callers c.pass c' c.pass refl);
                guest = tt;
                two = tt;
                hand = (mine.1, put_two_at k.seating.holders c.pass n id c.pass n refl refl, put_two_at x.tokens c.pass n t' c.pass n refl refl);
              });
        },
      ),
      ((refl, (λ idle k. rested_of x.items c (x.tokens c.pass) ok k (ap (λ (l : List Ask). asks_on c.about k l) idle)), rested_of x.items c (x.tokens c.pass) ok), refl),
    ))

-- the pass with other calls that were seen, made and withdrawn, and others that are open
abbrev with_calls : Caller → List (List Item) → List Step → List ℕ → List Ask → Caller
with_calls c seen made withdrawn pending =
    record c { seen = seen; made = made; withdrawn = withdrawn; pending = pending }

-- a pass gives back the token of a call that is not in doubt, and its word is that of the calls that are left
gives_back : (s : State Unit View) (id n word : ℕ) (c : Caller) (t : Token) (seen : List (List Item)) (made : List Step) (withdrawn : List ℕ) (pending : List Ask) (k : HoldsFor c.about s) → get_elem? s.views id ≡ some (alone (Calls c) t)
    → k.contents.tokens c.pass n ≡ t → k.seating.holders c.pass n ≡ id → ((a : Ask) → IsInDoubt a t → ⊥)
    → AccountOk c.about k.contents.items c.pass (with_calls c seen made withdrawn pending) (put (k.contents.tokens c.pass) n Nothing) → word ≡ number_of c.last pending
    → HoldsFor c.about (stepped s (c.about.shards + c.pass) word id [] (alone (Calls (with_calls c seen made withdrawn pending)) Nothing) keeps)
gives_back s id n word c t seen made withdrawn pending k e has holds settled ok due =
    let x = k.contents in
    let mine = (k.seats id (alone (Calls c) t) e).role in
    let c' : Caller = with_calls c seen made withdrawn pending in
    record {
      contents = with_pass x c.pass n c' Nothing;
      seating = held_by k.seating c.pass n id;
      words = words_pass c.about x s.words c.pass c' (put_two x.tokens c.pass n Nothing) word k.words mine.1 due;
      good = good_pass c.about x c.pass n c' Nothing k.good ok;
      seats = seats_set c.about x k.seating id (with_pass x c.pass n c' Nothing) (held_by k.seating c.pass n id)
          (pass_frame c.about x k.seating c.pass n id c' t Nothing mine.2 has (inr holds) (λ a o. absurd (settled a o)))
          s.views (alone (Calls c') Nothing) k.seats
          (record { role = (mine.0, mine.1, mine.2, put_at x.callers c.pass c' c.pass refl); guest = tt; two = tt; hand = tt });
    }

pub withdraws_as : (slots id at_word word : ℕ) (c : Caller) (a : Ask) (d : List Ask) (m : Me Unit View) → m ≡ (alone (Calls c) (Open a false d), []) → c.about.shards + c.pass ≡ at_word → a.pass ≡ c.pass → IsFirstSaid c a
    → word ≡ number_of c.last (behind_first c.pending) → Allows KeepsRule slots id m at_word (λ _. word) (λ _. withdrew (step slots at_word word 0 none) m word)
withdraws_as slots id at_word word c a d m is there own number due = subst (λ (z : Me Unit View × ℕ). Allows KeepsRule slots id z.0 z.1 (λ _. word) (λ _. withdrew (step slots z.1 word 0 none) z.0 word)) (λ i. (sym is i, there i)) (λ s h wide e fits.
    let n = a.number in
    let k = pass_of s id c Nobody (Open a false d) h e in
    let x = k.contents in
    let seat = k.seats id (alone (Calls c) (Open a false d)) e in
    let mine = seat.role in
    let has : x.tokens c.pass n ≡ Open a false d = ap (λ (p : ℕ). x.tokens p n) (sym own) ∙ seat.hand.2 in
    let holds : k.seating.holders c.pass n ≡ id = ap (λ (p : ℕ). k.seating.holders p n) (sym own) ∙ seat.hand.1 in
    let ok = account_at c.about x c.pass c k.good mine.1 mine.3 in
    let first = returns_first x.items c (x.tokens c.pass) a false d ok has number in
    let c' : Caller = withdraw_at c a in (
      alone (Calls c') Nothing,
      keeps,
      tt,
      (
        c.about,
        gives_back s id n word c (Open a false d) c.seen c.made (c.withdrawn ++ n ∷ []) (behind_on c.about (shard_in c.about a) c.pending) k e has holds (λ b o. open_doubted a b d o.0 o.1)
            (withdrawn_ok c.about x.items c.pass c (x.tokens c.pass) ok a d first.0 has) (due ∙ number_left c.about (shard_in c.about a) c.last a c.pending first.0),
      ),
      ((refl, first), refl),
    ))

pub collects_as : (slots id at_word word : ℕ) (c : Caller) (r : Step) (upto : List Item) (at : ℕ × ℕ) (m : Me Unit View) → m ≡ (alone (Calls c) (Done r upto at), []) → c.about.shards + c.pass ≡ at_word → r.ask.pass ≡ c.pass
    → IsNextSaid c r.ask → word ≡ number_of c.last (behind_first c.pending) → Allows KeepsRule slots id m at_word (λ _. word) (λ _. collected (step slots at_word word 0 none) m word)
collects_as slots id at_word word c r upto at m is where_is own number due = subst (λ (z : Me Unit View × ℕ). Allows KeepsRule slots id z.0 z.1 (λ _. word) (λ _. collected (step slots z.1 word 0 none) z.0 word)) (λ i. (sym is i, where_is i)) (λ s h wide e fits.
    let n = r.ask.number in
    let k = pass_of s id c Nobody (Done r upto at) h e in
    let x = k.contents in
    let seat = k.seats id (alone (Calls c) (Done r upto at)) e in
    let mine = seat.role in
    let ts = x.tokens c.pass in
    let has : ts n ≡ Done r upto at = ap (λ (p : ℕ). x.tokens p n) (sym own) ∙ seat.hand.2 in
    let holds : k.seating.holders c.pass n ≡ id = ap (λ (p : ℕ). k.seating.holders p n) (sym own) ∙ seat.hand.1 in
    let ok = account_at c.about x c.pass c k.good mine.1 mine.3 in
    let which = answers_first x.items c ts r upto at ok has number in
    let first = which.0.0 in
    let rested = which.1 in
    let there : shard_in c.about r.ask < length c.seen = let w = ok.looks.wide in let b = shard_below c.about r.ask k.words.any in omega arith in
    let c' : Caller = collect_at c r upto in (
      alone (Calls c') Nothing,
      keeps,
      tt,
      (
        c.about,
        gives_back s id n word c (Done r upto at) (slice_set c.seen (shard_in c.about r.ask) upto) (c.made ++ r ∷ []) c.withdrawn (behind_on c.about (shard_in c.about r.ask) c.pending) k e has holds (λ b o. open_done b true o.0 r upto at (sym o.1))
            (collected_ok x.items c ts r upto at ok has first there) (due ∙ number_left c.about (shard_in c.about r.ask) c.last r.ask c.pending first),
      ),
      (
        (
          refl,
          legal_front c.about (shard_in c.about r.ask) upto (x.items (shard_in c.about r.ask)) (token_ok c.about x.items c.pass c ts ok n (Done r upto at) has).3 (k.good.legal (shard_in c.about r.ask)),
          extends_of x.items c ts r upto at ok has first rested,
          there,
          which.0,
          rested_then x.items c ts r upto at ok has first there,
          by_passes_front c.about.passes upto (x.items (shard_in c.about r.ask)) (token_ok c.about x.items c.pass c ts ok n (Done r upto at) has).3 (k.good.by_passes (shard_in c.about r.ask)),
        ),
        refl,
      ),
    ))
