-- The table at its opening.
use Rattle.std.proofs.Common.{◌≡◌, ◌≢◌, ℕ, zero, suc, ◌+◌, ◌<◌, ◌≤◌, List, [], ◌∷◌, length, replicate, refl, sym, ap, ◌∙◌, subst, ⊎_elim, arith, slice_index}
use Rattle.history.proofs.Common.{some, none, some-injective, some-ne-none, get_elem?, State, Me, Allows, Splits, step, keeps, opening, About, Caller, View, Role, Nobody, Opener, Keeps, Calls, Token, Nothing, Open, Done, opener, unnamed, newcomer, number_of, TableContents, Seating, TokenOk, IsGood, IsRole, IsHand, IsSeat, HoldsFor, KeepsRule, named, after_book, next_book, after_pass, next_pass, put, put_at, put_else, put_other, replicate_at}
use Rattle.atomic_table.proofs.Lists.{at_set}
use Rattle.history.specs.declared.views.Sizes.{Sizes}
use Rattle.std.proofs.lemmas.List.{length-replicate}
use Rattle.history.proofs.Past.{legal_none}
use Rattle.history.proofs.Accounts.{newcomer_ok, no_token, nothing_done, nothing_open}
use Rattle.history.proofs.Seats.{seats_split, hand_same, words_same}

-- no history has an item, and no pass has made a call
abbrev nothing_yet : About → TableContents
nothing_yet about = record { items = λ _. []; callers = newcomer about; tokens = λ _ _. Nothing }

abbrev all_at : ℕ → Seating
all_at id = record { books = λ _. id; passes = λ _. id; holders = λ _ _. id }

nothing_good : (about : About) → IsGood about (nothing_yet about)
nothing_good about = record { legal = λ k. legal_none about k; counted = λ k. omega arith; by_passes = λ k. tt; passes = λ p l. newcomer_ok about p }

opener_seat : (about : About) (id : ℕ) → IsSeat about (nothing_yet about) (all_at id) id (opener about 0 0)
opener_seat about id = record { role = (refl, (λ k l. (refl, refl)), (λ p l. (refl, refl))); guest = tt; two = tt; hand = tt }

-- the rule holds at the start
pub starts : (sizes : Sizes) (words : List ℕ) → 0 < sizes.shards → sizes.passes ≤ 64 → words ≡ replicate (sizes.shards + sizes.passes) 0 → KeepsRule (opening words [] (opener (unnamed sizes) 0 0))
starts sizes words any few is =
    let about : About = unnamed sizes in (
      about,
      record {
        contents = nothing_yet about;
        seating = all_at 0;
        words = record {
          any = any;
          few = few;
          wide = ap length is ∙ length-replicate {A = ℕ} (sizes.shards + sizes.passes) 0;
          lengths = λ k l. ap (λ ws. slice_index ws k) is ∙ replicate_at {A = ℕ} (sizes.shards + sizes.passes) k 0;
          numbers = λ p l. ap (λ ws. slice_index ws (sizes.shards + p)) is ∙ replicate_at {A = ℕ} (sizes.shards + sizes.passes) (sizes.shards + p) 0;
        };
        good = nothing_good about;
        seats = one;
      },
    )
  where
    one : (j : ℕ) (v : View) → get_elem? (opener (unnamed sizes) 0 0 ∷ []) j ≡ some v → IsSeat (unnamed sizes) (nothing_yet (unnamed sizes)) (all_at 0) j v
    one zero v e = subst (IsSeat (unnamed sizes) (nothing_yet (unnamed sizes)) (all_at 0) 0) (some-injective _ _ e) (opener_seat (unnamed sizes) 0)
    one (suc j) v e = absurd (some-ne-none v (sym e))

-- while the opening has all, no other seat has anything
role_gone : (about known : About) (x : TableContents) (seats : Seating) (id j : ℕ) (role : Role) → ((k : ℕ) → seats.books k ≡ id) → ((p : ℕ) → seats.passes p ≡ id) → j ≢ id → IsRole known x seats j role → IsRole about (nothing_yet about) (all_at id) j role
role_gone about known x seats id j Nobody books passes n h = tt
role_gone about known x seats id j (Opener o a b) books passes n h = absurd (n (sym ((h.1 a (omega arith)).0) ∙ books a))
role_gone about known x seats id j (Keeps shelf) books passes n h = absurd (n (sym h.2 ∙ books shelf.shard))
role_gone about known x seats id j (Calls c) books passes n h = absurd (n (sym h.2 ∙ passes c.pass))

hand_gone : (about known : About) (x : TableContents) (seats : Seating) (id j : ℕ) (t : Token) → ((p n : ℕ) → p < known.passes → x.tokens p n ≡ Nothing) → IsHand known x seats j t → IsHand about (nothing_yet about) (all_at id) j t
hand_gone about known x seats id j Nothing none_out h = tt
hand_gone about known x seats id j (Open a f e) none_out h = absurd (nothing_open a f e (sym (none_out a.pass a.number h.0) ∙ h.2))
hand_gone about known x seats id j (Done d upto at) none_out h = absurd (nothing_done d upto at (sym (none_out d.ask.pass d.ask.number h.0) ∙ h.2))

-- the rule, of the opening that its seat knows
opener_of : (s : State Unit View) (id : ℕ) (known : About) (a b : ℕ) → KeepsRule s → get_elem? s.views id ≡ some (opener known a b) → HoldsFor known s
opener_of s id known a b h e = subst (λ o. HoldsFor o s) (sym (h.1.seats id (opener known a b) e).role.0) h.1

pub names_as : (slots id : ℕ) (known about : About) (m : Me Unit View) → m ≡ (opener known 0 0, []) → about.shards ≡ known.shards → about.passes ≡ known.passes → Allows KeepsRule slots id m 0 (λ n. n) (named about (step slots 0 0 0 none) m)
names_as slots id known about m is same_shards same_passes = subst (λ (u : Me Unit View). Allows KeepsRule slots id u 0 (λ n. n) (named about (step slots 0 0 0 none) u)) (sym is) (λ s h wide e fits.
    let r = opener_of s id known 0 0 h e in
    let x = r.contents in
    let mine = (r.seats id (opener known 0 0) e).role in
    let none_out : (p n : ℕ) → p < known.passes → x.tokens p n ≡ Nothing = λ p n l.
    no_token known x.items p n (x.tokens p n) (subst (λ (c : Caller). TokenOk known x.items p c.pending n (x.tokens p n)) (mine.2 p (omega arith)).1 ((r.good.passes p l).way.tokens n)) in (
      opener about 0 0,
      keeps,
      tt,
      (
        about,
        record {
          contents = nothing_yet about;
          seating = all_at id;
          words = words_same about (nothing_yet about) s.words 0 (record {
            any = let a = r.words.any in omega arith;
            few = let f = r.words.few in omega arith;
            wide = let w = r.words.wide in omega arith;
            lengths = λ k l. r.words.lengths k (omega arith) ∙ ap length (mine.1 k (omega arith)).1;
            numbers = λ p l. ap (λ n. slice_index s.words (n + p)) same_shards ∙ r.words.numbers p (omega arith) ∙ ap (λ (c : Caller). number_of c.last c.pending) (mine.2 p (omega arith)).1;
          });
          good = nothing_good about;
          seats = λ j v q. ⊎_elim
              (λ (t : (j ≡ id) × (opener about 0 0 ≡ v)). subst (λ (z : ℕ × View). IsSeat about (nothing_yet about) (all_at id) z.0 z.1) (λ i. (sym t.0 i, t.1 i)) (opener_seat about id))
              (λ (t : (j ≢ id) × (get_elem? s.views j ≡ some v)).
              let its = r.seats j v t.1 in record {
                role = role_gone about known x r.seating id j v.role (λ k. (mine.1 k (omega arith)).0) (λ p. (mine.2 p (omega arith)).0) t.0 its.role;
                guest = role_gone about known x r.seating id j v.guest (λ k. (mine.1 k (omega arith)).0) (λ p. (mine.2 p (omega arith)).0) t.0 its.guest;
                two = its.two;
                hand = hand_gone about known x r.seating id j v.hand none_out its.hand;
              })
              (at_set s.views id j (opener about 0 0) v q);
        },
      ),
      (refl, refl),
    ))

pub next_books_as : (id : ℕ) (known : About) (a b : ℕ) (v : View) → v ≡ opener known a b → a < known.shards → Splits KeepsRule id v (after_book v.role) (next_book v.role)
next_books_as id known a b v is lt = subst (λ (u : View). Splits KeepsRule id u (after_book u.role) (next_book u.role)) (sym is) (λ s h e.
    let r = opener_of s id known a b h e in
    let x = r.contents in
    let mine = (r.seats id (opener known a b) e).role in
    let new = length s.views in
    let own = mine.1 a (omega arith) in
    let seats : Seating = record (r.seating) { books = put r.seating.books a new } in (
      known,
      record {
        contents = x;
        seating = seats;
        words = r.words;
        good = r.good;
        seats = seats_split known x r.seating id x seats
            (record {
              books = λ k j n q. (put_other r.seating.books a new r.seating.books id k j own.0 q n ∙ q, refl);
              passes = λ p j n q. (q, refl);
              hands = λ j t n q. hand_same known x r.seating x.items x.callers (put r.seating.books a new) r.seating.passes j t q;
              doubts = λ c j n q o. o;
            })
            s.views (after_book (Opener known a b)) (next_book (Opener known a b)) r.seats
            (record {
              role = (mine.0, (λ k l. let t = mine.1 k (omega arith) in (put_else r.seating.books a new k (λ q. omega arith) ∙ t.0, t.1)), mine.2);
              guest = tt;
              two = tt;
              hand = tt;
            })
            (record { role = (mine.0, lt, put_at r.seating.books a new a refl, own.1, tt); guest = tt; two = tt; hand = tt });
      },
    ))

pub next_passes_as : (id : ℕ) (known : About) (a b : ℕ) (v : View) → v ≡ opener known a b → b < known.passes → Splits KeepsRule id v (after_pass v.role) (next_pass v.role)
next_passes_as id known a b v is lt = subst (λ (u : View). Splits KeepsRule id u (after_pass u.role) (next_pass u.role)) (sym is) (λ s h e.
    let r = opener_of s id known a b h e in
    let x = r.contents in
    let mine = (r.seats id (opener known a b) e).role in
    let new = length s.views in
    let own = mine.2 b (omega arith) in
    let seats : Seating = record (r.seating) { passes = put r.seating.passes b new } in (
      known,
      record {
        contents = x;
        seating = seats;
        words = r.words;
        good = r.good;
        seats = seats_split known x r.seating id x seats
            (record {
              books = λ k j n q. (q, refl);
              passes = λ p j n q. (put_other r.seating.passes b new r.seating.passes id p j own.0 q n ∙ q, refl);
              hands = λ j t n q. hand_same known x r.seating x.items x.callers r.seating.books (put r.seating.passes b new) j t q;
              doubts = λ c j n q o. o;
            })
            s.views (after_pass (Opener known a b)) (next_pass (Opener known a b)) r.seats
            (record {
              role = (mine.0, mine.1, (λ p l. let t = mine.2 p (omega arith) in (put_else r.seating.passes b new p (λ q. omega arith) ∙ t.0, t.1)));
              guest = tt;
              two = tt;
              hand = tt;
            })
            (record { role = (mine.0, lt, put_at r.seating.passes b new b refl, own.1); guest = tt; two = tt; hand = tt });
      },
    ))
