-- A call on its way, or a pass, goes from one seat to another. No word and nothing that is known changes.
use Rattle.std.proofs.Common.{◌≡◌, ◌≢◌, ℕ, length, refl, sym, ap, ◌∙◌, subst}
use Rattle.history.proofs.Common.{Splits, Joins, About, Caller, Shelf, View, Role, Nobody, Opener, Keeps, Calls, Token, Nothing, Open, Done, alone, TableContents, Seating, IsRole, IsHand, AreTwo, KeepsRule, loose, kept_back, seat_alone, taken, seated, host, visitor, put, put_at, put_else, put_other, put_two_at, put_two_other}
use Rattle.history.proofs.Seats.{Frame, role_kept, seats_split, seats_join, hand_same, still_there, held_by}

-- the call goes to seat i
abbrev moved : Seating → Token → ℕ → Seating
moved seats Nothing i = seats
moved seats (Open a f e) i = held_by seats a.pass a.number i
moved seats (Done s upto at) i = held_by seats s.ask.pass s.ask.number i

hand_moved : (about : About) (x : TableContents) (seats : Seating) (p m b i : ℕ) → seats.holders p m ≡ b → (j : ℕ) (t : Token) → j ≢ b → IsHand about x seats j t → IsHand about x (held_by seats p m i) j t
hand_moved about x seats p m b i mine j Nothing n h = tt
hand_moved about x seats p m b i mine j (Open a f e) n h = (h.0, put_two_other seats.holders p m i seats.holders b a.pass a.number j mine h.1 n ∙ h.1, h.2)
hand_moved about x seats p m b i mine j (Done s upto at) n h = (h.0, put_two_other seats.holders p m i seats.holders b s.ask.pass s.ask.number j mine h.1 n ∙ h.1, h.2)

frame_moved : (about : About) (x : TableContents) (seats : Seating) (b i : ℕ) (t : Token) → IsHand about x seats b t → Frame about x seats b x (moved seats t i)
frame_moved about x seats b i Nothing h = record { books = λ k j n e. (e, refl); passes = λ p j n e. (e, refl); hands = λ j t n e. e; doubts = λ a j n e o. o }
frame_moved about x seats b i (Open a f e) h = record { books = λ k j n e. (e, refl); passes = λ p j n e. (e, refl); hands = hand_moved about x seats a.pass a.number b i h.1; doubts = λ a j n e o. o }
frame_moved about x seats b i (Done s upto at) h = record { books = λ k j n e. (e, refl); passes = λ p j n e. (e, refl); hands = hand_moved about x seats s.ask.pass s.ask.number b i h.1; doubts = λ a j n e o. o }

role_moved : (about : About) (x : TableContents) (seats : Seating) (t : Token) (i j : ℕ) (role : Role) → IsRole about x seats j role → IsRole about x (moved seats t i) j role
role_moved about x seats Nothing i j role h = h
role_moved about x seats (Open a f e) i j Nobody h = h
role_moved about x seats (Done s upto at) i j Nobody h = h
role_moved about x seats t i j role h = h

hand_there : (about : About) (x : TableContents) (seats : Seating) (t : Token) (b i : ℕ) → IsHand about x seats b t → IsHand about x (moved seats t i) i t
hand_there about x seats Nothing b i h = h
hand_there about x seats (Open a f e) b i h = (h.0, put_two_at seats.holders a.pass a.number i a.pass a.number refl refl, h.2)
hand_there about x seats (Done s upto at) b i h = (h.0, put_two_at seats.holders s.ask.pass s.ask.number i s.ask.pass s.ask.number refl refl, h.2)

-- the call in hand goes to a new seat
pub gives : (id : ℕ) (v : View) → Splits KeepsRule id v (kept_back v) (seat_alone v)
gives id v s h e =
    let k = h.1 in
    let mine = k.seats id v e in
    let seats = moved k.seating v.hand (length s.views) in (
      h.0,
      record {
        contents = k.contents;
        seating = seats;
        words = k.words;
        good = k.good;
        seats = seats_split h.0 k.contents k.seating id k.contents seats (frame_moved h.0 k.contents k.seating id (length s.views) v.hand mine.hand) s.views (kept_back v) (seat_alone v) k.seats
            (record {
              role = role_moved h.0 k.contents k.seating v.hand (length s.views) id v.role mine.role;
              guest = role_moved h.0 k.contents k.seating v.hand (length s.views) id v.guest mine.guest;
              two = mine.two;
              hand = tt;
            })
            (record { role = tt; guest = tt; two = tt; hand = hand_there h.0 k.contents k.seating v.hand id (length s.views) mine.hand });
      },
    )

-- another seat's call comes into hand
pub takes : (id : ℕ) (v : View) (other : ℕ) (w : View) → Joins KeepsRule id v other w (taken v w) loose
takes id v other w s h e n there =
    let k = h.1 in
    let mine = k.seats id v e in
    let its = k.seats other w (still_there s.views id other (taken v w) w n there) in
    let seats = moved k.seating w.hand id in (
      h.0,
      record {
        contents = k.contents;
        seating = seats;
        words = k.words;
        good = k.good;
        seats = seats_join h.0 k.contents k.seating other k.contents seats (frame_moved h.0 k.contents k.seating other id w.hand its.hand) s.views id (taken v w) k.seats
            (record {
              role = role_moved h.0 k.contents k.seating w.hand id id v.role mine.role;
              guest = role_moved h.0 k.contents k.seating w.hand id id v.guest mine.guest;
              two = mine.two;
              hand = hand_there h.0 k.contents k.seating w.hand other id its.hand;
            });
      },
    )

-- pass p goes to seat i
abbrev seated_at : Seating → ℕ → ℕ → Seating
seated_at seats p i = record seats { passes = put seats.passes p i }

frame_seated : (about : About) (x : TableContents) (seats : Seating) (p b i : ℕ) → seats.passes p ≡ b → Frame about x seats b x (seated_at seats p i)
frame_seated about x seats p b i mine = record {
  books = λ k j n e. (e, refl);
  passes = λ q j n e. (put_other seats.passes p i seats.passes b q j mine e n ∙ e, refl);
  hands = λ j t n h. hand_same about x seats x.items x.callers seats.books (put seats.passes p i) j t h;
  doubts = λ a j n e o. o;
}

two_roles : (about : About) (x : TableContents) (seats : Seating) (id other : ℕ) (role : Role) (d : Caller) → other ≢ id → IsRole about x seats id role → IsRole about x seats other (Calls d) → AreTwo role (Calls d)
two_roles about x seats id other (Calls c) d n h k = λ e. n (sym k.2 ∙ ap seats.passes (sym e) ∙ h.2)
two_roles about x seats id other role d n h k = tt

-- a pass sits with seat id
pub sits_as : (id : ℕ) (v : View) (other : ℕ) (w : View) (d : Caller) → w ≡ alone (Calls d) Nothing → Joins KeepsRule id v other w (seated v w) loose
sits_as id v other w d is = subst (λ (u : View). Joins KeepsRule id v other u (seated v u) loose) (sym is) (λ s h e n there.
    let k = h.1 in
    let own : View = alone (Calls d) Nothing in
    let mine = k.seats id v e in
    let its = (k.seats other own (still_there s.views id other (seated v own) own n there)).role in
    let apart : id ≢ other = λ q. n (sym q) in
    let seats = seated_at k.seating d.pass id in
    let f = frame_seated h.0 k.contents k.seating d.pass other id its.2 in (
      h.0,
      record {
        contents = k.contents;
        seating = seats;
        words = k.words;
        good = k.good;
        seats = seats_join h.0 k.contents k.seating other k.contents seats f s.views id (seated v own) k.seats
            (record {
              role = role_kept h.0 k.contents k.seating other k.contents seats f id v.role apart mine.role;
              guest = (its.0, its.1, put_at k.seating.passes d.pass id d.pass refl, its.3);
              two = two_roles h.0 k.contents k.seating id other v.role d n mine.role its;
              hand = hand_same h.0 k.contents k.seating k.contents.items k.contents.callers k.seating.books (put k.seating.passes d.pass id) id v.hand mine.hand;
            });
      },
    ))

-- one book or pass, or nothing
abbrev IsOne : Role → Type 0
IsOne (Opener known a b) = ⊥
IsOne role = Unit {0}

-- what sits beside the pass stays
role_stays : (about : About) (x : TableContents) (seats : Seating) (p i id : ℕ) (role : Role) (d : Caller) → d.pass ≡ p → AreTwo role (Calls d) → IsRole about x seats id role → IsOne role → IsRole about x (seated_at seats p i) id role
role_stays about x seats p i id (Opener known a b) d e two h o = absurd o
role_stays about x seats p i id (Calls c) d e two h o = (h.0, h.1, put_else seats.passes p i c.pass (λ q. two (sym q ∙ sym e)) ∙ h.2, h.3)
role_stays about x seats p i id role d e two h o = h

-- a pass that sits with seat id leaves it
leaves : (id : ℕ) (role : Role) (d : Caller) (hand : Token) → IsOne role → Splits KeepsRule id (record { role = role; guest = Calls d; hand = hand }) (alone role hand) (alone (Calls d) Nothing)
leaves id role d hand one s h e =
    let k = h.1 in
    let v : View = record { role = role; guest = Calls d; hand = hand } in
    let mine = k.seats id v e in
    let its = mine.guest in
    let new = length s.views in
    let seats = seated_at k.seating d.pass new in (
      h.0,
      record {
        contents = k.contents;
        seating = seats;
        words = k.words;
        good = k.good;
        seats = seats_split h.0 k.contents k.seating id k.contents seats (frame_seated h.0 k.contents k.seating d.pass id new its.2) s.views (alone role hand) (alone (Calls d) Nothing) k.seats
            (record {
              role = role_stays h.0 k.contents k.seating d.pass new id role d refl mine.two mine.role one;
              guest = tt;
              two = two_nobody role;
              hand = hand_same h.0 k.contents k.seating k.contents.items k.contents.callers k.seating.books (put k.seating.passes d.pass new) id hand mine.hand;
            })
            (record { role = (its.0, its.1, put_at k.seating.passes d.pass new d.pass refl, its.3); guest = tt; two = tt; hand = tt });
      },
    )
  where
    two_nobody : (role : Role) → AreTwo role Nobody
    two_nobody Nobody = tt
    two_nobody role = tt

pub pass_leaves : (id : ℕ) (v : View) (c d : Caller) → v ≡ record { role = Calls c; guest = Calls d; hand = Nothing } → Splits KeepsRule id v (host v) (visitor v)
pass_leaves id v c d is = subst (λ (u : View). Splits KeepsRule id u (host u) (visitor u)) (sym is) (leaves id (Calls c) d Nothing tt)

pub book_leaves : (id : ℕ) (v : View) (shelf : Shelf) (d : Caller) → v ≡ record { role = Keeps shelf; guest = Calls d; hand = Nothing } → Splits KeepsRule id v (host v) (visitor v)
book_leaves id v shelf d is = subst (λ (u : View). Splits KeepsRule id u (host u) (visitor u)) (sym is) (leaves id (Keeps shelf) d Nothing tt)
