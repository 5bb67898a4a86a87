-- What a call on a file does to what is known of it.
use Rattle.std.proofs.Common.{◌≡◌, ◌≤◌, ◌<◌, ℕ, ◌+◌, ◌-◌, ◌^◌, List, [], ◌∷◌, ◌++◌, length, get_or, take, drop, refl, ap, subst, sym, inl, inr, ◌∙◌, arith, length-append, length-take, length-drop, append_assoc}
use borrow.Rule.Slice.PartMut.{put_mid, post_of}
use Rattle.std.proofs.lemmas.List.{take_all, take_rest, take-append-drop, take-take, drop-take, drop-drop, length-take-le, take-append-le, take_at, drop_at}
use Rattle.std.proofs.lemmas.List.Elements.{All-cons}
use Rattle.std.proofs.lemmas.Slice.{take-put_mid_below}
use Rattle.std.specs.Prelude.{Ok, Err}
use Rattle.disk.specs.declared.calls.CallRecord.{CallRecord}
use Rattle.disk.specs.Sight.{Sight, Elapses, Looks, Writes, IsSynced, Torn, Holds}
use Rattle.disk.specs.State.{Act, Write, Sync, State, over, state_after, IsImage}
use Rattle.disk.specs.Laws.{length-over}
use Rattle.disk.specs.Calls.{Call, acts_by, IsRead, start_sound, IsFailedCall, HaveWorked, IsServedByCalls}
use Rattle.disk.specs.CallRecord.{HasFollowed, acts_in, sight_by, OnlyAsks, Goes, ReadsSoFar, WritesSoFar}
use Rattle.disk.proofs.Acts.{state_after-push}
use Rattle.disk.proofs.Crash.{IsOver, seen-write, writes-push, synced-push, looks-sync}

-- one more call
pub acts-more : (old new : CallRecord) (call : Call) → new.start ≡ old.start → new.calls ≡ call ∷ old.calls
    → acts_in new ≡ acts_in old ++ acts_by (get_or old.start.left (length old.calls) []) call
acts-more old new call es ec = rw (es, ec) refl

-- each earlier outcome of a crash stays one after a write, done or failed
stays-push : (start : State) (acts : List Act) (a : Act) (at n : ℕ) (b c : List ℕ) → IsOver (state_after start acts) a at n b → IsImage (state_after start acts) c
    → IsImage (state_after start (acts ++ a ∷ [])) c
stays-push start acts a at n b c one image =
    let s : State = state_after start acts in
    let later : IsImage (over s at n b) c = record {
      no_shorter = image.no_shorter;
      no_longer = omega (arith, image.no_longer, length-over s.now b at one.place);
      same = λ i h outside. image.same i h outside.1;
    } in
    subst (λ (t : State). IsImage t c) (sym (state_after-push start acts a ∙ one.state)) later

-- a record with one more write, done or failed
pub record-goes : (old new : CallRecord) (a : Act) (at n : ℕ) (b : List ℕ) (f f' : ℕ) → new.start ≡ old.start → acts_in new ≡ acts_in old ++ a ∷ []
    → HasFollowed old → IsOver (state_after old.start.state (acts_in old)) a at n b → Goes at n (sight_by old f) (sight_by new f')
record-goes old new a at n b f f' es ea follows one = rw (ea, es) (record {
  writes = writes-push old.start.state (start_sound old.start old.calls follows) (acts_in old) a at n b f f' one;
  stays = λ c image. stays-push old.start.state (acts_in old) a at n b c one image;
})

pub record-holds : (old new : CallRecord) (at : ℕ) (b : List ℕ) → new.start ≡ old.start → acts_in new ≡ acts_in old ++ Write at b ∷ []
    → at ≤ length (sight_by old 0).seen → Holds (sight_by old 0).seen at b (sight_by new 0).seen
record-holds old new at b es ea le = rw (ea, es) (seen-write old.start.state (acts_in old) at b le)

-- a record with one more sync
pub record-looks : (old new : CallRecord) (f f' : ℕ) → new.start ≡ old.start → acts_in new ≡ acts_in old ++ Sync ∷ []
    → HasFollowed old → Looks (sight_by old f) (sight_by new f')
record-looks old new f f' es ea follows = rw (ea, es) (looks-sync old.start.state (start_sound old.start old.calls follows) (acts_in old) f f')

pub record-synced : (old new : CallRecord) (f : ℕ) → new.start ≡ old.start → acts_in new ≡ acts_in old ++ Sync ∷ [] → IsSynced (sight_by new f)
record-synced old new f es ea = rw (ea, es) (synced-push old.start.state (acts_in old) f)

pub asks-on : (a b c : CallRecord) → OnlyAsks a b → OnlyAsks b c → OnlyAsks a c
asks-on a b c one more = record {
  start = more.start ∙ one.start;
  acts = more.acts ∙ one.acts;
  before = λ follows. one.before (more.before follows);
}

-- what a read gives, after calls that did nothing
pub asks-seen : (a b : CallRecord) → OnlyAsks a b → (sight_by b 0).seen ≡ (sight_by a 0).seen
asks-seen a b one = rw (one.acts, one.start) refl

-- What a loop of reads has done so far.
pub record ReadLoop (r r' : CallRecord) (at from : ℕ) (buf : List ℕ) : Type 0 where
  pub fits : from ≤ length buf
  pub asks : OnlyAsks r r'
  pub bytes : HasFollowed r' → ReadsSoFar (sight_by r 0).seen at from buf

take-two : (a b : ℕ) (xs : List ℕ) → take (a + b) xs ≡ take a xs ++ take b (drop a xs)
take-two a b xs =
    sym (take-append-drop a (take (a + b) xs)) ∙ ap (λ (ys : List ℕ). ys ++ drop a (take (a + b) xs)) (take-take a (a + b) xs (omega arith))
    ∙ ap (λ (ys : List ℕ). take a xs ++ ys) (drop-take a b xs)

-- one more piece
reads-on : (file buf buf' piece : List ℕ) (at from n : ℕ) → from ≤ length buf → ReadsSoFar file at from buf → IsRead file (at + from) (length buf - from) piece
    → n ≡ length piece → take (from + n) buf' ≡ take from buf ++ piece → ReadsSoFar file at (from + n) buf'
reads-on file buf buf' piece at from n fits old is_read size e = record {
  within = omega (arith, old.within, is_read.within);
  same = e ∙ ap (λ (xs : List ℕ). xs ++ piece) old.same
      ∙ ap (λ (xs : List ℕ). take from (drop at file) ++ xs)
      (is_read.same ∙ ap (λ (k : ℕ). take k (drop (at + from) file)) (sym size) ∙ ap (λ (xs : List ℕ). take n xs) (sym (drop-drop from at file)))
      ∙ sym (take-two from n (drop at file));
}

-- the beginning of a buffer after a read after it
front-read : (xs ys zs : List ℕ) (a n : ℕ) → length xs ≡ a → n ≤ length ys → take (a + n) (xs ++ (ys ++ zs)) ≡ xs ++ take n ys
front-read xs ys zs a n long h =
    take-two a n (xs ++ (ys ++ zs)) ∙ ap (λ (vs : List ℕ). vs ++ take n (drop a (xs ++ (ys ++ zs)))) (take_at xs (ys ++ zs) a long)
    ∙ ap (λ (vs : List ℕ). xs ++ take n vs) (drop_at xs (ys ++ zs) a long) ∙ ap (λ (vs : List ℕ). xs ++ vs) (take-append-le n ys zs h)

length-put : (buf piece : List ℕ) (from : ℕ) → from ≤ length buf → length piece ≡ length buf - from
    → length (put_mid from (length buf - from) buf piece) ≡ length buf
length-put buf piece from fits long = simp (length-append, length-take, length-drop) (omega (arith, long))

-- after one more read into the rest of the buffer
pub read-loop-on : (r r' r'' : CallRecord) (at from n : ℕ) (buf piece : List ℕ) → ReadLoop r r' at from buf → OnlyAsks r' r''
    → length piece ≡ length buf - from → n ≤ length piece
    → (HasFollowed r'' → IsRead (sight_by r' 0).seen (at + from) (length buf - from) (take n piece))
    → ReadLoop r r'' at (from + n) (put_mid from (length buf - from) buf piece)
read-loop-on r r' r'' at from n buf piece old more long fits answer =
    let front : length (take from buf) ≡ from = length-take-le from buf old.fits in
    let whole : length (put_mid from (length buf - from) buf piece) ≡ length buf = omega (arith, length-put buf piece from old.fits long) in
    record {
      fits = omega (arith, whole, old.fits);
      asks = asks-on r r' r'' old.asks more;
      bytes = λ follows.
          reads-on (sight_by r 0).seen buf (put_mid from (length buf - from) buf piece) (take n piece) at from n old.fits (old.bytes (more.before follows))
          (subst (λ (file : List ℕ). IsRead file (at + from) (length buf - from) (take n piece)) (asks-seen r r' old.asks) (answer follows))
          (sym (length-take-le n piece fits))
          (front-read (take from buf) piece (post_of from (length buf - from) buf) from n front fits);
    }

-- after a read that was interrupted
pub read-loop-again : (r r' r'' : CallRecord) (at from : ℕ) (buf piece : List ℕ) → ReadLoop r r' at from buf → OnlyAsks r' r''
    → length piece ≡ length buf - from → ReadLoop r r'' at from (put_mid from (length buf - from) buf piece)
read-loop-again r r' r'' at from buf piece old more long =
    let whole : length (put_mid from (length buf - from) buf piece) ≡ length buf = omega (arith, length-put buf piece from old.fits long) in
    record {
      fits = omega (arith, whole, old.fits);
      asks = asks-on r r' r'' old.asks more;
      bytes = λ follows. (let so_far : ReadsSoFar (sight_by r 0).seen at from buf = old.bytes (more.before follows) in
          record { within = so_far.within; same = take-put_mid_below from (length buf - from) buf piece from (omega arith) old.fits ∙ so_far.same });
    }

pub length-rest : (xs : List ℕ) (i : ℕ) → length (take (length xs - i) (drop i xs)) ≡ length xs - i
length-rest xs i = ap length (take_rest xs i) ∙ length-drop i xs

torn-on : (at n m : ℕ) (a b c : List ℕ) → Torn at n a b → Torn (at + n) m b c → Torn at (n + m) a c
torn-on at n m a b c one more = record {
  before = sym (take-take at (at + n) c (omega arith)) ∙ ap (λ (xs : List ℕ). take at xs) more.before ∙ take-take at (at + n) b (omega arith) ∙ one.before;
  after =
      let place : at + (n + m) ≡ at + n + m = omega arith in
      let there : drop (at + n + m) c ≡ drop (at + n + m) a
      = more.after ∙ sym (drop-drop m (at + n) b) ∙ ap (λ (xs : List ℕ). drop m xs) one.after ∙ drop-drop m (at + n) a in
      rw place there;
  no_shorter = omega (arith, one.no_shorter, more.no_shorter);
  no_longer = omega (arith, one.no_longer, more.no_longer);
}

elapses-on : (a b c : Sight) → ((x : List ℕ) → b.may_leave x → c.may_leave x) → Elapses a b → Elapses b c → Elapses a c
elapses-on a b c stays one more = record {
  later = omega (arith, one.later, more.later);
  nothing_else = λ t x le left. elim (more.nothing_else t x (omega (arith, one.later)) left) [
    | inl before ↦ elim (one.nothing_else t x le before) [ inl first ↦ inl first | inr now ↦ inr (stays x now) ]
    | inr now ↦ inr now
  ];
  keeps = λ t x le left. more.keeps t x (omega (arith, one.later)) (one.keeps t x le left);
}

torn-longer : (at n m : ℕ) (a c : List ℕ) → n ≤ m → Torn at n a c → Torn at m a c
torn-longer at n m a c le torn = record {
  before = torn.before;
  after =
      let place : at + n + (m - n) ≡ at + m = omega arith in
      let there : drop (at + n + (m - n)) c ≡ drop (at + n + (m - n)) a
      = sym (drop-drop (m - n) (at + n) c) ∙ ap (λ (xs : List ℕ). drop (m - n) xs) torn.after ∙ drop-drop (m - n) (at + n) a in
      rw place at there;
  no_shorter = torn.no_shorter;
  no_longer = omega (arith, torn.no_longer);
}

-- two writes side by side are one
pub goes-on : (a b c : Sight) (at n m : ℕ) → Goes at n a b → Goes (at + n) m b c → Goes at (n + m) a c
goes-on a b c at n m one more = record {
  writes = record {
    time = elapses-on a b c more.stays one.writes.time more.writes.time;
    crash = λ x left.
        let mid : (d : List ℕ) × b.may_leave d × Torn (at + n) m d x = more.writes.crash x left in
        let first : (d : List ℕ) × a.may_leave d × Torn at n d mid.0 = one.writes.crash mid.0 mid.1 in
        (first.0, first.1, torn-on at n m first.0 mid.0 x first.2 mid.2);
  };
  stays = λ x left. more.stays x (one.stays x left);
}

-- a write is one of a longer range too
pub goes-longer : (a b : Sight) (at n m : ℕ) → n ≤ m → Goes at n a b → Goes at m a b
goes-longer a b at n m le one = record {
  writes = record {
    time = one.writes.time;
    crash = λ x left.
        let first : (d : List ℕ) × a.may_leave d × Torn at n d x = one.writes.crash x left in
        (first.0, first.1, torn-longer at n m first.0 x le first.2);
  };
  stays = one.stays;
}

-- What a loop of writes has done so far.
pub record WriteLoop (r r' : CallRecord) (at from : ℕ) (bytes : List ℕ) : Type 0 where
  pub fits : from ≤ length bytes
  pub before : HasFollowed r' → HasFollowed r
  pub written : HasFollowed r' → at ≤ length (sight_by r 0).seen → (f f' : ℕ) → WritesSoFar at from bytes (sight_by r f) (sight_by r' f')

length-holds : (a b bytes : List ℕ) (at from : ℕ) → at ≤ length a → from ≤ length bytes → Holds a at (take from bytes) b → at + from ≤ length b
length-holds a b bytes at from le fits holds =
    let front : length (take from bytes) ≡ from = length-take-le from bytes fits in
    let size : length b ≡ length (take at a ++ take from bytes) + length (drop (at + length (take from bytes)) a)
    = ap length holds ∙ length-append (take at a ++ take from bytes) (drop (at + length (take from bytes)) a) in
    omega (arith, size, front, length-append (take at a) (take from bytes), length-take-le at a le)

-- bytes side by side
holds-on : (a b c bytes : List ℕ) (at from n : ℕ) → at ≤ length a → from + n ≤ length bytes → Holds a at (take from bytes) b
    → Holds b (at + from) (take n (drop from bytes)) c → Holds a at (take (from + n) bytes) c
holds-on a b c bytes at from n le fits one more =
    let first : length (take from bytes) ≡ from = length-take-le from bytes (omega arith) in
    let second : length (take n (drop from bytes)) ≡ n = length-take-le n (drop from bytes) (omega (arith, length-drop from bytes)) in
    let both : length (take (from + n) bytes) ≡ from + n = length-take-le (from + n) bytes fits in
    let mid : b ≡ take at a ++ take from bytes ++ drop (at + from) a = rw first at one in
    let front : length (take at a ++ take from bytes) ≡ at + from = length-append (take at a) (take from bytes) ∙ omega (arith, first, length-take-le at a le) in
    let before : take (at + from) b ≡ take at a ++ take from bytes
    = ap (λ (xs : List ℕ). take (at + from) xs) mid ∙ take_at (take at a ++ take from bytes) (drop (at + from) a) (at + from) front in
    let behind : drop (at + from + n) b ≡ drop (at + (from + n)) a
    = sym (drop-drop n (at + from) b)
    ∙ ap (λ (xs : List ℕ). drop n xs) (ap (λ (xs : List ℕ). drop (at + from) xs) mid ∙ drop_at (take at a ++ take from bytes) (drop (at + from) a) (at + from) front)
    ∙ drop-drop n (at + from) a ∙ ap (λ (k : ℕ). drop k a) (omega arith) in
    let last : c ≡ take (at + from) b ++ take n (drop from bytes) ++ drop (at + from + n) b = rw second at more in
    let joined : take at a ++ take from bytes ++ take n (drop from bytes) ≡ take at a ++ take (from + n) bytes
    = append_assoc (take at a) (take from bytes) (take n (drop from bytes)) ∙ ap (λ (xs : List ℕ). take at a ++ xs) (sym (take-two from n bytes)) in
    rw both (last ∙ ap (λ (xs : List ℕ). xs ++ take n (drop from bytes) ++ drop (at + from + n) b) before
    ∙ ap (λ (xs : List ℕ). take at a ++ take from bytes ++ take n (drop from bytes) ++ xs) behind
    ∙ ap (λ (xs : List ℕ). xs ++ drop (at + (from + n)) a) joined)

-- after one more piece
pub write-loop-on : (r r' r'' : CallRecord) (at from n : ℕ) (bytes rest : List ℕ) → WriteLoop r r' at from bytes → rest ≡ drop from bytes → n ≤ length rest
    → (HasFollowed r'' → HasFollowed r')
    → ((f f' : ℕ) → HasFollowed r'' → at + from ≤ length (sight_by r' 0).seen → WritesSoFar (at + from) n rest (sight_by r' f) (sight_by r'' f'))
    → WriteLoop r r'' at (from + n) bytes
write-loop-on r r' r'' at from n bytes rest old e h before more =
    let fits : from + n ≤ length bytes = omega (arith, old.fits, ap length e, length-drop from bytes) in
    record {
      fits = fits;
      before = λ follows. old.before (before follows);
      written = λ follows le f f'.
          let so_far : WritesSoFar at from bytes (sight_by r f) (sight_by r' 0) = old.written (before follows) le f 0 in
          let place : at + from ≤ length (sight_by r' 0).seen = length-holds (sight_by r 0).seen (sight_by r' 0).seen bytes at from le old.fits so_far.holds in
          record {
            goes = goes-on (sight_by r f) (sight_by r' 0) (sight_by r'' f') at from n so_far.goes (more 0 f' follows place).goes;
            holds = holds-on (sight_by r 0).seen (sight_by r' 0).seen (sight_by r'' 0).seen bytes at from n le fits so_far.holds
                (subst (λ (xs : List ℕ). Holds (sight_by r' 0).seen (at + from) (take n xs) (sight_by r'' 0).seen) e (more 0 0 follows place).holds);
          };
    }

-- after a write that was interrupted
pub write-loop-again : (r r' r'' : CallRecord) (at from : ℕ) (bytes : List ℕ) → WriteLoop r r' at from bytes → OnlyAsks r' r'' → WriteLoop r r'' at from bytes
write-loop-again r r' r'' at from bytes old one = record {
  fits = old.fits;
  before = λ follows. old.before (one.before follows);
  written = λ follows le f f'. rw (one.acts, one.start) (old.written (one.before follows) le f f');
}

-- after a write that failed
pub write-loop-broke : (r r' r'' : CallRecord) (at from f f' : ℕ) (bytes rest : List ℕ) → WriteLoop r r' at from bytes → length rest ≡ length bytes - from
    → (HasFollowed r'' → HasFollowed r')
    → ((f f' : ℕ) → HasFollowed r'' → at + from ≤ length (sight_by r' 0).seen → Goes (at + from) (length rest) (sight_by r' f) (sight_by r'' f'))
    → HasFollowed r'' → at ≤ length (sight_by r 0).seen → Writes at (length bytes) (sight_by r f) (sight_by r'' f')
write-loop-broke r r' r'' at from f f' bytes rest old size before goes follows le =
    let so_far : WritesSoFar at from bytes (sight_by r f) (sight_by r' 0) = old.written (before follows) le f 0 in
    let place : at + from ≤ length (sight_by r' 0).seen = length-holds (sight_by r 0).seen (sight_by r' 0).seen bytes at from le old.fits so_far.holds in
    (goes-longer (sight_by r f) (sight_by r'' f') at (from + length rest) (length bytes) (omega (arith, size, old.fits))
    (goes-on (sight_by r f) (sight_by r' 0) (sight_by r'' f') at from (length rest) so_far.goes (goes 0 f' follows place))).writes

-- what was written so far is a write of the whole
pub write-loop-so-far : (r r' : CallRecord) (at from f f' : ℕ) (bytes : List ℕ) → WriteLoop r r' at from bytes
    → HasFollowed r' → at ≤ length (sight_by r 0).seen → Writes at (length bytes) (sight_by r f) (sight_by r' f')
write-loop-so-far r r' at from f f' bytes old follows le =
    (goes-longer (sight_by r f) (sight_by r' f') at from (length bytes) old.fits (old.written follows le f f').goes).writes

pub write-loop-whole : (r r' : CallRecord) (at from : ℕ) (bytes : List ℕ) → WriteLoop r r' at from bytes → from ≡ length bytes
    → HasFollowed r' → at ≤ length (sight_by r 0).seen → Holds (sight_by r 0).seen at bytes (sight_by r' 0).seen
write-loop-whole r r' at from bytes old all follows le =
    subst (λ (xs : List ℕ). Holds (sight_by r 0).seen at xs (sight_by r' 0).seen) (take_all from bytes (omega arith)) (old.written follows le 0 0).holds

-- What a loop of calls has noted so far: k calls, of which none failed.
pub record CallLoop (k : ℕ) (old new : List Call) : Type 0 where
  pub made : List Call
  pub noted : new ≡ made ++ old
  pub size : length made ≡ k
  pub worked : HaveWorked made

pub call-loop-on : (k : ℕ) (old mid new : List Call) (call : Call) → CallLoop k old mid → new ≡ call ∷ mid → ¬ IsFailedCall call
    → CallLoop (k + 1) old new
call-loop-on k old mid new call so_far e worked = record {
  made = call ∷ so_far.made;
  noted = e ∙ ap (λ (calls : List Call). call ∷ calls) so_far.noted;
  size = omega (arith, so_far.size);
  worked = All-cons (λ (c : Call). ¬ IsFailedCall c) call so_far.made worked so_far.worked;
}

-- what was done
pub served-ok : {T E : Type 0} (x : T) (k at n : ℕ) (old new : List Call) → CallLoop k old new → at + n < 2 ^ 64
    → IsServedByCalls {T = T} {E = E} at n (Ok x) old new
served-ok x k at n old new so_far within = record {
  made = so_far.made;
  noted = so_far.noted;
  ok = (so_far.worked, within);
  err = tt;
}

-- a call failed
pub served-failed : {T E : Type 0} (e : E) (k at n : ℕ) (old mid new : List Call) (call : Call) → CallLoop k old mid → new ≡ call ∷ mid
    → IsFailedCall call → IsServedByCalls {T = T} {E = E} at n (Err e) old new
served-failed e k at n old mid new call so_far more failed = record {
  made = call ∷ so_far.made;
  noted = more ∙ ap (λ (calls : List Call). call ∷ calls) so_far.noted;
  ok = tt;
  err = inl (failed, so_far.worked);
}
