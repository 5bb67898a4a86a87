-- What a pass knows, from the opening to its end.
use Rattle.std.proofs.Common.{◌≡◌, ◌≢◌, ◌⊎◌, ℕ, ◌+◌, ◌<◌, ◌≤◌, Bool, true, false, List, [], ◌∷◌, ◌++◌, refl, sym, ap, ◌∙◌, subst, inl, inr, ⊎_elim, append-nil, arith, Result, Ok, Err, slice_index_or, slice_set}
use Rattle.std.specs.Result.{IsErrOf}
use Rattle.headline.proofs.Common.{Call, Reply, CallFault, PassClosed, InDoubt, Ask, Item, About, Caller, Opening, IsBeginning, HaveNumbersBelow, IsRising, behind_first, seen_at, ask_of, Passed, is_closed_pass, HaveMet, fresh_pass, with_seen, IsAnswered, IsRefused, IsGiven, IsGivenAfter, next_step, shard_for, without_next, with_next, closed_now, What, Called, Looked, Met, Closed, Happening, Happens, HappenAfter, IsLooked, IsMet, leaves_call_in_doubt, IsOneOf, cases_eq, cases_lt, false≢true, begins_same, begins_front, begins_trans, below_more, below_last, rising_last, or_parts, false_from_ne_true}
use Rattle.headline.proofs.Counting.{AreFrom}

-- what a pass has made has rising numbers, below those of its open calls, and it has open calls only once it is closed
pub record IsSound (about : About) (pass : Passed) : Type 0 where
  pub about_is : pass.caller.about ≡ about
  pub idle : pass.closed ≡ false → pass.caller.pending ≡ []
  pub floor : ℕ
  pub low : floor ≤ pass.caller.last + 1
  pub made : HaveNumbersBelow floor pass.caller.made
  pub pending : AreFrom floor pass.caller.pending
  pub rising : IsRising pass.caller.made

-- what it knows has grown
pub record Grows (old new : Passed) : Type 0 where
  pub pass : new.caller.pass ≡ old.caller.pass
  pub made : IsBeginning old.caller.made new.caller.made
  pub seen : (k : ℕ) → IsBeginning (seen_at old.caller k) (seen_at new.caller k)

begins_as : {A : Type 0} (a b : List A) → b ≡ a → IsBeginning a b
begins_as a b e = record { rest = []; is = e ∙ sym (append-nil a) }

pub grows_same : (pass : Passed) → Grows pass pass
grows_same pass = record { pass = refl; made = begins_same pass.caller.made; seen = λ k. begins_same (seen_at pass.caller k) }

pub grows_more : (a b c : Passed) → Grows a b → Grows b c → Grows a c
grows_more a b c g h = record { pass = h.pass ∙ g.pass; made = begins_trans g.made h.made; seen = λ k. begins_trans (g.seen k) (h.seen k) }

-- what it has made and seen is as it was
grows_kept : (old new : Passed) → new.caller.pass ≡ old.caller.pass → new.caller.made ≡ old.caller.made → new.caller.seen ≡ old.caller.seen → Grows old new
grows_kept old new p m s = record {
  pass = p;
  made = begins_as old.caller.made new.caller.made m;
  seen = λ k. begins_as (seen_at old.caller k) (seen_at new.caller k) (ap (λ l. slice_index_or l k []) s);
}

from_none : (n : ℕ) (asks : List Ask) → asks ≡ [] → AreFrom n asks
from_none n asks e = subst (AreFrom n) (sym e) tt

from_last : (n : ℕ) (asks : List Ask) (a : Ask) → AreFrom n asks → n ≤ a.number → AreFrom n (asks ++ a ∷ [])
from_last n [] a h l = (l, tt)
from_last n (b ∷ asks) a h l = (h.0, from_last n asks a h.1 l)

-- it has made nothing more
sound_kept : (about : About) (old new : Passed) (s : IsSound about old) → new.caller.about ≡ old.caller.about → (new.closed ≡ false → new.caller.pending ≡ []) → old.caller.last ≤ new.caller.last → new.caller.made ≡ old.caller.made → AreFrom s.floor new.caller.pending → IsSound about new
sound_kept about old new s same idle more made pending = record {
  about_is = same ∙ s.about_is;
  idle = idle;
  floor = s.floor;
  low = let l = s.low in omega arith;
  made = subst (HaveNumbersBelow s.floor) (sym made) s.made;
  pending = pending;
  rising = subst IsRising (sym made) s.rising;
}

-- one number is used up
sound_skipped : (about : About) (old : Passed) → IsSound about old → IsSound about (without_next old)
sound_skipped about old s = sound_kept about old (without_next old) s refl (λ e. refl) (omega arith) refl tt

-- one call stays open
sound_open : (about : About) (old : Passed) (call : Call) → IsSound about old → old.closed ≡ true → IsSound about (with_next old call)
sound_open about old call s up =
    sound_kept about old (with_next old call) s refl (λ e. absurd (false≢true (sym e ∙ up))) (omega arith) refl (from_last s.floor old.caller.pending (ask_of old.caller (old.caller.last + 1) call) s.pending s.low)

sound_closed : (about : About) (old : Passed) → IsSound about old → IsSound about (closed_now old)
sound_closed about old s = sound_kept about old (closed_now old) s refl (λ e. absurd (false≢true (sym e))) (omega arith) refl s.pending

sound_lost : (about : About) (old : Passed) (call : Call) → IsSound about old → IsSound about (closed_now (with_next old call))
sound_lost about old call s =
    sound_kept about old (closed_now (with_next old call)) s refl (λ e. absurd (false≢true (sym e))) (omega arith) refl (from_last s.floor old.caller.pending (ask_of old.caller (old.caller.last + 1) call) s.pending s.low)

sound_as : (about : About) (a b : Passed) → b ≡ a → IsSound about a → IsSound about b
sound_as about a b e s = subst (IsSound about) (sym e) s

grows_as : (old a b : Passed) → b ≡ a → Grows old a → Grows old b
grows_as old a b e g = subst (Grows old) (sym e) g

refused_sound : (about : About) (old new : Passed) (call : Call) (fault : CallFault) → IsSound about old → IsRefused old call new fault → IsSound about new
refused_sound about old new call PassClosed s is = sound_as about old new is s
refused_sound about old new call InDoubt s (inl is) = sound_as about (closed_now (without_next old)) new is (sound_closed about (without_next old) (sound_skipped about old s))
refused_sound about old new call InDoubt s (inr is) = sound_as about (closed_now (with_next old call)) new is (sound_lost about old call s)
refused_sound about old new call fault s is = sound_as about (without_next old) new is (sound_skipped about old s)

refused_grows : (old new : Passed) (call : Call) (fault : CallFault) → IsRefused old call new fault → Grows old new
refused_grows old new call PassClosed is = grows_as old old new is (grows_same old)
refused_grows old new call InDoubt (inl is) = grows_as old (closed_now (without_next old)) new is (grows_kept old (closed_now (without_next old)) refl refl refl)
refused_grows old new call InDoubt (inr is) = grows_as old (closed_now (with_next old call)) new is (grows_kept old (closed_now (with_next old call)) refl refl refl)
refused_grows old new call fault is = grows_as old (without_next old) new is (grows_kept old (without_next old) refl refl refl)

-- after a call in doubt the pass is closed
refused_closed : (old new : Passed) (call : Call) → IsRefused old call new InDoubt → new.closed ≡ true
refused_closed old new call (inl is) = ap (λ (p : Passed). p.closed) is
refused_closed old new call (inr is) = ap (λ (p : Passed). p.closed) is

behind_one : (asks : List Ask) (a : Ask) → asks ≡ [] → behind_first (asks ++ a ∷ []) ≡ []
behind_one asks a e = ap (λ (l : List Ask). behind_first (l ++ a ∷ [])) e

answered_sound : (about : About) (old new : Passed) (call : Call) (reply : Reply) → IsSound about old → is_closed_pass old ≡ false → IsAnswered old new call reply → IsSound about new
answered_sound about old new call reply s up is =
    let none : old.caller.pending ≡ [] = s.idle (or_parts old.closed _ up).0 in
    let made : new.caller.made ≡ old.caller.made ++ next_step old.caller call reply ∷ [] = ap (λ (p : Passed). p.caller.made) is.pass in
    let last : new.caller.last ≡ old.caller.last + 1 = ap (λ (p : Passed). p.caller.last) is.pass in
    let opened : new.caller.pending ≡ [] = ap (λ (p : Passed). p.caller.pending) is.pass ∙ behind_one old.caller.pending (ask_of old.caller (old.caller.last + 1) call) none in
    let under : HaveNumbersBelow (old.caller.last + 1) old.caller.made = below_more s.floor (old.caller.last + 1) old.caller.made s.low s.made in
    record {
      about_is = ap (λ (p : Passed). p.caller.about) is.pass ∙ s.about_is;
      idle = λ e. opened;
      floor = old.caller.last + 2;
      low = omega arith;
      made = subst (HaveNumbersBelow (old.caller.last + 2)) (sym made) (below_last (old.caller.last + 2) old.caller.made (next_step old.caller call reply) (below_more (old.caller.last + 1) (old.caller.last + 2) old.caller.made (omega arith) under) (omega arith));
      pending = from_none (old.caller.last + 2) new.caller.pending opened;
      rising = subst IsRising (sym made) (rising_last old.caller.made (next_step old.caller call reply) s.rising under);
    }

answered_grows : (old new : Passed) (call : Call) (reply : Reply) → IsAnswered old new call reply → Grows old new
answered_grows old new call reply is = record {
  pass = ap (λ (p : Passed). p.caller.pass) is.pass;
  made = record { rest = next_step old.caller call reply ∷ []; is = ap (λ (p : Passed). p.caller.made) is.pass };
  seen = λ k. ⊎_elim
      (λ (e : k ≡ shard_for old.caller call). subst (λ j. IsBeginning (seen_at old.caller j) (seen_at new.caller j)) (sym e) (begins_trans (begins_front (seen_at old.caller (shard_for old.caller call)) is.extends.between) (record { rest = _; is = is.extends.is })))
      (λ (n : k ≢ shard_for old.caller call). begins_as (seen_at old.caller k) (seen_at new.caller k) (is.others k n))
      (cases_eq k (shard_for old.caller call));
}

not_spent : (reply : Reply) (fault : CallFault) → IsErrOf {T = Reply} {E = CallFault} (Ok reply) fault → ⊥
not_spent reply fault is = let one : Ok reply ≡ Err fault = is in cc

module _ {D : Type 0} (opening : Opening D) where
  given_up : (old new : Passed) (call : Call) (reply : Reply) → IsGiven old call (Ok reply) new → is_closed_pass old ≡ false
  given_up old new call reply is = false_from_ne_true (is_closed_pass old) (λ e. not_spent reply PassClosed (is.closed.1 e))

  -- an answered call was made by a pass that was not closed
  pub given_open : (old new : Passed) (call : Call) (reply : Reply) → IsGiven old call (Ok reply) new → old.closed ≡ false
  given_open old new call reply is = (or_parts old.closed _ (given_up old new call reply is)).0

  -- an answered call was answered by its contract
  pub given_answer : (lost : Bool) (old new : Passed) (call : Call) (reply : Reply) → IsGivenAfter lost old call (Ok reply) new → IsAnswered old new call reply × (is_closed_pass old ≡ false)
  given_answer false old new call reply is = (is.answered, given_up old new call reply is)
  given_answer true old new call reply (inl is) = (is.answered, given_up old new call reply is)
  given_answer true old new call reply (inr is) = absurd (let never = is.0 in cc)

  -- the pass was closed where a call may be lost with the one before it
  abbrev pub ClosedIf : Bool → Passed → Type 0
  ClosedIf lost pass = lost ≡ true → pass.closed ≡ true

  given_sound : (about : About) (old new : Passed) (call : Call) (outcome : Result Reply CallFault) → IsSound about old → IsGiven old call outcome new → IsSound about new
  given_sound about old new call (Ok reply) s is = answered_sound about old new call reply s (given_up old new call reply is) is.answered
  given_sound about old new call (Err fault) s is = refused_sound about old new call fault s is.refused

  given_grows : (old new : Passed) (call : Call) (outcome : Result Reply CallFault) → IsGiven old call outcome new → Grows old new
  given_grows old new call (Ok reply) is = answered_grows old new call reply is.answered
  given_grows old new call (Err fault) is = refused_grows old new call fault is.refused

  given_closed : (old new : Passed) (call : Call) (outcome : Result Reply CallFault) → IsGiven old call outcome new → ClosedIf (leaves_call_in_doubt (Called call outcome)) new
  given_closed old new call (Err InDoubt) is e = refused_closed old new call is.refused
  given_closed old new call outcome is e = absurd (false≢true e)

  -- of one that happened
  pub record Goes (about : About) (old new : Passed) (lost : Bool) : Type 0 where
    pub sound : IsSound about new
    pub grows : Grows old new
    pub closed : ClosedIf lost new

  called : (lost : Bool) (old new : Passed) (call : Call) (outcome : Result Reply CallFault) → ClosedIf lost old → IsSound opening.about old → IsGivenAfter lost old call outcome new → Goes opening.about old new (leaves_call_in_doubt (Called call outcome))
  called false old new call outcome up s is = record { sound = given_sound opening.about old new call outcome s is; grows = given_grows old new call outcome is; closed = given_closed old new call outcome is }
  called true old new call outcome up s (inl is) = record { sound = given_sound opening.about old new call outcome s is; grows = given_grows old new call outcome is; closed = given_closed old new call outcome is }
  called true old new call outcome up s (inr is) = record {
    sound = sound_as opening.about (with_next old call) new is.1 (sound_open opening.about old call s (up refl));
    grows = grows_as old (with_next old call) new is.1 (grows_kept old (with_next old call) refl refl refl);
    closed = λ e. ap (λ (p : Passed). p.closed) is.1 ∙ up refl;
  }

  -- all but what it has seen is as it was
  saw : (old new : Passed) (seen : List (List Item)) → IsSound opening.about old → new ≡ record old { caller = with_seen old.caller seen } → ((k : ℕ) → IsBeginning (seen_at old.caller k) (seen_at new.caller k)) → Goes opening.about old new false
  saw old new seen s is begins =
      let made : new.caller.made ≡ old.caller.made = ap (λ (p : Passed). p.caller.made) is in
      let pending : new.caller.pending ≡ old.caller.pending = ap (λ (p : Passed). p.caller.pending) is in
      let last : new.caller.last ≡ old.caller.last = ap (λ (p : Passed). p.caller.last) is in
      record {
        sound = sound_kept opening.about old new s (ap (λ (p : Passed). p.caller.about) is) (λ e. pending ∙ s.idle (sym (ap (λ (p : Passed). p.closed) is) ∙ e)) (omega arith) made (subst (AreFrom s.floor) (sym pending) s.pending);
        grows = record { pass = ap (λ (p : Passed). p.caller.pass) is; made = begins_as old.caller.made new.caller.made made; seen = begins };
        closed = λ e. absurd (false≢true e);
      }

  looked : (old new : Passed) (k : ℕ) → IsSound opening.about old → IsLooked opening old k new → Goes opening.about old new false
  looked old new k s is = saw old new (slice_set old.caller.seen k (seen_at new.caller k)) s is.pass (λ j. ⊎_elim
      (λ (e : j ≡ k). subst (λ i. IsBeginning (seen_at old.caller i) (seen_at new.caller i)) (sym e) is.begins)
      (λ (n : j ≢ k). begins_as (seen_at old.caller j) (seen_at new.caller j) (is.others j n))
      (cases_eq j k))

  met_seen : (old new : Passed) (other : Caller) (theirs : List (List Item)) → IsMet opening old other theirs new → (k : ℕ) → IsBeginning (seen_at old.caller k) (seen_at new.caller k)
  met_seen old new other theirs is k = ⊎_elim
      (λ (m : HaveMet old.caller other opening.about.shards new.caller.seen theirs). ⊎_elim
      (λ (lt : k < opening.about.shards). (m.below k lt).0.0)
      (λ (le : opening.about.shards ≤ k). begins_as (seen_at old.caller k) (seen_at new.caller k) (m.first_above k le))
      (cases_lt k opening.about.shards))
      (λ (m : HaveMet other old.caller opening.about.shards theirs new.caller.seen). ⊎_elim
      (λ (lt : k < opening.about.shards). subst (IsBeginning (seen_at old.caller k)) (sym (m.below k lt).1) (m.below k lt).0.1)
      (λ (le : opening.about.shards ≤ k). begins_as (seen_at old.caller k) (seen_at new.caller k) (m.second_above k le))
      (cases_lt k opening.about.shards))
      is.met

  pub goes : (lost : Bool) (old new : Passed) (what : What) → ClosedIf lost old → IsSound opening.about old → Happens lost opening old what new → Goes opening.about old new (leaves_call_in_doubt what)
  goes lost old new (Called call outcome) up s is = called lost old new call outcome up s is
  goes lost old new (Looked k) up s is = looked old new k s is
  goes lost old new (Met other theirs) up s is = saw old new new.caller.seen s is.pass (met_seen old new other theirs is)
  goes lost old new Closed up s is = record {
    sound = sound_as opening.about (closed_now old) new is (sound_closed opening.about old s);
    grows = grows_as old (closed_now old) new is (grows_kept old (closed_now old) refl refl refl);
    closed = λ e. absurd (false≢true e);
  }

  -- to the end
  pub grows_on : (lost : Bool) (start end : Passed) (hs : List Happening) → ClosedIf lost start → IsSound opening.about start → HappenAfter lost opening start hs end → Grows start end
  grows_on lost start end [] up s is = grows_as start start end is (grows_same start)
  grows_on lost start end (h ∷ hs) up s is =
      let g = goes lost h.before h.after h.what (λ e. ap (λ (p : Passed). p.closed) is.0 ∙ up e) (sound_as opening.about start h.before is.0 s) is.1 in
      grows_more start h.after end (subst (λ p. Grows p h.after) is.0 g.grows) (grows_on (leaves_call_in_doubt h.what) h.after end hs g.closed g.sound is.2)

  pub sound_on : (lost : Bool) (start end : Passed) (hs : List Happening) → ClosedIf lost start → IsSound opening.about start → HappenAfter lost opening start hs end → IsSound opening.about end
  sound_on lost start end [] up s is = sound_as opening.about start end is s
  sound_on lost start end (h ∷ hs) up s is =
      let g = goes lost h.before h.after h.what (λ e. ap (λ (p : Passed). p.closed) is.0 ∙ up e) (sound_as opening.about start h.before is.0 s) is.1 in
      sound_on (leaves_call_in_doubt h.what) h.after end hs g.closed g.sound is.2

  -- one that happened, on the way to the end
  pub record IsOnTheWay (h : Happening) (end : Passed) : Type 0 where
    pub lost : Bool
    pub before : IsSound opening.about h.before
    pub happens : Happens lost opening h.before h.what h.after
    pub grows : Grows h.before h.after
    pub later : Grows h.after end

  pub on_the_way : (lost : Bool) (start end : Passed) (hs : List Happening) (h : Happening) → ClosedIf lost start → IsSound opening.about start → HappenAfter lost opening start hs end → IsOneOf h hs → IsOnTheWay h end
  on_the_way lost start end [] h up s is one = absurd one
  on_the_way lost start end (g ∷ hs) h up s is one =
      let before = sound_as opening.about start g.before is.0 s in
      let first = goes lost g.before g.after g.what (λ e. ap (λ (p : Passed). p.closed) is.0 ∙ up e) before is.1 in
      ⊎_elim
      (λ (e : h ≡ g). subst (λ (x : Happening). IsOnTheWay x end) (sym e) (record {
        lost = lost;
        before = before;
        happens = is.1;
        grows = first.grows;
        later = grows_on (leaves_call_in_doubt g.what) g.after end hs first.closed first.sound is.2;
      }))
      (λ (t : IsOneOf h hs). on_the_way (leaves_call_in_doubt g.what) g.after end hs h first.closed first.sound is.2 t)
      one

  pub fresh_sound : (p : ℕ) → IsSound opening.about (fresh_pass opening.table opening.about p)
  fresh_sound p = record {
    about_is = refl;
    idle = λ e. refl;
    floor = 0;
    low = omega arith;
    made = tt;
    pending = tt;
    rising = tt;
  }
