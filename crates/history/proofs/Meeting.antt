-- Two passes look at one shard after another.
use Rattle.std.proofs.Common.{◌≡◌, ◌≢◌, ℕ, ◌+◌, List, [], refl, sym, ◌∙◌, subst, ⊎_elim, arith, length-set, slice_index_or, slice_set, get_or-set_same, get_or-set_other}
use Rattle.history.proofs.Common.{Me, Item, Caller, View, IsBeginning, IsMeeting, HasStepsOf, Meets, caller_in, pair_of, with_seen, HaveMet, cases_eq}

pub met_start : (c d : Caller) → HaveMet c d 0 c.seen d.seen
met_start c d = record { first_length = refl; second_length = refl; below = λ k l. absurd (omega arith); first_above = λ k l. refl; second_above = λ k l. refl }

steps_same : (c : Caller) (l : List (List Item)) (k : ℕ) (new : List Item) → HasStepsOf (with_seen c l) k new → HasStepsOf c k new
steps_same c l k new h = record { rest = h.rest; is = h.is; among = h.among; rises = h.rises; told = h.told }

-- one more look
pub met_look : (c d : Caller) (n : ℕ) (lc ld : List (List Item)) (m m' : Me Unit View) → m ≡ (pair_of (with_seen c lc) (with_seen d ld), []) → HaveMet c d n lc ld → Meets n m.0.role m.0.guest m'.0 × (m'.1 ≡ m.1)
    → (m' ≡ (pair_of (with_seen c (caller_in m'.0.role).seen) (with_seen d (caller_in m'.0.guest).seen), [])) × HaveMet c d (n + 1) (caller_in m'.0.role).seen (caller_in m'.0.guest).seen
met_look c d n lc ld m m' is met told =
    let t = subst (λ (u : Me Unit View). Meets n u.0.role u.0.guest m'.0 × (m'.1 ≡ u.1)) is told in
    let new : List Item = t.0.0 in
    let w = t.0.1 in
    let all = t.0.2 in
    let lc' : List (List Item) = slice_set lc n new in
    let ld' : List (List Item) = slice_set ld n new in
    let same : m' ≡ (pair_of (with_seen c lc') (with_seen d ld'), []) = λ i. (w i, t.1 i) in
    let here : IsMeeting c d n new = (subst (λ l. IsBeginning l new) (met.first_above n (omega arith)) all.0, subst (λ l. IsBeginning l new) (met.second_above n (omega arith)) all.1, all.2, steps_same c lc n new all.3, steps_same d ld n new all.4, all.5, all.6) in
    subst (λ (u : Me Unit View). (u ≡ (pair_of (with_seen c (caller_in u.0.role).seen) (with_seen d (caller_in u.0.guest).seen), [])) × HaveMet c d (n + 1) (caller_in u.0.role).seen (caller_in u.0.guest).seen) (sym same) (
      refl,
      record {
        first_length = length-set lc n new ∙ met.first_length;
        second_length = length-set ld n new ∙ met.second_length;
        below = λ k l. ⊎_elim
            (λ (e : k ≡ n). subst (λ (i : ℕ). IsMeeting c d i (slice_index_or lc' i []) × (slice_index_or ld' i [] ≡ slice_index_or lc' i [])) (sym e)
            (subst (λ x. IsMeeting c d n x) (sym (get_or-set_same lc n new [] t.0.3)) here, get_or-set_same ld n new [] t.0.4 ∙ sym (get_or-set_same lc n new [] t.0.3)))
            (λ (e : k ≢ n).
            let old = met.below k (omega arith) in
            let one = get_or-set_other lc n k new [] e in
            let two = get_or-set_other ld n k new [] e in
            (subst (λ x. IsMeeting c d k x) (sym one) old.0, two ∙ old.1 ∙ sym one))
            (cases_eq k n);
        first_above = λ k l. get_or-set_other lc n k new [] (λ e. omega arith) ∙ met.first_above k (omega arith);
        second_above = λ k l. get_or-set_other ld n k new [] (λ e. omega arith) ∙ met.second_above k (omega arith);
      },
    )
