-- Bytes have one answer as a push, one as a query and one as a trim.
use Rattle.std.proofs.Common.{◌≡◌, ◌≢◌, ◌⊎◌, inl, inr, ℕ, ◌<◌, ◌≤◌, List, map, Result, Ok, Err, Option, Some, None, refl, sym, ◌∙◌, subst, arith, [], ◌∷◌, length, take, get_or, length-take, All, true}
use Rattle.std.specs.Str.{IsUtf8, is_utf8}
use Rattle.std.proofs.lemmas.Str.{IsUtf8-from_is_utf8, is_utf8-from_IsUtf8}
use Rattle.serde_json.specs.Data.{Data}
use Rattle.serde_json.specs.Read.{read}
use Rattle.pushjson.specs.Times.{IsTime}
use Rattle.pushjson.specs.Bodies.{Stream, body_tree, IsJson, HaveTimes, IsFirstBadTime, entry_count, batch_of, TimedLine, labels_tree, third_tree, value_tree, stream_tree, AreTimed, IsFirstBad}
use Rattle.pushjson.specs.Parts.{has_too_many, HasTooManyParts, OfOthers}
use Rattle.pushjson.specs.Queries.{Query, Trim, query_tree, trim_tree, raw_read_of, raw_trim_of, IsQueryOfTree, IsTrimOfTree, ReadsQuery, ReadsTrim}
use Rattle.pushjson.specs.Reads.{IsPushOfTree, IsPushAnswer, HasOne}
use Rattle.pushjson.specs.declared.push.RawBatch.{RawBatch}
use Rattle.pushjson.specs.declared.query.RawRead.{RawRead}
use Rattle.pushjson.specs.declared.query.RawTrim.{RawTrim}
use Rattle.pushjson.specs.declared.fault.PushFault.{PushFault}
use Rattle.pushjson.specs.declared.fault.PushFault.TheVariants.{NotJson, WrongShape, BadTime, TooManyEntries, TooManyParts, Memory}
use Rattle.pushjson.proofs.Deciding.{Decided, tested, body_decided, query_decided, trim_decided, order_decided, both_decided, time_decided, bad_time_in}
use Rattle.std.proofs.lemmas.Bool.{cases_order}
use Rattle.std.proofs.lemmas.List.{get_or-take}
use Rattle.serde_json.specs.View.{items_of}
use Rattle.pairs.specs.Labels.{Label}

-- a printer of lists is injective where that of their elements is
same_items : {Y : Type 0} (tree : Y → Data) → ((y z : Y) → tree y ≡ tree z → y ≡ z) → (ys zs : List Y) → items_of (map tree ys) ≡ items_of (map tree zs) → ys ≡ zs
same_items tree inj [] [] e = refl
same_items tree inj (y ∷ ys) (z ∷ zs) e =
    let first : y ≡ z = inj y z cc in
    let rest : ys ≡ zs = same_items tree inj ys zs cc in
    cc
same_items tree inj ys zs e = cc

same_labels : (ps qs : List Label) → labels_tree ps ≡ labels_tree qs → ps ≡ qs
same_labels [] [] e = refl
same_labels (p ∷ ps) (q ∷ qs) e =
    let name : p.0 ≡ q.0 = cc in
    let value : p.1 ≡ q.1 = cc in
    let first : p ≡ q = λ i. (name i, value i) in
    let rest : ps ≡ qs = same_labels ps qs cc in
    cc
same_labels ps qs e = cc

same_third : (o p : Option (List Label)) → items_of (third_tree o) ≡ items_of (third_tree p) → o ≡ p
same_third None None e = refl
same_third (Some ps) (Some qs) e = let pairs : ps ≡ qs = same_labels ps qs cc in cc
same_third o p e = cc

same_value : (v w : TimedLine) → value_tree v ≡ value_tree w → v ≡ w
same_value v w e =
    let time : v.time ≡ w.time = cc in
    let line : v.line ≡ w.line = cc in
    let third : v.third ≡ w.third = same_third v.third w.third cc in
    λ i. record { time = time i; line = line i; third = third i }

same_stream : (s t : Stream) → stream_tree s ≡ stream_tree t → s ≡ t
same_stream s t e =
    let pairs : s.pairs ≡ t.pairs = same_labels s.pairs t.pairs cc in
    let values : s.values ≡ t.values = same_items value_tree same_value s.values t.values cc in
    λ i. record { pairs = pairs i; values = values i }

pub same_body : (ss ts : List Stream) → body_tree ss ≡ body_tree ts → ss ≡ ts
same_body ss ts e = same_items stream_tree same_stream ss ts cc

pub same_query : (q r : Query) → query_tree q ≡ query_tree r → q ≡ r
same_query q r e =
    let pairs : q.pairs ≡ r.pairs = same_labels q.pairs r.pairs cc in
    let from : q.from ≡ r.from = cc in
    let to : q.to ≡ r.to = cc in
    λ i. record { pairs = pairs i; from = from i; to = to i }

pub same_trim : (t u : Trim) → trim_tree t ≡ trim_tree u → t ≡ u
same_trim t u e =
    let pairs : t.pairs ≡ u.pairs = same_labels t.pairs u.pairs cc in
    let bound : t.bound ≡ u.bound = cc in
    λ i. record { pairs = pairs i; bound = bound i }

pub same_tree : (bytes : List ℕ) (d e : Data) → IsJson bytes d → IsJson bytes e → d ≡ e
same_tree bytes d e j k = let both : Some d ≡ Some e = sym j.1 ∙ k.1 in cc

no_value : TimedLine
no_value = record { time = []; line = []; third = None }

no_stream : Stream
no_stream = record { pairs = []; values = [] }

-- a bad time is no time
bad_among_times : (values : List TimedLine) (j : ℕ) → IsFirstBad values j → AreTimed values → ⊥
bad_among_times values j b h = b.here no_value (h j no_value b.within)

pub bad_among_good : (ss : List Stream) (i j : ℕ) → IsFirstBadTime ss i j → HaveTimes ss → ⊥
bad_among_good ss i j b h = bad_among_times (get_or ss i no_stream).values j (b.here no_stream) (h i no_stream b.within)

-- what holds of a front holds of each element within
at_front : {A : Type 0} (P : A → Type 0) (all : List A) (j k : ℕ) (d : A) → j < k → k < length all → All P (take k all) → P (get_or all j d)
at_front P all j k d h w front = rw (← get_or-take k all j d h) (front j d (omega (arith, length-take k all)))

-- there is one first element of which a fact does not hold
one_first : {A : Type 0} (P : A → Type 0) (all : List A) (j k : ℕ) (d : A) → ¬ (P (get_or all j d)) → ¬ (P (get_or all k d)) → j < length all → k < length all → All P (take j all) → All P (take k all) → j ≡ k
one_first P all j k d bad bad' w w' front front' =
    elim (cases_order j k) [ inl e ↦ e | inr o ↦ elim o [ inl h ↦ absurd (bad (at_front P all j k d h w' front')) | inr h ↦ absurd (bad' (at_front P all k j d h w front)) ] ]

same_bad : (values : List TimedLine) (j k : ℕ) → IsFirstBad values j → IsFirstBad values k → j ≡ k
same_bad values j k b c = one_first (λ v. IsTime v.time) values j k no_value (b.here no_value) (c.here no_value) b.within c.within b.earlier c.earlier

pub same_place : (ss : List Stream) (i k j l : ℕ) → IsFirstBadTime ss i j → IsFirstBadTime ss k l → i ≡ k
same_place ss i k j l b c =
    one_first (λ s. AreTimed s.values) ss i k no_stream (bad_among_times (get_or ss i no_stream).values j (b.here no_stream)) (bad_among_times (get_or ss k no_stream).values l (c.here no_stream)) b.within c.within b.earlier c.earlier

pub same_entry : (ss : List Stream) (i j l : ℕ) → IsFirstBadTime ss i j → IsFirstBadTime ss i l → j ≡ l
same_entry ss i j l b c = same_bad (get_or ss i no_stream).values j l (b.here no_stream) (c.here no_stream)

json_by : (bytes : List ℕ) → IsUtf8 bytes → (o : Option Data) → read bytes ≡ o → ((d : Data) × IsJson bytes d) ⊎ ((d : Data) → ¬ (IsJson bytes d))
json_by bytes u None e = inr (λ d j. let none : None ≡ Some d = sym e ∙ j.1 in cc)
json_by bytes u (Some d) e = inl (d, (u, e))

utf8_in : (bytes : List ℕ) → IsUtf8 bytes ⊎ (¬ (IsUtf8 bytes))
utf8_in bytes = tested (is_utf8 bytes) (IsUtf8 bytes) (IsUtf8-from_is_utf8 bytes) (is_utf8-from_IsUtf8 bytes)

json_in : (bytes : List ℕ) → ((d : Data) × IsJson bytes d) ⊎ ((d : Data) → ¬ (IsJson bytes d))
json_in bytes =
    elim (utf8_in bytes) [ inl u ↦ json_by bytes u (read bytes) refl | inr h ↦ inr (λ d j. h j.0) ]

-- there is an answer that does not want for memory
abbrev Has : {X : Type 0} → (Result X PushFault → Type 0) → Type 0
Has {X} Answers = (r : Result X PushFault) × (r ≢ Err Memory) × Answers r

module _ {X Y : Type 0} (tree : Y → Data) (IsJudged : Y → Result X PushFault → Type 0) (bytes : List ℕ) where
  -- an answer says that the bytes are no JSON, or that their tree is of another shape, or how what it is of is judged
  abbrev Says : Result X PushFault → Type 0
  Says r =
      ((r ≡ Err NotJson) × ((d : Data) → ¬ (IsJson bytes d)))
      ⊎ (((d : Data) × (r ≡ Err WrongShape) × IsJson bytes d × ((y : Y) → d ≢ tree y))
      ⊎ ((y : Y) × IsJson bytes (tree y) × IsJudged y r))

  said_alone : ((y z : Y) → tree y ≡ tree z → y ≡ z) → ((y : Y) (r s : Result X PushFault) → IsJudged y r → IsJudged y s → r ≡ s) → (r s : Result X PushFault) → Says r → Says s → r ≡ s
  said_alone same one r s (inl p) (inl q) = p.0 ∙ sym q.0
  said_alone same one r s (inl p) (inr (inl q)) = absurd (p.1 q.0 q.2)
  said_alone same one r s (inl p) (inr (inr q)) = absurd (p.1 (tree q.0) q.1)
  said_alone same one r s (inr (inl p)) (inl q) = absurd (q.1 p.0 p.2)
  said_alone same one r s (inr (inl p)) (inr (inl q)) = p.1 ∙ sym q.1
  said_alone same one r s (inr (inl p)) (inr (inr q)) = absurd (p.3 q.0 (same_tree bytes p.0 (tree q.0) p.2 q.1))
  said_alone same one r s (inr (inr p)) (inl q) = absurd (q.1 (tree p.0) p.1)
  said_alone same one r s (inr (inr p)) (inr (inl q)) = absurd (q.3 p.0 (same_tree bytes q.0 (tree p.0) q.2 p.1))
  said_alone same one r s (inr (inr p)) (inr (inr q)) =
      one p.0 r s p.2 (subst (λ (y : Y). IsJudged y s) (same q.0 p.0 (same_tree bytes (tree q.0) (tree p.0) q.1 p.1)) q.2)

  -- if what prints as a tree has an answer, bytes have one, and one alone
  has_one : (Answers : Result X PushFault → Type 0) → ((y z : Y) → tree y ≡ tree z → y ≡ z) → ((y : Y) (r s : Result X PushFault) → IsJudged y r → IsJudged y s → r ≡ s) → ((r : Result X PushFault) → Answers r → r ≢ Err Memory → Says r) → ((d : Data) → Decided tree d)
      → (((d : Data) → ¬ (IsJson bytes d)) → Answers (Err NotJson)) → ((d : Data) → IsJson bytes d → ((y : Y) → d ≢ tree y) → Answers (Err WrongShape)) → ((y : Y) → IsJson bytes (tree y) → Has Answers) → HasOne Answers
  has_one Answers same one says decided not_json wrong right = (it.0, it.1, it.2, λ s answers lasts. said_alone same one s it.0 (says s answers lasts) (says it.0 it.2 it.1))
    where
      by : (d : Data) → IsJson bytes d → Decided tree d → Has Answers
      by d json (inl p) = right p.0 (subst (IsJson bytes) p.1 json)
      by d json (inr h) = (Err WrongShape, λ e. cc, wrong d json h)

      it : Has Answers
      it = elim (json_in bytes) [ inl p ↦ by p.0 p.1 (decided p.0) | inr h ↦ (Err NotJson, λ e. cc, not_json h) ]

parts_in : (bytes : List ℕ) → HasTooManyParts bytes ⊎ (¬ (HasTooManyParts bytes))
parts_in bytes = both_decided (utf8_in bytes) (tested (has_too_many bytes) (has_too_many bytes ≡ true) (λ e. e) (λ e. e))

-- bytes with too many parts have their one answer, and others the one that they have by their tree
module _ {X : Type 0} (bytes : List ℕ) (Answers : Result X PushFault → Type 0) (never : ¬ (Answers (Err TooManyParts))) where
  to_others : (r : Result X PushFault) → ¬ (HasTooManyParts bytes) → Answers r → OfOthers bytes Answers r
  to_others (Ok x) few a = (few, a)
  to_others (Err NotJson) few a = (few, a)
  to_others (Err WrongShape) few a = (few, a)
  to_others (Err (BadTime i j)) few a = (few, a)
  to_others (Err TooManyEntries) few a = (few, a)
  to_others (Err TooManyParts) few a = absurd (never a)
  to_others (Err Memory) few a = tt

  of_others : (r : Result X PushFault) → ¬ (HasTooManyParts bytes) → r ≢ Err Memory → OfOthers bytes Answers r → Answers r
  of_others (Ok x) few lasts a = a.1
  of_others (Err NotJson) few lasts a = a.1
  of_others (Err WrongShape) few lasts a = a.1
  of_others (Err (BadTime i j)) few lasts a = a.1
  of_others (Err TooManyEntries) few lasts a = a.1
  of_others (Err TooManyParts) few lasts a = absurd (few a)
  of_others (Err Memory) few lasts a = absurd (lasts refl)

  of_many : (r : Result X PushFault) → HasTooManyParts bytes → r ≢ Err Memory → OfOthers bytes Answers r → r ≡ Err TooManyParts
  of_many (Ok x) many lasts a = absurd (a.0 many)
  of_many (Err NotJson) many lasts a = absurd (a.0 many)
  of_many (Err WrongShape) many lasts a = absurd (a.0 many)
  of_many (Err (BadTime i j)) many lasts a = absurd (a.0 many)
  of_many (Err TooManyEntries) many lasts a = absurd (a.0 many)
  of_many (Err TooManyParts) many lasts a = refl
  of_many (Err Memory) many lasts a = absurd (lasts refl)

  one_of_all : HasOne Answers → HasOne (OfOthers bytes Answers)
  one_of_all one = elim (parts_in bytes) [
    | inl many ↦ (Err TooManyParts, λ e. cc, many, λ s a lasts. of_many s many lasts a)
    | inr few ↦ (one.0, one.1, to_others one.0 few one.2, λ s a lasts. one.3 s (of_others s few lasts a) lasts)
  ]

-- how streams are judged
abbrev AreJudged : List Stream → Result (List RawBatch) PushFault → Type 0
AreJudged ss r =
    (HaveTimes ss × (entry_count ss ≤ 10000) × (r ≡ Ok (map batch_of ss)))
    ⊎ ((HaveTimes ss × (10000 < entry_count ss) × (r ≡ Err TooManyEntries))
    ⊎ ((i : ℕ) × (j : ℕ) × IsFirstBadTime ss i j × (r ≡ Err (BadTime i j))))

one_judged : (ss : List Stream) (r s : Result (List RawBatch) PushFault) → AreJudged ss r → AreJudged ss s → r ≡ s
one_judged ss r s (inl p) (inl q) = p.2 ∙ sym q.2
one_judged ss r s (inl p) (inr (inl q)) = absurd (omega (arith, p.1, q.1))
one_judged ss r s (inl p) (inr (inr q)) = absurd (bad_among_good ss q.0 q.1 q.2 p.0)
one_judged ss r s (inr (inl p)) (inl q) = absurd (omega (arith, p.1, q.1))
one_judged ss r s (inr (inl p)) (inr (inl q)) = p.2 ∙ sym q.2
one_judged ss r s (inr (inl p)) (inr (inr q)) = absurd (bad_among_good ss q.0 q.1 q.2 p.0)
one_judged ss r s (inr (inr p)) (inl q) = absurd (bad_among_good ss p.0 p.1 p.2 q.0)
one_judged ss r s (inr (inr p)) (inr (inl q)) = absurd (bad_among_good ss p.0 p.1 p.2 q.0)
one_judged ss r s (inr (inr p)) (inr (inr q)) =
    let place : p.0 ≡ q.0 = same_place ss p.0 q.0 p.1 q.1 p.2 q.2 in
    let entry : p.1 ≡ q.1 = same_entry ss q.0 p.1 q.1 (subst (λ (i : ℕ). IsFirstBadTime ss i p.1) place p.2) q.2 in
    cc (p.3, q.3)

push_says : (bytes : List ℕ) (r : Result (List RawBatch) PushFault) → IsPushOfTree bytes r → r ≢ Err Memory → Says body_tree AreJudged bytes r
push_says bytes (Ok b) a m = inr (inr (a.0, a.1, inl (a.2, a.3, λ i. Ok (a.4 i))))
push_says bytes (Err NotJson) a m = inl (refl, a)
push_says bytes (Err WrongShape) a m = inr (inl (a.0, refl, a.1, a.2))
push_says bytes (Err (BadTime i j)) a m = inr (inr (a.0, a.1, inr (inr (i, j, a.2, refl))))
push_says bytes (Err TooManyEntries) a m = inr (inr (a.0, a.1, inr (inl (a.2, a.3, refl))))
push_says bytes (Err TooManyParts) a m = absurd a
push_says bytes (Err Memory) a m = absurd (m refl)

one_answer_of_tree : (bytes : List ℕ) → HasOne (IsPushOfTree bytes)
one_answer_of_tree bytes = has_one body_tree AreJudged bytes (IsPushOfTree bytes) same_body one_judged (push_says bytes) body_decided (λ h. h) (λ d json h. (d, json, h)) right
  where
    right : (ss : List Stream) → IsJson bytes (body_tree ss) → Has (IsPushOfTree bytes)
    right ss json = elim (bad_time_in ss) [
      | inl times ↦ elim (order_decided 10000 (entry_count ss)) [ inl many ↦ (Err TooManyEntries, λ e. cc, (ss, json, times, many)) | inr few ↦ (Ok (map batch_of ss), λ e. cc, (ss, json, times, few, refl)) ]
      | inr bad ↦ (Err (BadTime bad.0 bad.1), λ e. cc, (ss, json, bad.2))
    ]

pub one_answer : (bytes : List ℕ) → HasOne (IsPushAnswer bytes)
one_answer bytes = one_of_all bytes (IsPushOfTree bytes) (λ never. never) (one_answer_of_tree bytes)

-- a query and a trim are judged by whether their times are times
abbrev IsTimed : {X Y : Type 0} → (Y → Type 0) → (Y → X) → Y → Result X PushFault → Type 0
IsTimed HasTimes raw y r = (HasTimes y × (r ≡ Ok (raw y))) ⊎ ((¬ (HasTimes y)) × (r ≡ Err (BadTime 0 0)))

one_timed : {X Y : Type 0} (HasTimes : Y → Type 0) (raw : Y → X) (y : Y) (r s : Result X PushFault) → IsTimed HasTimes raw y r → IsTimed HasTimes raw y s → r ≡ s
one_timed HasTimes raw y r s (inl p) (inl q) = p.1 ∙ sym q.1
one_timed HasTimes raw y r s (inl p) (inr q) = absurd (q.0 p.0)
one_timed HasTimes raw y r s (inr p) (inl q) = absurd (p.0 q.0)
one_timed HasTimes raw y r s (inr p) (inr q) = p.1 ∙ sym q.1

abbrev HasQueryTimes : Query → Type 0
HasQueryTimes q = IsTime q.from × IsTime q.to

query_says : (bytes : List ℕ) (r : Result RawRead PushFault) → IsQueryOfTree bytes r → r ≢ Err Memory → Says query_tree (IsTimed HasQueryTimes raw_read_of) bytes r
query_says bytes (Ok b) a m = inr (inr (a.0, a.1, inl ((a.2, a.3), λ i. Ok (a.4 i))))
query_says bytes (Err NotJson) a m = inl (refl, a)
query_says bytes (Err WrongShape) a m = inr (inl (a.0, refl, a.1, a.2))
query_says bytes (Err (BadTime i j)) a m = inr (inr (a.0, a.1, inr (a.2, λ k. Err (BadTime (a.3 k) (a.4 k)))))
query_says bytes (Err TooManyEntries) a m = absurd a
query_says bytes (Err TooManyParts) a m = absurd a
query_says bytes (Err Memory) a m = absurd (m refl)

one_query_of_tree : (bytes : List ℕ) → HasOne (IsQueryOfTree bytes)
one_query_of_tree bytes = has_one query_tree (IsTimed HasQueryTimes raw_read_of) bytes (IsQueryOfTree bytes) same_query (one_timed HasQueryTimes raw_read_of) (query_says bytes) query_decided (λ h. h) (λ d json h. (d, json, h)) right
  where
    right : (q : Query) → IsJson bytes (query_tree q) → Has (IsQueryOfTree bytes)
    right q json = elim (both_decided (time_decided q.from) (time_decided q.to)) [ inl t ↦ (Ok (raw_read_of q), λ e. cc, (q, json, t.0, t.1, refl)) | inr h ↦ (Err (BadTime 0 0), λ e. cc, (q, json, h, refl, refl)) ]

pub one_query : (bytes : List ℕ) → HasOne (ReadsQuery bytes)
one_query bytes = one_of_all bytes (IsQueryOfTree bytes) (λ never. never) (one_query_of_tree bytes)

abbrev HasTrimTime : Trim → Type 0
HasTrimTime t = IsTime t.bound

trim_says : (bytes : List ℕ) (r : Result RawTrim PushFault) → IsTrimOfTree bytes r → r ≢ Err Memory → Says trim_tree (IsTimed HasTrimTime raw_trim_of) bytes r
trim_says bytes (Ok b) a m = inr (inr (a.0, a.1, inl (a.2, λ i. Ok (a.3 i))))
trim_says bytes (Err NotJson) a m = inl (refl, a)
trim_says bytes (Err WrongShape) a m = inr (inl (a.0, refl, a.1, a.2))
trim_says bytes (Err (BadTime i j)) a m = inr (inr (a.0, a.1, inr (a.2, λ k. Err (BadTime (a.3 k) (a.4 k)))))
trim_says bytes (Err TooManyEntries) a m = absurd a
trim_says bytes (Err TooManyParts) a m = absurd a
trim_says bytes (Err Memory) a m = absurd (m refl)

one_trim_of_tree : (bytes : List ℕ) → HasOne (IsTrimOfTree bytes)
one_trim_of_tree bytes = has_one trim_tree (IsTimed HasTrimTime raw_trim_of) bytes (IsTrimOfTree bytes) same_trim (one_timed HasTrimTime raw_trim_of) (trim_says bytes) trim_decided (λ h. h) (λ d json h. (d, json, h)) right
  where
    right : (t : Trim) → IsJson bytes (trim_tree t) → Has (IsTrimOfTree bytes)
    right t json = elim (time_decided t.bound) [ inl time ↦ (Ok (raw_trim_of t), λ e. cc, (t, json, time, refl)) | inr h ↦ (Err (BadTime 0 0), λ e. cc, (t, json, h, refl, refl)) ]

pub one_trim : (bytes : List ℕ) → HasOne (ReadsTrim bytes)
one_trim bytes = one_of_all bytes (IsTrimOfTree bytes) (λ never. never) (one_trim_of_tree bytes)
