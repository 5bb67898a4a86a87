-- The status of a push by all of its lines: unavailable goes before no room, no room before another refusal.
use Rattle.std.proofs.Common.{◌≡◌, ℕ, ◌+◌, Bool, true, false, ◌&&◌, ◌||◌, List, [], ◌∷◌, ◌++◌, refl, ap, ap₂, ◌∙◌}
use Rattle.std.proofs.Math.Bool.{or_assoc}
use Rattle.std.specs.Prelude.{if◌then◌else◌}
use Rattle.std.specs.List.{fold, list_any, list_all}
use Rattle.accept.specs.declared.call.Reply.TheVariants.{Verdict, NoRoom, Unavailable}
use Rattle.accept.specs.declared.outcome.Outcome.{Outcome}
use Rattle.accept.specs.declared.outcome.Outcome.TheVariants.{Repeat, Stored}
use Rattle.requests.specs.declared.status.Status.{Status}
use Rattle.requests.specs.declared.status.Status.TheVariants.{NoContent, BadRequest, InsufficientStorage, ServiceUnavailable}
use Rattle.answering.specs.Calls.{Came, Replied}
use Rattle.answering.specs.Lines.{stream_line, entry_front, outcome_lines, came_lines, lines_from, worse_of, is_taken, came_status, push_status}

abbrev pub is_unavailable : Came → Bool
is_unavailable (Replied Unavailable) = true
is_unavailable came = false

abbrev pub has_no_room : Came → Bool
has_no_room (Replied NoRoom) = true
has_no_room came = false

abbrev pub is_empty : List ℕ → Bool
is_empty [] = true
is_empty (x ∷ xs) = false

-- the status where a line says unavailable, where one says no room, and where there is no line
abbrev pub status_by : Bool → Bool → Bool → Status
status_by unavailable no_room none =
    if unavailable then ServiceUnavailable else if no_room then InsufficientStorage else if none then NoContent else BadRequest

-- entries without a line are those that were stored, now or before
taken_unsaid : (i j : ℕ) (os : List Outcome) → list_all is_taken os ≡ is_empty (outcome_lines i j os)
unfolding entry_front
taken_unsaid i j [] = refl
taken_unsaid i j (Repeat ∷ os) = taken_unsaid i (j + 1) os
taken_unsaid i j (Stored ∷ os) = taken_unsaid i (j + 1) os
taken_unsaid i j (o ∷ os) = refl

one_by : (i : ℕ) (c : Came) → came_status c ≡ status_by (is_unavailable c) (has_no_room c) (is_empty (came_lines i c))
unfolding stream_line
one_by i (Replied (Verdict os)) = ap (status_by false false) (taken_unsaid i 0 os)
one_by i (Replied NoRoom) = refl
one_by i c = refl

-- the worse of two by the lines of both
joined : (u n e v m f : Bool) → worse_of (status_by u n e) (status_by v m f) ≡ status_by (u || v) (n || m) (e && f)
joined true n e true m f = refl
joined true n e false true f = refl
joined true n e false false true = refl
joined false true e true m f = refl
joined false true e false true f = refl
joined false true e false false true = refl
joined false false true true m f = refl
joined false false true false true f = refl
joined false false true false false true = refl
joined false false false true m f = refl
joined false false false false true f = refl
joined false false false false false true = refl
joined u n e v m f = refl

empty_append : (e : Bool) (xs ys : List ℕ) → ((e && is_empty xs) && is_empty ys) ≡ (e && is_empty (xs ++ ys))
empty_append false xs ys = refl
empty_append true [] ys = refl
empty_append true (x ∷ xs) ys = refl

none_more : (u n e : Bool) → status_by u n e ≡ status_by (u || false) (n || false) (e && true)
none_more true n e = refl
none_more false true e = refl
none_more false false true = refl
none_more false false false = refl

all_by : (i : ℕ) (cames : List Came) (u n e : Bool) → fold (λ worst came. worse_of worst (came_status came)) (status_by u n e) cames
    ≡ status_by (u || list_any is_unavailable cames) (n || list_any has_no_room cames) (e && is_empty (lines_from i cames))
all_by i [] u n e = none_more u n e
all_by i (c ∷ cs) u n e =
    let says = is_empty (came_lines i c) in
    let one = ap (worse_of (status_by u n e)) (one_by i c) ∙ joined u n e (is_unavailable c) (has_no_room c) says in
    ap (λ s. fold (λ worst came. worse_of worst (came_status came)) s cs) one
    ∙ all_by (i + 1) cs (u || is_unavailable c) (n || has_no_room c) (e && says)
    ∙ ap₂ (λ v m. status_by v m ((e && says) && is_empty (lines_from (i + 1) cs))) (or_assoc u (is_unavailable c) (list_any is_unavailable cs)) (or_assoc n (has_no_room c) (list_any has_no_room cs))
    ∙ ap (status_by (u || list_any is_unavailable (c ∷ cs)) (n || list_any has_no_room (c ∷ cs))) (empty_append e (came_lines i c) (lines_from (i + 1) cs))

-- The status of a push: 503 where a line says unavailable, else 507 where one says no room, else 204 where there is no
-- line, else 400.
pub by_its_lines : (cames : List Came) → push_status cames ≡ status_by (list_any is_unavailable cames) (list_any has_no_room cames) (is_empty (lines_from 0 cames))
by_its_lines cames = all_by 0 cames false false true
