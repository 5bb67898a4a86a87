-- What stands at the front of bytes is one thing.
use Rattle.std.proofs.Common.{◌≡◌, ℕ, List, [], ◌∷◌, ◌++◌, length, take, drop, refl, sym, ap, ap₂, ◌∙◌, subst, arith, inl, inr, append_assoc, append-nil, ◌≤◌, length-append}
use Rattle.std.proofs.lemmas.List.{take-append-le, take-append-drop}
use Rattle.std.proofs.Math.Seq.{take-append_seam, drop-append_seam}
use Rattle.httparse.specs.Grammar.{RequestHead, print_request, ReadsRequest}
use Rattle.httparse.proofs.GrammarLemmas.{request_unique, ReadsRequest-append}
use Rattle.requests.specs.Fields.{fields_of}
use Rattle.requests.specs.Framings.{framing_of}
use Rattle.requests.specs.Streams.{Request, ReadsHead, ReadsMessage, ReadsRequests, HoldsNone, HoldsHead, body_length}
use Rattle.requests.specs.Laws.{HaveOneRequest, KeepsRequest, RefusesForGood, HoldsNoneIfCut, HaveOneSplit, GoOn}
use Rattle.requests.specs.declared.fixed.FixedAnswer.{FixedAnswer}
use Rattle.requests.specs.declared.framing.Framing.{Framing}
use Rattle.requests.specs.declared.framing.Framing.TheVariants.{Length, Refused}

bytes_of : Framing → ℕ
bytes_of (Length n) = n
bytes_of (Refused why) = 0

same_length : (m n : ℕ) → Length m ≡ Length n → m ≡ n
unfolding bytes_of
same_length m n e = ap bytes_of e

is_length : Framing → Type 0
is_length (Length n) = Unit {0}
is_length (Refused why) = ⊥

never_refused : (n : ℕ) (why : FixedAnswer) → Length n ≡ Refused why → ⊥
unfolding is_length
never_refused n why e = subst is_length e tt

-- equal wholes with fronts of equal length have equal fronts and rests
same_parts : (a b x y : List ℕ) → a ++ x ≡ b ++ y → length a ≡ length b → (a ≡ b) × (x ≡ y)
same_parts a b x y e long = (
  sym (take-append_seam a x) ∙ ap (take (length a)) e ∙ ap (λ k. take k (b ++ y)) long ∙ take-append_seam b y,
  sym (drop-append_seam a x) ∙ ap (drop (length a)) e ∙ ap (λ k. drop k (b ++ y)) long ∙ drop-append_seam b y,
)

pub one_request : (bytes : List ℕ) → HaveOneRequest bytes
one_request bytes r s x y first second =
    let (head, behind) = request_unique bytes r.head s.head (r.body ++ x) (s.body ++ y) first.head.reads second.head.reads in
    let lengths = same_length (length r.body) (length s.body) (sym first.framing ∙ ap (λ h. framing_of h.method (fields_of h)) head ∙ second.framing) in
    let (body, rest) = same_parts r.body s.body x y behind lengths in
    (ap₂ (λ h b. let r : Request = record { head = h; body = b } in r) head body, rest)

pub head_kept : (bytes more : List ℕ) (h : RequestHead) (rest : List ℕ) → ReadsHead bytes h rest → ReadsHead (bytes ++ more) h (rest ++ more)
head_kept bytes more h rest reads = record { reads = ReadsRequest-append bytes h rest more reads.reads; few = reads.few; short = reads.short }

pub keeps_request : (bytes more : List ℕ) → KeepsRequest bytes more
keeps_request bytes more r rest reads = record {
  head = subst (ReadsHead (bytes ++ more) r.head) (append_assoc r.body rest more) (head_kept bytes more r.head (r.body ++ rest) reads.head);
  framing = reads.framing;
}

-- the head is there already, if there are this many bytes
head_here : (bytes more : List ℕ) (h : RequestHead) (rest : List ℕ) → ReadsHead (bytes ++ more) h rest → length bytes ≡ 16384 → ReadsRequest bytes h (drop (length (print_request h)) bytes)
head_here bytes more h rest reads long =
    let n = length (print_request h) in
    let front = sym (take-append-le n bytes more (omega (arith, reads.short, long))) ∙ ap (take n) reads.reads.1 ∙ take-append_seam (print_request h) rest in
    (reads.reads.0, sym (take-append-drop n bytes) ∙ ap (λ l. l ++ drop n bytes) front)

pub refuses_for_good : (bytes more : List ℕ) → RefusesForGood bytes more
refuses_for_good bytes more r rest why reads (inl bad) = absurd (omega (arith, bad.2 more r.head (r.body ++ rest) reads.head.reads, reads.head.few))
refuses_for_good bytes more r rest why reads (inr (inl large)) =
    large.2.0 r.head (drop (length (print_request r.head)) bytes) (head_here bytes more r.head (r.body ++ rest) reads.head large.1)
refuses_for_good bytes more r rest why reads (inr (inr (h, behind, head, framing))) =
    let (same, _) = request_unique (bytes ++ more) r.head h (r.body ++ rest) (behind ++ more) reads.head.reads (head_kept bytes more h behind head).reads in
    never_refused (length r.body) why (sym reads.framing ∙ ap (λ k. framing_of k.method (fields_of k)) same ∙ framing)

pub none_if_cut : (bytes : List ℕ) → HoldsNoneIfCut bytes
none_if_cut bytes (inl unfinished) r rest reads = unfinished.2.0 r.head (r.body ++ rest) reads.head.reads
none_if_cut bytes (inr (h, behind, n, head, framing, short)) r rest reads =
    let (same, rests) = request_unique bytes r.head h (r.body ++ rest) behind reads.head.reads head.reads in
    let lengths = same_length (length r.body) n (sym reads.framing ∙ ap (λ k. framing_of k.method (fields_of k)) same ∙ framing) in
    absurd (omega (arith, lengths, ap length rests, length-append r.body rest, short))

pub one_split : (bytes : List ℕ) → HaveOneSplit bytes
one_split bytes [] [] x y first second = (refl, first.0 ∙ sym second.0)
one_split bytes [] (s ∷ ss) x y first ((mid, here, more), none) = absurd (subst HoldsNone first.0 first.1 s mid here)
one_split bytes (r ∷ rs) [] x y ((mid, here, more), none) second = absurd (subst HoldsNone second.0 second.1 r mid here)
one_split bytes (r ∷ rs) (s ∷ ss) x y ((mid, here, more), none) ((other, there, others), end) =
    let (same, rest) = one_request bytes r s mid other here there in
    let (tails, ends) = one_split mid rs ss x y (more, none) (subst (λ l. ReadsRequests l ss y) (sym rest) others, end) in
    (ap₂ (λ q qs. q ∷ qs) same tails, ends)

pub go_on : (bytes : List ℕ) → GoOn bytes
go_on bytes [] mid r rest before here = (rest, subst (λ l. ReadsMessage l r rest) before here, refl)
go_on bytes (s ∷ ss) mid r rest (next, first, others) here = (next, first, go_on next ss mid r rest others here)

-- a head and no more than its body
pub held : (bytes : List ℕ) (h : RequestHead) (behind : List ℕ) (n : ℕ) → ReadsHead bytes h behind → framing_of h.method (fields_of h) ≡ Length n → length behind ≤ n → HoldsHead bytes
held bytes h behind n head framing few = record {
  some = (λ none. none h behind head.reads);
  lawful = (λ over. absurd (omega (arith, over [] h behind (subst (λ b. ReadsRequest b h behind) (sym (append-nil bytes)) head.reads), head.few)));
  short = (λ k rest reads. let (same, _) = request_unique bytes h k behind rest head.reads reads in subst (λ x. length (print_request x) ≤ 16384) same head.short);
  few = (λ k rest reads.
      let (same, rests) = request_unique bytes h k behind rest head.reads reads in
      let lengths = ap (λ x. body_length (framing_of x.method (fields_of x))) (sym same) ∙ ap body_length framing in
      omega (arith, lengths, ap length rests, few));
}
