-- From the spans of a head to the request that stands in the buffer.
use Rattle.std.proofs.Common.{◌≡◌, ◌⊎◌, ℕ, ◌+◌, ◌-◌, ◌<◌, ◌≤◌, max, List, ◌++◌, length, take, drop, slice_range, sym, ap, ◌∙◌, subst, arith, inl, inr, length-append, length-drop, take-append-drop}
use Rattle.std.proofs.lemmas.List.{length-map, length-take, length-take-le, drop-drop}
use Rattle.httparse.specs.Grammar.{RequestHead}
use Rattle.httparse.specs.Spans.{IsRequestAt, IsRequestWithin, AreFieldsAt, header_bytes, name_and_value}
use Rattle.httparse.specs.declared.spans.HeaderSpan.{HeaderSpan}
use Rattle.httparse.specs.declared.spans.RequestSpans.{RequestSpans}
use Rattle.requests.specs.Fields.{fields_of}
use Rattle.requests.specs.Framings.{framing_of}
use Rattle.requests.specs.Judging.{SaysHead}
use Rattle.requests.specs.Streams.{ReadsHead, ReadsMessage, IsCut, HoldsHead, IsNext, MayStand, MayGrow, body_length}
use Rattle.requests.specs.declared.framing.Framing.TheVariants.{Length}
use Rattle.requests.specs.declared.incoming.Message.{Message}
use Rattle.requests.specs.declared.incoming.Next.TheVariants.{Whole, Unfinished}
use Rattle.requests.proofs.Unique.{head_kept, held}

few_fields : (buffer : List ℕ) (hs : List HeaderSpan) (spans : RequestSpans) (h : RequestHead) → AreFieldsAt buffer hs spans.headers h.fields → length h.fields ≤ length hs
few_fields buffer hs spans h are =
    let count = sym (length-map h.fields name_and_value) ∙ ap length (sym are) ∙ length-map (take spans.headers hs) (header_bytes buffer) in omega (arith, count, length-take spans.headers hs)

-- the head stands at the front
reads_head : (buffer : List ℕ) (hs : List HeaderSpan) (spans : RequestSpans) (h : RequestHead) → IsRequestAt buffer hs spans h → IsRequestWithin buffer hs spans
    → length hs ≡ 64 → spans.len ≤ 16384 → ReadsHead buffer h (drop spans.len buffer)
reads_head buffer hs spans h at within room short = record {
  reads = at.reads;
  few = omega (arith, few_fields buffer hs spans h at.fields);
  short = omega (arith, at.len, short);
}

-- the body that the head announces is there
pub whole : (buffer : List ℕ) (h : RequestHead) (len end : ℕ) → ReadsHead buffer h (drop len buffer) → len ≤ end → framing_of h.method (fields_of h) ≡ Length (end - len) → end ≤ length buffer
    → ReadsMessage buffer (record { head = h; body = slice_range buffer len end }) (drop end buffer)
whole buffer h len end reads ordered framing here =
    let n = end - len in
    let there : len + n ≡ end = omega arith in
    let rest = ap (λ k. drop k buffer) (sym there) ∙ sym (drop-drop n len buffer) in
    let split = sym (take-append-drop n (drop len buffer)) ∙ ap (λ l. take n (drop len buffer) ++ l) (sym rest) in
    let long : length (take n (drop len buffer)) ≡ n = length-take-le n (drop len buffer) (omega (arith, length-drop len buffer)) in
    record {
      head = subst (ReadsHead buffer h) split reads;
      framing = framing ∙ ap (λ k. Length k) (sym long);
    }

-- the body that the head announces is not all there
pub cut_in_body : (buffer : List ℕ) (h : RequestHead) (len end : ℕ) → ReadsHead buffer h (drop len buffer) → len ≤ end → framing_of h.method (fields_of h) ≡ Length (end - len) → len ≤ length buffer → length buffer < end
    → IsCut buffer
cut_in_body buffer h len end reads ordered framing within short = inr (h, drop len buffer, end - len, reads, framing, omega (arith, length-drop len buffer))

le_or_lt : (a b : ℕ) → (a ≤ b) ⊎ (b < a)
le_or_lt a b = grind arith

module _ (buffer : List ℕ) (hs : List HeaderSpan) (spans : RequestSpans) (h : RequestHead) (at : IsRequestAt buffer hs spans h) (within : IsRequestWithin buffer hs spans)
    (room : length hs ≡ 64) (short : spans.len ≤ 16384) (unread : MayStand buffer) (m : Message) (says : SaysHead h spans.len m) where
  head : ReadsHead buffer h (drop spans.len buffer)
  head = reads_head buffer hs spans h at within room short

  framing : framing_of h.method (fields_of h) ≡ Length (m.end - spans.len)
  framing = says.framing ∙ ap (λ k. Length (m.end - k)) says.start_is

  ordered : spans.len ≤ m.end
  ordered = omega (arith, says.ordered, says.start_is)

  -- where more is there than a head may have, it is no more than the message
  at_most : HoldsHead buffer → length buffer ≤ m.end
  at_most held =
      let few = held.few h (drop spans.len buffer) at.reads in
      let lengths = ap body_length framing in
      omega (arith, lengths, few, length-drop spans.len buffer, ordered, within.section.len_fits)

  pub leaves_little : length (drop m.end buffer) ≤ 16384
  leaves_little = elim (le_or_lt (length buffer) 16384) [ inl few ↦ omega (arith, few, length-drop m.end buffer) | inr many ↦ omega (arith, at_most (unread many), length-drop m.end buffer) ]

  pub next_whole : m.end ≤ length buffer → IsNext buffer (Whole m)
  next_whole here = (
    record { head = h; body = slice_range buffer spans.len m.end },
    whole buffer h spans.len m.end head ordered framing here,
    record {
      verdict = says.verdict;
      closes = says.closes;
      body = ap (λ k. slice_range buffer k m.end) says.start_is;
      ordered = says.ordered;
      within = here;
    },
    leaves_little,
  )

  grows_body : (n : ℕ) → length buffer < m.end → n ≡ max m.end 16384 - length buffer → MayGrow buffer n
  grows_body n cut most more few long =
      held (buffer ++ more) h (drop spans.len buffer ++ more) (m.end - spans.len) (head_kept buffer more h (drop spans.len buffer) head) framing
      (omega (arith, cut, most, few, long, length-append buffer more, length-append (drop spans.len buffer) more, length-drop spans.len buffer, ordered, within.section.len_fits))

  pub next_unfinished : (n : ℕ) → length buffer < m.end → n ≡ max m.end 16384 - length buffer → IsNext buffer (Unfinished n)
  next_unfinished n cut most = (
    inr (cut_in_body buffer h spans.len m.end head ordered framing within.section.len_fits cut),
    omega (arith, cut, most),
    grows_body n cut most,
  )
