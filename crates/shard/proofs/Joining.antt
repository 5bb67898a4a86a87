-- A judged call joins the group that is gathered, or leaves it as it was.
use Rattle.std.proofs.Common.{◌≡◌, ℕ, ◌+◌, false, List, [], ◌∷◌, ◌++◌, length, Some, None, refl, sym, ap, ◌∙◌, subst}
use Rattle.accept.specs.declared.call.Call.{Call}
use Rattle.accept.specs.declared.call.Reply.{Reply}
use Rattle.accept.specs.Histories.{key_of}
use Rattle.disk.specs.Sight.{Sight}
use Rattle.segment.specs.ShardPlaces.{ShardPlace}
use Rattle.segment.specs.Versions.{latest}
use Rattle.segment.specs.Spelling.{record_text, IsHere}
use Rattle.wal.specs.Logs.{FitsInUse}
use Rattle.history.specs.Handles.{Announced}
use Rattle.shard.specs.declared.first_jobs.Job.{Job}
use Rattle.shard.specs.declared.group.Group.{Group}
use Rattle.shard.specs.declared.judging.Judged.TheVariants.{Quiet, Changing}
use Rattle.shard.specs.declared.parts.Parts.{Parts}
use Rattle.streams.specs.Changes.{change_of}
use Rattle.streams.specs.Mapped.{Mapped}
use Rattle.shard.specs.Adding.{IsGroup, HasJoinedGroup}
use Rattle.shard.specs.Calls.{NeedsWrite, block_length, FitsBehind}
use Rattle.shard.specs.Gathering.{IsGathering}
use Rattle.shard.specs.Jobs.{AreLawful}
use Rattle.shard.specs.Judging.{MayBeJudged, IsUntouched, IsJudgedAs, IsJoined}
use Rattle.shard.specs.Queues.{Waiting, waiting_in, AreMatched}
use Rattle.shard.specs.Readies.{answer_of, IsUnchanged}
use Rattle.shard.specs.Shards.{IsShard}
use Rattle.shard.proofs.Beginnings.{its_change, one_long, group_none}
use Rattle.shard.proofs.Gathering.{gathering_quiet, gathering_changing}
use Rattle.shard.proofs.Replies.{is_here, stands_in, no_change}

-- without a call there is none that changes something
matched_none : (js : List Waiting) (ts : List Announced) → AreMatched js ts → js ≡ [] → ts ≡ []
matched_none [] [] m none = refl
matched_none [] (t ∷ ts) m none = absurd m
matched_none (j ∷ js) ts m none = absurd (cc)

module _ {D : Type 0} (sight : D → Sight) (follows : D → Type 0) (p new : Parts D) (frame : new ≡ record p { states = new.states; buffer = new.buffer }) where
  gathered_in : (behind : Group) → IsGathering sight follows p.log.wal p.book p.opened.value p.limits new.states new.buffer.items behind.judged.items behind.changing.items → IsGroup sight follows new behind
  gathered_in behind is = subst (λ (q : Parts D). IsGathering sight follows q.log.wal q.book q.opened.value q.limits new.states new.buffer.items behind.judged.items behind.changing.items) (sym frame) is

  pub none_joins : (group : Group) → IsGroup sight follows p group → IsUntouched p new → IsGroup sight follows new group
  none_joins group g same =
      gathered_in group (subst (λ (z : Mapped × List ℕ). IsGathering sight follows p.log.wal p.book p.opened.value p.limits z.0 z.1 group.judged.items group.changing.items) (λ i. (sym same.0 i, sym same.1 i)) g)

module _ {D : Type 0} (sight : D → Sight) (follows : D → Type 0) (p : Parts D) (group : Group) (j : Job) (g : IsGroup sight follows p group) where
  pub may_judge : AreLawful p.book.about p.book.shard (j ∷ []) → MayBeJudged p j.call
  may_judge lawful = record {
    idle = g.no_change;
    limits = g.shard.small_limits;
    numbers = lawful.2;
    here = subst (λ (o : ShardPlace). IsHere o (key_of j.call)) (sym (g.owner_is ∙ g.shard.states_owner)) (is_here p.book j.ticket.ask j.call lawful.0 lawful.1);
    capacity = g.shard.small_capacity;
    is_open = record { before = []; records = g.records; is = g.block_is.is_open };
  }

  -- what is shown of the first call of a group
  as_shard : group.judged.items ≡ [] → IsShard sight follows p.log.wal p.book p.opened.value p.states false p.limits
  as_shard none =
      group_none sight follows p.log.wal p.book p.opened.value p.limits p.states p.buffer.items group.judged.items group.changing.items g none (matched_none group.judged.items group.changing.items g.matched none)

  -- one that is quiet needs no write
  first_quiet : (r : Reply) → j.ticket.ask.call ≡ j.call → IsUnchanged p.limits p.log.wal.cap p.states.streams j.call r → group.judged.items ≡ [] → NeedsWrite p.book j.call → ⊥
  first_quiet r same unchanged none writes =
      let s = as_shard none in
      (no_change p.book p.limits p.states.streams p.log.wal.cap j.ticket.ask r s.same_limits (s.means refl) (sym s.marked) s.same_capacity
      (subst (λ (k : Call). IsUnchanged p.limits p.log.wal.cap p.states.streams k r) (sym same) unchanged)).quiet (subst (λ (k : Call). NeedsWrite p.book k) (sym same) writes)

  -- one whose record is in the block fits after the segment in use
  first_fits : (new : Parts D) (r : Reply) → IsJoined p.limits p.log.wal p.states.owner p.states.streams j.call new.states.streams p.buffer.items new.buffer.items r → group.judged.items ≡ [] → FitsBehind p.log.wal p.book j.call
  first_fits new r joined none =
      let s = as_shard none in
      let no_ts = matched_none group.judged.items group.changing.items g.matched none in
      let stands = stands_in p.book p.limits p.states.streams j.call s.same_limits (s.means refl) in
      let its = its_change p.limits p.states.streams j.call joined.changing in
      let sized : block_length (change_of j.call (answer_of p.limits p.states.streams j.call)) ≡ length p.buffer.items + length (record_text latest its.0) =
      ap block_length its.1 ∙ one_long its.0 p.buffer.items g.records (g.as_many ∙ ap length no_ts) g.block_is.is_open in
      subst (λ (q : Reply). FitsInUse p.log.wal (block_length (change_of j.call q))) stands.0
      (subst (λ (k : ℕ). FitsInUse p.log.wal k) (sym sized) (joined.fits its.0 (ap (λ (q : Reply). change_of j.call q) joined.replied ∙ its.1)))

  module _ (new : Parts D) (frame : new ≡ record p { states = new.states; buffer = new.buffer }) (behind : Group) (t : Announced) (r : Reply) (same : j.ticket.ask.call ≡ j.call) where
    pub quiet_joins : IsJudgedAs p j new (Quiet t r) → behind.judged.items ≡ group.judged.items ++ (Some t, r) ∷ [] → behind.changing.items ≡ group.changing.items → HasJoinedGroup sight follows p group j new behind
    quiet_joins judged pushed kept =
        let js = group.judged.items in
        let ts = group.changing.items in
        let added = subst (λ (z : Mapped × List ℕ × List Waiting × List Announced). IsGathering sight follows p.log.wal p.book p.opened.value p.limits z.0 z.1 z.2 z.3 × (waiting_in z.2 z.3 ≡ waiting_in js ts ++ (j.ticket, r) ∷ []))
        (λ i. (sym judged.1.0 i, sym judged.1.1 i, sym (pushed ∙ ap (λ (u : Announced). js ++ (Some u, r) ∷ []) judged.0) i, sym kept i))
        (gathering_quiet sight follows p.log.wal p.book p.opened.value p.limits p.states p.buffer.items js ts j.ticket j.call r g same judged.2) in
        record { group_is = gathered_in sight follows p new frame behind added.0; reply = r; waiting = added.1; fits = λ none writes. absurd (first_quiet r same judged.2 none writes) }

    pub changing_joins : IsJudgedAs p j new (Changing t r) → behind.judged.items ≡ group.judged.items ++ (None, r) ∷ [] → behind.changing.items ≡ group.changing.items ++ t ∷ [] → HasJoinedGroup sight follows p group j new behind
    changing_joins judged pushed kept =
        let js = group.judged.items in
        let ts = group.changing.items in
        let added = subst (λ (z : List Waiting × List Announced). IsGathering sight follows p.log.wal p.book p.opened.value p.limits new.states new.buffer.items z.0 z.1 × (waiting_in z.0 z.1 ≡ waiting_in js ts ++ (j.ticket, r) ∷ []))
        (λ i. (sym pushed i, sym (kept ∙ ap (λ (u : Announced). ts ++ u ∷ []) judged.0) i))
        (gathering_changing sight follows p.log.wal p.book p.opened.value p.limits p.states new.states p.buffer.items new.buffer.items js ts j.ticket j.call r g same judged.1 judged.2 judged.3) in
        record { group_is = gathered_in sight follows p new frame behind added.0; reply = r; waiting = added.1; fits = λ none writes. first_fits new r judged.3 none }
